use Rattle.std.proofs.Common.{◌≡◌, drop, true, false}
use Rattle.crush_input.specs.Joined.{begins_section_in}
use Rattle.crush_input.proofs.joined.begins_section.Given as goal

abbrev pub invariant-loop-byte : goal.invariant-loop-byte
invariant-loop-byte l = begins_section_in true false l.script ≡ begins_section_in l.starts l.comment (drop l.byte-index l.script)
