use Rattle.std.proofs.Common.{◌≡◌, ◌++◌, map, take}
use Rattle.crush_reasons.specs.Shown.{shown_byte}
use Rattle.crush_reasons.proofs.shown.push_shown.Given as goal

abbrev pub invariant-loop-byte : goal.invariant-loop-byte
invariant-loop-byte l = l.text.items ≡ l.fn.text.items ++ map shown_byte (take l.byte-index l.bytes)
