use Rattle.std.proofs.Common.{◌≡◌, ◌+◌, ◌<◌, ◌≤◌, false, length}
use Rattle.crush_script.specs.Lines.{lines, begins_section}
use Rattle.crush_script.specs.Sections.{sections_data, no_sections, with_lines}
use Rattle.crush_script.proofs.sections.read_sections.Given as goal

abbrev pub invariant-loop-rest : goal.invariant-loop-rest
invariant-loop-rest l = record {
  steps : with_lines l.fn.first no_sections (lines l.fn.text) ≡ with_lines l.number (sections_data l.sections) (lines l.rest);
  numbered : l.number + length l.rest ≤ l.fn.first + length l.fn.text;
  begun : 0 < length l.rest → begins_section l.rest ≡ false → 0 < length l.sections.scripts.items;
}

abbrev pub decreases-loop-rest : goal.decreases-loop-rest
decreases-loop-rest l = length l.rest
