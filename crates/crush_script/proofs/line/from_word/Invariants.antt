use Rattle.std.proofs.Common.{◌≡◌, ◌≤◌, length}
use Rattle.crush_script.specs.Lines.{behind_words}
use Rattle.crush_script.proofs.line.from_word.Given as goal

abbrev pub invariant-loop-done : goal.invariant-loop-done
invariant-loop-done l = record {
  behind : l.rest ≡ behind_words l._done l.text;
  within : length l.rest ≤ length l.text;
}
