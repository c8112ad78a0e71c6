use Rattle.std.proofs.Common.{◌≡◌, ◌≤◌, take}
use Rattle.crush_run.specs.Lost.{line_count}
use Rattle.crush_run.proofs.lost.count_lines.Given as goal

abbrev pub invariant-loop-byte : goal.invariant-loop-byte
invariant-loop-byte l = record {
  count : l.count ≡ line_count (take l.byte-index l.text);
  few : l.count ≤ l.byte-index;
}
