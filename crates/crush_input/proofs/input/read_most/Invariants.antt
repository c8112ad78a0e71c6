use Rattle.std.proofs.Common.{◌≤◌, ◌<◌, length}
use Rattle.std.specs.Io.KnownBytes.{Consumes}
use Rattle.crush_input.proofs.input.read_most.Given as goal

abbrev pub invariant-loop : goal.invariant-loop
invariant-loop g l = record {
  few : length l.bytes.items < l.most;
  some : l.counter ≤ length l.bytes.items;
  taken : Consumes (g.R.Read.remaining l.fn.reader) (g.R.Read.remaining l.reader) l.bytes.items;
}
