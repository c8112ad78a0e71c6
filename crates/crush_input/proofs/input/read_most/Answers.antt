use Rattle.std.proofs.Common.{arith, rules, length, take, ◌+◌, ◌≤◌}
use Rattle.std.proofs.lemmas.Result.{err_from_is_err_and}
use Rattle.crush_input.proofs.Consuming.{Consumes-piece, Consumes-no_more, prefix_of_all, all_of_it, most_kept, most_then}
use Rattle.crush_input.proofs.input.read_most.Goals as goal

pub returns-in-Ok-eq0-clause-bytes : goal.returns-in-Ok-eq0-clause-bytes
returns-in-Ok-eq0-clause-bytes g c =
    let b = c.in-Ok-eq0.ensures.bytes in
    all_of_it (g.R.Read.remaining c.args.reader.now) (g.R.Read.remaining c.read.new.self) c.loop.bytes.items c.args.most
    (Consumes-no_more _ _ _ _ c.read.new.buf _ c.loop.invariant.taken b.0 c.in-Ok-eq0.field-0-test)
    (b.1 c.in-Ok-eq0.field-0-test (search rules)) (omega (arith, c.loop.invariant.few))

pub returns-then-len-most-clause-bytes : goal.returns-then-len-most-clause-bytes
returns-then-len-most-clause-bytes g c =
    prefix_of_all (g.R.Read.remaining c.args.reader.now) (g.R.Read.remaining c.read.new.self) c.extend_from_slice.new.self.items c.args.most
    (Consumes-piece _ _ _ _ _ _ c.loop.invariant.taken c.in-Ok.ensures.bytes.0 c.in_ok-extend_from_slice-in-Ok.ensures.items) (omega arith)

pub loop-preserved : goal.loop-preserved
loop-preserved g c = record {
  few = search rules;
  some = search rules;
  taken = Consumes-piece _ _ _ _ _ _ c.loop.invariant.taken c.in-Ok.ensures.bytes.0 c.in_ok-extend_from_slice-in-Ok.ensures.items;
}

-- if the function fails, its contract says nothing about the bytes
pub returns-in-Err-clause-bytes : goal.returns-in-Err-clause-bytes
returns-in-Err-clause-bytes g c = tt

pub returns-in-Err-clause-taken : goal.returns-in-Err-clause-taken
returns-in-Err-clause-taken g c = most_kept _ _ _ _ c.loop.bytes.items c.loop.invariant.taken c.in-Err.ensures.bytes (omega (arith, c.loop.invariant.few))

pub returns-in-Ok-eq0-clause-consumed : goal.returns-in-Ok-eq0-clause-consumed
returns-in-Ok-eq0-clause-consumed g c =
    Consumes-no_more _ _ _ _ c.read.new.buf _ c.loop.invariant.taken c.in-Ok-eq0.ensures.bytes.0 c.in-Ok-eq0.field-0-test

pub returns-then-len-most-clause-consumed : goal.returns-then-len-most-clause-consumed
returns-then-len-most-clause-consumed g c =
    Consumes-piece _ _ _ _ _ _ c.loop.invariant.taken c.in-Ok.ensures.bytes.0 c.in_ok-extend_from_slice-in-Ok.ensures.items

-- if there is no memory for a piece that was read, then its bytes have been taken, too
pub returns-in_err-extend_from_slice-in-Ok-clause-taken : goal.returns-in_err-extend_from_slice-in-Ok-clause-taken
returns-in_err-extend_from_slice-in-Ok-clause-taken g c =
    let p = err_from_is_err_and c.from_residual.result c.from_residual.ensures.1 in
    let few : length c.loop.bytes.items + length (take c.in-Ok.count c.read.new.buf) ≤ c.args.most = search rules in
    rw p.1 (most_then _ _ _ _ c.loop.bytes.items _ c.loop.invariant.taken c.in-Ok.ensures.bytes.0 few)
