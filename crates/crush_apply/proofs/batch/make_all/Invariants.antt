use Rattle.std.specs.Prelude.{◌≡◌, ◌<◌, ◌≤◌, drop, length, vec_len, vec_capacity}
use Rattle.crush_model.specs.Forest.{rows_of}
use Rattle.crush_edits.specs.Fits.{Fits}
use Rattle.crush_apply.specs.Batched.{IsBegun, AreDone}
use Rattle.crush_apply.specs.UndoLog.{RollsBack}
use Rattle.crush_apply.proofs.batch.make_all.Given as goal

abbrev pub invariant-loop-requested : goal.invariant-loop-requested
invariant-loop-requested g l = record {
  begun : IsBegun l.setting l.edits l.fn.hierarchy (drop l.requested-index l.edits) l.dones l.hierarchy;
  fits : Fits l.setting (rows_of l.hierarchy);
  counts : AreDone l.requested-index l.dones;
  back : l.requested-index < length l.edits → RollsBack l.log.items l.hierarchy l.fn.hierarchy;
  len : vec_len l.log ≤ l.requested-index;
  capacity : vec_capacity l.log ≡ vec_capacity l.fn.log;
}
