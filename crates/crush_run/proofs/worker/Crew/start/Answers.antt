use denote.Exit.{no}
use denote.Param.Send.{param_send, arg_send}
use Rattle.crush_run.proofs.Crossing.{worker_send}
use Rattle.crush_run.proofs.worker.Crew.start.Goals as goal

pub spawn_with-requires-send-F : goal.spawn_with-requires-send-F
spawn_with-requires-send-F g c κs within = param_send _ _ (arg_send _ no _ (worker_send g.row.R g.row.G g.row.N g.N.Desk g.N.Ledger _ _ _ _ c.type_bounds.sync-R c.type_bounds.sync-G _))
