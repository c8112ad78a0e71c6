use Rattle.crush_plan.proofs.Going.{goes_then, goes_then_ok}
use Rattle.crush_plan.proofs.search.build_edits.Goals as goal

pub returns : goal.returns
returns g c = goes_then_ok _ _ _ c.set_classes.result (goes_then _ _ _ c.in_ok-remove_all.ensures (goes_then _ _ _ c.in_ok-set_weights.ensures (goes_then _ _ _ c.in_ok-swap_all.ensures (goes_then _ _ _ c.in_ok-rename_all.ensures (goes_then _ _ _ c.in_ok-move_all.ensures (goes_then _ _ _ c.in_ok-remove_all-2.ensures (goes_then _ _ _ c.in_ok-set_weights-2.ensures c.in_ok-add_devices.ensures))))))) c.set_classes.ensures
