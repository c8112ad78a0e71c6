use Rattle.crush_history.proofs.Made.{made_guarded, made_stale}
use Rattle.crush_history.proofs.making.make_guarded.Goals as goal

pub returns-then-seen-count-clause-made : goal.returns-then-seen-count-clause-made
returns-then-seen-count-clause-made g c = search made_stale

pub returns-clause-made : goal.returns-clause-made
returns-clause-made g c = search made_guarded
