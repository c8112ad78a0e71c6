use Rattle.std.proofs.Common.{◌≡◌, ◌++◌, List, take, map}
use Rattle.std.specs.Prelude.{flat_map}
use Rattle.crush_model.specs.Stands.{Stands}
use Rattle.crush_model.specs.Table.{Row}
use Rattle.crush_edits.specs.SettingSeen.{step_data}
use Rattle.crush_since.specs.Emptied.{emptied_by}
use Rattle.crush_since.specs.RulesSeen.{rule_change_data}
use Rattle.crush_since.specs.TakenSeen.{AreRight}
use Rattle.crush_since.proofs.since.emptied.push_steps.Given as goal

abbrev pub invariant-loop-step : goal.invariant-loop-step
invariant-loop-step g l = (t u : List Row) → Stands l.old.forest t → Stands l.new.forest u → AreRight l.identity t u l.fn.cache.items
    → AreRight l.identity t u l.cache.items × (map rule_change_data l.changes.items ≡ map rule_change_data l.fn.changes.items ++ flat_map (emptied_by l.identity t u l.rule) (map step_data (take l.step-index l.steps)))
