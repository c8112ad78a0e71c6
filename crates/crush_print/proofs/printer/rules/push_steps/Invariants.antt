use Rattle.std.proofs.Common.{◌≡◌, ◌++◌, List, take, map}
use Rattle.std.specs.Prelude.{flat_map}
use Rattle.crush_model.specs.Stands.{Stands}
use Rattle.crush_model.specs.Table.{Row}
use Rattle.crush_edits.specs.SettingSeen.{step_data}
use Rattle.crush_print.specs.RuleLines.{step_line}
use Rattle.crush_print.proofs.printer.rules.push_steps.Given as goal

abbrev pub invariant-loop-step : goal.invariant-loop-step
invariant-loop-step g l = (t : List Row) → Stands l.from.forest t → l.out.items ≡ l.fn.out.items ++ flat_map (step_line t) (map step_data (take l.step-index l.steps))
