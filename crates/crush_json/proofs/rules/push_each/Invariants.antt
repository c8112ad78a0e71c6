use Rattle.std.proofs.Common.{◌≡◌, ◌++◌, List, take}
use Rattle.std.specs.Prelude.{flat_map}
use Rattle.crush_model.specs.Stands.{Stands}
use Rattle.crush_model.specs.Table.{Row}
use Rattle.crush_json.specs.RuleDocument.{rules_at}
use Rattle.crush_json.specs.Tokens.{tokens_of_all}
use Rattle.crush_json.proofs.rules.push_each.Given as goal

abbrev pub invariant-loop-id : goal.invariant-loop-id
invariant-loop-id g l = (t : List Row) → Stands l.map.forest t → l.out ≡ l.fn.out ++ flat_map (λ n. tokens_of_all (rules_at l.map.setting t n)) (take l.id-index l.ids)
