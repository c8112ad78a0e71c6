use Rattle.std.proofs.Common.{◌≡◌, ◌++◌, List, drop}
use Rattle.std.specs.Prelude.{flat_map}
use Rattle.crush_model.specs.Stands.{Stands}
use Rattle.crush_model.specs.Table.{Row}
use Rattle.crush_reasons.specs.Created.{pair_hint}
use Rattle.crush_reasons.proofs.created.push_location_hints.Given as goal

-- the hints so far were appended, and those of the pairs that are left come after them
abbrev pub invariant-loop-pair : goal.invariant-loop-pair
invariant-loop-pair l = (t : List Row) → Stands l.map.forest t
    → l.fn.text.items ++ flat_map (pair_hint l.map.setting t l.pairs) l.pairs ≡ l.text.items ++ flat_map (pair_hint l.map.setting t l.pairs) (drop l.pair-index l.pairs)
