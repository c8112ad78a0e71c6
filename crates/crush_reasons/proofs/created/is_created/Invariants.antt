use Rattle.std.proofs.Common.{◌≡◌, List, drop}
use Rattle.std.specs.List.{list_any}
use Rattle.crush_model.specs.Stands.{Stands}
use Rattle.crush_model.specs.Table.{Row}
use Rattle.crush_reasons.specs.Created.{ends_before}
use Rattle.crush_reasons.proofs.created.is_created.Given as goal

-- no pair so far ends the route before the bucket: the pairs that are left decide
abbrev pub invariant-loop-other : goal.invariant-loop-other
invariant-loop-other l = (t : List Row) → Stands l.map.forest t
    → list_any (ends_before l.map.setting t l.pair) l.pairs ≡ list_any (ends_before l.map.setting t l.pair) (drop l.other-index l.pairs)
