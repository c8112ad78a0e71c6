-- Sets of aspects of an item.
use Rattle.std.specs.Prelude.{Bool, true, false, not, ◌&&◌, ◌||◌}
use Rattle.crush_conflicts.specs.declared.aspects.Aspects.{Aspects}

abbrev pub no_aspects : Aspects
no_aspects = record { presence = false; kind = false; place = false; weight = false; name = false; class = false }

-- the set that has only the aspect `presence`, which is about whether a table has the item. This is the set of aspects of an item that a table doesn't have
abbrev pub only_presence : Aspects
only_presence = record { presence = true; kind = false; place = false; weight = false; name = false; class = false }

-- the aspects that both sets have
abbrev pub of_both : Aspects → Aspects → Aspects
of_both a b = record { presence = a.presence && b.presence; kind = a.kind && b.kind; place = a.place && b.place; weight = a.weight && b.weight; name = a.name && b.name; class = a.class && b.class }

-- the aspects that at least one of the two sets has
abbrev pub of_either : Aspects → Aspects → Aspects
of_either a b = record { presence = a.presence || b.presence; kind = a.kind || b.kind; place = a.place || b.place; weight = a.weight || b.weight; name = a.name || b.name; class = a.class || b.class }

-- the aspects that the first set has, and the second set doesn't have
abbrev pub of_first_alone : Aspects → Aspects → Aspects
of_first_alone a b = record { presence = a.presence && not b.presence; kind = a.kind && not b.kind; place = a.place && not b.place; weight = a.weight && not b.weight; name = a.name && not b.name; class = a.class && not b.class }

-- whether a set has at least one aspect
abbrev pub is_some_aspect : Aspects → Bool
is_some_aspect a = ((((a.presence || a.kind) || a.place) || a.weight) || a.name) || a.class
