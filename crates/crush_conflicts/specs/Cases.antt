-- What the tables of a run say about one item, and which changes of this item are lost. The table t is the table before the run.
use Rattle.std.specs.Prelude.{ℕ, Bool, not, ◌&&◌, ◌||◌, List, Option, is_some}
use Rattle.std.specs.List.{list_any}
use Rattle.crush_model.specs.Table.{Row}
use Rattle.crush_items.specs.ItemData.{ItemData}
use Rattle.crush_conflicts.specs.declared.aspects.Aspects.{Aspects}
use Rattle.crush_conflicts.specs.Aspects.{is_some_aspect, of_both, of_either, of_first_alone, only_presence}
use Rattle.crush_conflicts.specs.Differences.{aspects_of, differences}

-- an operator's name, and what the operator's table says about an item. This is the table that results if only the operator's script runs
pub record FoundData : Type 0 where
  pub name : List ℕ
  pub item : Option ItemData

-- an item: the name with which the item's line begins, and what is said about the item by the table before the run, by each operator's table, and by the table after the run. If a table doesn't have the item, its value is none
pub record CaseData : Type 0 where
  pub name : List ℕ
  pub before : Option ItemData
  pub alone : List FoundData
  pub after : Option ItemData

-- CHANGES: the aspects that an operator changes: those in which the item in the operator's table differs from the item before the run
abbrev pub changes_of : List Row → CaseData → FoundData → Aspects
changes_of t c x = differences t x.item c.before

-- LOST: the aspects in which an operator has lost a change. In these aspects, the item in the operator's table differs both from the item before the run and from the item after the run
abbrev pub lost_of : List Row → CaseData → FoundData → Aspects
lost_of t c x = of_both (changes_of t c x) (differences t x.item c.after)

-- the aspects in which at least one of these operators has lost a change
abbrev pub lost_among : List Row → CaseData → List FoundData → Aspects
lost_among t c xs = record {
  presence = list_any (λ x. (lost_of t c x).presence) xs;
  kind = list_any (λ x. (lost_of t c x).kind) xs;
  place = list_any (λ x. (lost_of t c x).place) xs;
  weight = list_any (λ x. (lost_of t c x).weight) xs;
  name = list_any (λ x. (lost_of t c x).name) xs;
  class = list_any (λ x. (lost_of t c x).class) xs;
}

-- the aspects in which at least one operator has lost a change
unfoldable pub lost_aspects : List Row → CaseData → Aspects
lost_aspects t c = lost_among t c c.alone

-- whether the first table has an item, and the second table doesn't have it
abbrev pub is_gone : Option ItemData → Option ItemData → Bool
is_gone before after = is_some before && not (is_some after)

-- a set of aspects. If `gone` is true, the aspect `presence` is added to it
abbrev pub with_presence : Bool → Aspects → Aspects
with_presence gone a = record { presence = a.presence || gone; kind = a.kind; place = a.place; weight = a.weight; name = a.name; class = a.class }

-- TOLD of an operator: the aspects whose values the item's line shows for the operator. These are the aspects that the operator changes and in which at least one operator has lost a change. If the operator removes the item, they include the aspect `presence`
unfoldable pub told_of : List Row → CaseData → FoundData → Aspects
told_of t c x = with_presence (is_gone c.before x.item) (of_both (lost_aspects t c) (changes_of t c x))

-- the aspects whose values the item's line shows after `in the end`. These are the aspects that the item after the run has and in which at least one operator has lost a change. If the table after the run doesn't have the item, they include the aspect `presence`
unfoldable pub told_at_end : List Row → CaseData → Aspects
told_at_end t c = with_presence (not (is_some c.after)) (of_both (lost_aspects t c) (aspects_of c.after))

-- whether the item after the run has at least one of the values that the item's line shows for this operator
abbrev pub is_kept_of : List Row → CaseData → FoundData → Bool
is_kept_of t c x = is_some_aspect (of_first_alone (told_of t c x) (differences t x.item c.after))

-- whether the item after the run has at least one of the values that the item's line shows for any operator
abbrev pub is_some_kept : List Row → CaseData → Bool
is_some_kept t c = list_any (is_kept_of t c) c.alone
