-- The line of an item with lost changes: `NAME: OPERATOR: VALUES; OPERATOR: VALUES`, with one or more operators. If the item after the run has none of these values, `; in the end: VALUES` follows. The table t is the table before the run.
use Rattle.std.specs.Prelude.{ℕ, Bool, List, [], ◌++◌, Option, None, Some, if◌then◌else◌, codes, drop, flat_map, option_and_then}
use Rattle.crush_units.specs.declared.id.ItemId.{ItemId}
use Rattle.crush_units.specs.declared.id.ItemId.TheVariants.{Bucket}
use Rattle.crush_units.specs.Weight.{weight_text}
use Rattle.crush_model.specs.Table.{Row, name_of}
use Rattle.crush_edits.specs.Setting.{SettingData}
use Rattle.crush_items.specs.ItemData.{ItemData}
use Rattle.crush_since.specs.ItemWords.{class_or_none, type_word}
use Rattle.crush_since.specs.Stays.{place_in}
use Rattle.crush_conflicts.specs.declared.aspects.Aspects.{Aspects}
use Rattle.crush_conflicts.specs.Aspects.{is_some_aspect}
use Rattle.crush_conflicts.specs.Cases.{CaseData, FoundData, is_some_kept, lost_aspects, told_at_end, told_of}

-- the name of the bucket that holds an item. If the table t has the bucket, this is the bucket's name in t. Otherwise it is `holder`, which is the bucket's name in the table from which the item comes
abbrev pub name_or : Option (List ℕ) → Option (List ℕ) → Option (List ℕ)
name_or None holder = holder
name_or (Some name) holder = Some name

abbrev pub holder_name : List Row → Option ℕ → Option (List ℕ) → Option (List ℕ)
holder_name t parent holder = name_or (option_and_then (λ p. name_of t (Bucket p)) parent) holder

-- the place of an item: the name of the bucket that holds it, or a word for an item that no bucket holds
unfoldable pub place_word : List Row → ItemData → List ℕ
place_word t x = place_in x.view.id x.view.parent (holder_name t x.view.parent x.holder)

-- VALUES: `, ` and a value if `told` is true; otherwise nothing
abbrev pub value_if : Bool → List ℕ → List ℕ
value_if told text = if told then codes ", " ++ text else []

-- the values that an item has for the aspects in `told`, each after `, `
abbrev pub item_values : SettingData → List Row → Aspects → ItemData → List ℕ
item_values s t told x =
    value_if told.presence (codes "made") ++ value_if told.kind (codes "as " ++ type_word s x.view.id x.view.kind) ++ value_if told.place (codes "in " ++ place_word t x)
    ++ value_if told.weight (codes "weight " ++ weight_text x.view.weight) ++ value_if told.name (codes "called " ++ x.view.name) ++ value_if told.class (codes "class " ++ class_or_none x.view.class)

-- the values of an item that the table may not have. If the table doesn't have the item, the only value is `removed`, and only if `told` has the aspect `presence`. Before each value comes `, `
unfoldable pub values : SettingData → List Row → Aspects → Option ItemData → List ℕ
values s t told None = value_if told.presence (codes "removed")
values s t told (Some x) = item_values s t told x

-- texts without the separator before the first of them. A separator of two bytes comes before each of the texts
abbrev pub joined : List ℕ → List ℕ
joined text = drop 2 text

-- `; `, the operator's name, and the values that the operator's item has for the aspects in `told`
unfoldable pub operator_values : SettingData → List Row → Aspects → FoundData → List ℕ
operator_values s t told x = codes "; " ++ x.name ++ codes ": " ++ joined (values s t told x.item)

-- the text of `operator_values`, or nothing if `told` has no aspect
abbrev pub told_operator : SettingData → List Row → Aspects → FoundData → List ℕ
told_operator s t told x = if is_some_aspect told then operator_values s t told x else []

-- what the item's line shows for one operator; nothing if the line shows no value for this operator
abbrev pub operator_text : SettingData → List Row → CaseData → FoundData → List ℕ
operator_text s t c x = told_operator s t (told_of t c x) x

-- `; in the end: ` and the values of the item after the run, for the aspects that `told_at_end` gives
unfoldable pub end_values : SettingData → List Row → CaseData → List ℕ
end_values s t c = codes "; in the end: " ++ joined (values s t (told_at_end t c) c.after)

-- the text of `end_values`, or nothing if the item after the run has one of the values that the line shows for an operator
abbrev pub end_text : SettingData → List Row → CaseData → List ℕ
end_text s t c = if is_some_kept t c then [] else end_values s t c

-- LINE: the line of an item with a lost change
unfoldable pub line : SettingData → List Row → CaseData → List ℕ
line s t c = c.name ++ codes ": " ++ joined (flat_map (operator_text s t c) c.alone) ++ end_text s t c ++ codes "\n"

-- the line of an item; nothing if no change of the item is lost
abbrev pub case_line : SettingData → List Row → CaseData → List ℕ
case_line s t c = if is_some_aspect (lost_aspects t c) then line s t c else []
