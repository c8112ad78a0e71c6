-- What has changed from one map to another as a JSON value. The members of each object are sorted by name.
use Rattle.std.specs.Prelude.{ℕ, Bool, not, List, [], ◌∷◌, Option, Some, None, codes}
use Rattle.std.specs.Cmp.Lexicographic.{pointwise}
use Rattle.crush_units.specs.declared.id.ItemId.{ItemId}
use Rattle.crush_model.specs.Table.{Row, total}
use Rattle.crush_compare.specs.AllIds.{all_ids}
use Rattle.crush_compare.specs.PartIds.{part_ids}
use Rattle.crush_since.specs.Settings.{same_kinds, same_tunable}
use Rattle.crush_since.specs.Since.{PlainMap}
use Rattle.crush_since.specs.Tallies.{tally_of}
use Rattle.crush_since.specs.declared.since.tally.Tally.{Tally}
use Rattle.serde_json.specs.Data.{Data, boolean, object, Members, member, no_members}
use Rattle.crush_json.specs.ChangeDocument.{changes_at}
use Rattle.crush_json.specs.Document.{document_of}
use Rattle.crush_json.specs.RuleChanges.{class_change_documents, rule_change_documents}
use Rattle.crush_json.specs.Values.{natural, list}

-- the ids of all items of both maps; if a part is given, only the ids of the part's item and of all items below it in either map
abbrev pub ids_of : Option ItemId → List Row → List Row → List ItemId
ids_of None t u = all_ids t u
ids_of (Some i) t u = part_ids t u i

-- the values for the items about which the two maps say different things, in the order of the items' ids
unfoldable pub change_documents : Option ItemId → PlainMap → PlainMap → List Data
change_documents under old new = changes_at old new (ids_of under old.table new.table)

-- for each way in which an item can differ, the number of items that differ in this way
unfoldable pub counts_document : Tally → Data
counts_document n =
    object (member (codes "class") (natural n.reclassed) (member (codes "made") (natural n.made) (member (codes "moved") (natural n.moved)
    (member (codes "removed") (natural n.removed) (member (codes "renamed") (natural n.renamed) (member (codes "weight") (natural n.reweighed) no_members))))))

-- the value which says whether a part of the settings, such as the tunables, differs between the two maps. `same` says whether this part is the same
abbrev pub differ : Bool → Data
differ same = boolean (not same)

-- the total weights of all devices that buckets hold: first the total weight in the old map, and then the total weight in the new map
abbrev pub totals_document : ℕ → ℕ → Data
totals_document before after = list (natural before ∷ natural after ∷ [])

-- the members `ms` with four members before them, which are for the rules, the total weights, the tunables and the types
abbrev pub with_last : PlainMap → PlainMap → Members → Members
with_last old new ms =
    member (codes "rules") (list (rule_change_documents old new)) (member (codes "total") (totals_document (total old.table) (total new.table))
    (member (codes "tunables") (differ (pointwise same_tunable old.setting.tunables new.setting.tunables)) (member (codes "types") (differ (same_kinds old.setting new.setting)) ms)))

-- SINCE DOCUMENT: what has changed from the old map to the new map. If a part is given, the value has only the items of the part that differ. Otherwise the value has all items that differ, the classes and the rules that differ, the numbers of items that differ in each way, the total weights, and whether the tunables and the types differ
unfoldable pub since_document : Option ItemId → PlainMap → PlainMap → Data
since_document None old new =
    object (member (codes "classes") (list (class_change_documents old new)) (member (codes "counts") (counts_document (tally_of old.table new.table (all_ids old.table new.table)))
    (member (codes "items") (list (change_documents None old new)) (with_last old new no_members))))
since_document (Some i) old new = object (member (codes "items") (list (change_documents (Some i) old new)) no_members)

-- `{"history":H,"since":S}`, or without a history `{"since":S}`
unfoldable pub document_of_since : Option Data → Data → Data
document_of_since history since = document_of (codes "since") history since
