-- The history lines of the calls in which the location of an edit created a bucket, with hints. A hint names an item that the operator may have meant, because its name is similar to the name of the created bucket.
use Rattle.std.specs.Prelude.{ℕ, ◌+◌, ◌-◌, ◌&&◌, Bool, not, List, [], ◌∷◌, ◌++◌, Option, None, Some, codes, flat_map, if◌then◌else◌, nat_le, slice_index_or}
use Rattle.std.specs.List.{list_any}
use Rattle.std.specs.Option.{option_map_or}
use Rattle.crush_model.specs.Table.{Row, is_named}
use Rattle.crush_edits.specs.declared.edit.Edit.{Edit}
use Rattle.crush_edits.specs.declared.location.Pair.{Pair}
use Rattle.crush_edits.specs.Answer.{meets}
use Rattle.crush_edits.specs.Setting.{SettingData, kind_number}
use Rattle.crush_ceph.specs.ForCeph.{table_after_edit}
use Rattle.crush_history.specs.History.{EntryData}
use Rattle.crush_history.specs.HistoryText.{entry_text}
use Rattle.crush_reasons.specs.declared.near.TheConstants.{MOST_LOOKS}
use Rattle.crush_reasons.specs.Made.{buckets_made, makes_more}
use Rattle.crush_reasons.specs.Near.{near_name}
use Rattle.crush_reasons.specs.Replay.{changing_edits, table_after_entry}
use Rattle.crush_reasons.specs.Shown.{reason_line}
use Rattle.crush_reasons.specs.Way.{asked_reason, location_of}

-- whether the type of the pair q is the type of the pair p, or has a lower number than the type of p; false if the map doesn't have one of the two types
abbrev pub is_up_to : SettingData → Pair → Pair → Bool
is_up_to s p q = meets (λ k. meets (λ j. nat_le j k) (kind_number s q.kind)) (kind_number s p.kind)

-- whether the pair q keeps an edit from creating a bucket for the pair p of the same location: the table has an item with the name in q, and `is_up_to` holds for p and q. An edit reads the pairs of its location from the lowest type upward, and stops at the first name that the table has
abbrev pub ends_before : SettingData → List Row → Pair → Pair → Bool
ends_before s t p q = is_named t q.name && is_up_to s p q

-- CREATED: whether an edit with the location l, if it isn't refused, creates a bucket for the pair p of this location
abbrev pub is_created : SettingData → List Row → List Pair → Pair → Bool
is_created s t l p = not (list_any (ends_before s t p) l)

-- the hint for a created bucket with the name n, if a similar name was found; otherwise nothing
abbrev pub hint_line : List ℕ → Option (List ℕ) → List ℕ
hint_line n None = []
hint_line n (Some near) = reason_line (asked_reason n (codes " was created") (Some near))

-- the hint for a pair of a location, if an edit creates a bucket for this pair, and the table has an item with a similar name; otherwise nothing
abbrev pub pair_hint : SettingData → List Row → List Pair → Pair → List ℕ
pair_hint s t l p = if is_created s t l p then hint_line p.name (near_name t p.name) else []

-- the hints for all pairs of a location, in the order of the pairs
abbrev pub location_hints : SettingData → List Row → List Pair → List ℕ
location_hints s t l = flat_map (pair_hint s t l) l

-- HINTS for an edit that is applied to this table: the hints for the location of the edit. An edit without a location, such as `add-bucket`, has no hints
abbrev pub edit_hints : SettingData → List Row → Edit → List ℕ
edit_hints s t e = option_map_or (location_hints s t) (location_of e) []

-- the hints for edits that are applied one after the other. The hints for each edit depend on the table just before this edit
unfoldable pub edits_hints : SettingData → List Row → List Edit → List ℕ
edits_hints s t [] = []
edits_hints s t (e ∷ es) = edit_hints s t e ++ edits_hints s (table_after_edit s t e) es

-- the history line of an entry if its call created more buckets than it has `add-bucket` commands; otherwise nothing. If `looks` is true, so that the map is searched for similar names, the hints for the edits of the call follow after the line
abbrev pub created_line : Bool → SettingData → List Row → ℕ → List ℕ → EntryData → List ℕ
created_line looks s t number operator e =
    if makes_more e then entry_text number operator e ++ (if looks then edits_hints s t (changing_edits e) else []) else []

-- LOOKS LEFT after the entry e: the number of created buckets for which the map may still be searched for a similar name. Before e, this number was `left`. There is a limit because each search goes through all names of the map
abbrev pub looks_after : ℕ → EntryData → ℕ
looks_after left e = if makes_more e then left - buckets_made e.reply else left

-- whether the number of searches that are left is at least the number of buckets that the call of the entry created
abbrev pub has_looks : ℕ → EntryData → Bool
has_looks left e = nat_le (buckets_made e.reply) left

-- the lines and hints (`created_line`) for all entries of a history, if the map had this setting and this table before the history. `number` is the number of the first entry, and `left` is the number of created buckets for which the map may be searched
unfoldable pub created_behind : SettingData → List Row → List (List ℕ) → ℕ → ℕ → List EntryData → List ℕ
created_behind s t names number left [] = []
created_behind s t names number left (e ∷ h) =
    created_line (has_looks left e) s t number (slice_index_or names e.operator []) e
    ++ created_behind s (table_after_entry s t e) names (number + 1) (looks_after left e) h

-- CREATED TEXT: the lines and hints for a whole history
abbrev pub created_text : SettingData → List Row → List (List ℕ) → List EntryData → List ℕ
created_text s t names h = created_behind s t names 1 MOST_LOOKS h
