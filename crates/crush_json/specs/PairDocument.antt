-- The value for a pair. A pair has what each of two maps says about an item. The definitions here get the id of the item from the pair (`pair_id`).
use Rattle.std.specs.Prelude.{ℕ, List, [], ◌∷◌, Option, Some, None, codes, flat_map, is_some, if◌then◌else◌, map}
use Rattle.std.specs.Option.{option_map}
use Rattle.crush_units.specs.declared.id.ItemId.{ItemId}
use Rattle.crush_units.specs.declared.id.ItemId.TheVariants.{Device, Bucket}
use Rattle.crush_units.specs.Id.{item_number}
use Rattle.crush_model.specs.Items.{ShadowData}
use Rattle.crush_edits.specs.Setting.{SettingData}
use Rattle.crush_items.specs.Entries.{EntryData}
use Rattle.crush_items.specs.ItemData.{ItemData}
use Rattle.crush_compare.specs.Comparison.{pair_entries}
use Rattle.crush_compare.specs.IdPairs.{EntryPair, pair_difference}
use Rattle.crush_compare.specs.declared.comparison.Comparison.{Comparison}
use Rattle.crush_compare.specs.declared.difference.Report.TheVariants.{Changes}
use Rattle.crush_compare.specs.declared.identity.Identity.{Identity}
use Rattle.json.specs.Token.{Token}
use Rattle.serde_json.specs.Data.{Data, object, no_members}
use Rattle.crush_json.specs.ChangeDocument.{seen_document, seen_if}
use Rattle.crush_json.specs.ClassIds.{class_ids_document}
use Rattle.crush_json.specs.Tokens.{member_tokens}
use Rattle.crush_json.specs.Values.{whole_if}

-- the id of the item in the new map; the id of the item in the old map if the new map doesn't have the item
abbrev pub either_id : Option ItemData → Option ItemData → Option ItemId
either_id before (Some b) = Some b.view.id
either_id (Some a) None = Some a.view.id
either_id None None = None

-- the id of a pair's item
abbrev pub pair_id : EntryPair → Option ItemId
pair_id e = either_id (option_map (λ (x : EntryData). x.item) e.before) (option_map (λ (x : EntryData). x.item) e.after)

-- the value for a pair: the id of the pair's item, what the new map says about the item, and what the old map says about it
unfoldable pub pair_document : SettingData → SettingData → EntryPair → Data
pair_document s p e = object (whole_if (codes "id") (option_map item_number (pair_id e)) (seen_if (codes "is") p e.after (seen_if (codes "was") s e.before no_members)))

-- the value for a pair, as a list. The list is empty if both maps say the same about the pair's item
abbrev pub pair_change : Identity → SettingData → SettingData → EntryPair → List Data
pair_change by s p e = if is_some (pair_difference by Changes s p e) then pair_document s p e ∷ [] else []

-- the values for the pairs of a comparison, in the order of the pairs. A pair has a value only if the two maps say different things about the pair's item (`pair_change`)
abbrev pub pair_changes : {A B : _} → Comparison A B → List Data
pair_changes both = flat_map (λ p. pair_change both.identity both.old.map.now.setting both.new.map.now.setting (pair_entries both p)) both.pairs.items

-- an item with its class ids
abbrev pub seen_entry : ItemData → List ShadowData → EntryData
seen_entry x ids = record { item = x; class_ids = ids }

-- TOKENS of the member with a bucket's class ids; no tokens for a device
abbrev pub class_ids_tokens_if : ItemId → List ShadowData → List Token
class_ids_tokens_if (Device d) xs = []
class_ids_tokens_if (Bucket b) xs = member_tokens (codes "class_ids") (class_ids_document xs)

-- the tokens of a member with what a map says about an item; no tokens if the map doesn't have the item
abbrev pub seen_tokens_if : List ℕ → SettingData → Option EntryData → List Token
seen_tokens_if name s None = []
seen_tokens_if name s (Some e) = member_tokens name (seen_document s e)
