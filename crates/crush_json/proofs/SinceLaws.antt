-- The tokens of what has changed.
use Rattle.std.proofs.Common.{◌≡◌, ℕ, ℤ, Bool, true, false, List, [], ◌∷◌, ◌++◌, Option, Some, None, refl, sym, ap, ◌∙◌, append_assoc, map}
use Rattle.std.specs.Prelude.{codes, flat_map, is_some, if◌then◌else◌}
use Rattle.std.specs.Option.{option_map, option_map_or}
use Rattle.std.proofs.lemmas.List.Folds.{flat_map-map}
use Rattle.json.specs.Token.{Token, begin_object, end_object}
use Rattle.crush_units.specs.declared.id.ItemId.{ItemId}
use Rattle.crush_units.specs.declared.id.ItemId.TheVariants.{Device, Bucket}
use Rattle.crush_units.specs.Alg.{alg_text}
use Rattle.crush_units.specs.Id.{item_number}
use Rattle.crush_model.specs.Items.{ShadowData}
use Rattle.crush_model.specs.Table.{Row, row_of}
use Rattle.crush_model.proofs.Moved.{row_id}
use Rattle.crush_edits.specs.Setting.{SettingData}
use Rattle.crush_items.specs.Entries.{EntryData, row_entry}
use Rattle.crush_items.specs.ItemData.{ItemData, row_item}
use Rattle.crush_compare.specs.AllIds.{all_ids}
use Rattle.crush_compare.specs.Comparison.{pair_entries}
use Rattle.crush_compare.specs.Difference.{difference_by_ids, id_difference, same_class_ids}
use Rattle.crush_compare.specs.IdPairs.{EntryPair, id_entries}
use Rattle.crush_compare.specs.PartIds.{part_ids}
use Rattle.crush_compare.specs.declared.comparison.Comparison.{Comparison}
use Rattle.crush_compare.specs.declared.difference.Report.TheVariants.{Changes}
use Rattle.crush_compare.specs.declared.identity.Identity.TheVariants.{Ids}
use Rattle.crush_compare.proofs.IdPairs.{differences_of_ids}
use Rattle.crush_since.specs.Since.{PlainMap}
use Rattle.crush_since.specs.Tallies.{tally_of}
use Rattle.serde_json.specs.Data.{Data, Members, member, no_members, object, string}
use Rattle.crush_json.specs.ChangeDocument.{change_at, change_document, changes_at, seen_document, seen_if, with_class_ids}
use Rattle.crush_json.specs.PairDocument.{class_ids_tokens_if, pair_change, pair_changes, pair_document, pair_id, seen_entry, seen_tokens_if}
use Rattle.crush_json.specs.RuleChanges.{class_change_documents, rule_change_documents, takes_nothing_document}
use Rattle.crush_json.specs.SinceDocument.{change_documents, counts_document, since_document, with_last}
use Rattle.crush_json.specs.SinceTokens.{last_since_tokens}
use Rattle.crush_json.specs.Tokens.{member_tokens, text_tokens_if, tokens_of, whole_tokens_if}
use Rattle.crush_json.specs.TreeDocument.{type_word}
use Rattle.crush_json.specs.Values.{list, natural, text_if, whole_if}
use Rattle.crush_json.proofs.TreeLaws.{rest_of, text_before}

-- the tokens of members that may be missing
ids_before : (i : ItemId) (xs : List ShadowData) (ms : Members) → rest_of (with_class_ids i xs ms) ≡ class_ids_tokens_if i xs ++ rest_of ms
ids_before (Device d) xs ms = refl
ids_before (Bucket b) xs ms = refl

whole_before : (name : List ℕ) (o : Option ℤ) (ms : Members) → rest_of (whole_if name o ms) ≡ whole_tokens_if name o ++ rest_of ms
whole_before name None ms = refl
whole_before name (Some z) ms = refl

seen_before : (name : List ℕ) (s : SettingData) (o : Option EntryData) (ms : Members) → rest_of (seen_if name s o ms) ≡ seen_tokens_if name s o ++ rest_of ms
seen_before name s None ms = refl
seen_before name s (Some e) ms = refl

-- the tokens of what a map says about an item
pub seen_told : (s : SettingData) (e : EntryData)
    → begin_object ∷ (text_tokens_if (codes "alg") (option_map alg_text e.item.view.alg) ++ (text_tokens_if (codes "class") e.item.view.class ++ (class_ids_tokens_if e.item.view.id e.class_ids
    ++ (member_tokens (codes "name") (string e.item.view.name) ++ (text_tokens_if (codes "parent") e.item.holder
    ++ (member_tokens (codes "type") (string (type_word s e.item.view.id e.item.view.kind)) ++ (member_tokens (codes "weight") (natural e.item.view.weight) ++ end_object ∷ [])))))))
    ≡ tokens_of (seen_document s e)
unfolding seen_document
seen_told s e =
    let last : Members = member (codes "type") (string (type_word s e.item.view.id e.item.view.kind)) (member (codes "weight") (natural e.item.view.weight) no_members) in
    let named : Members = member (codes "name") (string e.item.view.name) (text_if (codes "parent") e.item.holder last) in
    let numbered : Members = with_class_ids e.item.view.id e.class_ids named in
    let alg : List Token = text_tokens_if (codes "alg") (option_map alg_text e.item.view.alg) in
    let class : List Token = text_tokens_if (codes "class") e.item.view.class in
    let ids : List Token = class_ids_tokens_if e.item.view.id e.class_ids in
    ap (λ (l : List Token). begin_object ∷ l)
    (ap (λ (l : List Token). alg ++ (class ++ (ids ++ (member_tokens (codes "name") (string e.item.view.name) ++ l)))) (sym (text_before (codes "parent") e.item.holder last))
    ∙ ap (λ (l : List Token). alg ++ (class ++ l)) (sym (ids_before e.item.view.id e.class_ids named))
    ∙ ap (λ (l : List Token). alg ++ l) (sym (text_before (codes "class") e.item.view.class numbered))
    ∙ sym (text_before (codes "alg") (option_map alg_text e.item.view.alg) (text_if (codes "class") e.item.view.class numbered)))

-- the tokens of a pair: the id of its item, what the item is, and what it was
pub pair_told : (s p : SettingData) (e : EntryPair)
    → begin_object ∷ (whole_tokens_if (codes "id") (option_map item_number (pair_id e)) ++ (seen_tokens_if (codes "is") p e.after ++ (seen_tokens_if (codes "was") s e.before ++ end_object ∷ [])))
    ≡ tokens_of (pair_document s p e)
unfolding pair_document
pair_told s p e =
    let was : Members = seen_if (codes "was") s e.before no_members in
    let id : List Token = whole_tokens_if (codes "id") (option_map item_number (pair_id e)) in
    ap (λ (l : List Token). begin_object ∷ l)
    (ap (λ (l : List Token). id ++ (seen_tokens_if (codes "is") p e.after ++ l)) (sym (seen_before (codes "was") s e.before no_members))
    ∙ ap (λ (l : List Token). id ++ l) (sym (seen_before (codes "is") p e.after was))
    ∙ sym (whole_before (codes "id") (option_map item_number (pair_id e)) (seen_if (codes "is") p e.after was)))

-- the tokens of the item that a list of items has at a position, if it has one there
pub seen_at : (name : List ℕ) (s : SettingData) (o : Option EntryData) (x : ItemData) (ids : List ShadowData) → Some x ≡ option_map (λ (e : EntryData). e.item) o → ids ≡ option_map_or (λ (e : EntryData). e.class_ids) o []
    → member_tokens name (seen_document s (seen_entry x ids)) ≡ seen_tokens_if name s o
seen_at name s None x ids is are = absurd cc
seen_at name s (Some e) x ids is are = (λ j. member_tokens name (seen_document s (seen_entry (same is j) (are j)))) where
  same : Some x ≡ Some e.item → x ≡ e.item
  same h = ap (λ (o : Option ItemData). option_map_or (λ y. y) o x) h

pub not_seen_at : (name : List ℕ) (s : SettingData) (o : Option EntryData) → None ≡ option_map (λ (e : EntryData). e.item) o → [] ≡ seen_tokens_if name s o
not_seen_at name s None is = refl
not_seen_at name s (Some e) is = absurd cc

-- THE ID: if the two maps differ at an id, then the pair that belongs to this id has an item with this id
none_differs : (t u : List Row) (i : ItemId) → row_of t i ≡ None → row_of u i ≡ None → is_some (id_difference Changes t u i) ≡ true → ⊥
none_differs t u i a b h =
    let no : false ≡ true = (λ j. is_some (difference_by_ids Changes (option_map (row_item t) (sym a j)) (option_map (row_item u) (sym b j)) (same_class_ids t u i))) ∙ h in
    absurd cc

id_by : (t u : List Row) (i : ItemId) (a b : Option Row) → row_of t i ≡ a → row_of u i ≡ b → is_some (id_difference Changes t u i) ≡ true
    → pair_id (record { before = option_map (row_entry t i) a; after = option_map (row_entry u i) b }) ≡ Some i
id_by t u i None None x y h = absurd (none_differs t u i x y h)
id_by t u i (Some r) None x y h = ap Some (row_id i t r x)
id_by t u i None (Some r) x y h = ap Some (row_id i u r y)
id_by t u i (Some q) (Some r) x y h = ap Some (row_id i u r y)

id_of_pair : (t u : List Row) (i : ItemId) → is_some (id_difference Changes t u i) ≡ true → pair_id (id_entries t u i) ≡ Some i
id_of_pair t u i h = id_by t u i (row_of t i) (row_of u i) refl refl h

documents_agree : (s p : SettingData) (i : ItemId) (e : EntryPair) → pair_id e ≡ Some i → pair_document s p e ≡ change_document s p i e
unfolding pair_document change_document
documents_agree s p i e is = ap (λ (o : Option ItemId). object (whole_if (codes "id") (option_map item_number o) (seen_if (codes "is") p e.after (seen_if (codes "was") s e.before no_members)))) is

same_if : (b : Bool) (x y : Data) → (b ≡ true → x ≡ y) → ◌≡◌ {A = List Data} (if b then x ∷ [] else []) (if b then y ∷ [] else [])
same_if true x y same = ap (λ (d : Data). d ∷ []) (same refl)
same_if false x y same = refl

-- so the value for the pair is the value for the change of the id
pair_is : (old new : PlainMap) (i : ItemId) → pair_change Ids old.setting new.setting (id_entries old.table new.table i) ≡ change_at old new i
pair_is old new i =
    let e : EntryPair = id_entries old.table new.table i in
    (λ j. if is_some (differences_of_ids Changes old.setting new.setting old.table new.table i j) then pair_document old.setting new.setting e ∷ [] else [])
    ∙ same_if (is_some (id_difference Changes old.table new.table i)) (pair_document old.setting new.setting e) (change_document old.setting new.setting i e)
    (λ h. documents_agree old.setting new.setting i e (id_of_pair old.table new.table i h))

pairs_are : (old new : PlainMap) (ids : List ItemId) → flat_map (λ i. pair_change Ids old.setting new.setting (id_entries old.table new.table i)) ids ≡ changes_at old new ids
pairs_are old new [] = refl
pairs_are old new (i ∷ ids) = (λ j. pair_is old new i j ++ pairs_are old new ids j)

-- CHANGES: the values for the pairs that belong to these ids are the values for the changes of these ids
pub changes_of_ids : {A B : Type 0} (both : Comparison A B) (old new : PlainMap) (ids : List ItemId) → both.identity ≡ Ids → both.old.map.now.setting ≡ old.setting → both.new.map.now.setting ≡ new.setting
    → map (pair_entries both) both.pairs.items ≡ map (id_entries old.table new.table) ids → pair_changes both ≡ changes_at old new ids
changes_of_ids both old new ids by was is are =
    sym (flat_map-map (pair_change both.identity both.old.map.now.setting both.new.map.now.setting) (pair_entries both) both.pairs.items)
    ∙ (λ j. flat_map (pair_change (by j) (was j) (is j)) (are j))
    ∙ flat_map-map (pair_change Ids old.setting new.setting) (id_entries old.table new.table) ids
    ∙ pairs_are old new ids

pub whole_changes : (old new : PlainMap) → changes_at old new (all_ids old.table new.table) ≡ change_documents None old new
unfolding change_documents
whole_changes old new = refl

pub part_told : (i : ItemId) (old new : PlainMap)
    → begin_object ∷ (member_tokens (codes "items") (list (changes_at old new (part_ids old.table new.table i))) ++ end_object ∷ []) ≡ tokens_of (since_document (Some i) old new)
unfolding since_document change_documents
part_told i old new = refl

-- the tokens of the members after the items
last_before : (old new : PlainMap) (ms : Members) → rest_of (with_last old new ms) ≡ last_since_tokens old new ++ rest_of ms
last_before old new ms = sym (append_assoc (member_tokens (codes "rules") (list (rule_change_documents old new))) _ (rest_of ms))

-- the tokens of the whole value
pub whole_told : (old new : PlainMap)
    → begin_object ∷ (member_tokens (codes "classes") (list (class_change_documents old new)) ++ (member_tokens (codes "counts") (counts_document (tally_of old.table new.table (all_ids old.table new.table)))
    ++ (member_tokens (codes "items") (list (change_documents None old new)) ++ (last_since_tokens old new ++ end_object ∷ []))))
    ≡ tokens_of (since_document None old new)
unfolding since_document
whole_told old new =
    ap (λ (l : List Token). begin_object ∷ (member_tokens (codes "classes") (list (class_change_documents old new)) ++ (member_tokens (codes "counts") (counts_document (tally_of old.table new.table (all_ids old.table new.table)))
    ++ (member_tokens (codes "items") (list (change_documents None old new)) ++ l))))
    (sym (last_before old new no_members))

-- the tokens of the value for a step of a rule that takes nothing any more
pub takes_nothing_told : (rule bucket : List ℕ) (class : Option (List ℕ))
    → begin_object ∷ (member_tokens (codes "bucket") (string bucket) ++ (member_tokens (codes "change") (string (codes "takes nothing")) ++ (text_tokens_if (codes "class") class ++ (member_tokens (codes "name") (string rule) ++ end_object ∷ []))))
    ≡ tokens_of (takes_nothing_document rule bucket class)
unfolding takes_nothing_document
takes_nothing_told rule bucket class =
    ap (λ (l : List Token). begin_object ∷ (member_tokens (codes "bucket") (string bucket) ++ (member_tokens (codes "change") (string (codes "takes nothing")) ++ l)))
    (sym (text_before (codes "class") class (member (codes "name") (string rule) no_members)))
