-- The laws that the printed text of a map is read back as that map.
use Rattle.std.specs.Prelude.{◌≡◌, ℕ, ◌==◌, Bool, true, false, not, ◌&&◌, List, [], ◌∷◌, ◌++◌, map}
use Rattle.crush_model.specs.Table.{Row}
use Rattle.crush_model.specs.Lawful.{Lawful}
use Rattle.crush_model.specs.Reordered.{IsReordered}
use Rattle.crush_model.specs.Same.{Same}
use Rattle.crush_edits.specs.Setting.{KindData, SettingData}
use Rattle.crush_edits.specs.Fits.{Fits}
use Rattle.crush_print.specs.MapText.{kind_numbers, kind_text, map_text}
use Rattle.crush_print.specs.declared.weight_form.WeightForm.{WeightForm}
use Rattle.crush_text.specs.Document.{IsMapText}

-- two settings are the same, except that the order of their types may differ
pub record SameSetting (s r : SettingData) : Type 0 where
  pub kinds : IsReordered s.kinds r.kinds
  pub tunables : s.tunables ≡ r.tunables
  pub rules : s.rules ≡ r.rules

-- the bytes are the text of a map with the setting s and a table that is the same as t (`Same`): its rows may be in another order, but each bucket has the same items in the same order. Each weight that the text gives for a bucket is the sum of the weights of the bucket's items
pub record IsTextOf (bytes : List ℕ) (s : SettingData) (t : List Row) : Type 0 where
  pub table : List Row
  pub text : IsMapText bytes s table 0
  pub same : Same table t

-- READ AS: the bytes are the text of a map whose table is the same as t (`Same`), and whose setting is the same as s, except for the order of its types. If this map is printed, with rounded or with exact weights, then the result is the printed text of s and t
pub record IsReadAs (bytes : List ℕ) (s : SettingData) (t : List Row) : Type 0 where
  pub setting : SettingData
  pub settings : SameSetting s setting
  pub map : IsTextOf bytes setting t
  pub again : (form : WeightForm) → map_text form setting map.table ≡ map_text form s t

-- READING BACK: if a map has a lawful table and a setting that fits this table, then its printed text is read back as that map. The weights in the text may be rounded or exact
abbrev pub PrintedTextsAreReadBack : Type 0
PrintedTextsAreReadBack = (form : WeightForm) (s : SettingData) (t : List Row) → Lawful t → Fits s t → IsReadAs (map_text form s t) s t

-- the type with the number n, and with the name that is printed for this type
abbrev pub printed_kind : SettingData → ℕ → KindData
printed_kind s n = record { number = n; name = kind_text s n }

-- the setting with its types in the order of their numbers; tunables and rules are unchanged
abbrev pub in_order : SettingData → SettingData
in_order s = record s { kinds = map (printed_kind s) (kind_numbers s) }

-- if a setting fits a table, then this setting and the same setting with its types in order are the same, as `SameSetting` says
abbrev pub InOrderIsTheSame : Type 0
InOrderIsTheSame = (s : SettingData) (t : List Row) → Fits s t → SameSetting s (in_order s)

-- if a printed text is read, then the types of the map that is read are in the order of their numbers
abbrev pub TypesAreReadInOrder : Type 0
TypesAreReadInOrder = (form : WeightForm) (s : SettingData) (t : List Row) → Lawful t → Fits s t → IsTextOf (map_text form s t) (in_order s) t

-- the setting with its types in order, together with any table u that is the same as t (`Same`), has the same printed text as s and t
abbrev pub ReadBackPrintsAlike : Type 0
ReadBackPrintsAlike = (form : WeightForm) (s : SettingData) (t u : List Row) → Lawful t → Fits s t → Same u t → map_text form (in_order s) u ≡ map_text form s t

-- whether the bytes are whole lines that begin with `#`, each with its line feed. The first argument says whether the bytes begin within such a line
abbrev pub are_comments : Bool → List ℕ → Bool
are_comments inside [] = not inside
are_comments false (b ∷ bs) = b == 35 && are_comments true bs
are_comments true (b ∷ bs) = are_comments (not (b == 10)) bs

-- COMMENT LINES: the bytes are whole lines that begin with `#`, or there are no bytes
abbrev pub AreCommentLines : List ℕ → Type 0
AreCommentLines bytes = are_comments false bytes ≡ true

-- the printed text of a map, followed by any comment lines, is read back as that map
abbrev pub CommentsBehindAreNoMatter : Type 0
CommentsBehindAreNoMatter = (form : WeightForm) (s : SettingData) (t : List Row) (comments : List ℕ) → Lawful t → Fits s t → AreCommentLines comments → IsReadAs (map_text form s t ++ comments) s t
