-- Which of the names in an edit a refusal of the edit is about.
use Rattle.std.specs.Prelude.{ℕ, List, [], ◌∷◌, Option, Some, None, Bool, ◌||◌, if◌then◌else◌, is_none, unwrap_or, bytes_eq}
use Rattle.std.specs.List.{list_any}
use Rattle.std.specs.Option.{option_map, option_or}
use Rattle.crush_model.specs.Table.{Row, id_named, is_named}
use Rattle.crush_edits.specs.declared.edit.Edit.{Edit}
use Rattle.crush_edits.specs.declared.edit.Edit.TheVariants.{Place, Move, Swap, Reweight, ReweightSubtree, Remove, AddBucket, Rename, SetClass, RemoveClass}
use Rattle.crush_edits.specs.declared.location.Pair.{Pair}
use Rattle.crush_edits.specs.declared.refusal.Refusal.{Refusal}
use Rattle.crush_edits.specs.declared.refusal.Refusal.TheVariants.{BadLocation, NoSuchType, NoSuchItem, NameTaken, NotABucket, WrongType, Loop, AlreadyRenamed}
use Rattle.crush_edits.specs.Answer.{is_a_device}
use Rattle.crush_edits.specs.Located.{is_type_zero, names_it}
use Rattle.crush_edits.specs.Setting.{SettingData, kind_number}
use Rattle.crush_edits.specs.Stops.{StopData, stops, end_stop}

-- a name from the first pair for which the test holds, or None if there is no such pair. The test gets a pair and the pairs after it; the function `name` selects the type name or the bucket name of the pair
abbrev pub first_name : (Pair → List Pair → Bool) → (Pair → List ℕ) → List Pair → Option (List ℕ)
first_name test name [] = None
first_name test name (p ∷ l) = if test p l then Some (name p) else first_name test name l

-- whether the pair's type is type 0, or a later pair has the same type
abbrev pub is_wrong_type : SettingData → Pair → List Pair → Bool
is_wrong_type s p l = is_type_zero s p || list_any (λ (q : Pair). bytes_eq q.kind p.kind) l

-- the name that makes a location bad: the first type name that is the name of type 0 or that occurs again in a later pair; if there is no such type name, the first bucket name that occurs again in a later pair
abbrev pub bad_name : SettingData → List Pair → Option (List ℕ)
bad_name s l = option_or (first_name (is_wrong_type s) (λ (p : Pair). p.kind) l) (first_name (λ (p : Pair) l. names_it l p.name) (λ (p : Pair). p.name) l)

-- the first type name that the setting doesn't have
abbrev pub unknown_type : SettingData → List Pair → Option (List ℕ)
unknown_type s l = first_name (λ (p : Pair) l. is_none (kind_number s p.kind)) (λ (p : Pair). p.kind) l

-- the name of the item that ends the route, or None if no item ends it
abbrev pub end_name : List Row → List StopData → Option (List ℕ)
end_name t ps = option_map (λ (p : StopData). p.name) (end_stop t ps)

-- FOR AN EDIT WITH A LOCATION: the name in the location that is at fault, or the item's name if no name in the location is at fault
abbrev pub put_culprit : SettingData → List Row → List ℕ → List Pair → Refusal → List ℕ
put_culprit s t n l BadLocation = unwrap_or (bad_name s l) n
put_culprit s t n l NoSuchType = unwrap_or (unknown_type s l) n
put_culprit s t n l NotABucket = unwrap_or (end_name t (stops s l)) n
put_culprit s t n l WrongType = unwrap_or (end_name t (stops s l)) n
put_culprit s t n l Loop = unwrap_or (end_name t (stops s l)) n
put_culprit s t n l r = n

-- FOR A SWAP: the second name if only the second name is at fault, otherwise the first name. If the refusal is NoSuchItem, only the second name is at fault if an item has the first name. If the refusal is NotABucket, only the second name is at fault if the first name isn't the name of a device
abbrev pub swap_culprit : List Row → List ℕ → List ℕ → Refusal → List ℕ
swap_culprit t a b NoSuchItem = if is_named t a then b else a
swap_culprit t a b NotABucket = if is_a_device (id_named t a) then a else b
swap_culprit t a b r = a

-- FOR A NEW BUCKET: the name of the bucket's type if the refusal is NoSuchType or WrongType, otherwise the name of the bucket
abbrev pub bucket_culprit : List ℕ → List ℕ → Refusal → List ℕ
bucket_culprit n kind NoSuchType = kind
bucket_culprit n kind WrongType = kind
bucket_culprit n kind r = n

-- FOR A RENAME: the new name if the refusal is NameTaken or AlreadyRenamed, otherwise the old name
abbrev pub name_culprit : List ℕ → List ℕ → Refusal → List ℕ
name_culprit from to NameTaken = to
name_culprit from to AlreadyRenamed = to
name_culprit from to r = from

-- THE NAME that a refusal of the edit is about; for an edit that sets a weight, changes a class or removes an item, it is the name of the item
abbrev pub culprit : SettingData → List Row → Edit → Refusal → List ℕ
culprit s t (Place how d n w l) r = put_culprit s t n l r
culprit s t (Move n l) r = put_culprit s t n l r
culprit s t (Swap a b) r = swap_culprit t a b r
culprit s t (Reweight n w) r = n
culprit s t (ReweightSubtree n w) r = n
culprit s t (Remove n) r = n
culprit s t (AddBucket n kind) r = bucket_culprit n kind r
culprit s t (Rename from to) r = name_culprit from to r
culprit s t (SetClass n c) r = n
culprit s t (RemoveClass n) r = n
