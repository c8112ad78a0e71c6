-- Names that are similar to one another.
use Rattle.std.specs.Prelude.{ℕ, ◌+◌, ◌==◌, ◌&&◌, ◌||◌, List, [], ◌∷◌, Option, None, Bool, false, bytes_eq, codes, drop, find, if◌then◌else◌, nat_eq}
use Rattle.std.specs.List.{starts_with}
use Rattle.std.specs.Option.{option_map}
use Rattle.std.specs.Str.{str_eq_ignore_ascii_case}
use Rattle.crush_model.specs.Table.{Row}
use Rattle.crush_edits.specs.Setting.{KindData, SettingData}
use Rattle.crush_print.specs.Tree.{WalkStepData, tree_rows}

-- whether two names begin with the same byte
abbrev pub same_heads : List ℕ → List ℕ → Bool
same_heads [] b = false
same_heads (x ∷ a) [] = false
same_heads (x ∷ a) (y ∷ b) = x == y

-- how many bytes two names have in common before the first byte that differs
abbrev pub shared : List ℕ → List ℕ → ℕ
shared [] b = 0
shared (x ∷ a) [] = 0
shared (x ∷ a) (y ∷ b) = if x == y then 1 + shared a b else 0

-- AT MOST ONE BYTE DIFFERS: two names are equal, or they become equal if one byte is changed, or if one byte is removed from one of the names
abbrev pub is_one_off : List ℕ → List ℕ → Bool
is_one_off a b =
    bytes_eq (drop (shared a b + 1) a) (drop (shared a b + 1) b)
    || (bytes_eq (drop (shared a b + 1) a) (drop (shared a b) b) || bytes_eq (drop (shared a b) a) (drop (shared a b + 1) b))

-- TWO BYTES ARE EXCHANGED: two names are the same, except that two neighbouring bytes are exchanged
abbrev pub is_swapped : List ℕ → List ℕ → Bool
is_swapped a b =
    same_heads (drop (shared a b) a) (drop (shared a b + 1) b) && same_heads (drop (shared a b + 1) a) (drop (shared a b) b)
    && bytes_eq (drop (shared a b + 2) a) (drop (shared a b + 2) b)

-- A NUMBER IN PLACE OF A DEVICE'S NAME: the second name is `osd.` followed by the first name, as `osd.0` is for `0`
abbrev pub is_numbered : List ℕ → List ℕ → Bool
is_numbered a b = starts_with nat_eq b (codes "osd.") && bytes_eq (drop 4 b) a

-- SIMILAR: at most one byte differs, or two neighbouring bytes are exchanged, or the names differ only in upper and lower case, or the second name is `osd.` followed by the first name
abbrev pub is_near : List ℕ → List ℕ → Bool
is_near a b = is_one_off a b || (is_swapped a b || (str_eq_ignore_ascii_case a b || is_numbered a b))

-- the first name of these items that is similar to the name n
abbrev pub first_near : List ℕ → List WalkStepData → Option (List ℕ)
first_near n steps = option_map (λ (s : WalkStepData). s.item.name) (find (λ (s : WalkStepData). is_near n s.item.name) steps)

-- the first similar name among all items of a table, in the order of the table's tree
abbrev pub near_name : List Row → List ℕ → Option (List ℕ)
near_name t n = first_near n (tree_rows t)

-- the first similar name among all items of a table, if `looks` says that the map is searched for similar names; otherwise none
abbrev pub near_if : Bool → List Row → List ℕ → Option (List ℕ)
near_if looks t n = if looks then near_name t n else None

-- the first name of these types that is similar to the name n
abbrev pub first_near_kind : List ℕ → List KindData → Option (List ℕ)
first_near_kind n kinds = option_map (λ (k : KindData). k.name) (find (λ (k : KindData). is_near n k.name) kinds)

-- the first similar name among the types of a setting, in the order in which the types were declared, if `looks` says that similar names are searched for; otherwise none
abbrev pub near_kind_if : Bool → SettingData → List ℕ → Option (List ℕ)
near_kind_if looks s n = if looks then first_near_kind n s.kinds else None
