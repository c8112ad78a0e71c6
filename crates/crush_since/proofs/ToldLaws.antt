-- Lemmas about whether an item has a line, which its columns decide, and about the row of an item that has no line.
use Rattle.std.proofs.Common.{◌≡◌, ℕ, ◌-◌, Bool, true, false, List, [], ◌∷◌, ◌++◌, length, take, map, ap, sym, ◌∙◌, refl, arith, append-nil}
use Rattle.std.specs.Prelude.{not, ◌&&◌, ◌||◌, ◌==◌, Some, codes, bytes_eq}
use Rattle.std.proofs.Math.Seq.{take-append_seam}
use Rattle.std.proofs.lemmas.List.{length-append, length-map, take-map}
use Rattle.crush_edits.specs.Setting.{SettingData}
use Rattle.crush_units.specs.declared.id.ItemId.{ItemId}
use Rattle.crush_units.specs.Weight.{weight_text}
use Rattle.crush_since.specs.Changes.{ChangeData, has_some, with_below}
use Rattle.crush_compare.specs.Equal.{same_option, same_text}
use Rattle.crush_items.specs.ItemData.{ItemData}
use Rattle.crush_since.specs.ItemParts.{same_algs, part, changes, behind, line, item_line}
use Rattle.crush_since.specs.ItemWords.{item_word, place_word, type_word, class_or_none, alg_word}
use Rattle.crush_compare.specs.SameItem.{same_item}

-- A LINE exists if there are parts
some_last : {X : Type 0} (xs : List X) (y : X) (ys : List X) → has_some (xs ++ y ∷ ys) ≡ true
some_last [] y ys = refl
some_last (x ∷ xs) y ys = refl

pub line_told : (name : List ℕ) (i : ItemId) (ps : List (List ℕ)) → has_some (line name i ps) ≡ has_some ps
line_told name i [] = refl
line_told name i (p ∷ rest) = some_last (item_word name i ++ codes ": " ++ (p ++ behind rest)) 10 []

-- there are parts if a column differs
some_of_both : {X : Type 0} (xs ys : List X) → has_some (xs ++ ys) ≡ (has_some xs || has_some ys)
some_of_both [] ys = refl
some_of_both (x ∷ xs) ys = refl

part_told : (same : Bool) (text : List ℕ) → has_some (part same text) ≡ not same
part_told true text = refl
part_told false text = refl

one_or_other : (a b : Bool) → (not a || not b) ≡ not (a && b)
one_or_other true b = refl
one_or_other false b = refl

with_part : (ps : List (List ℕ)) (a b : Bool) (text : List ℕ) → has_some ps ≡ not a → has_some (ps ++ part b text) ≡ not (a && b)
with_part ps a b text told = some_of_both ps (part b text) ∙ (λ i. told i || part_told b text i) ∙ one_or_other a b

changes_told : (s p : SettingData) (a b : ItemData) (same : Bool) → has_some (changes s p a b same) ≡ not (same_item a b same)
changes_told s p a b same =
    with_part _ (((((bytes_eq a.view.name b.view.name && (a.view.kind == b.view.kind)) && same_option a.view.parent b.view.parent) && (a.view.weight == b.view.weight)) && same_text a.view.class b.view.class) && same_algs a.view.alg b.view.alg) same (codes "class ids")
    (with_part _ ((((bytes_eq a.view.name b.view.name && (a.view.kind == b.view.kind)) && same_option a.view.parent b.view.parent) && (a.view.weight == b.view.weight)) && same_text a.view.class b.view.class) (same_algs a.view.alg b.view.alg) (codes "alg " ++ alg_word a.view.alg ++ codes " to " ++ alg_word b.view.alg)
    (with_part _ (((bytes_eq a.view.name b.view.name && (a.view.kind == b.view.kind)) && same_option a.view.parent b.view.parent) && (a.view.weight == b.view.weight)) (same_text a.view.class b.view.class) (codes "class " ++ class_or_none a.view.class ++ codes " to " ++ class_or_none b.view.class)
    (with_part _ ((bytes_eq a.view.name b.view.name && (a.view.kind == b.view.kind)) && same_option a.view.parent b.view.parent) (a.view.weight == b.view.weight) (codes "weight " ++ weight_text a.view.weight ++ codes " to " ++ weight_text b.view.weight)
    (with_part _ (bytes_eq a.view.name b.view.name && (a.view.kind == b.view.kind)) (same_option a.view.parent b.view.parent) (codes "from " ++ place_word a ++ codes " to " ++ place_word b)
    (with_part _ (bytes_eq a.view.name b.view.name) (a.view.kind == b.view.kind) (codes "type " ++ type_word s a.view.id a.view.kind ++ codes " to " ++ type_word p b.view.id b.view.kind)
    (part_told (bytes_eq a.view.name b.view.name) (codes "was " ++ a.view.name)))))))

-- THE TESTS of the columns decide whether an item that both maps have has a line
pub both_told : (s p : SettingData) (i : ItemId) (a b : ItemData) (same : Bool) → not (same_item a b same) ≡ has_some (item_line s p i (Some a) (Some b) same)
both_told s p i a b same = sym (line_told b.view.name i (changes s p a b same) ∙ changes_told s p a b same)

-- A ROW is kept if its item differs or if there are rows below it
pub row_stays : (told : Bool) (row : ChangeData) (below : List ChangeData) → (told ≡ false → below ≡ [] → ⊥) → with_below told row below ≡ row ∷ below
row_stays told row (x ∷ below) some = refl
row_stays true row [] some = refl
row_stays false row [] some = absurd (some refl refl)

-- a row is left out if its item doesn't differ and there are no rows below it
pub row_goes : (told : Bool) (row : ChangeData) (below : List ChangeData) → told ≡ false → length below ≡ 0 → with_below told row below ≡ []
row_goes told row (x ∷ below) none alone = absurd (omega (arith, alone))
row_goes true row [] none alone = absurd cc
row_goes false row [] none alone = refl

-- the code removes the row of an item that doesn't differ if no rows were appended after it
pub settled : {X : Type 0} (see : X → ChangeData) (old new : List X) (at : ℕ) (told : Bool) (before below : List ChangeData) (row : ChangeData) → told ≡ false → length old - at ≡ 1 → new ≡ take at old
    → length before ≡ at → map see old ≡ before ++ row ∷ below → map see new ≡ before ++ with_below told row below
settled see old new at told before below row untold alone cut long are =
    let few : length below ≡ 0 = omega (arith, length-map old see, ap length are, length-append before (row ∷ below), long, alone) in
    ap (map see) cut ∙ sym (take-map see at old) ∙ ap (take at) are ∙ ap (λ n. take n (before ++ row ∷ below)) (sym long) ∙ take-append_seam before (row ∷ below) ∙ sym (append-nil before)
    ∙ ap (λ (l : List ChangeData). before ++ l) (sym (row_goes told row below untold few))

pub unsettled : {X : Type 0} (see : X → ChangeData) (old new : List X) (at : ℕ) (told : Bool) (before below : List ChangeData) (row : ChangeData) → (told ≡ false → length old - at ≡ 1 → ⊥) → new ≡ old
    → length before ≡ at → map see old ≡ before ++ row ∷ below → map see new ≡ before ++ with_below told row below
unsettled see old new at told before below row other same long are =
    ap (map see) same ∙ are
    ∙ ap (λ (l : List ChangeData). before ++ l) (sym (row_stays told row below (λ untold none. other untold (omega (arith, length-map old see, ap length are, length-append before (row ∷ below), long, ap length none)))))
