-- If there is no line, or if the number of lines is 0, no change is lost.
use Rattle.std.proofs.Common.{◌≡◌, ℕ, ◌++◌, ◌==◌, Bool, true, false, List, [], ◌∷◌, length, ap, sym, refl, ◌∙◌, arith}
use Rattle.std.specs.Prelude.{All, None, codes, flat_map, if◌then◌else◌, ◌||◌}
use Rattle.std.specs.List.{count_by}
use Rattle.std.proofs.lemmas.List.Elements.{All-cons, All-nil}
use Rattle.std.proofs.lemmas.List.Sums.{sum_by-append}
use Rattle.crush_model.specs.Table.{Row}
use Rattle.crush_edits.specs.Setting.{SettingData}
use Rattle.crush_items.specs.Tree.{tree_rows}
use Rattle.crush_since.proofs.TreeLaws.{nil_left, nil_right}
use Rattle.crush_conflicts.specs.declared.aspects.Aspects.{Aspects}
use Rattle.crush_conflicts.specs.Aspects.{is_some_aspect, of_either}
use Rattle.crush_conflicts.specs.Cases.{CaseData, FoundData, lost_among, lost_aspects, lost_of}
use Rattle.crush_conflicts.specs.Conflicts.{OperatorData, new_case, new_lines, old_case, old_lines}
use Rattle.crush_conflicts.specs.Laws.{CountZeroNoLoss, NoLineNoLoss, NoLoss, NothingLost}
use Rattle.crush_conflicts.specs.Lines.{case_line, end_text, joined, line, operator_text}
use Rattle.crush_conflicts.specs.NewItems.{each_once}

neither : (a b : Bool) → (a || b) ≡ false → (a ≡ false) × (b ≡ false)
neither true b e = absurd cc
neither false b e = (refl, e)

-- two sets have no aspect if the aspects of either are none
none_of_either : (a b : Aspects) → is_some_aspect (of_either a b) ≡ false → (is_some_aspect a ≡ false) × (is_some_aspect b ≡ false)
none_of_either a b e =
    let class = neither _ _ e in
    let name = neither _ _ class.0 in
    let weight = neither _ _ name.0 in
    let place = neither _ _ weight.0 in
    let kind = neither _ _ place.0 in
    let p = neither a.presence b.presence kind.0 in
    let k = neither a.kind b.kind kind.1 in
    let l = neither a.place b.place place.1 in
    let w = neither a.weight b.weight weight.1 in
    let n = neither a.name b.name name.1 in
    let c = neither a.class b.class class.1 in
    (λ i. ((((p.0 i || k.0 i) || l.0 i) || w.0 i) || n.0 i) || c.0 i, λ i. ((((p.1 i || k.1 i) || l.1 i) || w.1 i) || n.1 i) || c.1 i)

none_among : (t : List Row) (c : CaseData) (xs : List FoundData) → is_some_aspect (lost_among t c xs) ≡ false → All (λ x. is_some_aspect (lost_of t c x) ≡ false) xs
none_among t c [] e = All-nil (λ x. is_some_aspect (lost_of t c x) ≡ false)
none_among t c (x ∷ xs) e =
    let both = none_of_either (lost_of t c x) (lost_among t c xs) e in
    All-cons (λ y. is_some_aspect (lost_of t c y) ≡ false) x xs both.0 (none_among t c xs both.1)

no_line : (s : SettingData) (t : List Row) (c : CaseData) (b : Bool) → is_some_aspect (lost_aspects t c) ≡ b → (if b then line s t c else []) ≡ [] → NothingLost t c
unfolding line lost_aspects
no_line s t c true some e = absurd (let last : codes "\n" ≡ [] = nil_right _ (codes "\n") e in let long : length (codes "\n") ≡ 0 = ap length last in omega (arith, long))
no_line s t c false some e = none_among t c c.alone some

no_lines : {X : Type 0} (s : SettingData) (t : List Row) (case : X → CaseData) (xs : List X) → flat_map (λ x. case_line s t (case x)) xs ≡ [] → All (λ x. NothingLost t (case x)) xs
no_lines s t case [] e = All-nil (λ x. NothingLost t (case x))
no_lines s t case (x ∷ xs) e =
    let rest = flat_map (λ y. case_line s t (case y)) xs in
    All-cons (λ y. NothingLost t (case y)) x xs
    (no_line s t (case x) (is_some_aspect (lost_aspects t (case x))) refl (nil_left (case_line s t (case x)) rest e)) (no_lines s t case xs (nil_right (case_line s t (case x)) rest e))

no_loss : (s : SettingData) (t : List Row) (os : List OperatorData) (z : List Row) (names : List (List ℕ)) → old_lines s t os z ++ new_lines s t os z (each_once None names) ≡ []
    → NoLoss t os z names
unfolding old_lines new_lines
no_loss s t os z names e = (
  no_lines s t (old_case t os z) (tree_rows t) (nil_left (old_lines s t os z) (new_lines s t os z (each_once None names)) e),
  no_lines s t (new_case t os z) (each_once None names) (nil_right (old_lines s t os z) (new_lines s t os z (each_once None names)) e),
)

pub no_line_no_loss : NoLineNoLoss
no_line_no_loss s t os z c = no_loss s t os z c.names (sym c.lines)

-- how many line feeds a text has
abbrev feeds : List ℕ → ℕ
feeds text = count_by (λ b. b == 10) text

feeds_left : (a b : List ℕ) → feeds (a ++ b) ≡ 0 → feeds a ≡ 0
feeds_left a b e = omega (arith, sum_by-append (λ (x : ℕ). if x == 10 then 1 else 0) a b, e)

feeds_right : (a b : List ℕ) → feeds (a ++ b) ≡ 0 → feeds b ≡ 0
feeds_right a b e = omega (arith, sum_by-append (λ (x : ℕ). if x == 10 then 1 else 0) a b, e)

-- each line has a line feed: its last byte
empty_case : (s : SettingData) (t : List Row) (c : CaseData) (b : Bool) → feeds (if b then line s t c else []) ≡ 0 → (if b then line s t c else []) ≡ []
unfolding line
empty_case s t c true e =
    let text : List ℕ = c.name ++ codes ": " ++ joined (flat_map (operator_text s t c) c.alone) ++ end_text s t c in
    let last : feeds (codes "\n") ≡ 0 = feeds_right text (codes "\n") e in
    absurd (let one : 1 ≡ 0 = last in omega (arith, one))
empty_case s t c false e = refl

empty_lines : {X : Type 0} (s : SettingData) (t : List Row) (case : X → CaseData) (xs : List X) → feeds (flat_map (λ x. case_line s t (case x)) xs) ≡ 0
    → flat_map (λ x. case_line s t (case x)) xs ≡ []
empty_lines s t case [] e = refl
empty_lines s t case (x ∷ xs) e =
    let rest = flat_map (λ y. case_line s t (case y)) xs in
    ap (λ l. l ++ rest) (empty_case s t (case x) (is_some_aspect (lost_aspects t (case x))) (feeds_left (case_line s t (case x)) rest e))
    ∙ empty_lines s t case xs (feeds_right (case_line s t (case x)) rest e)

empty_text : (s : SettingData) (t : List Row) (os : List OperatorData) (z : List Row) (names : List (List ℕ)) → feeds (old_lines s t os z ++ new_lines s t os z names) ≡ 0
    → old_lines s t os z ++ new_lines s t os z names ≡ []
unfolding old_lines new_lines
empty_text s t os z names e =
    ap (λ l. l ++ new_lines s t os z names) (empty_lines s t (old_case t os z) (tree_rows t) (feeds_left (old_lines s t os z) (new_lines s t os z names) e))
    ∙ empty_lines s t (new_case t os z) names (feeds_right (old_lines s t os z) (new_lines s t os z names) e)

pub count_zero_no_loss : CountZeroNoLoss
count_zero_no_loss s t os z text c e = no_loss s t os z c.names (empty_text s t os z (each_once None c.names) (sym (ap feeds c.lines) ∙ e))
