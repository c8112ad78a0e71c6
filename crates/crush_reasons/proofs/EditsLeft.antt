-- The lines of the edits that are left after the entries of a history.
use Rattle.std.proofs.Common.{◌≡◌, ℕ, zero, suc, ◌+◌, ◌<◌, ◌≤◌, ◌==◌, List, [], ◌∷◌, ◌++◌, cond, drop, length, take, get_or, refl, subst, sym, ap, ◌∙◌, arith, ⊎_elim}
use Rattle.std.proofs.lemmas.Bool.Decides.{eqb_tells, leb_tells}
use Rattle.std.proofs.lemmas.List.{drop-drop, get_or-set_other, get_or-set_same, take_more}
use Rattle.std.proofs.lemmas.List.Sums.{sum_by-append}
use Rattle.std.specs.Option.{option_map_or}
use Rattle.std.specs.Prelude.{Option, None, Some, set, slice_get, slice_index_or}
use Rattle.crush_history.specs.declared.entry.Entry.{Entry}
use Rattle.crush_history.specs.History.{EntryData}
use Rattle.crush_reasons.specs.EditsLeft.{AreLeft, edits_given, entry_place, head_in, head_left, left_behind, line_in, line_place, refused_index}
use Rattle.crush_reasons.specs.Place.{OriginData}
use Rattle.crush_reasons.specs.Replay.{edits_of}

-- how many edits of an operator an entry has
abbrev given : ℕ → EntryData → ℕ
given o e = cond (e.operator == o) (length (edits_of e.call)) 0

given-more : (o : ℕ) (h : List EntryData) (e : EntryData) → edits_given o (h ++ e ∷ []) ≡ edits_given o h + given o e
given-more o h e = let one = sum_by-append (λ (x : EntryData). cond (x.operator == o) (length (edits_of x.call)) 0) h (e ∷ []) in omega (arith, one)

-- an index beyond the end of a list: the list has no element there, and setting an element there changes nothing
past : {X : Type 0} (xs : List X) (i : ℕ) (d : X) → length xs ≤ i → get_or xs i d ≡ d
past [] i d le = refl
past (x ∷ xs) zero d le = absurd (omega (arith, le))
past (x ∷ xs) (suc i) d le = past xs i d (omega (arith, le))

set_past : {X : Type 0} (xs : List X) (i : ℕ) (x : X) → length xs ≤ i → set xs i x ≡ xs
set_past [] i x le = refl
set_past (y ∷ ys) zero x le = absurd (omega (arith, le))
set_past (y ∷ ys) (suc i) x le = ap (λ l. y ∷ l) (set_past ys i x (omega (arith, le)))

abbrev no_lines : List ℕ
no_lines = []

drop-nil : (n : ℕ) → drop n no_lines ≡ no_lines
drop-nil zero = refl
drop-nil (suc n) = refl

-- the lines that are left for the operator of an entry, after this entry
own_left : (left : List (List ℕ)) (e : EntryData) → slice_index_or (left_behind left e) e.operator [] ≡ drop (length (edits_of e.call)) (slice_index_or left e.operator [])
own_left left e = ⊎_elim
    (λ p. let none = past left e.operator [] p.1 in
    ap (λ (l : List (List ℕ)). get_or l e.operator []) (set_past left e.operator _ p.1) ∙ none ∙ sym (drop-nil (length (edits_of e.call))) ∙ ap (drop (length (edits_of e.call))) (sym none))
    (λ p. get_or-set_same left e.operator _ [] (omega (arith, p.1)))
    (leb_tells (length left) e.operator)

pub left_more : (sections left : List (List ℕ)) (h : List EntryData) (e : EntryData) → AreLeft sections left h → AreLeft sections (left_behind left e) (h ++ e ∷ [])
left_more sections left h e are = λ o.
    let count = length (edits_of e.call) in
    ⊎_elim
    (λ p. let same : e.operator ≡ o = p.1 in
    let all : edits_given o (h ++ e ∷ []) ≡ count + edits_given o h = let one : given o e ≡ count = ap (λ b. cond b count 0) p.0 in omega (arith, given-more o h e, one) in
    subst (λ i. slice_index_or (left_behind left e) i [] ≡ drop count (slice_index_or left i [])) same (own_left left e)
    ∙ ap (drop count) (are o)
    ∙ drop-drop count (edits_given o h) (slice_index_or sections o [])
    ∙ ap (λ n. drop n (slice_index_or sections o [])) (omega (arith, all)))
    (λ p. let all : edits_given o (h ++ e ∷ []) ≡ edits_given o h = let none : given o e ≡ 0 = ap (λ b. cond b count 0) p.0 in omega (arith, given-more o h e, none) in
    get_or-set_other left e.operator o _ [] (λ q. p.1 (sym q)) ∙ are o ∙ ap (λ n. drop n (slice_index_or sections o [])) (sym all))
    (eqb_tells e.operator o)

pub left_taken : (sections left more : List (List ℕ)) (entries : List Entry) (i : ℕ) (e : Entry) → AreLeft sections left (take i entries) → more ≡ left_behind left e → i < length entries → e ≡ get_or entries i e
    → AreLeft sections more (take (i + 1) entries)
left_taken sections left more entries i e are is lt at =
    subst (λ (l : List (List ℕ)). AreLeft sections l (take (i + 1) entries)) (sym is)
    (subst (AreLeft sections (left_behind left e)) (sym (take_more entries i e lt ∙ ap (λ (x : Entry). take i entries ++ x ∷ []) (sym at))) (left_more sections left (take i entries) e are))

-- before the first entry, all lines are left
pub all_left : (sections left : List (List ℕ)) → left ≡ sections → AreLeft sections left []
all_left sections left is = λ o. ap (λ (l : List (List ℕ)). slice_index_or l o []) is

-- so the refused edit of an entry has the place that the lines that are left give
get-drop : (n k : ℕ) (xs : List ℕ) → slice_get (drop n xs) k ≡ slice_get xs (n + k)
get-drop zero k xs = ap (slice_get xs) (omega arith)
get-drop (suc n) k [] = refl
get-drop (suc n) k (x ∷ xs) = get-drop n k xs ∙ next (omega arith) where
  next : {m : ℕ} → suc (n + k) ≡ m → slice_get xs (n + k) ≡ slice_get (x ∷ xs) m
  next e = ap (slice_get (x ∷ xs)) e

pub head_is : (origin : ℕ → OriginData) (sections left : List (List ℕ)) (h : List EntryData) (e : EntryData) → AreLeft sections left h → head_left origin left e ≡ entry_place (head_in origin sections) h e
head_is origin sections left h e are = by_index (refused_index e.reply) where
  by_index : (o : Option ℕ) → option_map_or (λ i. line_place origin (line_in left e.operator i)) o [] ≡ option_map_or (λ i. head_in origin sections e.operator (edits_given e.operator h + i)) o []
  by_index None = refl
  by_index (Some i) = ap (line_place origin) (ap (λ (l : List ℕ). slice_get l i) (are e.operator) ∙ get-drop (edits_given e.operator h) i (slice_index_or sections e.operator []))
