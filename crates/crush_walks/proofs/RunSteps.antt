-- Runs of weights: one more at the end, and one less.
use Rattle.std.proofs.Common.{◌≡◌, ℕ, ◌+◌, suc, List, [], ◌∷◌, ◌++◌, length, ap, sym, ◌∙◌, refl, arith, append-nil, append_assoc, reverse, replicate}
use Rattle.std.specs.Prelude.{Result, Ok, Err, OnOk}
use Rattle.std.proofs.lemmas.List.{replicate_more, reverse-append, reverse-reverse}
use Rattle.crush_walks.specs.Runs.{next_weight, later_weights, weights_of_run, weights_of, weights_left}
use Rattle.crush_walks.specs.declared.runs.WeightRun.{WeightRun}

-- RUNS: the weights of the last run are the last weights
weights_of-append : (xs ys : List WeightRun) → weights_of (xs ++ ys) ≡ weights_of xs ++ weights_of ys
weights_of-append [] ys = refl
weights_of-append (r ∷ xs) ys = ap (λ z. weights_of_run r ++ z) (weights_of-append xs ys) ∙ sym (append_assoc (weights_of_run r) (weights_of xs) (weights_of ys))

pub weights_of-last : (xs : List WeightRun) (r : WeightRun) → weights_of (xs ++ r ∷ []) ≡ weights_of xs ++ weights_of_run r
weights_of-last xs r = weights_of-append xs (r ∷ []) ∙ ap (λ z. weights_of xs ++ z) (append-nil (weights_of_run r))

-- a weight that is added to the last run
pub longer : (w v m : ℕ) → w ≡ v → weights_of_run (record { weight = w; more = m + 1 }) ≡ weights_of_run (record { weight = w; more = m }) ++ v ∷ []
longer w v m same = ap (λ z. w ∷ z) (sym (replicate_more m w)) ∙ ap (λ z. weights_of_run (record { weight = w; more = m }) ++ z ∷ []) same

pub put_into : (old rest : List WeightRun) (last run : WeightRun) (w : ℕ) → old ≡ rest ++ last ∷ [] → weights_of_run run ≡ weights_of_run last ++ w ∷ [] → weights_of (rest ++ run ∷ []) ≡ weights_of old ++ w ∷ []
put_into old rest last run w is more =
    weights_of-last rest run ∙ ap (λ z. weights_of rest ++ z) more ∙ sym (append_assoc (weights_of rest) (weights_of_run last) (w ∷ []))
    ∙ ap (λ z. z ++ w ∷ []) (sym (ap weights_of is ∙ weights_of-last rest last))

pub same_start : {X E : Type 0} (x : Result X E) (old start new : List WeightRun) (w : ℕ) → weights_of start ≡ weights_of old → OnOk x (weights_of new ≡ weights_of start ++ w ∷ []) → OnOk x (weights_of new ≡ weights_of old ++ w ∷ [])
same_start (Ok x) old start new w same is = is ∙ ap (λ z. z ++ w ∷ []) same
same_start (Err e) old start new w same is = tt

-- a weight that begins a new run
pub put_behind : (old new : List WeightRun) (run : WeightRun) (w : ℕ) → new ≡ old ++ run ∷ [] → weights_of_run run ≡ w ∷ [] → weights_of new ≡ weights_of old ++ w ∷ []
put_behind old new run w is one = ap weights_of is ∙ weights_of-last old run ∙ ap (λ z. weights_of old ++ z) one

-- RUNS IN REVERSE ORDER
pub left_of-last : (xs : List WeightRun) (r : WeightRun) → weights_left (xs ++ r ∷ []) ≡ weights_of_run r ++ weights_left xs
left_of-last xs r = ap weights_of (reverse-append xs (r ∷ []))

pub left_of-reverse : (old new : List WeightRun) → new ≡ reverse old → weights_left new ≡ weights_of old
left_of-reverse old new is = ap weights_left is ∙ ap weights_of (reverse-reverse old)

-- the next weight is that of the last run
pub next_left : (old rest : List WeightRun) (r : WeightRun) → old ≡ rest ++ r ∷ [] → r.weight ≡ next_weight (weights_left old)
next_left old rest r is = sym (ap (λ z. next_weight (weights_left z)) is ∙ ap next_weight (left_of-last rest r))

-- there is no next weight if there is no run
no_runs : (xs : List WeightRun) → length xs ≡ 0 → xs ≡ []
no_runs [] e = refl
no_runs (x ∷ xs) e = absurd (omega (arith, e))

pub next_none : (old : List WeightRun) → length old ≡ 0 → 0 ≡ next_weight (weights_left old)
next_none old none = sym (ap (λ z. next_weight (weights_left z)) (no_runs old none))

pub later_empty : (old new : List WeightRun) → length old ≡ 0 → length new ≡ 0 → weights_left new ≡ later_weights (weights_left old)
later_empty old new none empty = ap weights_left (no_runs new empty) ∙ sym (ap (λ z. later_weights (weights_left z)) (no_runs old none))

-- after it are the other weights of that run, or the runs before that run
pub later_left : (old rest : List WeightRun) (r : WeightRun) → old ≡ rest ++ r ∷ [] → later_weights (weights_left old) ≡ replicate r.more r.weight ++ weights_left rest
later_left old rest r is = ap (λ z. later_weights (weights_left z)) is ∙ ap later_weights (left_of-last rest r)

abbrev pub shorter : WeightRun → ℕ → WeightRun
shorter r m = record r { more = m }

pub later_shorter : (old rest new : List WeightRun) (r : WeightRun) (m : ℕ) → old ≡ rest ++ r ∷ [] → new ≡ rest ++ shorter r m ∷ [] → r.more ≡ suc m → weights_left new ≡ later_weights (weights_left old)
later_shorter old rest new r m was is more =
    ap weights_left is ∙ left_of-last rest (shorter r m) ∙ sym (later_left old rest r was ∙ ap (λ k. replicate k r.weight ++ weights_left rest) more)

pub later_none : (old rest : List WeightRun) (r : WeightRun) → old ≡ rest ++ r ∷ [] → r.more ≡ 0 → weights_left rest ≡ later_weights (weights_left old)
later_none old rest r was none = sym (later_left old rest r was ∙ ap (λ k. replicate k r.weight ++ weights_left rest) none)
