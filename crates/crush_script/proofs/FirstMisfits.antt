-- The word that a fault names is the first word of its line that doesn't fit.
use Rattle.std.proofs.Common.{◌≡◌, ◌⊎◌, inl, inr, ℕ, suc, ◌+◌, Bool, true, false, cond, List, [], ◌∷◌, ◌++◌, Option, Some, None, Result, Ok, Err, length, take, is_ok, true≢false, refl, sym, ap, subst, ◌∙◌, arith, nat_lt, length-append}
use Rattle.std.specs.Prelude.{IsOk, bytes_eq, codes, is_some}
use Rattle.std.specs.Str.Parse.{digits_value}
use Rattle.crush_model.proofs.Tested.{bytes_equal}
use Rattle.crush_units.specs.Name.{is_name}
use Rattle.crush_units.specs.Weight.{weight_of_text}
use Rattle.crush_units.specs.declared.weight.WeightFault.{WeightFault}
use Rattle.crush_units.specs.declared.limits.TheConstants.{MOST_PAIRS}
use Rattle.crush_edits.specs.declared.edit.Edit.TheVariants.{Place, Move, Swap, Reweight, ReweightSubtree, Remove, AddBucket, Rename, SetClass, RemoveClass}
use Rattle.crush_edits.specs.declared.location.Pair.{Pair}
use Rattle.crush_history.specs.Said.{device_named}
use Rattle.crush_text.specs.Flow.{◌>>=◌}
use Rattle.crush_script.specs.declared.command.Command.{Command}
use Rattle.crush_script.specs.declared.command.Command.TheVariants as says
use Rattle.crush_script.specs.declared.command.LineFault.{LineFault}
use Rattle.crush_script.specs.declared.command.LineFault.TheVariants.{Word, NoOperator, NoSuchCommand}
use Rattle.crush_script.specs.declared.command.Placing.{Placing}
use Rattle.crush_script.specs.declared.fault.Due.{Due}
use Rattle.crush_script.specs.declared.fault.Due.TheVariants as due
use Rattle.crush_script.specs.declared.fault.Misfit.{Misfit}
use Rattle.crush_edits.specs.declared.keyword.Keyword.{Keyword}
use Rattle.crush_edits.specs.declared.keyword.Keyword.TheVariants as word
use Rattle.crush_edits.specs.Keyword.{keyword_of}
use Rattle.crush_script.specs.Words.{pair_of, is_pair, is_count, count_of}
use Rattle.crush_script.specs.Command.{misfit, name_at, weight_at, end_at, with_pair, with_pairs, location_at, placing_at, located_at, one_name_at, two_names_at, name_and_weight_at, edit_of, edit_by, edit_at, count_at, begin_at, command, operator}
use Rattle.crush_script.specs.FirstMisfit.{IsDue, may_end, FirstMisfit, MisfitsOfCommands, MisfitsOfOperators}

-- a way to read the words of a line
abbrev Parse : Type 0 → Type 0
Parse X = List (List ℕ) → Result X LineFault

no_ok : {X : Type 0} (r : Result X LineFault) (e : LineFault) → r ≡ Err e → IsOk r → ⊥
no_ok r e is ok = true≢false (sym ok ∙ ap is_ok is)

same_fault : {X : Type 0} (a b : LineFault) → a ≡ b → ◌≡◌ {A = Result X LineFault} (Err a) (Err b)
same_fault a b is = λ i. Err (is i)

no_command : {X : Type 0} (m : Misfit) → ◌≡◌ {A = Result X LineFault} (Err NoSuchCommand) (Err (Word m)) → ⊥
no_command m e = cc

no_section : {X : Type 0} (m : Misfit) → ◌≡◌ {A = Result X LineFault} (Err NoOperator) (Err (Word m)) → ⊥
no_section m e = cc

-- the first word fits (`Fits`): it has the required form, and with certain words after it the line can be read; or it doesn't fit (`Stops`), and the line can't be read, whatever follows
record Fits {X : Type 0} (parse : Parse X) (d : Due) (w : List ℕ) : Type 0 where
  is_due : IsDue d w
  more : List (List ℕ)
  whole : IsOk (parse (w ∷ more))

record Stops {X : Type 0} (parse : Parse X) (k : ℕ) (d : Due) (w : List ℕ) : Type 0 where
  same : (rest : List (List ℕ)) → parse (w ∷ rest) ≡ Err (misfit k d)
  not_due : IsDue d w → ⊥

abbrev Judges : {X : Type 0} → Parse X → ℕ → Due → Type 0
Judges parse k d = (w : List ℕ) → Fits parse d w ⊎ Stops parse k d w

module _ {X : Type 0} (parse : Parse X) (k : ℕ) (d : Due) (judges : Judges parse k d) where
  fitting : (w : List ℕ) → IsDue d w → (more : List (List ℕ)) × IsOk (parse (w ∷ more))
  fitting w is = by (judges w) where
    by : Fits parse d w ⊎ Stops parse k d w → (more : List (List ℕ)) × IsOk (parse (w ∷ more))
    by (inl f) = (f.more, f.whole)
    by (inr s) = absurd (s.not_due is)

  only_due : (w : List ℕ) (more : List (List ℕ)) → IsOk (parse (w ∷ more)) → IsDue d w
  only_due w more ok = by (judges w) where
    by : Fits parse d w ⊎ Stops parse k d w → IsDue d w
    by (inl f) = f.is_due
    by (inr s) = absurd (no_ok _ _ (s.same more) ok)

  -- the word is missing, or it is there and doesn't fit
  missing : may_end d ≡ false → FirstMisfit parse [] 0 d
  missing goes_on = record {
    within = omega arith;
    fits = fitting;
    only = only_due;
    ends = λ e. absurd (true≢false (sym e ∙ goes_on));
    wrong = λ less more ok. absurd (omega (arith, less));
  }

  wrong_word : (may_end d ≡ true → IsOk (parse [])) → (w : List ℕ) (rest : List (List ℕ)) → Stops parse k d w → FirstMisfit parse (w ∷ rest) 0 d
  wrong_word ends w rest s = record {
    within = omega arith;
    fits = fitting;
    only = only_due;
    ends = ends;
    wrong = λ less more ok. no_ok _ _ (s.same more) ok;
  }

-- the words of a line from index k on have a first misfit
record Misfits {X : Type 0} (parse : Parse X) (k : ℕ) (words : List (List ℕ)) (m : Misfit) : Type 0 where
  index : ℕ
  place : m.word ≡ k + index
  first : FirstMisfit parse words index m.due

abbrev Tells : {X : Type 0} → Parse X → ℕ → Type 0
Tells parse k = (words : List (List ℕ)) (m : Misfit) → parse words ≡ Err (Word m) → Misfits parse k words m

here : {X : Type 0} (parse : Parse X) (k : ℕ) (d : Due) (words : List (List ℕ)) (m : Misfit) → ◌≡◌ {A = Result X LineFault} (Err (misfit k d)) (Err (Word m)) → FirstMisfit parse words 0 d → Misfits parse k words m
here parse k d words m told is =
    let same : ◌≡◌ {A = Misfit} (record { word = k; due = d }) m = cc in
    record { index = 0; place = omega (arith, ap (λ (x : Misfit). x.word) same); first = subst (λ (x : Misfit). FirstMisfit parse words 0 x.due) same is }

-- if the first word fits, and the words after it are read by `next`, then the first misfit of `next` is the first misfit of the line
passes : {X : Type 0} (parse next : Parse X) (k : ℕ) (w : List ℕ) (rest : List (List ℕ)) (m : Misfit) → ((r : List (List ℕ)) → parse (w ∷ r) ≡ next r) → Misfits next (k + 1) rest m → Misfits parse k (w ∷ rest) m
passes parse next k w rest m same is = record {
  index = suc is.index;
  place = omega (arith, is.place);
  first = record {
    within = omega (arith, is.first.within);
    fits = λ v fit. let x = is.first.fits v fit in (x.0, ap is_ok (same (take is.index rest ++ v ∷ x.0)) ∙ x.1);
    only = λ v more ok. is.first.only v more (sym (ap is_ok (same (take is.index rest ++ v ∷ more))) ∙ ok);
    ends = λ e. ap is_ok (same (take is.index rest)) ∙ is.first.ends e;
    wrong = λ less more ok. is.first.wrong (omega (arith, less)) more (sym (ap is_ok (same (take (suc is.index) rest ++ more))) ∙ ok);
  };
}

-- the same if the value is computed from the value that was read
abbrev made : {X Y : Type 0} → Parse X → (X → Y) → Parse Y
made parse f words = parse words >>= (λ x. Ok (f x))

made_ok : {X Y : Type 0} (f : X → Y) (r : Result X LineFault) → is_ok (r >>= (λ x. Ok (f x))) ≡ is_ok r
made_ok f (Ok x) = refl
made_ok f (Err e) = refl

made_fault : {X Y : Type 0} (f : X → Y) (r : Result X LineFault) (e : LineFault) → (r >>= (λ x. Ok (f x))) ≡ Err e → r ≡ Err e
made_fault f (Ok x) e is = absurd (no_ok _ e is refl)
made_fault f (Err o) e is = same_fault o e cc

makes : {X Y : Type 0} (parse : Parse X) (f : X → Y) (k : ℕ) → Tells parse k → Tells (made parse f) k
makes parse f k tells words m told =
    let is = tells words m (made_fault f (parse words) (Word m) told) in
    record {
      index = is.index;
      place = is.place;
      first = record {
        within = is.first.within;
        fits = λ v fit. let x = is.first.fits v fit in (x.0, made_ok f (parse (take is.index words ++ v ∷ x.0)) ∙ x.1);
        only = λ v more ok. is.first.only v more (sym (made_ok f (parse (take is.index words ++ v ∷ more))) ∙ ok);
        ends = λ e. made_ok f (parse (take is.index words)) ∙ is.first.ends e;
        wrong = λ less more ok. is.first.wrong less more (sym (made_ok f (parse (take (suc is.index) words ++ more))) ∙ ok);
      };
    }

-- THE END of a line
end_stops : {X : Type 0} (k : ℕ) (value : X) (w : List ℕ) → Stops (end_at k value) k due.End w
unfolding end_at
end_stops k value w = record { same = λ r. refl; not_due = λ h. h }

end_ok : {X : Type 0} (k : ℕ) (value : X) → IsOk (end_at k value [])
unfolding end_at
end_ok k value = refl

end_tells : {X : Type 0} (k : ℕ) (value : X) → Tells (end_at k value) k
end_tells k value [] m told = absurd (no_ok _ (Word m) told (end_ok k value))
end_tells k value (w ∷ rest) m told =
    let s = end_stops k value w in
    here (end_at k value) k due.End (w ∷ rest) m (sym (s.same rest) ∙ told) (wrong_word (end_at k value) k due.End (λ v. inr (end_stops k value v)) (λ e. end_ok k value) w rest s)

-- A NAME, followed by words that are read by a parser that accepts certain words
record Completes {X : Type 0} (parse : Parse X) : Type 0 where
  more : List (List ℕ)
  whole : IsOk (parse more)

abbrev with_name : {X : Type 0} → ℕ → (List ℕ → Parse X) → Parse X
with_name k next words = name_at k due.Name words >>= λ r. next r.value r.rest

name_same : {X : Type 0} (k : ℕ) (next : List ℕ → Parse X) (w : List ℕ) → is_name w ≡ true → (r : List (List ℕ)) → with_name k next (w ∷ r) ≡ next w r
unfolding name_at
name_same k next w is r = rw is refl

a_name : is_name (codes "a") ≡ true
a_name = refl

name_completes : {X : Type 0} (k : ℕ) (next : List ℕ → Parse X) → Completes (next (codes "a")) → Completes (with_name k next)
name_completes k next c = record { more = codes "a" ∷ c.more; whole = ap is_ok (name_same k next (codes "a") a_name c.more) ∙ c.whole }

module _ {X : Type 0} (k : ℕ) (next : List ℕ → Parse X) (completes : (n : List ℕ) → Completes (next n)) (tells : (n : List ℕ) → Tells (next n) (k + 1)) where
  name_stops : (w : List ℕ) → is_name w ≡ false → Stops (with_name k next) k due.Name w
  unfolding name_at
  name_stops w is = record { same = λ r. rw is refl; not_due = λ h. true≢false (sym h ∙ is) }

  name_judges : Judges (with_name k next) k due.Name
  name_judges w = by (is_name w) refl where
    by : (b : Bool) → is_name w ≡ b → Fits (with_name k next) due.Name w ⊎ Stops (with_name k next) k due.Name w
    by true is = let c = completes w in inl (record { is_due = is; more = c.more; whole = ap is_ok (name_same k next w is c.more) ∙ c.whole })
    by false is = inr (name_stops w is)

  none_named : with_name k next [] ≡ Err (misfit k due.Name)
  unfolding name_at
  none_named = refl

  name_tells : Tells (with_name k next) k
  name_tells [] m told = here (with_name k next) k due.Name [] m (sym none_named ∙ told) (missing (with_name k next) k due.Name name_judges refl)
  name_tells (w ∷ rest) m told = by (is_name w) refl where
    by : (b : Bool) → is_name w ≡ b → Misfits (with_name k next) k (w ∷ rest) m
    by true is = passes (with_name k next) (next w) k w rest m (name_same k next w is) (tells w rest m (sym (name_same k next w is rest) ∙ told))
    by false is = let s = name_stops w is in here (with_name k next) k due.Name (w ∷ rest) m (sym (s.same rest) ∙ told) (wrong_word (with_name k next) k due.Name name_judges (λ e. absurd (true≢false (sym e))) w rest s)

-- A WEIGHT
abbrev with_weight : {X : Type 0} → ℕ → (ℕ → Parse X) → Parse X
with_weight k next words = weight_at k words >>= λ r. next r.value r.rest

weight_same : {X : Type 0} (k : ℕ) (next : ℕ → Parse X) (w : List ℕ) (n : ℕ) → weight_of_text w ≡ Ok n → (r : List (List ℕ)) → with_weight k next (w ∷ r) ≡ next n r
unfolding weight_at
weight_same k next w n is r = rw is refl

a_weight : weight_of_text (codes "1") ≡ Ok 65536
a_weight = refl

weight_completes : {X : Type 0} (k : ℕ) (next : ℕ → Parse X) → Completes (next 65536) → Completes (with_weight k next)
weight_completes k next c = record { more = codes "1" ∷ c.more; whole = ap is_ok (weight_same k next (codes "1") 65536 a_weight c.more) ∙ c.whole }

module _ {X : Type 0} (k : ℕ) (next : ℕ → Parse X) (completes : (n : ℕ) → Completes (next n)) (tells : (n : ℕ) → Tells (next n) (k + 1)) where
  weight_stops : (w : List ℕ) (e : WeightFault) → weight_of_text w ≡ Err e → Stops (with_weight k next) k due.Weight w
  unfolding weight_at
  weight_stops w e is = record { same = λ r. rw is refl; not_due = λ h. true≢false (sym h ∙ ap is_ok is) }

  weight_judges : Judges (with_weight k next) k due.Weight
  weight_judges w = by (weight_of_text w) refl where
    by : (o : Result ℕ WeightFault) → weight_of_text w ≡ o → Fits (with_weight k next) due.Weight w ⊎ Stops (with_weight k next) k due.Weight w
    by (Ok n) is = let c = completes n in inl (record { is_due = ap is_ok is; more = c.more; whole = ap is_ok (weight_same k next w n is c.more) ∙ c.whole })
    by (Err e) is = inr (weight_stops w e is)

  none_weighed : with_weight k next [] ≡ Err (misfit k due.Weight)
  unfolding weight_at
  none_weighed = refl

  weight_tells : Tells (with_weight k next) k
  weight_tells [] m told = here (with_weight k next) k due.Weight [] m (sym none_weighed ∙ told) (missing (with_weight k next) k due.Weight weight_judges refl)
  weight_tells (w ∷ rest) m told = by (weight_of_text w) refl where
    by : (o : Result ℕ WeightFault) → weight_of_text w ≡ o → Misfits (with_weight k next) k (w ∷ rest) m
    by (Ok n) is = passes (with_weight k next) (next n) k w rest m (weight_same k next w n is) (tells n rest m (sym (weight_same k next w n is rest) ∙ told))
    by (Err e) is = let s = weight_stops w e is in here (with_weight k next) k due.Weight (w ∷ rest) m (sym (s.same rest) ∙ told) (wrong_word (with_weight k next) k due.Weight weight_judges (λ f. absurd (true≢false (sym f))) w rest s)

-- PAIRS, as many as there is room for
module _ (first : ℕ) where
  pair_same : (l : List Pair) (w : List ℕ) → nat_lt (length l) MOST_PAIRS ≡ true → is_pair w ≡ true → (r : List (List ℕ)) → with_pairs first l (w ∷ r) ≡ with_pairs first (l ++ pair_of w ∷ []) r
  unfolding with_pairs with_pair
  pair_same l w room is r = rw (room, is) refl

  pair_stops : (l : List Pair) (w : List ℕ) → nat_lt (length l) MOST_PAIRS ≡ true → is_pair w ≡ false → Stops (with_pairs first l) (first + length l) due.Pair w
  unfolding with_pairs with_pair
  pair_stops l w room is = record { same = λ r. rw (room, is) refl; not_due = λ h. true≢false (sym h ∙ is) }

  full_stops : (l : List Pair) (w : List ℕ) → nat_lt (length l) MOST_PAIRS ≡ false → Stops (with_pairs first l) (first + length l) due.NoMorePairs w
  unfolding with_pairs with_pair
  full_stops l w room = record { same = λ r. rw room refl; not_due = λ h. h }

  pairs_end : (l : List Pair) → IsOk (with_pairs first l [])
  unfolding with_pairs
  pairs_end l = refl

  pair_judges : (l : List Pair) → nat_lt (length l) MOST_PAIRS ≡ true → Judges (with_pairs first l) (first + length l) due.Pair
  pair_judges l room w = by (is_pair w) refl where
    by : (b : Bool) → is_pair w ≡ b → Fits (with_pairs first l) due.Pair w ⊎ Stops (with_pairs first l) (first + length l) due.Pair w
    by true is = inl (record { is_due = is; more = []; whole = ap is_ok (pair_same l w room is []) ∙ pairs_end (l ++ pair_of w ∷ []) })
    by false is = inr (pair_stops l w room is)

  pairs_tell : (words : List (List ℕ)) (l : List Pair) (m : Misfit) → with_pairs first l words ≡ Err (Word m) → Misfits (with_pairs first l) (first + length l) words m
  pairs_tell [] l m told = absurd (no_ok _ (Word m) told (pairs_end l))
  pairs_tell (w ∷ rest) l m told = by (λ behind. pairs_tell rest (l ++ pair_of w ∷ []) m behind) (nat_lt (length l) MOST_PAIRS) refl (is_pair w) refl where
    by : (with_pairs first (l ++ pair_of w ∷ []) rest ≡ Err (Word m) → Misfits (with_pairs first (l ++ pair_of w ∷ [])) (first + length (l ++ pair_of w ∷ [])) rest m)
        → (a : Bool) → nat_lt (length l) MOST_PAIRS ≡ a → (b : Bool) → is_pair w ≡ b → Misfits (with_pairs first l) (first + length l) (w ∷ rest) m
    by tells true room true is =
        let longer : first + length (l ++ pair_of w ∷ []) ≡ first + length l + 1 = omega (arith, length-append l (pair_of w ∷ [])) in
        let others = tells (sym (pair_same l w room is rest) ∙ told) in
        passes (with_pairs first l) (with_pairs first (l ++ pair_of w ∷ [])) (first + length l) w rest m (pair_same l w room is) (subst (λ k. Misfits (with_pairs first (l ++ pair_of w ∷ [])) k rest m) longer others)
    by tells true room false is =
        let s = pair_stops l w room is in
        here (with_pairs first l) (first + length l) due.Pair (w ∷ rest) m (sym (s.same rest) ∙ told) (wrong_word (with_pairs first l) (first + length l) due.Pair (pair_judges l room) (λ e. pairs_end l) w rest s)
    by tells false room b is =
        let s = full_stops l w room in
        here (with_pairs first l) (first + length l) due.NoMorePairs (w ∷ rest) m (sym (s.same rest) ∙ told) (wrong_word (with_pairs first l) (first + length l) due.NoMorePairs (λ v. inr (full_stops l v room)) (λ e. pairs_end l) w rest s)

  location_tells : Tells (location_at first) first
  unfolding location_at
  location_tells words m told = let whole : first + 0 ≡ first = omega arith in subst (λ k. Misfits (location_at first) k words m) whole (pairs_tell words [] m told)

  location_completes : Completes (location_at first)
  unfolding location_at
  location_completes = record { more = []; whole = pairs_end [] }

-- FORMS of commands
end_completes : {X : Type 0} (k : ℕ) (value : X) → Completes (end_at k value)
end_completes k value = record { more = []; whole = end_ok k value }

made_completes : {X Y : Type 0} (parse : Parse X) (f : X → Y) → Completes parse → Completes (made parse f)
made_completes parse f c = record { more = c.more; whole = made_ok f (parse c.more) ∙ c.whole }

abbrev ends : List ℕ → Parse (List ℕ)
ends n = end_at 2 n

one_name_tells : Tells one_name_at 1
unfolding one_name_at
one_name_tells = name_tells 1 ends (λ n. end_completes 2 n) (λ n. end_tells 2 n)

abbrev two_names : List ℕ → List ℕ → Parse (List ℕ × List ℕ)
two_names n o = end_at 3 (n, o)

two_names_tells : Tells two_names_at 1
unfolding two_names_at
two_names_tells = name_tells 1 (λ n. with_name 2 (two_names n)) (λ n. name_completes 2 (two_names n) (end_completes 3 (n, codes "a"))) (λ n. name_tells 2 (two_names n) (λ o. end_completes 3 (n, o)) (λ o. end_tells 3 (n, o)))

abbrev weighed : List ℕ → ℕ → Parse (List ℕ × ℕ)
weighed n u = end_at 3 (n, u)

name_and_weight_tells : Tells name_and_weight_at 1
unfolding name_and_weight_at
name_and_weight_tells = name_tells 1 (λ n. with_weight 2 (weighed n)) (λ n. weight_completes 2 (weighed n) (end_completes 3 (n, 65536))) (λ n. weight_tells 2 (weighed n) (λ u. end_completes 3 (n, u)) (λ u. end_tells 3 (n, u)))

abbrev named : List ℕ → List Pair → List ℕ × List Pair
named n l = (n, l)

located_tells : Tells located_at 1
unfolding located_at
located_tells = name_tells 1 (λ n. made (location_at 2) (named n)) (λ n. made_completes (location_at 2) (named n) (location_completes 2)) (λ n. makes (location_at 2) (named n) 2 (location_tells 2))

-- A DEVICE, whose word is also a name
abbrev put : ℕ → List ℕ → ℕ → List Pair → Placing
put d n w l = record { device = d; name = n; weight = w; at = l }

abbrev put_at : ℕ → List ℕ → ℕ → Parse Placing
put_at d n w = made (location_at 3) (put d n w)

abbrev placed : ℕ → List ℕ → Parse Placing
placed d n = with_weight 2 (put_at d n)

put_completes : (d : ℕ) (n : List ℕ) (w : ℕ) → Completes (put_at d n w)
put_completes d n w = made_completes (location_at 3) (put d n w) (location_completes 3)

placed_completes : (d : ℕ) (n : List ℕ) → Completes (placed d n)
placed_completes d n = weight_completes 2 (put_at d n) (put_completes d n 65536)

placed_tells : (d : ℕ) (n : List ℕ) → Tells (placed d n) 2
placed_tells d n = weight_tells 2 (put_at d n) (put_completes d n) (λ w. makes (location_at 3) (put d n w) 3 (location_tells 3))

placing_same : (w : List ℕ) (d : ℕ) → is_name w ≡ true → device_named w ≡ Some d → (r : List (List ℕ)) → placing_at (w ∷ r) ≡ placed d w r
unfolding placing_at name_at
placing_same w d is at r = rw (is, at) refl

no_name_stops : (w : List ℕ) → is_name w ≡ false → Stops placing_at 1 due.Device w
unfolding placing_at name_at
no_name_stops w is = record { same = λ r. rw is refl; not_due = λ h. true≢false (sym h.0 ∙ is) }

no_device_stops : (w : List ℕ) → is_name w ≡ true → device_named w ≡ None → Stops placing_at 1 due.Device w
unfolding placing_at name_at
no_device_stops w is none = record { same = λ r. rw (is, none) refl; not_due = λ h. true≢false (sym h.1 ∙ ap is_some none) }

placing_judges : Judges placing_at 1 due.Device
placing_judges w = by (is_name w) refl (device_named w) refl where
  by : (b : Bool) → is_name w ≡ b → (o : Option ℕ) → device_named w ≡ o → Fits placing_at due.Device w ⊎ Stops placing_at 1 due.Device w
  by false is o at = inr (no_name_stops w is)
  by true is None at = inr (no_device_stops w is at)
  by true is (Some d) at = let c = placed_completes d w in inl (record { is_due = (is, ap is_some at); more = c.more; whole = ap is_ok (placing_same w d is at c.more) ∙ c.whole })

no_placing : placing_at [] ≡ Err (misfit 1 due.Device)
unfolding placing_at name_at
no_placing = refl

placing_tells : Tells placing_at 1
placing_tells [] m told = here placing_at 1 due.Device [] m (sym no_placing ∙ told) (missing placing_at 1 due.Device placing_judges refl)
placing_tells (w ∷ rest) m told = by (is_name w) refl (device_named w) refl where
  stops : Stops placing_at 1 due.Device w → Misfits placing_at 1 (w ∷ rest) m
  stops s = here placing_at 1 due.Device (w ∷ rest) m (sym (s.same rest) ∙ told) (wrong_word placing_at 1 due.Device placing_judges (λ e. absurd (true≢false (sym e))) w rest s)

  by : (b : Bool) → is_name w ≡ b → (o : Option ℕ) → device_named w ≡ o → Misfits placing_at 1 (w ∷ rest) m
  by false is o at = stops (no_name_stops w is)
  by true is None at = stops (no_device_stops w is at)
  by true is (Some d) at = passes placing_at (placed d w) 1 w rest m (placing_same w d is at) (placed_tells d w rest m (sym (placing_same w d is at rest) ∙ told))

-- `begin` and `begin at N`
abbrev begun : ℕ → Parse Command
begun n = end_at 3 (says.Begin (Some n))

abbrev counted : Parse Command
counted words = count_at 2 words >>= λ seen. begun seen.value seen.rest

count_same : (w : List ℕ) (n : ℕ) → count_of w ≡ Some n → (r : List (List ℕ)) → counted (w ∷ r) ≡ begun n r
unfolding count_at
count_same w n is r = rw is refl

count_stops : (w : List ℕ) → count_of w ≡ None → is_count w ≡ false → Stops counted 2 due.Changes w
unfolding count_at
count_stops w none is = record { same = λ r. rw none refl; not_due = λ h. true≢false (sym h ∙ is) }

no_count : (w : List ℕ) → is_count w ≡ false → count_of w ≡ None
no_count w is = rw is refl

a_count : (w : List ℕ) → is_count w ≡ true → (n : ℕ) × (count_of w ≡ Some n)
a_count w is = (digits_value 10 w, rw is refl)

count_judges : Judges counted 2 due.Changes
count_judges w = by (is_count w) refl where
  by : (b : Bool) → is_count w ≡ b → Fits counted due.Changes w ⊎ Stops counted 2 due.Changes w
  by true is = let n = a_count w is in inl (record { is_due = is; more = []; whole = ap is_ok (count_same w n.0 n.1 []) ∙ end_ok 3 (says.Begin (Some n.0)) })
  by false is = inr (count_stops w (no_count w is) is)

none_counted : counted [] ≡ Err (misfit 2 due.Changes)
unfolding count_at
none_counted = refl

counted_tells : Tells counted 2
counted_tells [] m told = here counted 2 due.Changes [] m (sym none_counted ∙ told) (missing counted 2 due.Changes count_judges refl)
counted_tells (w ∷ rest) m told = by (is_count w) refl where
  by : (b : Bool) → is_count w ≡ b → Misfits counted 2 (w ∷ rest) m
  by true is = let n = a_count w is in passes counted (begun n.0) 2 w rest m (count_same w n.0 n.1) (end_tells 3 (says.Begin (Some n.0)) rest m (sym (count_same w n.0 n.1 rest) ∙ told))
  by false is = let s = count_stops w (no_count w is) is in here counted 2 due.Changes (w ∷ rest) m (sym (s.same rest) ∙ told) (wrong_word counted 2 due.Changes count_judges (λ e. absurd (true≢false (sym e))) w rest s)

no_changes : is_count (codes "0") ≡ true
no_changes = refl

begin_same : (w : List ℕ) → bytes_eq w (codes "at") ≡ true → (r : List (List ℕ)) → begin_at (w ∷ r) ≡ counted r
unfolding begin_at
begin_same w is r = rw is refl

begin_stops : (w : List ℕ) → bytes_eq w (codes "at") ≡ false → Stops begin_at 1 due.At w
unfolding begin_at
begin_stops w is = record { same = λ r. rw is refl; not_due = λ h. true≢false (sym (ap (λ (v : List ℕ). bytes_eq v (codes "at")) h) ∙ is) }

begin_judges : Judges begin_at 1 due.At
begin_judges w = by (bytes_eq w (codes "at")) refl where
  by : (b : Bool) → bytes_eq w (codes "at") ≡ b → Fits begin_at due.At w ⊎ Stops begin_at 1 due.At w
  by true is =
      let n = a_count (codes "0") no_changes in
      inl (record { is_due = bytes_equal w (codes "at") is; more = codes "0" ∷ []; whole = ap is_ok (begin_same w is (codes "0" ∷ []) ∙ count_same (codes "0") n.0 n.1 []) ∙ end_ok 3 (says.Begin (Some n.0)) })
  by false is = inr (begin_stops w is)

begin_ok : IsOk (begin_at [])
unfolding begin_at
begin_ok = refl

begin_tells : Tells begin_at 1
begin_tells [] m told = absurd (no_ok _ (Word m) told begin_ok)
begin_tells (w ∷ rest) m told = by (bytes_eq w (codes "at")) refl where
  by : (b : Bool) → bytes_eq w (codes "at") ≡ b → Misfits begin_at 1 (w ∷ rest) m
  by true is = passes begin_at counted 1 w rest m (begin_same w is) (counted_tells rest m (sym (begin_same w is rest) ∙ told))
  by false is = let s = begin_stops w is in here begin_at 1 due.At (w ∷ rest) m (sym (s.same rest) ∙ told) (wrong_word begin_at 1 due.At begin_judges (λ e. begin_ok) w rest s)

-- LINES with a command
edit_tells : (k : Keyword) → Tells (edit_of k) 1
edit_tells (word.Place how) = makes placing_at (λ (p : Placing). Place how p.device p.name p.weight p.at) 1 placing_tells
edit_tells word.Move = makes located_at (λ (p : List ℕ × List Pair). Move p.0 p.1) 1 located_tells
edit_tells word.SwapBucket = makes two_names_at (λ (p : List ℕ × List ℕ). Swap p.0 p.1) 1 two_names_tells
edit_tells word.Reweight = makes name_and_weight_at (λ (p : List ℕ × ℕ). Reweight p.0 p.1) 1 name_and_weight_tells
edit_tells word.ReweightSubtree = makes name_and_weight_at (λ (p : List ℕ × ℕ). ReweightSubtree p.0 p.1) 1 name_and_weight_tells
edit_tells word.Rm = makes one_name_at Remove 1 one_name_tells
edit_tells word.AddBucket = makes two_names_at (λ (p : List ℕ × List ℕ). AddBucket p.0 p.1) 1 two_names_tells
edit_tells word.RenameBucket = makes two_names_at (λ (p : List ℕ × List ℕ). Rename p.0 p.1) 1 two_names_tells
edit_tells word.SetDeviceClass = makes two_names_at (λ (p : List ℕ × List ℕ). SetClass p.1 p.0) 1 two_names_tells
edit_tells word.RmDeviceClass = makes one_name_at RemoveClass 1 one_name_tells

by_keyword : (o : Option Keyword) → Tells (edit_by o) 1
by_keyword None words m told = absurd (no_command m told)
by_keyword (Some k) words m told = edit_tells k words m told

-- how the words after the first word are read
abbrev behind_first : Bool → Bool → Option Keyword → Parse Command
behind_first begins commits k rest = cond begins (begin_at rest) (cond commits (end_at 1 says.Commit rest) (edit_by k rest >>= λ edit. Ok (says.Edit edit)))

behind_tells : (begins commits : Bool) (k : Option Keyword) → Tells (behind_first begins commits k) 1
behind_tells true commits k = begin_tells
behind_tells false true k = end_tells 1 says.Commit
behind_tells false false k = makes (edit_by k) says.Edit 1 (by_keyword k)

line_tells : {X : Type 0} (parse next : Parse X) (first : List ℕ) (rest : List (List ℕ)) (m : Misfit) → ((r : List (List ℕ)) → parse (first ∷ r) ≡ next r) → Tells next 1 → parse (first ∷ rest) ≡ Err (Word m) → FirstMisfit parse (first ∷ rest) m.word m.due
line_tells parse next first rest m same tells told =
    let is = passes parse next 0 first rest m same (tells rest m (sym (same rest) ∙ told)) in
    subst (λ i. FirstMisfit parse (first ∷ rest) i m.due) (let e : is.index ≡ m.word = omega (arith, is.place) in e) is.first

pub misfits_of_commands : MisfitsOfCommands
unfolding command edit_at
misfits_of_commands [] m told = absurd (no_ok _ (Word m) told refl)
misfits_of_commands (first ∷ rest) m told =
    line_tells command (behind_first (bytes_eq first (codes "begin")) (bytes_eq first (codes "commit")) (keyword_of first)) first rest m (λ r. refl) (behind_tells _ _ _) told

operator_same : (first : List ℕ) → bytes_eq first (codes "%operator") ≡ true → (r : List (List ℕ)) → operator (first ∷ r) ≡ one_name_at r
unfolding operator
operator_same first is r = rw is refl

no_operator : (first : List ℕ) → bytes_eq first (codes "%operator") ≡ false → (r : List (List ℕ)) → operator (first ∷ r) ≡ Err NoOperator
unfolding operator
no_operator first is r = rw is refl

pub misfits_of_operators : MisfitsOfOperators
unfolding operator
misfits_of_operators [] m told = absurd (no_section m told)
misfits_of_operators (first ∷ rest) m told = by (bytes_eq first (codes "%operator")) refl where
  by : (b : Bool) → bytes_eq first (codes "%operator") ≡ b → FirstMisfit operator (first ∷ rest) m.word m.due
  by true is = line_tells operator one_name_at first rest m (operator_same first is) one_name_tells told
  by false is = absurd (no_section m (sym (no_operator first is rest) ∙ told))
