-- Proves that the words of each printed line of a rule lead on, if the map may have the rule as far as it was read.
use Rattle.std.proofs.Common.{◌≡◌, ℕ, suc, ◌<◌, ◌≤◌, ◌^◌, Bool, true, false, List, [], ◌∷◌, ◌++◌, length, Option, Some, None, refl, sym, ap, subst, ◌∙◌, arith, inl, inr}
use Rattle.std.proofs.lemmas.Bool.{ne_eqb}
use Rattle.std.proofs.lemmas.Slice.Eq.{bytes_eq-Decides}
use Rattle.std.proofs.lemmas.Fmt.{decimal_is_IsNumeral}
use Rattle.std.proofs.lemmas.Str.Parse.{digit_from_value}
use Rattle.std.specs.Prelude.{ℤ, pos, negsuc, codes, decimal, unwrap_or, slice_index, nat_eq, bytes_eq, ◌==◌, IfSome, if◌then◌else◌}
use Rattle.std.specs.Fmt.{signed_decimal}
use Rattle.std.specs.List.{starts_with}
use Rattle.std.specs.Str.Parse.{AllDigits}
use Rattle.crush_units.specs.declared.limits.TheConstants.{FARTHEST_COUNT, LARGEST_COUNT, LARGEST_RULE_NUMBER}
use Rattle.crush_edits.specs.Setting.{take, choose, set, emit, RuleData}
use Rattle.crush_edits.specs.Fits.{IsCount}
use Rattle.crush_builder.specs.Built.{Draft, add_rule}
use Rattle.crush_builder.specs.Rules.{complete_bucket_named}
use Rattle.crush_units.specs.Words.{Word, begins_with_key}
use Rattle.crush_print.proofs.PrintedLines.{class_words, size_words, choice_word, order_word}
use Rattle.crush_units.specs.Numbers.{is_signed, signed_value}
use Rattle.crush_text.specs.Role.{bucket_of_word, key, any_word, number, rule_id_key, rule_id, step_word, sets, step_said, step_count, step_type}
use Rattle.crush_text.specs.Form.{second, ruled, at, Form, done, word, passing}
use Rattle.crush_text.specs.Grammar.{new_rule, max_size, sizes, sizes_left, rule_line, with_step, step_done, take_step, choose_step, set_step, step_behind}
use Rattle.crush_text.specs.Flow.{between, amid, arrive}
use Rattle.crush_laws.specs.Admitted.{IsLawfulDraft, IsLawfulState, WordLeads}
use Rattle.crush_laws.proofs.BuiltLines.{plain, Goes, goes_both, idle, decimal_digits, decimal_value, decimal_number}
use Rattle.crush_text.specs.declared.expected.Expected.TheVariants as expect
use Rattle.crush_text.specs.declared.expected.Optional.TheVariants.{Class}
use Rattle.crush_laws.proofs.LeftOut.{forget}

-- SIZES: the words of the sizes lead on
abbrev most_form : Draft → List ℕ → ℕ → List ℕ → Option ℕ → Form
most_form d x n k least = word (key (codes "max_size")) (λ _. word (number LARGEST_RULE_NUMBER) (λ v. done (at (ruled (new_rule x n k least (Some v))) d)))

abbrev least_form : Draft → List ℕ → ℕ → List ℕ → Form
least_form d x n k = word (key (codes "min_size")) (λ _. word (number LARGEST_RULE_NUMBER) (λ v. max_size d x n k (Some v)))

most_goes : (d : Draft) (x : List ℕ) (n : ℕ) (k : List ℕ) (least most : Option ℕ) (others : List (List ℕ)) → IfSome most (λ v. v ≤ LARGEST_RULE_NUMBER) → begins_with_key (codes "max_size") (plain others) ≡ false
    → IsLawfulState (between (at (ruled (new_rule x n k least most)) d))
    → Goes (arrive d (plain (size_words (codes "max_size") most ++ others)) (max_size d x n k least)) (size_words (codes "max_size") most) others (between (at (ruled (new_rule x n k least most)) d))
most_goes d x n k least None others h other l = ap (λ b. forget (if b then amid d (most_form d x n k least) else between (passing (sizes_left least) (at (ruled (new_rule x n k least None)) d)))) other
most_goes d x n k least (Some v) others h other l = (
  amid d (word (number LARGEST_RULE_NUMBER) (λ y. done (at (ruled (new_rule x n k least (Some y))) d))),
  (refl, refl),
  tt,
  (between (at (ruled (new_rule x n k least (Some v))) d), (decimal_number LARGEST_RULE_NUMBER v h (omega (arith, h)), ap (λ y. between (at (ruled (new_rule x n k least (Some y))) d)) (sym (decimal_value v (omega (arith, h))))), l, refl),
)

most_lawful : (d : Draft) (x : List ℕ) (n : ℕ) (k : List ℕ) (least most : Option ℕ) (others : List (List ℕ)) → begins_with_key (codes "max_size") (plain others) ≡ false
    → IsLawfulState (between (at (ruled (new_rule x n k least most)) d)) → IsLawfulState (arrive d (plain (size_words (codes "max_size") most ++ others)) (max_size d x n k least))
most_lawful d x n k least None others other l = subst IsLawfulState (sym (ap (λ b. if b then amid d (most_form d x n k least) else between (passing (sizes_left least) (at (ruled (new_rule x n k least None)) d))) other)) l
most_lawful d x n k least (Some v) others other l = tt

most_first : (most : Option ℕ) (others : List (List ℕ)) → begins_with_key (codes "min_size") (plain others) ≡ false → begins_with_key (codes "min_size") (plain (size_words (codes "max_size") most ++ others)) ≡ false
most_first None others other = other
most_first (Some v) others other = refl

least_goes : (d : Draft) (x : List ℕ) (n : ℕ) (k : List ℕ) (least : Option ℕ) (rest : List (List ℕ)) → IfSome least (λ v. v ≤ LARGEST_RULE_NUMBER) → begins_with_key (codes "min_size") (plain rest) ≡ false
    → IsLawfulState (arrive d (plain rest) (max_size d x n k least))
    → Goes (arrive d (plain (size_words (codes "min_size") least ++ rest)) (sizes d x n k)) (size_words (codes "min_size") least) rest (arrive d (plain rest) (max_size d x n k least))
least_goes d x n k None rest h other l = ap (λ b. forget (if b then amid d (least_form d x n k) else arrive d (plain rest) (max_size d x n k None))) other
least_goes d x n k (Some v) rest h other l = (
  amid d (word (number LARGEST_RULE_NUMBER) (λ y. max_size d x n k (Some y))),
  (refl, refl),
  tt,
  (arrive d (plain rest) (max_size d x n k (Some v)), (decimal_number LARGEST_RULE_NUMBER v h (omega (arith, h)), ap (λ y. arrive d (plain rest) (max_size d x n k (Some y))) (sym (decimal_value v (omega (arith, h))))), l, refl),
)

-- THE HEAD: the words of a rule's head lead on
abbrev type_form : Draft → List ℕ → ℕ → Form
type_form d x n = word (key (codes "type")) (λ _. word (any_word expect.RuleType) (λ k. sizes d x n k))

pub opens_rule : (late : Bool) (d : Draft) (rest : List Word) → WordLeads (between (at (idle late) d)) (codes "rule") rest (amid d (rule_line d))
opens_rule true d rest = (inr (inl refl), refl)
opens_rule false d rest = (inr (inl refl), refl)

sizes_lawful : (d : Draft) (x : List ℕ) (n : ℕ) (k : List ℕ) (least : Option ℕ) (rest : List (List ℕ)) → begins_with_key (codes "min_size") (plain rest) ≡ false
    → IsLawfulState (arrive d (plain rest) (max_size d x n k least)) → IsLawfulState (arrive d (plain (size_words (codes "min_size") least ++ rest)) (sizes d x n k))
sizes_lawful d x n k None rest other l = subst IsLawfulState (sym (ap (λ b. if b then amid d (least_form d x n k) else arrive d (plain rest) (max_size d x n k None)) other)) l
sizes_lawful d x n k (Some v) rest other l = tt

-- the words of a rule's name, id, kind and sizes lead on, if no other size follows
pub rule_head_goes : (late : Bool) (d : Draft) (x : List ℕ) (n : ℕ) (k : List ℕ) (least most : Option ℕ) (others : List (List ℕ)) → n < 10 ^ 10 → IfSome least (λ v. v ≤ LARGEST_RULE_NUMBER) → IfSome most (λ v. v ≤ LARGEST_RULE_NUMBER)
    → begins_with_key (codes "min_size") (plain others) ≡ false → begins_with_key (codes "max_size") (plain others) ≡ false → IsLawfulState (between (at (ruled (new_rule x n k least most)) d))
    → Goes (between (at (idle late) d)) (codes "rule" ∷ x ∷ codes "{" ∷ codes "id" ∷ decimal n ∷ codes "type" ∷ k ∷ (size_words (codes "min_size") least ++ size_words (codes "max_size") most)) others (between (at (ruled (new_rule x n k least most)) d))
rule_head_goes late d x n k least most others le hl hm other another l =
    let rest : List (List ℕ) = size_words (codes "max_size") most ++ others in
    let first = most_first most others other in
    let lawful = most_lawful d x n k least most others another l in
    let ends = goes_both (arrive d (plain (size_words (codes "min_size") least ++ rest)) (sizes d x n k)) (size_words (codes "min_size") least) (size_words (codes "max_size") most) others (arrive d (plain rest) (max_size d x n k least)) (between (at (ruled (new_rule x n k least most)) d))
    (least_goes d x n k least rest hl first lawful) (most_goes d x n k least most others hm another l) in
    goes_both (between (at (idle late) d)) (codes "rule" ∷ x ∷ codes "{" ∷ codes "id" ∷ decimal n ∷ codes "type" ∷ k ∷ []) (size_words (codes "min_size") least ++ size_words (codes "max_size") most) others
    (arrive d (plain (size_words (codes "min_size") least ++ rest)) (sizes d x n k)) (between (at (ruled (new_rule x n k least most)) d))
    (front ((size_words (codes "min_size") least ++ size_words (codes "max_size") most) ++ others) (regroup least most) (sizes_lawful d x n k least rest first lawful)) ends
  where
    regroup : (least most : Option ℕ) → (size_words (codes "min_size") least ++ size_words (codes "max_size") most) ++ others ≡ size_words (codes "min_size") least ++ (size_words (codes "max_size") most ++ others)
    regroup None most = refl
    regroup (Some v) most = refl

    front : (all : List (List ℕ)) → all ≡ size_words (codes "min_size") least ++ (size_words (codes "max_size") most ++ others)
        → IsLawfulState (arrive d (plain (size_words (codes "min_size") least ++ (size_words (codes "max_size") most ++ others))) (sizes d x n k))
        → Goes (between (at (idle late) d)) (codes "rule" ∷ x ∷ codes "{" ∷ codes "id" ∷ decimal n ∷ codes "type" ∷ k ∷ []) all (arrive d (plain (size_words (codes "min_size") least ++ (size_words (codes "max_size") most ++ others))) (sizes d x n k))
    front all e lawful = (
      amid d (rule_line d),
      opens_rule late d (plain ((x ∷ codes "{" ∷ codes "id" ∷ decimal n ∷ codes "type" ∷ k ∷ []) ++ all)),
      tt,
      (
        amid d (word (key (codes "{")) (λ _. word rule_id_key (λ _. word rule_id (λ v. type_form d x v)))),
        (tt, refl),
        tt,
        (
          amid d (word rule_id_key (λ _. word rule_id (λ v. type_form d x v))),
          (refl, refl),
          tt,
          (
            amid d (word rule_id (λ v. type_form d x v)),
            (inl refl, refl),
            tt,
            (
              amid d (type_form d x n),
              (decimal_digits n le, ap (λ v. amid d (type_form d x v)) (sym (decimal_value n le))),
              tt,
              (
                amid d (word (any_word expect.RuleType) (λ y. sizes d x n y)),
                (refl, refl),
                tt,
                (arrive d (plain (size_words (codes "min_size") least ++ (size_words (codes "max_size") most ++ others))) (sizes d x n k), (tt, ap (λ ws. arrive d (plain ws) (sizes d x n k)) (sym e)), lawful, refl),
              ),
            ),
          ),
        ),
      ),
    )

-- STEPS: the words of each kind of step lead on
pub take_goes : (d : Draft) (r : RuleData) (x : List ℕ) (b : ℕ) (class : Option (List ℕ)) (others : List (List ℕ)) → complete_bucket_named d x ≡ Some b → begins_with_key (codes "class") (plain others) ≡ false
    → IsLawfulState (between (at (ruled (with_step r (take b class))) d))
    → Goes (between (at (ruled r) d)) (codes "step" ∷ codes "take" ∷ x ∷ class_words class) others (between (at (ruled (with_step r (take b class))) d))
take_goes d r x b None others named other l =
    let is : bucket_of_word d x ≡ b = ap (λ o. unwrap_or o 0) named in (
      amid d (word step_word (step_behind d r)),
      (inl refl, refl),
      tt,
      (
        amid d (take_step d r),
        (inl refl, refl),
        tt,
        (
          between (passing Class (at (ruled (with_step r (take b None))) d)),
          (
            named ∙ ap (λ v. Some v) (sym is),
            sym (ap (λ c. if c then amid d (word (key (codes "class")) (λ _. word (any_word expect.Class) (λ y. step_done d r (take (bucket_of_word d x) (Some y))))) else between (passing Class (at (ruled (with_step r (take (bucket_of_word d x) None))) d))) other ∙ ap (λ v. between (passing Class (at (ruled (with_step r (take v None))) d))) is),
          ),
          l,
          refl,
        ),
      ),
    )
take_goes d r x b (Some c) others named other l =
    let is : bucket_of_word d x ≡ b = ap (λ o. unwrap_or o 0) named in (
      amid d (word step_word (step_behind d r)),
      (inl refl, refl),
      tt,
      (
        amid d (take_step d r),
        (inl refl, refl),
        tt,
        (
          amid d (word (key (codes "class")) (λ _. word (any_word expect.Class) (λ y. step_done d r (take b (Some y))))),
          (named ∙ ap (λ v. Some v) (sym is), ap (λ v. amid d (word (key (codes "class")) (λ _. word (any_word expect.Class) (λ y. step_done d r (take v (Some y)))))) (sym is)),
          tt,
          (
            amid d (word (any_word expect.Class) (λ y. step_done d r (take b (Some y)))),
            (refl, refl),
            tt,
            (between (at (ruled (with_step r (take b (Some c)))) d), (tt, refl), l, refl),
          ),
        ),
      ),
    )

-- a printed count is read as the same count
no_sign : (ds : List ℕ) → 0 < length ds → AllDigits 10 ds → (slice_index ds 0 == 45) ≡ false
no_sign [] some h = absurd (omega (arith, some))
no_sign (c ∷ ds) some h = let r = digit_from_value c h.0 in ne_eqb c 45 (λ e. omega (arith, r.0, e))

count_form : (z : ℤ) → IsCount z → is_signed (signed_decimal z) ≡ true
count_form (pos n) h = let d = decimal_is_IsNumeral n (omega (arith, h)) in rw (no_sign (decimal n) d.0.0 d.0.1) (decimal_number LARGEST_COUNT n h (omega (arith, h)))
count_form (negsuc n) h = decimal_number FARTHEST_COUNT (suc n) (omega (arith, h)) (omega (arith, h))

count_value : (z : ℤ) → IsCount z → signed_value (signed_decimal z) ≡ z
count_value (pos n) h = let d = decimal_is_IsNumeral n (omega (arith, h)) in rw (no_sign (decimal n) d.0.0 d.0.1) (ap pos (decimal_value n (omega (arith, h))))
count_value (negsuc n) h = rw (decimal_value (suc n) (omega (arith, h))) refl

order_goes : (d : Draft) (r : RuleData) (leaf firstn : Bool) (count : ℤ) (kind : List ℕ) (others : List (List ℕ)) → IsCount count → IsLawfulState (between (at (ruled (with_step r (choose leaf firstn count kind))) d))
    → Goes (amid d (choose_step d r leaf)) (order_word firstn ∷ signed_decimal count ∷ codes "type" ∷ kind ∷ []) others (between (at (ruled (with_step r (choose leaf firstn count kind))) d))
order_goes d r leaf true count kind others h l = (
  amid d (word step_count (λ n. word (key (codes "type")) (λ _. word step_type (λ k. step_done d r (choose leaf true n k))))),
  (inl refl, refl),
  tt,
  (
    amid d (word (key (codes "type")) (λ _. word step_type (λ k. step_done d r (choose leaf true count k)))),
    (count_form count h, ap (λ n. amid d (word (key (codes "type")) (λ _. word step_type (λ k. step_done d r (choose leaf true n k))))) (sym (count_value count h))),
    tt,
    (
      amid d (word step_type (λ k. step_done d r (choose leaf true count k))),
      (refl, refl),
      tt,
      (between (at (ruled (with_step r (choose leaf true count kind))) d), (tt, refl), l, refl),
    ),
  ),
)
order_goes d r leaf false count kind others h l = (
  amid d (word step_count (λ n. word (key (codes "type")) (λ _. word step_type (λ k. step_done d r (choose leaf false n k))))),
  (inr refl, refl),
  tt,
  (
    amid d (word (key (codes "type")) (λ _. word step_type (λ k. step_done d r (choose leaf false count k)))),
    (count_form count h, ap (λ n. amid d (word (key (codes "type")) (λ _. word step_type (λ k. step_done d r (choose leaf false n k))))) (sym (count_value count h))),
    tt,
    (
      amid d (word step_type (λ k. step_done d r (choose leaf false count k))),
      (refl, refl),
      tt,
      (between (at (ruled (with_step r (choose leaf false count kind))) d), (tt, refl), l, refl),
    ),
  ),
)

pub choose_goes : (d : Draft) (r : RuleData) (leaf firstn : Bool) (count : ℤ) (kind : List ℕ) (others : List (List ℕ)) → IsCount count → IsLawfulState (between (at (ruled (with_step r (choose leaf firstn count kind))) d))
    → Goes (between (at (ruled r) d)) (codes "step" ∷ choice_word leaf ∷ order_word firstn ∷ signed_decimal count ∷ codes "type" ∷ kind ∷ []) others (between (at (ruled (with_step r (choose leaf firstn count kind))) d))
choose_goes d r true firstn count kind others h l =
    (amid d (word step_word (step_behind d r)), (inl refl, refl), tt, (amid d (choose_step d r true), (inr (inr (inl refl)), refl), tt, order_goes d r true firstn count kind others h l))
choose_goes d r false firstn count kind others h l =
    (amid d (word step_word (step_behind d r)), (inl refl, refl), tt, (amid d (choose_step d r false), (inr (inl refl), refl), tt, order_goes d r false firstn count kind others h l))

-- a word that begins with `set_` isn't the first word of another kind of step
differ : (w k : List ℕ) → starts_with nat_eq w (codes "set_") ≡ true → starts_with nat_eq k (codes "set_") ≡ false → bytes_eq w k ≡ false
differ w k h g = by_test (bytes_eq w k) refl
  where
    by_test : (b : Bool) → bytes_eq w k ≡ b → bytes_eq w k ≡ false
    by_test true e = absurd (let none : true ≡ false = sym h ∙ ap (λ x. starts_with nat_eq x (codes "set_")) ((bytes_eq-Decides w k).0 e) ∙ g in cc)
    by_test false e = e

pub set_said : (w : List ℕ) → starts_with nat_eq w (codes "set_") ≡ true → step_said w ≡ sets w
set_said w h = rw (differ w (codes "take") h refl, differ w (codes "choose") h refl, differ w (codes "chooseleaf") h refl, differ w (codes "emit") h refl) refl

pub set_goes : (d : Draft) (r : RuleData) (x : List ℕ) (v : ℕ) (others : List (List ℕ)) → starts_with nat_eq x (codes "set_") ≡ true → v ≤ LARGEST_RULE_NUMBER → IsLawfulState (between (at (ruled (with_step r (set x v))) d))
    → Goes (between (at (ruled r) d)) (codes "step" ∷ x ∷ decimal v ∷ []) others (between (at (ruled (with_step r (set x v))) d))
set_goes d r x v others h le l = (
  amid d (word step_word (step_behind d r)),
  (inl refl, refl),
  tt,
  (
    amid d (set_step d r x),
    (inr (inr (inr (inr h))), ap (λ s. arrive d (plain ((decimal v ∷ []) ++ others)) (step_behind d r s)) (sym (set_said x h))),
    tt,
    (between (at (ruled (with_step r (set x v))) d), (decimal_number LARGEST_RULE_NUMBER v le (omega (arith, le)), ap (λ y. between (at (ruled (with_step r (set x y))) d)) (sym (decimal_value v (omega (arith, le))))), l, refl),
  ),
)

pub emit_goes : (d : Draft) (r : RuleData) (others : List (List ℕ)) → IsLawfulState (between (at (ruled (with_step r emit)) d)) → Goes (between (at (ruled r) d)) (codes "step" ∷ codes "emit" ∷ []) others (between (at (ruled (with_step r emit)) d))
emit_goes d r others l =
    (amid d (word step_word (step_behind d r)), (inl refl, refl), tt, (between (at (ruled (with_step r emit)) d), (inr (inr (inr (inl refl))), refl), l, refl))

-- the closing brace of a rule leads on
pub rule_end_goes : (d : Draft) (r : RuleData) (others : List (List ℕ)) → IsLawfulDraft (add_rule d r) → Goes (between (at (ruled r) d)) (codes "}" ∷ []) others (between (at second (add_rule d r)))
rule_end_goes d r others l = (between (at second (add_rule d r)), (inr refl, refl), (l, tt), refl)
