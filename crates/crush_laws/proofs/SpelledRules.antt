-- Proves that the words of a rule lead to the draft that the document means.
use Rattle.std.proofs.Common.{◌≡◌, ℕ, Bool, true, false, List, [], ◌∷◌, ◌++◌, Option, Some, None, refl, sym, ap, subst, ◌∙◌, append_assoc, append-nil, inl, inr}
use Rattle.std.proofs.lemmas.List.Elements.{All-head, All-tail}
use Rattle.std.specs.Prelude.{ℤ, All, codes, map, unwrap_or, option_and_then}
use Rattle.crush_units.specs.declared.id.ItemId.{ItemId}
use Rattle.crush_units.specs.declared.limits.TheConstants.{LARGEST_RULE_NUMBER}
use Rattle.crush_model.specs.Table.{Row, id_named}
use Rattle.crush_edits.specs.Setting.{KindData, TunableData, StepData, take, choose, set, RuleData}
use Rattle.crush_edits.specs.Stops.{number_of, bucket_named}
use Rattle.crush_builder.specs.Built.{Draft, nothing, add_rule}
use Rattle.crush_builder.specs.Building.{closed_item}
use Rattle.crush_builder.specs.Rules.{complete_bucket_named}
use Rattle.crush_units.specs.Words.{begins_with_key}
use Rattle.crush_text.specs.Form.{second, ruled, at, Form, word, optional, passing, done}
use Rattle.crush_text.specs.Role.{key, any_word, step_word, bucket_of_word}
use Rattle.crush_text.specs.Grammar.{new_rule, max_size, sizes, sizes_left, rule_line, with_step, step_done, set_step, step_behind}
use Rattle.crush_text.specs.Flow.{State, between, amid, arrive}
use Rattle.crush_laws.specs.Final.{LeadTo}
use Rattle.crush_laws.specs.Document.{StepLine, takes, chooses, sets, emits, RuleLines}
use Rattle.crush_laws.specs.Spells.{SpellsEach, SpellsClass, SpellsSize, IsSigned, SpellsStep, SpellsRule, choice_word, order_word}
use Rattle.crush_laws.specs.Meaning.{step_in, rule_in, TakesBucket}
use Rattle.crush_laws.proofs.BuiltLines.{plain, idle}
use Rattle.crush_laws.proofs.BuiltRules.{opens_rule, set_said}
use Rattle.crush_laws.proofs.SpelledLines.{words_lead, lacking, number_digits, draft}
use Rattle.crush_text.specs.declared.expected.Expected.TheVariants as expect
use Rattle.crush_text.specs.declared.expected.Optional.TheVariants.{Class}
use Rattle.crush_laws.proofs.LeftOut.{lead_so}

-- THE STEPS of a rule lead on
-- between two statements each bucket is closed
closed : (o : Option ItemId) → option_and_then (closed_item nothing) o ≡ o
closed None = refl
closed (Some i) = refl

module _ (ks : List KindData) (ts : List TunableData) (rs : List RuleData) (t : List Row) (a : ℕ) (e : Draft) where
  abbrev here : Draft
  here = draft ks ts rs t a

  -- the state in a rule, as far as the rule was read
  abbrev inside : RuleData → State
  inside r = between (at (ruled r) here)

  named : (x : List ℕ) → complete_bucket_named here x ≡ bucket_named t x
  named x = ap (option_and_then number_of) (closed (id_named t x))

  taken : (x : List ℕ) → bucket_of_word here x ≡ unwrap_or (bucket_named t x) 0
  taken x = ap (λ o. unwrap_or o 0) (named x)

  -- the form that is due after the bucket of a `take` step: a class or nothing
  abbrev take_form : RuleData → ℕ → Form
  take_form r b = optional (codes "class") (word (key (codes "class")) (λ _. word (any_word expect.Class) (λ c. step_done here r (take b (Some c))))) (done (passing Class (at (ruled (with_step r (take b None))) here)))

  class_leads : (r : RuleData) (b : ℕ) (class : Option (List ℕ)) (ws rest : List (List ℕ)) → SpellsClass class ws rest → begins_with_key (codes "class") (plain rest) ≡ false → LeadTo (inside (with_step r (take b class))) (plain rest) e
      → LeadTo (arrive here (plain ws) (take_form r b)) (plain ws) e
  class_leads r b None ws rest h other k =
      subst (λ (x : List (List ℕ)). LeadTo (arrive here (plain x) (take_form r b)) (plain x) e) (sym h) (lacking here (take_form r b) rest e other (lead_so (between (passing Class (at (ruled (with_step r (take b None))) here))) (inside (with_step r (take b None))) (plain rest) e refl k))
  class_leads r b (Some c) ws rest h other k =
      let all : List (List ℕ) = codes "class" ∷ c ∷ rest in
      subst (λ (x : List (List ℕ)). LeadTo (arrive here (plain x) (take_form r b)) (plain x) e) (sym h) (words_lead (arrive here (plain all) (take_form r b)) (codes "class" ∷ c ∷ []) rest e (refl, (tt, tt)) k)

  choice_leads : (r : RuleData) (leaf firstn : Bool) (n : ℤ) (kind w : List ℕ) (rest : List (List ℕ)) → IsSigned n w → LeadTo (inside (with_step r (choose leaf firstn n kind))) (plain rest) e
      → LeadTo (inside r) (plain (codes "step" ∷ choice_word leaf ∷ order_word firstn ∷ w ∷ codes "type" ∷ kind ∷ rest)) e
  choice_leads r false true n kind w rest h k = words_lead (inside r) (codes "step" ∷ codes "choose" ∷ codes "firstn" ∷ w ∷ codes "type" ∷ kind ∷ []) rest e (inl refl, (inr (inl refl), (inl refl, (h.0, (refl, (tt, tt))))))
      (subst (λ (v : ℤ). LeadTo (inside (with_step r (choose false true v kind))) (plain rest) e) (sym h.1) k)
  choice_leads r false false n kind w rest h k = words_lead (inside r) (codes "step" ∷ codes "choose" ∷ codes "indep" ∷ w ∷ codes "type" ∷ kind ∷ []) rest e (inl refl, (inr (inl refl), (inr refl, (h.0, (refl, (tt, tt))))))
      (subst (λ (v : ℤ). LeadTo (inside (with_step r (choose false false v kind))) (plain rest) e) (sym h.1) k)
  choice_leads r true true n kind w rest h k = words_lead (inside r) (codes "step" ∷ codes "chooseleaf" ∷ codes "firstn" ∷ w ∷ codes "type" ∷ kind ∷ []) rest e (inl refl, (inr (inr (inl refl)), (inl refl, (h.0, (refl, (tt, tt))))))
      (subst (λ (v : ℤ). LeadTo (inside (with_step r (choose true true v kind))) (plain rest) e) (sym h.1) k)
  choice_leads r true false n kind w rest h k = words_lead (inside r) (codes "step" ∷ codes "chooseleaf" ∷ codes "indep" ∷ w ∷ codes "type" ∷ kind ∷ []) rest e (inl refl, (inr (inr (inl refl)), (inr refl, (h.0, (refl, (tt, tt))))))
      (subst (λ (v : ℤ). LeadTo (inside (with_step r (choose true false v kind))) (plain rest) e) (sym h.1) k)

  step_leads : (x : StepLine) (r : RuleData) (ws rest : List (List ℕ)) → SpellsStep x ws rest → TakesBucket t x → begins_with_key (codes "class") (plain rest) ≡ false → LeadTo (inside (with_step r (step_in t x))) (plain rest) e
      → LeadTo (inside r) (plain ws) e
  step_leads (takes x class) r ws rest h takes_one other k =
      let b : ℕ = unwrap_or (bucket_named t x) 0 in
      subst (λ (v : List (List ℕ)). LeadTo (inside r) (plain v) e) (sym h.1)
      (words_lead (inside r) (codes "step" ∷ codes "take" ∷ x ∷ []) h.0 e (inl refl, (inl refl, (named x ∙ takes_one ∙ ap (λ (v : ℕ). Some v) (sym (taken x)), tt)))
      (subst (λ (v : ℕ). LeadTo (arrive here (plain h.0) (take_form r v)) (plain h.0) e) (sym (taken x)) (class_leads r b class h.0 rest h.2 other k)))
  step_leads (chooses leaf firstn n kind) r ws rest h takes_one other k =
      subst (λ (v : List (List ℕ)). LeadTo (inside r) (plain v) e) (sym h.2) (choice_leads r leaf firstn n kind h.0 rest h.1 k)
  step_leads (sets x n) r ws rest h takes_one other k =
      subst (λ (v : List (List ℕ)). LeadTo (inside r) (plain v) e) (sym h.3) (
        amid here (word step_word (step_behind here r)),
        (inl refl, refl),
        (
          amid here (set_step here r x),
          (inr (inr (inr (inr h.1))), ap (λ s. arrive here (plain (h.0 ∷ rest)) (step_behind here r s)) (sym (set_said x h.1))),
          words_lead (amid here (set_step here r x)) (h.0 ∷ []) rest e (h.2.0, tt) (subst (λ (v : ℕ). LeadTo (inside (with_step r (set x v))) (plain rest) e) (sym h.2.1) k),
        ),
      )
  step_leads emits r ws rest h takes_one other k =
      subst (λ (v : List (List ℕ)). LeadTo (inside r) (plain v) e) (sym h) (words_lead (inside r) (codes "step" ∷ codes "emit" ∷ []) rest e (inl refl, (inr (inr (inr (inl refl))), tt)) k)

  -- each step begins with the word `step`, and a brace follows the steps
  step_begins : (x : StepLine) (ws rest : List (List ℕ)) (P : List (List ℕ) → Type 0) → ((more : List (List ℕ)) → P (codes "step" ∷ more)) → SpellsStep x ws rest → P ws
  step_begins (takes x class) ws rest P all h = subst P (sym h.1) (all (codes "take" ∷ x ∷ h.0))
  step_begins (chooses leaf firstn n kind) ws rest P all h = subst P (sym h.2) (all (choice_word leaf ∷ order_word firstn ∷ h.0 ∷ codes "type" ∷ kind ∷ rest))
  step_begins (sets x n) ws rest P all h = subst P (sym h.3) (all (x ∷ h.0 ∷ rest))
  step_begins emits ws rest P all h = subst P (sym h) (all (codes "emit" ∷ rest))

  steps_begin : (xs : List StepLine) (ws rest : List (List ℕ)) (P : List (List ℕ) → Type 0) → ((more : List (List ℕ)) → P (codes "step" ∷ more)) → P (codes "}" ∷ rest) → SpellsEach SpellsStep xs ws (codes "}" ∷ rest) → P ws
  steps_begin [] ws rest P all end h = subst P (sym h) end
  steps_begin (x ∷ xs) ws rest P all end h = step_begins x ws h.0 P all h.1

  abbrev Begins : List ℕ → List (List ℕ) → Type 0
  Begins k ws = begins_with_key k (plain ws) ≡ false

  -- the rule r with further steps appended
  abbrev with_steps : RuleData → List StepData → RuleData
  with_steps r xs = record r { steps = r.steps ++ xs }

  steps_lead : (xs : List StepLine) (r : RuleData) (ws rest : List (List ℕ)) → SpellsEach SpellsStep xs ws (codes "}" ∷ rest) → All (TakesBucket t) xs
      → LeadTo (between (at second (add_rule here (with_steps r (map (step_in t) xs))))) (plain rest) e → LeadTo (inside r) (plain ws) e
  steps_lead [] r ws rest h l k =
      subst (λ (v : List (List ℕ)). LeadTo (inside r) (plain v) e) (sym h)
      (words_lead (inside r) (codes "}" ∷ []) rest e (inr refl, tt) (subst (λ (xs : List StepData). LeadTo (between (at second (add_rule here (record r { steps = xs })))) (plain rest) e) (append-nil r.steps) k))
  steps_lead (x ∷ xs) r ws rest h l k =
      step_leads x r ws h.0 h.1 (All-head (TakesBucket t) x xs l) (steps_begin xs h.0 rest (Begins (codes "class")) (λ _. refl) refl h.2)
      (steps_lead xs (with_step r (step_in t x)) h.0 rest h.2 (All-tail (TakesBucket t) x xs l)
      (subst (λ (ys : List StepData). LeadTo (between (at second (add_rule here (record r { steps = ys })))) (plain rest) e) (sym (append_assoc r.steps (step_in t x ∷ []) (map (step_in t) xs))) k))

  -- THE SIZES of a rule lead on
  most_leads : (x : List ℕ) (n : ℕ) (kind : List ℕ) (least most : Option ℕ) (ws rest : List (List ℕ)) → SpellsSize (codes "max_size") most ws rest → Begins (codes "max_size") rest
      → LeadTo (inside (new_rule x n kind least most)) (plain rest) e → LeadTo (arrive here (plain ws) (max_size here x n kind least)) (plain ws) e
  most_leads x n kind least None ws rest h other k =
      subst (λ (v : List (List ℕ)). LeadTo (arrive here (plain v) (max_size here x n kind least)) (plain v) e) (sym h) (lacking here (max_size here x n kind least) rest e other (lead_so (between (passing (sizes_left least) (at (ruled (new_rule x n kind least None)) here))) (inside (new_rule x n kind least None)) (plain rest) e refl k))
  most_leads x n kind least (Some m) ws rest h other k =
      let all : List (List ℕ) = codes "max_size" ∷ h.0 ∷ rest in
      subst (λ (v : List (List ℕ)). LeadTo (arrive here (plain v) (max_size here x n kind least)) (plain v) e) (sym h.2)
      (words_lead (arrive here (plain all) (max_size here x n kind least)) (codes "max_size" ∷ h.0 ∷ []) rest e (refl, (h.1.0, tt)) (subst (λ (v : ℕ). LeadTo (inside (new_rule x n kind least (Some v))) (plain rest) e) (sym h.1.1) k))

  least_leads : (x : List ℕ) (n : ℕ) (kind : List ℕ) (least : Option ℕ) (ws rest : List (List ℕ)) → SpellsSize (codes "min_size") least ws rest → Begins (codes "min_size") rest
      → LeadTo (arrive here (plain rest) (max_size here x n kind least)) (plain rest) e → LeadTo (arrive here (plain ws) (sizes here x n kind)) (plain ws) e
  least_leads x n kind None ws rest h other k =
      subst (λ (v : List (List ℕ)). LeadTo (arrive here (plain v) (sizes here x n kind)) (plain v) e) (sym h) (lacking here (sizes here x n kind) rest e other k)
  least_leads x n kind (Some m) ws rest h other k =
      let all : List (List ℕ) = codes "min_size" ∷ h.0 ∷ rest in
      subst (λ (v : List (List ℕ)). LeadTo (arrive here (plain v) (sizes here x n kind)) (plain v) e) (sym h.2)
      (words_lead (arrive here (plain all) (sizes here x n kind)) (codes "min_size" ∷ h.0 ∷ []) rest e (refl, (h.1.0, tt))
      (subst (λ (v : ℕ). LeadTo (arrive here (plain rest) (max_size here x n kind (Some v))) (plain rest) e) (sym h.1.1) k))

  -- the words at the place of the greatest size begin with `max_size`, or they are what follows it
  most_begins : (most : Option ℕ) (ws rest : List (List ℕ)) → SpellsSize (codes "max_size") most ws rest → Begins (codes "min_size") rest → Begins (codes "min_size") ws
  most_begins None ws rest h other = subst (Begins (codes "min_size")) (sym h) other
  most_begins (Some m) ws rest h other = subst (Begins (codes "min_size")) (sym h.2) refl

  -- THE RULE as a whole leads on
  pub rule_leads : (late : Bool) (r : RuleLines) (ws rest : List (List ℕ)) → SpellsRule r ws rest → All (TakesBucket t) r.steps → LeadTo (between (at second (draft ks ts (rs ++ rule_in t r ∷ []) t a))) (plain rest) e
      → LeadTo (between (at (idle late) (draft ks ts rs t a))) (plain ws) e
  rule_leads late r ws rest h l k =
      subst (λ (x : List (List ℕ)). LeadTo (between (at (idle late) here)) (plain x) e) (sym h.head) (
        amid here (rule_line here),
        opens_rule late here (plain (r.name ∷ codes "{" ∷ h.key ∷ h.id ∷ codes "type" ∷ r.kind ∷ h.behind_type)),
        words_lead (amid here (rule_line here)) (r.name ∷ codes "{" ∷ h.key ∷ h.id ∷ codes "type" ∷ r.kind ∷ []) h.behind_type e (tt, (refl, (h.id_key, (number_digits LARGEST_RULE_NUMBER r.id h.id h.number, (refl, (tt, tt))))))
            (subst (λ (n : ℕ). LeadTo (arrive here (plain h.behind_type) (sizes here r.name n r.kind)) (plain h.behind_type) e) (sym h.number.1)
            (least_leads r.name r.id r.kind r.min_size h.behind_type h.behind_least h.min_size
            (most_begins r.max_size h.behind_least h.behind_most h.max_size (steps_begin r.steps h.behind_most rest (Begins (codes "min_size")) (λ _. refl) refl h.steps))
            (most_leads r.name r.id r.kind r.min_size r.max_size h.behind_least h.behind_most h.max_size (steps_begin r.steps h.behind_most rest (Begins (codes "max_size")) (λ _. refl) refl h.steps)
            (steps_lead r.steps (new_rule r.name r.id r.kind r.min_size r.max_size) h.behind_most rest h.steps l k)))),
      )
