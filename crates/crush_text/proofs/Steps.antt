-- The lines of class ids and of rules, word by word.
use Rattle.std.proofs.Common.{◌≡◌, ◌+◌, ◌<◌, arith, None, false, ℕ, Bool, List, [], ◌∷◌, ◌++◌, length, map, Result, Ok, Err, refl, sym, ap, ◌∙◌, inl, inr, true, subst, ◌⊎◌}
use Rattle.std.specs.Prelude.{◌-◌, slice_get, Some, codes, nat_le, unwrap_or, Option, IfOk, IfErr}
use Rattle.crush_builder.specs.declared.fault.BuildFault.{BuildFault}
use Rattle.crush_builder.specs.declared.fault.RulePart.TheVariants.{Step as AtStep}
use Rattle.std.proofs.lemmas.List.{map-append}
use Rattle.std.proofs.lemmas.Bool.{lt-leb}
use Rattle.std.proofs.lemmas.List.{length_push}
use Rattle.std.proofs.lemmas.Option.{slice_get-get_or}
use Rattle.std.proofs.Math.Seq.{get_or-append_seam}
use Rattle.crush_edits.specs.declared.rule.Step.{Step}
use Rattle.crush_edits.specs.Setting.{RuleData}
use Rattle.crush_builder.specs.Built.{Draft}
use Rattle.crush_edits.specs.declared.rule.Rule.{Rule}
use Rattle.crush_units.specs.declared.limits.TheConstants.{MOST_STEPS}
use Rattle.crush_builder.specs.Building.{BuilderData, IsDraft}
use Rattle.crush_builder.specs.Rules.{complete_bucket_named, taken_number, kept_step, kept_rule, has_rule_name, has_rule_id, step_fault, word_fault, steps_fault, or_later, IsRuleForm}
use Rattle.crush_text.specs.Room.{IsHead}
use Rattle.crush_units.specs.Words.{Text}
use Rattle.crush_text.specs.declared.fault.TextFault.{TextFault}
use Rattle.crush_text.specs.Role.{StepWord, bucket_of_word, taken_bucket, key, any_word, id_or_alg, rule_name, rule_id_key, rule_id, step_or_end, step_word}
use Rattle.crush_text.specs.declared.expected.Expected.{Expected}
use Rattle.crush_text.specs.declared.expected.Expected.TheVariants as expect
use Rattle.crush_text.specs.declared.expected.Optional.{Optional}
use Rattle.crush_text.specs.declared.expected.Optional.TheVariants.{Nothing}
use Rattle.crush_text.specs.Form.{numbered, ruled, at, passing, Progress, Form, done, word}
use Rattle.crush_text.specs.Grammar.{id_or_alg_line, new_rule, rule_line, sizes, step_behind, step_or_brace, line_forms}
use Rattle.crush_text.specs.Flow.{◌>>=◌, arrive, Reaches}
use Rattle.crush_text.specs.Flaw.{IsOutOfMemory}
use Rattle.crush_text.specs.Reads.{left_by_step, Gives, GivesLine, FailsIn, word_at, line_at}
use Rattle.crush_text.specs.ReadsWords.{StoodAt}
use Rattle.crush_text.specs.ReadsRules.{left_after, left_last, left_by, IsRightSoFar}
use Rattle.crush_text.proofs.LineEnds.{still}
use Rattle.crush_text.proofs.Reached.{reaches_word, reaches_on}

-- reading a step is reading its first word, and then what this word requires
pub step_goes : (d : Draft) (r : RuleData) (w : StepWord) (t rest : Text) → word_at d step_word t ≡ Ok (w, rest) → line_at d (word step_word (step_behind d r)) t ≡ line_at d (step_behind d r w) rest
unfolding line_at
step_goes d r w t rest is = ap (λ q. q >>= λ x. line_at d (step_behind d r x.0) x.1) is

-- a function that reads the rest of a step has the result of reading the whole step
pub step_gives : {X : Type 0} (view : X → Progress × Text) (x : Result X TextFault) (d : Draft) (r : RuleData) (w : StepWord) (t rest : Text) → word_at d step_word t ≡ Ok (w, rest) → GivesLine view x d (step_behind d r w) rest → GivesLine view x d (word step_word (step_behind d r)) t
step_gives view (Ok x) d r w t rest is h = step_goes d r w t rest is ∙ h
step_gives view (Err f) d r w t rest is (inl h) = inl (h.0, reaches_on d step_word (step_behind d r) w t rest f.place is h.1)
step_gives view (Err f) d r w t rest is (inr h) = inr (step_goes d r w t rest is ∙ h)

-- a function that can't run out of memory has the result of reading the line
pub gives_line : {X : Type 0} (view : X → Progress × Text) (x : Result X TextFault) (d : Draft) (g : Form) (t : Text) → Gives view x (line_at d g t) → GivesLine view x d g t
gives_line view (Ok x) d g t h = h
gives_line view (Err f) d g t h = inr h

-- the first word says whether a class id or the algorithm is read
pub id_or_alg_goes : (d : Draft) (more : Bool) (t rest : Text) → word_at d id_or_alg t ≡ Ok (more, rest) → line_at d (line_forms d Nothing numbered) t ≡ line_at d (id_or_alg_line d more) rest
unfolding line_at
id_or_alg_goes d more t rest is = ap (λ q. q >>= λ x. line_at d (id_or_alg_line d x.0) x.1) is

-- a fault after this word is a fault of the line
pub id_or_alg_fails : (f : TextFault) (d : Draft) (more : Bool) (t rest : Text) → word_at d id_or_alg t ≡ Ok (more, rest) → FailsIn f d (id_or_alg_line d more) rest → FailsIn f d (line_forms d Nothing numbered) t
id_or_alg_fails f d more t rest is (inl h) = inl (h.0, reaches_on d id_or_alg (id_or_alg_line d) more t rest f.place is h.1)
id_or_alg_fails f d more t rest is (inr h) = inr (id_or_alg_goes d more t rest is ∙ h)

-- reading a line that is complete reads nothing
pub done_reads : (d : Draft) (p : Progress) (t : Text) → line_at d (done p) t ≡ Ok (p, t)
unfolding line_at
done_reads d p t = refl

-- the number of the bucket that a step takes is the same in the text's definitions and in the builder's
pub bucket_taken : (d : Draft) (x : List ℕ) (t rest : Text) → word_at d taken_bucket t ≡ Ok (bucket_of_word d x, rest) → word_at d taken_bucket t ≡ Ok (taken_number (complete_bucket_named d x), rest)
bucket_taken d x t rest e = e ∙ ap (λ (n : ℕ). Ok (n, rest)) (by_it (complete_bucket_named d x))
  where
    by_it : (o : Option ℕ) → unwrap_or o 0 ≡ taken_number o
    by_it None = refl
    by_it (Some b) = refl

-- the words of a rule's head, up to its sizes
pub head_goes : (d : Draft) (x : List ℕ) (n : ℕ) (k : List ℕ) (t t1 t2 t3 t4 t5 t6 : Text) → word_at d rule_name t ≡ Ok (x, t1) → word_at d (key (codes "{")) t1 ≡ Ok (tt, t2) → word_at d rule_id_key t2 ≡ Ok (tt, t3)
    → word_at d rule_id t3 ≡ Ok (n, t4) → word_at d (key (codes "type")) t4 ≡ Ok (tt, t5) → word_at d (any_word expect.RuleType) t5 ≡ Ok (k, t6) → line_at d (rule_line d) t ≡ line_at d (sizes d x n k) t6
unfolding line_at
head_goes d x n k t t1 t2 t3 t4 t5 t6 a b c e f h = rw (a, b, c, e, f, h) refl

-- the name of a rule and the word after `type` are reached without a fault
pub kind_reached : (d : Draft) (x : List ℕ) (n : ℕ) (k : List ℕ) (t t1 t2 t3 t4 t5 t6 : Text) (p : ℕ) → word_at d rule_name t ≡ Ok (x, t1) → word_at d (key (codes "{")) t1 ≡ Ok (tt, t2) → word_at d rule_id_key t2 ≡ Ok (tt, t3)
    → word_at d rule_id t3 ≡ Ok (n, t4) → word_at d (key (codes "type")) t4 ≡ Ok (tt, t5) → word_at d (any_word expect.RuleType) t5 ≡ Ok (k, t6) → StoodAt expect.RuleType t5 t6 p → Reaches p (arrive d t.words (rule_line d)) t.words
kind_reached d x n k t t1 t2 t3 t4 t5 t6 p a b c e f h is =
    reaches_on d rule_name _ x t t1 p a
    (reaches_on d (key (codes "{")) _ tt t1 t2 p b
    (reaches_on d rule_id_key _ tt t2 t3 p c
    (reaches_on d rule_id (λ m. word (key (codes "type")) (λ _. word (any_word expect.RuleType) (λ y. sizes d x m y))) n t3 t4 p e
    (reaches_on d (key (codes "type")) (λ _. word (any_word expect.RuleType) (λ y. sizes d x n y)) tt t4 t5 p f
    (reaches_word d (any_word expect.RuleType) (λ y. sizes d x n y) k expect.RuleType t5 t6 t6 p h is)))))

-- the first word says whether a step is read or the closing brace ends the rule
pub step_or_end_goes : (d : Draft) (k : Optional) (r : RuleData) (n : ℕ) (more : Bool) (t rest : Text) → n ≡ length r.steps → word_at d (step_or_end n k) t ≡ Ok (more, rest) → line_at d (line_forms d k (ruled r)) t ≡ line_at d (step_or_brace d r more) rest
unfolding line_at
step_or_end_goes d k r n more t rest e is = ap (λ (m : ℕ). word_at d (step_or_end m k) t >>= λ x. line_at d (step_or_brace d r x.0) x.1) (sym e) ∙ ap (λ q. q >>= λ x. line_at d (step_or_brace d r x.0) x.1) is

-- a fault of the step after this word is a fault of the line
pub step_fails : (f : TextFault) (d : Draft) (k : Optional) (r : RuleData) (n : ℕ) (t rest : Text) → n ≡ length r.steps → word_at d (step_or_end n k) t ≡ Ok (true, rest) → FailsIn f d (word step_word (step_behind d r)) rest → FailsIn f d (line_forms d k (ruled r)) t
step_fails f d k r n t rest e is (inl h) = inl (h.0, reaches_on d (step_or_end (length r.steps) k) (step_or_brace d r) true t rest f.place (subst (λ (m : ℕ). word_at d (step_or_end m k) t ≡ Ok (true, rest)) e is) h.1)
step_fails f d k r n t rest e is (inr h) = inr (step_or_end_goes d k r n true t rest e is ∙ h)

-- the optional part that was left out before this word may be replaced by an equal one
pub word_left : (d : Draft) (j k : Optional) (n : ℕ) (t : Text) (y : Result (Bool × Text) TextFault) → j ≡ k → word_at d (step_or_end n j) t ≡ y → word_at d (step_or_end n k) t ≡ y
word_left d j k n t y same h = ap (λ (x : Optional). word_at d (step_or_end n x) t) (sym same) ∙ h

-- the word `step` or the closing brace is reached
pub step_or_end_reached : (d : Draft) (k : Optional) (due : Expected) (r : RuleData) (n : ℕ) (more : Bool) (t rest : Text) (p : ℕ) → n ≡ length r.steps → word_at d (step_or_end n k) t ≡ Ok (more, rest) → StoodAt due t rest p → Reaches p (arrive d t.words (line_forms d k (ruled r))) t.words
step_or_end_reached d k due r n more t rest p e is at_it = reaches_word d (step_or_end (length r.steps) k) (step_or_brace d r) more due t rest rest p (subst (λ (m : ℕ). word_at d (step_or_end m k) t ≡ Ok (more, rest)) e is) at_it

-- one more step adds its stored form to the stored forms of the steps
pub steps_kept : (d : Draft) (old new : List Step) (s : Step) → new ≡ old ++ s ∷ [] → map (kept_step d) old ++ kept_step d s ∷ [] ≡ map (kept_step d) new
steps_kept d old new s e = sym (ap (map (kept_step d)) e ∙ map-append (kept_step d) old (s ∷ []))

-- the stored form of a rule's head
kept_head : (d : Draft) (x : List ℕ) (n : ℕ) (k : List ℕ) (least most : Option ℕ) (r : Rule) → IsHead x n k least most r → kept_rule d r ≡ new_rule x n k least most
kept_head d x n k least most r h = rw (h.name, h.id, h.kind, h.min_size, h.max_size, h.steps) refl

-- the optional part that a rule's head has left out
head_left : {x k : List ℕ} {n : ℕ} (least most : Option ℕ) (r : Rule) → IsHead x n k least most r → left_by r ≡ left_last [] least most
head_left least most r h = λ i. left_last (h.steps i) (h.min_size i) (h.max_size i)

-- a step that is appended is the last step
last_is : (old : List Step) (s : Step) → slice_get (old ++ s ∷ []) (length (old ++ s ∷ []) - 1) ≡ Some s
last_is old s =
    let n : length (old ++ s ∷ []) ≡ length old + 1 = length_push old s in
    let i : length (old ++ s ∷ []) - 1 ≡ length old = omega (arith, n) in
    ap (slice_get (old ++ s ∷ [])) i ∙ slice_get-get_or (old ++ s ∷ []) (length old) s (omega (arith, n)) ∙ ap (λ (x : Step). Some x) (get_or-append_seam old s [] s)

left_behind : (old : List Step) (s : Step) (least most : Option ℕ) → left_last (old ++ s ∷ []) least most ≡ left_by_step s
left_behind old s least most = ap (λ (o : Option Step). left_after o least most) (last_is old s)

-- so the optional part that the rule has left out is the one that this step has left out
pub left_kept : (old new : List Step) (s : Step) (least most : Option ℕ) → new ≡ old ++ s ∷ [] → left_by_step s ≡ left_last new least most
left_kept old new s least most e = sym (ap (λ (l : List Step). left_last l least most) e ∙ left_behind old s least most)

-- the head that is returned is the one that the words say
pub head_made : (d : Draft) (x : List ℕ) (n : ℕ) (k : List ℕ) (least most : Option ℕ) (r : Result Rule TextFault) (t u : Text) (a b : ℕ) → line_at d (rule_line d) t ≡ line_at d (done (passing (left_last [] least most) (at (ruled (new_rule x n k least most)) d))) u
    → Reaches a (arrive d t.words (rule_line d)) t.words → Reaches b (arrive d t.words (rule_line d)) t.words → IfOk r (IsHead x n k least most) → IfErr r (λ f. IsOutOfMemory f × ((f.place ≡ a) ⊎ (f.place ≡ b)))
    → GivesLine (λ q. (passing (left_by q) (at (ruled (kept_rule d q)) d), u)) r d (rule_line d) t
head_made d x n k least most (Ok r) t u a b e ra rb h m = e ∙ done_reads d _ u ∙ (λ i. Ok (passing (sym (head_left least most r h) i) (at (ruled (sym (kept_head d x n k least most r h) i)) d), u))
head_made d x n k least most (Err f) t u a b e ra rb h (w, inl q) = inl (w, subst (λ (p : ℕ). Reaches p (arrive d t.words (rule_line d)) t.words) (sym q) ra)
head_made d x n k least most (Err f) t u a b e ra rb h (w, inr q) = inl (w, subst (λ (p : ℕ). Reaches p (arrive d t.words (rule_line d)) t.words) (sym q) rb)

-- the head can be added if its name and its id are free
pub head_right : (b c : BuilderData) (x : List ℕ) (n : ℕ) (k : List ℕ) (least most : Option ℕ) (r : Result Rule TextFault) → c ≡ b → IfOk r IsRuleForm → IfOk r (IsHead x n k least most)
    → ((d : Draft) → IsDraft b d → has_rule_name d.setting x ≡ false) → ((d : Draft) → IsDraft b d → has_rule_id d.setting n ≡ false) → IfOk r (IsRightSoFar c)
head_right b c x n k least most (Ok r) e form h name id = record {
  form = form;
  free = λ d is. record {
    name = ap (has_rule_name d.setting) h.name ∙ name d (still (sym e) is);
    id = ap (has_rule_id d.setting) h.id ∙ id d (still (sym e) is);
    steps = ap (steps_fault d 0) h.steps;
  };
}
head_right b c x n k least most (Err f) e form h name id = tt

-- a step that is appended has no fault if it names what exists and there is room for it
steps_on : (d : Draft) (k : ℕ) (xs : List Step) (s : Step) → steps_fault d k xs ≡ None → k + length xs < MOST_STEPS → word_fault d s ≡ None → steps_fault d k (xs ++ s ∷ []) ≡ None
steps_on d k [] s free lt there = let room : nat_le MOST_STEPS k ≡ false = lt-leb _ _ (omega (arith, lt)) in rw (room, there) refl
steps_on d k (x ∷ xs) s free lt there = by_it (step_fault d k x) free (λ e. steps_on d (k + 1) xs s e (omega (arith, lt)) there)
  where
    by_it : (o : Option BuildFault) → or_later (AtStep k) o (steps_fault d (k + 1) xs) ≡ None → (steps_fault d (k + 1) xs ≡ None → steps_fault d (k + 1) (xs ++ s ∷ []) ≡ None) → or_later (AtStep k) o (steps_fault d (k + 1) (xs ++ s ∷ [])) ≡ None
    by_it None e go = go e
    by_it (Some f) e go = absurd cc

pub steps_free : (d : Draft) (old new : List Step) (s : Step) → new ≡ old ++ s ∷ [] → steps_fault d 0 old ≡ None → length old < MOST_STEPS → word_fault d s ≡ None → steps_fault d 0 new ≡ None
steps_free d old new s e free lt there = ap (steps_fault d 0) e ∙ steps_on d 0 old s free (omega (arith, lt)) there
