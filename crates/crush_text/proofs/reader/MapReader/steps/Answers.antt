-- The steps of a rule, one after the other, up to the closing brace.
use Rattle.std.proofs.Common.{◌∙◌, rules, arith, refl, subst, ℕ, Option, Ok}
use Rattle.std.proofs.lemmas.Result.{err_from_is_err_and}
use Rattle.crush_builder.specs.Rules.{kept_rule}
use Rattle.crush_text.specs.Form.{ruled}
use Rattle.crush_text.specs.Grammar.{line_forms}
use Rattle.crush_text.specs.ReadsRules.{left_by, StepGoes}
use Rattle.crush_text.proofs.LineEnds.{still}
use Rattle.crush_text.proofs.Reached.{line_leads, next_leads, leads_then, fails_then, fails_line}
use Rattle.crush_text.proofs.FirstWords.{none_there}
use Rattle.crush_text.proofs.Refused.{no_steps}
use Rattle.crush_text.proofs.reader.MapReader.steps.Goals as goal

pub returns-in_err-place : goal.returns-in_err-place
returns-in_err-place g c =
    let p = err_from_is_err_and c.from_residual.result c.from_residual.ensures.1 in
    rw (p.1, p.2) (no_steps _ _ _ _ _ (c.in_err-place.ensures.kept ∙ c.steps.invariant.kept) (λ d h.
    (
    fails_then _ _ _ _ _ (leads_then _ _ _ _ _ _ (c.steps.invariant.reads d h) (next_leads (ruled (kept_rule d c.steps.rule)) (left_by c.steps.rule) d c.steps.self.text refl))
    (fails_line _ d (line_forms d (left_by c.steps.rule) (ruled (kept_rule d c.steps.rule))) _ (c.in_err-place.ensures.reads d (still c.steps.invariant.kept h)))
    )))

pub returns-in-Some : goal.returns-in-Some
returns-in-Some g c = record {
  right = c.in_ok-place.ensures.right;
  kept = c.in_ok-place.ensures.kept ∙ c.steps.invariant.kept;
  reads = λ d h.
      let k = subst (λ (o : Option ℕ). StepGoes (Ok o) d (kept_rule d c.step_or_end.new.rule) (left_by c.step_or_end.new.rule) c.step_or_end.new.self.text (line_forms d (left_by c.steps.rule) (ruled (kept_rule d c.steps.rule))) c.steps.self.text) c.in-Some.is (c.in_ok-place.ensures.reads d (still c.steps.invariant.kept h)) in
      let so_far = leads_then _ _ _ _ _ _ (c.steps.invariant.reads d h) (next_leads (ruled (kept_rule d c.steps.rule)) (left_by c.steps.rule) d c.steps.self.text refl) in
      (leads_then _ _ _ _ _ _ so_far (line_leads d (line_forms d (left_by c.steps.rule) (ruled (kept_rule d c.steps.rule))) _ _ _ k.0), so_far.reaches _ k.1);
  shorter = search rules;
}

pub steps-preserved : goal.steps-preserved
steps-preserved g c = record {
  right = c.in_ok-place.ensures.right;
  kept = c.in_ok-place.ensures.kept ∙ c.steps.invariant.kept;
  shorter = omega (arith, c.steps.invariant.shorter, c.in_ok-place.ensures.shorter);
  reads = λ d h.
      let k = subst (λ (o : Option ℕ). StepGoes (Ok o) d (kept_rule d c.step_or_end.new.rule) (left_by c.step_or_end.new.rule) c.step_or_end.new.self.text (line_forms d (left_by c.steps.rule) (ruled (kept_rule d c.steps.rule))) c.steps.self.text) (none_there _ c.in_default.not-Some) (c.in_ok-place.ensures.reads d (still c.steps.invariant.kept h)) in
      let so_far = leads_then _ _ _ _ _ _ (c.steps.invariant.reads d h) (next_leads (ruled (kept_rule d c.steps.rule)) (left_by c.steps.rule) d c.steps.self.text refl) in
      leads_then _ _ _ _ _ _ so_far (line_leads d (line_forms d (left_by c.steps.rule) (ruled (kept_rule d c.steps.rule))) _ _ _ k);
}
