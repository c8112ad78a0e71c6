-- Reading one more step of a rule, or the rule's closing brace.
use Rattle.std.proofs.Common.{rules, refl, ◌∙◌, ◌<◌, sym, ap, subst, length, Bool, false, List, Ok, inl}
use Rattle.std.proofs.lemmas.Result.{err_from_is_err_and}
use Rattle.std.proofs.lemmas.List.{length-map}
use Rattle.crush_units.specs.declared.limits.TheConstants.{MOST_STEPS}
use Rattle.crush_edits.specs.declared.rule.Step.{Step}
use Rattle.crush_edits.specs.Setting.{StepData}
use Rattle.crush_builder.specs.Building.{IsDraft}
use Rattle.crush_builder.specs.Rules.{kept_rule, kept_step}
use Rattle.crush_text.specs.Form.{ruled, at, passing}
use Rattle.crush_text.specs.ReadsRules.{left_by}
use Rattle.crush_text.proofs.LineEnds.{still}
use Rattle.crush_text.proofs.Reached.{out_of_memory_here}
use Rattle.crush_text.proofs.Steps.{word_left, step_or_end_goes, step_or_end_reached, step_fails, done_reads, left_kept, steps_kept, steps_free}
use Rattle.crush_text.proofs.Refused.{no_step_line}
use Rattle.crush_text.proofs.reader.MapReader.step_or_end.Goals as goal

pub returns-in_err-step : goal.returns-in_err-step
returns-in_err-step g c =
    let p = err_from_is_err_and c.from_residual-in_err-step.result c.from_residual-in_err-step.ensures.1 in
    rw (p.1, p.2) (no_step_line _ _ _ _ _ c.in_err-step.ensures.kept (λ d h.
    (step_fails _ d (left_by c.args.rule.now) (kept_rule d c.args.rule.now) _ _ _ (ap length c.deref.ensures.value ∙ sym (length-map c.args.rule.now.steps.items (kept_step d))) (word_left d _ _ _ _ _ c.left_by.ensures (c.in_ok-word.ensures.gives d) ∙ ap (λ (b : Bool). Ok (b, c.read_step_or_end.new.reader)) (sym c.is_step.ensures ∙ c.if-not-is_step.false)) (c.in_err-step.ensures.gives d (kept_rule d c.args.rule.now) h))))

pub returns-then-not-is_step : goal.returns-then-not-is_step
returns-then-not-is_step g c = record {
  right = c.requires;
  kept = refl;
  reads = λ d h. (
    step_or_end_goes d (left_by c.args.rule.now) (kept_rule d c.args.rule.now) _ false _ _ (ap length c.deref.ensures.value ∙ sym (length-map c.args.rule.now.steps.items (kept_step d))) (word_left d _ _ _ _ _ c.left_by.ensures (c.in_ok-word.ensures.gives d) ∙ ap (λ (b : Bool). Ok (b, c.read_step_or_end.new.reader)) (sym c.is_step.ensures ∙ c.if-not-is_step.true)) ∙ done_reads d _ _,
    step_or_end_reached d (left_by c.args.rule.now) _ (kept_rule d c.args.rule.now) _ _ _ _ _ (ap length c.deref.ensures.value ∙ sym (length-map c.args.rule.now.steps.items (kept_step d))) (word_left d _ _ _ _ _ c.left_by.ensures (c.in_ok-word.ensures.gives d)) (_, c.in_ok-word.ensures.next),
  );
  shorter = search rules;
}

pub returns-in_default : goal.returns-in_default
returns-in_default g c =
    no_step_line _ _ _ _ _ c.in_ok-step.ensures.kept (λ d h.
    inl (out_of_memory_here _ _ _ _ c.memory_at.ensures (step_or_end_reached d (left_by c.args.rule.now) _ (kept_rule d c.args.rule.now) _ _ _ _ _ (ap length c.deref.ensures.value ∙ sym (length-map c.args.rule.now.steps.items (kept_step d))) (word_left d _ _ _ _ _ c.left_by.ensures (c.in_ok-word.ensures.gives d)) (_, c.in_ok-word.ensures.next))))

pub returns : goal.returns
returns g c = record {
  right = record {
    form = search rules;
    free = λ d u.
        let h : IsDraft c.args.self.now.builder d = still (sym c.in_ok-step.ensures.kept) u in
        let free = c.requires.free d h in
        let room = subst (λ (l : List Step). length l < MOST_STEPS) c.deref.ensures.value (c.in_ok-word.ensures.room (sym c.is_step.ensures ∙ c.if-not-is_step.false)) in
        record {
          name = free.name;
          id = free.id;
          steps = steps_free d c.args.rule.now.steps.items c.push.new.self.items c.in_ok-step.step c.in-Ok.ensures.items free.steps room (c.in_ok-step.ensures.free d h);
        };
  };
  reads = λ d h.
      let line = step_or_end_goes d (left_by c.args.rule.now) (kept_rule d c.args.rule.now) _ _ _ _ (ap length c.deref.ensures.value ∙ sym (length-map c.args.rule.now.steps.items (kept_step d))) (word_left d _ _ _ _ _ c.left_by.ensures (c.in_ok-word.ensures.gives d) ∙ ap (λ (b : Bool). Ok (b, c.read_step_or_end.new.reader)) (sym c.is_step.ensures ∙ c.if-not-is_step.false)) in
      line ∙ c.in_ok-step.ensures.gives d (kept_rule d c.args.rule.now) h
      ∙ (λ i. Ok (passing (left_kept c.args.rule.now.steps.items c.push.new.self.items c.in_ok-step.step c.args.rule.now.min_size c.args.rule.now.max_size c.in-Ok.ensures.items i) (at (ruled (record (kept_rule d c.args.rule.now) { steps = steps_kept d c.args.rule.now.steps.items c.push.new.self.items c.in_ok-step.step c.in-Ok.ensures.items i })) d), c.step.new.self.text));
  kept = c.in_ok-step.ensures.kept;
  shorter = search rules;
}
