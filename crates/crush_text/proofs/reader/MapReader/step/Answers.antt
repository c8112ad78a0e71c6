-- Reading a step of the kind that its first word begins.
use Rattle.std.proofs.Common.{rules, refl, ℕ, List, ◌∙◌, sym, ap, subst, Ok, inl}
use Rattle.std.proofs.lemmas.Result.{err_from_is_err_and}
use Rattle.crush_text.specs.Role.{step_word, sets}
use Rattle.crush_text.specs.Grammar.{step_behind}
use Rattle.crush_text.specs.Reads.{first_of_step}
use Rattle.crush_text.specs.ReadsWords.{IsFirstOfStep}
use Rattle.crush_text.proofs.LineEnds.{word_fails}
use Rattle.crush_text.proofs.Reached.{out_of_memory_here, reaches_word}
use Rattle.crush_text.proofs.Steps.{step_gives, gives_line, step_goes, done_reads}
use Rattle.crush_text.proofs.Refused.{no_step}
use Rattle.crush_text.proofs.reader.MapReader.step.Goals as goal

pub returns-in_ok-name-in-Set : goal.returns-in_ok-name-in-Set
returns-in_ok-name-in-Set g c = record {
  form = c.read_set.ensures.form;
  gives = λ d r h.
      step_gives _ _ d r _ _ _ (c.in_ok-read_first.ensures.word.gives d tt ∙ ap (λ o. Ok (first_of_step o, c.read_first.new.reader)) c.in-Set.is ∙ ap (λ (x : List ℕ). Ok (sets x, c.read_first.new.reader)) (sym c.in_ok-name-in-Set.ensures.name))
      (gives_line _ _ d _ _ (c.read_set.ensures.gives d r));
  free = search rules;
  kept = refl;
  shorter = search rules;
}

pub returns-in_err-name-in-Set : goal.returns-in_err-name-in-Set
returns-in_err-name-in-Set g c =
    let p = err_from_is_err_and c.from_residual-in_err-name-in-Set.result c.from_residual-in_err-name-in-Set.ensures.1 in
    rw (p.1, p.2) (no_step _ _ _ _ refl (λ d r h.
    let form = subst (IsFirstOfStep c.args.self.now.text c.read_first.new.reader) c.in-Set.is c.in_ok-read_first.ensures.form in
    (inl (out_of_memory_here _ _ _ _ c.in_err-name-in-Set.ensures.memory (reaches_word d step_word (step_behind d r) _ _ _ _ _ _ (c.in_ok-read_first.ensures.word.gives d tt) form.2)))))

pub returns-in-Take : goal.returns-in-Take
returns-in-Take g c = record {
  form = c.take.ensures.form;
  gives = λ d r h.
      step_gives _ _ d r _ _ _ (c.in_ok-read_first.ensures.word.gives d tt ∙ ap (λ o. Ok (first_of_step o, c.read_first.new.reader)) c.in-Take.is) (c.take.ensures.gives d r h);
  free = c.take.ensures.free;
  kept = c.take.ensures.kept;
  shorter = search rules;
}

pub returns-in-Choose : goal.returns-in-Choose
returns-in-Choose g c = record {
  form = c.choose.ensures.form;
  gives = λ d r h.
      step_gives _ _ d r _ _ _ (c.in_ok-read_first.ensures.word.gives d tt ∙ ap (λ o. Ok (first_of_step o, c.read_first.new.reader)) c.in-Choose.is) (c.choose.ensures.gives d r h);
  free = c.choose.ensures.free;
  kept = c.choose.ensures.kept;
  shorter = search rules;
}

pub returns-in-Emit : goal.returns-in-Emit
returns-in-Emit g c = record {
  form = search rules;
  gives = λ d r h.
      step_goes d r _ _ _ (c.in_ok-read_first.ensures.word.gives d tt ∙ ap (λ o. Ok (first_of_step o, c.read_first.new.reader)) c.in-Emit.is) ∙ done_reads d _ _;
  free = search rules;
  kept = refl;
  shorter = search rules;
}

pub returns-in_err-read_first : goal.returns-in_err-read_first
returns-in_err-read_first g c =
    let p = err_from_is_err_and c.from_residual.result c.from_residual.ensures.1 in
    rw (p.1, p.2) (no_step _ _ _ _ refl (λ d r h.
    (word_fails d _ _ _ _ (c.in_err-read_first.ensures.word.gives d tt))))
