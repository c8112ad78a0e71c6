use Rattle.std.proofs.Common.{ap, ◌∙◌, arith}
use Rattle.crush_script.specs.Lines.{behind_word, behind_words, from_blanks}
use Rattle.crush_script.proofs.Cuts.{behind_none, behind_next}
use Rattle.crush_script.proofs.line.from_word.Goals as goal

pub loop-done-init : goal.loop-done-init
loop-done-init c = record { behind = behind_none c.args.text.now; within = omega arith }

pub loop-done-preserved : goal.loop-done-preserved
loop-done-preserved c = record {
  behind = c.behind_word-rest.ensures.value ∙ ap behind_word c.loop-done.invariant.behind ∙ behind_next c.loop-done._done c.args.text.now;
  within = omega (arith, c.behind_word-rest.ensures.within, c.loop-done.invariant.within);
}

pub returns-clause-value : goal.returns-clause-value
returns-clause-value c = c.from_blanks.ensures.value ∙ ap from_blanks (c.loop-done.invariant.behind ∙ ap (λ n. behind_words n c.args.text.now) (omega arith))
