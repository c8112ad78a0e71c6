-- Reading a pool size after its key.
use Rattle.std.proofs.Common.{rules, Bool, sym, ap, ◌∙◌}
use Rattle.std.specs.Prelude.{if◌then◌else◌}
use Rattle.std.proofs.lemmas.Result.{err_from_is_err_and}
use Rattle.crush_units.specs.Words.{past}
use Rattle.crush_text.proofs.LineEnds.{word_err, word_reads}
use Rattle.crush_text.proofs.Reached.{part_taken}
use Rattle.crush_text.proofs.Refused.{no_size}
use Rattle.crush_text.proofs.reader.rule.read_size.Goals as goal

pub returns-in_err-number : goal.returns-in_err-number
returns-in_err-number c =
    let p = err_from_is_err_and c.from_residual.result c.from_residual.ensures.1 in
    rw (p.1, p.2) (no_size _ _ _ _ (λ d more.
    (part_taken d _ _ _ _ _ _ (sym c.if-not-take_key.false ∙ c.take_key.ensures.answer) (c.take_key.ensures.rest ∙ ap (λ (b : Bool). if b then past c.args.reader.now else c.args.reader.now) c.if-not-take_key.false) ∙ word_err d _ _ _ _ (c.in_err-number.ensures.gives d tt))))

pub returns : goal.returns
returns c = record {
  most = search rules;
  gives = λ d more.
      part_taken d _ _ _ _ _ _ (sym c.if-not-take_key.false ∙ c.take_key.ensures.answer) (c.take_key.ensures.rest ∙ ap (λ (b : Bool). if b then past c.args.reader.now else c.args.reader.now) c.if-not-take_key.false) ∙ word_reads d _ _ _ _ _ (c.in_ok-number.ensures.gives d tt);
  shorter = search rules;
}
