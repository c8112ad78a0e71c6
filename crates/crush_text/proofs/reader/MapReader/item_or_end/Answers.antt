-- Reading one more item, or the closing brace of the bucket.
use Rattle.std.proofs.Common.{rules, ◌∙◌, ap, Bool, true, Ok}
use Rattle.std.proofs.lemmas.Result.{err_from_is_err_and}
use Rattle.crush_builder.specs.Built.{with_end}
use Rattle.crush_text.specs.Reads.{line_at}
use Rattle.crush_text.proofs.Weighed.{item_or_end_goes, item_or_end_fails}
use Rattle.crush_text.proofs.Refused.{no_line}
use Rattle.crush_text.proofs.reader.MapReader.item_or_end.Goals as goal

pub returns-then-not-more : goal.returns-then-not-more
unfolding line_at
returns-then-not-more g c = record {
  reads = λ d h.
      (with_end d, c.end.ensures d h, item_or_end_goes d _ _ _ _ _ (c.in_ok-more.ensures.gives d tt ∙ ap (λ (b : Bool). Ok (b, c.read_item_or_end.new.reader)) c.if-not-more.true));
  stands = let d = c.requires.some in record { part = (c.end.ensures d.0 d.1).pending; some = (with_end d.0, c.end.ensures d.0 d.1) };
  shorter = search rules;
}

pub returns : goal.returns
returns g c = record {
  reads = λ d h.
      let k = c.in_ok-left.ensures.reads d h in
      (k.0, k.1, item_or_end_goes d _ _ _ _ _ (c.in_ok-more.ensures.gives d tt ∙ ap (λ (b : Bool). Ok (b, c.read_item_or_end.new.reader)) c.if-not-more.false) ∙ k.2);
  stands = c.in_ok-left.ensures.stands;
  shorter = search rules;
}

pub returns-in_err-left : goal.returns-in_err-left
returns-in_err-left g c =
    let p = err_from_is_err_and c.from_residual-in_err-left.result c.from_residual-in_err-left.ensures.1 in
    rw (p.1, p.2) (no_line _ _ _ _ _ (λ d h.
    (item_or_end_fails _ d c.args.any c.args.or true _ _ (c.in_ok-more.ensures.gives d tt ∙ ap (λ (b : Bool). Ok (b, c.read_item_or_end.new.reader)) c.if-not-more.false) (c.in_err-left.ensures.reads d h))))
