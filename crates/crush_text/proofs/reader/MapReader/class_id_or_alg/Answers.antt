-- Reading one more class id, or the algorithm.
use Rattle.std.proofs.Common.{rules, sym, ◌∙◌, ap, Bool, true, false, Ok}
use Rattle.std.proofs.lemmas.Result.{err_from_is_err_and}
use Rattle.crush_text.proofs.LineEnds.{still, still_amid}
use Rattle.crush_text.proofs.Steps.{id_or_alg_goes, id_or_alg_fails}
use Rattle.crush_text.proofs.Refused.{no_line}
use Rattle.crush_text.proofs.reader.MapReader.class_id_or_alg.Goals as goal

pub returns-then-not-more : goal.returns-then-not-more
returns-then-not-more g c = record {
  reads = λ d h.
      let k = c.in_ok-or.ensures.reads d (still c.in_ok-more.ensures.kept h) in
      (k.0, k.1, id_or_alg_goes d _ _ _ (c.in_ok-more.ensures.reads.gives d h ∙ ap (λ (b : Bool). Ok (b, c.id_or_alg.new.self.text)) c.if-not-more.true) ∙ k.2);
  stands = c.in_ok-or.ensures.stands;
  shorter = search rules;
}

pub returns : goal.returns
returns g c = record {
  reads = λ d h.
      let k = c.in_ok-class_id.ensures.reads d (still c.in_ok-more.ensures.kept h) in
      (k.0, k.1, id_or_alg_goes d _ _ _ (c.in_ok-more.ensures.reads.gives d h ∙ ap (λ (b : Bool). Ok (b, c.id_or_alg.new.self.text)) c.if-not-more.false) ∙ k.2);
  stands = c.in_ok-class_id.ensures.stands;
  shorter = search rules;
}

pub class_id-requires : goal.class_id-requires
class_id-requires g c = record {
  numbered = still_amid c.in_ok-more.ensures.kept c.requires;
  room = λ d h. c.in_ok-more.ensures.reads.free d (still (sym c.in_ok-more.ensures.kept) h) c.if-not-more.false;
}

pub returns-in_err-or : goal.returns-in_err-or
returns-in_err-or g c =
    let p = err_from_is_err_and c.from_residual-in_err-or.result c.from_residual-in_err-or.ensures.1 in
    rw (p.1, p.2) (no_line _ _ _ _ _ (λ d h.
    (id_or_alg_fails _ d false _ _ (c.in_ok-more.ensures.reads.gives d h ∙ ap (λ (b : Bool). Ok (b, c.id_or_alg.new.self.text)) c.if-not-more.true) (c.in_err-or.ensures.reads d (still c.in_ok-more.ensures.kept h)))))

pub returns-in_err-class_id : goal.returns-in_err-class_id
returns-in_err-class_id g c =
    let p = err_from_is_err_and c.from_residual-in_err-class_id.result c.from_residual-in_err-class_id.ensures.1 in
    rw (p.1, p.2) (no_line _ _ _ _ _ (λ d h.
    (id_or_alg_fails _ d true _ _ (c.in_ok-more.ensures.reads.gives d h ∙ ap (λ (b : Bool). Ok (b, c.id_or_alg.new.self.text)) c.if-not-more.false) (c.in_err-class_id.ensures.reads d (still c.in_ok-more.ensures.kept h)))))
