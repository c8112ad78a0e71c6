-- Reading the lines of a bucket, one after the other.
use Rattle.std.proofs.Common.{rules, refl}
use Rattle.std.proofs.lemmas.Result.{err_from_is_err_and}
use Rattle.crush_text.specs.Role.{kind_of_word}
use Rattle.crush_text.specs.Form.{second, begun}
use Rattle.crush_text.specs.Grammar.{bucket_line, id_line}
use Rattle.crush_text.proofs.Reached.{line_leads, next_leads, leads_then, fails_then, fails_line, goes_on}
use Rattle.crush_text.proofs.Refused.{no_lines}
use Rattle.crush_text.specs.declared.expected.Optional.TheVariants.{Nothing}
use Rattle.crush_text.proofs.reader.MapReader.bucket.Goals as goal

pub returns-in_err-bucket_name : goal.returns-in_err-bucket_name
returns-in_err-bucket_name g c =
    let p = err_from_is_err_and c.from_residual.result c.from_residual.ensures.1 in
    rw (p.1, p.2) (no_lines _ _ _ _ _ (λ d h.
    (fails_line _ d (bucket_line d (kind_of_word d c.args.kind.now)) _ (c.in_err-bucket_name.ensures.reads d h))))

pub returns-in_err-id_line : goal.returns-in_err-id_line
returns-in_err-id_line g c =
    let p = err_from_is_err_and c.from_residual-in_err-id_line.result c.from_residual-in_err-id_line.ensures.1 in
    rw (p.1, p.2) (no_lines _ _ _ _ _ (λ d h.
    let named = c.in_ok-bucket_name.ensures.reads d h in
    (
    fails_then _ _ _ _ _ (leads_then _ _ _ _ _ _ (line_leads d (bucket_line d (kind_of_word d c.args.kind.now)) _ _ _ named.2) (next_leads begun Nothing named.0 _ refl))
    (fails_line _ named.0 (id_line named.0) _ (c.in_err-id_line.ensures.reads named.0 named.1))
    )))

pub returns-in_err-or : goal.returns-in_err-or
returns-in_err-or g c =
    let p = err_from_is_err_and c.from_residual-in_err-or.result c.from_residual-in_err-or.ensures.1 in
    rw (p.1, p.2) (no_lines _ _ _ _ _ (λ d h.
    let named = c.in_ok-bucket_name.ensures.reads d h in
    let known = c.in_ok-id_line.ensures.reads named.0 named.1 in
    let head = leads_then _ _ _ _ _ _ (line_leads d (bucket_line d (kind_of_word d c.args.kind.now)) _ _ _ named.2) (next_leads begun Nothing named.0 _ refl) in
    (fails_then _ _ _ _ _ (leads_then _ _ _ _ _ _ head (line_leads named.0 (id_line named.0) _ _ _ known.2)) (c.in_err-or.ensures.reads known.0 known.1))))

pub returns : goal.returns
returns g c = record {
  reads = λ d h.
      let named = c.in_ok-bucket_name.ensures.reads d h in
      let known = c.in_ok-id_line.ensures.reads named.0 named.1 in
      let made = c.in_ok-or.ensures.reads known.0 known.1 in
      let head = leads_then _ _ _ _ _ _ (line_leads d (bucket_line d (kind_of_word d c.args.kind.now)) _ _ _ named.2) (next_leads begun Nothing named.0 _ refl) in
      let ids = leads_then _ _ _ _ _ _ (leads_then _ _ _ _ _ _ head (line_leads named.0 (id_line named.0) _ _ _ known.2)) made.2 in
      goes_on (λ _. (second, Nothing)) _ _ _ _ _ _ _ ids (c.items.ensures.reads made.0 made.1);
  stands = c.items.ensures.stands;
  shorter = search rules;
}
