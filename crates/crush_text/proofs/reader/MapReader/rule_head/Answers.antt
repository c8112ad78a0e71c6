-- Reading the head of a rule, and its pool sizes.
use Rattle.std.proofs.Common.{[], rules, ◌∙◌, inr}
use Rattle.std.proofs.lemmas.Result.{err_from_is_err_and}
use Rattle.crush_text.specs.Form.{ruled, at, passing, done}
use Rattle.crush_text.specs.Grammar.{max_size, new_rule}
use Rattle.crush_text.specs.ReadsRules.{left_last}
use Rattle.crush_text.proofs.LineByLine.{fails_so}
use Rattle.crush_text.proofs.LineEnds.{still, word_fails, word_reads}
use Rattle.crush_text.proofs.Reached.{reaches_word}
use Rattle.crush_text.proofs.Steps.{head_goes, kind_reached, head_made, head_right}
use Rattle.crush_text.proofs.Refused.{no_head}
use Rattle.crush_text.proofs.reader.MapReader.rule_head.Goals as goal

pub returns-in_err-name : goal.returns-in_err-name
returns-in_err-name g c =
    let p = err_from_is_err_and c.from_residual.result c.from_residual.ensures.1 in
    rw (p.1, p.2) (no_head _ _ _ c.in_err-name.ensures.kept (λ d h.
    (word_fails d _ _ _ _ (c.in_err-name.ensures.reads.gives d h))))

pub returns-in_err-read_key : goal.returns-in_err-read_key
returns-in_err-read_key g c =
    let p = err_from_is_err_and c.from_residual-in_err-read_key.result c.from_residual-in_err-read_key.ensures.1 in
    rw (p.1, p.2) (no_head _ _ _ c.in_ok-name.ensures.kept (λ d h.
    (fails_so _ _ _ (word_reads d _ _ _ _ _ (c.in_ok-name.ensures.reads.gives d h)) (word_fails d _ _ _ _ (c.in_err-read_key.ensures.gives d tt)))))

pub returns-in_err-read_rule_id_key : goal.returns-in_err-read_rule_id_key
returns-in_err-read_rule_id_key g c =
    let p = err_from_is_err_and c.from_residual-in_err-read_rule_id_key.result c.from_residual-in_err-read_rule_id_key.ensures.1 in
    rw (p.1, p.2) (no_head _ _ _ c.in_ok-name.ensures.kept (λ d h.
    (fails_so _ _ _ (word_reads d _ _ _ _ _ (c.in_ok-name.ensures.reads.gives d h) ∙ word_reads d _ _ _ _ _ (c.in_ok-read_key.ensures.gives d tt)) (word_fails d _ _ _ _ (c.in_err-read_rule_id_key.ensures.gives d tt)))))

pub returns-in_err-id : goal.returns-in_err-id
returns-in_err-id g c =
    let p = err_from_is_err_and c.from_residual-in_err-id.result c.from_residual-in_err-id.ensures.1 in
    rw (p.1, p.2) (no_head _ _ _ (c.in_err-id.ensures.kept ∙ c.in_ok-name.ensures.kept) (λ d h.
    (fails_so _ _ _ (word_reads d _ _ _ _ _ (c.in_ok-name.ensures.reads.gives d h) ∙ word_reads d _ _ _ _ _ (c.in_ok-read_key.ensures.gives d tt) ∙ word_reads d _ _ _ _ _ (c.in_ok-read_rule_id_key.ensures.gives d tt)) (word_fails d _ _ _ _ (c.in_err-id.ensures.reads.gives d (still c.in_ok-name.ensures.kept h))))))

pub returns-in_err-read_key-2 : goal.returns-in_err-read_key-2
returns-in_err-read_key-2 g c =
    let p = err_from_is_err_and c.from_residual-in_err-read_key-2.result c.from_residual-in_err-read_key-2.ensures.1 in
    rw (p.1, p.2) (no_head _ _ _ (c.in_ok-id.ensures.kept ∙ c.in_ok-name.ensures.kept) (λ d h.
    (fails_so _ _ _ (word_reads d _ _ _ _ _ (c.in_ok-name.ensures.reads.gives d h) ∙ word_reads d _ _ _ _ _ (c.in_ok-read_key.ensures.gives d tt) ∙ word_reads d _ _ _ _ _ (c.in_ok-read_rule_id_key.ensures.gives d tt) ∙ word_reads d _ _ _ _ _ (c.in_ok-id.ensures.reads.gives d (still c.in_ok-name.ensures.kept h))) (word_fails d _ _ _ _ (c.in_err-read_key-2.ensures.gives d tt)))))

pub returns-in_err-kind : goal.returns-in_err-kind
returns-in_err-kind g c =
    let p = err_from_is_err_and c.from_residual-in_err-kind.result c.from_residual-in_err-kind.ensures.1 in
    rw (p.1, p.2) (no_head _ _ _ (c.in_ok-id.ensures.kept ∙ c.in_ok-name.ensures.kept) (λ d h.
    (fails_so _ _ _ (word_reads d _ _ _ _ _ (c.in_ok-name.ensures.reads.gives d h) ∙ word_reads d _ _ _ _ _ (c.in_ok-read_key.ensures.gives d tt) ∙ word_reads d _ _ _ _ _ (c.in_ok-read_rule_id_key.ensures.gives d tt) ∙ word_reads d _ _ _ _ _ (c.in_ok-id.ensures.reads.gives d (still c.in_ok-name.ensures.kept h)) ∙ word_reads d _ _ _ _ _ (c.in_ok-read_key-2.ensures.gives d tt)) (word_fails d _ _ _ _ (c.in_err-kind.ensures.gives d tt)))))

pub returns-in_err-min_size : goal.returns-in_err-min_size
returns-in_err-min_size g c =
    let p = err_from_is_err_and c.from_residual-in_err-min_size.result c.from_residual-in_err-min_size.ensures.1 in
    rw (p.1, p.2) (no_head _ _ _ (c.in_ok-id.ensures.kept ∙ c.in_ok-name.ensures.kept) (λ d h.
    let head = head_goes d _ _ _ _ _ _ _ _ _ _ (c.in_ok-name.ensures.reads.gives d h) (c.in_ok-read_key.ensures.gives d tt) (c.in_ok-read_rule_id_key.ensures.gives d tt) (c.in_ok-id.ensures.reads.gives d (still c.in_ok-name.ensures.kept h)) (c.in_ok-read_key-2.ensures.gives d tt) (c.in_ok-kind.ensures.gives d tt) in
    (inr (head ∙ c.in_err-min_size.ensures.gives d (max_size d c.in_ok-name.name.text.now c.in_ok-id.id c.in_ok-kind.kind.text.now)))))

pub returns-in_err-max_size : goal.returns-in_err-max_size
returns-in_err-max_size g c =
    let p = err_from_is_err_and c.from_residual-in_err-max_size.result c.from_residual-in_err-max_size.ensures.1 in
    rw (p.1, p.2) (no_head _ _ _ (c.in_ok-id.ensures.kept ∙ c.in_ok-name.ensures.kept) (λ d h.
    let head = head_goes d _ _ _ _ _ _ _ _ _ _ (c.in_ok-name.ensures.reads.gives d h) (c.in_ok-read_key.ensures.gives d tt) (c.in_ok-read_rule_id_key.ensures.gives d tt) (c.in_ok-id.ensures.reads.gives d (still c.in_ok-name.ensures.kept h)) (c.in_ok-read_key-2.ensures.gives d tt) (c.in_ok-kind.ensures.gives d tt) in
    let least = c.in_ok-min_size.ensures.gives d (max_size d c.in_ok-name.name.text.now c.in_ok-id.id c.in_ok-kind.kind.text.now) in
    (inr (head ∙ least ∙ c.in_err-max_size.ensures.gives d (λ o. done (passing (left_last [] c.in_ok-min_size.min_size o) (at (ruled (new_rule c.in_ok-name.name.text.now c.in_ok-id.id c.in_ok-kind.kind.text.now c.in_ok-min_size.min_size o)) d)))))))

pub returns : goal.returns
returns g c = record {
  right = head_right _ _ _ _ _ _ _ _ (c.in_ok-id.ensures.kept ∙ c.in_ok-name.ensures.kept) c.rule_head_values.ensures.form c.rule_head_values.ensures.head c.in_ok-name.ensures.reads.free (λ d h. c.in_ok-id.ensures.reads.free d (still c.in_ok-name.ensures.kept h));
  gives = λ d h.
      let head = head_goes d _ _ _ _ _ _ _ _ _ _ (c.in_ok-name.ensures.reads.gives d h) (c.in_ok-read_key.ensures.gives d tt) (c.in_ok-read_rule_id_key.ensures.gives d tt) (c.in_ok-id.ensures.reads.gives d (still c.in_ok-name.ensures.kept h)) (c.in_ok-read_key-2.ensures.gives d tt) (c.in_ok-kind.ensures.gives d tt) in
      let least = c.in_ok-min_size.ensures.gives d (max_size d c.in_ok-name.name.text.now c.in_ok-id.id c.in_ok-kind.kind.text.now) in
      let most = c.in_ok-max_size.ensures.gives d (λ o. done (passing (left_last [] c.in_ok-min_size.min_size o) (at (ruled (new_rule c.in_ok-name.name.text.now c.in_ok-id.id c.in_ok-kind.kind.text.now c.in_ok-min_size.min_size o)) d))) in
      head_made d _ _ _ _ _ _ _ _ _ _ (head ∙ least ∙ most)
      (reaches_word d _ _ _ _ _ _ _ _ (c.in_ok-name.ensures.reads.gives d h) (_, c.in_ok-name.ensures.reads.next))
      (kind_reached d _ _ _ _ _ _ _ _ _ _ _ (c.in_ok-name.ensures.reads.gives d h) (c.in_ok-read_key.ensures.gives d tt) (c.in_ok-read_rule_id_key.ensures.gives d tt) (c.in_ok-id.ensures.reads.gives d (still c.in_ok-name.ensures.kept h)) (c.in_ok-read_key-2.ensures.gives d tt) (c.in_ok-kind.ensures.gives d tt) (_, c.in_ok-kind.ensures.next))
      c.rule_head_values.ensures.head c.rule_head_values.ensures.memory;
  kept = (c.in_ok-id.ensures.kept ∙ c.in_ok-name.ensures.kept);
  shorter = search rules;
}
