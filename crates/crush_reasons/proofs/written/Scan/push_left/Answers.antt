use Rattle.std.proofs.Common.{◌≡◌, ◌++◌, Bool, cond, [], sym, subst, ◌∙◌}
use Rattle.std.proofs.lemmas.List.{append-nil}
use Rattle.crush_reasons.specs.Written.{lines_left}
use Rattle.crush_reasons.proofs.written.Scan.push_left.Goals as goal

pub words-preserved : goal.words-preserved
words-preserved c = λ t stands.
    subst (λ (b : Bool). c.push_next.new.text.items ++ cond b (lines_left t c.push_next.new.self) [] ≡ c.words.text.items ++ lines_left t c.words.self) c.if-branch.true (c.in_ok-push_next.ensures.goes t stands)
    ∙ c.words.invariant t stands

pub returns : goal.returns
returns c = λ t stands.
    sym (append-nil c.push_next.new.text.items)
    ∙ subst (λ (b : Bool). c.push_next.new.text.items ++ cond b (lines_left t c.push_next.new.self) [] ≡ c.words.text.items ++ lines_left t c.words.self) c.if-branch.false (c.in_ok-push_next.ensures.goes t stands)
    ∙ c.words.invariant t stands
