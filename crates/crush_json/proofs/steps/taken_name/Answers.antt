use Rattle.std.proofs.Common.{List, ℕ, ◌++◌, ap, sym, ◌∙◌}
use Rattle.std.specs.Prelude.{codes}
use Rattle.std.proofs.lemmas.Result.{IfOk-weaker}
use Rattle.crush_json.specs.RuleDocument.{taken_name}
use Rattle.crush_json.proofs.steps.taken_name.Goals as goal

pub returns-in-Some : goal.returns-in-Some
returns-in-Some g c =
    IfOk-weaker c.classed_name.result _ _ (λ text is t stands.
    is ∙ ap (λ (n : List ℕ). n ++ codes "~" ++ c.in-Some.class) (c.bucket_name-name.ensures t stands) ∙ ap (taken_name t c.args.bucket) (sym c.in-Some.is)) c.classed_name.ensures
