use Rattle.std.proofs.lemmas.Result.{IfOk-weaker}
use Rattle.crush_plan.proofs.draft.Draft.allows.Goals as goal

pub returns-then-fits : goal.returns-then-fits
returns-then-fits g c =
    IfOk-weaker c.weighs_part.result _ _ (λ is_allowed f so v d t u a b. record {
      said = c.fits.ensures.said c.if-fits.true;
      there = c.fits.ensures.there c.if-fits.true v d;
      concerned = c.fits.ensures.concerned c.if-fits.true t u v a b d;
      below = f so v d t u a b;
    }) c.weighs_part.ensures
