use Rattle.std.proofs.Common.{subst, sym}
use Rattle.crush_model.specs.Stands.{Stands}
use Rattle.crush_compare.proofs.comparison.Comparison.by_names_part.Goals as goal

pub returns-clause-pairs : goal.returns-clause-pairs
returns-clause-pairs g c = λ t u x y.
    let has_t = c.in_ok-before.ensures.entries t x in
    let has_u = c.in_ok-after.ensures.entries u y in
    record {
      before = has_t;
      after = has_u;
      pairs = c.in_ok-pairs.ensures t u (subst (λ m. Stands m.forest t) (sym c.in_ok-before.ensures.map) x) (subst (λ m. Stands m.forest u) (sym c.in_ok-after.ensures.map) y) has_t has_u
          (c.in_ok-before.ensures.steps t x) (c.in_ok-after.ensures.steps u y);
    }
