use Rattle.std.proofs.Common.{[], arith, refl, inr}
use Rattle.std.proofs.lemmas.List.{length-map}
use Rattle.crush_since.specs.Stays.{line_texts}
use Rattle.crush_plan.proofs.plan.find_plan.Goals as goal

pub without_edits-requires : goal.without_edits-requires
without_edits-requires g c = record { remaining = c.in_ok-rest.ensures }

pub without_edits-requires-2 : goal.without_edits-requires-2
without_edits-requires-2 g c = record { remaining = c.in_ok-rest.ensures }

pub returns-then-is_better : goal.returns-then-is_better
returns-then-is_better g c = λ t u a b. record {
  goes = c.in_ok-found.ensures t u a b;
  better = inr (record {
    none = record { edits = []; rest = line_texts c.in_ok-rest.rest.items; aside = record { ids = _; class_ids = _ } };
    edits = refl;
    tells = record { rest = c.in_ok-rest.ensures t u a b; aside = record { ids = refl; class_ids = refl } };
    fewer = omega (arith, length-map c.in_ok-found.found.rest.items (λ line. line.items), length-map c.in_ok-rest.rest.items (λ line. line.items), c.len-differences.ensures, c.is_better.ensures c.if-is_better.true);
  });
}
