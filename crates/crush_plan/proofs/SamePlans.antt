-- `==` says of two plans whether they are the same value.
use Rattle.std.proofs.Common.{◌≡◌, ℕ, Bool, List, ap, map, subst}
use Rattle.std.specs.Bool.{Decides}
use Rattle.std.specs.Cmp.Lexicographic.{pointwise, pointwise_decides}
use Rattle.std.specs.Cmp.Derive.Mapped.{pointwise-map}
use Rattle.std.proofs.lemmas.Slice.Eq.{bytes_eq-Decides}
use Rattle.std.proofs.lemmas.Bool.Decides.{Decides-and, Decides-like, Decides-eqb}
use Rattle.crush_edits.proofs.SameEdits.{same_edit-Decides}
use Rattle.crush_since.specs.declared.names.aside.Counts.{Counts}
use Rattle.crush_since.specs.contracts.names.aside.CountsPartialEq.TheImpl as counts
use Rattle.crush_plan.specs.Plan.{PlanData, plan_data}
use Rattle.crush_plan.specs.SamePlan.{same_plan}
use Rattle.crush_plan.specs.declared.plan.Plan.{Plan}

same_counts-Decides : (a b : Counts) → Decides ((counts.ghosts).eq a b) (a ≡ b)
same_counts-Decides a b = Decides-like _ (λ h i. record { ids = h.0 i; class_ids = h.1 i }) (λ e. (ap (λ (c : Counts). c.ids) e, ap (λ (c : Counts). c.class_ids) e))
    (Decides-and _ _ (Decides-eqb a.ids b.ids) (Decides-eqb a.class_ids b.class_ids))

pub same_plan-Decides : (a b : Plan) → Decides (same_plan a b) (plan_data a ≡ plan_data b)
same_plan-Decides a b = Decides-like _ (λ h i. record { edits = h.0 i; rest = h.1.0 i; aside = h.1.1 i })
    (λ e. (ap (λ (p : PlanData). p.edits) e, (ap (λ (p : PlanData). p.rest) e, ap (λ (p : PlanData). p.aside) e)))
    (Decides-and _ _ (pointwise_decides same_edit-Decides a.edits.items b.edits.items)
    (Decides-and _ _ (subst (λ t. Decides t (map (λ line. line.items) a.rest.items ≡ map (λ line. line.items) b.rest.items)) (pointwise-map (λ line. line.items) _ a.rest.items b.rest.items) (pointwise_decides bytes_eq-Decides _ _))
    (same_counts-Decides a.aside b.aside)))
