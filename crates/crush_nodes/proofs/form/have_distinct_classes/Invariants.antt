use Rattle.std.proofs.Common.{◌≡◌, drop}
use Rattle.std.specs.Prelude.{bytes_eq}
use Rattle.crush_model.specs.Tested.{are_apart}
use Rattle.crush_nodes.specs.Attachable.{shadow_classes}
use Rattle.crush_nodes.proofs.form.have_distinct_classes.Given as goal

abbrev pub invariant-loop-i : goal.invariant-loop-i
invariant-loop-i g l = are_apart (λ a b. bytes_eq b a) (shadow_classes l.class_ids) ≡ are_apart (λ a b. bytes_eq b a) (shadow_classes (drop l.i l.class_ids))
