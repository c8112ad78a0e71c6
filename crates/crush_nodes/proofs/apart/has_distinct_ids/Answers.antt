use Rattle.std.proofs.Common.{◌≡◌, ◌==◌, true, false, ap, ◌∙◌}
use Rattle.std.specs.Prelude.{◌&&◌, not}
use Rattle.std.specs.List.{list_any}
use Rattle.crush_model.specs.Tested.{are_apart}
use Rattle.crush_nodes.specs.Seen.{shadow_numbers}
use Rattle.crush_nodes.proofs.ApartSteps.{any_number}
use Rattle.crush_nodes.proofs.apart.has_distinct_ids.Goals as goal

pub returns-then-not-has_shadow_id : goal.returns-then-not-has_shadow_id
returns-then-not-has_shadow_id g c =
    let cs = c.args.header.now.class_ids.items in
    let i = c.args.header.now.id in
    let told : false ≡ list_any (λ b. b == i) (shadow_numbers cs) = c.if-not-has_shadow_id.ensures ∙ ap (list_any (λ z. z.id == i)) c.as_slice-class_ids.ensures.value ∙ any_number (λ b. b == i) cs in
    c.are_distinct_ids.ensures ∙ ap (λ z. are_apart (λ a b. b == a) (shadow_numbers z)) c.as_slice-class_ids.ensures.value
    ∙ ap (λ z. not z && are_apart (λ a b. b == a) (shadow_numbers cs)) told

pub returns-else-not-has_shadow_id : goal.returns-else-not-has_shadow_id
returns-else-not-has_shadow_id g c =
    let cs = c.args.header.now.class_ids.items in
    let i = c.args.header.now.id in
    let told : true ≡ list_any (λ b. b == i) (shadow_numbers cs) = c.if-not-has_shadow_id.ensures ∙ ap (list_any (λ z. z.id == i)) c.as_slice-class_ids.ensures.value ∙ any_number (λ b. b == i) cs in
    ap not c.if-not-has_shadow_id.false ∙ ap (λ z. not z && are_apart (λ a b. b == a) (shadow_numbers cs)) told
