use Rattle.std.proofs.Common.{rules, sym, subst, ◌∙◌}
use Rattle.std.proofs.lemmas.List.Sorted.{answers_always}
use Rattle.crush_items.specs.ById.{AreById}
use Rattle.crush_items.proofs.PlaceLaws.{found_here, found_key, found_nowhere}
use Rattle.crush_items.proofs.by_id.ById.find.Goals as goal

pub returns-in-Ok-clause-key : goal.returns-in-Ok-clause-key
returns-in-Ok-clause-key c =
    let by_key = c.in-Ok.ensures.position (λ p. p.key) (answers_always _ _ _ (λ f a r q called. search rules)) in
    found_key c.as_slice-places.result.now c.key_of-key.result c.in-Ok.at (record { key = 0; at = 0 }) by_key ∙ c.key_of-key.ensures.key

pub returns-in-Ok-clause-entry : goal.returns-in-Ok-clause-entry
returns-in-Ok-clause-entry c = λ t es lawful by_id.
    let by_key = c.in-Ok.ensures.position (λ p. p.key) (answers_always _ _ _ (λ f a r q called. search rules)) in
    found_here t es c.as_slice-places.result.now c.args.id c.in-Ok.at (record { key = 0; at = 0 }) lawful (subst (AreById t es) (sym c.as_slice-places.ensures.value) by_id) c.in-Ok.ensures.bound
    (found_key c.as_slice-places.result.now c.key_of-key.result c.in-Ok.at (record { key = 0; at = 0 }) by_key ∙ c.key_of-key.ensures.key) c.key_of-key.ensures.short

pub returns-in-Err-clause-entry : goal.returns-in-Err-clause-entry
returns-in-Err-clause-entry c = λ t es lawful by_id.
    let by_key = c.in-Err.ensures.position (λ p. p.key) (answers_always _ _ _ (λ f a r q called. search rules)) in
    found_nowhere t es c.as_slice-places.result.now c.args.id c.key_of-key.result c.in-Err.field-0 (subst (AreById t es) (sym c.as_slice-places.ensures.value) by_id) c.key_of-key.ensures.key by_key
