use Rattle.std.proofs.Common.{ℕ, ◌+◌, Bool, ◌==◌, drop, ap, sym, ◌∙◌}
use Rattle.std.specs.Prelude.{◌&&◌, not}
use Rattle.std.specs.List.{list_any}
use Rattle.std.proofs.lemmas.List.{take_rest}
use Rattle.crush_model.specs.Tested.{are_apart}
use Rattle.crush_nodes.specs.Seen.{shadow_numbers}
use Rattle.crush_nodes.proofs.ApartSteps.{numbers_at, numbers_end}
use Rattle.crush_nodes.proofs.apart.are_distinct_ids.Goals as goal

pub loop-i-preserved : goal.loop-i-preserved
loop-i-preserved g c =
    let same : ℕ → ℕ → Bool = λ a b. b == a in
    let cs = c.args.class_ids.now in
    let i = c.loop-i.i in
    let x = c.index-class_ids-i.result in
    let met = c.if-has_number_of.ensures ∙ ap (λ zs. list_any (same x.id) (shadow_numbers zs)) (take_rest cs (i + 1)) in
    c.loop-i.invariant ∙ numbers_at same cs i x c.loop-i-test.true c.index-class_ids-i.is ∙ (λ j. not (sym met j) && are_apart same (shadow_numbers (drop (i + 1) cs)))

pub returns-then-has_number_of : goal.returns-then-has_number_of
returns-then-has_number_of g c =
    let same : ℕ → ℕ → Bool = λ a b. b == a in
    let cs = c.args.class_ids.now in
    let i = c.loop-i.i in
    let x = c.index-class_ids-i.result in
    let met = c.if-has_number_of.ensures ∙ ap (λ zs. list_any (same x.id) (shadow_numbers zs)) (take_rest cs (i + 1)) in
    sym (c.loop-i.invariant ∙ numbers_at same cs i x c.loop-i-test.true c.index-class_ids-i.is ∙ (λ j. not (sym met j) && are_apart same (shadow_numbers (drop (i + 1) cs))))

pub returns : goal.returns
returns g c =
    let same : ℕ → ℕ → Bool = λ a b. b == a in
    sym (c.loop-i.invariant ∙ numbers_end same c.args.class_ids.now c.loop-i.i c.loop-i-test.false)
