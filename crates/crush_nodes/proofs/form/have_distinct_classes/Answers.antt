use Rattle.std.proofs.Common.{ℕ, ◌+◌, List, Bool, drop, ap, sym, ◌∙◌}
use Rattle.std.specs.Prelude.{◌&&◌, not, bytes_eq}
use Rattle.std.specs.List.{list_any}
use Rattle.std.proofs.lemmas.List.{take_rest}
use Rattle.crush_model.specs.Tested.{are_apart}
use Rattle.crush_nodes.specs.Attachable.{shadow_classes}
use Rattle.crush_nodes.proofs.ApartSteps.{classes_at, classes_end}
use Rattle.crush_nodes.proofs.form.have_distinct_classes.Goals as goal

pub loop-i-preserved : goal.loop-i-preserved
loop-i-preserved g c =
    let same : List ℕ → List ℕ → Bool = λ a b. bytes_eq b a in
    let cs = c.args.class_ids.now in
    let i = c.loop-i.i in
    let x = c.index-class_ids-i.result in
    let met = c.if-has_class_of.ensures ∙ ap (λ zs. list_any (same x.class) (shadow_classes zs)) (take_rest cs (i + 1)) in
    c.loop-i.invariant ∙ classes_at same cs i x c.loop-i-test.true c.index-class_ids-i.is ∙ (λ j. not (sym met j) && are_apart same (shadow_classes (drop (i + 1) cs)))

pub returns-then-has_class_of : goal.returns-then-has_class_of
returns-then-has_class_of g c =
    let same : List ℕ → List ℕ → Bool = λ a b. bytes_eq b a in
    let cs = c.args.class_ids.now in
    let i = c.loop-i.i in
    let x = c.index-class_ids-i.result in
    let met = c.if-has_class_of.ensures ∙ ap (λ zs. list_any (same x.class) (shadow_classes zs)) (take_rest cs (i + 1)) in
    sym (c.loop-i.invariant ∙ classes_at same cs i x c.loop-i-test.true c.index-class_ids-i.is ∙ (λ j. not (sym met j) && are_apart same (shadow_classes (drop (i + 1) cs))))

pub returns : goal.returns
returns g c =
    let same : List ℕ → List ℕ → Bool = λ a b. bytes_eq b a in
    sym (c.loop-i.invariant ∙ classes_end same c.args.class_ids.now c.loop-i.i c.loop-i-test.false)
