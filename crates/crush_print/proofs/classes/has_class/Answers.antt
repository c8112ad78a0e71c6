use Rattle.std.proofs.Common.{◌≡◌, ◌∙◌, true, false, ap, refl, sym, subst}
use Rattle.std.specs.Prelude.{◌||◌, is_some}
use Rattle.crush_model.specs.Stands.{Stands}
use Rattle.crush_nodes.specs.Seen.{items_of}
use Rattle.crush_print.specs.ClassItems.{class_weight_in}
use Rattle.crush_print.specs.ClassWeights.{is_class}
use Rattle.crush_print.proofs.ClassLaws.{forest_found}
use Rattle.crush_print.proofs.classes.has_class.Goals as goal

pub returns-then-is_among : goal.returns-then-is_among
returns-then-is_among g c = λ t stands.
    let f = c.forest-forest.result.now in
    let k = c.as_bytes-class.result.now in
    let here = subst (λ x. Stands x t) (sym c.forest-forest.ensures) stands in
    let own : is_some (class_weight_in k (items_of c.unplaced.result.now)) ≡ true = sym c.is_among.ensures ∙ c.if-is_among.true in
    c.if-is_among.true ∙ sym (ap (λ z. z || is_some (class_weight_in k f.roots)) own) ∙ forest_found f t k (items_of c.unplaced.result.now) f.roots c.unplaced.ensures.items refl here
    ∙ ap (is_class t) c.as_bytes-class.ensures.value

pub returns-else-is_among : goal.returns-else-is_among
returns-else-is_among g c = λ t stands.
    let f = c.forest-forest.result.now in
    let k = c.as_bytes-class.result.now in
    let here = subst (λ x. Stands x t) (sym c.forest-forest.ensures) stands in
    let own : is_some (class_weight_in k (items_of c.unplaced.result.now)) ≡ false = sym c.is_among.ensures ∙ c.if-is_among.false in
    c.is_among-else-is_among.ensures ∙ sym (ap (λ z. z || is_some (class_weight_in k (items_of c.roots.result.now))) own)
    ∙ forest_found f t k (items_of c.unplaced.result.now) (items_of c.roots.result.now) c.unplaced.ensures.items c.roots.ensures.items here
    ∙ ap (is_class t) c.as_bytes-class.ensures.value
