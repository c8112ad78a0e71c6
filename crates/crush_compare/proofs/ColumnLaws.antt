-- Proves that at least one column differs if and only if two tables don't say the same about an item.
use Rattle.std.proofs.Common.{◌≡◌, ◌==◌, Bool, true, false, not, ◌&&◌, ◌||◌, refl, ◌∙◌}
use Rattle.std.specs.Prelude.{bytes_eq}
use Rattle.crush_compare.specs.Columns.{SomeColumnOfOtherItems}
use Rattle.crush_compare.specs.Equal.{same_option, same_text}
use Rattle.crush_compare.specs.SameItem.{same_algs}

not_and : (p q : Bool) → (not p || not q) ≡ not (p && q)
not_and true q = refl
not_and false q = refl

of_seven : (a b c d e f g : Bool) → ((((((not a || not b) || not c) || not d) || not e) || not f) || not g) ≡ not ((((((a && b) && c) && d) && e) && f) && g)
of_seven a b c d e f g =
    (λ i. (((((not_and a b i || not c) || not d) || not e) || not f) || not g)) ∙ (λ i. ((((not_and (a && b) c i || not d) || not e) || not f) || not g))
    ∙ (λ i. (((not_and ((a && b) && c) d i || not e) || not f) || not g)) ∙ (λ i. ((not_and (((a && b) && c) && d) e i || not f) || not g))
    ∙ (λ i. (not_and ((((a && b) && c) && d) && e) f i || not g)) ∙ not_and (((((a && b) && c) && d) && e) && f) g

pub some_column : SomeColumnOfOtherItems
some_column a b same =
    of_seven (bytes_eq a.view.name b.view.name) (a.view.kind == b.view.kind) (same_option a.view.parent b.view.parent) (a.view.weight == b.view.weight) (same_text a.view.class b.view.class)
    (same_algs a.view.alg b.view.alg) same
