use Rattle.std.proofs.Common.{◌≡◌, true, false, not, List, [], ◌∷◌, length, refl, ap, sym, ◌∙◌, arith, ⊎_elim, true≢false}
use Rattle.std.specs.Prelude.{Some}
use Rattle.std.proofs.lemmas.Bool.Decides.{eqb_tells}
use Rattle.crush_model.specs.Forest.{rows_of}
use Rattle.crush_model.specs.Items.{none}
use Rattle.crush_model.proofs.Stands.{stands_for_rows}
use Rattle.crush_nodes.specs.Seen.{items_of}
use Rattle.crush_nodes.specs.declared.node.Node.{Node}
use Rattle.crush_apply.proofs.remove.holds_items.Goals as goal

pub unreachable-requires : goal.unreachable-requires
unreachable-requires g c =
    let gone : false ≡ true = c.in_default.ensures.there (rows_of c.args.hierarchy.now) (stands_for_rows c.args.hierarchy.now c.recall_invariant.ensures) ∙ c.requires in
    cc

no_items : {A : Type 0} (ns : List (Node A)) → length ns ≡ 0 → items_of ns ≡ none
no_items [] e = refl
no_items (n ∷ ns) e = absurd (omega (arith, e))

pub returns-clause-alone : goal.returns-clause-alone
returns-clause-alone g c = λ empty.
    sym c.in-Some.ensures.items
    ∙ ap Some (no_items c.in-Some.items.now (⊎_elim (λ p. p.1) (λ p. absurd (true≢false (sym (ap not (c.is_empty.ensures ∙ p.0)) ∙ empty))) (eqb_tells (length c.in-Some.items.now) 0)))
