use Rattle.std.proofs.Common.{◌≡◌, true, false, ap, ◌∙◌}
use Rattle.std.specs.Prelude.{Some}
use Rattle.std.specs.Option.{option_map}
use Rattle.crush_model.specs.Forest.{rows_of}
use Rattle.crush_model.proofs.Stands.{stands_for_rows}
use Rattle.crush_tree.specs.Runs.{weights_in, weights_of}
use Rattle.crush_apply.proofs.RolledBack.{weights_given}
use Rattle.crush_apply.proofs.reweight_subtree.weights_below.Goals as goal

pub unreachable-requires : goal.unreachable-requires
unreachable-requires g c =
    let gone : false ≡ true = c.in_default.ensures.there (rows_of c.args.hierarchy.now) (stands_for_rows c.args.hierarchy.now c.recall_invariant.ensures) ∙ c.requires in
    cc

pub returns-clause-back : goal.returns-clause-back
returns-clause-back g c = λ logged w new change r.
    weights_given c.args.hierarchy.now new c.args.bucket w (weights_of c.in_ok-runs.runs.items) change c.recall_invariant.ensures c.requires (ap Some c.in_ok-runs.ensures ∙ ap (option_map weights_in) c.in-Some.ensures.items) r
