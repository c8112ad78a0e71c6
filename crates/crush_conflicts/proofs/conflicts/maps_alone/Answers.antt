use Rattle.std.proofs.Common.{[], take, subst, sym, ◌∙◌}
use Rattle.std.proofs.lemmas.List.{take_all}
use Rattle.crush_history.specs.HistoryText.{names_of}
use Rattle.crush_history.specs.Script.{scripts_data}
use Rattle.crush_conflicts.specs.Conflicts.{operators_from}
use Rattle.crush_conflicts.specs.MapsSeen.{IsMapAlone}
use Rattle.crush_conflicts.specs.Pairwise.{Pairwise}
use Rattle.crush_conflicts.proofs.OperatorLaws.{operators_more}
use Rattle.crush_conflicts.proofs.PairwiseLaws.{pairwise_more}
use Rattle.crush_conflicts.proofs.conflicts.maps_alone.Goals as goal

pub loop-operator-init : goal.loop-operator-init
loop-operator-init g c = λ s t stands. subst (Pairwise IsMapAlone []) (sym c.new-maps.ensures.items) tt

pub loop-operator-preserved : goal.loop-operator-preserved
loop-operator-preserved g c = λ s t stands.
    let h = c.args.entries.now in
    let i = c.loop-operator.operator in
    let x = c.index-scripts-operator.result in
    pairwise_more IsMapAlone _ _ _ _ _ _ (c.loop-operator.invariant s t stands) (operators_more s t h c.args.scripts.now i x c.loop-operator-test.true c.index-scripts-operator.is) c.in-Ok.ensures.items
    (record { name = c.as_str.ensures.value; table = (c.in_ok-map.ensures s t stands).forest })

pub returns : goal.returns
returns g c = λ s t stands.
    subst (λ xs. Pairwise IsMapAlone (operators_from s t c.args.entries.now 0 (names_of (scripts_data xs))) c.loop-operator.maps.items) (take_all c.loop-operator.operator c.args.scripts.now c.loop-operator-test.false) (c.loop-operator.invariant s t stands)
