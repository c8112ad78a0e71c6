use Rattle.std.proofs.Common.{subst, sym, arith, ap, ◌∙◌}
use Rattle.std.proofs.lemmas.List.{take_all}
use Rattle.crush_map.specs.MapData.{MapStands}
use Rattle.crush_conflicts.specs.Alone.{table_of_operator}
use Rattle.crush_conflicts.proofs.AloneLaws.{alone_more, alone_none}
use Rattle.crush_conflicts.proofs.alone.map_alone.Goals as goal

pub loop-entry-init : goal.loop-entry-init
loop-entry-init g c = λ s t stands.
    subst (MapStands c.in_ok-alone.alone s) (sym (alone_none s t c.args.operator)) (record { setting = c.in_ok-alone.ensures.setting ∙ stands.setting; forest = c.in_ok-alone.ensures.stands t stands.forest })

pub loop-entry-preserved : goal.loop-entry-preserved
loop-entry-preserved g c = λ s t stands.
    subst (MapStands c.make_if_own.new.map s) (sym (alone_more s t c.args.entries.now c.args.operator c.loop-entry.entry-index c.entry-item.result c.loop-entry-test.true c.entry-item.is))
    (c.in_ok-make_if_own.ensures s (table_of_operator s t _ c.args.operator) (c.loop-entry.invariant s t stands))

pub returns : goal.returns
returns g c = λ s t stands.
    subst (λ h. MapStands c.loop-entry.alone s (table_of_operator s t h c.args.operator)) (take_all c.loop-entry.entry-index c.args.entries.now (omega (arith, c.loop-entry-test.false))) (c.loop-entry.invariant s t stands)
