-- A refused edit leaves the table unchanged, and the map is as it was before.
use Rattle.std.proofs.Common.{ap, sym, subst, Err}
use Rattle.crush_model.specs.Stands.{Stands}
use Rattle.crush_edits.specs.Answer.{Answer}
use Rattle.crush_map.specs.MapData.{MapData}
use Rattle.crush_history.specs.History.{edit_outcome}
use Rattle.crush_ceph.proofs.for_ceph.redo_edit.Goals as goal

pub returns-in-Err-Refused-clause-stands : goal.returns-in-Err-Refused-clause-stands
returns-in-Err-Refused-clause-stands c t st =
    let arm = c.in-Err-Refused in
    let is = arm.ensures.refused arm.field-0-0 (ap Err arm.field-0-is) t st in
    subst (λ (a : Answer). Stands c.apply.new.self.forest (edit_outcome t a).table) (sym is) (subst (λ (m : MapData). Stands m.forest t) (sym arm.ensures.unchanged) st)
