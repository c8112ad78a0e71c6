use Rattle.std.proofs.Common.{List, ℕ, Some, subst, sym}
use Rattle.crush_input.specs.VerbMaps.{AreNotesOfVerbMap, IsVerbTextFault, MayBeVerbMap}
use Rattle.crush_input.proofs.Outcomes.{when_ok}
use Rattle.crush_input.proofs.verb_maps.screened_map.Goals as goal

-- what is true of the slice is true of the bytes
pub returns-then-may_be_map-clause-map : goal.returns-then-may_be_map-clause-map
returns-then-may_be_map-clause-map g c = subst (MayBeVerbMap c.args.maps) c.as_slice-text.ensures.value (c.may_be_map.ensures.yes c.if-may_be_map.true)

-- bytes that can't be a map never pass the check
pub returns-in-Ok-clause-map : goal.returns-in-Ok-clause-map
returns-in-Ok-clause-map g c = absurd (c.may_be_map.ensures.no c.if-may_be_map.false c.in-Ok.ensures.map)

pub returns-in-Err-clause-fault : goal.returns-in-Err-clause-fault
returns-in-Err-clause-fault g c = subst (λ (z : List ℕ). IsVerbTextFault c.args.maps z c.in-Err.refusal.fault) c.as_slice-text.ensures.value c.in-Err.ensures.fault

pub returns-in-Err-clause-noted : goal.returns-in-Err-clause-noted
returns-in-Err-clause-noted g c = λ name. subst (λ (z : List ℕ). AreNotesOfVerbMap name c.args.shown.now (Some z) c.in-Err.refusal.fault c.in-Err.refusal.notes.items) c.as_slice-text.ensures.value (c.in-Err.ensures.noted name)
