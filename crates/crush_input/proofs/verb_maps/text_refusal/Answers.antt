use Rattle.std.proofs.Common.{List, ℕ, Some, subst, sym}
use Rattle.crush_input.specs.VerbMaps.{AreNotesOfVerbMap, IsVerbTextFault}
use Rattle.crush_input.proofs.VerbMaps.{verb_noted}
use Rattle.crush_input.proofs.verb_maps.text_refusal.Goals as goal

pub returns-in-Ok-clause-noted : goal.returns-in-Ok-clause-noted
returns-in-Ok-clause-noted c = λ maps name is. verb_noted maps name c.args.shown.now c.args.bytes.now c.args.fault c.in-Ok.notes.items is c.in-Ok.ensures

pub returns-in-Err-clause-fault : goal.returns-in-Err-clause-fault
returns-in-Err-clause-fault c = λ maps is. subst (IsVerbTextFault maps c.args.bytes.now) (sym c.memory_refusal.ensures.fault) tt

pub returns-in-Err-clause-noted : goal.returns-in-Err-clause-noted
returns-in-Err-clause-noted c = λ maps name is. subst (λ f. AreNotesOfVerbMap name c.args.shown.now (Some c.args.bytes.now) f c.memory_refusal.result.notes.items) (sym c.memory_refusal.ensures.fault) c.memory_refusal.ensures.quiet
