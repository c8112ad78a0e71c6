use Rattle.std.proofs.Common.{refl, subst, sym, true}
use Rattle.crush_input.specs.Notes.{AreNotesOfFile}
use Rattle.crush_input.specs.VerbMaps.{AreNotesOfVerbMap, IsVerbMapFault}
use Rattle.crush_input.proofs.VerbMaps.{memory_is_fault}
use Rattle.crush_input.proofs.verb_maps.aborted_refusal.Goals as goal

pub returns-in-Read-clause-noted : goal.returns-in-Read-clause-noted
returns-in-Read-clause-noted c = λ name shown all told. (subst (λ f. AreNotesOfFile true name f c.args.aborted.notes.items) c.in-Read.is told).1 refl

pub returns-in_default-clause-fault : goal.returns-in_default-clause-fault
returns-in_default-clause-fault c = λ maps all. subst (IsVerbMapFault maps all) (sym c.memory_refusal.ensures.fault) (memory_is_fault maps all)

pub returns-in_default-clause-noted : goal.returns-in_default-clause-noted
returns-in_default-clause-noted c = λ name shown all told. subst (λ f. AreNotesOfVerbMap name shown all f c.memory_refusal.result.notes.items) (sym c.memory_refusal.ensures.fault) c.memory_refusal.ensures.quiet
