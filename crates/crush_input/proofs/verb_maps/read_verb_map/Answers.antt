use Rattle.std.proofs.Common.{List, ℕ, subst, sym}
use Rattle.std.specs.Prelude.{IfSome}
use Rattle.crush_input.specs.Input.{IsInput}
use Rattle.crush_input.proofs.Outcomes.{err_as, err_both, when_ok}
use Rattle.crush_input.proofs.VerbMaps.{verb_fault_of_all, verb_noted_of_all}
use Rattle.crush_input.proofs.verb_maps.read_verb_map.Goals as goal

-- what is true of the bytes that were read is also true of all bytes of the file
pub returns-in-Ok-clause-bytes : goal.returns-in-Ok-clause-bytes
returns-in-Ok-clause-bytes g c =
    let all = g.F.Opens.content c.args.files.now c.args.name.now in
    when_ok _ _ c.screened_map.result (λ kept same. subst (λ (z : List ℕ). IfSome all (IsInput z)) (sym same) c.in-Ok.ensures.bytes) c.screened_map.ensures.same

pub returns-in-Ok-clause-fault : goal.returns-in-Ok-clause-fault
returns-in-Ok-clause-fault g c =
    let all = g.F.Opens.content c.args.files.now c.args.name.now in
    err_as _ _ c.screened_map.result (λ s told. verb_fault_of_all c.args.maps all c.in-Ok.bytes.items s.fault c.in-Ok.ensures.bytes told) c.screened_map.ensures.fault

pub returns-in-Ok-clause-noted : goal.returns-in-Ok-clause-noted
returns-in-Ok-clause-noted g c =
    let all = g.F.Opens.content c.args.files.now c.args.name.now in
    err_both _ _ _ c.screened_map.result (λ s told noted. verb_noted_of_all c.args.maps c.args.name.now c.args.shown.now all c.in-Ok.bytes.items s.fault s.notes.items c.in-Ok.ensures.bytes told (noted c.args.name.now)) c.screened_map.ensures.fault c.screened_map.ensures.noted

-- the fault of a file that couldn't be read is possible whatever bytes the file has
pub returns-in-Err-clause-fault : goal.returns-in-Err-clause-fault
returns-in-Err-clause-fault g c = c.aborted_refusal.ensures.fault c.args.maps _

pub returns-in-Err-clause-noted : goal.returns-in-Err-clause-noted
returns-in-Err-clause-noted g c = c.aborted_refusal.ensures.noted c.args.name.now c.args.shown.now _ c.in-Err.ensures.noted
