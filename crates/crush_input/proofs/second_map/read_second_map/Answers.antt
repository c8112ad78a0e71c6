use Rattle.std.proofs.Common.{ℕ, List, subst, sym}
use Rattle.std.specs.Prelude.{IfSome}
use Rattle.crush_input.specs.Input.{IsInput}
use Rattle.crush_input.proofs.Outputs.{map_fault_of_all, map_noted_of_all, map_of_all}
use Rattle.crush_input.proofs.Outcomes.{err_as, err_both}
use Rattle.crush_input.proofs.second_map.read_second_map.Goals as goal

-- what is true of the bytes that were read is also true of all bytes of the file
pub returns-in-Ok-clause-map : goal.returns-in-Ok-clause-map
returns-in-Ok-clause-map g c =
    let all = g.F.Opens.content c.args.files.now c.args.name.now in
    let known = subst (λ (z : List ℕ). IfSome all (IsInput z)) (sym c.as_slice.ensures.value) c.in-Ok.ensures.bytes in
    map_of_all c.map_of.result all c.as_slice.result.now known c.map_of.ensures.map

pub returns-in-Ok-clause-fault : goal.returns-in-Ok-clause-fault
returns-in-Ok-clause-fault g c =
    let all = g.F.Opens.content c.args.files.now c.args.name.now in
    let known = subst (λ (z : List ℕ). IfSome all (IsInput z)) (sym c.as_slice.ensures.value) c.in-Ok.ensures.bytes in
    err_as _ _ c.map_of.result (λ s h. map_fault_of_all c.args.which all c.as_slice.result.now s.fault known h) c.map_of.ensures.fault

pub returns-in-Ok-clause-noted : goal.returns-in-Ok-clause-noted
returns-in-Ok-clause-noted g c =
    let all = g.F.Opens.content c.args.files.now c.args.name.now in
    let known = subst (λ (z : List ℕ). IfSome all (IsInput z)) (sym c.as_slice.ensures.value) c.in-Ok.ensures.bytes in
    err_both _ _ _ c.map_of.result (λ s h told. map_noted_of_all c.args.explain c.args.which c.args.name.now all c.as_slice.result.now s.fault _ known h told) c.map_of.ensures.fault c.map_of.ensures.noted

-- the fault of a file that couldn't be read is possible whatever bytes the file has
pub returns-in-Err-clause-fault : goal.returns-in-Err-clause-fault
returns-in-Err-clause-fault g c = c.of_second_map.ensures.fault _

pub returns-in-Err-clause-noted : goal.returns-in-Err-clause-noted
returns-in-Err-clause-noted g c = c.of_second_map.ensures.noted _ _ _ c.in-Err.ensures.noted
