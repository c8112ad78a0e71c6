use Rattle.std.proofs.Common.{◌≤◌, arith, inl, length, subst, sym}
use Rattle.crush_units.specs.declared.limits.TheConstants.{LONGEST_JOB}
use Rattle.crush_input.specs.VerbMaps.{IsVerbTextFault}
use Rattle.crush_input.proofs.Outcomes.{err_as, when_ok}
use Rattle.crush_input.proofs.verb_maps.check_text.Goals as goal

-- the text is the text of a map, and it is complete if it must be
pub returns-in-Ok-clause-map : goal.returns-in-Ok-clause-map
returns-in-Ok-clause-map g c =
    let m = c.in-Ok.ensures.map in
    let few : length c.args.bytes.now ≤ LONGEST_JOB = omega arith in
    when_ok _ _ c.check_end.result (λ _ whole. record { short = few; setting = _; table = m.0; adjusted = _; text = m.1; whole = whole }) c.check_end.ensures.whole

pub returns-in-Ok-clause-fault : goal.returns-in-Ok-clause-fault
returns-in-Ok-clause-fault g c =
    let m = c.in-Ok.ensures.map in
    let few : length c.args.bytes.now ≤ LONGEST_JOB = omega arith in
    err_as _ _ c.check_end.result (λ fault told. subst (IsVerbTextFault c.args.maps c.args.bytes.now) (sym told.0) (few, inl (_, m.0, _, m.1, told.1))) c.check_end.ensures.cut
