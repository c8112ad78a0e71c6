use Rattle.std.proofs.Common.{refl}
use Rattle.std.proofs.lemmas.Result.{err_from_is_err_and}
use Rattle.crush_options.proofs.Reading.{apart_much}
use Rattle.crush_options.proofs.command_line.options_of.Goals as goal

pub returns-in_err-output_spec-clause-fault : goal.returns-in_err-output_spec-clause-fault
returns-in_err-output_spec-clause-fault c =
    let p = err_from_is_err_and c.from_residual.result c.from_residual.ensures.1 in
    rw (p.1, p.2) (apart_much _ _ _ _ c.output_flags_of-flags.ensures refl c.in_err-output_spec.ensures.fault)
