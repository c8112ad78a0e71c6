use Rattle.std.proofs.Common.{sym, subst}
use Rattle.crush_model.specs.Forest.{ForestData, rows_of}
use Rattle.crush_edits.specs.Fits.{Fits}
use Rattle.crush_apply.proofs.Batching.{same_before}
use Rattle.crush_apply.proofs.batch.apply_batch.Goals as goal

pub roll_back-requires : goal.roll_back-requires
roll_back-requires g c = (c.args.hierarchy.now, c.in-Err.ensures.log)

pub returns-in-Err-clause-memory : goal.returns-in-Err-clause-memory
returns-in-Err-clause-memory g c = λ is. c.roll_back.ensures c.args.hierarchy.now c.in-Err.ensures.log

pub returns-in-Err-clause-unchanged : goal.returns-in-Err-clause-unchanged
returns-in-Err-clause-unchanged g c = c.roll_back.ensures c.args.hierarchy.now c.in-Err.ensures.log

pub returns-in-Err-clause-as_before : goal.returns-in-Err-clause-as_before
returns-in-Err-clause-as_before g c = same_before _ _ (c.roll_back.ensures c.args.hierarchy.now c.in-Err.ensures.log)

pub returns-in-Err-clause-single : goal.returns-in-Err-clause-single
returns-in-Err-clause-single g c = λ one. c.roll_back.ensures c.args.hierarchy.now c.in-Err.ensures.log

pub returns-in-Err-clause-fits : goal.returns-in-Err-clause-fits
returns-in-Err-clause-fits g c = subst (λ (z : ForestData). Fits c.args.setting.now (rows_of z)) (sym (c.roll_back.ensures c.args.hierarchy.now c.in-Err.ensures.log)) c.requires.fits
