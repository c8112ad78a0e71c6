use Rattle.crush_input.proofs.verb_maps.check_verb_map.Goals as goal

pub returns-in-Err-clause-fault : goal.returns-in-Err-clause-fault
returns-in-Err-clause-fault g c = c.text_refusal.ensures.fault c.args.maps c.in-Err.ensures.fault

pub returns-in-Err-clause-noted : goal.returns-in-Err-clause-noted
returns-in-Err-clause-noted g c = λ name. c.text_refusal.ensures.noted c.args.maps name c.in-Err.ensures.fault
