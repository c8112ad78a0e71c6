use Rattle.crush_input.proofs.FirstMaps.{first_maps_are_maps, other_maps_are_maps, verb_maps_may_be_maps}
use Rattle.crush_input.proofs.law.maps_of_runs_are_verb_maps.Goals as goal

pub returns : goal.returns
returns c = record { first = first_maps_are_maps; other = other_maps_are_maps; screened = verb_maps_may_be_maps }
