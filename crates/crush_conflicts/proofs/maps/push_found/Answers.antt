use Rattle.std.proofs.Common.{ap, map, ◌∙◌}
use Rattle.std.proofs.lemmas.List.{map_push}
use Rattle.crush_conflicts.specs.CasesSeen.{found_data}
use Rattle.crush_conflicts.proofs.maps.push_found.Goals as goal

pub returns : goal.returns
returns g c = ap (map found_data) c.in-Ok.ensures.items ∙ map_push found_data c.args.found.now.items _
