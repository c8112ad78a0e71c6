use Rattle.std.proofs.Common.{◌≡◌, ◌∙◌, ap, arith, length}
use Rattle.std.proofs.lemmas.Bool.Decides.{nat_tests}
use Rattle.crush_input.proofs.FirstMaps.{verb_maps_may_be_maps}
use Rattle.crush_input.proofs.verb_maps.may_be_map.Goals as goal

-- no line of a map's text begins with `%`
pub returns-then-not-is_cut-clause-no : goal.returns-then-not-is_cut-clause-no
returns-then-not-is_cut-clause-no c = λ other is.
    let bytes = c.args.bytes.now in
    let may = verb_maps_may_be_maps c.args.maps bytes is in
    let all : length c.map_part.result.now ≡ length bytes = ap length (c.map_part.ensures ∙ may.single) in
    absurd (grind (arith, nat_tests, other, all))
