use Rattle.crush_json.proofs.Chains.{as_told, then}
use Rattle.crush_json.specs.SinceDocument.{totals_document}
use Rattle.crush_json.specs.Tokens.{member_tokens, tokens_of}
use Rattle.crush_json.specs.Values.{natural}
use Rattle.json.specs.Token.{Token, begin_array, end_array, key}
use Rattle.std.proofs.Common.{List, [], refl, ◌++◌, ◌∷◌}
use Rattle.std.specs.Prelude.{codes}
use Rattle.crush_json.proofs.since.push_totals.Goals as goal

pub returns : goal.returns
returns c =
    let r = c.end_array.result in
    let name : List Token = key (codes "total") ∷ [] in
    let opens : List Token = begin_array ∷ [] in
    let first : List Token = tokens_of (natural c.args.before) in
    let second : List Token = tokens_of (natural c.args.after) in
    let closes : List Token = end_array ∷ [] in
    as_told r c.args.out.now c.end_array.new.self (name ++ (opens ++ (first ++ (second ++ closes)))) (member_tokens (codes "total") (totals_document c.args.before c.args.after))
    (then r c.args.out.now c.key.new.self c.end_array.new.self name (opens ++ (first ++ (second ++ closes))) c.in_ok-key.ensures (then r c.key.new.self c.begin_array.new.self c.end_array.new.self opens (first ++ (second ++ closes)) c.in_ok-begin_array.ensures (then r c.begin_array.new.self c.push_natural.new.self c.end_array.new.self first (second ++ closes) c.in_ok-push_natural.ensures (then r c.push_natural.new.self c.push_natural-2.new.self c.end_array.new.self second closes c.in_ok-push_natural-2.ensures c.end_array.ensures))))
    refl
