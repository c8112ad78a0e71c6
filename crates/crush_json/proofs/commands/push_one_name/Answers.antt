use Rattle.crush_json.proofs.Chains.{as_told, then}
use Rattle.crush_json.specs.PlanDocument.{one_name}
use Rattle.crush_json.specs.Tokens.{tokens_of}
use Rattle.json.specs.Token.{Token, begin_array, end_array}
use Rattle.serde_json.specs.Data.{string}
use Rattle.std.proofs.Common.{List, [], ◌++◌, ◌∷◌}
use Rattle.crush_json.proofs.commands.push_one_name.Goals as goal

pub returns : goal.returns
returns c =
    let r = c.end_array.result in
    let opens : List Token = begin_array ∷ [] in
    let name : List Token = tokens_of (string c.as_str.result.now) in
    let closes : List Token = end_array ∷ [] in
    as_told r c.args.out.now c.end_array.new.self (opens ++ (name ++ closes)) (tokens_of (one_name c.args.name.now))
    (then r c.args.out.now c.begin_array.new.self c.end_array.new.self opens (name ++ closes) c.in_ok-begin_array.ensures (then r c.begin_array.new.self c.push_text.new.self c.end_array.new.self name closes c.in_ok-push_text.ensures c.end_array.ensures))
    (λ i. tokens_of (one_name (c.as_str.ensures.value i)))
