use Rattle.crush_json.proofs.Chains.{as_told, then}
use Rattle.crush_json.specs.PlanDocument.{swapping, text, told}
use Rattle.crush_json.specs.Tokens.{member_tokens}
use Rattle.json.specs.Json as json
use Rattle.json.specs.Token.{Token, begin_object, end_object}
use Rattle.json.specs.Tree.{json_tokens}
use Rattle.serde_json.specs.Data.{boolean, string}
use Rattle.std.proofs.Common.{List, [], ◌++◌, ◌∷◌}
use Rattle.std.specs.Prelude.{codes, true}
use Rattle.crush_json.proofs.commands.push_swapping.Goals as goal

pub returns : goal.returns
unfolding swapping
returns c =
    let r = c.end_object.result in
    let opens : List Token = begin_object ∷ [] in
    let dest : List Token = member_tokens (codes "dest") (string c.as_str.result.now) in
    let prefix : List Token = member_tokens (codes "prefix") (string c.args.prefix.now) in
    let source : List Token = member_tokens (codes "source") (string c.as_str-2.result.now) in
    let assent : List Token = member_tokens (codes "yes_i_really_mean_it") (boolean true) in
    let closes : List Token = end_object ∷ [] in
    as_told r c.args.out.now c.end_object.new.self (opens ++ (dest ++ (prefix ++ (source ++ (assent ++ closes))))) (json_tokens (swapping c.args.prefix.now c.args.a.now c.args.b.now))
    (then r c.args.out.now c.begin_object.new.self c.end_object.new.self opens (dest ++ (prefix ++ (source ++ (assent ++ closes)))) c.in_ok-begin_object.ensures (then r c.begin_object.new.self c.text.new.self c.end_object.new.self dest (prefix ++ (source ++ (assent ++ closes))) c.in_ok-text.ensures (then r c.text.new.self c.text-2.new.self c.end_object.new.self prefix (source ++ (assent ++ closes)) c.in_ok-text-2.ensures (then r c.text-2.new.self c.text-3.new.self c.end_object.new.self source (assent ++ closes) c.in_ok-text-3.ensures (then r c.text-3.new.self c.truth.new.self c.end_object.new.self assent closes c.in_ok-truth.ensures c.end_object.ensures)))))
    (λ i. json_tokens (json.object (text (codes "dest") (c.as_str.ensures.value i) (text (codes "prefix") c.args.prefix.now (text (codes "source") (c.as_str-2.ensures.value i) (told (codes "yes_i_really_mean_it") (boolean true) json.no_members))))))
