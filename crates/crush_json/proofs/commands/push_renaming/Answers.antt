use Rattle.crush_json.proofs.Chains.{as_told, then}
use Rattle.crush_json.specs.PlanDocument.{renaming, text}
use Rattle.crush_json.specs.Tokens.{member_tokens}
use Rattle.json.specs.Json as json
use Rattle.json.specs.Token.{Token, begin_object, end_object}
use Rattle.json.specs.Tree.{json_tokens}
use Rattle.serde_json.specs.Data.{string}
use Rattle.std.proofs.Common.{List, [], ◌++◌, ◌∷◌}
use Rattle.std.specs.Prelude.{codes}
use Rattle.crush_json.proofs.commands.push_renaming.Goals as goal

pub returns : goal.returns
unfolding renaming
returns c =
    let r = c.end_object.result in
    let opens : List Token = begin_object ∷ [] in
    let dest : List Token = member_tokens (codes "dstname") (string c.as_str.result.now) in
    let prefix : List Token = member_tokens (codes "prefix") (string c.args.prefix.now) in
    let source : List Token = member_tokens (codes "srcname") (string c.as_str-2.result.now) in
    let closes : List Token = end_object ∷ [] in
    as_told r c.args.out.now c.end_object.new.self (opens ++ (dest ++ (prefix ++ (source ++ closes)))) (json_tokens (renaming c.args.prefix.now c.args.from.now c.args.to.now))
    (then r c.args.out.now c.begin_object.new.self c.end_object.new.self opens (dest ++ (prefix ++ (source ++ closes))) c.in_ok-begin_object.ensures (then r c.begin_object.new.self c.text.new.self c.end_object.new.self dest (prefix ++ (source ++ closes)) c.in_ok-text.ensures (then r c.text.new.self c.text-2.new.self c.end_object.new.self prefix (source ++ closes) c.in_ok-text-2.ensures (then r c.text-2.new.self c.text-3.new.self c.end_object.new.self source closes c.in_ok-text-3.ensures c.end_object.ensures))))
    (λ i. json_tokens (json.object (text (codes "dstname") (c.as_str.ensures.value i) (text (codes "prefix") c.args.prefix.now (text (codes "srcname") (c.as_str-2.ensures.value i) json.no_members)))))
