use Rattle.crush_json.proofs.Chains.{then, as_told}
use Rattle.crush_json.specs.MapDocument.{kind_document}
use Rattle.crush_json.specs.Tokens.{member_tokens, tokens_of}
use Rattle.crush_json.specs.Values.{natural}
use Rattle.json.specs.Token.{Token, begin_object, end_object}
use Rattle.serde_json.specs.Data.{string}
use Rattle.std.proofs.Common.{List, [], ◌∷◌, ◌++◌, refl}
use Rattle.std.specs.Prelude.{codes}
use Rattle.crush_json.proofs.kinds.push_kind.Goals as goal

pub returns : goal.returns
unfolding kind_document
returns c =
    let r = c.end_object.result in
    let opens : List Token = begin_object ∷ [] in
    let name : List Token = member_tokens (codes "name") (string c.args.name.now) in
    let number : List Token = member_tokens (codes "type_id") (natural c.args.number) in
    let closes : List Token = end_object ∷ [] in
    as_told r c.args.out.now c.end_object.new.self (opens ++ (name ++ (number ++ closes))) (tokens_of (kind_document c.args.number c.args.name.now))
    (then r c.args.out.now c.begin_object.new.self c.end_object.new.self opens (name ++ (number ++ closes)) c.in_ok-begin_object.ensures (then r c.begin_object.new.self c.text.new.self c.end_object.new.self name (number ++ closes) c.in_ok-text.ensures (then r c.text.new.self c.natural.new.self c.end_object.new.self number closes c.in_ok-natural.ensures c.end_object.ensures)))
    refl
