use Rattle.crush_json.proofs.Chains.{then, as_told}
use Rattle.crush_json.specs.HistoryDocument.{made_document}
use Rattle.crush_json.specs.Tokens.{last_tokens, member_tokens, tokens_of}
use Rattle.crush_json.specs.Values.{natural}
use Rattle.json.specs.Token.{Token, begin_object, end_object}
use Rattle.serde_json.specs.Data.{string}
use Rattle.std.proofs.Common.{List, [], ◌∷◌, ◌++◌, refl}
use Rattle.std.specs.Prelude.{None}
use Rattle.std.specs.Prelude.{codes}
use Rattle.crush_json.proofs.history.push_made.Goals as goal

pub returns : goal.returns
returns c =
    let r = c.end_object.result in
    let opens : List Token = begin_object ∷ [] in
    let call : List Token = member_tokens (codes "call") (string c.args.reported.now.call.now) in
    let changed : List Token = member_tokens (codes "changed") (natural c.args.changed) in
    let made : List Token = member_tokens (codes "made") (natural c.args.made) in
    let rest : List Token = last_tokens c.args.reported.now.number c.args.reported.now.operator.now None c.args.reported.now.reply.now in
    let closes : List Token = end_object ∷ [] in
    as_told r c.args.out.now c.end_object.new.self (opens ++ (call ++ (changed ++ (made ++ (rest ++ closes))))) (tokens_of (made_document c.args.reported.now.number c.args.reported.now.operator.now c.args.reported.now.call.now c.args.changed c.args.made c.args.reported.now.reply.now))
    (then r c.args.out.now c.begin_object.new.self c.end_object.new.self opens (call ++ (changed ++ (made ++ (rest ++ closes)))) c.in_ok-begin_object.ensures (then r c.begin_object.new.self c.text.new.self c.end_object.new.self call (changed ++ (made ++ (rest ++ closes))) c.in_ok-text.ensures (then r c.text.new.self c.natural.new.self c.end_object.new.self changed (made ++ (rest ++ closes)) c.in_ok-natural.ensures (then r c.natural.new.self c.natural-2.new.self c.end_object.new.self made (rest ++ closes) c.in_ok-natural-2.ensures (then r c.natural-2.new.self c.push_last.new.out c.end_object.new.self rest closes c.in_ok-push_last.ensures c.end_object.ensures)))))
    refl
