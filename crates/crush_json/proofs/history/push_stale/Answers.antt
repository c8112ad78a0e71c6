use Rattle.crush_json.proofs.Chains.{then, as_told}
use Rattle.crush_json.specs.HistoryDocument.{stale_document}
use Rattle.crush_json.specs.Tokens.{last_tokens, member_tokens, tokens_of}
use Rattle.crush_json.specs.Values.{natural}
use Rattle.json.specs.Token.{Token, begin_object, end_object}
use Rattle.serde_json.specs.Data.{string}
use Rattle.std.proofs.Common.{List, [], ◌∷◌, ◌++◌, refl}
use Rattle.std.specs.Prelude.{Some}
use Rattle.std.specs.Prelude.{codes}
use Rattle.crush_json.proofs.history.push_stale.Goals as goal

pub returns : goal.returns
returns c =
    let r = c.end_object.result in
    let opens : List Token = begin_object ∷ [] in
    let call : List Token = member_tokens (codes "call") (string c.args.reported.now.call.now) in
    let changes : List Token = member_tokens (codes "changes") (natural c.args.changes) in
    let errno : List Token = member_tokens (codes "errno") (natural 11) in
    let rest : List Token = last_tokens c.args.reported.now.number c.args.reported.now.operator.now (Some (codes "Stale")) c.args.reported.now.reply.now in
    let closes : List Token = end_object ∷ [] in
    as_told r c.args.out.now c.end_object.new.self (opens ++ (call ++ (changes ++ (errno ++ (rest ++ closes))))) (tokens_of (stale_document c.args.reported.now.number c.args.reported.now.operator.now c.args.reported.now.call.now c.args.changes c.args.reported.now.reply.now))
    (then r c.args.out.now c.begin_object.new.self c.end_object.new.self opens (call ++ (changes ++ (errno ++ (rest ++ closes)))) c.in_ok-begin_object.ensures (then r c.begin_object.new.self c.text.new.self c.end_object.new.self call (changes ++ (errno ++ (rest ++ closes))) c.in_ok-text.ensures (then r c.text.new.self c.natural.new.self c.end_object.new.self changes (errno ++ (rest ++ closes)) c.in_ok-natural.ensures (then r c.natural.new.self c.natural-2.new.self c.end_object.new.self errno (rest ++ closes) c.in_ok-natural-2.ensures (then r c.natural-2.new.self c.push_last.new.out c.end_object.new.self rest closes c.in_ok-push_last.ensures c.end_object.ensures)))))
    refl
