use Rattle.crush_edits.specs.Refusal.{refusal_error, refusal_name}
use Rattle.crush_json.proofs.Chains.{then, as_told}
use Rattle.crush_json.specs.HistoryDocument.{refused_members}
use Rattle.crush_json.specs.Tokens.{last_tokens, member_tokens, tokens_of}
use Rattle.crush_json.specs.Values.{natural}
use Rattle.json.specs.Token.{Token, begin_object, end_object}
use Rattle.serde_json.specs.Data.{string, object}
use Rattle.std.proofs.Common.{List, [], ◌∷◌, ◌++◌, refl}
use Rattle.std.specs.Prelude.{Some}
use Rattle.std.specs.Prelude.{codes}
use Rattle.crush_json.proofs.history.push_refused.Goals as goal

pub returns : goal.returns
returns c =
    let r = c.end_object.result in
    let opens : List Token = begin_object ∷ [] in
    let told : List Token = member_tokens (codes "call") (string c.args.reported.now.call.now) ++ member_tokens (codes "errno") (natural (refusal_error c.args.refusal)) ++ last_tokens c.args.reported.now.number c.args.reported.now.operator.now (Some (refusal_name c.args.refusal)) c.args.reported.now.reply.now in
    let closes : List Token = end_object ∷ [] in
    as_told r c.args.out.now c.end_object.new.self (opens ++ (told ++ closes)) (tokens_of (object (refused_members c.args.reported.now.number c.args.reported.now.operator.now c.args.reported.now.call.now c.args.refusal c.args.reported.now.reply.now)))
    (then r c.args.out.now c.begin_object.new.self c.end_object.new.self opens (told ++ closes) c.in_ok-begin_object.ensures (then r c.begin_object.new.self c.push_refusal.new.out c.end_object.new.self told closes c.in_ok-push_refusal.ensures c.end_object.ensures))
    refl
