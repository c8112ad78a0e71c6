use Rattle.crush_edits.specs.Refusal.{refusal_error, refusal_name}
use Rattle.crush_json.proofs.Chains.{then, as_told}
use Rattle.crush_json.specs.Tokens.{last_tokens, member_tokens}
use Rattle.crush_json.specs.Values.{natural}
use Rattle.json.specs.Token.{Token}
use Rattle.serde_json.specs.Data.{string}
use Rattle.std.proofs.Common.{List, ◌++◌}
use Rattle.std.specs.Prelude.{Some}
use Rattle.std.specs.Prelude.{codes}
use Rattle.crush_json.proofs.history.push_refusal.Goals as goal

pub returns : goal.returns
returns c =
    let r = c.push_last.result in
    let call : List Token = member_tokens (codes "call") (string c.args.reported.now.call.now) in
    let errno : List Token = member_tokens (codes "errno") (natural c.error.result) in
    let rest : List Token = last_tokens c.args.reported.now.number c.args.reported.now.operator.now (Some c.name.result.now) c.args.reported.now.reply.now in
    as_told r c.args.out.now c.push_last.new.out (call ++ (errno ++ rest)) (member_tokens (codes "call") (string c.args.reported.now.call.now) ++ member_tokens (codes "errno") (natural (refusal_error c.args.refusal)) ++ last_tokens c.args.reported.now.number c.args.reported.now.operator.now (Some (refusal_name c.args.refusal)) c.args.reported.now.reply.now)
    (then r c.args.out.now c.text.new.self c.push_last.new.out call (errno ++ rest) c.in_ok-text.ensures (then r c.text.new.self c.natural.new.self c.push_last.new.out errno rest c.in_ok-natural.ensures c.push_last.ensures))
    (λ i. member_tokens (codes "call") (string c.args.reported.now.call.now) ++ (member_tokens (codes "errno") (natural (c.error.ensures i)) ++ last_tokens c.args.reported.now.number c.args.reported.now.operator.now (Some (c.name.ensures i)) c.args.reported.now.reply.now))
