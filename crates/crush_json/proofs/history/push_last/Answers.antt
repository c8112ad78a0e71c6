use Rattle.crush_json.proofs.Chains.{then, as_told}
use Rattle.crush_json.specs.Tokens.{last_tokens, member_tokens, text_tokens_if}
use Rattle.crush_json.specs.Values.{natural}
use Rattle.json.specs.Token.{Token}
use Rattle.serde_json.specs.Data.{string}
use Rattle.std.proofs.Common.{List, ◌++◌, refl}
use Rattle.std.specs.Option.{option_map}
use Rattle.std.specs.Prelude.{codes}
use Rattle.crush_json.proofs.history.push_last.Goals as goal

pub returns : goal.returns
returns c =
    let r = c.text-2.result in
    let number : List Token = member_tokens (codes "number") (natural c.args.reported.now.number) in
    let operator : List Token = member_tokens (codes "operator") (string c.args.reported.now.operator.now) in
    let refusal : List Token = text_tokens_if (codes "refusal") (option_map (λ name. name.now) c.args.refusal) in
    let reply : List Token = member_tokens (codes "reply") (string c.args.reported.now.reply.now) in
    as_told r c.args.out.now c.text-2.new.self (number ++ (operator ++ (refusal ++ reply))) (last_tokens c.args.reported.now.number c.args.reported.now.operator.now (option_map (λ name. name.now) c.args.refusal) c.args.reported.now.reply.now)
    (then r c.args.out.now c.natural.new.self c.text-2.new.self number (operator ++ (refusal ++ reply)) c.in_ok-natural.ensures (then r c.natural.new.self c.text.new.self c.text-2.new.self operator (refusal ++ reply) c.in_ok-text.ensures (then r c.text.new.self c.text_if.new.self c.text-2.new.self refusal reply c.in_ok-text_if.ensures c.text-2.ensures)))
    refl
