use Rattle.crush_json.proofs.Chains.{as_told, then}
use Rattle.crush_json.proofs.PlanLaws.{plan_told}
use Rattle.crush_json.specs.PlanDocument.{all_of, aside_document, command, plan_document, stays_document}
use Rattle.crush_since.specs.Stays.{line_texts}
use Rattle.crush_json.specs.Seen.{history_data}
use Rattle.crush_json.specs.Tokens.{history_tokens_if}
use Rattle.crush_json.specs.Tokens.{member_tokens, tokens_of}
use Rattle.json.specs.Json.{array}
use Rattle.json.specs.Token.{Token, begin_object, end_object, key}
use Rattle.json.specs.Tree.{json_tokens}
use Rattle.std.proofs.Common.{List, [], ◌∷◌, ◌++◌, map}
use Rattle.std.specs.Option.{option_map}
use Rattle.std.specs.Prelude.{codes}
use Rattle.crush_json.proofs.write.plan.push_document.Goals as goal

pub returns : goal.returns
returns c =
    let r = c.end_object.result in
    let told = option_map history_data c.args.history in
    let opens : List Token = begin_object ∷ [] in
    let aside : List Token = member_tokens (codes "aside") (aside_document c.args.ids c.args.class_ids) in
    let history : List Token = history_tokens_if told in
    let plan_key : List Token = key (codes "plan") ∷ [] in
    let commands : List Token = json_tokens (array (all_of (map command c.args.edits.now))) in
    let stays_key : List Token = key (codes "stays") ∷ [] in
    let stays : List Token = tokens_of (stays_document (line_texts c.args.rest.now)) in
    let closes : List Token = end_object ∷ [] in
    as_told r c.args.out.now c.end_object.new.self (opens ++ (aside ++ (history ++ (plan_key ++ (commands ++ (stays_key ++ (stays ++ closes))))))) (json_tokens (plan_document told c.args.edits.now (line_texts c.args.rest.now) c.args.ids c.args.class_ids))
    (then r c.args.out.now c.begin_object.new.self c.end_object.new.self opens (aside ++ (history ++ (plan_key ++ (commands ++ (stays_key ++ (stays ++ closes)))))) c.in_ok-begin_object.ensures (then r c.begin_object.new.self c.push_aside.new.out c.end_object.new.self aside (history ++ (plan_key ++ (commands ++ (stays_key ++ (stays ++ closes))))) c.in_ok-push_aside.ensures (then r c.push_aside.new.out c.push_history_if.new.out c.end_object.new.self history (plan_key ++ (commands ++ (stays_key ++ (stays ++ closes)))) c.in_ok-push_history_if.ensures (then r c.push_history_if.new.out c.key.new.self c.end_object.new.self plan_key (commands ++ (stays_key ++ (stays ++ closes))) c.in_ok-key.ensures (then r c.key.new.self c.push_commands.new.out c.end_object.new.self commands (stays_key ++ (stays ++ closes)) c.in_ok-push_commands.ensures (then r c.push_commands.new.out c.key-2.new.self c.end_object.new.self stays_key (stays ++ closes) c.in_ok-key-2.ensures (then r c.key-2.new.self c.push_stays.new.out c.end_object.new.self stays closes c.in_ok-push_stays.ensures c.end_object.ensures)))))))
    (plan_told told c.args.edits.now (line_texts c.args.rest.now) c.args.ids c.args.class_ids)
