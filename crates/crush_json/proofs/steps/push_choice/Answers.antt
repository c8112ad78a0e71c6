use Rattle.crush_json.proofs.Chains.{then, as_told}
use Rattle.crush_json.specs.RuleDocument.{choose_document}
use Rattle.crush_json.specs.Tokens.{member_tokens, tokens_of}
use Rattle.crush_json.specs.Values.{whole}
use Rattle.json.specs.Token.{Token, begin_object, end_object}
use Rattle.serde_json.specs.Data.{string, object, member, no_members}
use Rattle.std.proofs.Common.{List, [], ◌∷◌, ◌++◌, ap, ◌∙◌, w32}
use Rattle.std.proofs.lemmas.Int.{to_z-of_z}
use Rattle.std.specs.Prelude.{codes}
use Rattle.crush_json.proofs.steps.push_choice.Goals as goal

pub returns : goal.returns
unfolding choose_document
returns c =
    let r = c.end_object.result in
    let opens : List Token = begin_object ∷ [] in
    let count : List Token = member_tokens (codes "num") (whole c.args.count) in
    let word : List Token = member_tokens (codes "op") (string c.choice_word.result.now) in
    let kind : List Token = member_tokens (codes "type") (string c.as_str.result.now) in
    let closes : List Token = end_object ∷ [] in
    as_told r c.args.out.now c.end_object.new.self (opens ++ (count ++ (word ++ (kind ++ closes)))) (tokens_of (choose_document c.args.leaf c.args.firstn c.args.count c.args.kind.now))
    (then r c.args.out.now c.begin_object.new.self c.end_object.new.self opens (count ++ (word ++ (kind ++ closes))) c.in_ok-begin_object.ensures (then r c.begin_object.new.self c.whole.new.self c.end_object.new.self count (word ++ (kind ++ closes)) (c.in_ok-whole.ensures ∙ ap (λ z. c.begin_object.new.self ++ member_tokens (codes "num") (whole z)) (to_z-of_z w32 c.args.count c.ranges.count)) (then r c.whole.new.self c.text.new.self c.end_object.new.self word (kind ++ closes) c.in_ok-text.ensures (then r c.text.new.self c.text-2.new.self c.end_object.new.self kind closes c.in_ok-text-2.ensures c.end_object.ensures))))
    (λ i. tokens_of (object (member (codes "num") (whole c.args.count) (member (codes "op") (string (c.choice_word.ensures i)) (member (codes "type") (string (c.as_str.ensures.value i)) no_members)))))
