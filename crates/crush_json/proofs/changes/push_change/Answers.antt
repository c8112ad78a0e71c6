use Rattle.crush_compare.specs.Comparison.{pair_entries}
use Rattle.crush_json.proofs.Chains.{as_told, then}
use Rattle.crush_json.proofs.SinceLaws.{pair_told}
use Rattle.crush_json.specs.PairDocument.{pair_document, seen_tokens_if}
use Rattle.crush_json.specs.Tokens.{tokens_of}
use Rattle.crush_json.specs.Tokens.{whole_tokens_if}
use Rattle.json.specs.Token.{Token, begin_object, end_object}
use Rattle.std.proofs.Common.{List, [], ◌∷◌, ◌++◌, ◌∙◌, map}
use Rattle.std.specs.Prelude.{codes}
use Rattle.crush_json.proofs.changes.push_change.Goals as goal

pub returns : goal.returns
returns g c =
    let r = c.end_object.result in
    let s = c.args.both.now.old.map.now.setting in
    let p = c.args.both.now.new.map.now.setting in
    let e = pair_entries c.args.both.now c.args.pair in
    let opens : List Token = begin_object ∷ [] in
    let id : List Token = whole_tokens_if (codes "id") c.number_of-number.result in
    let after : List Token = seen_tokens_if (codes "is") p e.after in
    let before : List Token = seen_tokens_if (codes "was") s e.before in
    let closes : List Token = end_object ∷ [] in
    as_told r c.args.out.now c.end_object.new.self (opens ++ (id ++ (after ++ (before ++ closes)))) (tokens_of (pair_document s p e))
    (then r c.args.out.now c.begin_object.new.self c.end_object.new.self opens (id ++ (after ++ (before ++ closes))) c.in_ok-begin_object.ensures (then r c.begin_object.new.self c.whole_if.new.self c.end_object.new.self id (after ++ (before ++ closes)) c.in_ok-whole_if.ensures (then r c.whole_if.new.self c.push_at_if.new.out c.end_object.new.self after (before ++ closes) c.in_ok-push_at_if.ensures (then r c.push_at_if.new.out c.push_at_if-2.new.out c.end_object.new.self before closes c.in_ok-push_at_if-2.ensures c.end_object.ensures))))
    ((λ i. begin_object ∷ (whole_tokens_if (codes "id") (c.number_of-number.ensures i) ++ (after ++ (before ++ closes))))
    ∙ pair_told s p e)
