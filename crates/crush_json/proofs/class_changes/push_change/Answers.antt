use Rattle.crush_json.proofs.Chains.{as_told, then}
use Rattle.crush_json.specs.RuleChanges.{class_change_document}
use Rattle.crush_json.specs.Tokens.{member_tokens, tokens_of}
use Rattle.crush_json.specs.Values.{natural}
use Rattle.crush_since.specs.ClassesSeen.{class_change_data}
use Rattle.json.specs.Token.{Token, begin_object, end_object}
use Rattle.serde_json.specs.Data.{boolean, string}
use Rattle.std.proofs.Common.{List, [], ◌∷◌, ◌++◌, refl}
use Rattle.std.specs.Prelude.{codes}
use Rattle.crush_json.proofs.class_changes.push_change.Goals as goal

pub returns : goal.returns
unfolding class_change_document
returns c =
    let r = c.end_object.result in
    let x = class_change_data c.args.change.now in
    let opens : List Token = begin_object ∷ [] in
    let after : List Token = member_tokens (codes "is") (natural x.is) in
    let name : List Token = member_tokens (codes "name") (string x.name) in
    let taken : List Token = member_tokens (codes "taken") (boolean x.is_taken) in
    let before : List Token = member_tokens (codes "was") (natural x.was) in
    let closes : List Token = end_object ∷ [] in
    as_told r c.args.out.now c.end_object.new.self (opens ++ (after ++ (name ++ (taken ++ (before ++ closes))))) (tokens_of (class_change_document x))
    (then r c.args.out.now c.begin_object.new.self c.end_object.new.self opens (after ++ (name ++ (taken ++ (before ++ closes)))) c.in_ok-begin_object.ensures (then r c.begin_object.new.self c.large.new.self c.end_object.new.self after (name ++ (taken ++ (before ++ closes))) c.in_ok-large.ensures (then r c.large.new.self c.text.new.self c.end_object.new.self name (taken ++ (before ++ closes)) c.in_ok-text.ensures (then r c.text.new.self c.truth.new.self c.end_object.new.self taken (before ++ closes) c.in_ok-truth.ensures (then r c.truth.new.self c.large-2.new.self c.end_object.new.self before closes c.in_ok-large-2.ensures c.end_object.ensures)))))
    refl
