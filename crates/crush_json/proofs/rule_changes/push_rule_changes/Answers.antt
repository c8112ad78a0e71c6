use Rattle.std.proofs.Common.{List, ◌++◌, ap, ◌∙◌, map}
use Rattle.json.specs.Token.{Token}
use Rattle.crush_since.specs.RulesSeen.{rule_change_data}
use Rattle.crush_since.specs.Since.{PlainMap, plain_map}
use Rattle.crush_json.specs.RuleChanges.{rule_change_document, rule_change_documents}
use Rattle.crush_json.specs.Tokens.{tokens_of_all}
use Rattle.crush_json.proofs.Listed.{array_done, mapped_seen}
use Rattle.crush_json.proofs.rule_changes.push_rule_changes.Goals as goal

pub returns : goal.returns
unfolding rule_change_documents
returns g c = λ t u was is.
    let old : PlainMap = plain_map c.args.old.now.setting t in
    let new : PlainMap = plain_map c.args.new.now.setting u in
    array_done (rule_change_documents old new) c.end_array.result c.args.out.now c.begin_array.new.self c.push_each.new.out c.end_array.new.self c.in_ok-begin_array.ensures
    (c.in_ok-push_each.ensures ∙ ap (λ (l : List Token). c.begin_array.new.self ++ l)
    (mapped_seen rule_change_data rule_change_document c.as_slice.result.now ∙ ap (λ ds. tokens_of_all (map rule_change_document ds)) (ap (map rule_change_data) c.as_slice.ensures.value ∙ c.in_ok-changes.ensures t u was is))) c.end_array.ensures
