use Rattle.crush_json.proofs.Listed.{array_done, mapped}
use Rattle.crush_edits.specs.EditText.{pair_word}
use Rattle.crush_json.specs.PlanDocument.{pair_values}
use Rattle.json.specs.Token.{Token}
use Rattle.serde_json.specs.Data.{string}
use Rattle.std.proofs.Common.{List, ap, ◌++◌, ◌∙◌}
use Rattle.crush_json.proofs.commands.push_pairs.Goals as goal

pub returns : goal.returns
returns c =
    array_done (pair_values c.args.pairs.now) c.end_array.result c.args.out.now c.begin_array.new.self c.push_each_pair.new.out c.end_array.new.self c.in_ok-begin_array.ensures
    (c.in_ok-push_each_pair.ensures ∙ ap (λ (l : List Token). c.begin_array.new.self ++ l) (mapped (λ p. string (pair_word p)) c.args.pairs.now)) c.end_array.ensures
