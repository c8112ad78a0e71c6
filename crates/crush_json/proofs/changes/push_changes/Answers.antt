use Rattle.std.proofs.Common.{List, ◌++◌, ap, ◌∙◌}
use Rattle.std.specs.Prelude.{flat_map}
use Rattle.json.specs.Token.{Token}
use Rattle.serde_json.specs.Data.{Data}
use Rattle.crush_compare.specs.Comparison.{pair_entries}
use Rattle.crush_compare.specs.declared.by_id.Pair.{Pair}
use Rattle.crush_json.specs.PairDocument.{pair_change, pair_changes}
use Rattle.crush_json.specs.Tokens.{tokens_of_all}
use Rattle.crush_json.proofs.Listed.{array_done, flattened}
use Rattle.crush_json.proofs.changes.push_changes.Goals as goal

pub returns : goal.returns
returns g c =
    let both = c.args.both.now in
    let told : Pair → List Data = λ p. pair_change both.identity both.old.map.now.setting both.new.map.now.setting (pair_entries both p) in
    array_done (pair_changes both) c.end_array.result c.args.out.now c.begin_array.new.self c.push_each.new.out c.end_array.new.self c.in_ok-begin_array.ensures
    (c.in_ok-push_each.ensures ∙ ap (λ (l : List Token). c.begin_array.new.self ++ l) (flattened told c.as_slice.result.now ∙ ap (λ (ps : List Pair). tokens_of_all (flat_map told ps)) c.as_slice.ensures.value)) c.end_array.ensures
