use Rattle.std.proofs.Common.{◌≡◌, ◌++◌, List, ℕ, ap, ◌∙◌}
use Rattle.std.specs.Option.{option_map}
use Rattle.std.proofs.lemmas.Result.{on_ok_weaker}
use Rattle.crush_since.specs.ItemParts.{behind}
use Rattle.crush_items.specs.SeenItem.{seen_data}
use Rattle.crush_since.specs.SinceNames.{changed_pair, changed_parts}
use Rattle.crush_since.specs.Stays.{pair_name, stay_text_line, text_of_lines}
use Rattle.crush_since.proofs.NamedLines.{line_of_parts}
use Rattle.crush_since.proofs.names.since.parts.push_changed_pair.Goals as goal

pub returns : goal.returns
unfolding changed_pair
returns c =
    let old = c.args.out.now.items in
    let before = option_map seen_data c.args.before.now in
    let after = option_map seen_data c.args.after.now in
    let told = changed_parts c.args.old.now c.args.new.now before after in
    let parts : c.as_slice.result.now ≡ behind told = c.as_slice.ensures.value ∙ c.in_ok-push_parts.ensures ∙ ap (λ (l : List ℕ). l ++ behind told) c.new-parts.ensures.items in
    on_ok_weaker c.push_line.result
    (λ is. is ∙ (λ i. old ++ text_of_lines (stay_text_line (c.pair_name.ensures i) (parts i))) ∙ ap (λ ls. old ++ text_of_lines ls) (line_of_parts (pair_name before after) told))
    c.push_line.ensures
