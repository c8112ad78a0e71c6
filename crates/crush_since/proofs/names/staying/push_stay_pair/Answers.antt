use Rattle.std.proofs.Common.{◌≡◌, ◌++◌, List, ℕ, ap, ◌∙◌}
use Rattle.std.specs.Option.{option_map}
use Rattle.std.proofs.lemmas.Result.{on_ok_weaker}
use Rattle.crush_since.specs.ItemParts.{behind}
use Rattle.crush_items.specs.SeenItem.{seen_data}
use Rattle.crush_since.specs.Stays.{line_texts, pair_name, stay_pair, stay_parts, stay_text_line}
use Rattle.crush_since.proofs.NamedLines.{line_of_parts}
use Rattle.crush_since.proofs.names.staying.push_stay_pair.Goals as goal

pub returns : goal.returns
unfolding stay_pair
returns c =
    let old = line_texts c.args.lines.now.items in
    let before = option_map seen_data c.args.here.now in
    let after = option_map seen_data c.args.there.now in
    let told = stay_parts c.args.map.now c.args.wanted.now before after in
    let parts : c.as_slice.result.now ≡ behind told = c.as_slice.ensures.value ∙ c.in_ok-push_parts.ensures ∙ ap (λ (l : List ℕ). l ++ behind told) c.new-parts.ensures.items in
    on_ok_weaker c.push_item_line.result
    (λ is. is ∙ (λ i. old ++ stay_text_line (c.pair_name.ensures i) (parts i)) ∙ ap (λ l. old ++ l) (line_of_parts (pair_name before after) told))
    c.push_item_line.ensures
