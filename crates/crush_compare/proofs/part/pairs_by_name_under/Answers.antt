use Rattle.std.proofs.Common.{map, ap, sym, ◌∙◌}
use Rattle.std.specs.Prelude.{Some, filter}
use Rattle.std.specs.Option.{option_map}
use Rattle.std.proofs.lemmas.Result.{IfOk-weaker}
use Rattle.crush_items.specs.Items.{item_entry}
use Rattle.crush_compare.specs.NamedPairs.{is_in_part, pairs}
use Rattle.crush_compare.specs.PairItems.{items_at}
use Rattle.crush_compare.proofs.PartPairs.{part_of_pairs}
use Rattle.crush_compare.proofs.part.pairs_by_name_under.Goals as goal

pub returns-in-Some : goal.returns-in-Some
returns-in-Some g c =
    let es = map item_entry c.args.old.now.all.items in
    let fs = map item_entry c.args.new.now.all.items in
    let n = c.in-Some.name.now in
    IfOk-weaker c.pairs_in_part.result _ _
    (λ kept is t u stands_t stands_u has_t has_u tree_t tree_u.
    is t u stands_t stands_u has_t has_u tree_t tree_u
    ∙ ap (λ ps. filter (is_in_part n t u) (map (items_at es fs) ps)) c.as_slice.ensures.value
    ∙ ap (filter (is_in_part n t u)) (c.in_ok-all.ensures t u stands_t stands_u has_t has_u tree_t tree_u)
    ∙ sym (part_of_pairs c.args.devices n t u)
    ∙ ap (λ o. pairs c.args.devices (option_map (λ m. m.now) o) t u) (sym c.in-Some.is))
    c.pairs_in_part.ensures

pub returns-in-None : goal.returns-in-None
returns-in-None g c = λ t u stands_t stands_u has_t has_u tree_t tree_u.
    c.in_ok-all.ensures t u stands_t stands_u has_t has_u tree_t tree_u ∙ ap (λ o. pairs c.args.devices (option_map (λ m. m.now) o) t u) (sym c.in-None.is)
