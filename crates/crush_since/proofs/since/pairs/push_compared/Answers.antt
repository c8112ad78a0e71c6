use Rattle.std.proofs.Common.{◌≡◌, ◌∙◌, ◌++◌, [], ap, subst, sym, append-nil}
use Rattle.std.specs.Prelude.{OnOk}
use Rattle.std.specs.Option.{option_map, option_map_or}
use Rattle.crush_items.specs.SeenItem.{seen_data}
use Rattle.crush_since.specs.ItemParts.{item_line}
use Rattle.crush_since.proofs.since.pairs.push_compared.Goals as goal

pub returns-in-Some : goal.returns-in-Some
returns-in-Some c =
    let x = c.args.item.now in
    subst (λ l. OnOk c.push_line.result (c.push_line.new.out.items ≡ c.args.out.now.items ++ l))
    (ap (λ o. option_map_or (λ i. item_line x.old.now x.new.now i (option_map seen_data x.before) (option_map seen_data x.after) x.same_class_ids) o []) c.in-Some.ensures) c.push_line.ensures

pub returns-in-None : goal.returns-in-None
returns-in-None c =
    let x = c.args.item.now in
    sym (append-nil c.args.out.now.items)
    ∙ ap (λ o. c.args.out.now.items ++ option_map_or (λ i. item_line x.old.now x.new.now i (option_map seen_data x.before) (option_map seen_data x.after) x.same_class_ids) o []) c.in-None.ensures
