use Rattle.std.proofs.Common.{◌≡◌, ◌++◌, ap, map, subst, ◌∙◌}
use Rattle.std.specs.Prelude.{None, flat_map}
use Rattle.crush_items.specs.Items.{item_entry}
use Rattle.crush_compare.specs.NamedPairs.{new_pair, old_pair}
use Rattle.crush_compare.specs.PairItems.{items_at}
use Rattle.crush_compare.proofs.NamedLaws.{pairs_listed}
use Rattle.crush_compare.proofs.by_name.pairs_by_name.Goals as goal

pub returns : goal.returns
returns g c = λ t u stands_t stands_u has_t has_u tree_t tree_u.
    let by = c.args.devices in
    let old = c.args.old.now.all.items in
    let new = c.args.new.now.all.items in
    let es = map item_entry old in
    let fs = map item_entry new in
    let news = subst
    (λ xs. map (items_at es (map item_entry xs)) c.push_new.new.pairs.items ≡ map (items_at es (map item_entry xs)) c.new-pairs.result.items ++ flat_map (λ x. new_pair by None t u (item_entry x).item) xs)
    c.as_slice.ensures.value (c.in_ok-push_new.ensures t u es stands_t (c.in_ok-by_id.ensures t has_t)) in
    let gone = subst
    (λ xs. map (items_at (map item_entry xs) fs) c.push_gone.new.pairs.items ≡ map (items_at (map item_entry xs) fs) c.push_new.new.pairs.items ++ flat_map (λ x. old_pair by None t u (item_entry x).item) xs)
    c.as_slice-2.ensures.value (c.in_ok-push_gone.ensures t u fs stands_u) in
    gone
    ∙ ap (λ l. l ++ flat_map (λ x. old_pair by None t u (item_entry x).item) old)
    (news ∙ ap (λ ps. map (items_at es fs) ps ++ flat_map (λ x. new_pair by None t u (item_entry x).item) new) c.new-pairs.ensures.items)
    ∙ pairs_listed by t u old new has_t has_u tree_t tree_u
