use Rattle.std.proofs.Common.{◌∙◌, false, ap}
use Rattle.std.specs.Option.{option_map, option_map_or}
use Rattle.crush_compare.specs.IdPairs.{EntryPair}
use Rattle.crush_items.specs.Entries.{EntryData}
use Rattle.crush_items.specs.ItemData.{ItemData}
use Rattle.crush_items.proofs.EntryLaws.{entry_item}
use Rattle.crush_since.specs.Equal.{same_option}
use Rattle.crush_since.proofs.changes.left.stands_in.Goals as goal

pub returns-in-Some : goal.returns-in-Some
returns-in-Some g c = λ t u tables.
    c.same_parent.ensures
    ∙ ap (λ o. option_map_or (λ (x : ItemData). same_option x.view.parent c.args.place) o false)
    (c.in-Some.ensures ∙ ap (λ (e : EntryPair). option_map (λ (x : EntryData). x.item) e.after) (c.pair_of.ensures t u tables) ∙ entry_item u c.args.id)

pub returns-in-None : goal.returns-in-None
returns-in-None g c = λ t u tables.
    ap (λ o. option_map_or (λ (x : ItemData). same_option x.view.parent c.args.place) o false)
    (c.in-None.ensures ∙ ap (λ (e : EntryPair). option_map (λ (x : EntryData). x.item) e.after) (c.pair_of.ensures t u tables) ∙ entry_item u c.args.id)
