use Rattle.std.proofs.Common.{◌∙◌, ap}
use Rattle.std.specs.Option.{option_map}
use Rattle.crush_compare.specs.IdPairs.{EntryPair}
use Rattle.crush_items.specs.Entries.{EntryData}
use Rattle.crush_items.specs.SeenItem.{seen_data}
use Rattle.crush_items.proofs.EntryLaws.{entry_item}
use Rattle.crush_since.proofs.FoundLaws.{seen_there}
use Rattle.crush_since.proofs.changes.left.is_there.Goals as goal

pub returns : goal.returns
returns g c = λ t u tables.
    c.is_some.ensures ∙ seen_there u c.args.id seen_data _ (c.after.ensures ∙ ap (λ (e : EntryPair). option_map (λ (x : EntryData). x.item) e.after) (c.pair_of.ensures t u tables) ∙ entry_item u c.args.id)
