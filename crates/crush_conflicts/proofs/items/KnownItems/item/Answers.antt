use Rattle.std.proofs.Common.{[], ap, map, subst, sym, ◌∙◌}
use Rattle.std.specs.List.{slice_get}
use Rattle.std.specs.Option.{option_map}
use Rattle.std.specs.Prelude.{None, Some}
use Rattle.crush_model.specs.Stands.{Stands}
use Rattle.crush_items.specs.Entries.{EntryData}
use Rattle.crush_items.specs.Items.{item_entry}
use Rattle.crush_compare.proofs.NamedLaws.{item_found}
use Rattle.crush_conflicts.proofs.items.KnownItems.item.Goals as goal

pub returns-in-Some : goal.returns-in-Some
returns-in-Some g c = λ t stands.
    c.item_at.ensures
    ∙ ap (λ l. option_map (λ (e : EntryData). e.item) (slice_get (map item_entry l) c.in-Some.place.at)) c.as_slice.ensures.value
    ∙ item_found t _ c.args.id (Some c.in-Some.place) (c.in-Some.ensures.entry t _ stands.lawful (c.self.invariant.by_id t (subst (λ f. Stands f t) (sym c.self.view_is) stands)))

pub returns-in-None : goal.returns-in-None
returns-in-None g c = λ t stands.
    item_found t [] c.args.id None (c.in-None.ensures.entry t _ stands.lawful (c.self.invariant.by_id t (subst (λ f. Stands f t) (sym c.self.view_is) stands)))
