use Rattle.std.proofs.Common.{sym, ◌∙◌, ap}
use Rattle.std.specs.Prelude.{Some, None, if◌then◌else◌}
use Rattle.std.specs.Option.{option_map}
use Rattle.crush_units.specs.Id.{same_id}
use Rattle.crush_model.specs.Table.{is_device}
use Rattle.crush_nodes.specs.Guides.{place_under}
use Rattle.crush_walks.specs.Swapping.{exchanged_place}
use Rattle.crush_index.proofs.PlaceColumn.{place_in-same, place_in-last, place_in-without_row, place_in-replaced, place_in-set_weights, place_in-set_name, place_in-swap_buckets}
use Rattle.crush_index.proofs.law.places_follow_the_table.Goals as goal

pub returns-clause-same : goal.returns-clause-same
returns-clause-same c places t u l s known i = known i ∙ place_in-same t u l s i

pub returns-clause-weights : goal.returns-clause-weights
returns-clause-weights c places t which w known i = known i ∙ sym (place_in-set_weights which w t i)

pub returns-clause-names : goal.returns-clause-names
returns-clause-names c places t j name known i = known i ∙ sym (place_in-set_name j name t i)

pub returns-clause-row : goal.returns-clause-row
returns-clause-row c old new t r known fresh answers i =
    answers i ∙ ap (λ o. if same_id r.id i then Some (place_under (is_device r) r.parent) else o) (known i) ∙ sym (place_in-last t r fresh i)

pub returns-clause-without : goal.returns-clause-without
returns-clause-without c old new t j known answers i =
    answers i ∙ ap (λ o. if same_id j i then None else o) (known i) ∙ sym (place_in-without_row j t i)

pub returns-clause-moved : goal.returns-clause-moved
returns-clause-moved c old new t r known answers i =
    answers i ∙ ap (λ o. if same_id r.id i then Some (place_under (is_device r) r.parent) else o) (known i) ∙ sym (place_in-replaced t r i)

pub returns-clause-swap : goal.returns-clause-swap
returns-clause-swap c old new t a b known answers i =
    answers i ∙ ap (option_map (exchanged_place a b)) (known i) ∙ sym (place_in-swap_buckets a b t i)
