use Rattle.std.proofs.Common.{sym, ◌∙◌, ap}
use Rattle.std.specs.Prelude.{Some, None, if◌then◌else◌, bytes_eq}
use Rattle.crush_model.proofs.Found.{id_named-same}
use Rattle.crush_model.proofs.NameColumn.{id_named-last, id_named-without_row, id_named-set_weights, id_named-exchange_parents, id_named-set_name, id_named-swap_buckets}
use Rattle.crush_units.specs.declared.id.ItemId.TheVariants.{Bucket}
use Rattle.crush_index.proofs.law.names_follow_the_table.Goals as goal

pub returns-clause-same : goal.returns-clause-same
returns-clause-same c names t u l s known n = known n ∙ id_named-same t u s.rows l.names n

pub returns-clause-weights : goal.returns-clause-weights
returns-clause-weights c names t which w known n = known n ∙ sym (id_named-set_weights which w t n)

pub returns-clause-parents : goal.returns-clause-parents
returns-clause-parents c names t a b known n = known n ∙ sym (id_named-exchange_parents a b t n)

pub returns-clause-row : goal.returns-clause-row
returns-clause-row c old new t r known fresh answers n =
    answers n ∙ ap (λ o. if bytes_eq r.name n then Some r.id else o) (known n) ∙ sym (id_named-last t r n fresh)

pub returns-clause-without : goal.returns-clause-without
returns-clause-without c old new t i name l known e answers n =
    answers n ∙ ap (λ o. if bytes_eq name n then None else o) (known n) ∙ sym (id_named-without_row i t name n l e)

pub returns-clause-name : goal.returns-clause-name
returns-clause-name c old new t i from to l after known e answers n =
    answers n ∙ ap (λ o. if bytes_eq to n then Some i else (if bytes_eq from n then None else o)) (known n)
    ∙ sym (id_named-set_name i from to n t l after e)

pub returns-clause-swap : goal.returns-clause-swap
returns-clause-swap c old new t a b first second l after apart known e g answers n =
    answers n ∙ ap (λ o. if bytes_eq first n then Some (Bucket b) else (if bytes_eq second n then Some (Bucket a) else o)) (known n)
    ∙ sym (id_named-swap_buckets a b first second t apart e g n l after)
