use Rattle.std.proofs.Common.{sym, ◌∙◌, ap, false, []}
use Rattle.std.specs.Prelude.{◌||◌, if◌then◌else◌, unwrap_or}
use Rattle.crush_units.specs.declared.id.ItemId.TheVariants.{Bucket}
use Rattle.crush_model.specs.Columns.{set_name, exchange_names}
use Rattle.crush_model.specs.Table.{member, name_of}
use Rattle.crush_model.proofs.Same.{used-same}
use Rattle.crush_model.proofs.UsedColumn.{used-last, used-without_row, used-set_weights, used-set_name, used-exchange_parents}
use Rattle.crush_index.specs.UsedLaw.{uses}
use Rattle.crush_index.proofs.law.used_ids_follow_the_table.Goals as goal

pub returns-clause-same : goal.returns-clause-same
returns-clause-same c used t u s known k = known k ∙ used-same t u s.rows k

pub returns-clause-weights : goal.returns-clause-weights
returns-clause-weights c used t which w known k = known k ∙ sym (used-set_weights which w t k)

pub returns-clause-names : goal.returns-clause-names
returns-clause-names c used t i name known k = known k ∙ sym (used-set_name i name t k)

pub returns-clause-swap : goal.returns-clause-swap
returns-clause-swap c used t a b known k =
    let first = unwrap_or (name_of t (Bucket a)) [] in
    let second = unwrap_or (name_of t (Bucket b)) [] in
    known k ∙ sym (used-exchange_parents a b (exchange_names a b t) k ∙ used-set_name (Bucket a) second (set_name (Bucket b) first t) k ∙ used-set_name (Bucket b) first t k)

pub returns-clause-row : goal.returns-clause-row
returns-clause-row c old new t r known answers k = answers k ∙ ap (λ b. b || member k (uses r)) (known k) ∙ sym (used-last t r k)

pub returns-clause-without : goal.returns-clause-without
returns-clause-without c old new t i r l known e answers k =
    answers k ∙ ap (λ b. if member k (uses r) then false else b) (known k) ∙ sym (used-without_row i t r k l e)
