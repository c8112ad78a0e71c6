use Rattle.std.proofs.Common.{◌≡◌, ℕ, sym, subst, ◌∙◌}
use Rattle.std.specs.Prelude.{Option, IfOk}
use Rattle.crush_model.specs.Items.{BucketData}
use Rattle.crush_model.specs.ItemRows.{bucket_row}
use Rattle.crush_index.specs.IndexAnswers.{own_row}
use Rattle.crush_index.specs.Restoring.{CanRestoreRow}
use Rattle.crush_index.proofs.index.Index.restore_memory.Goals as goal

pub returns-in-Device : goal.returns-in-Device
returns-in-Device g c = subst (λ x. IfOk c.leaf_memory.result (λ memory. (p : Option ℕ) → CanRestoreRow (own_row p x) memory)) (sym c.in-Device.is) c.leaf_memory.ensures

pub returns-in-Bucket : goal.returns-in-Bucket
returns-in-Bucket g c =
    let seen : _ ≡ c.in-Bucket.bucket.value = c.bucket.view_is ∙ c.deref-bucket.ensures in
    subst (λ x. IfOk c.header_memory.result (λ memory. (p : Option ℕ) → CanRestoreRow (own_row p x) memory)) (sym c.in-Bucket.is)
    (subst (λ (d : BucketData). IfOk c.header_memory.result (λ memory. (p : Option ℕ) → CanRestoreRow (bucket_row p d.header) memory)) seen c.header_memory.ensures)
