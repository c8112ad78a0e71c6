use Rattle.std.proofs.Common.{ap, sym, ◌∙◌}
use Rattle.std.specs.Prelude.{◌||◌}
use Rattle.crush_units.specs.declared.id.ItemId.TheVariants.{Bucket}
use Rattle.crush_model.specs.Columns.{is_part}
use Rattle.crush_model.specs.Forest.{rows_of}
use Rattle.crush_model.specs.Table.{is_below}
use Rattle.crush_model.proofs.Stands.{stands_for_rows}
use Rattle.crush_map_tests.proofs.Passed.{same_bucket}
use Rattle.crush_map_tests.proofs.tree.asks.is_inside.Goals as goal

pub returns-in-Bucket : goal.returns-in-Bucket
returns-in-Bucket g c =
    let f = c.args.forest.now in
    let t = rows_of f in
    let b = c.args.bucket in
    let a = c.in-Bucket.own in
    c.contains.ensures t (stands_for_rows f c.recall_invariant.ensures) ∙ ap (λ z. z || is_below t a (Bucket b)) (same_bucket a b) ∙ sym (ap (λ j. is_part t j (Bucket b)) c.in-Bucket.is)
