use Rattle.std.proofs.Common.{List, sym, ◌∙◌}
use Rattle.crush_units.specs.declared.id.ItemId.TheVariants.{Bucket}
use Rattle.crush_model.specs.Table.{Row}
use Rattle.crush_model.specs.Forest.{rows_of}
use Rattle.crush_model.proofs.Stands.{stands_for_rows}
use Rattle.crush_apply.proofs.Found.{found_there}
use Rattle.crush_apply.proofs.Names.{not_nested}
use Rattle.crush_apply.proofs.swap.check_swap.Goals as goal

pub fits_swap-requires : goal.fits_swap-requires
fits_swap-requires g c = record {
  there_a = found_there c.args.hierarchy.now c.as_str.result.now c.in-Some.one (Bucket c.in-Bucket.first) c.recall_invariant.ensures c.in-Some.ensures c.in-Bucket.is;
  there_b = found_there c.args.hierarchy.now c.as_str-2.result.now c.in-Some-id_of.other (Bucket c.in-Bucket-other.second) c.recall_invariant.ensures c.in-Some-id_of.ensures c.in-Bucket-other.is;
  apart =
      let t : List Row = rows_of c.args.hierarchy.now in
      let st = stands_for_rows c.args.hierarchy.now c.recall_invariant.ensures in
      let a = c.in-Bucket.first in
      let b = c.in-Bucket-other.second in
      not_nested t a b (sym (c.contains.ensures t st) ∙ c.if-contains.false) (sym (c.contains-2.ensures t st) ∙ c.if-contains-2.false);
}
