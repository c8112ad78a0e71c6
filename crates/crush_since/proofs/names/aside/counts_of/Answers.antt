use Rattle.std.proofs.Common.{◌+◌, ap, arith, ◌∙◌}
use Rattle.std.specs.List.{count_by}
use Rattle.std.proofs.lemmas.List.{take_all}
use Rattle.crush_model.specs.Count.{one_if}
use Rattle.crush_compare.specs.Comparison.{pair_items}
use Rattle.crush_since.specs.Aside.{has_other_class_ids, has_other_id, of_pair}
use Rattle.crush_since.proofs.CountLaws.{count_at}
use Rattle.crush_since.proofs.names.aside.counts_of.Goals as goal

pub loop-pair-preserved : goal.loop-pair-preserved
loop-pair-preserved g c =
    let both = c.args.both.now in
    let pairs = c.args.pairs.now in
    record {
      ids =
          count_at (λ p. of_pair has_other_id (pair_items both p)) pairs c.loop-pair.pair-index _ _ _ c.loop-pair-test.true c.loop-pair.invariant.ids
          (c.more-ids.ensures.sum ∙ ap (λ b. c.loop-pair.ids + one_if b) c.has_other_id.ensures);
      few_ids = omega (arith, c.more-ids.ensures.most, c.loop-pair.invariant.few_ids);
      class_ids = λ t u a b.
          count_at (λ p. of_pair (has_other_class_ids t u) (pair_items both p)) pairs c.loop-pair.pair-index _ _ _ c.loop-pair-test.true (c.loop-pair.invariant.class_ids t u a b)
          (c.more-class_ids.ensures.sum ∙ ap (λ q. c.loop-pair.class_ids + one_if q) (c.has_other_class_ids.ensures t u a b));
      few_class_ids = omega (arith, c.more-class_ids.ensures.most, c.loop-pair.invariant.few_class_ids);
    }

pub returns-clause-ids : goal.returns-clause-ids
returns-clause-ids g c =
    let both = c.args.both.now in
    c.loop-pair.invariant.ids ∙ ap (count_by (λ p. of_pair has_other_id (pair_items both p))) (take_all c.loop-pair.pair-index c.args.pairs.now (omega (arith, c.loop-pair-test.false)))

pub returns-clause-class_ids : goal.returns-clause-class_ids
returns-clause-class_ids g c = λ t u a b.
    let both = c.args.both.now in
    c.loop-pair.invariant.class_ids t u a b
    ∙ ap (count_by (λ p. of_pair (has_other_class_ids t u) (pair_items both p))) (take_all c.loop-pair.pair-index c.args.pairs.now (omega (arith, c.loop-pair-test.false)))
