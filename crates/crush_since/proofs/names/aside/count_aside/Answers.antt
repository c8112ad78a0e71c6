use Rattle.std.proofs.Common.{◌∙◌, ap}
use Rattle.std.specs.List.{count_by}
use Rattle.std.specs.Option.{option_map}
use Rattle.crush_compare.specs.Comparison.{pair_items}
use Rattle.crush_since.specs.Aside.{has_other_class_ids, has_other_id, of_pair}
use Rattle.crush_since.proofs.AsideLaws.{aside_pairs}
use Rattle.crush_since.proofs.CountLaws.{counted_seen}
use Rattle.crush_since.proofs.names.aside.count_aside.Goals as goal

pub returns : goal.returns
returns g c = λ t u a b.
    let under = option_map (λ n. n.now) c.args.under in
    let both = c.in_ok-both.both in
    let is = c.in_ok-both.ensures.pairs t u a b in
    record {
      ids = c.counts_of.ensures.ids ∙ ap (count_by (λ p. of_pair has_other_id (pair_items both p))) c.as_slice.ensures.value ∙ counted_seen (of_pair has_other_id) (pair_items both) both.pairs.items _ is.pairs ∙ aside_pairs has_other_id under t u;
      class_ids = c.counts_of.ensures.class_ids t u is.before is.after ∙ ap (count_by (λ p. of_pair (has_other_class_ids t u) (pair_items both p))) c.as_slice.ensures.value ∙ counted_seen (of_pair (has_other_class_ids t u)) (pair_items both) both.pairs.items _ is.pairs ∙ aside_pairs (has_other_class_ids t u) under t u;
    }
