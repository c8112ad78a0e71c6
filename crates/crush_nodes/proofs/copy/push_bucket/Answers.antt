use Rattle.std.proofs.Common.{◌∙◌, ap}
use Rattle.std.specs.Prelude.{vec_capacity}
use Rattle.crush_model.specs.Items.{BucketData, bucket, none}
use Rattle.crush_nodes.specs.Seen.{items_of}
use Rattle.crush_nodes.proofs.copy.push_bucket.Goals as goal

pub returns-clause-pushed : goal.returns-clause-pushed
returns-clause-pushed g c =
    let seen = c.from.view_is in
    let header = c.in_ok-header.ensures ∙ ap (λ (d : BucketData). d.header) seen in
    record {
      node = c.in_ok-copy.copy;
      last = c.push_reserved.ensures.items;
      item = c.in_ok-copy.ensures ∙ (λ j. bucket (header j) ((seen j).weight) (vec_capacity c.args.below) (items_of c.args.below.items) none);
    }
