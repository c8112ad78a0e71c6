use Rattle.std.proofs.Common.{◌∙◌}
use Rattle.std.specs.Prelude.{flat_map}
use Rattle.crush_since.specs.Changes.{has_some}
use Rattle.crush_since.specs.Since.{id_line, plain_map}
use Rattle.crush_since.specs.SincePart.{is_part_changed, part_ids, since_part_text}
use Rattle.crush_since.proofs.since.changed.is_part_changed.Goals as goal

pub returns : goal.returns
unfolding is_part_changed since_part_text
returns g c = λ t u a b.
    let ids = part_ids t u c.args.under in
    c.is_different.ensures t u ids (c.in_ok-both.ensures.pairs t u a b).pairs
    ∙ (λ k. has_some (flat_map (id_line (plain_map (c.in_ok-both.ensures.old k).setting t) (plain_map (c.in_ok-both.ensures.new k).setting u)) ids))
