use Rattle.std.proofs.Common.{◌∙◌, ap, sym}
use Rattle.std.specs.Prelude.{not}
use Rattle.std.specs.Option.{option_map}
use Rattle.crush_since.specs.Changes.{has_some}
use Rattle.crush_since.specs.ItemParts.{item_line}
use Rattle.crush_items.specs.SeenItem.{seen_data}
use Rattle.crush_since.proofs.ToldLaws.{both_told}
use Rattle.crush_since.proofs.since.listed.is_listed.Goals as goal

pub returns-in-Some-after : goal.returns-in-Some-after
returns-in-Some-after c = λ s p i.
    ap not c.is_same.ensures ∙ both_told s p i (seen_data c.in-Some.before) (seen_data c.in-Some-after.after) c.args.same_class_ids
    ∙ (λ k. has_some (item_line s p i (option_map seen_data (sym c.in-Some.is k)) (option_map seen_data (sym c.in-Some-after.is k)) c.args.same_class_ids))
