use Rattle.std.proofs.Common.{sym, subst, ◌∙◌}
use Rattle.crush_units.specs.declared.limits.TheConstants.{HEAVIEST_BUCKET}
use Rattle.std.specs.Prelude.{vec_capacity}
use Rattle.crush_units.specs.declared.id.ItemId.TheVariants.{Bucket}
use Rattle.crush_nodes.specs.Ops.{part_of, StoresUpTo}
use Rattle.crush_nodes.specs.Seen.{items_of}
use Rattle.crush_walks.proofs.ReplaceBufferLaws.{held_up_to, holds_up_to, rehoused, StoresUpTo-with_capacity}
use Rattle.crush_walks.proofs.replace_buffer.replace_buffer_in.Goals as goal

pub change_at-requires : goal.change_at-requires
change_at-requires g c =
    let b = c.args.place in
    let m = vec_capacity c.args.given in
    let t = items_of c.args.items.now in
    record {
      descent = c.requires.descent;
      can = (c.requires.empty, holds_up_to b m t c.requires.descent.one c.requires.enough);
      fits = λ y out does. subst (StoresUpTo HEAVIEST_BUCKET) (sym (rehoused b m t y c.requires.descent.one c.requires.descent.sums does.is)) (StoresUpTo-with_capacity HEAVIEST_BUCKET b m t c.requires.stored);
    }

pub returns : goal.returns
returns g c =
    let b = c.args.place in
    let t = items_of c.args.items.now in
    let change = c.change_at.ensures in
    record {
      after = change.is ∙ rehoused b (vec_capacity c.args.given) t change.item c.requires.descent.one c.requires.descent.sums change.comes.is;
      empty = change.comes.empty;
      capacity = change.comes.capacity;
      enough = held_up_to (vec_capacity c.change_at.result) (part_of (Bucket b) t) change.comes.enough;
    }
