use Rattle.std.proofs.Common.{sym, subst, ◌∙◌}
use Rattle.crush_units.specs.declared.limits.TheConstants.{HEAVIEST_BUCKET}
use Rattle.crush_nodes.specs.Ops.{StoresUpTo}
use Rattle.crush_nodes.specs.Seen.{items_of}
use Rattle.crush_walks.proofs.ClassLaws.{classed, leaf_taken, StoresUpTo-with_class}
use Rattle.crush_walks.proofs.classes.set_class_in.Goals as goal

pub change_at-requires : goal.change_at-requires
change_at-requires g c =
    let i = c.args.id in
    let k = c.args.class in
    let t = items_of c.args.items.now in
    record {
      descent = c.requires.descent;
      can = leaf_taken i t c.requires.descent.one;
      fits = λ y out does. subst (StoresUpTo HEAVIEST_BUCKET) (sym (classed i k t y c.requires.descent.one c.requires.descent.sums does.0)) (StoresUpTo-with_class HEAVIEST_BUCKET i k t c.requires.stored);
    }

pub returns : goal.returns
returns g c =
    let change = c.change_at.ensures in
    record {
      old = change.comes.1;
      after = change.is ∙ classed c.args.id c.args.class (items_of c.args.items.now) change.item c.requires.descent.one c.requires.descent.sums change.comes.0;
    }
