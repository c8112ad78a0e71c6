use Rattle.std.proofs.Common.{sym, subst, ◌∙◌}
use Rattle.crush_units.specs.declared.limits.TheConstants.{HEAVIEST_BUCKET}
use Rattle.crush_nodes.specs.Ops.{StoresUpTo}
use Rattle.crush_nodes.specs.Seen.{items_of}
use Rattle.crush_walks.proofs.NewNameLaws.{named, name_taken, StoresUpTo-with_name}
use Rattle.crush_walks.proofs.rename.rename_in.Goals as goal

pub change_at-requires : goal.change_at-requires
change_at-requires g c =
    let i = c.args.id.now in
    let t = items_of c.args.items.now in
    record {
      descent = c.requires.descent;
      can = tt;
      fits = λ y out does. subst (StoresUpTo HEAVIEST_BUCKET) (sym (named i c.args.name t y c.requires.descent.one c.requires.descent.sums does.0)) (StoresUpTo-with_name HEAVIEST_BUCKET i c.args.name t c.requires.stored);
    }

pub returns : goal.returns
returns g c =
    let i = c.args.id.now in
    let t = items_of c.args.items.now in
    let change = c.change_at.ensures in
    record {
      old = change.comes.1 ∙ sym (name_taken i t);
      after = change.is ∙ named i c.args.name t change.item c.requires.descent.one c.requires.descent.sums change.comes.0;
    }
