use Rattle.crush_units.specs.declared.limits.TheConstants.{HEAVIEST_BUCKET}
use Rattle.crush_nodes.specs.Seen.{items_of}
use Rattle.crush_walks.proofs.GrowBufferLaws.{bucket_taken, grown_fits, items_grown}
use Rattle.crush_walks.proofs.grow_buffer.grow_buffer_in.Goals as goal

pub change_at-requires : goal.change_at-requires
change_at-requires g c =
    let t = items_of c.args.items.now in
    record {
      descent = c.requires.descent;
      can = bucket_taken c.args.place t c.requires.descent.one;
      fits = λ y out does. grown_fits HEAVIEST_BUCKET c.args.place t y out c.requires.descent.one c.requires.descent.sums c.requires.stored does;
    }

pub returns : goal.returns
returns g c =
    let change = c.change_at.ensures in
    items_grown c.args.place (items_of c.args.items.now) _ change.item c.change_at.result c.requires.descent.one c.requires.descent.sums change.is change.comes
