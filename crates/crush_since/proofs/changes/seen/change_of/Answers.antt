use Rattle.crush_since.proofs.changes.seen.change_of.Goals as goal

pub returns : goal.returns
returns g c = λ k. record {
  id = c.args.row.now.id;
  depth = c.args.row.now.depth;
  stands = c.args.row.now.stands;
  was = c.before-was.ensures k;
  is = c.after-now.ensures k;
  same_class_ids = c.have_same_class_ids-same_class_ids.ensures k;
}
