use Rattle.crush_compare.proofs.comparison.Comparison.by_ids.Goals as goal

pub returns-clause-pairs : goal.returns-clause-pairs
returns-clause-pairs g c = λ t u x y. record {
  before = c.in_ok-before.ensures.entries t x;
  after = c.in_ok-after.ensures.entries u y;
  pairs = c.in_ok-pairs.ensures t u x.lawful y.lawful (c.in_ok-before.ensures.entries t x) (c.in_ok-after.ensures.entries u y);
}

pub returns-clause-trees : goal.returns-clause-trees
returns-clause-trees g c = λ t u x y. record {
  before = c.in_ok-before.ensures.steps t x;
  after = c.in_ok-after.ensures.steps u y;
}
