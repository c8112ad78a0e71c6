use Rattle.std.proofs.Common.{◌-◌, ◌∙◌, arith}
use Rattle.crush_walks.proofs.RunSteps.{next_left, next_none, later_empty, later_none, later_shorter}
use Rattle.crush_walks.proofs.runs.next_weight.Goals as goal

pub returns-in_default : goal.returns-in_default
returns-in_default g c = record {
  next = c.from_units.ensures ∙ next_none c.args.left.now.items (omega (arith, c.args.left.now.ok.0, c.in_default.ensures.cases.0));
  later = later_empty c.args.left.now.items c.pop.new.self.items (omega (arith, c.args.left.now.ok.0, c.in_default.ensures.cases.0)) (omega (arith, c.pop.new.self.ok.0, c.in_default.ensures.cases.1));
}

pub returns-then-run-eq0 : goal.returns-then-run-eq0
returns-then-run-eq0 g c = record {
  next = next_left c.args.left.now.items c.pop.new.self.items c.in-Some.run' c.in-Some.ensures.items;
  later = later_none c.args.left.now.items c.pop.new.self.items c.in-Some.run' c.in-Some.ensures.items c.if-run-eq0.true;
}

pub returns : goal.returns
returns g c = record {
  next = next_left c.args.left.now.items c.pop.new.self.items c.in-Some.run' c.in-Some.ensures.items;
  later = later_shorter c.args.left.now.items c.pop.new.self.items c.push_reserved.new.self.items c.in-Some.run' (c.in-Some.run'.more - 1) c.in-Some.ensures.items c.push_reserved.ensures.items (omega (arith, c.if-run-eq0.false));
}
