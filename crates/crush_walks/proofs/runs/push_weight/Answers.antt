use Rattle.std.proofs.Common.{ap, sym, ◌∙◌, append-nil}
use Rattle.crush_walks.specs.Runs.{weights_of}
use Rattle.crush_walks.proofs.RunSteps.{put_into, same_start}
use Rattle.crush_walks.proofs.runs.push_weight.Goals as goal

pub returns-in_default : goal.returns-in_default
returns-in_default g c = same_start c.push_run.result c.args.runs.now.items c.pop.new.self.items _ c.args.weight (ap weights_of (sym (c.in_default.ensures.items ∙ append-nil c.pop.new.self.items))) c.push_run.ensures

pub returns-in_default-with_one : goal.returns-in_default-with_one
returns-in_default-with_one g c = same_start c.push_run-in_default-with_one.result c.args.runs.now.items c.push_reserved.new.self.items _ c.args.weight (ap weights_of (c.push_reserved.ensures.items ∙ sym c.in-Some.ensures.items)) c.push_run-in_default-with_one.ensures

pub returns : goal.returns
returns g c = ap weights_of c.push_reserved-2.ensures.items ∙ put_into c.args.runs.now.items c.pop.new.self.items c.in-Some.last c.in-Some-with_one.run' c.args.weight c.in-Some.ensures.items c.in-Some-with_one.ensures
