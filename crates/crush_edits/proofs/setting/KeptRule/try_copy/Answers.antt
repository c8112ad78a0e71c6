use Rattle.std.proofs.Common.{◌∙◌}
use Rattle.std.specs.Prelude.{map}
use Rattle.crush_edits.specs.SettingSeen.{step_data}
use Rattle.crush_edits.proofs.setting.KeptRule.try_copy.Goals as goal

pub returns : goal.returns
returns c = λ i. record {
  name = c.in_ok-name.ensures i;
  id = c.args.self.now.id;
  kind = c.in_ok-kind.ensures i;
  min_size = c.args.self.now.min_size;
  max_size = c.args.self.now.max_size;
  steps = map step_data ((c.in_ok-steps.ensures ∙ c.deref.ensures.value) i);
}
