use Rattle.crush_plan.proofs.draft.Draft.fork.Goals as goal

pub returns : goal.returns
returns g c = record {
  setting = c.in_ok-try_copy.ensures.setting;
  none = c.new.ensures.items;
  stands = c.in_ok-try_copy.ensures.stands;
}
