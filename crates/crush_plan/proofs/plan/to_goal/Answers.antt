use Rattle.std.proofs.Common.{ap, ◌∙◌}
use Rattle.std.specs.Option.{option_map}
use Rattle.crush_edits.specs.Setting.{SettingData}
use Rattle.crush_since.specs.Stays.{stays_part}
use Rattle.crush_since.specs.Since.{plain_map}
use Rattle.crush_plan.specs.Draft.{Allows}
use Rattle.crush_plan.specs.Part.{IsAllowed}
use Rattle.crush_plan.proofs.Going.{leads_weaker}
use Rattle.crush_plan.proofs.plan.to_goal.Goals as goal

pub returns : goal.returns
returns g c = λ t u a b.
    let aim = c.args.goal.now in
    let new = plain_map aim.wanted.now.setting u in
    let at = c.in_ok-draft.ensures.leads t a in
    let under = option_map (λ name. name.now) aim.under in
    record {
      table = at.0;
      leads = leads_weaker (Allows aim) (IsAllowed t u under) aim.before.now.setting t c.in_ok-draft.draft.edits.items at.0 (λ v e f. f t u a b) at.1;
      tells = record {
        rest = c.in_ok-rest.ensures at.0 u at.2 b ∙ ap (λ (s : SettingData). stays_part under (plain_map s at.0) new) c.in_ok-draft.ensures.setting;
        aside = c.in_ok-aside.ensures at.0 u at.2 b;
      };
    }
