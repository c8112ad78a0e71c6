use Rattle.std.proofs.Common.{refl, sym, subst, inl, List}
use Rattle.std.specs.Option.{option_map}
use Rattle.crush_edits.specs.declared.edit.Edit.{Edit}
use Rattle.crush_plan.specs.Leads.{Leads}
use Rattle.crush_plan.specs.Part.{IsAllowed}
use Rattle.crush_plan.proofs.plan.without_edits.Goals as goal

pub returns : goal.returns
returns g c = λ t u a b. record {
  goes = record {
    table = t;
    leads = subst (λ (es : List Edit). Leads (IsAllowed t u (option_map (λ name. name.now) c.args.under)) c.args.map.now.setting t es t) (sym c.new.ensures.items) refl;
    tells = record { rest = c.requires.remaining t u a b; aside = c.in_ok-aside.ensures t u a b };
  };
  better = inl c.new.ensures.items;
}
