use Rattle.std.proofs.Common.{ap, sym, ◌∙◌, rules}
use Rattle.crush_edits.specs.declared.setting.KeptStep.TheVariants.{Set}
use Rattle.crush_edits.proofs.setting.KeptStep.try_copy.Goals as goal

pub returns-in_ok-try_copy-in-Set : goal.returns-in_ok-try_copy-in-Set
returns-in_ok-try_copy-in-Set c = ap (λ w. Set w c.in-Set.value) c.in_ok-try_copy-in-Set.ensures ∙ sym c.in-Set.is

pub returns-in-Emit : goal.returns-in-Emit
returns-in-Emit c = sym c.in-Emit.is

pub returns-after-class : goal.returns-after-class
returns-after-class c = search rules
