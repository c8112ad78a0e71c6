use Rattle.std.proofs.Common.{◌∙◌, ap, sym}
use Rattle.std.specs.Prelude.{not}
use Rattle.std.specs.Cmp.Lexicographic.{pointwise}
use Rattle.crush_since.specs.Settings.{same_rule}
use Rattle.crush_since.proofs.AskedLaws.{kinds_told, rules_told, tunables_told}
use Rattle.crush_since.proofs.since.changed.is_setting_listed.Goals as goal

pub returns-then-not-same_tunables : goal.returns-then-not-same_tunables
returns-then-not-same_tunables c = tunables_told c.args.old.now c.args.new.now (sym c.same_tunables.ensures ∙ c.if-not-same_tunables.true)

pub returns-then-not-same_kinds : goal.returns-then-not-same_kinds
returns-then-not-same_kinds c = kinds_told c.args.old.now c.args.new.now (sym c.same_tunables.ensures ∙ c.if-not-same_tunables.false) (sym c.same_kinds.ensures ∙ c.if-not-same_kinds.true)

pub returns : goal.returns
returns c =
    ap not (c.same_rules.ensures ∙ (λ k. pointwise same_rule (c.rules.ensures k) (c.rules-2.ensures k)))
    ∙ rules_told c.args.old.now c.args.new.now (sym c.same_tunables.ensures ∙ c.if-not-same_tunables.false) (sym c.same_kinds.ensures ∙ c.if-not-same_kinds.false)
