use Rattle.crush_json.proofs.Chains.{as_told, then}
use Rattle.crush_json.specs.RuleChanges.{rule_change_documents}
use Rattle.crush_json.specs.SinceDocument.{differ, totals_document}
use Rattle.crush_json.specs.SinceTokens.{last_since_tokens}
use Rattle.crush_json.specs.Tokens.{member_tokens}
use Rattle.crush_json.specs.Values.{list}
use Rattle.crush_since.specs.Settings.{same_kinds, same_tunable}
use Rattle.crush_since.specs.Since.{PlainMap, plain_map}
use Rattle.json.specs.Token.{Token}
use Rattle.std.proofs.Common.{List, ◌++◌, ◌∙◌}
use Rattle.std.specs.Cmp.Lexicographic.{pointwise}
use Rattle.std.specs.Prelude.{codes}
use Rattle.std.specs.Prelude.{◌≡◌}
use Rattle.crush_json.proofs.since.push_last.Goals as goal

pub returns : goal.returns
returns g c = λ t u was is.
    let r = c.truth-2.result in
    let old : PlainMap = plain_map c.args.old.now.setting t in
    let new : PlainMap = plain_map c.args.new.now.setting u in
    let tunables-are : c.same_tunables.result ≡ pointwise same_tunable old.setting.tunables new.setting.tunables = c.same_tunables.ensures ∙ (λ j. pointwise same_tunable (c.setting-before.ensures j).tunables (c.setting-after.ensures j).tunables) in
    let kinds-are : c.same_kinds.result ≡ same_kinds old.setting new.setting = c.same_kinds.ensures ∙ (λ j. same_kinds (c.setting-before.ensures j) (c.setting-after.ensures j)) in
    let rules : List Token = member_tokens (codes "rules") (list (rule_change_documents old new)) in
    let totals : List Token = member_tokens (codes "total") (totals_document c.total.result c.total-2.result) in
    let tunables : List Token = member_tokens (codes "tunables") (differ c.same_tunables.result) in
    let kinds : List Token = member_tokens (codes "types") (differ c.same_kinds.result) in
    as_told r c.args.out.now c.truth-2.new.self (rules ++ (totals ++ (tunables ++ kinds))) (last_since_tokens old new)
    (then r c.args.out.now c.push_rules.new.out c.truth-2.new.self rules (totals ++ (tunables ++ kinds)) (c.in_ok-push_rules.ensures t u was is) (then r c.push_rules.new.out c.push_totals.new.out c.truth-2.new.self totals (tunables ++ kinds) c.in_ok-push_totals.ensures (then r c.push_totals.new.out c.truth.new.self c.truth-2.new.self tunables kinds c.in_ok-truth.ensures c.truth-2.ensures)))
    (λ j. rules ++ (member_tokens (codes "total") (totals_document (c.total.ensures t was j) (c.total-2.ensures u is j)) ++ (member_tokens (codes "tunables") (differ (tunables-are j)) ++ member_tokens (codes "types") (differ (kinds-are j)))))
