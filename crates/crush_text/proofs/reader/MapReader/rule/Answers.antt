-- Reading the head of a rule, its steps and its closing brace.
use Rattle.std.proofs.Common.{◌≡◌, ◌∙◌, Err, rules, refl}
use Rattle.std.proofs.lemmas.Result.{err_from_is_err_and, IfErr-at_err}
use Rattle.crush_builder.specs.declared.fault.BuildFault.TheVariants.{OutOfMemory}
use Rattle.crush_builder.specs.declared.fault.RuleFault.{RuleFault}
use Rattle.crush_builder.specs.Rules.{with_rule}
use Rattle.crush_text.specs.Grammar.{rule_line}
use Rattle.crush_text.proofs.LineEnds.{still, still_idle}
use Rattle.crush_text.proofs.MemoryAlone.{memory_of_rule}
use Rattle.crush_text.proofs.Reached.{line_leads, leads_then, fails_then, fails_line}
use Rattle.crush_text.proofs.Refused.{no_lines, lines_or_memory}
use Rattle.crush_text.proofs.reader.MapReader.rule.Goals as goal

pub returns-in_err-draft : goal.returns-in_err-draft
returns-in_err-draft g c =
    let p = err_from_is_err_and c.from_residual.result c.from_residual.ensures.1 in
    rw (p.1, p.2) (no_lines _ _ _ _ _ (λ d h.
    (fails_line _ d (rule_line d) _ (c.in_err-draft.ensures.gives d h))))

pub returns-in_err-place : goal.returns-in_err-place
returns-in_err-place g c =
    let p = err_from_is_err_and c.from_residual-in_err-place.result c.from_residual-in_err-place.ensures.1 in
    rw (p.1, p.2) (no_lines _ _ _ _ _ (λ d h.
    (fails_then _ _ _ _ _ (line_leads d (rule_line d) _ _ _ (c.in_ok-draft.ensures.gives d h)) (c.in_err-place.ensures.reads d (still c.in_ok-draft.ensures.kept h)))))

pub map_err-requires : goal.map_err-requires
map_err-requires g c =
    let d = c.requires.idle.some in
    let h = still (c.in_ok-place.ensures.kept ∙ c.in_ok-draft.ensures.kept) d.1 in
    let want : (f : RuleFault) → c.rule.result ≡ Err f → f.fault ≡ OutOfMemory = λ f is. memory_of_rule d.0 _ _ (c.requires.room d.0 d.1) (c.in_ok-place.ensures.right.free d.0 h) (IfErr-at_err _ is c.rule.ensures.refused d.0 h) in
    search (want)

pub returns : goal.returns
returns g c =
    lines_or_memory c.rule.result _ c.map_err.result c.in_ok-place.place c.map_err.ensures.cases (λ e f told. search rules)
    (λ d h. (line_leads d (rule_line d) _ _ _ (c.in_ok-draft.ensures.gives d h)).reaches _ (c.in_ok-place.ensures.reads d (still c.in_ok-draft.ensures.kept h)).1)
    c.rule.ensures.ok
    (λ ok. record {
      reads = λ d h.
          (with_rule d c.steps.new.rule, ok d (still (c.in_ok-place.ensures.kept ∙ c.in_ok-draft.ensures.kept) h), leads_then _ _ _ _ _ _ (line_leads d (rule_line d) _ _ _ (c.in_ok-draft.ensures.gives d h)) (c.in_ok-place.ensures.reads d (still c.in_ok-draft.ensures.kept h)).0);
      stands = let d = c.requires.idle.some in
          still_idle _ _ d.0 _ c.requires.idle.part d.1 (ok d.0 (still (c.in_ok-place.ensures.kept ∙ c.in_ok-draft.ensures.kept) d.1)) refl;
      shorter = search rules;
    })
