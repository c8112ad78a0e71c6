use Rattle.std.proofs.Common.{◌≡◌, ◌++◌, true, false, ap, sym, ◌∙◌, ⊎_elim}
use Rattle.std.proofs.lemmas.Result.{on_ok_weaker}
use Rattle.std.proofs.lemmas.Bool.{not-false}
use Rattle.std.proofs.lemmas.Bool.Decides.{eqb_tells}
use Rattle.std.specs.Prelude.{◌==◌}
use Rattle.crush_input.specs.Report.{made_line}
use Rattle.crush_reasons.specs.Made.{makings}
use Rattle.crush_input.proofs.made.push_created.Goals as goal

pub returns : goal.returns
returns c =
    let counted = c.count_makings-count.ensures in
    let some : (makings c.args.history.entries.now == 0) ≡ false = ap (λ n. n == 0) (sym counted) ∙ ⊎_elim (λ p. absurd (c.if-count-eq0.false p.1)) (λ p. p.0) (eqb_tells c.count_makings-count.result 0) in
    let on : c.args.mode.no_make ≡ true = not-false c.args.mode.no_make c.if-not-mode.false in
    on_ok_weaker c.push_counted.result (λ e s t kept.
    let told = e ∙ (λ i. c.args.text.now.items ++ (made_line (counted i) ++ (c.as_slice.ensures.value ∙ c.in_ok-lines.ensures s t kept) i)) in
    rw on (rw some told)) c.push_counted.ensures
