use Rattle.std.proofs.Common.{◌≡◌, [], ◌∙◌, refl, sym, subst, rules}
use Rattle.std.proofs.lemmas.List.{nil_from_length}
use Rattle.std.proofs.lemmas.Result.{err_from_is_err_and}
use Rattle.crush_script.specs.Lines.{lines}
use Rattle.crush_script.specs.Sections.{sections_data, no_sections, closed, with_lines}
use Rattle.crush_script.specs.Steps.{FailsAs}
use Rattle.crush_script.proofs.sections.read_sections.Goals as goal

pub returns : goal.returns
unfolding with_lines lines
returns c =
    let none : c.loop-rest.rest.now ≡ [] = nil_from_length c.loop-rest.rest.now (search rules) in
    c.loop-rest.invariant.steps ∙ rw none c.in_ok-check_closed.ensures

pub returns-in_err-check_closed : goal.returns-in_err-check_closed
unfolding with_lines lines
returns-in_err-check_closed c =
    let none : c.loop-rest.rest.now ≡ [] = nil_from_length c.loop-rest.rest.now (search rules) in
    let all : with_lines c.args.first no_sections (lines c.args.text.now) ≡ closed (sections_data c.loop-rest.sections) = c.loop-rest.invariant.steps ∙ rw none refl in
    let p = err_from_is_err_and c.from_residual-in_err-check_closed.result c.from_residual-in_err-check_closed.ensures.1 in
    rw (p.1, p.2) (subst (FailsAs c.in_err-check_closed.field-0.0) (sym all) c.in_err-check_closed.ensures)
