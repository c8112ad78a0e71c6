-- The result of reading all statements is the result of the text.
use Rattle.std.proofs.Common.{ℕ, ◌∙◌, sym, subst}
use Rattle.std.proofs.lemmas.Result.{err_from_is_err_and}
use Rattle.crush_model.specs.Stands.{Stands}
use Rattle.crush_edits.specs.Setting.{SettingData}
use Rattle.crush_builder.specs.Built.{empty_draft}
use Rattle.crush_text.specs.Document.{IsMapText}
use Rattle.crush_text.proofs.Whole.{text_fails, in_time, is_flaw, no_map, is_map, only_map}
use Rattle.crush_text.proofs.reader.read_map_in.Goals as goal

pub returns-in_err-statements-clause-only : goal.returns-in_err-statements-clause-only
returns-in_err-statements-clause-only g c = λ s t n k.
    let p = err_from_is_err_and c.from_residual.result c.from_residual.ensures.1 in
    rw (p.1, p.2) (no_map c.args.text.now c.new-words.result c.new-words.ensures _ s t n (text_fails _ _ (c.in_err-statements.ensures.reads empty_draft c.in-Ok.ensures)) k)

pub returns-in_err-statements-clause-flaw : goal.returns-in_err-statements-clause-flaw
returns-in_err-statements-clause-flaw g c =
    let p = err_from_is_err_and c.from_residual.result c.from_residual.ensures.1 in
    rw (p.1, p.2) (is_flaw c.args.text.now c.new-words.result c.new-words.ensures _ (text_fails _ _ (c.in_err-statements.ensures.reads empty_draft c.in-Ok.ensures)))

pub returns-in_err-statements-clause-memory : goal.returns-in_err-statements-clause-memory
returns-in_err-statements-clause-memory g c =
    let p = err_from_is_err_and c.from_residual.result c.from_residual.ensures.1 in
    rw (p.1, p.2) (in_time c.args.text.now c.new-words.result c.new-words.ensures _ (text_fails _ _ (c.in_err-statements.ensures.reads empty_draft c.in-Ok.ensures)))

pub returns-clause-map : goal.returns-clause-map
returns-clause-map g c =
    let a = c.in_ok-statements.ensures.reads empty_draft c.in-Ok.ensures in
    let m = c.finish.ensures.stands a.0 a.1 in
    let n = c.adjusted-adjusted.ensures a.0 a.1 in
    let text = is_map c.args.text.now c.new-words.result c.new-words.ensures a.0 a.2 in
    (a.0.table, subst (λ (k : ℕ). IsMapText c.args.text.now c.finish.result.setting a.0.table k) (sym n) (subst (λ (s : SettingData). IsMapText c.args.text.now s a.0.table a.0.adjusted) (sym m.setting) text), m.forest)

pub returns-clause-spelled : goal.returns-clause-spelled
returns-clause-spelled g c = λ s t n k.
    let a = c.in_ok-statements.ensures.reads empty_draft c.in-Ok.ensures in
    let m = c.finish.ensures.stands a.0 a.1 in
    let o = only_map c.args.text.now c.new-words.result c.new-words.ensures a.0 s t n a.2 k in
    (record { setting = m.setting ∙ o.0; forest = subst (Stands c.finish.result.forest) o.1 m.forest }, c.adjusted-adjusted.ensures a.0 a.1 ∙ o.2)

pub returns-in_default-clause-only : goal.returns-in_default-clause-only
returns-in_default-clause-only g c = λ s t n k. no_map c.args.text.now c.new-words.result c.new-words.ensures c.fault_without_memory.result s t n c.fault_without_memory.ensures k

pub returns-in_default-clause-flaw : goal.returns-in_default-clause-flaw
returns-in_default-clause-flaw g c = is_flaw c.args.text.now c.new-words.result c.new-words.ensures c.fault_without_memory.result c.fault_without_memory.ensures

pub returns-in_default-clause-memory : goal.returns-in_default-clause-memory
returns-in_default-clause-memory g c = in_time c.args.text.now c.new-words.result c.new-words.ensures c.fault_without_memory.result c.fault_without_memory.ensures
