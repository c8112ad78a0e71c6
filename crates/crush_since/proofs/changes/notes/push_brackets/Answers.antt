use Rattle.std.proofs.Common.{◌≡◌, ◌≤◌, ◌<◌, ◌∙◌, ◌++◌, List, ℕ, length, drop, ap, sym, subst, append-nil}
use Rattle.crush_since.specs.ChangeText.{brackets_text, notes}
use Rattle.crush_since.specs.ItemParts.{behind}
use Rattle.crush_since.specs.SeenChange.{change_data}
use Rattle.crush_since.proofs.ChangeTextLaws.{no_brackets, some_brackets}
use Rattle.crush_since.proofs.PartLaws.{marked, some_there, none_there}
use Rattle.crush_since.proofs.changes.notes.push_brackets.Goals as goal

pub after_mark-requires : goal.after_mark-requires
after_mark-requires c =
    let ps = notes c.args.old.now c.args.new.now (change_data c.args.change.now) in
    let told : c.as_slice-told.result.now ≡ behind ps = c.as_slice-told.ensures.value ∙ c.in_ok-push_notes.ensures ∙ ap (λ (l : List ℕ). l ++ behind ps) c.new-notes.ensures.items in
    let some = some_there _ _ c.is_empty.ensures c.if-is_empty.false in
    subst (λ (l : List ℕ). 2 ≤ length l) (sym told) (marked ps (subst (λ (l : List ℕ). 0 < length l) told some))

pub returns-then-is_empty : goal.returns-then-is_empty
returns-then-is_empty c =
    let ps = notes c.args.old.now c.args.new.now (change_data c.args.change.now) in
    let told : c.as_slice-told.result.now ≡ behind ps = c.as_slice-told.ensures.value ∙ c.in_ok-push_notes.ensures ∙ ap (λ (l : List ℕ). l ++ behind ps) c.new-notes.ensures.items in
    let none = none_there _ _ c.is_empty.ensures c.if-is_empty.true in
    sym (append-nil c.args.out.now.items) ∙ ap (λ (l : List ℕ). c.args.out.now.items ++ l) (sym (no_brackets ps (ap length (sym told) ∙ none)))

pub returns : goal.returns
returns c =
    let ps = notes c.args.old.now c.args.new.now (change_data c.args.change.now) in
    let told : c.as_slice-told.result.now ≡ behind ps = c.as_slice-told.ensures.value ∙ c.in_ok-push_notes.ensures ∙ ap (λ (l : List ℕ). l ++ behind ps) c.new-notes.ensures.items in
    let some = some_there _ _ c.is_empty.ensures c.if-is_empty.false in
    c.in_ok-push_text.ensures ∙ ap (λ (l : List ℕ). c.args.out.now.items ++ brackets_text l) (c.after_mark.ensures ∙ ap (drop 2) told)
    ∙ ap (λ (l : List ℕ). c.args.out.now.items ++ l) (sym (some_brackets ps (subst (λ (l : List ℕ). 0 < length l) told some)))
