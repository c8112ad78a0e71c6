use Rattle.std.proofs.Common.{◌≡◌, ◌≤◌, ◌<◌, ◌∙◌, ◌++◌, List, ℕ, length, drop, ap, sym, subst, append-nil}
use Rattle.std.specs.Option.{option_map}
use Rattle.crush_items.specs.SeenItem.{seen_data}
use Rattle.crush_since.specs.ItemParts.{behind, parts, line_text, listed_name}
use Rattle.crush_since.proofs.PartLaws.{marked, no_line, some_line, some_there, none_there}
use Rattle.crush_since.proofs.since.parts.push_line.Goals as goal

pub after_mark-requires : goal.after_mark-requires
after_mark-requires c =
    let before = option_map seen_data c.args.item.now.before in
    let after = option_map seen_data c.args.item.now.after in
    let ps = parts c.args.item.now.old.now c.args.item.now.new.now before after c.args.item.now.same_class_ids in
    let told : c.as_slice-told.result.now ≡ behind ps = c.as_slice-told.ensures.value ∙ c.in_ok-push_parts.ensures ∙ ap (λ (l : List ℕ). l ++ behind ps) c.new-parts.ensures.items in
    let some = some_there _ _ c.is_empty.ensures c.if-is_empty.false in
    subst (λ (l : List ℕ). 2 ≤ length l) (sym told) (marked ps (subst (λ (l : List ℕ). 0 < length l) told some))

pub returns-then-is_empty : goal.returns-then-is_empty
returns-then-is_empty c =
    let before = option_map seen_data c.args.item.now.before in
    let after = option_map seen_data c.args.item.now.after in
    let ps = parts c.args.item.now.old.now c.args.item.now.new.now before after c.args.item.now.same_class_ids in
    let told : c.as_slice-told.result.now ≡ behind ps = c.as_slice-told.ensures.value ∙ c.in_ok-push_parts.ensures ∙ ap (λ (l : List ℕ). l ++ behind ps) c.new-parts.ensures.items in
    let none = none_there _ _ c.is_empty.ensures c.if-is_empty.true in
    sym (append-nil c.args.out.now.items) ∙ ap (λ (l : List ℕ). c.args.out.now.items ++ l) (sym (no_line (listed_name before after) c.args.id ps (ap length (sym told) ∙ none)))

pub returns : goal.returns
returns c =
    let before = option_map seen_data c.args.item.now.before in
    let after = option_map seen_data c.args.item.now.after in
    let ps = parts c.args.item.now.old.now c.args.item.now.new.now before after c.args.item.now.same_class_ids in
    let told : c.as_slice-told.result.now ≡ behind ps = c.as_slice-told.ensures.value ∙ c.in_ok-push_parts.ensures ∙ ap (λ (l : List ℕ). l ++ behind ps) c.new-parts.ensures.items in
    let some = some_there _ _ c.is_empty.ensures c.if-is_empty.false in
    c.in_ok-push_text.ensures ∙ (λ i. c.args.out.now.items ++ line_text (c.listed_name.ensures i) c.args.id ((c.after_mark.ensures ∙ ap (drop 2) told) i))
    ∙ ap (λ (l : List ℕ). c.args.out.now.items ++ l) (sym (some_line (listed_name before after) c.args.id ps (subst (λ (l : List ℕ). 0 < length l) told some)))
