use Rattle.std.proofs.Common.{◌≡◌, [], ◌∷◌, ◌++◌, length, nat_eq, ◌<◌, ap, sym, subst, ◌∙◌}
use Rattle.std.specs.Prelude.{map}
use Rattle.crush_edits.specs.Setting.{first_number, first_name}
use Rattle.crush_edits.specs.SettingSeen.{kind_data}
use Rattle.crush_edits.proofs.FirstNumbers.{numbers_pushed}
use Rattle.crush_edits.proofs.SettingLaws.{kind_pushed, name_got, popped, some_left}
use Rattle.indexmap.proofs.CallerLemmas.{insert_entry-new}
use Rattle.crush_edits.proofs.setting.kinds.Kinds.push.Goals as goal

pub invariant_of-self-in-Ok : goal.invariant_of-self-in-Ok
invariant_of-self-in-Ok c =
    let new = ap (λ ks. first_name ks c.args.number) c.self.view_is ∙ c.requires in
    let seen = kind_pushed c.self.inside.names c.insert.new.self c.args.number c.args.name new c.in_ok-insert.ensures.entries in
    let same : c.in_ok-key.key.items ≡ c.args.name = c.in_ok-key.ensures.items_if_clones_equal (λ x y e. e) ∙ c.as_bytes.ensures.value in
    λ n. numbers_pushed c.self.inside.numbers c.tell_first.new.numbers (map kind_data c.self.inside.names.entries) c.in_ok-key.key.items (kind_data (c.args.number, c.args.name)) c.self.invariant same c.in-Ok.ensures.ok n
    ∙ ap (λ ks. first_number ks n) (sym seen)

pub invariant_of-self-in-Err : goal.invariant_of-self-in-Err
invariant_of-self-in-Err c =
    let new = ap (λ ks. first_name ks c.args.number) c.self.view_is ∙ c.requires in
    let pushed = c.in_ok-insert.ensures.entries ∙ insert_entry-new nat_eq c.self.inside.names c.args.number c.args.name (name_got c.args.number c.self.inside.names.entries ∙ new) in
    let some = c.pop.ensures.found.1 (subst (λ es. 0 < length es) (sym pushed) (some_left c.self.inside.names.entries (c.args.number, c.args.name))) in
    let back = popped c.self.inside.names.entries c.pop.new.self.entries (c.args.number, c.args.name) c.pop.result (sym pushed ∙ c.pop.ensures.entries) some in
    λ n. c.in-Err.ensures.err n ∙ c.self.invariant n ∙ ap (λ es. first_number (map kind_data es) n) (sym back)

pub returns-in-Ok-clause-ok : goal.returns-in-Ok-clause-ok
returns-in-Ok-clause-ok c =
    let new = ap (λ ks. first_name ks c.args.number) c.self.view_is ∙ c.requires in
    kind_pushed c.self.inside.names c.insert.new.self c.args.number c.args.name new c.in_ok-insert.ensures.entries ∙ ap (λ ks. ks ++ kind_data (c.args.number, c.args.name) ∷ []) c.self.view_is

pub returns-in-Err-clause-err : goal.returns-in-Err-clause-err
returns-in-Err-clause-err c =
    let new = ap (λ ks. first_name ks c.args.number) c.self.view_is ∙ c.requires in
    let pushed = c.in_ok-insert.ensures.entries ∙ insert_entry-new nat_eq c.self.inside.names c.args.number c.args.name (name_got c.args.number c.self.inside.names.entries ∙ new) in
    let some = c.pop.ensures.found.1 (subst (λ es. 0 < length es) (sym pushed) (some_left c.self.inside.names.entries (c.args.number, c.args.name))) in
    let back = popped c.self.inside.names.entries c.pop.new.self.entries (c.args.number, c.args.name) c.pop.result (sym pushed ∙ c.pop.ensures.entries) some in
    ap (map kind_data) back ∙ c.self.view_is
