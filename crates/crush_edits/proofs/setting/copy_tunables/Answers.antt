use Rattle.std.proofs.Common.{◌++◌, length, append-nil, arith, ap, sym, ◌∙◌}
use Rattle.std.specs.Cmp.Lexicographic.{nat_list_eq_equiv}
use Rattle.std.specs.Prelude.{bytes_eq}
use Rattle.indexmap.specs.IndexMap.{insert_entry}
use Rattle.crush_edits.proofs.SettingLaws.{entry_copied}
use Rattle.crush_edits.proofs.setting.copy_tunables.Goals as goal

pub loop-name-preserved : goal.loop-name-preserved
loop-name-preserved c =
    entry_copied bytes_eq nat_list_eq_equiv c.loop-name.copies c.insert.new.self c.in-Some.name.now c.in-Some.value.now c.next.new.self c.args.tunables.now.entries
    c.into_iter-name-iterator.ensures.into_iter_gives.4
    (ap (λ es. c.loop-name.copies.entries ++ es) (sym c.in-Some.ensures.steps) ∙ c.loop-name.invariant)
    (c.in_ok-insert.ensures.entries ∙ ap (λ n. insert_entry bytes_eq c.loop-name.copies.entries n c.in-Some.value.now) c.in_ok-name.ensures)

pub loop-name-smaller : goal.loop-name-smaller
loop-name-smaller c = omega (arith, ap length c.in-Some.ensures.steps)

pub returns : goal.returns
returns c = sym (append-nil c.loop-name.copies.entries) ∙ ap (λ es. c.loop-name.copies.entries ++ es) (sym c.in-None.ensures.steps.0) ∙ c.loop-name.invariant
