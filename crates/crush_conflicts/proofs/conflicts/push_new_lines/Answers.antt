use Rattle.std.proofs.Common.{ℕ, List, ◌++◌, ap, map, drop, sym, arith, append-nil, ◌∙◌}
use Rattle.std.specs.Prelude.{flat_map}
use Rattle.std.specs.Option.{option_map}
use Rattle.std.proofs.Math.ListN.{drop_of_length-le}
use Rattle.crush_conflicts.specs.Conflicts.{new_case, new_lines}
use Rattle.crush_conflicts.specs.Lines.{case_line}
use Rattle.crush_conflicts.specs.NewItems.{each_once}
use Rattle.crush_conflicts.proofs.NameLaws.{line_left, names_left}
use Rattle.crush_conflicts.proofs.conflicts.push_new_lines.Goals as goal

pub loop-name-preserved : goal.loop-name-preserved
loop-name-preserved g c = λ t z os known before after are.
    let line : List ℕ → List ℕ = λ n. case_line c.args.naming.now.setting.now t (new_case t os z n) in
    let last = option_map (λ n. n.now) c.loop-name.last in
    line_left line c.loop-name.lines.items _ last _ _ (c.in_ok-push_new_line.ensures t z os known before after are)
    ∙ ap (λ ns. c.loop-name.lines.items ++ flat_map line (each_once last ns)) (sym (names_left (λ n. n.now) c.args.names.now c.loop-name.name-index _ c.loop-name-test.true))
    ∙ c.loop-name.invariant t z os known before after are

pub returns : goal.returns
unfolding new_lines
returns g c = λ t z os known before after are.
    let line : List ℕ → List ℕ = λ n. case_line c.args.naming.now.setting.now t (new_case t os z n) in
    let last = option_map (λ n. n.now) c.loop-name.last in
    sym (append-nil c.loop-name.lines.items)
    ∙ ap (λ xs. c.loop-name.lines.items ++ flat_map line (each_once last (map (λ n. n.now) xs))) (sym (drop_of_length-le c.args.names.now (omega (arith, c.loop-name-test.false))))
    ∙ c.loop-name.invariant t z os known before after are
