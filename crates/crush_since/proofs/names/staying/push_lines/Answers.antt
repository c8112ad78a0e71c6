use Rattle.std.proofs.Common.{◌++◌, sym, ap, ◌∙◌}
use Rattle.std.specs.Prelude.{flat_map}
use Rattle.std.proofs.lemmas.List.Folds.{flat_map-map}
use Rattle.std.proofs.lemmas.Result.{on_ok_weaker}
use Rattle.crush_compare.specs.Comparison.{pair_items}
use Rattle.crush_since.specs.Stays.{line_texts, stay_lines, stay_pair}
use Rattle.crush_since.proofs.names.staying.push_lines.Goals as goal

pub returns : goal.returns
unfolding stay_lines
returns g c = λ t u a b.
    let both = c.in_ok-both.both in
    let line = stay_pair both.old.map.now.setting both.new.map.now.setting in
    let is = c.in_ok-both.ensures.pairs t u a b in
    on_ok_weaker c.push_pairs.result
    (λ e. e ∙ ap (λ ps. line_texts c.args.lines.now.items ++ flat_map (λ p. line (pair_items both p)) ps) c.as_slice.ensures.value
    ∙ ap (λ l. line_texts c.args.lines.now.items ++ l) (sym (flat_map-map line (pair_items both) both.pairs.items)
    ∙ (λ k. flat_map (stay_pair ((c.in_ok-both.ensures.old k).setting) ((c.in_ok-both.ensures.new k).setting)) (is.pairs k))))
    c.push_pairs.ensures
