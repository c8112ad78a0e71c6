use Rattle.std.proofs.Common.{◌++◌, ap, subst, sym, ◌∙◌}
use Rattle.std.specs.Prelude.{None}
use Rattle.std.proofs.lemmas.Result.{on_ok_weaker}
use Rattle.crush_model.specs.Stands.{Stands}
use Rattle.crush_model.specs.Table.{total}
use Rattle.crush_compare.specs.Comparison.{pair_items}
use Rattle.crush_since.specs.Since.{plain_map, totals_line}
use Rattle.crush_since.specs.Tallies.{counts_line}
use Rattle.crush_since.specs.declared.since.tally.Tally.{Tally}
use Rattle.crush_since.specs.CountedByName.{pairs_tally, tally_by_name}
use Rattle.crush_since.specs.SinceNames.{since_names_part, since_names_text}
use Rattle.crush_since.proofs.CountLaws.{tally_of_pairs}
use Rattle.crush_since.proofs.PartLaws.{three_sections}
use Rattle.crush_since.proofs.names.since.push_text.Goals as goal

pub returns : goal.returns
unfolding since_names_text
returns g c = λ t u a b.
    let both = c.in_ok-both.both in
    let is = c.in_ok-both.ensures.pairs t u a b in
    let old = c.in_ok-both.ensures.old in
    let new = c.in_ok-both.ensures.new in
    let part = c.in_ok-push_part.ensures t u (subst (λ m. Stands m.forest t) (sym old) a) (subst (λ m. Stands m.forest u) (sym new) b) is
    ∙ (λ k. c.args.out.now.items ++ since_names_part None (plain_map ((old k).setting) t) (plain_map ((new k).setting) u)) in
    on_ok_weaker c.push_counts.result
    (λ e. three_sections _ _ _ _ (since_names_part None (plain_map c.args.old.now.setting t) (plain_map c.args.new.now.setting u)) (totals_line (total t) (total u)) (counts_line (tally_by_name t u)) part
    (c.in_ok-push_totals.ensures ∙ (λ i. c.push_part.new.out.items ++ totals_line (c.total.ensures t a i) (c.total-2.ensures u b i)))
    (e ∙ ap (λ (n : Tally). c.push_totals.new.out.items ++ counts_line n) (c.tally_of-tally.ensures ∙ ap (pairs_tally (pair_items both)) c.as_slice.ensures.value ∙ tally_of_pairs t u (pair_items both) both.pairs.items is.pairs)))
    c.push_counts.ensures
