use Rattle.std.proofs.Common.{◌++◌, List, ℕ, ap, append_assoc, sym, ◌∙◌}
use Rattle.std.specs.Prelude.{flat_map}
use Rattle.std.specs.Option.{option_map}
use Rattle.std.proofs.lemmas.List.Folds.{flat_map-map}
use Rattle.std.proofs.lemmas.Result.{on_ok_weaker}
use Rattle.crush_compare.specs.Comparison.{pair_items}
use Rattle.crush_compare.specs.declared.identity.Devices.TheVariants.{ByName}
use Rattle.crush_compare.specs.declared.identity.Identity.TheVariants.{Names}
use Rattle.crush_since.specs.RuleChanges.{lines_beside_part}
use Rattle.crush_since.specs.Since.{plain_map}
use Rattle.crush_since.specs.SinceNames.{changed_lines, changed_pair, since_names_part}
use Rattle.crush_since.proofs.names.since.push_part.Goals as goal

pub returns : goal.returns
unfolding since_names_part changed_lines
returns g c = λ t u a b is.
    let both = c.args.both.now in
    let old = plain_map both.old.map.now.setting t in
    let new = plain_map both.new.map.now.setting u in
    let under = option_map (λ n. n.now) c.args.under in
    let text = c.args.out.now.items in
    let line = changed_pair both.old.map.now.setting both.new.map.now.setting in
    let lines = c.in_ok-push_pairs.ensures ∙ ap (λ ps. text ++ flat_map (λ p. line (pair_items both p)) ps) c.as_slice.ensures.value ∙ ap (λ (l : List ℕ). text ++ l) (sym (flat_map-map line (pair_items both) both.pairs.items) ∙ ap (flat_map line) is.pairs) in
    on_ok_weaker c.push_lines_beside_part.result
    (λ e. e ∙ ap (λ (l : List ℕ). l ++ lines_beside_part (Names ByName) under old new) lines ∙ append_assoc text (changed_lines under old new) (lines_beside_part (Names ByName) under old new))
    (c.push_lines_beside_part.ensures t u a b)
