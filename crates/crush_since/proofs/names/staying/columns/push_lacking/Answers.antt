use Rattle.std.proofs.Common.{◌++◌, List, ℕ, ap, sym, ◌∙◌, append-nil, append_assoc}
use Rattle.std.specs.Prelude.{codes}
use Rattle.std.proofs.lemmas.Result.{on_ok_weaker}
use Rattle.crush_items.specs.SeenItem.{seen_data}
use Rattle.crush_since.specs.Stays.{wanted_word}
use Rattle.crush_since.proofs.names.staying.columns.push_lacking.Goals as goal

pub returns : goal.returns
returns c =
    let old = c.args.parts.now.items in
    let word = wanted_word c.args.wanted.now (seen_data c.args.there.now) in
    on_ok_weaker c.push_wanted_word.result
    (λ is. is ∙ ap (λ (l : List ℕ). l ++ word) c.in_ok-extend_from_slice.ensures.items ∙ append_assoc old (codes "; wanted as ") word
    ∙ ap (λ (l : List ℕ). old ++ (codes "; wanted as " ++ l)) (sym (append-nil word)))
    c.push_wanted_word.ensures
