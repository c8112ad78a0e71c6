use Rattle.std.proofs.Common.{◌≡◌, ◌∙◌, List, Option, Some, None, [], ap, codes, map, refl, sym}
use Rattle.std.specs.Borrow.{Bor}
use Rattle.std.specs.Prelude.{option_map, unwrap_or}
use Rattle.clap.specs.Words.{Text, found_of}
use Rattle.clap.proofs.WalkLemmas.{raw_values-rows}
use Rattle.crush_options.proofs.verb_words.scripts_of.Goals as goal

-- the values that the program reads are those of the parsed words; if the words have no values, the program reads none
values_or_none : (r : Option (Bor (List (Bor Text)))) (none s : Bor (List (Bor Text))) (x : Option (List Text)) → none.now ≡ [] → s ≡ unwrap_or r none → option_map (λ (s : Bor (List (Bor Text))). map (λ (v : Bor Text). v.now) s.now) r ≡ x → map (λ (v : Bor Text). v.now) s.now ≡ unwrap_or x []
values_or_none None none s x empty is e = ap (λ (t : Bor (List (Bor Text))). map (λ (v : Bor Text). v.now) t.now) is ∙ ap (map (λ (v : Bor Text). v.now)) empty ∙ ap (λ (o : Option (List Text)). unwrap_or o []) e
values_or_none (Some read) none s x empty is e = ap (λ (t : Bor (List (Bor Text))). map (λ (v : Bor Text). v.now) t.now) is ∙ ap (λ (o : Option (List Text)). unwrap_or o []) e

pub returns : goal.returns
returns c = values_or_none c.get_strs.result _ c.unwrap_or.result _ refl c.unwrap_or.ensures (c.get_strs.ensures ∙ raw_values-rows (found_of c.args.matches.now) (codes "SCRIPT"))
