use Rattle.std.proofs.Common.{◌≡◌, ◌∙◌, List, Option, Some, None, [], ap, arith, codes, inr, length, map, refl, sym}
use Rattle.std.proofs.lemmas.List.{length-map}
use Rattle.std.specs.Borrow.{Bor}
use Rattle.std.specs.Prelude.{option_map, unwrap_or}
use Rattle.clap.specs.Words.{Text, found_of}
use Rattle.clap.proofs.WalkLemmas.{raw_values-rows}
use Rattle.crush_options.proofs.Reading.{refused_much}
use Rattle.crush_options.proofs.command_line.scripts_of.Goals as goal

texts_at : Option (Bor (List (Bor Text))) → Option (List Text)
texts_at r = option_map (λ (s : Bor (List (Bor Text))). map (λ (v : Bor Text). v.now) s.now) r

-- the values that the program reads are those of the parsed words; if the words have no values, the program reads none
no_values : (r : Option (Bor (List (Bor Text)))) (x y : Option (List Text)) → r ≡ None → texts_at r ≡ x → x ≡ y → unwrap_or y [] ≡ []
unfolding texts_at
no_values r x y is e f = ap (λ (o : Option (List Text)). unwrap_or o []) (sym f ∙ sym e ∙ ap texts_at is)

values : (r : Option (Bor (List (Bor Text)))) (s : Bor (List (Bor Text))) (x y : Option (List Text)) → r ≡ Some s → texts_at r ≡ x → x ≡ y → unwrap_or y [] ≡ map (λ (v : Bor Text). v.now) s.now
unfolding texts_at
values r s x y is e f = ap (λ (o : Option (List Text)). unwrap_or o []) (sym f ∙ sym e ∙ ap texts_at is)

pub returns-in-None-clause-parsed : goal.returns-in-None-clause-parsed
unfolding texts_at
returns-in-None-clause-parsed c =
    ap (λ names. map (λ name. name.bytes.items) names) c.new.ensures.items
    ∙ sym (no_values c.get_strs.result _ _ c.in-None.is c.get_strs.ensures (raw_values-rows (found_of c.args.matches.now) (codes "script")))

pub returns-in-Some-clause-fault : goal.returns-in-Some-clause-fault
unfolding texts_at
returns-in-Some-clause-fault c =
    let names = c.in-Some.names in
    let long = ap length (values c.get_strs.result names _ _ c.in-Some.is c.get_strs.ensures (raw_values-rows (found_of c.args.matches.now) (codes "script"))) in
    refused_much _ _ c.refused.result (inr (omega (arith, long, length-map names.now (λ (v : Bor Text). v.now), c.if-names-gt-MOST_SCRIPTS.true), refl)) c.refused.ensures

pub returns-in_ok-copies-in-Some-2-clause-parsed : goal.returns-in_ok-copies-in-Some-2-clause-parsed
unfolding texts_at
returns-in_ok-copies-in-Some-2-clause-parsed c =
    c.in_ok-copies-in-Some-2.ensures
    ∙ sym (values c.get_strs.result c.in-Some.names _ _ c.in-Some.is c.get_strs.ensures (raw_values-rows (found_of c.args.matches.now) (codes "script")))
