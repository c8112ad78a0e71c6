use Rattle.std.proofs.Common.{◌≡◌, ◌∙◌, ◌-◌, List, Option, ap, arith, drop, length, map, subst, sym, take}
use Rattle.std.proofs.lemmas.List.{drop-map, length-drop, take_all}
use Rattle.std.specs.Prelude.{IfErr, IfOk}
use Rattle.clap.specs.Words.{Text}
use Rattle.crush_options.specs.declared.verbs.Verb.{Verb}
use Rattle.crush_options.specs.Verbs.{AreOptionsBy, AreOptionsOfVerb, IsFaultBy, IsFaultOfVerb}
use Rattle.crush_options.proofs.verbs.options.Goals as goal

-- the texts of all words except for the first
texts_behind : {A : Type 0} (f : A → Text) (words : List A) → map f (take (length words - 1) (drop 1 words)) ≡ drop 1 (map f words)
texts_behind f words = ap (map f) (take_all (length words - 1) (drop 1 words) (omega (arith, length-drop 1 words))) ∙ sym (drop-map f 1 words)

pub returns-in-Some-clause-parsed : goal.returns-in-Some-clause-parsed
returns-in-Some-clause-parsed g c =
    let f = g.S.AsStr.text in
    let words = map f c.args.words.now in
    let read = subst (λ (z : List Text). IfOk c.options_of_verb.result (AreOptionsOfVerb c.in-Some.verb z)) (texts_behind f c.args.words.now) c.options_of_verb.ensures.parsed in
    subst (λ (v : Option Verb). IfOk c.options_of_verb.result (AreOptionsBy v words)) c.in-Some.ensures read

pub returns-in-Some-clause-fault : goal.returns-in-Some-clause-fault
returns-in-Some-clause-fault g c =
    let f = g.S.AsStr.text in
    let words = map f c.args.words.now in
    let told = subst (λ (z : List Text). IfErr c.options_of_verb.result (IsFaultOfVerb c.in-Some.verb z)) (texts_behind f c.args.words.now) c.options_of_verb.ensures.fault in
    subst (λ (v : Option Verb). IfErr c.options_of_verb.result (IsFaultBy v words)) c.in-Some.ensures told
