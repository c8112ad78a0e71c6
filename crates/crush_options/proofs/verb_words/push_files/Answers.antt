use Rattle.std.proofs.Common.{◌≡◌, ◌++◌, ◌∙◌, List, [], ◌∷◌, ap, codes, map, refl, true}
use Rattle.std.specs.Borrow.{Bor}
use Rattle.std.proofs.lemmas.Result.{on_ok_weaker}
use Rattle.clap.specs.Words.{Text}
use Rattle.crush_options.specs.Options.{names_text}
use Rattle.crush_options.specs.Verbs.{VerbData, verb_data, word_if, word_with}
use Rattle.crush_options.proofs.Pushes.{then_pushed}
use Rattle.crush_options.proofs.verb_words.push_files.Goals as goal

-- the words `--script=NAME`, one for each name
script_words : (names : List (Bor Text)) → map (λ (name : Bor Text). codes "--script=" ++ name.now) names ≡ map (λ (name : Text). codes "--script=" ++ name) (map (λ (name : Bor Text). name.now) names)
script_words [] = refl
script_words (n ∷ names) = ap (λ (z : List Text). (codes "--script=" ++ n.now) ∷ z) (script_words names)

pub returns : goal.returns
returns c =
    let w : VerbData = verb_data c.args.words in
    let r4 : List Text = word_with [] w.map in
    let r3 : List Text = word_if true (codes "--") ++ r4 in
    let r2 : List Text = word_with (codes "--output=") w.output ++ r3 in
    let last : List Text = names_text c.push_with-2.new.plain.items in
    on_ok_weaker c.push_with-2.result (λ e. then_pushed (names_text c.args.plain.now.items) (names_text c.push_scripts.new.plain.items) last (map (λ name. codes "--script=" ++ name) w.scripts) r2 (c.in_ok-push_scripts.ensures ∙ ap (λ (z : List Text). names_text c.args.plain.now.items ++ z) (script_words c.args.words.scripts.now)) (then_pushed (names_text c.push_scripts.new.plain.items) (names_text c.push_with.new.plain.items) last (word_with (codes "--output=") w.output) r3 c.in_ok-push_with.ensures (then_pushed (names_text c.push_with.new.plain.items) (names_text c.push_if.new.plain.items) last (word_if true (codes "--")) r4 c.in_ok-push_if.ensures e))) c.push_with-2.ensures
