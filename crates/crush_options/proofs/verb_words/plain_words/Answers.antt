use Rattle.std.proofs.Common.{◌++◌, ◌∙◌, List, ap, codes, true}
use Rattle.clap.specs.Words.{Text}
use Rattle.crush_options.specs.Options.{names_text}
use Rattle.crush_options.specs.Verbs.{VerbData, file_words, own_words, shown_words, verb_data, word_if, words_of_verb}
use Rattle.crush_options.proofs.Pushes.{then_pushed}
use Rattle.crush_options.proofs.verb_words.plain_words.Goals as goal

pub returns : goal.returns
returns c =
    let w : VerbData = verb_data c.args.words in
    let r4 : List Text = file_words w in
    let r3 : List Text = shown_words w ++ r4 in
    let r2 : List Text = word_if true (codes "--explain") ++ r3 in
    let last : List Text = names_text c.push_files.new.plain.items in
    let e = c.in_ok-push_files.ensures in
    then_pushed (names_text c.new-plain.result.items) (names_text c.push_own.new.plain.items) last (own_words c.args.verb w) r2 c.in_ok-push_own.ensures (then_pushed (names_text c.push_own.new.plain.items) (names_text c.push_if.new.plain.items) last (word_if true (codes "--explain")) r3 c.in_ok-push_if.ensures (then_pushed (names_text c.push_if.new.plain.items) (names_text c.push_shown.new.plain.items) last (shown_words w) r4 c.in_ok-push_shown.ensures e))
    ∙ ap (λ (z : List Text). z ++ words_of_verb c.args.verb w) (ap names_text c.new-plain.ensures.items)
