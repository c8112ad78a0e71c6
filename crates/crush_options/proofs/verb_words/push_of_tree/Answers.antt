use Rattle.std.proofs.Common.{◌++◌, List, codes, true}
use Rattle.std.proofs.lemmas.Result.{on_ok_weaker}
use Rattle.clap.specs.Words.{Text}
use Rattle.crush_options.specs.Options.{names_text}
use Rattle.crush_options.specs.Verbs.{word_if}
use Rattle.crush_options.proofs.Pushes.{then_pushed}
use Rattle.crush_options.proofs.verb_words.push_of_tree.Goals as goal

pub returns : goal.returns
returns c =
    let r2 : List Text = word_if true (codes "--tree") in
    let last : List Text = names_text c.push_if-2.new.plain.items in
    on_ok_weaker c.push_if-2.result (λ e. then_pushed (names_text c.args.plain.now.items) (names_text c.push_if.new.plain.items) last (word_if true (codes "--no-history")) r2 c.in_ok-push_if.ensures e) c.push_if-2.ensures
