use Rattle.std.proofs.Common.{◌++◌, List, codes}
use Rattle.std.proofs.lemmas.Result.{on_ok_weaker}
use Rattle.clap.specs.Words.{Text}
use Rattle.crush_options.specs.Options.{names_text}
use Rattle.crush_options.specs.Verbs.{VerbData, verb_data, word_if, word_with}
use Rattle.crush_options.proofs.Pushes.{then_pushed}
use Rattle.crush_options.proofs.verb_words.push_shown.Goals as goal

pub returns : goal.returns
returns c =
    let w : VerbData = verb_data c.args.words in
    let r8 : List Text = word_if w.exit_code (codes "--exit-code") in
    let r7 : List Text = word_with (codes "--class=") w.class ++ r8 in
    let r6 : List Text = word_with (codes "--down-to=") w.down_to ++ r7 in
    let r5 : List Text = word_with (codes "--under=") w.under ++ r6 in
    let r4 : List Text = word_if w.as_ceph (codes "--as-ceph") ++ r5 in
    let r3 : List Text = word_if w.by_name (codes "--by-name") ++ r4 in
    let r2 : List Text = word_if w.json (codes "--json") ++ r3 in
    let last : List Text = names_text c.push_if-5.new.plain.items in
    on_ok_weaker c.push_if-5.result (λ e. then_pushed (names_text c.args.plain.now.items) (names_text c.push_if.new.plain.items) last (word_if w.tree (codes "--tree")) r2 c.in_ok-push_if.ensures (then_pushed (names_text c.push_if.new.plain.items) (names_text c.push_if-2.new.plain.items) last (word_if w.json (codes "--json")) r3 c.in_ok-push_if-2.ensures (then_pushed (names_text c.push_if-2.new.plain.items) (names_text c.push_if-3.new.plain.items) last (word_if w.by_name (codes "--by-name")) r4 c.in_ok-push_if-3.ensures (then_pushed (names_text c.push_if-3.new.plain.items) (names_text c.push_if-4.new.plain.items) last (word_if w.as_ceph (codes "--as-ceph")) r5 c.in_ok-push_if-4.ensures (then_pushed (names_text c.push_if-4.new.plain.items) (names_text c.push_with.new.plain.items) last (word_with (codes "--under=") w.under) r6 c.in_ok-push_with.ensures (then_pushed (names_text c.push_with.new.plain.items) (names_text c.push_with-2.new.plain.items) last (word_with (codes "--down-to=") w.down_to) r7 c.in_ok-push_with-2.ensures (then_pushed (names_text c.push_with-2.new.plain.items) (names_text c.push_with-3.new.plain.items) last (word_with (codes "--class=") w.class) r8 c.in_ok-push_with-3.ensures e))))))) c.push_if-5.ensures
