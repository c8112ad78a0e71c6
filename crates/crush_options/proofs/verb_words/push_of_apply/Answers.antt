use Rattle.std.proofs.Common.{◌≡◌, ◌++◌, ◌∙◌, List, Option, ap, codes, not, true}
use Rattle.std.proofs.lemmas.Result.{on_ok_weaker}
use Rattle.std.specs.Borrow.{Bor}
use Rattle.std.specs.Prelude.{option_map}
use Rattle.clap.specs.Words.{Text}
use Rattle.crush_options.specs.Options.{names_text}
use Rattle.crush_options.specs.Verbs.{VerbData, since_of_apply, verb_data, word_if, word_with}
use Rattle.crush_options.proofs.Pushes.{then_pushed}
use Rattle.crush_options.proofs.verb_words.push_of_apply.Goals as goal

pub returns : goal.returns
returns c =
    let w : VerbData = verb_data c.args.words in
    let r6 : List Text = word_with (codes "--since=") (since_of_apply w) in
    let r5 : List Text = word_if (not w.dry_run) (codes "--exact") ++ r6 in
    let r4 : List Text = word_if (not w.dry_run) (codes "--no-history") ++ r5 in
    let r3 : List Text = word_if (not w.make) (codes "--no-make") ++ r4 in
    let r2 : List Text = word_if true (codes "--strict") ++ r3 in
    let last : List Text = names_text c.push_with.new.plain.items in
    on_ok_weaker c.push_with.result (λ (e : names_text c.push_with.new.plain.items ≡ names_text c.push_if-5.new.plain.items ++ word_with (codes "--since=") (option_map (λ (name : Bor Text). name.now) c.since_of_apply.result)). then_pushed (names_text c.args.plain.now.items) (names_text c.push_if.new.plain.items) last (word_if true (codes "--in-turn")) r2 c.in_ok-push_if.ensures (then_pushed (names_text c.push_if.new.plain.items) (names_text c.push_if-2.new.plain.items) last (word_if true (codes "--strict")) r3 c.in_ok-push_if-2.ensures (then_pushed (names_text c.push_if-2.new.plain.items) (names_text c.push_if-3.new.plain.items) last (word_if (not w.make) (codes "--no-make")) r4 c.in_ok-push_if-3.ensures (then_pushed (names_text c.push_if-3.new.plain.items) (names_text c.push_if-4.new.plain.items) last (word_if (not w.dry_run) (codes "--no-history")) r5 c.in_ok-push_if-4.ensures (then_pushed (names_text c.push_if-4.new.plain.items) (names_text c.push_if-5.new.plain.items) last (word_if (not w.dry_run) (codes "--exact")) r6 c.in_ok-push_if-5.ensures (e ∙ ap (λ (z : Option Text). names_text c.push_if-5.new.plain.items ++ word_with (codes "--since=") z) c.since_of_apply.ensures)))))) c.push_with.ensures
