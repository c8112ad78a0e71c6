use Rattle.std.proofs.Common.{◌≡◌, ◌⊎◌, ◌∙◌, List, Result, Ok, Err, ap, map, refl, sym, subst, true, inl, inr}
use Rattle.std.specs.Prelude.{IfOk}
use Rattle.std.proofs.lemmas.Result.{IfErr-weaker}
use Rattle.clap.specs.declared.error.kind.ErrorKind.{ErrorKind}
use Rattle.clap.specs.declared.error.kind.ErrorKind.TheVariants.{OutOfMemory}
use Rattle.clap.specs.Words.{App, IsAmong, Text, fault_of, found_of, is_simple, is_simple_and_free, kind_of, matches_of, rows_of}
use Rattle.clap.proofs.OnLiterals.{clap_on_literals}
use Rattle.crush_options.specs.declared.parsed_options.Options.{Options}
use Rattle.crush_options.specs.declared.parsed_options.OptionsFault.{OptionsFault}
use Rattle.crush_options.specs.declared.parsed_options.OptionsFault.TheVariants.{Help, Refused, Memory}
use Rattle.crush_options.specs.declared.verbs.Verb.{Verb}
use Rattle.crush_options.specs.declared.verbs.Verb.TheVariants.{Apply, Diff, Plan, Tree}
use Rattle.crush_options.specs.Options.{IsFaultOf}
use Rattle.crush_options.specs.Verbs.{AreVerbWords, IsFaultOfVerb, app_of_verb, apply, diff, plan, tree, verb_data}
use Rattle.crush_options.proofs.verbs.options_of_verb.Goals as goal

apply_simple : is_simple apply ≡ true
unfolding clap_on_literals
apply_simple = refl

diff_simple : is_simple diff ≡ true
unfolding clap_on_literals
diff_simple = refl

plan_simple : is_simple plan ≡ true
unfolding clap_on_literals
plan_simple = refl

tree_simple : is_simple tree ≡ true
unfolding clap_on_literals
tree_simple = refl

apply_free : is_simple_and_free apply ≡ true
unfolding clap_on_literals
apply_free = refl

diff_free : is_simple_and_free diff ≡ true
unfolding clap_on_literals
diff_free = refl

plan_free : is_simple_and_free plan ≡ true
unfolding clap_on_literals
plan_free = refl

tree_free : is_simple_and_free tree ≡ true
unfolding clap_on_literals
tree_free = refl

-- the command line of each verb has the simple form for which `clap` promises what it parses and with which errors it fails
simple : (verb : Verb) → is_simple (app_of_verb verb) ≡ true
simple Apply = apply_simple
simple Diff = diff_simple
simple Plan = plan_simple
simple Tree = tree_simple

free : (verb : Verb) → is_simple_and_free (app_of_verb verb) ≡ true
free Apply = apply_free
free Diff = diff_free
free Plan = plan_free
free Tree = tree_free

-- the fault that the program makes of an error of `clap` is a fault of the verb's command line
fault_in : (verb : Verb) (words : List Text) (kind : ErrorKind) (fault : OptionsFault) → (kind ≡ OutOfMemory) ⊎ IsAmong kind (fault_of (app_of_verb verb) words) → IsFaultOf kind fault → IsFaultOfVerb verb words fault
fault_in verb words kind (Help text) (inl lacks) (inl told) = absurd (let bad : OutOfMemory ≡ _ = sym lacks ∙ told in cc)
fault_in verb words kind (Help text) (inl lacks) (inr told) = absurd (let bad : OutOfMemory ≡ _ = sym lacks ∙ told in cc)
fault_in verb words kind (Refused text) (inl lacks) told = absurd (told.2 lacks)
fault_in verb words kind Memory (inl lacks) told = inl refl
fault_in verb words kind fault (inr among) told = inr (inl (record { kind = kind; among = among; told = told }))

-- if two properties hold for the value of a result that is `Ok`, then a property that follows from both also holds
both_ok : (r : Result Options OptionsFault) (P Q R : Options → Type 0) → ((options : Options) → P options → Q options → R options) → IfOk r P → IfOk r Q → IfOk r R
both_ok (Ok options) P Q R join p q = join options p q
both_ok (Err fault) P Q R join p q = tt

pub returns-in-Ok-clause-parsed : goal.returns-in-Ok-clause-parsed
returns-in-Ok-clause-parsed g c =
    let verb = c.args.verb in
    let words = map g.S.AsStr.text c.args.words.now in
    let is = c.in_ok-command.ensures in
    let rows : rows_of (found_of c.in-Ok.matches) ≡ matches_of (app_of_verb verb) words = (c.in-Ok.ensures.matches (ap is_simple is ∙ simple verb)).0 ∙ ap (λ (a : App). matches_of a words) is in
    let right = ap (λ (a : App). fault_of a words) (sym is) ∙ c.in-Ok.ensures.kinds (ap is_simple_and_free is ∙ free verb) in
    let read = subst (λ z. AreVerbWords verb z (verb_data c.verb_words_of.result)) rows c.verb_words_of.ensures in
    both_ok c.checked.result _ _ _ (λ options together short. record { right = right; given = verb_data c.verb_words_of.result; read = read; together = together; short = short }) c.checked.ensures.together c.checked.ensures.read

pub returns-in-Ok-clause-fault : goal.returns-in-Ok-clause-fault
returns-in-Ok-clause-fault g c =
    let verb = c.args.verb in
    let words = map g.S.AsStr.text c.args.words.now in
    let is = c.in_ok-command.ensures in
    let rows : rows_of (found_of c.in-Ok.matches) ≡ matches_of (app_of_verb verb) words = (c.in-Ok.ensures.matches (ap is_simple is ∙ simple verb)).0 ∙ ap (λ (a : App). matches_of a words) is in
    let right = ap (λ (a : App). fault_of a words) (sym is) ∙ c.in-Ok.ensures.kinds (ap is_simple_and_free is ∙ free verb) in
    let read = subst (λ z. AreVerbWords verb z (verb_data c.verb_words_of.result)) rows c.verb_words_of.ensures in
    IfErr-weaker c.checked.result _ _ (λ fault told. inr (inr (record { right = right; given = verb_data c.verb_words_of.result; read = read; told = told }))) c.checked.ensures.fault

pub returns-in-Err-clause-fault : goal.returns-in-Err-clause-fault
returns-in-Err-clause-fault g c =
    let verb = c.args.verb in
    let words = map g.S.AsStr.text c.args.words.now in
    let is = c.in_ok-command.ensures in
    let kind = kind_of c.in-Err.error in
    let fails = c.in-Err.ensures.kinds (ap is_simple_and_free is ∙ free verb) in
    fault_in verb words kind c.fault_of.result (subst (λ (a : App). (kind ≡ OutOfMemory) ⊎ IsAmong kind (fault_of a words)) is fails) c.fault_of.ensures
