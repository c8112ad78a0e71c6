use Rattle.std.proofs.Common.{◌≡◌, ◌⊎◌, ◌∙◌, ap, map, refl, sym, subst, true, inl, inr}
use Rattle.std.proofs.lemmas.Result.{IfErr-weaker, IfOk-weaker}
use Rattle.clap.specs.declared.error.kind.ErrorKind.{ErrorKind}
use Rattle.clap.specs.declared.error.kind.ErrorKind.TheVariants.{OutOfMemory}
use Rattle.clap.specs.Words.{App, IsAmong, Text, fault_of, found_of, is_simple, is_simple_and_free, kind_of, matches_of, rows_of}
use Rattle.clap.proofs.OnLiterals.{clap_on_literals}
use Rattle.std.specs.Prelude.{List}
use Rattle.crush_options.specs.declared.parsed_options.OptionsFault.{OptionsFault}
use Rattle.crush_options.specs.declared.parsed_options.OptionsFault.TheVariants.{Help, Refused, Memory}
use Rattle.crush_options.specs.Options.{AreRead, IsFaultIn, IsFaultOf, program}
use Rattle.crush_options.proofs.Reading.{much_is_fault}
use Rattle.crush_options.proofs.command_line.plain_options.Goals as goal

simple : is_simple program ≡ true
unfolding clap_on_literals
simple = refl

free : is_simple_and_free program ≡ true
unfolding clap_on_literals
free = refl

-- the fault that the program makes of an error of `clap` is a fault of the command line
fault_in : (words : List Text) (kind : ErrorKind) (fault : OptionsFault) → (kind ≡ OutOfMemory) ⊎ IsAmong kind (fault_of program words) → IsFaultOf kind fault → IsFaultIn words fault
fault_in words kind (Help text) (inl lacks) (inl told) = absurd (let bad : OutOfMemory ≡ _ = sym lacks ∙ told in cc)
fault_in words kind (Help text) (inl lacks) (inr told) = absurd (let bad : OutOfMemory ≡ _ = sym lacks ∙ told in cc)
fault_in words kind (Help text) (inr among) told = record { kind = kind; among = among; told = told }
fault_in words kind (Refused text) (inl lacks) told = absurd (told.2 lacks)
fault_in words kind (Refused text) (inr among) told = inl (record { kind = kind; among = among; told = told })
fault_in words kind Memory h told = tt

pub returns-in-Ok-clause-parsed : goal.returns-in-Ok-clause-parsed
returns-in-Ok-clause-parsed g c =
    let words = map g.S.AsStr.text c.args.words.now in
    let is = c.in_ok-command.ensures in
    let rows : rows_of (found_of c.in-Ok.matches) ≡ matches_of program words = (c.in-Ok.ensures.matches (ap is_simple is ∙ simple)).0 ∙ ap (λ (a : App). matches_of a words) is in
    let right = ap (λ (a : App). fault_of a words) (sym is) ∙ c.in-Ok.ensures.kinds (ap is_simple_and_free is ∙ free) in
    IfOk-weaker c.options_of.result _ _ (λ options read. record { right = right; read = subst (λ z. AreRead z options) rows read }) c.options_of.ensures.read

pub returns-in-Ok-clause-fault : goal.returns-in-Ok-clause-fault
returns-in-Ok-clause-fault g c =
    let words = map g.S.AsStr.text c.args.words.now in
    let is = c.in_ok-command.ensures in
    let rows : rows_of (found_of c.in-Ok.matches) ≡ matches_of program words = (c.in-Ok.ensures.matches (ap is_simple is ∙ simple)).0 ∙ ap (λ (a : App). matches_of a words) is in
    let right = ap (λ (a : App). fault_of a words) (sym is) ∙ c.in-Ok.ensures.kinds (ap is_simple_and_free is ∙ free) in
    IfErr-weaker c.options_of.result _ _ (λ fault much. much_is_fault words _ fault right rows much) c.options_of.ensures.fault

pub returns-in-Err-clause-fault : goal.returns-in-Err-clause-fault
returns-in-Err-clause-fault g c =
    let words = map g.S.AsStr.text c.args.words.now in
    let is = c.in_ok-command.ensures in
    let kind = kind_of c.in-Err.error in
    let fails = c.in-Err.ensures.kinds (ap is_simple_and_free is ∙ free) in
    fault_in words kind c.plain_fault_of.result (subst (λ (a : App). (kind ≡ OutOfMemory) ⊎ IsAmong kind (fault_of a words)) is fails) c.plain_fault_of.ensures
