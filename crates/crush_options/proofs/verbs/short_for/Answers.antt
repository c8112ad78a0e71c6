use Rattle.std.proofs.Common.{◌≡◌, ◌∙◌, false, ap, ap₂, subst}
use Rattle.std.proofs.lemmas.Result.{err_from_is_err_and}
use Rattle.crush_options.specs.declared.parsed_options.MapForm.TheVariants.{Job}
use Rattle.crush_options.specs.declared.parsed_options.Options.{Options}
use Rattle.crush_options.specs.Options.{AreOptionsOf, IsFaultIn, names_text}
use Rattle.crush_options.specs.Verbs.{verb_data, words_of_verb}
use Rattle.crush_options.proofs.verbs.short_for.Goals as goal

-- without the form of the files and the conflicts that the verb says, the options are those of the plain command line
as_plain : (o : Options) → o.maps ≡ Job → o.mode.conflicts ≡ false → o ≡ record o { maps = Job; mode = record o.mode { conflicts = false } }
as_plain o job none = ap₂ (λ m k. record o { maps = m; mode = record o.mode { conflicts = k } }) job none

pub returns-clause-read : goal.returns-clause-read
returns-clause-read c =
    let o = c.in_ok-options.options in
    let words = words_of_verb c.args.verb (verb_data c.args.words) in
    let parsed : AreOptionsOf words o = subst (λ w. AreOptionsOf w o) (ap names_text c.as_slice.ensures.value ∙ c.in_ok-plain.ensures) c.in_ok-options.ensures.parsed in
    record {
      maps = c.maps_of-options.ensures;
      conflicts = c.has_conflicts-options.ensures;
      plain = subst (AreOptionsOf words) (as_plain o parsed.read.maps parsed.read.mode.conflicts) parsed;
    }

pub returns-in_err-options-clause-fault : goal.returns-in_err-options-clause-fault
returns-in_err-options-clause-fault c =
    let p = err_from_is_err_and c.from_residual-in_err-options.result c.from_residual-in_err-options.ensures.1 in
    rw (p.1, p.2) (subst (λ w. IsFaultIn w c.in_err-options.field-0.0) (ap names_text c.as_slice.ensures.value ∙ c.in_ok-plain.ensures) c.in_err-options.ensures.fault)
