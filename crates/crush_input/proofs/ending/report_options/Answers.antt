use Rattle.std.proofs.Common.{List, [], Option, ℕ, refl, sym, ◌∙◌}
use Rattle.std.proofs.lemmas.List.{append-nil}
use Rattle.crush_units.specs.Writes.{AppendsPrefix}
use Rattle.crush_units.proofs.Appending.{appends_nothing}
use Rattle.crush_input.proofs.ending.report_options.Goals as goal

-- the empty text is a prefix of each text
no_prefix : (old : Option (List ℕ)) (text : List ℕ) → AppendsPrefix old old text
no_prefix old text = ([], text, refl, appends_nothing old)

pub returns-in-Ok-clause-out : goal.returns-in-Ok-clause-out
returns-in-Ok-clause-out g c =
    rw c.in-Help.is (c.as_bytes.result.now, [], sym c.as_bytes.ensures.value ∙ sym (append-nil c.as_bytes.result.now), c.in-Ok.ensures.writes)

pub returns-in-Ok-clause-line : goal.returns-in-Ok-clause-line
returns-in-Ok-clause-line g c = rw c.in-Help.is (no_prefix _ _)
