use Rattle.std.proofs.Common.{◌≡◌, ap, refl, sym, ◌∙◌}
use Rattle.std.specs.Prelude.{Some}
use Rattle.crush_edits.specs.declared.edit.Placing.{Placing}
use Rattle.crush_edits.specs.declared.edit.Placing.TheVariants.{Insert, CreateOrMove, Update}
use Rattle.crush_edits.specs.declared.keyword.Keyword.TheVariants as key
use Rattle.crush_edits.specs.Keyword.{keyword_of, placing_word}
use Rattle.crush_edits.proofs.keyword.Keyword.word.Goals as goal

-- the word of a command that places a device is read as this command
placing_read : (how : Placing) → keyword_of (placing_word how) ≡ Some (key.Place how)
unfolding keyword_of
placing_read Insert = refl
placing_read CreateOrMove = refl
placing_read Update = refl

pub returns-in-Place-clause-read : goal.returns-in-Place-clause-read
returns-in-Place-clause-read c = ap keyword_of c.word.ensures ∙ placing_read c.in-Place.how ∙ ap Some (sym c.in-Place.is)
