use Rattle.std.proofs.Common.{◌∙◌, ◌++◌, List, ℕ, ap, sym}
use Rattle.std.specs.Prelude.{Some}
use Rattle.crush_units.proofs.Appending.{appends_nothing}
use Rattle.crush_since.specs.Since.{plain_map}
use Rattle.crush_since.specs.SinceNames.{since_names_part}
use Rattle.crush_since.proofs.WrittenLaws.{written}
use Rattle.crush_since.proofs.names.since.write_since_by_name_part.Goals as goal

pub returns-in-Ok-clause-writes : goal.returns-in-Ok-clause-writes
returns-in-Ok-clause-writes g c = λ t u a b.
    let text = since_names_part (Some c.args.under.now) (plain_map c.args.old.now.setting t) (plain_map c.args.new.now.setting u) in
    rw (sym (c.as_slice.ensures.value ∙ c.in-Ok.ensures t u a b ∙ ap (λ (l : List ℕ). l ++ text) c.new-text.ensures.items)) (written _ _ _ _ c.put.ensures.fault c.put.ensures.writes)

-- if memory runs out, nothing is written
pub returns-clause-writes : goal.returns-clause-writes
returns-clause-writes g c = λ t u a b. appends_nothing _
