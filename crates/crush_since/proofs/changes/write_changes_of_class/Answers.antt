use Rattle.std.proofs.Common.{◌∙◌, ◌++◌, List, ℕ, ap, sym}
use Rattle.crush_units.proofs.Appending.{nothing_is_less}
use Rattle.crush_since.specs.ClassChanges.{class_changes_text}
use Rattle.crush_since.specs.Since.{plain_map}
use Rattle.crush_since.proofs.ClassChangeLaws.{class_text_is_some}
use Rattle.crush_since.proofs.changes.write_changes_of_class.Goals as goal

pub returns-in-Ok-clause-writes : goal.returns-in-Ok-clause-writes
returns-in-Ok-clause-writes g c = λ t u a b.
    let text = class_changes_text c.args.part c.args.class.now (plain_map c.args.old.now.setting t) (plain_map c.args.new.now.setting u) in
    rw (sym (c.as_slice.ensures.value ∙ c.in-Ok.ensures t u a b ∙ ap (λ (l : List ℕ). l ++ text) c.new-text.ensures.items)) c.put.ensures.writes

-- out of memory, nothing is written
pub returns-clause-writes : goal.returns-clause-writes
returns-clause-writes g c = λ t u a b. nothing_is_less _ _ (class_text_is_some c.args.part c.args.class.now (plain_map c.args.old.now.setting t) (plain_map c.args.new.now.setting u))
