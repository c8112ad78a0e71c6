-- The statements that were read lead to the rest of the text.
use Rattle.std.proofs.Common.{length}
use Rattle.crush_builder.specs.Built.{Draft}
use Rattle.crush_builder.specs.Building.{IsDraft}
use Rattle.crush_text.specs.Form.{first, at}
use Rattle.crush_text.specs.Flow.{between}
use Rattle.crush_text.specs.Reads.{LeadsOn}
use Rattle.crush_text.specs.ReadsLines.{IsIdle, ending}
use Rattle.crush_text.specs.ReadsStatements.{behind}
use Rattle.crush_text.proofs.reader.MapReader.statements.Given as goal

abbrev pub invariant-statements : goal.invariant-statements
invariant-statements g l = record {
  idle : IsIdle l.self.builder;
  reads : (d : Draft) → IsDraft l.fn.self.builder d → (e : Draft) × IsDraft l.self.builder e × LeadsOn (between (at first d)) l.fn.self.text (between (ending (behind l.before) e)) l.self.text;
}

abbrev pub decreases-statements : goal.decreases-statements
decreases-statements g l = length l.self.text.words
