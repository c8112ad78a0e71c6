-- The steps that were read lead to the rest of the text.
use Rattle.std.proofs.Common.{◌≡◌, ◌≤◌, length}
use Rattle.crush_builder.specs.Built.{Draft}
use Rattle.crush_builder.specs.Building.{IsDraft}
use Rattle.crush_builder.specs.Rules.{kept_rule}
use Rattle.crush_text.specs.Form.{ruled, at, passing}
use Rattle.crush_text.specs.Flow.{between}
use Rattle.crush_text.specs.Reads.{LeadsOn}
use Rattle.crush_text.specs.ReadsRules.{left_by, IsRightSoFar}
use Rattle.crush_text.proofs.reader.MapReader.steps.Given as goal

abbrev pub invariant-steps : goal.invariant-steps
invariant-steps g l = record {
  right : IsRightSoFar l.self.builder l.rule;
  kept : l.self.builder ≡ l.fn.self.builder;
  shorter : length l.self.text.words ≤ length l.fn.self.text.words;
  reads : (d : Draft) → IsDraft l.fn.self.builder d → LeadsOn (between (passing (left_by l.fn.rule) (at (ruled (kept_rule d l.fn.rule)) d))) l.fn.self.text (between (passing (left_by l.rule) (at (ruled (kept_rule d l.rule)) d))) l.self.text;
}

abbrev pub decreases-steps : goal.decreases-steps
decreases-steps g l = length l.self.text.words
