-- The class ids that were read lead to the rest of the text.
use Rattle.std.proofs.Common.{◌≤◌, length}
use Rattle.crush_builder.specs.Built.{Draft}
use Rattle.crush_builder.specs.Building.{IsDraft, is_numbered}
use Rattle.crush_text.specs.Form.{numbered, at}
use Rattle.crush_text.specs.Flow.{between}
use Rattle.crush_text.specs.Reads.{LeadsOn}
use Rattle.crush_text.specs.ReadsLines.{IsAmid}
use Rattle.crush_text.proofs.reader.MapReader.class_ids.Given as goal

abbrev pub invariant-ids : goal.invariant-ids
invariant-ids g l = record {
  part : IsAmid is_numbered l.self.builder;
  shorter : length l.self.text.words ≤ length l.fn.self.text.words;
  reads : (d : Draft) → IsDraft l.fn.self.builder d → (e : Draft) × IsDraft l.self.builder e × LeadsOn (between (at numbered d)) l.fn.self.text (between (at numbered e)) l.self.text;
}

abbrev pub decreases-ids : goal.decreases-ids
decreases-ids g l = length l.self.text.words
