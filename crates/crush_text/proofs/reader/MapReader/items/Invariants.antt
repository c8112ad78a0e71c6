-- The lines of items that were read lead to the rest of the text.
use Rattle.std.proofs.Common.{◌≤◌, false, length}
use Rattle.crush_builder.specs.Built.{Draft}
use Rattle.crush_builder.specs.Building.{IsDraft, is_filling}
use Rattle.crush_text.specs.Form.{filling, at, passing}
use Rattle.crush_text.specs.Flow.{between}
use Rattle.crush_text.specs.Reads.{LeadsOn}
use Rattle.crush_text.specs.ReadsLines.{IsAmid}
use Rattle.crush_text.proofs.reader.MapReader.items.Given as goal

abbrev pub invariant-items : goal.invariant-items
invariant-items g l = record {
  part : IsAmid is_filling l.self.builder;
  shorter : length l.self.text.words ≤ length l.fn.self.text.words;
  reads : (d : Draft) → IsDraft l.fn.self.builder d → (e : Draft) × IsDraft l.self.builder e × LeadsOn (between (passing l.fn.or (at (filling false) d))) l.fn.self.text (between (passing l.left (at (filling l.any) e))) l.self.text;
}

abbrev pub decreases-items : goal.decreases-items
decreases-items g l = length l.self.text.words
