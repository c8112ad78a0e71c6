use Rattle.crush_model.proofs.Forms.{placed_row, placed_device}
use Rattle.crush_model.proofs.law.placed_rows_keep_their_form.Goals as goal

pub returns : goal.returns
returns c = record { row = placed_row; device = placed_device }
