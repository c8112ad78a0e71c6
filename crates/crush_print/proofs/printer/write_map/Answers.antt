use Rattle.crush_units.proofs.Appending.{nothing_is_less}
use Rattle.crush_print.proofs.SameText.{map_text_is_some}
use Rattle.crush_print.proofs.printer.write_map.Goals as goal

-- if memory runs out, nothing is written
pub returns-in_default-clause-writes : goal.returns-in_default-clause-writes
returns-in_default-clause-writes g c = λ t stands. nothing_is_less _ _ (map_text_is_some c.args.form c.args.map.now.setting t)
