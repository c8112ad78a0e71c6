use Rattle.crush_script.proofs.MapTexts.{map_texts_have_no_section}
use Rattle.crush_script.proofs.ScriptTexts.{jobs_are_read_back}
use Rattle.crush_script.proofs.SaidJobs.{read_scripts_are_such}
use Rattle.crush_script.proofs.law.scripts_are_read_back.Goals as goal

pub returns : goal.returns
returns c = record { map = map_texts_have_no_section; read = jobs_are_read_back; such = read_scripts_are_such }
