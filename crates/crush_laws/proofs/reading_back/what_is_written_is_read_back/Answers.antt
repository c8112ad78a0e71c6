use Rattle.crush_laws.proofs.HistoryComments.{history_lines_are_comments, written_is_read_back}
use Rattle.crush_laws.proofs.JobTexts.{history_texts_are_read_back, jobs_stay_lawful, job_texts_are_read_back, job_maps_are_read_back}
use Rattle.crush_laws.proofs.RunOn.{job_texts_run_on}
use Rattle.crush_laws.proofs.reading_back.what_is_written_is_read_back.Goals as goal

pub returns : goal.returns
returns c = record {
  comments = history_lines_are_comments;
  read = written_is_read_back;
  history = history_texts_are_read_back;
  lawful = jobs_stay_lawful;
  job = job_texts_are_read_back;
  map = job_maps_are_read_back;
  on = job_texts_run_on;
}
