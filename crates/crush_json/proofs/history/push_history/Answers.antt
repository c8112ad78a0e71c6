use Rattle.crush_history.specs.HistoryText.{names_of}
use Rattle.crush_history.specs.Script.{scripts_data}
use Rattle.crush_json.specs.HistoryDocument.{entry_documents, history_document}
use Rattle.crush_json.proofs.Listed.{array_done}
use Rattle.crush_json.proofs.history.push_history.Goals as goal

pub returns : goal.returns
unfolding history_document
returns c =
    array_done (entry_documents (names_of (scripts_data c.args.history.scripts.now)) 1 c.args.history.entries.now) c.end_array.result c.args.out.now c.begin_array.new.self c.push_entries.new.out c.end_array.new.self
    c.in_ok-begin_array.ensures c.in_ok-push_entries.ensures c.end_array.ensures
