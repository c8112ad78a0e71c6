use Rattle.crush_json.proofs.Listed.{array_done}
use Rattle.crush_json.specs.PlanDocument.{line_value, stays_document}
use Rattle.crush_since.specs.Stays.{line_texts}
use Rattle.std.proofs.Common.{map}
use Rattle.crush_json.proofs.stays.push_stays.Goals as goal

pub returns : goal.returns
unfolding stays_document
returns c =
    array_done (map line_value (line_texts c.args.rest.now)) c.end_array.result c.args.out.now c.begin_array.new.self c.push_lines.new.out c.end_array.new.self c.in_ok-begin_array.ensures c.in_ok-push_lines.ensures c.end_array.ensures
