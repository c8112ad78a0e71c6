use Rattle.crush_json.specs.PlanDocument.{line_value}
use Rattle.crush_json.specs.Tokens.{tokens_of_all}
use Rattle.crush_since.specs.Stays.{line_texts}
use Rattle.std.proofs.Common.{map, take, ◌++◌, ◌≡◌}
use Rattle.crush_json.proofs.stays.push_lines.Given as goal

abbrev pub invariant-loop-line : goal.invariant-loop-line
invariant-loop-line l = l.out ≡ l.fn.out ++ tokens_of_all (map line_value (line_texts (take l.line-index l.rest)))
