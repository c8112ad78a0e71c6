use Rattle.std.proofs.Common.{◌≡◌, ◌++◌, take}
use Rattle.crush_nodes.specs.Seen.{items_of}
use Rattle.crush_json.specs.ItemDocuments.{placed_documents}
use Rattle.crush_json.specs.Tokens.{tokens_of_all}
use Rattle.crush_json.proofs.buckets.push_each_item.Given as goal

abbrev pub invariant-loop-place : goal.invariant-loop-place
invariant-loop-place g l = l.out ≡ l.fn.out ++ tokens_of_all (placed_documents 0 (items_of (take l.place l.items)))
