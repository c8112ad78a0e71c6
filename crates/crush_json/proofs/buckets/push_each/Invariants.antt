use Rattle.std.proofs.Common.{◌≡◌, ◌++◌, take}
use Rattle.std.specs.Prelude.{flat_map}
use Rattle.crush_json.specs.ItemDocuments.{own_document}
use Rattle.crush_json.specs.Tokens.{tokens_of}
use Rattle.crush_json.proofs.buckets.push_each.Given as goal

abbrev pub invariant-loop-bucket : goal.invariant-loop-bucket
invariant-loop-bucket g l = l.out ≡ l.fn.out ++ flat_map (λ b. tokens_of (own_document l.setting b.now)) (take l.bucket-index l.buckets)
