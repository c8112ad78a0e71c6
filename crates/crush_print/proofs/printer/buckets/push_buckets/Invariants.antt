use Rattle.std.proofs.Common.{◌≡◌, ◌++◌, take}
use Rattle.std.specs.Prelude.{flat_map}
use Rattle.crush_print.specs.ItemsText.{own_text}
use Rattle.crush_print.proofs.printer.buckets.push_buckets.Given as goal

abbrev pub invariant-loop-bucket : goal.invariant-loop-bucket
invariant-loop-bucket g l = l.out.items ≡ l.fn.out.items ++ flat_map (λ b. own_text l.form l.setting b.now) (take l.bucket-index l.buckets)
