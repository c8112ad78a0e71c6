use Rattle.std.proofs.Common.{◌≡◌, ◌++◌, take}
use Rattle.std.specs.Prelude.{flat_map}
use Rattle.crush_print.specs.MapText.{kind_text}
use Rattle.crush_json.specs.MapDocument.{kind_document}
use Rattle.crush_json.specs.Tokens.{tokens_of}
use Rattle.crush_json.proofs.kinds.push_each.Given as goal

abbrev pub invariant-loop-number : goal.invariant-loop-number
invariant-loop-number l = l.out ≡ l.fn.out ++ flat_map (λ n. tokens_of (kind_document n (kind_text l.setting n))) (take l.number-index l.numbers)
