use Rattle.crush_edits.specs.EditText.{pair_word}
use Rattle.crush_json.specs.Tokens.{tokens_of}
use Rattle.serde_json.specs.Data.{string}
use Rattle.std.proofs.Common.{take, ◌++◌, ◌≡◌}
use Rattle.std.specs.Prelude.{flat_map}
use Rattle.crush_json.proofs.commands.push_each_pair.Given as goal

abbrev pub invariant-loop-pair : goal.invariant-loop-pair
invariant-loop-pair l = l.out ≡ l.fn.out ++ flat_map (λ p. tokens_of (string (pair_word p))) (take l.pair-index l.pairs)
