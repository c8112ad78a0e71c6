use Rattle.std.proofs.Common.{◌≡◌, ◌++◌, take}
use Rattle.std.specs.Prelude.{flat_map}
use Rattle.crush_compare.specs.Comparison.{pair_entries}
use Rattle.crush_json.specs.PairDocument.{pair_change}
use Rattle.crush_json.specs.Tokens.{tokens_of_all}
use Rattle.crush_json.proofs.changes.push_each.Given as goal

abbrev pub invariant-loop-pair : goal.invariant-loop-pair
invariant-loop-pair g l =
    l.out ≡ l.fn.out ++ flat_map (λ p. tokens_of_all (pair_change l.both.identity l.both.old.map.now.setting l.both.new.map.now.setting (pair_entries l.both p))) (take l.pair-index l.pairs)
