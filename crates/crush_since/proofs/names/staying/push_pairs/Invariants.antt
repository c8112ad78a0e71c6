use Rattle.std.proofs.Common.{◌≡◌, ◌++◌, take}
use Rattle.std.specs.Prelude.{flat_map}
use Rattle.crush_compare.specs.Comparison.{pair_items}
use Rattle.crush_since.specs.Stays.{line_texts, stay_pair}
use Rattle.crush_since.proofs.names.staying.push_pairs.Given as goal

-- the lines appended so far are those of the pairs visited so far
abbrev pub invariant-loop-pair : goal.invariant-loop-pair
invariant-loop-pair g l = line_texts l.lines.items ≡ line_texts l.fn.lines.items ++ flat_map (λ p. stay_pair l.both.old.map.now.setting l.both.new.map.now.setting (pair_items l.both p)) (take l.pair-index l.pairs)
