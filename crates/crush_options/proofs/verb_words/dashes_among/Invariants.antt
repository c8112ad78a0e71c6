use Rattle.std.proofs.Common.{◌≡◌, ◌≤◌, map, take}
use Rattle.std.specs.List.{count_by}
use Rattle.crush_options.specs.Verbs.{is_dash}
use Rattle.crush_options.proofs.verb_words.dashes_among.Given as goal

-- the names so far are counted
abbrev pub invariant-loop-name : goal.invariant-loop-name
invariant-loop-name l = (l.count ≡ count_by is_dash (map (λ name. name.now) (take l.name-index l.names))) × (l.count ≤ l.name-index)
