use Rattle.std.proofs.Common.{◌≡◌, ◌++◌, take}
use Rattle.std.specs.Prelude.{codes, flat_map}
use Rattle.crush_since.proofs.names.lines.push_stays.Given as goal

-- the text appended so far is that of the lines visited so far
abbrev pub invariant-loop-line : goal.invariant-loop-line
invariant-loop-line l = l.text.items ≡ l.fn.text.items ++ flat_map (λ line. line.items ++ codes "\n") (take l.line-index l.lines)
