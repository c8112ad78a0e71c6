use Rattle.std.proofs.Common.{◌≡◌, ◌++◌, codes, map, take}
use Rattle.crush_options.specs.Options.{names_text}
use Rattle.crush_options.proofs.verb_words.push_scripts.Given as goal

-- the words for the names so far are appended
abbrev pub invariant-loop-name : goal.invariant-loop-name
invariant-loop-name l = names_text l.plain.items ≡ names_text l.initial.plain.items ++ map (λ name. codes "--script=" ++ name.now) (take l.name-index l.scripts)
