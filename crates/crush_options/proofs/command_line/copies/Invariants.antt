use Rattle.std.proofs.Common.{◌≡◌, map, take}
use Rattle.crush_options.specs.Options.{names_text}
use Rattle.crush_options.proofs.command_line.copies.Given as goal

-- the names so far are copied
abbrev pub invariant-loop-name : goal.invariant-loop-name
invariant-loop-name l = names_text l.copies.items ≡ map (λ name. name.now) (take l.name-index l.names)
