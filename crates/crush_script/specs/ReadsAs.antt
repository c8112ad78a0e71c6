-- How the result of a function that reads words agrees with the result of its definition: both are the same, unless the function runs out of memory.
use Rattle.std.specs.Prelude.{◌≡◌, ℕ, List, Result, Ok, Err}
use Rattle.crush_script.specs.declared.command.LineFault.{LineFault}
use Rattle.crush_script.specs.declared.command.LineFault.TheVariants.{OutOfMemory}
use Rattle.crush_script.specs.Command.{Read}

-- the result of the function is the first argument. It is the same as `given`, the result of the definition, or it says that memory ran out
abbrev pub ReadsAs : {X : Type 0} → Result X LineFault → Result X LineFault → Type 0
ReadsAs (Ok x) given = given ≡ Ok x
ReadsAs (Err OutOfMemory) given = Unit {0}
ReadsAs (Err fault) given = given ≡ Err fault

-- the same for a definition that also gives the words after the value. If the function succeeds, the words that it leaves unread are `left`, and these are the words of the definition
abbrev pub ReadsAndLeaves : {X : Type 0} → Result X LineFault → List (List ℕ) → Result (Read X) LineFault → Type 0
ReadsAndLeaves (Ok x) left given = given ≡ Ok (record { value = x; rest = left })
ReadsAndLeaves (Err OutOfMemory) left given = Unit {0}
ReadsAndLeaves (Err fault) left given = given ≡ Err fault
