-- The output and the status for a command line that starts no run.
use Rattle.std.specs.Prelude.{◌≡◌, ◌⊎◌, ℕ, List, [], Option}
use Rattle.std.specs.Io.KnownBytes.{Appends, Keeps}
use Rattle.crush_units.specs.Writes.{AppendsLess}
use Rattle.crush_options.specs.declared.parsed_options.OptionsFault.{OptionsFault}
use Rattle.crush_options.specs.declared.parsed_options.OptionsFault.TheVariants.{Help, Refused, Memory}
use Rattle.crush_input.specs.Report.{run_fault}
use Rattle.crush_input.specs.Words.{no_words}
use Rattle.crush_input.specs.declared.fault.RunFault.TheVariants as run

-- the status: 2 if the command line was rejected, and 4 if memory ran out. If the help or the version was requested: 0 if all of it was written, and 3 if writing it failed (`IsHelpWhole`)
abbrev pub IsOptionsStatus : OptionsFault → ℕ → Type 0
IsOptionsStatus (Help text) status = (status ≡ 0) ⊎ (status ≡ 3)
IsOptionsStatus (Refused text) status = status ≡ 2
IsOptionsStatus Memory status = status ≡ 4

-- the text for standard output: the help or the version if it was requested, otherwise nothing
abbrev pub options_output : OptionsFault → List ℕ
options_output (Help text) = text.bytes.items
options_output (Refused text) = []
options_output Memory = []

-- the text for standard error. For the help it is the line of a failed write, which is needed only if writing the help fails.
abbrev pub options_error : OptionsFault → List ℕ
options_error (Help text) = run_fault no_words run.Write
options_error (Refused text) = text.bytes.items
options_error Memory = run_fault no_words run.Memory

-- if the help or the version was requested and the status is 0, then standard output has received all of its text, and standard error has received nothing. If the status is 3, then standard output has received less than all of the text
abbrev pub IsHelpWhole : OptionsFault → ℕ → Option (List ℕ) → Option (List ℕ) → Option (List ℕ) → Option (List ℕ) → Type 0
IsHelpWhole (Help text) status out new_out err new_err = (status ≡ 0 → Appends out new_out text.bytes.items × Keeps err new_err) × (status ≡ 3 → AppendsLess out new_out text.bytes.items)
IsHelpWhole fault status out new_out err new_err = Unit {0}
