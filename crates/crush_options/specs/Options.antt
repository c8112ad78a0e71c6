-- Which options the words of a plain command line ask for, and the fault if the words start no run. A plain command line is one that doesn't begin with a verb. The *parsed words* are the rows that the parser `clap` makes from the words.
use Rattle.std.specs.Prelude.{◌≡◌, ◌≢◌, ◌⊎◌, ◌<◌, ◌≤◌, true, false, not, List, [], length, map, Option, Some, None, codes, unwrap_or, String}
use Rattle.clap.specs.declared.builder.action.ArgAction.TheVariants.{Set, SetTrue, Append}
use Rattle.clap.specs.declared.error.kind.ErrorKind.{ErrorKind}
use Rattle.clap.specs.declared.error.kind.ErrorKind.TheVariants.{DisplayHelp, DisplayVersion, OutOfMemory}
use Rattle.clap.specs.Words.{App, IsAmong, Kinds, Row, Rule, Text, all_of, fault_of, first_of, matches_of, new_app, new_rule, one_of, with_rule}
use Rattle.crush_options.specs.declared.parsed_options.MapForm.TheVariants.{Job}
use Rattle.crush_options.specs.declared.parsed_options.Mode.{Mode}
use Rattle.crush_options.specs.declared.parsed_options.Options.{Options}
use Rattle.crush_options.specs.declared.parsed_options.OptionsFault.{OptionsFault}
use Rattle.crush_options.specs.declared.parsed_options.OptionsFault.TheVariants.{Help, Refused, Memory}
use Rattle.crush_options.specs.declared.command_line.TheConstants.{MOST_SCRIPTS}
use Rattle.crush_options.specs.OutputFlags.{AreApart, IsFlag, IsOutputSpec, name_text}

-- a flag `--NAME`, which has no value
abbrev pub flag : Text → Rule
flag name = record (new_rule name) { long = Some name; action = Some SetTrue }

-- an option `--NAME VALUE`, which can be given at most once
abbrev pub option : Text → Rule
option name = record (new_rule name) { long = Some name; action = Some Set; value_names = 1 }

-- the option `-s SCRIPT` or `--script SCRIPT`, which can be given several times
abbrev pub scripts : Rule
scripts = record (new_rule (codes "script")) { long = Some (codes "script"); short = Some 115; action = Some Append; value_names = 1 }

-- the option `-o FILE` or `--output FILE`, which can be given at most once
abbrev pub output : Rule
output = record (new_rule (codes "output")) { long = Some (codes "output"); short = Some 111; action = Some Set; value_names = 1 }

-- the argument `FILE`, which can be given at most once
abbrev pub file : Rule
file = record (new_rule (codes "FILE")) { action = Some Set }

-- the program's command line before flags, options and arguments are added to this command line. The words that are parsed don't include the program's name. A word can ask for the program's version
abbrev pub named : App
named = record (new_app (codes "crushedit")) { top = record (new_app (codes "crushedit")).top { no_binary_name = true; has_version = true } }

-- the command line with the flags that say how a job is run
abbrev pub with_modes : App
with_modes = with_rule (with_rule (with_rule (with_rule named (flag (codes "in-turn"))) (flag (codes "no-history"))) (flag (codes "strict"))) (flag (codes "no-make"))

-- `with_modes`, and the flags and options that say what is printed
abbrev pub with_output_flags : App
with_output_flags = with_rule (with_rule (with_rule (with_rule with_modes (flag (codes "tree"))) (option (codes "since"))) (flag (codes "as-ceph"))) (option (codes "to"))

-- `with_output_flags`, and four more: the flag that says how the items of two maps are matched, the flag for a JSON document, and the two options that say which items are printed
abbrev pub with_parts : App
with_parts = with_rule (with_rule (with_rule (with_rule with_output_flags (flag (codes "by-name"))) (flag (codes "json"))) (option (codes "under"))) (option (codes "down-to"))

-- `with_parts`, and four more: the option that names a class of devices, and three flags. If the option is given, only the devices of this class are counted. The flags say how weights are printed, whether the exit status reports a change, and whether standard error also says why something is an error
abbrev pub with_ends : App
with_ends = with_rule (with_rule (with_rule (with_rule with_parts (option (codes "class"))) (flag (codes "exact"))) (flag (codes "exit-code"))) (flag (codes "explain"))

-- THE COMMAND LINE: `[--in-turn] [--no-history] [--strict] [--no-make] [--tree] [--since MAP] [--as-ceph] [--to MAP] [--by-name] [--json]
-- [--under NAME] [--down-to TYPE] [--class CLASS] [--exact] [--exit-code] [--explain] [-s SCRIPT].. [-o FILE] [FILE]`
abbrev pub program : App
program = with_rule (with_rule (with_rule with_ends scripts) output) file

-- the bytes of each string in a list
abbrev pub names_text : {Z : Type 0} → List (String Z) → List Text
names_text names = map (λ name. name.bytes.items) names

-- all values that the parsed words give to the argument id; the empty list if the argument isn't given
abbrev pub all_named : Text → List Row → List Text
all_named id rows = unwrap_or (all_of id rows) []

-- the line `why` is a reason to refuse the words although the parser finds no error in them. There are two such reasons: some words can't be given together (`AreApart`), or more than MOST_SCRIPTS files with scripts are given
abbrev pub IsConflict : List Row → Text → Type 0
IsConflict rows why = AreApart rows why ⊎ ((MOST_SCRIPTS < length (all_named (codes "script") rows)) × (why ≡ codes "error: --script can be used at most 16 times\n"))

-- the mode is the one that the parsed words ask for. Each field says whether its flag is given, with two exceptions. The field `history` of the mode is false if and only if `--no-history` is given. The field `conflicts` of the mode is false, because no flag of a plain command line asks for a search for lost changes
pub record IsModeOf (rows : List Row) (mode : Mode) : Type 0 where
  pub in_turn : IsFlag (one_of (codes "in-turn") rows) mode.in_turn
  pub history : IsFlag (one_of (codes "no-history") rows) (not mode.history)
  pub strict : IsFlag (one_of (codes "strict") rows) mode.strict
  pub no_make : IsFlag (one_of (codes "no-make") rows) mode.no_make
  pub exit_code : IsFlag (one_of (codes "exit-code") rows) mode.exit_code
  pub explain : IsFlag (one_of (codes "explain") rows) mode.explain
  pub json : IsFlag (one_of (codes "json") rows) mode.json
  pub exact : IsFlag (one_of (codes "exact") rows) mode.exact
  pub conflicts : mode.conflicts ≡ false

-- the options are those that the parsed words ask for: how the job is run, what is printed, the names of at most MOST_SCRIPTS files with scripts, the name of the job's file, and the name of the file that the output replaces. Last, `maps` says that the first file must contain a job
pub record AreRead (rows : List Row) (options : Options) : Type 0 where
  pub mode : IsModeOf rows options.mode
  pub output_spec : IsOutputSpec rows options.mode.json options.mode.exact options.output_spec
  pub scripts : names_text options.scripts.items ≡ all_named (codes "script") rows
  pub few : length options.scripts.items ≤ MOST_SCRIPTS
  pub file : name_text options.file ≡ first_of (codes "FILE") rows
  pub output : name_text options.output ≡ first_of (codes "output") rows
  pub maps : options.maps ≡ Job

-- the parser finds no error in the words, and the options are those that the words ask for
pub record AreOptionsOf (words : List Text) (options : Options) : Type 0 where
  pub right : fault_of program words ≡ []
  pub read : AreRead (matches_of program words) options

-- a fault that is possible if the parser finds no error in the words: a refusal with a reason that `IsConflict` allows, or out of memory, but never the help
abbrev pub IsConflictFault : List Row → OptionsFault → Type 0
IsConflictFault rows (Help text) = ⊥
IsConflictFault rows (Refused text) = IsConflict rows text.bytes.items
IsConflictFault rows Memory = Unit {0}

-- the fault is a refusal with the text `why`, or out of memory
abbrev pub IsRefusedFor : Text → OptionsFault → Type 0
IsRefusedFor why (Help text) = ⊥
IsRefusedFor why (Refused text) = text.bytes.items ≡ why
IsRefusedFor why Memory = Unit {0}

-- if there is a reason to refuse, the fault is a refusal for this reason, or out of memory; otherwise the fault is out of memory
abbrev pub IsRefusedIf : Option Text → OptionsFault → Type 0
IsRefusedIf (Some why) fault = IsRefusedFor why fault
IsRefusedIf None fault = fault ≡ Memory

-- the fault is possible for an error of the parser of this kind. If a word asks for the help or the version, the kind of the error says so, and the fault is `Help`. For any other kind except out of memory, the fault is a refusal. For each kind, the fault can also be out of memory, because the text of the fault needs memory
abbrev pub IsFaultOf : ErrorKind → OptionsFault → Type 0
IsFaultOf kind (Help text) = (kind ≡ DisplayHelp) ⊎ (kind ≡ DisplayVersion)
IsFaultOf kind (Refused text) = (kind ≢ DisplayHelp) × (kind ≢ DisplayVersion) × (kind ≢ OutOfMemory)
IsFaultOf kind Memory = Unit {0}

-- the fault is possible for an error of at least one of these kinds
pub record HasFault (kinds : Kinds) (fault : OptionsFault) : Type 0 where
  pub kind : ErrorKind
  pub among : IsAmong kind kinds
  pub told : IsFaultOf kind fault

-- the parser finds no error in the words, but the line `why` is a reason to refuse them (`IsConflict`)
pub record HaveConflict (words : List Text) (why : Text) : Type 0 where
  pub right : fault_of program words ≡ []
  pub much : IsConflict (matches_of program words) why

-- the fault is possible for a plain command line. `Help` is possible if a word asks for the help or the version. A refusal is possible if the parser finds an error in the words, or if there is a reason that `IsConflict` allows. Out of memory is always possible
abbrev pub IsFaultIn : List Text → OptionsFault → Type 0
IsFaultIn words (Help text) = HasFault (fault_of program words) (Help text)
IsFaultIn words (Refused text) = HasFault (fault_of program words) (Refused text) ⊎ HaveConflict words text.bytes.items
IsFaultIn words Memory = Unit {0}
