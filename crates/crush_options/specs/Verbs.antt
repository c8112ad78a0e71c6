-- The verbs: which words the command line of each verb can have, and for which plain command line it is short. (A plain command line is one that doesn't begin with a verb.)
use Rattle.std.specs.Prelude.{◌≡◌, ◌⊎◌, ◌+◌, ◌++◌, ◌&&◌, ◌||◌, Bool, true, false, not, ℕ, List, [], ◌∷◌, Option, Some, None, codes, if◌then◌else◌, is_some, map, nat_lt, option_map, drop}
use Rattle.std.specs.List.{count_by}
use Rattle.std.specs.Str.{bytes_eq}
use Rattle.clap.specs.Lexer.{usize_max}
use Rattle.clap.specs.declared.builder.action.ArgAction.TheVariants.{Set, Append}
use Rattle.clap.specs.Words.{App, Row, Rule, Text, fault_of, first_of, matches_of, new_app, new_rule, one_of, with_rule}
use Rattle.crush_options.specs.declared.parsed_options.MapForm.{MapForm}
use Rattle.crush_options.specs.declared.parsed_options.MapForm.TheVariants as form
use Rattle.crush_options.specs.declared.parsed_options.Options.{Options}
use Rattle.crush_options.specs.declared.parsed_options.OptionsFault.{OptionsFault}
use Rattle.crush_options.specs.declared.parsed_options.OptionsFault.TheVariants.{Memory}
use Rattle.crush_options.specs.declared.verbs.Verb.{Verb}
use Rattle.crush_options.specs.declared.verbs.Verb.TheVariants.{Apply, Diff, Plan, Tree}
use Rattle.crush_options.specs.declared.verb_words.VerbWords.{VerbWords}
use Rattle.crush_options.specs.Options.{AreOptionsOf, HasFault, IsFaultIn, IsRefusedFor, all_named, flag, option, output}
use Rattle.crush_options.specs.OutputFlags.{IsFlag}

-- an argument that must be given exactly once
abbrev pub needed : Text → Rule
needed name = record (new_rule name) { action = Some Set; required = true }

-- the argument `[SCRIPT]..`, which can be given any number of times
abbrev pub more_scripts : Rule
more_scripts = record (new_rule (codes "SCRIPT")) { action = Some Append; range = Some (record { start_inclusive = 0; end_inclusive = usize_max }) }

-- a verb's command line before flags, options and arguments are added to this command line. The words that are parsed don't include the verb. No word asks for the version
abbrev pub verb_of : Text → App
verb_of name = record (new_app name) { top = record (new_app name).top { no_binary_name = true } }

-- `apply` with the flags that no other verb has, and with `--tree`
abbrev pub apply_flags : App
apply_flags = with_rule (with_rule (with_rule (with_rule (verb_of (codes "crushedit apply")) (flag (codes "dry-run"))) (flag (codes "make"))) (flag (codes "last-wins"))) (flag (codes "tree"))

-- `apply_flags`, and four words that need `--dry-run`. Three of them say what a dry run prints, and `--exit-code` lets the exit status report a change
abbrev pub apply_shown : App
apply_shown = with_rule (with_rule (with_rule (with_rule apply_flags (flag (codes "json"))) (option (codes "under"))) (option (codes "down-to"))) (flag (codes "exit-code"))

-- APPLY: `[--dry-run] [--make] [--last-wins] [--tree] [--json] [--under NAME] [--down-to TYPE] [--exit-code] [-o FILE] MAP [SCRIPT]..`
abbrev pub apply : App
apply = with_rule (with_rule (with_rule apply_shown output) (needed (codes "MAP"))) more_scripts

-- `diff` with the first four of its flags and options, which say what is printed and how items are matched
abbrev pub diff_shown : App
diff_shown = with_rule (with_rule (with_rule (with_rule (verb_of (codes "crushedit diff")) (flag (codes "tree"))) (flag (codes "json"))) (flag (codes "by-name"))) (option (codes "under"))

-- DIFF: `[--tree] [--json] [--by-name] [--under NAME] [--down-to TYPE] [--class CLASS] [--exit-code] [-o FILE] OLD NEW`
abbrev pub diff : App
diff = with_rule (with_rule (with_rule (with_rule (with_rule (with_rule diff_shown (option (codes "down-to"))) (option (codes "class"))) (flag (codes "exit-code"))) output) (needed (codes "OLD"))) (needed (codes "NEW"))

-- `plan` with the first four of its flags, which say how the plan is printed, whether a remaining difference is an error, and how buckets are matched
abbrev pub plan_shown : App
plan_shown = with_rule (with_rule (with_rule (with_rule (verb_of (codes "crushedit plan")) (flag (codes "as-ceph"))) (flag (codes "strict"))) (flag (codes "json"))) (flag (codes "by-name"))

-- PLAN: `[--as-ceph] [--strict] [--json] [--by-name] [--under NAME] [--exit-code] [-o FILE] MAP WANTED`
abbrev pub plan : App
plan = with_rule (with_rule (with_rule (with_rule (with_rule plan_shown (option (codes "under"))) (flag (codes "exit-code"))) output) (needed (codes "MAP"))) (needed (codes "WANTED"))

-- TREE: `[--json] [--under NAME] [--down-to TYPE] [--class CLASS] [-o FILE] MAP`
abbrev pub tree : App
tree = with_rule (with_rule (with_rule (with_rule (with_rule (with_rule (verb_of (codes "crushedit tree")) (flag (codes "json"))) (option (codes "under"))) (option (codes "down-to"))) (option (codes "class"))) output) (needed (codes "MAP"))

-- the command line of a verb
abbrev pub app_of_verb : Verb → App
app_of_verb Apply = apply
app_of_verb Diff = diff
app_of_verb Plan = plan
app_of_verb Tree = tree

-- the name of the argument for the map with which a run begins
abbrev pub map_argument : Verb → Text
map_argument Diff = codes "NEW"
map_argument verb = codes "MAP"

-- the name of the argument for the other map: OLD of `diff`, and WANTED of `plan`. The verbs `apply` and `tree` have no argument for another map. For them, the definition gives the name WANTED, which none of their arguments has
abbrev pub other_argument : Verb → Text
other_argument Diff = codes "OLD"
other_argument verb = codes "WANTED"

-- what the parser found on a verb's command line: which flags are given, and which values the options and arguments have. A flag that the verb doesn't have is false, and an option or argument that the verb doesn't have has no value. The fields `map`, `other` and `scripts` are names of files: of the map with which the run begins, of the other map, and of the scripts.
pub record VerbData : Type 0 where
  pub dry_run : Bool
  pub make : Bool
  pub last_wins : Bool
  pub tree : Bool
  pub json : Bool
  pub by_name : Bool
  pub as_ceph : Bool
  pub strict : Bool
  pub exit_code : Bool
  pub under : Option Text
  pub down_to : Option Text
  pub class : Option Text
  pub output : Option Text
  pub map : Option Text
  pub other : Option Text
  pub scripts : List Text

-- the parsed words of this verb give these flags, and these values of options and arguments
pub record AreVerbWords (verb : Verb) (rows : List Row) (words : VerbData) : Type 0 where
  pub dry_run : IsFlag (one_of (codes "dry-run") rows) words.dry_run
  pub make : IsFlag (one_of (codes "make") rows) words.make
  pub last_wins : IsFlag (one_of (codes "last-wins") rows) words.last_wins
  pub tree : IsFlag (one_of (codes "tree") rows) words.tree
  pub json : IsFlag (one_of (codes "json") rows) words.json
  pub by_name : IsFlag (one_of (codes "by-name") rows) words.by_name
  pub as_ceph : IsFlag (one_of (codes "as-ceph") rows) words.as_ceph
  pub strict : IsFlag (one_of (codes "strict") rows) words.strict
  pub exit_code : IsFlag (one_of (codes "exit-code") rows) words.exit_code
  pub under : first_of (codes "under") rows ≡ words.under
  pub down_to : first_of (codes "down-to") rows ≡ words.down_to
  pub class : first_of (codes "class") rows ≡ words.class
  pub output : first_of (codes "output") rows ≡ words.output
  pub map : first_of (map_argument verb) rows ≡ words.map
  pub other : first_of (other_argument verb) rows ≡ words.other
  pub scripts : all_named (codes "SCRIPT") rows ≡ words.scripts

-- the fields of the Rust type `VerbWords`, as data
abbrev pub verb_data : VerbWords → VerbData
verb_data w = record {
  dry_run = w.dry_run;
  make = w.make;
  last_wins = w.last_wins;
  tree = w.tree;
  json = w.json;
  by_name = w.by_name;
  as_ceph = w.as_ceph;
  strict = w.strict;
  exit_code = w.exit_code;
  under = option_map (λ name. name.now) w.under;
  down_to = option_map (λ name. name.now) w.down_to;
  class = option_map (λ name. name.now) w.class;
  output = option_map (λ name. name.now) w.output;
  map = option_map (λ name. name.now) w.map;
  other = option_map (λ name. name.now) w.other;
  scripts = map (λ name. name.now) w.scripts.now;
}

-- a list with only this word if the flag is given; otherwise the empty list
abbrev pub word_if : Bool → Text → List Text
word_if given word = if given then word ∷ [] else []

-- if there is a value, a list with one word, which has an option and its value, such as `--under=NAME`; otherwise the empty list. `start` is the part of the word before the value
abbrev pub word_with : Text → Option Text → List Text
word_with start None = []
word_with start (Some value) = (start ++ value) ∷ []

-- the words of a plain command line that say what is printed, how items are matched, and whether the exit status reports a change. The verb's command line has the same flags and options
abbrev pub shown_words : VerbData → List Text
shown_words w =
    word_if w.tree (codes "--tree") ++ (word_if w.json (codes "--json") ++ (word_if w.by_name (codes "--by-name") ++ (word_if w.as_ceph (codes "--as-ceph")
    ++ (word_with (codes "--under=") w.under ++ (word_with (codes "--down-to=") w.down_to ++ (word_with (codes "--class=") w.class
    ++ word_if w.exit_code (codes "--exit-code")))))))

-- the words of a plain command line with the names of files: the files of scripts, the file for the output, and the file of the map with which the run begins. The word `--` is before the last of these names, so that a name that begins with `-` isn't read as an option
abbrev pub file_words : VerbData → List Text
file_words w =
    map (λ name. codes "--script=" ++ name) w.scripts ++ (word_with (codes "--output=") w.output ++ (codes "--" ∷ word_with [] w.map))

-- the name of the file of the old map, from which `apply` prints the changes to the map after the scripts. With `--dry-run`, this file is MAP. Without `--dry-run`, `apply` prints no changes, and there is no name
abbrev pub since_of_apply : VerbData → Option Text
since_of_apply w = if w.dry_run then w.map else None

-- the words that the plain command line for `tree` always has, in addition to `--explain` and `--`
abbrev pub tree_words : List Text
tree_words = word_if true (codes "--no-history") ++ word_if true (codes "--tree")

-- the first words of the plain command line for which a verb's command line is short. Each verb has its own list of these words: some of them are always in the list, and the others depend on the flags of the verb and on the name of the file with the old or the wanted map
abbrev pub own_words : Verb → VerbData → List Text
own_words Apply w =
    word_if true (codes "--in-turn") ++ (word_if true (codes "--strict") ++ (word_if (not w.make) (codes "--no-make")
    ++ (word_if (not w.dry_run) (codes "--no-history") ++ (word_if (not w.dry_run) (codes "--exact") ++ word_with (codes "--since=") (since_of_apply w)))))
own_words Diff w = word_if true (codes "--no-history") ++ word_with (codes "--since=") w.other
own_words Plan w = word_if true (codes "--no-history") ++ (word_if w.strict (codes "--strict") ++ word_with (codes "--to=") w.other)
own_words Tree w = tree_words

-- WORDS OF A VERB: the words of the plain command line for which a verb's command line is short. This plain command line always has `--explain`
abbrev pub words_of_verb : Verb → VerbData → List Text
words_of_verb verb w = own_words verb w ++ (word_if true (codes "--explain") ++ (shown_words w ++ file_words w))

-- whether a name is `-`, which means standard input
abbrev pub is_dash : Text → Bool
is_dash name = bytes_eq name (codes "-")

-- 1 if there is a name and the name is `-`; otherwise 0
abbrev pub dashes_of : Option Text → ℕ
dashes_of None = 0
dashes_of (Some name) = if is_dash name then 1 else 0

-- how many of the files that a verb reads are standard input
abbrev pub dashes : VerbData → ℕ
dashes w = (dashes_of w.map + dashes_of w.other) + count_by is_dash w.scripts

-- whether at least one of the words that need `--dry-run` is given without `--dry-run`
abbrev pub shows_without_dry_run : VerbData → Bool
shows_without_dry_run w = not w.dry_run && ((w.tree || w.json || w.exit_code) || (is_some w.under || is_some w.down_to))

-- the line of an error if some words of `apply` can't be given together, or if a word needs `--dry-run`, but `--dry-run` isn't given; none if there is no such error
abbrev pub apply_complaint : VerbData → Option Text
apply_complaint w =
    if w.dry_run && is_some w.output then Some (codes "error: --output can't be used with --dry-run\n") else (
    if shows_without_dry_run w then Some (codes "error: --tree, --json, --under, --down-to and --exit-code need --dry-run\n") else None)

-- the line of an error that only this verb can have: for `apply`, the line of `apply_complaint`. Other verbs have no such errors
abbrev pub own_complaint : Verb → VerbData → Option Text
own_complaint Apply w = apply_complaint w
own_complaint verb w = None

-- WORDS OF A VERB THAT CAN'T BE GIVEN TOGETHER: the line of an error if more than one file that the verb reads is standard input, or otherwise the line of `own_complaint`; none if the words can be given together. The plain command line for which the verb is short can still be refused
abbrev pub verb_complaint : Verb → VerbData → Option Text
verb_complaint verb w = if nat_lt 1 (dashes w) then Some (codes "error: only one file can be -, which is standard input\n") else own_complaint verb w

-- what the files MAP, OLD, NEW and WANTED of a verb must contain: maps without scripts. The last line that isn't blank must be `# end crush map`, except if the verb is `tree`
abbrev pub maps_of_verb : Verb → MapForm
maps_of_verb Tree = form.Map
maps_of_verb verb = form.WholeMap

-- whether lost changes end the run: only if the verb is `apply` and `--last-wins` isn't given
abbrev pub has_conflicts : Verb → VerbData → Bool
has_conflicts Apply w = not w.last_wins
has_conflicts verb w = false

-- SHORT FOR: the options are those of the plain command line for which the verb's command line is short, with two exceptions. The verb decides what its files must contain. The verb and `--last-wins` decide whether lost changes end the run
pub record AreShortFor (verb : Verb) (w : VerbData) (options : Options) : Type 0 where
  pub maps : options.maps ≡ maps_of_verb verb
  pub conflicts : options.mode.conflicts ≡ has_conflicts verb w
  pub plain : AreOptionsOf (words_of_verb verb w) (record options { maps = form.Job; mode = record options.mode { conflicts = false } })

-- the parser finds no error in the words after a verb, these words can be given together, and they ask for these options
pub record AreOptionsOfVerb (verb : Verb) (words : List Text) (options : Options) : Type 0 where
  pub right : fault_of (app_of_verb verb) words ≡ []
  pub given : VerbData
  pub read : AreVerbWords verb (matches_of (app_of_verb verb) words) given
  pub together : verb_complaint verb given ≡ None
  pub short : AreShortFor verb given options

-- a fault that is possible if the parser finds no error in the words after a verb. If there is a reason why some of the words can't be given together, the fault is a refusal with this reason, or out of memory. Otherwise the fault is one of the plain command line for which the verb's command line is short
abbrev pub IsShortFault : Option Text → List Text → OptionsFault → Type 0
IsShortFault (Some why) plain fault = IsRefusedFor why fault
IsShortFault None plain fault = IsFaultIn plain fault

-- the parser finds no error in the words after the verb, and the fault is one that `IsShortFault` allows
pub record HasShortFault (verb : Verb) (words : List Text) (fault : OptionsFault) : Type 0 where
  pub right : fault_of (app_of_verb verb) words ≡ []
  pub given : VerbData
  pub read : AreVerbWords verb (matches_of (app_of_verb verb) words) given
  pub told : IsShortFault (verb_complaint verb given) (words_of_verb verb given) fault

-- the fault is possible for the words after a verb. There are three cases: the fault is out of memory; it is the fault for an error that the parser finds, or for a word that asks for the help; or the parser finds no error, and `HasShortFault` allows the fault
abbrev pub IsFaultOfVerb : Verb → List Text → OptionsFault → Type 0
IsFaultOfVerb verb words fault = (fault ≡ Memory) ⊎ (HasFault (fault_of (app_of_verb verb) words) fault ⊎ HasShortFault verb words fault)

-- the verb that a word names; none if the word isn't a verb
abbrev pub verb_named : Text → Option Verb
verb_named word =
    if bytes_eq word (codes "apply") then Some Apply else (
    if bytes_eq word (codes "diff") then Some Diff else (
    if bytes_eq word (codes "plan") then Some Plan else (
    if bytes_eq word (codes "tree") then Some Tree else None)))

-- A COMMAND LINE: if its first word is a verb, the options are those that the words after it ask for; otherwise the options are those that the plain command line asks for
abbrev pub AreOptionsBy : Option Verb → List Text → Options → Type 0
AreOptionsBy None words options = AreOptionsOf words options
AreOptionsBy (Some verb) words options = AreOptionsOfVerb verb (drop 1 words) options

-- the fault is possible for a command line. If the first word is a verb, the fault must be possible for the words after the verb (`IsFaultOfVerb`). Otherwise the fault must be possible for a plain command line (`IsFaultIn`)
abbrev pub IsFaultBy : Option Verb → List Text → OptionsFault → Type 0
IsFaultBy None words fault = IsFaultIn words fault
IsFaultBy (Some verb) words fault = IsFaultOfVerb verb (drop 1 words) fault

-- the verb of a command line; none if the first word isn't a verb, or if there is no word
abbrev pub verb_of_words : List Text → Option Verb
verb_of_words [] = None
verb_of_words (word ∷ words) = verb_named word
