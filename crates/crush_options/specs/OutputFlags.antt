-- Which flags and options of a plain command line say what is printed, and which of them can be given together. (A plain command line is one that doesn't begin with a verb.)
use Rattle.std.specs.Prelude.{◌≡◌, Bool, true, false, not, ◌&&◌, ◌||◌, Option, Some, None, String, codes, if◌then◌else◌, is_some, option_map}
use Rattle.clap.specs.Words.{Row, Text, first_of, one_of}
use Rattle.std.specs.Prelude.{List}
use Rattle.crush_options.specs.declared.parsed_options.OutputSpec.{OutputSpec}
use Rattle.crush_options.specs.declared.parsed_options.OutputSpec.TheVariants.{Map, Tree, Since, Changes, AsCeph, To}
use Rattle.crush_options.specs.declared.command_line.OutputFlags.{OutputFlags}

-- `flag` is the value of a flag for which the parser has this text: true if the text is "true", and false if the text is "false" or if there is no text
pub record IsFlag (text : Option Text) (flag : Bool) : Type 0 where
  pub given : text ≡ Some (codes "true") → flag ≡ true
  pub absent : text ≡ Some (codes "false") → flag ≡ false
  pub none : text ≡ None → flag ≡ false

-- the words that decide what is printed. A field of a flag says whether the flag is given. A field of an option has the value of the option, if the option is given
pub record OutputFlagsData : Type 0 where
  pub tree : Bool
  pub since : Option Text
  pub as_ceph : Bool
  pub to : Option Text
  pub by_name : Bool
  pub json : Bool
  pub under : Option Text
  pub down_to : Option Text
  pub class : Option Text
  pub exact : Bool

-- the parsed words give these flags, and these values of options
pub record AreOutputFlags (rows : List Row) (flags : OutputFlagsData) : Type 0 where
  pub tree : IsFlag (one_of (codes "tree") rows) flags.tree
  pub since : first_of (codes "since") rows ≡ flags.since
  pub as_ceph : IsFlag (one_of (codes "as-ceph") rows) flags.as_ceph
  pub to : first_of (codes "to") rows ≡ flags.to
  pub by_name : IsFlag (one_of (codes "by-name") rows) flags.by_name
  pub json : IsFlag (one_of (codes "json") rows) flags.json
  pub under : first_of (codes "under") rows ≡ flags.under
  pub down_to : first_of (codes "down-to") rows ≡ flags.down_to
  pub class : first_of (codes "class") rows ≡ flags.class
  pub exact : IsFlag (one_of (codes "exact") rows) flags.exact

-- the bytes of a string, if there is one
abbrev pub name_text : {Z : Type 0} → Option (String Z) → Option Text
name_text name = option_map (λ n. n.bytes.items) name

-- the fields of the Rust type `OutputFlags`, as data
abbrev pub flags_data : OutputFlags → OutputFlagsData
flags_data s = record {
  tree = s.tree;
  since = option_map (λ name. name.now) s.since;
  as_ceph = s.as_ceph;
  to = option_map (λ name. name.now) s.to;
  by_name = s.by_name;
  json = s.json;
  under = option_map (λ name. name.now) s.under;
  down_to = option_map (λ name. name.now) s.down_to;
  class = option_map (λ name. name.now) s.class;
  exact = s.exact;
}

-- the flags and values if no word is given except for `--json` and `--exact`. The two arguments say whether `--json` and `--exact` are given
abbrev pub no_output_flags : Bool → Bool → OutputFlagsData
no_output_flags json exact = record { tree = false; since = None; as_ceph = false; to = None; by_name = false; json = json; under = None; down_to = None; class = None; exact = exact }

-- the flags and values of those words that ask to print the given output. The first two arguments say whether `--json` and `--exact` are also given
abbrev pub flags_by : Bool → Bool → OutputSpec → OutputFlagsData
flags_by json exact Map = no_output_flags json exact
flags_by json exact (Tree part) = record (no_output_flags json exact) { tree = true; under = name_text part.under; down_to = name_text part.down_to; class = name_text part.class }
flags_by json exact (Since since) = record (no_output_flags json exact) { since = Some since.map.bytes.items; by_name = since.by_name; under = name_text since.under }
flags_by json exact (Changes tree) = record (no_output_flags json exact) { tree = true; since = Some tree.map.bytes.items; under = name_text tree.part.under; down_to = name_text tree.part.down_to; class = name_text tree.part.class }
flags_by json exact AsCeph = record (no_output_flags json exact) { as_ceph = true }
flags_by json exact (To target) = record (no_output_flags json exact) { as_ceph = target.as_ceph; to = Some target.map.bytes.items; by_name = target.by_name; under = name_text target.under }

-- whether the words ask for two different outputs. `--tree` with `--since` asks for one output, and so does `--as-ceph` with `--to`
abbrev pub ask_for_two : OutputFlagsData → Bool
ask_for_two flags = (flags.tree || is_some flags.since) && (flags.as_ceph || is_some flags.to)

-- whether the words ask for a tree of changes whose items are matched by names. The program has no such output
abbrev pub ask_for_tree_of_names : OutputFlagsData → Bool
ask_for_tree_of_names flags = flags.tree && is_some flags.since && flags.by_name

-- whether `--by-name` is given, but neither `--since` nor `--to`, so that there is no other map
abbrev pub have_names_alone : OutputFlagsData → Bool
have_names_alone flags = flags.by_name && not (is_some flags.since) && not (is_some flags.to)

-- whether `--under` is given, but none of `--tree`, `--since` and `--to`. Only with one of these three can `--under` select a part of the output
abbrev pub have_part_alone : OutputFlagsData → Bool
have_part_alone flags = is_some flags.under && not flags.tree && not (is_some flags.since) && not (is_some flags.to)

-- whether `--down-to` is given without `--tree`
abbrev pub have_type_alone : OutputFlagsData → Bool
have_type_alone flags = is_some flags.down_to && not flags.tree

-- whether `--class` is given without `--tree`
abbrev pub have_class_alone : OutputFlagsData → Bool
have_class_alone flags = is_some flags.class && not flags.tree

-- whether the words ask for a JSON document about one class of devices. The program has no such output
abbrev pub json_of_class : OutputFlagsData → Bool
json_of_class flags = flags.json && is_some flags.class

-- whether the words ask for a JSON document with Ceph's own commands. The program has no such output
abbrev pub json_of_lines : OutputFlagsData → Bool
json_of_lines flags = flags.json && flags.as_ceph

-- whether the words ask for a JSON document of changes between items that are matched by names. The program has no such output
abbrev pub json_of_names : OutputFlagsData → Bool
json_of_names flags = flags.json && is_some flags.since && flags.by_name

-- whether the words ask for a JSON document of the upper levels of a tree of changes. The program has no such output
abbrev pub json_of_levels : OutputFlagsData → Bool
json_of_levels flags = flags.json && is_some flags.since && is_some flags.down_to

-- whether the words ask for exact weights, but the output isn't the text of the map
abbrev pub exact_of_other : OutputFlagsData → Bool
exact_of_other flags = flags.exact && ((flags.tree || is_some flags.since || flags.as_ceph || is_some flags.to) || flags.json)

-- WORDS THAT CAN'T BE GIVEN TOGETHER: the line of an error if some words can't be given together, or if a word needs another word that isn't given. If several of the conditions are true, this is the line of the first of them. If no condition is true, there is no line, and the words can be given together
abbrev pub complaint : OutputFlagsData → Option Text
complaint flags =
    if ask_for_two flags then Some (codes "error: use only one of --tree, --since, --as-ceph and --to, or --tree with --since, or --to with --as-ceph\n") else (
    if ask_for_tree_of_names flags then Some (codes "error: --tree with --since can't be used with --by-name\n") else (
    if have_names_alone flags then Some (codes "error: --by-name needs --since or --to\n") else (
    if have_part_alone flags then Some (codes "error: --under needs --tree, --since or --to\n") else (
    if have_type_alone flags then Some (codes "error: --down-to needs --tree\n") else (
    if have_class_alone flags then Some (codes "error: --class needs --tree\n") else (
    if json_of_class flags then Some (codes "error: --json can't be used with --class\n") else (
    if json_of_lines flags then Some (codes "error: --json can't be used with --as-ceph\n") else (
    if json_of_names flags then Some (codes "error: --json with --since can't be used with --by-name\n") else (
    if json_of_levels flags then Some (codes "error: --json with --since can't be used with --down-to\n") else (
    if exact_of_other flags then Some (codes "error: --exact can be used only when the text of the map is printed\n") else None))))))))))

-- WHAT IS PRINTED: among the parsed words, the flags and options about the output are exactly those that ask for this output, and they can be given together. `json` and `exact` say whether `--json` and `--exact` are given
pub record IsOutputSpec (rows : List Row) (json exact : Bool) (output_spec : OutputSpec) : Type 0 where
  pub flags : AreOutputFlags rows (flags_by json exact output_spec)
  pub together : complaint (flags_by json exact output_spec) ≡ None

-- some of the parsed words can't be given together (`complaint`), for the reason in the line `why`
pub record AreApart (rows : List Row) (why : Text) : Type 0 where
  pub flags : OutputFlagsData
  pub are : AreOutputFlags rows flags
  pub apart : complaint flags ≡ Some why
