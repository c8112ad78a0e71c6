-- The values of a command line that the report on standard error needs.
use Rattle.std.specs.Prelude.{ℕ, Bool, false, List, [], unwrap_or}
use Rattle.crush_options.specs.declared.parsed_options.Options.{Options}
use Rattle.crush_options.specs.OutputFlags.{flags_by}
use Rattle.crush_input.specs.declared.words.Words.{Words}

-- whether `--explain` is given, and the names after `--under`, `--down-to` and `--class`. A name is empty if its option isn't given
pub record WordsData : Type 0 where
  pub explain : Bool
  pub under : List ℕ
  pub down_to : List ℕ
  pub class : List ℕ

-- the program's `Words` as plain data
abbrev pub words_data : Words → WordsData
words_data w = record { explain = w.explain; under = w.under.now; down_to = w.down_to.now; class = w.class.now }

-- the values of `WordsData` for a command line that has none of the four options
abbrev pub no_words : WordsData
no_words = record { explain = false; under = []; down_to = []; class = [] }

-- the values of `WordsData` for a command line with the given options
abbrev pub words_of : Options → WordsData
words_of options = record {
  explain = options.mode.explain;
  under = unwrap_or (flags_by options.mode.json options.mode.exact options.output_spec).under [];
  down_to = unwrap_or (flags_by options.mode.json options.mode.exact options.output_spec).down_to [];
  class = unwrap_or (flags_by options.mode.json options.mode.exact options.output_spec).class [];
}
