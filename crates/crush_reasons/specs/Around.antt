-- Which bucket or rule of a map's text is open at a place, and where a bucket is defined. A place is the index of a byte of the text, from 0. A bucket or a rule is open at a place if its `{` comes before the place, and its `}` doesn't. Only some words of the text count: those before the first byte that is allowed only in comments but isn't in a comment, and before the first word of more than 255 bytes.
use Rattle.std.specs.Prelude.{ℕ, false, ◌&&◌, ◌||◌, not, List, [], ◌∷◌, bytes_eq, codes, if◌then◌else◌, take}
use Rattle.crush_units.specs.Words.{Word, words}
use Rattle.crush_reasons.specs.declared.around.Around.{Around}
use Rattle.crush_reasons.specs.declared.around.Search.{Search}

-- the state before the first word was read: no bucket or rule is open
abbrev pub nothing_yet : Around
nothing_yet = record { is_open = false; head = 0; before = 0; last = 0 }

-- the state after one more word: `{` opens the bucket or the rule that begins two words before the `{`, and `}` closes it
abbrev pub one_further : Around → Word → Around
one_further a w = record {
  is_open = bytes_eq w.text (codes "{") || (a.is_open && not (bytes_eq w.text (codes "}")));
  head = if bytes_eq w.text (codes "{") then a.before else a.head;
  before = a.last;
  last = w.place;
}

unfoldable pub further : Around → List Word → Around
further a [] = a
further a (w ∷ ws) = further (one_further a w) ws

-- WHAT IS AROUND a place: whether a bucket or a rule is open there, where the last one that was opened begins, and where the last two words before the place begin
abbrev pub around_at : List ℕ → ℕ → Around
around_at bytes place = further nothing_yet (words 0 (take place bytes)).words

-- the state of the search for a bucket, before the first word was read
abbrev pub nothing_seen : Search
nothing_seen = record { is_name = false; is_rule = false; last = 0; found = 0 }

-- the state of the search after one more word: a bucket is defined if its name comes just before `{`, and the word before the name isn't `rule`
abbrev pub looked_further : List ℕ → Search → Word → Search
looked_further name s w = record {
  is_name = bytes_eq w.text name && not s.is_rule;
  is_rule = bytes_eq w.text (codes "rule");
  last = w.place;
  found = if bytes_eq w.text (codes "{") && s.is_name then s.last else s.found;
}

unfoldable pub looked_for : List ℕ → Search → List Word → Search
looked_for name s [] = s
looked_for name s (w ∷ ws) = looked_for name (looked_further name s w) ws

-- WHERE A BUCKET IS DEFINED: the place of the name in the last definition of a bucket with this name, or 0 if there is no definition
abbrev pub defined_at : List ℕ → List ℕ → ℕ
defined_at bytes name = (looked_for name nothing_seen (words 0 bytes).words).found
