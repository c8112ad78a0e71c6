-- The JSON values from which documents are built.
use Rattle.std.specs.Prelude.{ℕ, ℤ, List, Option, Some, None}
use Rattle.serde_json.specs.Data.{Data, number, unsigned, string, array, Members, member}
use Rattle.serde_json.specs.Find.{of_integer}
use Rattle.serde_json.specs.View.{items_of}

-- the value for a natural number
abbrev pub natural : ℕ → Data
natural n = number (unsigned n)

-- the value for a whole number, which may be negative
abbrev pub whole : ℤ → Data
whole z = number (of_integer z)

-- an array of values
abbrev pub list : List Data → Data
list ds = array (items_of ds)

-- if there is a text, the members `ms` with a member before them, which has this text as its value; otherwise only the members `ms`
abbrev pub text_if : List ℕ → Option (List ℕ) → Members → Members
text_if key None ms = ms
text_if key (Some text) ms = member key (string text) ms

-- if there is a whole number, the members `ms` with a member before them, which has this number as its value; otherwise only the members `ms`
abbrev pub whole_if : List ℕ → Option ℤ → Members → Members
whole_if key None ms = ms
whole_if key (Some z) ms = member key (whole z) ms
