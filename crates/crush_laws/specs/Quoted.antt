-- The laws that the sentence about a fault of a text names, between backquotes, the words that may follow the words before the fault.
use Rattle.std.specs.Prelude.{◌≡◌, ◌≢◌, ◌⊎◌, ℕ, ◌==◌, true, nat_eq, List, [], ◌∷◌, ◌++◌, Option, None, Some, codes, if◌then◌else◌}
use Rattle.std.specs.List.{starts_with}
use Rattle.crush_builder.specs.Built.{Draft}
use Rattle.crush_text.specs.declared.expected.Expected.{Expected}
use Rattle.crush_text.specs.declared.expected.Expected.TheVariants as expect
use Rattle.crush_text.specs.declared.fault.TextFault.{TextFault}
use Rattle.crush_text.specs.declared.fault.TextFaultKind.TheVariants.{OtherAlgorithm, TooMany}
use Rattle.crush_text.specs.Rows.{BeginsBucket}
use Rattle.crush_text.specs.Flow.{State, between, amid}
use Rattle.crush_text.specs.Flaw.{FaultyNext, IsMapFlaw}
use Rattle.crush_text.specs.Follows.{IsOneOf, MayFollow}
use Rattle.crush_reasons.specs.Flaws.{expected_text, word_sentence}

-- the words that the rest of a text has between backquotes. A backquote is the byte 96. The first argument is `None` outside of backquotes. After an opening backquote, it is the part of the word that was read so far
abbrev pub quoted_next : Option (List ℕ) → List ℕ → List (List ℕ)
quoted_next word [] = []
quoted_next None (b ∷ rest) = if b == 96 then quoted_next (Some []) rest else quoted_next None rest
quoted_next (Some word) (b ∷ rest) = if b == 96 then word ∷ quoted_next None rest else quoted_next (Some (word ++ b ∷ [])) rest

-- the words that a text has between backquotes, in order
abbrev pub quoted : List ℕ → List (List ℕ)
quoted text = quoted_next None text

-- the words that the sentence about a fault names as expected. These are the words between backquotes in the part of the sentence that says what is expected (`expected_text`)
abbrev pub named : Expected → List (List ℕ)
named e = quoted (expected_text e)

-- the draft that the lines before this state have built
abbrev pub draft_at : State → Draft
draft_at (between p) = p.draft
draft_at (amid d f) = d

-- the sentence describes the word w without naming it. In the sentence about the first word of a statement, `the name of a type` describes the first word of a bucket. In the sentence about the first word of a step, `set_..` describes each word that begins with `set_`
abbrev pub IsDescribed : Draft → Expected → List ℕ → Type 0
IsDescribed d (expect.Statement late or) w = BeginsBucket d w
IsDescribed d expect.StepWord w = IsOneOf (named expect.StepWord) (codes "set_..") × (starts_with nat_eq w (codes "set_") ≡ true)
IsDescribed d e w = ⊥

-- each word that the sentence names may follow the words before the flaw. The exception is a word with the fault `TooMany`: it begins one more thing, such as a tunable or a step, although the map, the bucket or the rule already has as many of these things as it may have
abbrev pub NamedWordsMayFollow : Type 0
NamedWordsMayFollow = (bytes : List ℕ) (f : TextFault) (x : IsMapFlaw bytes f) (w : List ℕ) → IsOneOf (named f.expected) w → MayFollow x.so_far w ⊎ FaultyNext TooMany x.so_far w

-- if the sentence names words, then it names or describes each word that may follow. A sentence that names no word describes a kind of words, for example `a number`
abbrev pub WordsThatFollowAreNamed : Type 0
WordsThatFollowAreNamed = (bytes : List ℕ) (f : TextFault) (x : IsMapFlaw bytes f) (w : List ℕ) → named f.expected ≢ [] → MayFollow x.so_far w → IsOneOf (named f.expected) w ⊎ IsDescribed (draft_at x.so_far) f.expected w

-- the sentence about an algorithm that isn't supported names the same words as the sentence about a missing algorithm
abbrev pub SameAlgorithmsAreNamed : Type 0
SameAlgorithmsAreNamed = (word : List ℕ) (e : Expected) → quoted (word_sentence OtherAlgorithm word e) ≡ named expect.Algorithm
