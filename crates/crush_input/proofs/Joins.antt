-- Scripts that are appended to a job, of which perhaps not all bytes were read.
use Rattle.std.proofs.Common.{◌≡◌, ℕ, ◌≤◌, ◌<◌, ◌+◌, List, [], ◌∷◌, ◌++◌, Option, Some, None, length, drop, get_or, map, take, arith, length-append, sym, ap, subst, ◌∙◌}
use Rattle.std.proofs.lemmas.List.{append_assoc, append-nil, drop_all, drop_more, length-take, take_all}
use Rattle.std.specs.Prelude.{IfSome, String}
use Rattle.crush_units.specs.declared.limits.TheConstants.{LONGEST_JOB}
use Rattle.crush_input.specs.declared.input.Joined.{Joined}
use Rattle.crush_input.specs.declared.joined.ScriptSpan.{ScriptSpan}
use Rattle.crush_input.specs.Input.{IsInput, IsJoined, IsReadAndAppended, readable_bytes}
use Rattle.crush_input.specs.Joined.{ScriptSpanData, joined, joined_known, line_end, operator_line, script_span_data, script_span_known, script_span_of, script_spans_of, with_scripts}
use Rattle.crush_input.specs.Origins.{origin_in, whole_of}
use Rattle.crush_input.proofs.Noted.{ComeFrom}

-- the first and the last of four texts together are no longer than all four together
two_lengths : (a b c d : List ℕ) → length a + length d ≤ length (a ++ b ++ c ++ d)
two_lengths a b c d = omega (arith, length-append (a ++ b ++ c) d, length-append (a ++ b) c, length-append a b)

-- of a script, at most one byte more is read than the job may still have; if the job with the script isn't longer than a job may be, then the whole script was read
script_read : (before s t : List ℕ) → s ≡ take (readable_bytes before) t → length before + length s ≤ LONGEST_JOB → s ≡ t
script_read before s t is short =
    let few : length t ≤ readable_bytes before = omega (arith, short, ap length is, length-take (readable_bytes before) t) in
    is ∙ take_all (readable_bytes before) t few

script_whole : (before s t : List ℕ) → s ≡ take (readable_bytes before) t → length before + length t ≤ LONGEST_JOB → s ≡ t
script_whole before s t is short =
    let few : length t ≤ readable_bytes before = omega (arith, short) in
    is ∙ take_all (readable_bytes before) t few

joined_input : (a b s t : List ℕ) (name : List ℕ) → IsInput a b → s ≡ take (readable_bytes a) t → IsInput (joined a name s) (joined b name t)
joined_input a b s t name job script = record {
  read = λ short.
      let few = two_lengths a (line_end a) (operator_line name s) s in
      λ i. joined (job.read (omega (arith, short, few)) i) name (script_read a s t script (omega (arith, short, few)) i);
  whole = λ short.
      let few = two_lengths b (line_end b) (operator_line name t) t in
      let first = job.whole (omega (arith, short, few)) in
      λ i. joined (first i) name (script_whole a s t script (omega (arith, short, few, ap length first)) i);
}

-- if a job was read as `IsJoined` says, and a script as `IsReadAndAppended` says, then the joined job was read as `IsJoined` says, with one more part
joined_read : (read more : Joined) (b t name : List ℕ) (spans : List ScriptSpanData) → IsJoined read b spans → IsReadAndAppended read more name (Some t) → IsJoined more (joined b name t) (spans ++ script_span_of b name t ∷ [])
joined_read read more b t name spans job behind = record {
  bytes = subst (λ (z : List ℕ). IsInput z (joined b name t)) (sym behind.bytes) (joined_input read.bytes.items b behind.script t name job.bytes behind.read);
  spans = λ short.
      let few = two_lengths b (line_end b) (operator_line name t) t in
      let first = job.bytes.whole (omega (arith, short, few)) in
      let second = script_whole read.bytes.items behind.script t behind.read (omega (arith, short, few, ap length first)) in
      behind.spans ∙ (λ i. job.spans (omega (arith, short, few)) i ++ script_span_of (first i) name (second i) ∷ []);
}

-- the same if the bytes of the job or of the script may be unknown
pub one_script_more : (known script : Option (List ℕ)) (read more : Joined) (name : List ℕ) (spans : List ScriptSpanData) → IfSome known (λ b. IsJoined read b spans) → IsReadAndAppended read more name script
    → IfSome (joined_known known name script) (λ b. IsJoined more b (spans ++ script_span_known known name script))
one_script_more None script read more name spans job behind = tt
one_script_more (Some b) None read more name spans job behind = tt
one_script_more (Some b) (Some t) read more name spans job behind = joined_read read more b t name spans job behind

module _ {Z : Type 0} (content : List ℕ → Option (List ℕ)) where
  -- the scripts from an index on are the script at this index, and then those after it
  pub next_script : (known : Option (List ℕ)) (names : List (String Z)) (i : ℕ) (x : String Z) → i < length names → x ≡ get_or names i x
      → with_scripts content known (drop i names) ≡ with_scripts content (joined_known known x.bytes.items (content x.bytes.items)) (drop (i + 1) names)
  next_script known names i x less is =
      let here : drop i names ≡ x ∷ drop (i + 1) names = drop_more names i x less ∙ ap (λ (y : String Z). y ∷ drop (i + 1) names) (sym is) in
      ap (λ (ns : List (String Z)). with_scripts content known ns) here

  pub next_part : (known : Option (List ℕ)) (names : List (String Z)) (i : ℕ) (x : String Z) (before : List ScriptSpanData) → i < length names → x ≡ get_or names i x
      → before ++ script_spans_of content known (drop i names)
      ≡ (before ++ script_span_known known x.bytes.items (content x.bytes.items)) ++ script_spans_of content (joined_known known x.bytes.items (content x.bytes.items)) (drop (i + 1) names)
  next_part known names i x before less is =
      let here : drop i names ≡ x ∷ drop (i + 1) names = drop_more names i x less ∙ ap (λ (y : String Z). y ∷ drop (i + 1) names) (sym is) in
      ap (λ (ns : List (String Z)). before ++ script_spans_of content known ns) here ∙ sym (append_assoc before _ _)

  -- after the last name there are no more scripts
  pub no_script : (known : Option (List ℕ)) (names : List (String Z)) (i : ℕ) → length names ≤ i → with_scripts content known (drop i names) ≡ known
  no_script known names i past = ap (λ (ns : List (String Z)). with_scripts content known ns) (drop_all i names past)

  pub no_part : (known : Option (List ℕ)) (names : List (String Z)) (i : ℕ) (before : List ScriptSpanData) → length names ≤ i → before ++ script_spans_of content known (drop i names) ≡ before
  no_part known names i before past = ap (λ (ns : List (String Z)). before ++ script_spans_of content known ns) (drop_all i names past) ∙ append-nil before

-- before the first script, the bytes with which a job begins were read as `IsJoined` says, without parts
pub begun : (first : Option (List ℕ)) (read : Joined) → IfSome first (IsInput read.bytes.items) → read.spans.items ≡ [] → IfSome first (λ b. IsJoined read b [])
begun None read input none = tt
begun (Some xs) read input none = record { bytes = input; spans = λ short. ap (map script_span_data) none }

-- if a job was read as `IsJoined` says, then its bytes were read as `IsInput` says
pub input_of_joined : (all : Option (List ℕ)) (read : Joined) (spans : List ScriptSpanData) → IfSome all (λ b. IsJoined read b spans) → IfSome all (IsInput read.bytes.items)
input_of_joined None read spans is = tt
input_of_joined (Some xs) read spans is = is.bytes

-- the lines of a job that was read come from the same files as the lines of all bytes
pub come_from : (name first : List ℕ) (stand : List ScriptSpan) (all : Option (List ℕ)) (read : Joined) (spans : List ScriptSpanData) → name ≡ first → stand ≡ read.spans.items → IfSome all (λ b. IsJoined read b spans)
    → IfSome all (ComeFrom (λ line. origin_in (whole_of name) (map script_span_data stand) line) (λ line. origin_in (whole_of first) spans line) read.bytes.items)
come_from name first stand None read spans named there is = tt
come_from name first stand (Some xs) read spans named there is = (
  is.bytes,
  λ short.
      let few : length xs ≤ LONGEST_JOB = omega (arith, short, ap length (is.bytes.read short)) in
      let same : map script_span_data stand ≡ spans = ap (map script_span_data) there ∙ is.spans few in
      λ i line. origin_in (whole_of (named i)) (same i) line,
)
