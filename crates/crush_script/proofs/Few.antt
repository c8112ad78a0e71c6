-- A job has at most 16 scripts and 65,536 calls.
use Rattle.std.proofs.Common.{◌≡◌, ℕ, suc, ◌+◌, ◌<◌, ◌≤◌, Bool, true, false, List, [], ◌∷◌, ◌++◌, Option, Some, None, Ok, length, nat_le, refl, ap, arith, rules, tests, length-append}
use Rattle.std.specs.Prelude.{IfOk}
use Rattle.std.proofs.lemmas.List.Sums.{sum_by-append, sum_by-cons}
use Rattle.crush_units.specs.declared.limits.TheConstants.{MOST_CALLS, MOST_EDITS, MOST_OPERATORS}
use Rattle.crush_edits.specs.declared.edit.Edit.{Edit}
use Rattle.crush_history.specs.declared.call.Call.{Call}
use Rattle.crush_history.specs.declared.call.Call.TheVariants.{One}
use Rattle.crush_script.proofs.Oks.{bind-if_ok_at, bind-if_ok, if_ok-either, if_ok-else, if_ok-at}
use Rattle.crush_script.specs.declared.command.Command.{Command}
use Rattle.crush_script.specs.declared.command.Command.TheVariants as says
use Rattle.crush_script.specs.declared.sections.BegunBatch.{BegunBatch}
use Rattle.crush_text.specs.Flow.{◌>>=◌}
use Rattle.crush_script.specs.Command.{command, operator}
use Rattle.crush_script.specs.Lines.{line_words, begins_section}
use Rattle.crush_history.specs.Script.{ScriptData, call_count}
use Rattle.crush_script.specs.Sections.{SectionsData, no_sections, call_in_last, in_line, without_batch, closed, has_operator, with_section, counted, with_call, with_number, batch_call, with_edit, with_begin, with_commit, with_command, with_line, with_lines}

-- an open batch counts as one call
abbrev open_calls : Option BegunBatch → ℕ
open_calls None = 0
open_calls (Some b) = 1

-- the counter of calls is at least their number, and the counter and the number of scripts are within their limits
record IsFew (s : SectionsData) : Type 0 where
  counted : call_count s.scripts + open_calls s.begun ≤ s.calls
  few : s.calls ≤ MOST_CALLS
  scripts : length s.scripts ≤ MOST_OPERATORS

-- the same, if one more call is already counted
record IsFewer (s : SectionsData) : Type 0 where
  counted : call_count s.scripts + open_calls s.begun + 1 ≤ s.calls
  few : s.calls ≤ MOST_CALLS
  scripts : length s.scripts ≤ MOST_OPERATORS

-- adding a call to the last script adds at most one call
call_count-call_in_last : (c : Call) (scripts : List ScriptData) → call_count (call_in_last c scripts) ≤ call_count scripts + 1
call_count-call_in_last c [] = omega arith
call_count-call_in_last c (s ∷ []) = omega (arith, length-append s.calls (c ∷ []))
call_count-call_in_last c (s ∷ r ∷ rest) =
    let below : call_count (call_in_last c (r ∷ rest)) ≤ call_count (r ∷ rest) + 1 = call_count-call_in_last c (r ∷ rest) in
    let new : call_count (call_in_last c (s ∷ r ∷ rest)) ≡ length s.calls + call_count (call_in_last c (r ∷ rest)) = sum_by-cons (λ (x : ScriptData). length x.calls) s (call_in_last c (r ∷ rest)) in
    let old : call_count (s ∷ r ∷ rest) ≡ length s.calls + call_count (r ∷ rest) = sum_by-cons (λ (x : ScriptData). length x.calls) s (r ∷ rest) in
    omega (arith, below, new, old)

length-call_in_last : (c : Call) (scripts : List ScriptData) → length (call_in_last c scripts) ≡ length scripts
length-call_in_last c [] = refl
length-call_in_last c (s ∷ []) = refl
length-call_in_last c (s ∷ r ∷ rest) = ap suc (length-call_in_last c (r ∷ rest))

closed_few : (s : SectionsData) → IsFew s → IfOk (closed s) IsFew
closed_few s few = at s.begun
  where
    at : (o : Option BegunBatch) → IfOk (without_batch s o) IsFew
    at None = few
    at (Some b) = tt

section_few : (number : ℕ) (s : SectionsData) (name : List ℕ) → IsFew s → IfOk (with_section number s name) IsFew
section_few number s name few =
    at (nat_le MOST_OPERATORS (length s.scripts)) refl
  where
    at : (b : Bool) → nat_le MOST_OPERATORS (length s.scripts) ≡ b → IfOk (with_section number s name) IsFew
    at true e = rw e tt
    at false e =
        let new : ScriptData = record { name = name; calls = [] } in
        let same : call_count (s.scripts ++ new ∷ []) ≡ call_count s.scripts + 0 = sum_by-append (λ (x : ScriptData). length x.calls) s.scripts (new ∷ []) in
        let less : length s.scripts < MOST_OPERATORS = search (rules, tests) in
        let long = length-append s.scripts (new ∷ []) in
        rw e (if_ok-else _ _ (has_operator s.scripts name) IsFew (record { counted = omega (arith, same, few.counted); few = few.few; scripts = omega (arith, long) }))

counted_fewer : (number : ℕ) (s : SectionsData) → IsFew s → IfOk (counted number s) IsFewer
counted_fewer number s few = at (nat_le MOST_CALLS s.calls) refl
  where
    at : (b : Bool) → nat_le MOST_CALLS s.calls ≡ b → IfOk (counted number s) IsFewer
    at true e = rw e tt
    at false e =
        let less : s.calls < MOST_CALLS = search (rules, tests) in
        rw e (record { counted = omega (arith, few.counted); few = omega arith; scripts = few.scripts })

call_few : (s : SectionsData) (c : Call) → IsFewer s → IsFew (with_call c s)
call_few s c fewer = record { counted = omega (arith, call_count-call_in_last c s.scripts, fewer.counted); few = fewer.few; scripts = omega (arith, fewer.scripts, length-call_in_last c s.scripts) }

edit_few : (number : ℕ) (s : SectionsData) (o : Option BegunBatch) (e : Edit) → o ≡ s.begun → IsFew s → IfOk (with_edit number s o e) IsFew
edit_few number s None e is few = bind-if_ok_at (counted number s) (λ more. Ok (with_number number (with_call (One e) more))) IsFew IsFewer (counted_fewer number s few) (λ more fewer. let is = call_few more (One e) fewer in record { counted = is.counted; few = is.few; scripts = is.scripts })
edit_few number s (Some b) e is few = if_ok-else _ _ (nat_le MOST_EDITS (length b.edits)) IsFew (record { counted = omega (arith, few.counted, ap open_calls is); few = few.few; scripts = few.scripts })

begin_few : (number : ℕ) (s : SectionsData) (o : Option BegunBatch) (seen : Option ℕ) → IsFew s → IfOk (with_begin number s o seen) IsFew
begin_few number s None seen few =
    bind-if_ok_at (counted number s) (λ more. Ok (record more { begun = Some (record { line = number; seen = seen; edits = [] }) })) IsFew IsFewer (counted_fewer number s few) (λ more fewer. record { counted = omega (arith, fewer.counted); few = fewer.few; scripts = fewer.scripts })
begin_few number s (Some b) seen few = tt

commit_few : (number : ℕ) (s : SectionsData) (o : Option BegunBatch) → o ≡ s.begun → IsFew s → IfOk (with_commit number s o) IsFew
commit_few number s None is few = tt
commit_few number s (Some b) is few = record { counted = omega (arith, few.counted, ap open_calls is, call_count-call_in_last (batch_call b.seen b.edits) s.scripts); few = few.few; scripts = omega (arith, few.scripts, length-call_in_last (batch_call b.seen b.edits) s.scripts) }

command_few : (number : ℕ) (s : SectionsData) (c : Command) → IsFew s → IfOk (with_command number s c) IsFew
command_few number s says.Nothing few = few
command_few number s (says.Edit e) few = edit_few number s s.begun e refl few
command_few number s (says.Begin seen) few = begin_few number s s.begun seen few
command_few number s says.Commit few = commit_few number s s.begun refl few

line_few : (number : ℕ) (s : SectionsData) (text : List ℕ) → IsFew s → IfOk (with_line number s text) IsFew
unfolding with_line
line_few number s text few =
    if_ok-either _ _ (begins_section text) IsFew
    (bind-if_ok_at (closed s) (λ r. in_line number (operator (line_words text)) >>= λ name. with_section number r name) IsFew IsFew (closed_few s few) (λ r fine. bind-if_ok (in_line number (operator (line_words text))) (λ name. with_section number r name) IsFew (λ name. section_few number r name fine)))
    (bind-if_ok (in_line number (command (line_words text))) (λ c. with_command number s c) IsFew (λ c. command_few number s c few))

lines_few : (number : ℕ) (s : SectionsData) (lines : List (List ℕ)) → IsFew s → IfOk (with_lines number s lines) IsFew
unfolding with_lines
lines_few number s [] few = closed_few s few
lines_few number s (text ∷ rest) few =
    bind-if_ok_at (with_line number s text) (λ next. with_lines (number + 1) next rest) IsFew IsFew (line_few number s text few) (λ next h. lines_few (number + 1) next rest h)

-- after all lines of a job, the number of scripts and the number of calls are within their limits
all_few : (number : ℕ) (lines : List (List ℕ)) (s : SectionsData) → with_lines number no_sections lines ≡ Ok s → IsFew s
all_few number lines s is = if_ok-at (with_lines number no_sections lines) s IsFew is (lines_few number no_sections lines (record { counted = omega arith; few = omega arith; scripts = omega arith }))

pub calls_few : (number : ℕ) (lines : List (List ℕ)) (s : SectionsData) → with_lines number no_sections lines ≡ Ok s → call_count s.scripts ≤ MOST_CALLS
calls_few number lines s is = let few = all_few number lines s is in omega (arith, few.counted, few.few)

pub scripts_few : (number : ℕ) (lines : List (List ℕ)) (s : SectionsData) → with_lines number no_sections lines ≡ Ok s → length s.scripts ≤ MOST_OPERATORS
scripts_few number lines s is = (all_few number lines s is).scripts
