-- The scripts of a job are scripts that sections can express.
use Rattle.std.proofs.Common.{◌≡◌, ℕ, zero, suc, ◌+◌, ◌<◌, ◌≤◌, ◌||◌, Bool, true, false, List, [], ◌∷◌, ◌++◌, Option, Some, None, Result, Ok, Err, length, nat_le, refl, ap, sym, ◌∙◌, subst, arith, rules, tests, length-append}
use Rattle.std.proofs.lemmas.List.Elements.{All-nil, All-cons, All-head, All-tail, All-push}
use Rattle.std.proofs.lemmas.List.{get_or-map, length-map, map-append}
use Rattle.std.specs.List.{list_any}
use Rattle.std.proofs.lemmas.Bool.{false≢true}
use Rattle.std.proofs.lemmas.List.Quantifiers.{all_pairs_push}
use Rattle.std.specs.Prelude.{All, AllPairs, IfOk, IfSome, bytes_eq}
use Rattle.crush_units.specs.Name.{IsName}
use Rattle.crush_units.specs.declared.limits.TheConstants.{MOST_CALLS, MOST_EDITS, MOST_ENTRIES, MOST_OPERATORS}
use Rattle.crush_edits.specs.declared.edit.Edit.{Edit}
use Rattle.crush_history.specs.declared.call.Call.{Call}
use Rattle.crush_history.specs.declared.call.Call.TheVariants.{One}
use Rattle.crush_history.specs.Script.{ScriptData}
use Rattle.crush_history.specs.HistoryText.{names_of}
use Rattle.crush_script.specs.declared.command.Command.{Command}
use Rattle.crush_script.specs.declared.command.Command.TheVariants as says
use Rattle.crush_script.specs.declared.command.LineFault.{LineFault}
use Rattle.crush_script.specs.declared.sections.BegunBatch.{BegunBatch}
use Rattle.crush_text.specs.Flow.{◌>>=◌}
use Rattle.crush_script.specs.Command.{command, operator}
use Rattle.crush_script.specs.Lines.{lines, section_part, section_line, line_words, begins_section}
use Rattle.crush_script.specs.Sections.{SectionsData, no_sections, call_in_last, in_line, without_batch, closed, has_operator, with_section, counted, with_call, with_number, batch_call, with_edit, with_begin, with_commit, with_command, with_line, with_lines, sections_of}
use Rattle.crush_script.specs.Job.{JobData, IsJob}
use Rattle.crush_history.specs.Said.{IsSaid}
use Rattle.crush_script.specs.ScriptsText.{IsSaidCall, IsSaidScript, AreScripts, ReadScriptsAreSuch}
use Rattle.crush_script.proofs.Oks.{bind-if_ok_at, if_ok-either, if_ok-else, if_ok-not, if_ok-at}
use Rattle.crush_script.proofs.Few.{calls_few, scripts_few}
use Rattle.crush_script.proofs.Said.{HasSaid, command_said, operator_said}

-- no two scripts have the same name
abbrev AreApart : List ScriptData → Type 0
AreApart scripts = AllPairs (λ (a b : List ℕ). bytes_eq a b ≡ false) (names_of scripts)

-- what is true after the lines so far were read
record AreSaid (s : SectionsData) : Type 0 where
  scripts : All IsSaidScript s.scripts
  begun : IfSome s.begun (λ b. IsSaidCall (batch_call b.seen b.edits))
  names : AreApart s.scripts

-- if no element passes a test, then each element fails it
both_fail : (a b : Bool) → (a || b) ≡ false → (a ≡ false) × (b ≡ false)
both_fail false b h = (refl, h)
both_fail true b h = absurd (false≢true (sym h))

each_fails : {X : Type 0} (p : X → Bool) (xs : List X) → list_any p xs ≡ false → All (λ x. p x ≡ false) xs
each_fails p [] none k d inside = absurd (omega (arith, inside))
each_fails p (x ∷ xs) none zero d inside = (both_fail (p x) (list_any p xs) none).0
each_fails p (x ∷ xs) none (suc k) d inside = each_fails p xs (both_fail (p x) (list_any p xs) none).1 k d (omega (arith, inside))

-- one more script, whose name no other script has
one_more : (xs : List ScriptData) (x : ScriptData) → AreApart xs → has_operator xs x.name ≡ false → AreApart (xs ++ x ∷ [])
one_more xs x apart own =
    let pushed = all_pairs_push (λ (a b : List ℕ). bytes_eq a b ≡ false) (names_of xs) x.name apart (λ k d inside.
    let there : k < length xs = omega (arith, inside, length-map xs (λ (y : ScriptData). y.name)) in
    ap (λ (n : List ℕ). bytes_eq n x.name) (get_or-map (λ (y : ScriptData). y.name) xs k (record { name = d; calls = [] }) d there) ∙ each_fails (λ (y : ScriptData). bytes_eq y.name x.name) xs own k (record { name = d; calls = [] }) there) in
    subst (λ (ns : List (List ℕ)). AllPairs (λ (a b : List ℕ). bytes_eq a b ≡ false) ns) (sym (map-append (λ (y : ScriptData). y.name) xs (x ∷ []))) pushed

-- adding a call doesn't change the names of the scripts
names-in_last : (c : Call) (xs : List ScriptData) → names_of (call_in_last c xs) ≡ names_of xs
names-in_last c [] = refl
names-in_last c (x ∷ []) = refl
names-in_last c (x ∷ y ∷ rest) = ap (λ (ns : List (List ℕ)). x.name ∷ ns) (names-in_last c (y ∷ rest))

in_last_apart : (c : Call) (xs : List ScriptData) → AreApart xs → AreApart (call_in_last c xs)
in_last_apart c xs apart = subst (λ (ns : List (List ℕ)). AllPairs (λ (a b : List ℕ). bytes_eq a b ≡ false) ns) (sym (names-in_last c xs)) apart

section_said : (number : ℕ) (s : SectionsData) (name : List ℕ) → AreSaid s → IsName name → IfOk (with_section number s name) AreSaid
section_said number s name said is =
    let script : ScriptData = record { name = name; calls = [] } in
    if_ok-else _ _ (nat_le MOST_OPERATORS (length s.scripts)) AreSaid
    (if_ok-not _ _ (has_operator s.scripts name) AreSaid (λ own. record { scripts = All-push IsSaidScript s.scripts script said.scripts (record { name = is; calls = All-nil IsSaidCall }); begun = said.begun; names = one_more s.scripts script said.names own }))

closed_said : (s : SectionsData) → AreSaid s → IfOk (closed s) AreSaid
closed_said s said = at s.begun
  where
    at : (o : Option BegunBatch) → IfOk (without_batch s o) AreSaid
    at None = said
    at (Some b) = tt

counted_said : (number : ℕ) (s : SectionsData) → AreSaid s → IfOk (counted number s) AreSaid
counted_said number s said = if_ok-else _ _ (nat_le MOST_CALLS s.calls) AreSaid (record { scripts = said.scripts; begun = said.begun; names = said.names })

in_last_said : (c : Call) (scripts : List ScriptData) → IsSaidCall c → All IsSaidScript scripts → All IsSaidScript (call_in_last c scripts)
in_last_said c [] is all = all
in_last_said c (x ∷ []) is all =
    let own = All-head IsSaidScript x [] all in
    All-cons IsSaidScript _ [] (record { name = own.name; calls = All-push IsSaidCall x.calls c own.calls is }) (All-nil IsSaidScript)
in_last_said c (x ∷ y ∷ rest) is all = All-cons IsSaidScript x _ (All-head IsSaidScript x (y ∷ rest) all) (in_last_said c (y ∷ rest) is (All-tail IsSaidScript x (y ∷ rest) all))

-- a batch that begins, and a batch with one more edit
batch_begun : (seen : Option ℕ) → IfSome seen (λ n. n ≤ MOST_ENTRIES) → IsSaidCall (batch_call seen [])
batch_begun None few = (All-nil IsSaid, omega arith)
batch_begun (Some n) few = (All-nil IsSaid, omega arith, few)

batch_more : (seen : Option ℕ) (es : List Edit) (e : Edit) → IsSaidCall (batch_call seen es) → IsSaid e → length es < MOST_EDITS → IsSaidCall (batch_call seen (es ++ e ∷ []))
batch_more None es e said is less = (All-push IsSaid es e said.0 is, omega (arith, less, length-append es (e ∷ [])))
batch_more (Some n) es e said is less = (All-push IsSaid es e said.0 is, omega (arith, less, length-append es (e ∷ [])), said.2)

edit_said : (number : ℕ) (s : SectionsData) (o : Option BegunBatch) (e : Edit) → IfSome o (λ b. IsSaidCall (batch_call b.seen b.edits)) → AreSaid s → IsSaid e → IfOk (with_edit number s o e) AreSaid
edit_said number s None e begun said is =
    bind-if_ok_at (counted number s) (λ more. Ok (with_number number (with_call (One e) more))) AreSaid AreSaid (counted_said number s said) (λ more h. record { scripts = in_last_said (One e) more.scripts is h.scripts; begun = h.begun; names = in_last_apart (One e) more.scripts h.names })
edit_said number s (Some b) e begun said is =
    if_ok-not _ _ (nat_le MOST_EDITS (length b.edits)) AreSaid (λ room. let less : length b.edits < MOST_EDITS = search (rules, tests) in
    record { scripts = said.scripts; begun = batch_more b.seen b.edits e begun is less; names = said.names })

begin_said : (number : ℕ) (s : SectionsData) (o : Option BegunBatch) (seen : Option ℕ) → AreSaid s → IfSome seen (λ n. n ≤ MOST_ENTRIES) → IfOk (with_begin number s o seen) AreSaid
begin_said number s None seen said few =
    bind-if_ok_at (counted number s) (λ more. Ok (record more { begun = Some (record { line = number; seen = seen; edits = [] }) })) AreSaid AreSaid (counted_said number s said) (λ more h. record { scripts = h.scripts; begun = batch_begun seen few; names = h.names })
begin_said number s (Some b) seen said few = tt

commit_said : (number : ℕ) (s : SectionsData) (o : Option BegunBatch) → IfSome o (λ b. IsSaidCall (batch_call b.seen b.edits)) → AreSaid s → IfOk (with_commit number s o) AreSaid
commit_said number s None begun said = tt
commit_said number s (Some b) begun said = record { scripts = in_last_said (batch_call b.seen b.edits) s.scripts begun said.scripts; begun = tt; names = in_last_apart (batch_call b.seen b.edits) s.scripts said.names }

obeyed_said : (number : ℕ) (s : SectionsData) (c : Command) → AreSaid s → HasSaid c → IfOk (with_command number s c) AreSaid
obeyed_said number s says.Nothing said is = said
obeyed_said number s (says.Edit e) said is = edit_said number s s.begun e said.begun said is
obeyed_said number s (says.Begin seen) said is = begin_said number s s.begun seen said is
obeyed_said number s says.Commit said is = commit_said number s s.begun said.begun said

-- adding the line's number to a fault doesn't change a result without a fault
in_line_said : {X : Type 0} (number : ℕ) (r : Result X LineFault) (P : X → Type 0) → IfOk r P → IfOk (in_line number r) P
in_line_said number (Ok x) P h = h
in_line_said number (Err fault) P h = tt

line_said : (number : ℕ) (s : SectionsData) (text : List ℕ) → AreSaid s → IfOk (with_line number s text) AreSaid
unfolding with_line
line_said number s text said =
    if_ok-either _ _ (begins_section text) AreSaid
    (bind-if_ok_at (closed s) (λ r. in_line number (operator (line_words text)) >>= λ name. with_section number r name) AreSaid AreSaid (closed_said s said) (λ r h.
    bind-if_ok_at (in_line number (operator (line_words text))) (λ name. with_section number r name) AreSaid IsName (in_line_said number _ IsName (operator_said (line_words text))) (λ name is. section_said number r name h is)))
    (bind-if_ok_at (in_line number (command (line_words text))) (λ c. with_command number s c) AreSaid HasSaid (in_line_said number _ HasSaid (command_said (line_words text))) (λ c is. obeyed_said number s c said is))

lines_said : (number : ℕ) (s : SectionsData) (lines : List (List ℕ)) → AreSaid s → IfOk (with_lines number s lines) AreSaid
unfolding with_lines
lines_said number s [] said = closed_said s said
lines_said number s (text ∷ rest) said =
    bind-if_ok_at (with_line number s text) (λ next. with_lines (number + 1) next rest) AreSaid AreSaid (line_said number s text said) (λ next h. lines_said (number + 1) next rest h)

sections_said : (bytes : List ℕ) (job : JobData) (is : IsJob bytes job) → AreSaid is.said
sections_said bytes job is =
    let none : AreSaid no_sections = record { scripts = All-nil IsSaidScript; begun = tt; names = λ i j d less inside. absurd (omega (arith, inside)) } in
    if_ok-at (sections_of bytes) is.said AreSaid is.sections (lines_said (section_line bytes) no_sections (lines (section_part bytes)) none)

pub job_said : (bytes : List ℕ) (job : JobData) → IsJob bytes job → All IsSaidScript job.scripts
job_said bytes job is = subst (λ (xs : List ScriptData). All IsSaidScript xs) is.scripts (sections_said bytes job is).scripts

-- the scripts of a job are scripts that a job can have
pub read_scripts_are_such : ReadScriptsAreSuch
read_scripts_are_such bytes job is =
    let said = sections_said bytes job is in
    subst AreScripts is.scripts (record {
      few = scripts_few (section_line bytes) (lines (section_part bytes)) is.said is.sections;
      calls = calls_few (section_line bytes) (lines (section_part bytes)) is.said is.sections;
      said = said.scripts;
      names = said.names;
    })
