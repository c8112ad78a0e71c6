-- Proves that the text of a plan is read as a script of its edits, and that the run of this script makes these edits.
use Rattle.std.proofs.Common.{◌≡◌, ℕ, suc, ◌+◌, ◌-◌, ◌<◌, ◌≤◌, ◌&&◌, ◌==◌, Bool, true, false, not, cond, List, [], ◌∷◌, ◌++◌, Option, None, Ok, length, map, take, drop, nat_le, refl, sym, ap, ◌∙◌, subst, arith, rules, tests, append_assoc, append-nil}
use Rattle.std.specs.Prelude.{All, codes, decimal, flat_map, slice_index}
use Rattle.std.specs.List.{list_all, onto_first}
use Rattle.std.proofs.lemmas.Bool.{and_parts}
use Rattle.std.proofs.lemmas.List.Elements.{All-nil, All-cons, All-head, All-tail}
use Rattle.std.proofs.Math.Seq.{take-append_seam, drop-append_seam}
use Rattle.crush_units.specs.Name.{IsName}
use Rattle.crush_units.proofs.Names.{is_name_true}
use Rattle.crush_units.specs.declared.limits.TheConstants.{MOST_CALLS}
use Rattle.crush_model.specs.Table.{Row}
use Rattle.crush_edits.specs.Answer.{Answer}
use Rattle.crush_edits.specs.Edit.{edit}
use Rattle.crush_edits.specs.Setting.{SettingData}
use Rattle.crush_edits.specs.declared.edit.Edit.{Edit}
use Rattle.crush_edits.specs.declared.edit.Edit.TheVariants.{Place, Move, Swap, Reweight, ReweightSubtree, Remove, AddBucket, Rename, SetClass, RemoveClass}
use Rattle.crush_edits.specs.declared.edit.Placing.TheVariants.{Insert, CreateOrMove, Update}
use Rattle.crush_text.specs.Document.{IsMapText}
use Rattle.crush_history.specs.declared.call.Call.{Call}
use Rattle.crush_history.specs.declared.call.Call.TheVariants.{One}
use Rattle.crush_edits.specs.EditText.{edit_text}
use Rattle.crush_history.specs.History.{Counted, EntryData, counted_after, edit_outcome, entry_on, is_change, later, turn, turns_from, untouched}
use Rattle.crush_script.specs.Command.{command, end_at, name_at, one_name_at, operator}
use Rattle.crush_script.specs.Lines.{begins_section, length_to_section, line_words, lines, map_part, section_line, section_part, without_comment, words_between_blanks}
use Rattle.crush_history.specs.Said.{IsSaid}
use Rattle.crush_script.specs.ScriptsText.{ends_line}
use Rattle.crush_script.specs.Sections.{SectionsData, no_sections, with_line, with_lines, without_batch}
use Rattle.crush_script.proofs.MapTexts.{map_texts_have_no_section}
use Rattle.crush_script.proofs.PrintedLaws.{name_word, printed_is_read}
use Rattle.crush_script.proofs.PrintedWords.{IsWord, line_words-joined}
use Rattle.crush_history.specs.Ceph.{ceph_heading}
use Rattle.crush_since.specs.Aside.{aside_text}
use Rattle.crush_since.specs.Stays.{text_of_lines}
use Rattle.crush_plan.specs.Leads.{Leads}
use Rattle.crush_plan.specs.Part.{IsAllowed}
use Rattle.crush_plan.specs.Plan.{PlanData}
use Rattle.crush_plan.specs.PlanText.{commented, plan_text, script_line, stay_heading, stay_text}
use Rattle.crush_laws.specs.Planned.{PlansAreRun, PlansAreScripts}
use Rattle.crush_laws.proofs.HistoryComments.{IsInLine, both_in_line, edit_in_line, name_in_line, number_in_line}
use Rattle.crush_laws.proofs.JobTexts.{edit_named}

-- LINES: a text that begins with a whole line is split after this line
is_not : (t : Bool) → not t ≡ true → t ≡ false
is_not false h = refl
is_not true h = absurd (let no_way : false ≡ true = h in cc)

lines-ended : (line rest : List ℕ) → IsInLine line → lines (line ++ 10 ∷ rest) ≡ line ∷ lines rest
unfolding lines
lines-ended [] rest h = refl
lines-ended (b ∷ bs) rest h =
    let p = and_parts (not (b == 10)) (list_all (λ x. not (x == 10)) bs) h in
    let no_feed = is_not (b == 10) p.0 in
    rw (no_feed, lines-ended bs rest p.1) refl

-- COMMENTS: whether each line of the bytes begins with `#`; the last line may not be complete. The first argument says whether a line has already begun
abbrev begin_comments : Bool → List ℕ → Bool
begin_comments begun [] = true
begin_comments false (b ∷ bs) = b == 35 && begin_comments true bs
begin_comments true (b ∷ bs) = begin_comments (not (b == 10)) bs

-- a line that begins with `#`
abbrev IsComment : List ℕ → Type 0
IsComment line = (rest : List ℕ) × (line ≡ 35 ∷ rest)

-- all lines except for the first are comments
abbrev AreBehind : List (List ℕ) → Type 0
AreBehind [] = Unit {0}
AreBehind (line ∷ rest) = All IsComment rest

begun_line : (b : ℕ) (ls : List (List ℕ)) → AreBehind ls → AreBehind (onto_first b ls)
begun_line b [] h = All-nil IsComment
begun_line b (line ∷ rest) h = h

first_line : (ls : List (List ℕ)) → AreBehind ls → All IsComment (onto_first 35 ls)
first_line [] h = All-cons IsComment (35 ∷ []) [] ([], refl) (All-nil IsComment)
first_line (line ∷ rest) h = All-cons IsComment (35 ∷ line) rest (line, refl) h

abbrev AreIn : Bool → List (List ℕ) → Type 0
AreIn true ls = AreBehind ls
AreIn false ls = All IsComment ls

lines_are : (begun : Bool) (bytes : List ℕ) → begin_comments begun bytes ≡ true → AreIn begun (lines bytes)
unfolding lines
lines_are true [] h = tt
lines_are false [] h = All-nil IsComment
lines_are false (b ∷ bs) h =
    let k = and_parts (b == 35) (begin_comments true bs) h in
    let mark : b ≡ 35 = search (rules, tests) in
    subst (λ c. All IsComment (lines (c ∷ bs))) (sym mark) (first_line (lines bs) (lines_are true bs k.1))
lines_are true (b ∷ bs) h = by_test (b == 10) h (λ begun. lines_are begun bs) where
  by_test : (v : Bool) → begin_comments (not v) bs ≡ true → ((begun : Bool) → begin_comments begun bs ≡ true → AreIn begun (lines bs)) → AreBehind (cond v ([] ∷ lines bs) (onto_first b (lines bs)))
  by_test true h rest = rest false h
  by_test false h rest = begun_line b (lines bs) (rest true h)

-- text that is printed with `# ` before each line has this property, whether or not a line has begun
told_behind : (at_head : Bool) (told more : List ℕ) → ((begun : Bool) → begin_comments begun more ≡ true) → begin_comments (not at_head) (commented at_head told ++ more) ≡ true
told_behind at_head [] more h = h (not at_head)
told_behind true (b ∷ told) more h = told_behind (b == 10) told more h
told_behind false (b ∷ told) more h = told_behind (b == 10) told more h

told_is : (begun : Bool) (told more : List ℕ) → ((begun : Bool) → begin_comments begun more ≡ true) → begin_comments begun (commented true told ++ more) ≡ true
told_is begun [] more h = h begun
told_is true (b ∷ told) more h = told_behind (b == 10) told more h
told_is false (b ∷ told) more h = told_behind (b == 10) told more h

within : (part rest : List ℕ) → IsInLine part → begin_comments true (part ++ rest) ≡ begin_comments true rest
within [] rest h = refl
within (b ∷ part) rest h =
    let k = and_parts (not (b == 10)) (list_all (λ x. not (x == 10)) part) h in
    ap (λ (t : Bool). begin_comments t (part ++ rest)) k.0 ∙ within part rest k.1

-- everything that follows the edits in the plan's text has this property
stay_is : (rest : List (List ℕ)) (more : List ℕ) → ((begun : Bool) → begin_comments begun more ≡ true) → begin_comments false (stay_text rest ++ more) ≡ true
unfolding stay_heading
stay_is [] more h = h false
stay_is (line ∷ rest) more h =
    let count : List ℕ = decimal (length (line ∷ rest)) in
    let told : List ℕ = commented true (text_of_lines (line ∷ rest)) in
    ap (begin_comments false) (append_assoc (codes "# " ++ count ++ codes " differences stay\n") told more ∙ append_assoc (codes "# " ++ count) (codes " differences stay\n") (told ++ more))
    ∙ within (codes " " ++ count) (codes " differences stay\n" ++ (told ++ more)) (both_in_line (codes " ") count refl (number_in_line (length (line ∷ rest))))
    ∙ told_is false (text_of_lines (line ∷ rest)) more h

tail_is : (rest : List (List ℕ)) (aside : List ℕ) → begin_comments false (stay_text rest ++ commented true aside) ≡ true
tail_is rest aside = stay_is rest (commented true aside) (λ begun. ap (begin_comments begun) (sym (append-nil (commented true aside))) ∙ told_is begun aside [] (λ b. refl))

-- A READER finds no words in comment lines
comment_words : (rest : List ℕ) → line_words (35 ∷ rest) ≡ []
unfolding words_between_blanks
comment_words rest = ap words_between_blanks (by_test (slice_index (35 ∷ rest) (length (35 ∷ rest) - 1) == 13)) where
  cut : (cs : List ℕ) → without_comment (take (length (35 ∷ cs) - 1) (35 ∷ cs)) ≡ []
  cut [] = refl
  cut (c ∷ cs) = let e : length (35 ∷ c ∷ cs) - 1 ≡ suc (length cs) = omega arith in ap (λ (n : ℕ). without_comment (take n (35 ∷ c ∷ cs))) e

  by_test : (v : Bool) → without_comment (cond v (take (length (35 ∷ rest) - 1) (35 ∷ rest)) (35 ∷ rest)) ≡ []
  by_test true = cut rest
  by_test false = refl

comment_read : (n : ℕ) (s : SectionsData) (line : List ℕ) → IsComment line → with_line n s line ≡ Ok s
unfolding with_line command
comment_read n s line is = let words = comment_words is.0 in ap (with_line n s) is.1 ∙ rw words refl

comments_read : (ls : List (List ℕ)) (n : ℕ) (s : SectionsData) → s.begun ≡ None → All IsComment ls → with_lines n s ls ≡ Ok s
unfolding with_lines
comments_read [] n s none all = ap (without_batch s) none
comments_read (line ∷ ls) n s none all =
    let one = comment_read n s line (All-head IsComment line ls all) in
    rw one (comments_read ls (n + 1) s none (All-tail IsComment line ls all))

-- EDITS are read as the calls of the only script
abbrev state : List ℕ → List ℕ → List Call → ℕ → SectionsData
state numbers name calls count = record { scripts = (record { name = name; calls = calls }) ∷ []; lines = numbers ∷ []; calls = count; begun = None }

begins_none : (e : Edit) → begins_section (edit_text e) ≡ false
begins_none (Place Insert d n w l) = refl
begins_none (Place CreateOrMove d n w l) = refl
begins_none (Place Update d n w l) = refl
begins_none (Move n l) = refl
begins_none (Swap a b) = refl
begins_none (Reweight n w) = refl
begins_none (ReweightSubtree n w) = refl
begins_none (Remove n) = refl
begins_none (AddBucket n kind) = refl
begins_none (Rename from to) = refl
begins_none (SetClass n c) = refl
begins_none (RemoveClass n) = refl

few : (k m : ℕ) → k < m → nat_le m k ≡ false
few k m less = search (rules, tests)

edit_read : (n : ℕ) (numbers name : List ℕ) (calls : List Call) (k : ℕ) (e : Edit) → IsSaid e → k < MOST_CALLS → with_line n (state numbers name calls k) (edit_text e) ≡ Ok (state (numbers ++ n ∷ []) name (calls ++ One e ∷ []) (k + 1))
unfolding with_line
edit_read n numbers name calls k e is room =
    let starts = begins_none e in
    let reads = printed_is_read e is in
    let less = few k MOST_CALLS room in
    rw (starts, reads, less) refl

edits_read : (es : List Edit) (n : ℕ) (numbers name : List ℕ) (calls : List Call) (k : ℕ) (rest : List (List ℕ)) → All IsSaid es → k + length es ≤ MOST_CALLS
    → (m : ℕ) × (all : List ℕ) × (with_lines n (state numbers name calls k) (map edit_text es ++ rest) ≡ with_lines m (state all name (calls ++ map One es) (k + length es)) rest)
unfolding with_lines
edits_read [] n numbers name calls k rest all room =
    let none : k ≡ k + 0 = omega arith in
    (n, numbers, λ i. with_lines n (state numbers name (sym (append-nil calls) i) (none i)) rest)
edits_read (e ∷ es) n numbers name calls k rest all room =
    let one = edit_read n numbers name calls k e (All-head IsSaid e es all) (omega (arith, room)) in
    let others = edits_read es (n + 1) (numbers ++ n ∷ []) name (calls ++ One e ∷ []) (k + 1) rest (All-tail IsSaid e es all) (omega (arith, room)) in
    let more : k + 1 + length es ≡ k + length (e ∷ es) = omega arith in
    (others.0, others.1, rw one (others.2 ∙ (λ i. with_lines others.0 (state others.1 name (append_assoc calls (One e ∷ []) (map One es) i) (more i)) rest)))

edits_lines : (es : List Edit) (rest : List ℕ) → All IsSaid es → lines (flat_map (script_line) es ++ rest) ≡ map edit_text es ++ lines rest
edits_lines [] rest all = refl
edits_lines (e ∷ es) rest all =
    let others : List ℕ = flat_map (script_line) es in
    ap lines (append_assoc (edit_text e ++ 10 ∷ []) others rest ∙ append_assoc (edit_text e) (10 ∷ []) (others ++ rest))
    ∙ lines-ended (edit_text e) (others ++ rest) (edit_in_line e (edit_named e (All-head IsSaid e es all)))
    ∙ ap (λ (ls : List (List ℕ)). edit_text e ∷ ls) (edits_lines es rest (All-tail IsSaid e es all))

-- THE SECTION begins with the operator's line
operator_word : IsWord (codes "%operator")
operator_word = record { some = omega arith; bytes = refl }

operator_read : (n : ℕ) (name : List ℕ) → IsName name → with_line n no_sections (codes "%operator " ++ name) ≡ Ok (state [] name [] 0)
unfolding with_line operator one_name_at name_at end_at
operator_read n name is =
    let words = line_words-joined (codes "%operator") (name ∷ []) operator_word (name_word name is, tt) in
    let holds = is_name_true name is in
    rw (words, holds) refl

-- the first line of the plan's text, which has the number of edits
abbrev count_line : ℕ → List ℕ
count_line count = codes "# " ++ decimal count ++ codes " commands"

module _ (name : List ℕ) (plan : PlanData) (is : IsName name) (said : All IsSaid plan.edits) where
  abbrev section : List ℕ
  section = codes "%operator " ++ name ++ codes "\n" ++ plan_text plan

  abbrev tail : List ℕ
  tail = stay_text plan.rest ++ commented true (aside_text plan.aside)

  plan_lines : lines (plan_text plan) ≡ count_line (length plan.edits) ∷ (map edit_text plan.edits ++ lines tail)
  unfolding plan_text ceph_heading
  plan_lines =
      let count : List ℕ = codes "# " ++ decimal (length plan.edits) in
      let edits : List ℕ = flat_map (script_line) plan.edits in
      let head : List ℕ = count ++ codes " commands\n" in
      ap lines
      (append_assoc head edits tail
      ∙ append_assoc count (codes " commands\n") (edits ++ tail) ∙ sym (append_assoc count (codes " commands") (10 ∷ (edits ++ tail))))
      ∙ lines-ended (count_line (length plan.edits)) (edits ++ tail) (both_in_line count (codes " commands") (both_in_line (codes "# ") (decimal (length plan.edits)) refl (number_in_line (length plan.edits))) refl)
      ∙ ap (λ (ls : List (List ℕ)). count_line (length plan.edits) ∷ ls) (edits_lines plan.edits tail said)

  section_lines : lines section ≡ (codes "%operator " ++ name) ∷ (count_line (length plan.edits) ∷ (map edit_text plan.edits ++ lines tail))
  section_lines =
      ap lines (append_assoc (codes "%operator " ++ name) (10 ∷ []) (plan_text plan))
      ∙ lines-ended (codes "%operator " ++ name) (plan_text plan) (both_in_line (codes "%operator ") name refl (name_in_line name is))
      ∙ ap (λ (ls : List (List ℕ)). (codes "%operator " ++ name) ∷ ls) plan_lines

  section_read : (n : ℕ) → length plan.edits ≤ MOST_CALLS → (all : List ℕ) × (with_lines n no_sections (lines section) ≡ Ok (state all name (map One plan.edits) (0 + length plan.edits)))
  unfolding with_lines
  section_read n room =
      let first = operator_read n name is in
      let second = comment_read (n + 1) (state [] name [] 0) (count_line (length plan.edits)) (codes " " ++ decimal (length plan.edits) ++ codes " commands", refl) in
      let edits = edits_read plan.edits (n + 1 + 1) [] name [] 0 (lines tail) said (omega (arith, room)) in (
        edits.1,
        ap (with_lines n no_sections) section_lines
            ∙ rw (first, second) (edits.2 ∙ comments_read (lines tail) edits.0 (state edits.1 name (map One plan.edits) (0 + length plan.edits)) refl (lines_are false tail (tail_is plan.rest (aside_text plan.aside)))),
      )

-- THE MAP'S TEXT is separated from the section after it
cut_behind : (starts : Bool) (text rest : List ℕ) → length_to_section starts text ≡ length text → ends_line starts text ≡ true → begins_section rest ≡ true → length_to_section starts (text ++ rest) ≡ length text
cut_behind starts [] [] whole ends begins = refl
cut_behind starts [] (c ∷ cs) whole ends begins = rw (ends, begins) refl
cut_behind starts (b ∷ bs) rest whole ends begins = at (starts && b == 37) refl (λ below. cut_behind (b == 10) bs rest below ends begins)
  where
    at : (t : Bool) → (starts && b == 37) ≡ t → (length_to_section (b == 10) bs ≡ length bs → length_to_section (b == 10) (bs ++ rest) ≡ length bs) → length_to_section starts ((b ∷ bs) ++ rest) ≡ length (b ∷ bs)
    at true is again = absurd (omega (arith, ap (λ (u : Bool). cond u 0 (length_to_section (b == 10) bs + 1)) (sym is) ∙ whole))
    at false is again =
        let below : length_to_section (b == 10) bs + 1 ≡ length (b ∷ bs) = ap (λ (u : Bool). cond u 0 (length_to_section (b == 10) bs + 1)) (sym is) ∙ whole in
        ap (λ (u : Bool). cond u 0 (length_to_section (b == 10) (bs ++ rest) + 1)) is ∙ omega (arith, again (omega (arith, below)))

-- a line can express each edit of a plan
leads_said : (old new : List Row) (under : Option (List ℕ)) (s : SettingData) (t : List Row) (es : List Edit) (u : List Row) → Leads (IsAllowed old new under) s t es u → All IsSaid es
leads_said old new under s t [] u leads = All-nil IsSaid
leads_said old new under s t (e ∷ es) u leads = All-cons IsSaid e es leads.0.said (leads_said old new under s leads.2 es u leads.4)

pub plans_are_scripts : PlansAreScripts
plans_are_scripts under old new text adjusted name plan map_text last is found room short =
    let said = leads_said old.table new.table under old.setting old.table plan.edits found.goes.table found.goes.leads in
    let rest : List ℕ = codes "%operator " ++ name ++ codes "\n" ++ plan_text plan in
    let place = cut_behind true text rest (map_texts_have_no_section text old.setting old.table adjusted map_text) last refl in
    let front : map_part (text ++ rest) ≡ text = ap (λ (n : ℕ). take n (text ++ rest)) place ∙ take-append_seam text rest in
    let back : section_part (text ++ rest) ≡ rest = ap (λ (n : ℕ). drop n (text ++ rest)) place ∙ drop-append_seam text rest in
    let number : ℕ = section_line (text ++ rest) in
    let read = section_read name plan is said number room in
    record {
      short = short;
      map = subst (λ (m : List ℕ). IsMapText m old.setting old.table adjusted) (sym front) map_text;
      said = state read.0 name (map One plan.edits) (0 + length plan.edits);
      sections = ap (λ (bytes : List ℕ). with_lines number no_sections (lines bytes)) back ∙ read.1;
      scripts = refl;
    }

-- RUN: each edit is applied to the table to which the edits before it have led
abbrev IsChange : EntryData → Type 0
IsChange e = is_change e.reply ≡ true

edits_run : (P : List Row → Edit → Type 0) (s : SettingData) (k : ℕ) (es : List Edit) (q : Counted) (u : List Row) → Leads P s q.table es u
    → ((counted_after s q (turn s q k (map One es))).table ≡ u) × All IsChange (turn s q k (map One es))
unfolding counted_after turn
edits_run P s k [] q u leads = (leads, All-nil IsChange)
edits_run P s k (e ∷ es) q u leads =
    let entry : EntryData = entry_on s q k (One e) in
    let made : (later s q entry).table ≡ leads.2 = ap (λ (a : Answer). (edit_outcome q.table a).table) leads.3 in
    let others = edits_run P s k es (later s q entry) u (subst (λ (t : List Row). Leads P s t es u) (sym made) leads.4) in
    (others.0, All-cons IsChange entry (turn s (later s q entry) k (map One es)) (ap (λ (a : Answer). is_change (edit_outcome q.table a).reply) leads.3) others.1)

pub plans_are_run : PlansAreRun
unfolding turns_from
plans_are_run old new under s t name es u leads =
    let run = edits_run (IsAllowed old new under) s 0 es (untouched t) u leads in
    let whole = append-nil (turn s (untouched t) 0 (map One es)) in
    record {
      table = ap (λ (h : List EntryData). (counted_after s (untouched t) h).table) whole ∙ run.0;
      changes = subst (λ (h : List EntryData). All IsChange h) (sym whole) run.1;
    }
