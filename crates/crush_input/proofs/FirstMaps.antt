-- If bytes that may be a verb's map begin a job, then they are a map.
use Rattle.std.proofs.Common.{◌≡◌, ℕ, suc, ◌+◌, ◌-◌, ◌≤◌, ◌==◌, ◌&&◌, Bool, true, false, cond, not, List, [], ◌∷◌, ◌++◌, Option, Some, None, ◌⊎◌, inl, inr, length, take, refl, sym, ap, ◌∙◌, subst, arith, rules, tests, append_assoc, true≢false}
use Rattle.std.specs.Prelude.{IfSome, String, codes, slice_index}
use Rattle.std.specs.List.{list_all}
use Rattle.std.proofs.Math.Seq.{take-length}
use Rattle.std.proofs.lemmas.Bool.Decides.{nat_tests}
use Rattle.std.proofs.lemmas.List.{length-take}
use Rattle.crush_model.specs.Table.{Row}
use Rattle.crush_edits.specs.Setting.{SettingData}
use Rattle.crush_units.specs.Name.{is_name}
use Rattle.crush_units.specs.Words.{is_blank, without_comments}
use Rattle.crush_text.specs.Document.{IsMapText}
use Rattle.crush_options.specs.declared.parsed_options.MapForm.{MapForm}
use Rattle.crush_script.specs.Job.{HasJob, JobData}
use Rattle.crush_script.specs.Lines.{length_to_section, map_part}
use Rattle.crush_script.specs.ScriptsText.{ends_line}
use Rattle.crush_script.proofs.MapTexts.{map_texts_have_no_section}
use Rattle.crush_input.specs.Input.{first_bytes}
use Rattle.crush_input.specs.Joined.{begins_section_in, is_line_blank, joined, joined_known, line_end, operator_line, operator_of, section_head, with_scripts}
use Rattle.crush_input.specs.VerbMaps.{IsVerbMap, MayBeVerbMap}
use Rattle.crush_input.specs.VerbMapLaws.{FirstMapsAreMaps, OtherMapsAreMaps, VerbMapsMayBeMaps}
use Rattle.crush_input.proofs.BlankEnds.{IsBlankAfter, ends_inside, map_text_without_end}

-- THE MAP'S PART of bytes that begin a line if `starts`
abbrev part_in : Bool → List ℕ → List ℕ
part_in starts bytes = take (length_to_section starts bytes) bytes

-- a byte that doesn't begin a section is in the map's part
one_more : (starts : Bool) (b : ℕ) (bs : List ℕ) → (starts && (b == 37)) ≡ false → part_in starts (b ∷ bs) ≡ b ∷ part_in (b == 10) bs
one_more starts b bs other =
    let next : length_to_section (b == 10) bs + 1 ≡ suc (length_to_section (b == 10) bs) = omega arith in
    rw (other, next) refl

none_more : (starts : Bool) (b : ℕ) (bs : List ℕ) → (starts && (b == 37)) ≡ true → part_in starts (b ∷ bs) ≡ []
none_more starts b bs mark = rw mark refl

never : (v : Bool) → (v && false) ≡ false
never true = refl
never false = refl

-- bytes are in the map's part, and are followed by the part of the bytes after them
part_behind : (starts : Bool) (bytes more : List ℕ) → length_to_section starts bytes ≡ length bytes → part_in starts (bytes ++ more) ≡ bytes ++ part_in (ends_line starts bytes) more
part_behind starts [] more whole = refl
part_behind starts (b ∷ bs) more whole = by_test (starts && (b == 37)) refl (part_behind (b == 10) bs more)
  where
    by_test : (v : Bool) → (starts && (b == 37)) ≡ v → (length_to_section (b == 10) bs ≡ length bs → part_in (b == 10) (bs ++ more) ≡ bs ++ part_in (ends_line (b == 10) bs) more)
        → part_in starts ((b ∷ bs) ++ more) ≡ (b ∷ bs) ++ part_in (ends_line starts (b ∷ bs)) more
    by_test true is rest = absurd (omega (arith, ap (λ (u : Bool). cond u 0 (length_to_section (b == 10) bs + 1)) (sym is) ∙ whole))
    by_test false is rest =
        let below : length_to_section (b == 10) bs + 1 ≡ length (b ∷ bs) = ap (λ (u : Bool). cond u 0 (length_to_section (b == 10) bs + 1)) (sym is) ∙ whole in
        one_more starts b (bs ++ more) is ∙ ap (λ (l : List ℕ). b ∷ l) (rest (omega (arith, below)))

-- the number of bytes before a section is at most the number of all bytes
section_within : (starts : Bool) (bytes : List ℕ) → length_to_section starts bytes ≤ length bytes
section_within starts [] = omega arith
section_within starts (b ∷ bs) = by_test (starts && (b == 37)) (section_within (b == 10) bs)
  where
    by_test : (v : Bool) → length_to_section (b == 10) bs ≤ length bs → cond v 0 (length_to_section (b == 10) bs + 1) ≤ length (b ∷ bs)
    by_test true rest = omega arith
    by_test false rest = omega (arith, rest)

no_section_of_part : (bytes : List ℕ) → map_part bytes ≡ bytes → length_to_section true bytes ≡ length bytes
no_section_of_part bytes single = omega (arith, section_within true bytes, length-take (length_to_section true bytes) bytes, ap length single)

-- BLANKS before a section: if the first line with more than blanks and a comment begins a section, then there are only blanks and comments before this section
abbrev IsBlankPart : Bool → Bool → List ℕ → Type 0
IsBlankPart starts inside bytes = list_all is_blank (without_comments inside (part_in starts bytes)) ≡ true

-- a line feed
feed_before : (starts inside : Bool) (bs : List ℕ) → IsBlankPart true false bs → IsBlankPart starts inside (10 ∷ bs)
feed_before starts true bs h = let more = one_more starts 10 bs (never starts) in rw more h
feed_before starts false bs h = let more = one_more starts 10 bs (never starts) in rw more h

feed_at : (starts inside : Bool) (b : ℕ) (bs : List ℕ) → (b == 10) ≡ true → IsBlankPart true false bs → IsBlankPart starts inside (b ∷ bs)
feed_at starts inside b bs is h =
    let feed : b ≡ 10 = search (rules, tests) in
    subst (λ (c : ℕ). IsBlankPart starts inside (c ∷ bs)) (sym feed) (feed_before starts inside bs h)

blank_part : (starts inside : Bool) (bytes : List ℕ) → (starts && inside) ≡ false → begins_section_in starts inside bytes ≡ true → IsBlankPart starts inside bytes
blank_part starts inside [] apart h = refl
blank_part true true (b ∷ bs) apart h = absurd (true≢false apart)
blank_part false true (b ∷ bs) apart h = by_test (b == 10) refl h (λ starts inside. blank_part starts inside bs)
  where
    by_test : (v : Bool) → (b == 10) ≡ v → cond v (begins_section_in true false bs) (begins_section_in false true bs) ≡ true
        → ((starts inside : Bool) → (starts && inside) ≡ false → begins_section_in starts inside bs ≡ true → IsBlankPart starts inside bs) → IsBlankPart false true (b ∷ bs)
    by_test true is h rest = feed_at false true b bs is (rest true false refl h)
    by_test false is h rest =
        let more = one_more false b bs refl in
        let below = rest false true refl h in
        rw (more, is) below
blank_part starts false (b ∷ bs) apart h = by_test (b == 10) (b == 35) (is_line_blank b) (starts && (b == 37)) refl refl refl refl h (λ starts inside. blank_part starts inside bs)
  where
    by_test : (v w x y : Bool) → (b == 10) ≡ v → (b == 35) ≡ w → is_line_blank b ≡ x → (starts && (b == 37)) ≡ y
        → cond v (begins_section_in true false bs) (cond w (begins_section_in false true bs) (cond x (begins_section_in false false bs) y)) ≡ true
        → ((starts inside : Bool) → (starts && inside) ≡ false → begins_section_in starts inside bs ≡ true → IsBlankPart starts inside bs) → IsBlankPart starts false (b ∷ bs)
    by_test true w x y feed mark blank begins h rest = feed_at starts false b bs feed (rest true false refl h)
    by_test false true x y feed mark blank begins h rest =
        let other : (b == 37) ≡ false = grind (arith, nat_tests) in
        let more = one_more starts b bs (ap (λ (v : Bool). starts && v) other ∙ never starts) in
        let below = rest false true refl h in
        rw (more, mark, feed) below
    by_test false false true y feed mark blank begins h rest =
        let other : (b == 37) ≡ false = grind (arith, nat_tests) in
        let more = one_more starts b bs (ap (λ (v : Bool). starts && v) other ∙ never starts) in
        let is : is_blank b ≡ true = grind (arith, nat_tests) in
        let below = rest false false refl h in
        rw (more, mark, is, feed) below
    by_test false false false true feed mark blank begins h rest =
        let none = none_more starts b bs begins in
        rw none refl
    by_test false false false false feed mark blank begins h rest = absurd (true≢false (sym h))

-- THE LAST BYTE: if it is a line feed, then no comment is open after it, and a new line begins
record IsAtLine (starts inside : Bool) (bytes : List ℕ) : Type 0 where
  line : ends_line starts bytes ≡ true
  comment : ends_inside inside bytes ≡ false

at_line : (starts inside : Bool) (bytes : List ℕ) → (slice_index bytes (length bytes - 1) == 10) ≡ true → IsAtLine starts inside bytes
at_line starts inside [] h = absurd (true≢false (sym h))
at_line starts true (b ∷ []) h = record { line = h; comment = ap not h }
at_line starts false (b ∷ []) h = record { line = h; comment = grind (arith, nat_tests) }
at_line starts inside (b ∷ c ∷ cs) h =
    let last : length (b ∷ c ∷ cs) - 1 ≡ suc (length (c ∷ cs) - 1) = omega arith in
    by_start inside (λ starts inside. at_line starts inside (c ∷ cs) (ap (λ (n : ℕ). slice_index (b ∷ c ∷ cs) n == 10) (sym last) ∙ h))
  where
    by_start : (inside : Bool) → ((starts inside : Bool) → IsAtLine starts inside (c ∷ cs)) → IsAtLine starts inside (b ∷ c ∷ cs)
    by_start true rest = let is = rest (b == 10) (not (b == 10)) in record { line = is.line; comment = is.comment }
    by_start false rest = let is = rest (b == 10) (b == 35) in record { line = is.line; comment = is.comment }

-- there are only blanks and comments between bytes and a section that follows on a new line
blank_behind : (bytes rest : List ℕ) → begins_section_in true false rest ≡ true → IsBlankAfter bytes (part_in (ends_line true bytes) (line_end bytes ++ rest))
blank_behind bytes rest begins = by_test (slice_index bytes (length bytes - 1) == 10) refl
  where
    below : IsBlankPart true false rest
    below = blank_part true false rest refl begins

    by_test : (v : Bool) → (slice_index bytes (length bytes - 1) == 10) ≡ v → IsBlankAfter bytes (part_in (ends_line true bytes) (cond v [] (codes "\n") ++ rest))
    by_test true is =
        let at = at_line true false bytes is in
        let line = at.line in
        let comment = at.comment in
        rw (line, comment) below
    by_test false is = feed_before (ends_line true bytes) (ends_inside false bytes) rest below

verb_map : (needs : MapForm) (bytes : List ℕ) (s : SettingData) (t : List Row) (adjusted : ℕ) → MayBeVerbMap needs bytes → IsMapText bytes s t adjusted → IsVerbMap needs bytes
verb_map needs bytes s t adjusted may is = record { short = may.short; setting = s; table = t; adjusted = adjusted; text = is; whole = may.whole }

-- a job that consists of a map's text, and of a section that follows on a new line
map_before_section : (needs : MapForm) (bytes rest : List ℕ) → MayBeVerbMap needs bytes → begins_section_in true false rest ≡ true → HasJob (bytes ++ line_end bytes ++ rest) → IsVerbMap needs bytes
map_before_section needs bytes rest may begins has =
    let job : JobData = has.0 in
    let more : List ℕ = part_in (ends_line true bytes) (line_end bytes ++ rest) in
    let part : map_part (bytes ++ line_end bytes ++ rest) ≡ bytes ++ more =
    ap map_part (append_assoc bytes (line_end bytes) rest) ∙ part_behind true bytes (line_end bytes ++ rest) (no_section_of_part bytes may.single) in
    let text : IsMapText (bytes ++ more) job.setting job.table job.adjusted = subst (λ (z : List ℕ). IsMapText z job.setting job.table job.adjusted) part has.1.map in
    verb_map needs bytes job.setting job.table job.adjusted may (map_text_without_end bytes more job.setting job.table job.adjusted (blank_behind bytes rest begins) text)

-- SCRIPTS are joined behind bytes: there are none, or a section follows the bytes on a new line
abbrev IsBegunBy : List ℕ → List ℕ → Type 0
IsBegunBy bytes all = (all ≡ bytes) ⊎ ((rest : List ℕ) × (all ≡ bytes ++ line_end bytes ++ rest) × (begins_section_in true false rest ≡ true))

-- bytes that begin with blanks, comments and a section still do if more bytes follow
section_longer : (starts comment : Bool) (bytes more : List ℕ) → begins_section_in starts comment bytes ≡ true → begins_section_in starts comment (bytes ++ more) ≡ true
section_longer starts comment [] more h = absurd (true≢false (sym h))
section_longer starts comment (b ∷ bs) more h = by_test (b == 10) comment (b == 35) (is_line_blank b) h (λ starts comment. section_longer starts comment bs more)
  where
    by_test : (v w x y : Bool)
        → cond v (begins_section_in true false bs) (cond w (begins_section_in false true bs) (cond x (begins_section_in false true bs) (cond y (begins_section_in false false bs) (starts && (b == 37))))) ≡ true
        → ((starts comment : Bool) → begins_section_in starts comment bs ≡ true → begins_section_in starts comment (bs ++ more) ≡ true)
        → cond v (begins_section_in true false (bs ++ more)) (cond w (begins_section_in false true (bs ++ more)) (cond x (begins_section_in false true (bs ++ more)) (cond y (begins_section_in false false (bs ++ more)) (starts && (b == 37))))) ≡ true
    by_test true w x y h rest = rest true false h
    by_test false true x y h rest = rest false true h
    by_test false false true y h rest = rest false true h
    by_test false false false true h rest = rest false false h
    by_test false false false false h rest = h

-- a script begins a section, or it gets a line that does
section_of_script : (name script : List ℕ) → begins_section_in true false (operator_line name script ++ script) ≡ true
section_of_script name script = by_test (begins_section_in true false script) refl
  where
    with_head : (v : Bool) → begins_section_in true false (cond v (codes "%operator " ++ operator_of name ++ codes "\n") (codes "%operator\n") ++ script) ≡ true
    with_head true = refl
    with_head false = refl

    by_test : (v : Bool) → begins_section_in true false script ≡ v → begins_section_in true false (cond v [] (section_head (operator_of name)) ++ script) ≡ true
    by_test true is = is
    by_test false is = with_head (is_name (operator_of name))

joined_begun : (bytes job name script : List ℕ) → IsBegunBy bytes job → IsBegunBy bytes (joined job name script)
joined_begun bytes job name script (inl is) =
    inr (operator_line name script ++ script, append_assoc (job ++ line_end job) (operator_line name script) script ∙ ap (λ (z : List ℕ). z ++ line_end z ++ (operator_line name script ++ script)) is, section_of_script name script)
joined_begun bytes job name script (inr is) =
    let more : List ℕ = line_end job ++ operator_line name script ++ script in
    let behind : joined job name script ≡ job ++ more = ap (λ (z : List ℕ). z ++ script) (append_assoc job (line_end job) (operator_line name script)) ∙ append_assoc job (line_end job ++ operator_line name script) script in
    inr (is.0 ++ more, behind ∙ ap (λ (z : List ℕ). z ++ more) is.1 ∙ append_assoc (bytes ++ line_end bytes) is.0 more, section_longer true false is.0 more is.2)

known_begun : (bytes : List ℕ) (known : Option (List ℕ)) (name : List ℕ) (script : Option (List ℕ)) → IfSome known (IsBegunBy bytes) → IfSome (joined_known known name script) (IsBegunBy bytes)
known_begun bytes None name script is = tt
known_begun bytes (Some job) name None is = tt
known_begun bytes (Some job) name (Some s) is = joined_begun bytes job name s is

scripts_begun : {Z : Type 0} (content : List ℕ → Option (List ℕ)) (bytes : List ℕ) (known : Option (List ℕ)) (names : List (String Z)) (all : List ℕ)
    → IfSome known (IsBegunBy bytes) → with_scripts content known names ≡ Some all → IsBegunBy bytes all
scripts_begun content bytes known [] all is same = subst (λ (k : Option (List ℕ)). IfSome k (IsBegunBy bytes)) same is
scripts_begun content bytes known (name ∷ names) all is same =
    scripts_begun content bytes (joined_known known name.bytes.items (content name.bytes.items)) names all (known_begun bytes known name.bytes.items (content name.bytes.items) is) same

map_of_begun : (needs : MapForm) (bytes all : List ℕ) → MayBeVerbMap needs bytes → HasJob all → IsBegunBy bytes all → IsVerbMap needs bytes
map_of_begun needs bytes all may has (inl is) =
    let job : JobData = has.0 in
    verb_map needs bytes job.setting job.table job.adjusted may (subst (λ (z : List ℕ). IsMapText z job.setting job.table job.adjusted) (ap map_part is ∙ may.single) has.1.map)
map_of_begun needs bytes all may has (inr is) = map_before_section needs bytes is.0 may is.2 (subst HasJob is.1 has)

pub first_maps_are_maps : FirstMapsAreMaps
first_maps_are_maps needs content options input bytes all may begins is has =
    let known : IfSome (first_bytes content options.file input) (IsBegunBy bytes) = subst (λ (k : Option (List ℕ)). IfSome k (IsBegunBy bytes)) (sym begins) (inl refl) in
    map_of_begun needs bytes all may has (scripts_begun content bytes (first_bytes content options.file input) options.scripts.items all known is)

pub other_maps_are_maps : OtherMapsAreMaps
other_maps_are_maps needs map bytes may is = verb_map needs bytes map.setting is.table is.adjusted may is.text

pub verb_maps_may_be_maps : VerbMapsMayBeMaps
verb_maps_may_be_maps needs bytes is =
    let place = map_texts_have_no_section bytes is.setting is.table is.adjusted is.text in
    record { short = is.short; single = ap (λ (n : ℕ). take n bytes) place ∙ take-length bytes; whole = is.whole }
