-- The lines of refused entries with one more entry, and worked examples.
use Rattle.std.proofs.Common.{◌≡◌, ℕ, ◌+◌, ◌<◌, true, List, [], ◌∷◌, ◌++◌, length, take, get_or, refl, sym, ap, ◌∙◌, append_assoc, arith}
use Rattle.std.specs.Fmt.{digits}
use Rattle.std.proofs.lemmas.List.{append-nil, take_more, length-take-le}
use Rattle.std.specs.Prelude.{codes, slice_index_or, if◌then◌else◌}
use Rattle.crush_edits.specs.declared.edit.Edit.TheVariants.{Reweight, Remove}
use Rattle.crush_edits.specs.declared.refusal.Refusal.TheVariants.{NotEmpty, NoSuchItem}
use Rattle.crush_history.specs.declared.call.Call.TheVariants.{One, Batch, Guarded}
use Rattle.crush_history.specs.declared.call.Reply.TheVariants.{Done, Dones, Refused, BatchRefused, Stale}
use Rattle.crush_history.specs.declared.entry.Entry.{Entry}
use Rattle.crush_history.specs.History.{EntryData}
use Rattle.crush_history.specs.HistoryText.{line_head, reply_text}
use Rattle.crush_history.specs.Refused.{is_refused, refusals, refused_line, refused_text}

-- the lines with one more entry are the lines before, followed by this entry's line if it was refused
refused_text-push : (names : List (List ℕ)) (n : ℕ) (h : List EntryData) (e : EntryData)
    → refused_text names n (h ++ e ∷ []) ≡ refused_text names n h ++ refused_line (n + length h) (slice_index_or names e.operator []) e
unfolding refused_text
refused_text-push names n [] e = append-nil _ ∙ ap (λ m. refused_line m (slice_index_or names e.operator []) e) (omega arith)
refused_text-push names n (f ∷ h) e =
    ap (λ z. refused_line n (slice_index_or names f.operator []) f ++ z) (refused_text-push names (n + 1) h e ∙ ap (λ m. refused_text names (n + 1) h ++ refused_line m (slice_index_or names e.operator []) e) (omega arith))
    ∙ sym (append_assoc (refused_line n (slice_index_or names f.operator []) f) (refused_text names (n + 1) h) _)

pub refused-take : (names : List (List ℕ)) (entries : List Entry) (i : ℕ) (e : Entry) → i < length entries → e ≡ get_or entries i e
    → refused_text names 1 (take (i + 1) entries) ≡ refused_text names 1 (take i entries) ++ refused_line (i + 1) (slice_index_or names e.operator []) e
refused-take names entries i e h is =
    let so_far : List EntryData = take i entries in
    let long : length so_far ≡ i = length-take-le i entries (omega arith) in
    ap (λ xs. refused_text names 1 xs) (take_more entries i e h)
    ∙ refused_text-push names 1 so_far (get_or entries i e)
    ∙ ap (λ (z : Entry). refused_text names 1 so_far ++ refused_line (1 + length so_far) (slice_index_or names z.operator []) z) (sym is)
    ∙ ap (λ n. refused_text names 1 so_far ++ refused_line n (slice_index_or names e.operator []) e) (omega (arith, long))

pub no_refused : (names : List (List ℕ)) → ◌≡◌ {A = List ℕ} [] (refused_text names 1 [])
unfolding refused_text
no_refused names = refl

-- one more entry adds at most one refusal
refusals-push : (h : List EntryData) (e : EntryData) → refusals (h ++ e ∷ []) ≡ refusals h + (if is_refused e.reply then 1 else 0)
unfolding refusals
refusals-push [] e = omega arith
refusals-push (f ∷ h) e = omega (arith, refusals-push h e)

pub refusals-take : (entries : List Entry) (i : ℕ) (e : Entry) → i < length entries → e ≡ get_or entries i e → refusals (take (i + 1) entries) ≡ refusals (take i entries) + (if is_refused e.reply then 1 else 0)
refusals-take entries i e h is =
    ap (λ xs. refusals xs) (take_more entries i e h)
    ∙ refusals-push (take i entries) (get_or entries i e)
    ∙ ap (λ (z : Entry). refusals (take i entries) + (if is_refused z.reply then 1 else 0)) (sym is)

pub no_refusals : ◌≡◌ {A = ℕ} 0 (refusals [])
unfolding refusals
no_refusals = refl

-- an example: of three calls, the first and the last are refused
example : refused_text (codes "a" ∷ []) 1 ((record { operator = 0; call = One (Remove (codes "default")); reply = Refused NotEmpty }) ∷ ((record { operator = 0; call = One (Reweight (codes "osd.0") 131072); reply = Done (record { changed = true; made = 0 }) }) ∷ ((record { operator = 0; call = One (Remove (codes "x")); reply = Refused NoSuchItem }) ∷ [])))
    ≡ codes "# 1 a rm default = refused NotEmpty 39\n# 3 a rm x = refused NoSuchItem 2\n"
unfolding refused_text line_head reply_text digits
example = refl

-- an example of a refused batch
batch_example : refused_text (codes "a" ∷ []) 1 ((record { operator = 0; call = Batch (Remove (codes "osd.0") ∷ (Remove (codes "default") ∷ [])); reply = BatchRefused 1 NotEmpty }) ∷ [])
    ≡ codes "# 1 a begin ; rm osd.0 ; rm default ; commit = refused at 1 NotEmpty 39\n"
unfolding refused_text line_head reply_text digits
batch_example = refl

-- an example of a guarded batch that is stale
stale_example : refused_text (codes "a" ∷ []) 1 ((record { operator = 0; call = Guarded 0 (Reweight (codes "osd.0") 131072 ∷ []); reply = Dones (record { edits = 1; changed = 1; made = 0 }) }) ∷ ((record { operator = 0; call = Guarded 0 (Reweight (codes "osd.0") 131072 ∷ []); reply = Stale 1 }) ∷ []))
    ≡ codes "# 2 a begin at 0 ; reweight osd.0 2.00000 ; commit = refused Stale 11 changes 1\n"
unfolding refused_text line_head reply_text digits
stale_example = refl
