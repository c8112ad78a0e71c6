-- The lines of entries that created more buckets than they have `add-bucket` commands, after one more entry, and worked examples.
use Rattle.std.proofs.Common.{◌≡◌, ℕ, ◌+◌, ◌<◌, true, List, [], ◌∷◌, ◌++◌, length, take, get_or, refl, sym, ap, ◌∙◌, append_assoc, arith}
use Rattle.std.specs.Fmt.{digits}
use Rattle.std.proofs.lemmas.List.{append-nil, take_more, length-take-le}
use Rattle.std.specs.Prelude.{codes, slice_index_or}
use Rattle.crush_edits.specs.declared.edit.Edit.TheVariants.{AddBucket, Move}
use Rattle.crush_edits.specs.declared.refusal.Refusal.TheVariants.{NoSuchItem}
use Rattle.crush_history.specs.declared.call.Call.TheVariants.{One, Batch, Guarded}
use Rattle.crush_history.specs.declared.call.Reply.TheVariants.{Done, Dones, Refused}
use Rattle.crush_history.specs.declared.entry.Entry.{Entry}
use Rattle.crush_history.specs.History.{EntryData}
use Rattle.crush_history.specs.HistoryText.{line_head, reply_text}
use Rattle.crush_reasons.specs.Made.{made_line, made_text, makings}

-- the lines after one more entry are the lines before, followed by the line of this entry
made_text-push : (names : List (List ℕ)) (n : ℕ) (h : List EntryData) (e : EntryData)
    → made_text names n (h ++ e ∷ []) ≡ made_text names n h ++ made_line (n + length h) (slice_index_or names e.operator []) e
unfolding made_text
made_text-push names n [] e = append-nil _ ∙ ap (λ m. made_line m (slice_index_or names e.operator []) e) (omega arith)
made_text-push names n (f ∷ h) e =
    ap (λ z. made_line n (slice_index_or names f.operator []) f ++ z) (made_text-push names (n + 1) h e ∙ ap (λ m. made_text names (n + 1) h ++ made_line m (slice_index_or names e.operator []) e) (omega arith))
    ∙ sym (append_assoc (made_line n (slice_index_or names f.operator []) f) (made_text names (n + 1) h) _)

pub made-take : (names : List (List ℕ)) (entries : List Entry) (i : ℕ) (e : Entry) → i < length entries → e ≡ get_or entries i e
    → made_text names 1 (take (i + 1) entries) ≡ made_text names 1 (take i entries) ++ made_line (i + 1) (slice_index_or names e.operator []) e
made-take names entries i e h is =
    let so_far : List EntryData = take i entries in
    let long : length so_far ≡ i = length-take-le i entries (omega arith) in
    ap (λ xs. made_text names 1 xs) (take_more entries i e h)
    ∙ made_text-push names 1 so_far (get_or entries i e)
    ∙ ap (λ (z : Entry). made_text names 1 so_far ++ made_line (1 + length so_far) (slice_index_or names z.operator []) z) (sym is)
    ∙ ap (λ n. made_text names 1 so_far ++ made_line n (slice_index_or names e.operator []) e) (omega (arith, long))

pub no_made : (names : List (List ℕ)) → ◌≡◌ {A = List ℕ} [] (made_text names 1 [])
unfolding made_text
no_made names = refl

-- a command with a mistyped host name, which creates a host
mistyped : EntryData
mistyped = record { operator = 0; call = One (Move (codes "osd.0") (record { kind = codes "host"; name = codes "h11" } ∷ [])); reply = Done (record { changed = true; made = 1 }) }

-- an `add-bucket`, and a command that is refused
output : EntryData
output = record { operator = 0; call = One (AddBucket (codes "h3") (codes "host")); reply = Done (record { changed = true; made = 1 }) }

refused : EntryData
refused = record { operator = 0; call = One (Move (codes "x") (record { kind = codes "host"; name = codes "h11" } ∷ [])); reply = Refused NoSuchItem }

-- a batch that creates only the bucket of its `add-bucket` command, and a batch that also creates another bucket
asked_batch : EntryData
asked_batch = record { operator = 0; call = Batch (AddBucket (codes "h3") (codes "host") ∷ (Move (codes "h3") (record { kind = codes "root"; name = codes "default" } ∷ []) ∷ [])); reply = Dones (record { edits = 2; changed = 2; made = 1 }) }

mistyped_batch : EntryData
mistyped_batch = record { operator = 0; call = Guarded 0 (AddBucket (codes "h3") (codes "host") ∷ (Move (codes "h3") (record { kind = codes "root"; name = codes "defualt" } ∷ []) ∷ [])); reply = Dones (record { edits = 2; changed = 2; made = 2 }) }

history : List EntryData
history = output ∷ (mistyped ∷ (refused ∷ (asked_batch ∷ (mistyped_batch ∷ []))))

-- two of five calls create a bucket without an `add-bucket` command
two_of_five : makings history ≡ 2
unfolding history mistyped output refused asked_batch mistyped_batch
two_of_five = refl

their_lines : made_text (codes "a" ∷ []) 1 history
    ≡ codes "# 2 a move osd.0 host=h11 = done changed 1 made 1\n# 5 a begin at 0 ; add-bucket h3 host ; move h3 root=defualt ; commit = dones 2 changed 2 made 2\n"
unfolding history mistyped output refused asked_batch mistyped_batch made_text line_head reply_text digits
their_lines = refl
