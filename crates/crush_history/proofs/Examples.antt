-- The definitions, computed on worked examples.
use Rattle.std.proofs.Common.{◌≡◌, true, false, [], ◌∷◌, refl, lit<}
use Rattle.std.proofs.lemmas.Fmt.{decimal_digit}
use Rattle.std.specs.Fmt.{digits}
use Rattle.std.specs.Prelude.{codes}
use Rattle.crush_units.specs.declared.limits.TheConstants.{UNITS_OF_ONE}
use Rattle.crush_edits.specs.declared.edit.Edit.TheVariants.{Place, Reweight, Remove, Rename}
use Rattle.crush_edits.specs.declared.edit.Placing.TheVariants.{Insert}
use Rattle.crush_edits.specs.declared.refusal.Refusal.TheVariants.{NotPlaced, NoSuchItem}
use Rattle.crush_edits.specs.EditText.{edit_text}
use Rattle.crush_history.specs.declared.call.Call.TheVariants.{One, Batch, Guarded}
use Rattle.crush_history.specs.declared.call.Reply.TheVariants.{Done, Dones, Refused, BatchRefused, Stale}
use Rattle.crush_history.specs.HistoryText.{line_head, line_text, reply_text}

-- an edit as its command
put_text : edit_text (Place Insert 3 (codes "osd.3") 21823 ((record { kind = codes "host"; name = codes "h3" }) ∷ ((record { kind = codes "rack"; name = codes "r1" }) ∷ ((record { kind = codes "root"; name = codes "default" }) ∷ [])))) ≡ codes "add osd.3 0.33299 host=h3 rack=r1 root=default"
put_text = rw (decimal_digit 0 (lit< tt)) refl

remove_text : edit_text (Remove (codes "osd.0")) ≡ codes "rm osd.0"
remove_text = refl

-- the lines of a history
done_line : line_text 1 (codes "a") (One (Reweight (codes "osd.2") UNITS_OF_ONE)) (Done (record { changed = true; made = 0 })) ≡ codes "# 1 a reweight osd.2 1.00000 = done changed 1 made 0\n"
unfolding line_head reply_text
done_line = rw (decimal_digit 1 (lit< tt), decimal_digit 0 (lit< tt)) refl

same_line : line_text 2 (codes "b") (One (Reweight (codes "osd.0") 131072)) (Done (record { changed = false; made = 0 })) ≡ codes "# 2 b reweight osd.0 2.00000 = done changed 0 made 0\n"
unfolding line_head reply_text
same_line = rw (decimal_digit 2 (lit< tt), decimal_digit 0 (lit< tt)) refl

refused_line : line_text 3 (codes "a") (One (Reweight (codes "osd.9") UNITS_OF_ONE)) (Refused NotPlaced) ≡ codes "# 3 a reweight osd.9 1.00000 = refused NotPlaced 2\n"
unfolding line_head reply_text
refused_line = rw (decimal_digit 3 (lit< tt), decimal_digit 1 (lit< tt), decimal_digit 2 (lit< tt)) refl

empty_batch : line_text 2 (codes "a") (Batch []) (Dones (record { edits = 0; changed = 0; made = 0 })) ≡ codes "# 2 a begin ; commit = dones 0 changed 0 made 0\n"
unfolding line_head reply_text
empty_batch = rw (decimal_digit 2 (lit< tt), decimal_digit 0 (lit< tt)) refl

refused_batch : line_text 1 (codes "a") (Batch (Rename (codes "h1") (codes "hq") ∷ (Remove (codes "x") ∷ []))) (BatchRefused 1 NoSuchItem) ≡ codes "# 1 a begin ; rename-bucket h1 hq ; rm x ; commit = refused at 1 NoSuchItem 2\n"
unfolding line_head reply_text
refused_batch = rw (decimal_digit 1 (lit< tt), decimal_digit 2 (lit< tt)) refl

-- a guarded batch that is applied, and the same batch again, which is stale
guarded_line : line_text 1 (codes "a") (Guarded 0 (Reweight (codes "osd.0") 131072 ∷ [])) (Dones (record { edits = 1; changed = 1; made = 0 })) ≡ codes "# 1 a begin at 0 ; reweight osd.0 2.00000 ; commit = dones 1 changed 1 made 0\n"
unfolding line_head reply_text digits
guarded_line = refl

stale_line : line_text 2 (codes "a") (Guarded 0 (Reweight (codes "osd.0") 131072 ∷ [])) (Stale 1) ≡ codes "# 2 a begin at 0 ; reweight osd.0 2.00000 ; commit = refused Stale 11 changes 1\n"
unfolding line_head reply_text digits
stale_line = refl
