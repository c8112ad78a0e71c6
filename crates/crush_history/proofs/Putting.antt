-- Texts that are written one after the other, and a text that is first stored in a buffer on the stack.
use Rattle.std.proofs.Common.{◌≡◌, ◌+◌, ◌<◌, ℕ, List, [], ◌∷◌, ◌++◌, Bool, false, Option, Result, Ok, Err, is_err, OnOk, length, arith, sym, ap, ◌∙◌, append_assoc}
use Rattle.std.proofs.lemmas.List.{append-nil, length-append}
use Rattle.std.specs.Prelude.{codes}
use Rattle.std.specs.List.{FoldsTo, concat}
use Rattle.std.specs.Fmt.{WritesInCalls}
use Rattle.std.specs.Io.KnownBytes.{Appends}
use Rattle.arrayvec.specs.ArrayString.{ArrayString}
use Rattle.crush_units.specs.Writes.{Writes}
use Rattle.crush_units.proofs.Appending.{appends_both, then_less}
use Rattle.crush_edits.specs.declared.edit.Edit.{Edit}
use Rattle.crush_edits.specs.declared.edit.Edit.TheVariants.{Place, Move, Swap, Reweight, ReweightSubtree, Remove, AddBucket, Rename, SetClass, RemoveClass}
use Rattle.crush_edits.specs.EditText.{edit_text}
use Rattle.crush_history.specs.declared.call.Call.{Call}
use Rattle.crush_history.specs.declared.call.Reply.{Reply}
use Rattle.crush_history.specs.HistoryText.{call_text, line_head, line_text, reply_text}

-- a text is written whole, and then another text, perhaps only a proper prefix of it: together they are written like one text
pub then_writes : {X E : Type 0} (r : Result X E) (a b c : Option (List ℕ)) (x y : List ℕ) → Appends a b x → Writes r b c y → Writes r a c (x ++ y)
then_writes (Ok v) a b c x y first second = appends_both a b c x y first second
then_writes (Err e) a b c x y first second = then_less a b c x y first second

-- three parts as one text
pub three_parts : (x y z : List ℕ) → x ++ (y ++ (z ++ [])) ≡ x ++ y ++ z
three_parts x y z = simp (append_assoc, append-nil)

-- five parts as one text
pub five_parts : (v w x y z : List ℕ) → v ++ (w ++ (x ++ (y ++ (z ++ [])))) ≡ v ++ w ++ x ++ y ++ z
five_parts v w x y z = simp (append_assoc, append-nil)

-- t is s with more bytes at the end
abbrev pub IsLonger : ArrayString → List ℕ → ArrayString → Type 0
IsLonger s more t = t.bytes ≡ s.bytes ++ more

-- pieces that are appended to a buffer one after the other are appended as one text
pieces : (s : ArrayString) (parts : List (List ℕ)) (t : ArrayString) → FoldsTo IsLonger s parts t → t.bytes ≡ s.bytes ++ concat parts
pieces s [] t h = ap (λ (x : ArrayString). x.bytes) (sym h) ∙ sym (append-nil s.bytes)
pieces s (x ∷ parts) t h = pieces h.0 parts t h.2 ∙ ap (λ (l : List ℕ). l ++ concat parts) h.1 ∙ append_assoc s.bytes x (concat parts)

-- a buffer that was empty has exactly the text that was written into it
pub stored : {E X : Type 0} (r : Result X E) (s t : ArrayString) (text : List ℕ) → s.bytes ≡ [] → is_err r ≡ false → OnOk r (WritesInCalls IsLonger s text t) → t.bytes ≡ text
stored (Ok x) s t text none ok h = pieces s h.parts t h.calls ∙ ap (λ (l : List ℕ). l ++ concat h.parts) none ∙ h.whole
stored (Err e) s t text none ok h = cc

-- the text of an edit isn't empty
pub edit_is_some : (e : Edit) (end : List ℕ) → 0 < length (edit_text e ++ end)
edit_is_some (Place how device name weight at) end = simp length-append (omega arith)
edit_is_some (Move name at) end = omega arith
edit_is_some (Swap a b) end = omega arith
edit_is_some (Reweight name weight) end = omega arith
edit_is_some (ReweightSubtree name weight) end = omega arith
edit_is_some (Remove name) end = omega arith
edit_is_some (AddBucket name kind) end = omega arith
edit_is_some (Rename from to) end = omega arith
edit_is_some (SetClass name class) end = omega arith
edit_is_some (RemoveClass name) end = omega arith

-- a line of a history is its beginning, then the call, and then the rest of the line
pub line_parts : (number : ℕ) (operator : List ℕ) (call : Call) (reply : Reply) → line_text number operator call reply ≡ line_head number operator ++ (call_text call ++ (codes " = " ++ reply_text reply ++ codes "\n"))
line_parts number operator call reply = simp append_assoc
