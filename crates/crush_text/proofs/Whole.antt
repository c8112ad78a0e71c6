-- The result of reading a whole text.
use Rattle.std.proofs.Common.{◌≡◌, ℕ, List, Ok, sym, ap, subst, ◌∙◌, inl, inr, refl}
use Rattle.crush_model.specs.Table.{Row}
use Rattle.crush_edits.specs.Setting.{SettingData}
use Rattle.crush_builder.specs.Built.{Draft}
use Rattle.crush_units.specs.Words.{Text, words}
use Rattle.crush_text.specs.declared.fault.TextFault.{TextFault}
use Rattle.crush_text.specs.Flow.{outcome, Reaches}
use Rattle.crush_text.specs.Document.{start, IsMapText}
use Rattle.crush_text.specs.Flaw.{IsOutOfMemory, IsFlawOrOutOfMemory}
use Rattle.crush_text.specs.InTime.{IsFoundInTime}
use Rattle.crush_text.specs.Reads.{Fails}
use Rattle.crush_text.specs.ReadsStatements.{FailsText}
use Rattle.crush_text.proofs.Laws.{document_of, outcome_of, flaw_of, right_up_to, no_flaw_of_memory}

-- a text builds only one draft
pub one_draft : (d e : Draft) (t : Text) → outcome start t ≡ Ok d → outcome start t ≡ Ok e → d ≡ e
one_draft d e t x y = let k = sym x ∙ y in cc

-- a fault of reading all statements is a fault of the text
pub text_fails : (f : TextFault) (t : Text) → Fails f start t → FailsText f t
text_fails f t (inl h) = inl (h.0, inl h.1)
text_fails f t (inr h) = inr h

-- READING a text that consists of these words: if the text has no flaw, the result is its map, and there is only one such map
module _ (bytes : List ℕ) (t : Text) (is : t ≡ words 0 bytes) where
  -- the result of reading the words is that of the bytes
  same : {r : _} → outcome start t ≡ r → outcome start (words 0 bytes) ≡ r
  same h = ap (outcome start) (sym is) ∙ h

  -- a fault is a flaw, or OutOfMemory
  pub is_flaw : (f : TextFault) → FailsText f t → IsFlawOrOutOfMemory bytes f
  is_flaw f (inl h) = inl h.0
  is_flaw f (inr h) = inr (flaw_of (words 0 bytes) f (same h))

  -- out of memory is reported before any flaw
  pub in_time : (f : TextFault) → FailsText f t → IsFoundInTime bytes f
  in_time f (inl (want, inl h)) k = inl (right_up_to (words 0 bytes) f.place (subst (λ (u : Text). Reaches f.place start u.words) is h))
  in_time f (inl (want, inr h)) k = inr (sym is ∙ h)
  in_time f (inr h) want = absurd (no_flaw_of_memory (words 0 bytes) f (flaw_of (words 0 bytes) f (same h)) want)

  -- if the bytes are a map's text, then reading them can only fail with OutOfMemory
  pub no_map : (f : TextFault) (s : SettingData) (u : List Row) (n : ℕ) → FailsText f t → IsMapText bytes s u n → IsOutOfMemory f
  no_map f s u n (inl h) m = h.0
  no_map f s u n (inr h) m = let k = sym (outcome_of (words 0 bytes) m.draft m.document) ∙ same h in absurd cc

  -- if reading gives a draft, then the bytes are the text of this map
  pub is_map : (d : Draft) → outcome start t ≡ Ok d → IsMapText bytes d.setting d.table d.adjusted
  is_map d h = record { draft = d; document = document_of (words 0 bytes) d (same h); setting = refl; table = refl; count = refl }

  -- and the bytes are the text of no other map
  pub only_map : (d : Draft) (s : SettingData) (u : List Row) (n : ℕ) → outcome start t ≡ Ok d → IsMapText bytes s u n → (d.setting ≡ s) × (d.table ≡ u) × (d.adjusted ≡ n)
  only_map d s u n h m =
      let k : d ≡ m.draft = one_draft d m.draft (words 0 bytes) (same h) (outcome_of (words 0 bytes) m.draft m.document) in
      (ap (λ (e : Draft). e.setting) k ∙ m.setting, ap (λ (e : Draft). e.table) k ∙ m.table, ap (λ (e : Draft). e.adjusted) k ∙ m.count)
