-- Proves that a text whose words spell a lawful document is the text of the document's map.
use Rattle.std.proofs.Common.{◌≡◌, ℕ, ◌+◌, Bool, true, false, List, [], ◌∷◌, ◌++◌, refl, sym, subst, ◌∙◌, append_assoc, append-nil, add_assoc, arith}
use Rattle.std.specs.Prelude.{All, flat_map}
use Rattle.crush_model.specs.Table.{Row}
use Rattle.crush_model.specs.Lawful.{Lawful}
use Rattle.crush_edits.specs.Setting.{KindData, TunableData, RuleData, SettingData}
use Rattle.crush_edits.specs.Fits.{Fits, IsKind}
use Rattle.crush_builder.specs.Built.{Draft}
use Rattle.crush_units.specs.Words.{words, texts}
use Rattle.crush_text.specs.Form.{second, at}
use Rattle.crush_text.specs.Flow.{between}
use Rattle.crush_text.specs.Document.{start, IsMapText}
use Rattle.crush_text.proofs.Reserved.{no_key}
use Rattle.crush_laws.specs.Final.{LeadTo}
use Rattle.crush_laws.specs.Document.{Second, bucket, rule, Document}
use Rattle.crush_laws.specs.Spells.{SpellsEach, SpellsSecond, Spells}
use Rattle.crush_laws.specs.Meaning.{first_tunables, with_second, with_seconds, adjusted_in, adjusted_by, rules_in, rules_by, UsesNames, UseNames, kinds_of, devices_of, setting_of, table_of, adjusted, LawfulDocument, SpellsMap}
use Rattle.crush_laws.proofs.Allowed.{type_named}
use Rattle.crush_laws.proofs.BuiltLines.{plain, plain_texts, idle}
use Rattle.crush_laws.proofs.FinalTexts.{maps_are_the_lawful_ends}
use Rattle.crush_laws.proofs.SpelledLines.{lead_alike, NoClass, draft, firsts_lead}
use Rattle.crush_laws.proofs.SpelledBuckets.{bucket_leads}
use Rattle.crush_laws.proofs.SpelledRules.{rule_leads}

module _ (ks : List KindData) (kinds : All IsKind ks) (ts : List TunableData) (e : Draft) where
  -- the words of a bucket or a rule lead on, after the first part or after other buckets and rules
  second_leads : (late : Bool) (x : Second) (rs : List RuleData) (t : List Row) (a : ℕ) (ws rest : List (List ℕ)) → SpellsSecond x ws rest → UsesNames ks x t
      → LeadTo (between (at second (draft ks ts (rs ++ rules_in t x) (with_second ks x t) (a + adjusted_in ks x t)))) (plain rest) e → LeadTo (between (at (idle late) (draft ks ts rs t a))) (plain ws) e
  second_leads late (bucket b) rs t a ws rest h uses k =
      bucket_leads ks ts rs e late b t a ws rest h (type_named ks b.kind kinds uses.0).free uses.0 uses.1
      (subst (λ (v : List RuleData). LeadTo (between (at second (draft ks ts v (with_second ks (bucket b) t) (a + adjusted_in ks (bucket b) t)))) (plain rest) e) (append-nil rs) k)
  second_leads late (rule r) rs t a ws rest h uses k =
      let none : a + 0 ≡ a = omega arith in
      rule_leads ks ts rs t a e late r ws rest h uses (subst (λ (v : ℕ). LeadTo (between (at second (draft ks ts (rs ++ rules_in t (rule r)) t v))) (plain rest) e) none k)

  -- the words of no bucket and no rule begin with `class`
  seconds_begin : (xs : List Second) (t : List Row) (ws : List (List ℕ)) → SpellsEach SpellsSecond xs ws [] → UseNames ks xs t → NoClass ws
  seconds_begin [] t ws h uses = subst NoClass (sym h) refl
  seconds_begin (bucket b ∷ xs) t ws h uses = subst NoClass (sym h.1.head) (no_key b.kind (type_named ks b.kind kinds uses.0.0).free).class
  seconds_begin (rule r ∷ xs) t ws h uses = subst NoClass (sym h.1.head) refl

  -- the words of all buckets and rules lead on
  seconds_lead : (late : Bool) (xs : List Second) (rs : List RuleData) (t : List Row) (a : ℕ) (ws : List (List ℕ)) → SpellsEach SpellsSecond xs ws [] → UseNames ks xs t
      → draft ks ts (rs ++ rules_by ks xs t) (with_seconds ks xs t) (a + adjusted_by ks xs t) ≡ e → LeadTo (between (at (idle late) (draft ks ts rs t a))) (plain ws) e
  seconds_lead late [] rs t a ws h uses is = subst (λ (v : List (List ℕ)). LeadTo (between (at (idle late) (draft ks ts rs t a))) (plain v) e) (sym h) (whole late)
    where
      same : draft ks ts rs t a ≡ draft ks ts (rs ++ []) t (a + 0)
      same = let none : a ≡ a + 0 = omega arith in λ i. draft ks ts (sym (append-nil rs) i) t (none i)

      whole : (late : Bool) → LeadTo (between (at (idle late) (draft ks ts rs t a))) [] e
      whole false = (same ∙ is, refl)
      whole true = (same ∙ is, refl)
  seconds_lead late (x ∷ xs) rs t a ws h uses is =
      let u : List Row = with_second ks x t in
      let n : ℕ = a + adjusted_in ks x t in
      let same : draft ks ts ((rs ++ rules_in t x) ++ rules_by ks xs u) (with_seconds ks xs u) (n + adjusted_by ks xs u) ≡ draft ks ts (rs ++ (rules_in t x ++ rules_by ks xs u)) (with_seconds ks xs u) (a + (adjusted_in ks x t + adjusted_by ks xs u)) =
      λ i. draft ks ts (append_assoc rs (rules_in t x) (rules_by ks xs u) i) (with_seconds ks xs u) (add_assoc a (adjusted_in ks x t) (adjusted_by ks xs u) i) in
      second_leads late x rs t a ws h.0 h.1 uses.0 (seconds_lead true xs (rs ++ rules_in t x) u n h.0 h.2 uses.1 (same ∙ is))

-- the draft that a document builds
abbrev built : Document → Draft
built doc = draft (kinds_of doc) (flat_map first_tunables doc.first) (rules_by (kinds_of doc) doc.second (devices_of doc)) (table_of doc) (adjusted doc)

-- the words of a document lead to this draft
document_leads : (doc : Document) (ws : List (List ℕ)) → Spells ws doc → LawfulDocument doc → LeadTo start (plain ws) (built doc)
document_leads doc ws h l =
    let ks : List KindData = kinds_of doc in
    let ts : List TunableData = flat_map first_tunables doc.first in
    let kinds : All IsKind ks = l.fits.setting.kinds in
    let none : 0 + adjusted doc ≡ adjusted doc = omega arith in
    firsts_lead doc.first [] [] [] ws h.0 (built doc) h.1 (seconds_begin ks kinds ts (built doc) doc.second (devices_of doc) h.0 h.2 l.names)
    (seconds_lead ks kinds ts (built doc) false doc.second [] (devices_of doc) 0 h.0 h.2 l.names (λ i. draft ks ts (rules_by ks doc.second (devices_of doc)) (table_of doc) (none i)))

pub lawful_document_is_map : (bytes : List ℕ) (s : SettingData) (t : List Row) (n : ℕ) → SpellsMap bytes s t n → IsMapText bytes s t n
lawful_document_is_map bytes s t n x =
    let ws = (words 0 bytes).words in
    let doc : Document = x.document in
    (maps_are_the_lawful_ends bytes s t n).1 (record {
      draft = built doc;
      led = lead_alike start (plain (texts ws)) ws (built doc) (plain_texts (texts ws)) (document_leads doc (texts ws) x.spelled x.lawful);
      end = x.end;
      setting = x.setting;
      table = x.table;
      count = x.count;
      lawful = subst Lawful x.table x.lawful.lawful;
      fits = subst (λ (q : SettingData). Fits q t) x.setting (subst (Fits (setting_of doc)) x.table x.lawful.fits);
    })
