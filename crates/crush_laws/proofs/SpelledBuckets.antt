-- Proves that the words of a bucket lead to the draft that the document means.
use Rattle.std.proofs.Common.{◌≡◌, ℕ, ◌+◌, ◌<◌, Bool, true, false, List, [], ◌∷◌, ◌++◌, Option, Some, None, Ok, refl, sym, ap, subst, ◌∙◌, append_assoc, append-nil, add_assoc, arith, inl, inr}
use Rattle.std.proofs.lemmas.Bool.{and_parts, eqb-true}
use Rattle.std.specs.Prelude.{codes, drop, unwrap_or, slice_index, ◌==◌, ◌&&◌, option_and_then, if◌then◌else◌}
use Rattle.crush_units.specs.declared.alg.Alg.{Alg}
use Rattle.crush_units.specs.declared.alg.Alg.TheVariants.{Straw2}
use Rattle.crush_units.specs.declared.id.ItemId.{ItemId}
use Rattle.crush_units.specs.declared.id.ItemId.TheVariants.{Device}
use Rattle.crush_units.specs.declared.limits.TheConstants.{FARTHEST_BUCKET_ID}
use Rattle.crush_units.specs.Alg.{alg_text, alg_of_text}
use Rattle.crush_units.specs.Weight.{are_digits}
use Rattle.crush_units.proofs.Algs.{alg_of_text-alg_text}
use Rattle.crush_model.specs.Items.{ShadowData}
use Rattle.crush_model.specs.Table.{Row, is_placed}
use Rattle.crush_edits.specs.Setting.{KindData, TunableData, RuleData}
use Rattle.crush_edits.specs.Fits.{is_reserved}
use Rattle.crush_map.specs.WrittenItems.{put_below, weight_or_one, adjustment}
use Rattle.crush_builder.specs.Built.{Draft, Pending, numbered as is_numbered, filling as is_filling, with_class_id, with_alg, with_next_item}
use Rattle.crush_builder.specs.Building.{closed_item, item_named}
use Rattle.crush_units.specs.Words.{begins_with_key}
use Rattle.crush_units.specs.Numbers.{is_number}
use Rattle.crush_text.specs.Role.{key, number, item_of, units, units_or_none}
use Rattle.crush_text.specs.Form.{second, numbered, filling, at, Form, done, word, optional, passing}
use Rattle.crush_text.specs.Grammar.{bucket_line, item_line, weightless_item}
use Rattle.crush_text.specs.Flow.{between, amid}
use Rattle.crush_laws.specs.Admitted.{IsFree}
use Rattle.crush_laws.specs.Final.{LeadTo}
use Rattle.crush_laws.specs.Document.{ItemLine, BucketLines}
use Rattle.crush_laws.specs.Spells.{IsBucketNumber, SpellsEach, SpellsClassId, SpellsHash, SpellsWeighed, SpellsItem, SpellsBucket}
use Rattle.crush_laws.specs.Meaning.{kind_number_in, item_in, with_items, with_bucket, adjusted_items, IsListable, AreListable}
use Rattle.crush_laws.proofs.BuiltLines.{plain, idle, opens_bucket}
use Rattle.crush_laws.proofs.Admitted.{opens}
use Rattle.crush_laws.proofs.SpelledLines.{words_lead, lacking, draft}
use Rattle.crush_text.specs.declared.expected.Optional.TheVariants.{Hash, Weight}
use Rattle.crush_laws.proofs.LeftOut.{lead_so}

-- THE FORM of a bucket's id: `-` and digits
negative : (n : ℕ) (w : List ℕ) → IsBucketNumber n w → (slice_index w 0 ≡ 45) × (are_digits 10 (drop 1 w) ≡ true)
negative n w h =
    let all = and_parts ((slice_index w 0 == 45) && is_number FARTHEST_BUCKET_ID (drop 1 w)) _ h.0 in
    let two = and_parts (slice_index w 0 == 45) _ all.0 in
    (eqb-true _ _ two.0, (and_parts (are_digits 10 (drop 1 w)) _ two.1).0)

module _ (ks : List KindData) (ts : List TunableData) (rs : List RuleData) (e : Draft) where
  -- the draft in the middle of a bucket
  abbrev amid_bucket : List Row → ℕ → Pending → Draft
  amid_bucket t a p = record { setting = record { kinds = ks; tunables = ts; rules = rs }; table = t; pending = p; adjusted = a }

  -- ITEMS of a bucket lead on
  -- an item that can be listed is in the table, is closed and has no parent
  found : (t : List Row) (a b : ℕ) (x : List ℕ) → IsListable b t x → item_named (amid_bucket t a (is_filling b)) x ≡ Some (item_in t x)
  found t a b x h = ap (option_and_then (closed_item (is_filling b))) h.there ∙ ap (λ c. if c then None else Some (item_in t x)) h.closed

  found_item : (t : List Row) (a b : ℕ) (x : List ℕ) → IsListable b t x → item_of (amid_bucket t a (is_filling b)) x ≡ item_in t x
  found_item t a b x h = ap (λ o. unwrap_or o (Device 0)) (found t a b x h)

  free : (t : List Row) (a b : ℕ) (x : List ℕ) → IsListable b t x → IsFree (amid_bucket t a (is_filling b)) x
  free t a b x h = let is = found_item t a b x h in (found t a b x h ∙ ap (λ (i : ItemId). Some i) (sym is), ap (is_placed t) is ∙ h.once)

  -- one item leads on: if the item has no weight, the word after it isn't `weight`
  item_leads : (any : Bool) (b : ℕ) (x : List ℕ) (w : Option ℕ) (t : List Row) (a : ℕ) (ws rest : List (List ℕ)) → SpellsWeighed x w ws rest → begins_with_key (codes "weight") (plain rest) ≡ false → IsListable b t x
      → LeadTo (between (at (filling true) (with_next_item (amid_bucket t a (is_filling b)) (item_in t x) w))) (plain rest) e → LeadTo (between (at (filling any) (amid_bucket t a (is_filling b)))) (plain ws) e
  item_leads any b x None t a ws rest h other l k =
      let d : Draft = amid_bucket t a (is_filling b) in
      subst (λ (v : List (List ℕ)). LeadTo (between (at (filling any) d)) (plain v) e) (sym h)
      (words_lead (between (at (filling any) d)) (codes "item" ∷ []) (x ∷ rest) e (inl refl, tt)
      (lacking d (item_line d) (x ∷ rest) e other
      (words_lead (amid d (weightless_item d)) (x ∷ []) rest e (free t a b x l, tt)
      (lead_so (between (passing Weight (at (filling true) (with_next_item d (item_of d x) None)))) (between (at (filling true) (with_next_item d (item_of d x) None))) (plain rest) e refl
      (subst (λ (i : ItemId). LeadTo (between (at (filling true) (with_next_item d i None))) (plain rest) e) (sym (found_item t a b x l)) k)))))
  item_leads any b x (Some u) t a ws rest h other l k =
      let d : Draft = amid_bucket t a (is_filling b) in
      let is : units h.0 ≡ u = ap units_or_none h.1 in
      subst (λ (v : List (List ℕ)). LeadTo (between (at (filling any) d)) (plain v) e) (sym h.2)
      (words_lead (between (at (filling any) d)) (codes "item" ∷ x ∷ codes "weight" ∷ h.0 ∷ []) rest e (inl refl, (free t a b x l, (refl, (h.1 ∙ ap (λ (v : ℕ). Ok v) (sym is), tt))))
      (subst (λ (i : ItemId). LeadTo (between (at (filling true) (with_next_item d i (Some (units h.0))))) (plain rest) e) (sym (found_item t a b x l))
      (subst (λ (v : ℕ). LeadTo (between (at (filling true) (with_next_item d (item_in t x) (Some v)))) (plain rest) e) (sym is) k)))

  -- the words at a place for items begin with `item` or with the closing brace
  abbrev Begins : List ℕ → List (List ℕ) → Type 0
  Begins k ws = begins_with_key k (plain ws) ≡ false

  item_begins : (w : Option ℕ) (x : List ℕ) (ws rest : List (List ℕ)) (P : List (List ℕ) → Type 0) → ((more : List (List ℕ)) → P (codes "item" ∷ more)) → SpellsWeighed x w ws rest → P ws
  item_begins None x ws rest P all h = subst P (sym h) (all (x ∷ rest))
  item_begins (Some u) x ws rest P all h = subst P (sym h.2) (all (x ∷ codes "weight" ∷ h.0 ∷ rest))

  items_begin : (is : List ItemLine) (ws rest : List (List ℕ)) (P : List (List ℕ) → Type 0) → ((more : List (List ℕ)) → P (codes "item" ∷ more)) → P (codes "}" ∷ rest) → SpellsEach SpellsItem is ws (codes "}" ∷ rest) → P ws
  items_begin [] ws rest P all end h = subst P (sym h) end
  items_begin (i ∷ is) ws rest P all end h = item_begins i.weight i.name ws h.0 P all h.1

  -- the words of all items and the closing brace lead on
  items_lead : (any : Bool) (b : ℕ) (is : List ItemLine) (t : List Row) (a : ℕ) (ws rest : List (List ℕ)) → SpellsEach SpellsItem is ws (codes "}" ∷ rest) → AreListable b is t
      → LeadTo (between (at second (draft ks ts rs (with_items b is t) (a + adjusted_items b is t)))) (plain rest) e → LeadTo (between (at (filling any) (amid_bucket t a (is_filling b)))) (plain ws) e
  items_lead any b [] t a ws rest h l k =
      let d : Draft = amid_bucket t a (is_filling b) in
      let none : a + 0 ≡ a = omega arith in
      subst (λ (v : List (List ℕ)). LeadTo (between (at (filling any) d)) (plain v) e) (sym h)
      (words_lead (between (at (filling any) d)) (codes "}" ∷ []) rest e (inr refl, tt) (subst (λ (v : ℕ). LeadTo (between (at second (draft ks ts rs t v))) (plain rest) e) none k))
  items_lead any b (i ∷ is) t a ws rest h l k =
      let u : List Row = put_below b (item_in t i.name) (weight_or_one i.weight) t in
      let n : ℕ = adjustment t (item_in t i.name) i.weight in
      item_leads any b i.name i.weight t a ws h.0 h.1 (items_begin is h.0 rest (Begins (codes "weight")) (λ _. refl) refl h.2) l.0
      (items_lead true b is u (a + n) h.0 rest h.2 l.1
      (subst (λ (v : ℕ). LeadTo (between (at second (draft ks ts rs (with_items b is u) v))) (plain rest) e) (sym (add_assoc a n (adjusted_items b is u))) k))

  -- THE HEAD of a bucket leads on
  -- the words of class ids lead on
  class_ids_lead : (t : List Row) (a kind : ℕ) (x : List ℕ) (b : ℕ) (cs xs : List ShadowData) (ws rest : List (List ℕ)) → SpellsEach SpellsClassId xs ws rest
      → LeadTo (between (at numbered (amid_bucket t a (is_numbered kind x b (cs ++ xs))))) (plain rest) e → LeadTo (between (at numbered (amid_bucket t a (is_numbered kind x b cs)))) (plain ws) e
  class_ids_lead t a kind x b cs [] ws rest h k =
      subst (λ (v : List (List ℕ)). LeadTo (between (at numbered (amid_bucket t a (is_numbered kind x b cs)))) (plain v) e) (sym h)
      (subst (λ (v : List ShadowData). LeadTo (between (at numbered (amid_bucket t a (is_numbered kind x b v)))) (plain rest) e) (append-nil cs) k)
  class_ids_lead t a kind x b cs (c ∷ xs) ws rest h k =
      let d : Draft = amid_bucket t a (is_numbered kind x b cs) in
      subst (λ (v : List (List ℕ)). LeadTo (between (at numbered d)) (plain v) e) (sym h.1.2)
      (words_lead (between (at numbered d)) (codes "id" ∷ h.1.0 ∷ codes "class" ∷ c.class ∷ []) h.0 e (inl refl, (negative c.id h.1.0 h.1.1, (refl, (tt, tt))))
      (subst (λ (v : ℕ). LeadTo (between (at numbered (with_class_id d v c.class))) (plain h.0) e) (sym h.1.1.1)
      (class_ids_lead t a kind x b (cs ++ c ∷ []) xs h.0 rest h.2
      (subst (λ (v : List ShadowData). LeadTo (between (at numbered (amid_bucket t a (is_numbered kind x b v)))) (plain rest) e) (sym (append_assoc cs (c ∷ []) xs)) k))))

  -- the form that is due after the algorithm: `hash` or nothing
  abbrev behind_algorithm : Draft → Alg → Form
  behind_algorithm d a = optional (codes "hash") (word (key (codes "hash")) (λ _. word (number 0) (λ _. done (at (filling false) (with_alg d a))))) (done (passing Hash (at (filling false) (with_alg d a))))

  algorithm_leads : (d : Draft) (alg : Alg) (ws rest : List (List ℕ)) → SpellsHash ws rest → begins_with_key (codes "hash") (plain rest) ≡ false → LeadTo (between (at (filling false) (with_alg d alg))) (plain rest) e
      → LeadTo (between (at numbered d)) (plain (codes "alg" ∷ alg_text alg ∷ ws)) e
  algorithm_leads d alg ws rest (inl h) other k =
      let v : Alg = unwrap_or (alg_of_text (alg_text alg)) Straw2 in
      subst (λ (x : List (List ℕ)). LeadTo (between (at numbered d)) (plain (codes "alg" ∷ alg_text alg ∷ x)) e) (sym h)
      (words_lead (between (at numbered d)) (codes "alg" ∷ alg_text alg ∷ []) rest e (inr refl, ((alg, refl), tt))
      (lacking d (behind_algorithm d v) rest e other
      (lead_so (between (passing Hash (at (filling false) (with_alg d v)))) (between (at (filling false) (with_alg d v))) (plain rest) e refl
      (subst (λ (x : Alg). LeadTo (between (at (filling false) (with_alg d x))) (plain rest) e) (sym (ap (λ o. unwrap_or o Straw2) (alg_of_text-alg_text alg))) k))))
  algorithm_leads d alg ws rest (inr h) other k =
      subst (λ (x : List (List ℕ)). LeadTo (between (at numbered d)) (plain (codes "alg" ∷ alg_text alg ∷ x)) e) (sym h.2)
      (words_lead (between (at numbered d)) (codes "alg" ∷ alg_text alg ∷ codes "hash" ∷ h.0 ∷ []) rest e (inr refl, ((alg, refl), (refl, (h.1.0, tt))))
      (subst (λ (x : Alg). LeadTo (between (at (filling false) (with_alg d x))) (plain rest) e) (sym (ap (λ o. unwrap_or o Straw2) (alg_of_text-alg_text alg))) k))

  -- THE BUCKET as a whole leads on
  pub bucket_leads : (late : Bool) (b : BucketLines) (t : List Row) (a : ℕ) (ws rest : List (List ℕ)) → SpellsBucket b ws rest → is_reserved b.kind ≡ false → 0 < kind_number_in ks b.kind → AreListable b.id b.items (with_bucket ks b t)
      → LeadTo (between (at second (draft ks ts rs (with_items b.id b.items (with_bucket ks b t)) (a + adjusted_items b.id b.items (with_bucket ks b t))))) (plain rest) e → LeadTo (between (at (idle late) (draft ks ts rs t a))) (plain ws) e
  bucket_leads late b t a ws rest h free some l k =
      let d : Draft = draft ks ts rs t a in
      let n : ℕ = kind_number_in ks b.kind in
      let begins = λ (i : ℕ). amid_bucket t a (is_numbered n b.name i []) in
      subst (λ (x : List (List ℕ)). LeadTo (between (at (idle late) d)) (plain x) e) (sym h.head) (
        amid d (bucket_line d n),
        opens_bucket late d n b.kind (plain (b.name ∷ codes "{" ∷ codes "id" ∷ h.id ∷ h.behind_id)) some (opens d b.kind n free refl),
        words_lead (amid d (bucket_line d n)) (b.name ∷ codes "{" ∷ codes "id" ∷ h.id ∷ []) h.behind_id e (tt, (refl, (refl, (negative b.id h.id h.number, tt))))
            (subst (λ (i : ℕ). LeadTo (between (at numbered (begins i))) (plain h.behind_id) e) (sym h.number.1)
            (class_ids_lead t a n b.name b.id [] b.class_ids h.behind_id (codes "alg" ∷ alg_text b.alg ∷ h.behind_alg) h.class_ids
            (algorithm_leads (amid_bucket t a (is_numbered n b.name b.id b.class_ids)) b.alg h.behind_alg h.behind_hash h.hash (items_begin b.items h.behind_hash rest (Begins (codes "hash")) (λ _. refl) refl h.items)
            (items_lead false b.id b.items (with_bucket ks b t) a h.behind_hash rest h.items l k)))),
      )
