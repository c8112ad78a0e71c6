-- Proves that the words that are read as a line are the words that a production of the grammar spells.
use Rattle.std.proofs.Common.{◌≡◌, ◌⊎◌, ℕ, Bool, true, false, List, ◌∷◌, Option, Some, None, refl, sym, ap, ◌∙◌, inl, inr}
use Rattle.std.proofs.lemmas.Slice.Eq.{bytes_eq-Decides}
use Rattle.std.specs.Prelude.{codes, bytes_eq, unwrap_or, option_and_then, if◌then◌else◌}
use Rattle.std.specs.Str.Parse.{digits_value}
use Rattle.crush_units.specs.declared.id.ItemId.{ItemId}
use Rattle.crush_units.specs.declared.id.ItemId.TheVariants.{Device, Bucket}
use Rattle.crush_units.specs.Id.{same_id}
use Rattle.crush_model.specs.Table.{id_named, is_placed}
use Rattle.crush_builder.specs.Built.{Draft, Pending, filling as is_filling, with_tunable, with_kind, with_device}
use Rattle.crush_builder.specs.Building.{closed_item}
use Rattle.crush_text.specs.declared.fault.TextFaultKind.TheVariants.{BadNumber}
use Rattle.crush_text.specs.Role.{key, item_of}
use Rattle.crush_text.specs.Form.{first, ruled, Progress, at}
use Rattle.crush_text.specs.Grammar.{tunable_line, type_line, device_line, device_class, new_rule, max_size, sizes}
use Rattle.crush_laws.specs.Admitted.{IsFree}
use Rattle.crush_laws.specs.Document.{First, tunable, kind, device}
use Rattle.crush_laws.specs.Spells.{SpellsSize, SpellsFirst}
use Rattle.crush_laws.specs.Meaning.{item_in, IsListable}
use Rattle.crush_laws.proofs.Keeps.{not_false}
use Rattle.crush_laws.proofs.LawfulTexts.{is_for}
use Rattle.crush_laws.proofs.ReadLines.{Line}

-- the first word and the other words of a list may be replaced by equal ones
pub cons_is : (ws : List (List ℕ)) (w k : List ℕ) (us vs : List (List ℕ)) → ws ≡ w ∷ us → w ≡ k → us ≡ vs → ws ≡ k ∷ vs
cons_is ws w k us vs e a b = e ∙ (λ i. a i ∷ b i)

-- a word that is one of two words and isn't the first is the second
pub second_word : (w k l : List ℕ) → bytes_eq w k ≡ false → (w ≡ k) ⊎ (w ≡ l) → w ≡ l
second_word w k l other (inl e) = absurd (let no : true ≡ false = sym ((bytes_eq-Decides w k).1 e) ∙ other in cc)
second_word w k l other (inr e) = e

pub is_word : (w k : List ℕ) → bytes_eq w k ≡ true → w ≡ k
is_word w k e = (bytes_eq-Decides w k).0 e

-- THE FIRST PART of a document: tunables, types and devices
-- the words were read as a statement of the first part, and `made` says the draft after the statement
pub record FirstRead (d : Draft) (words v : List (List ℕ)) (q : Progress) (made : First → Draft) : Type 0 where
  pub statement : First
  pub spelled : SpellsFirst statement words v
  pub leads : at first (made statement) ≡ q

abbrev pub behind_first : Draft → First → Draft
behind_first d (tunable name n) = with_tunable d name n
behind_first d (kind n name) = with_kind d n name
behind_first d (device n name class) = with_device d n name class

pub read_tunable : (d : Draft) (words us v : List (List ℕ)) (q : Progress) → words ≡ codes "tunable" ∷ us → Line d (tunable_line d) us v q → FirstRead d words v q (behind_first d)
read_tunable d words us v q e h =
    let n = h.4.0 in
    let number = h.4.3 in
    record {
      statement = tunable h.0 (digits_value 10 n);
      spelled = (n, (not_false _ (number BadNumber), refl), e ∙ ap (λ (l : List (List ℕ)). codes "tunable" ∷ l) (cons_is us h.0 h.0 h.1 (n ∷ v) h.2 refl (cons_is h.1 n n h.4.1 v h.4.2 refl h.4.4.0)));
      leads = h.4.4.1;
    }

pub read_kind : (d : Draft) (words us v : List (List ℕ)) (q : Progress) → words ≡ codes "type" ∷ us → Line d (type_line d) us v q → FirstRead d words v q (behind_first d)
read_kind d words us v q e h =
    let x = h.4.0 in
    record {
      statement = kind (digits_value 10 h.0) x;
      spelled = (h.0, (not_false _ (h.3 BadNumber), refl), e ∙ ap (λ (l : List (List ℕ)). codes "type" ∷ l) (cons_is us h.0 h.0 h.1 (x ∷ v) h.2 refl (cons_is h.1 x x h.4.1 v h.4.2 refl h.4.4.0)));
      leads = h.4.4.1;
    }

pub read_device : (d : Draft) (words us v : List (List ℕ)) (q : Progress) → words ≡ codes "device" ∷ us → Line d (device_line d) us v q → FirstRead d words v q (behind_first d)
read_device d words us v q e h = by_class h.4.4
  where
    head : words ≡ codes "device" ∷ h.0 ∷ h.4.0 ∷ h.4.1
    head = e ∙ ap (λ (l : List (List ℕ)). codes "device" ∷ l) (cons_is us h.0 h.0 h.1 (h.4.0 ∷ h.4.1) h.2 refl h.4.2)

    by_class : Line d (device_class d (digits_value 10 h.0) h.4.0) h.4.1 v q → FirstRead d words v q (behind_first d)
    by_class (inl c) = record {
      statement = device (digits_value 10 h.0) h.4.0 (Some c.4.0);
      spelled = (h.0, h.4.1, (not_false _ (h.3 BadNumber), refl), head, cons_is h.4.1 c.0 (codes "class") c.1 (c.4.0 ∷ v) c.2 (is_for d (key (codes "class")) c.0 c.3) (cons_is c.1 c.4.0 c.4.0 c.4.1 v c.4.2 refl c.4.4.0));
      leads = c.4.4.1;
    }
    by_class (inr c) = record { statement = device (digits_value 10 h.0) h.4.0 None; spelled = (h.0, h.4.1, (not_false _ (h.3 BadNumber), refl), head, c.0); leads = c.1 }

-- ITEMS of a bucket
-- an item that is found, and that isn't the open bucket, is closed
closed_found : (b : ℕ) (o : Option ItemId) (i : ItemId) → option_and_then (closed_item (is_filling b)) o ≡ Some i → (o ≡ Some i) × (same_id (Bucket b) i ≡ false)
closed_found b None i e = absurd (let no : (let x : Option ItemId = None in x) ≡ Some i = e in cc)
closed_found b (Some j) i e = by_it (same_id (Bucket b) j) refl e
  where
    by_it : (c : Bool) → same_id (Bucket b) j ≡ c → (if c then None else Some j) ≡ Some i → (Some j ≡ Some i) × (same_id (Bucket b) i ≡ false)
    by_it true k e = absurd (let no : (let x : Option ItemId = None in x) ≡ Some i = e in cc)
    by_it false k e = let is : j ≡ i = cc in (e, ap (same_id (Bucket b)) (sym is) ∙ k)

-- a free item can be listed by the open bucket
pub listable : (d : Draft) (b : ℕ) (x : List ℕ) → d.pending ≡ is_filling b → IsFree d x → (item_of d x ≡ item_in d.table x) × IsListable b d.table x
listable d b x pending h =
    let found = closed_found b (id_named d.table x) (item_of d x) (ap (λ (p : Pending). option_and_then (closed_item p) (id_named d.table x)) (sym pending) ∙ h.0) in
    let is : item_of d x ≡ item_in d.table x = sym (ap (λ (o : Option ItemId). unwrap_or o (Device 0)) found.0) in
    (is, record { there = found.0 ∙ ap (λ (i : ItemId). Some i) is; closed = ap (same_id (Bucket b)) (sym is) ∙ found.1; once = ap (is_placed d.table) (sym is) ∙ h.1 })

-- SIZES of a rule
pub read_most : (d : Draft) (x : List ℕ) (n : ℕ) (k : List ℕ) (least : Option ℕ) (us v : List (List ℕ)) (q : Progress) → Line d (max_size d x n k least) us v q
    → (most : Option ℕ) × SpellsSize (codes "max_size") most us v × (at (ruled (new_rule x n k least most)) d ≡ q)
read_most d x n k least us v q (inl h) = (
  Some (digits_value 10 h.4.0),
  (h.4.0, (not_false _ (h.4.3 BadNumber), refl), cons_is us h.0 (codes "max_size") h.1 (h.4.0 ∷ v) h.2 (is_for d (key (codes "max_size")) h.0 h.3) (cons_is h.1 h.4.0 h.4.0 h.4.1 v h.4.2 refl h.4.4.0)),
  h.4.4.1,
)
read_most d x n k least us v q (inr h) = (None, h.0, h.1)

pub read_sizes : (d : Draft) (x : List ℕ) (n : ℕ) (k : List ℕ) (us v : List (List ℕ)) (q : Progress) → Line d (sizes d x n k) us v q
    → (least : Option ℕ) × (most : Option ℕ) × (between : List (List ℕ)) × SpellsSize (codes "min_size") least us between × SpellsSize (codes "max_size") most between v × (at (ruled (new_rule x n k least most)) d ≡ q)
read_sizes d x n k us v q (inl h) =
    let m = read_most d x n k (Some (digits_value 10 h.4.0)) h.4.1 v q h.4.4 in (
      Some (digits_value 10 h.4.0),
      m.0,
      h.4.1,
      (h.4.0, (not_false _ (h.4.3 BadNumber), refl), cons_is us h.0 (codes "min_size") h.1 (h.4.0 ∷ h.4.1) h.2 (is_for d (key (codes "min_size")) h.0 h.3) h.4.2),
      m.1,
      m.2,
    )
read_sizes d x n k us v q (inr h) = let m = read_most d x n k None us v q h in (None, m.0, us, refl, m.1, m.2)
