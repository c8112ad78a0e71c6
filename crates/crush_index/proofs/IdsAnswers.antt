-- A loop marks the id of a bucket and its class ids as used, or as free again, one after the other.
use Rattle.std.proofs.Common.{◌≡◌, ℕ, suc, ◌+◌, ◌<◌, ◌≤◌, Bool, true, false, List, [], ◌∷◌, ◌++◌, length, get_or, take, drop, ap, sym, ◌∙◌, refl}
use Rattle.std.specs.Prelude.{◌==◌, ◌||◌, if◌then◌else◌}
use Rattle.std.proofs.lemmas.List.{take-append-drop, take_all, take_more}
use Rattle.crush_model.specs.Table.{member}
use Rattle.crush_model.proofs.UsedColumn.{member-append}
use Rattle.crush_nodes.specs.Seen.{shadow_numbers}
use Rattle.crush_nodes.specs.declared.node.ShadowId.{ShadowId}
use Rattle.crush_index.specs.declared.used.UsedIds.{UsedIds}
use Rattle.crush_index.specs.UsedAnswers.{used_answer, UsesOne, UsesSame, ComeIntoUse, AreFree, UsesSameBut}
use Rattle.crush_index.proofs.AnswersLaws.{either_then}

numbers-append : {A : _} (a b : List (ShadowId A)) → shadow_numbers (a ++ b) ≡ shadow_numbers a ++ shadow_numbers b
numbers-append [] b = refl
numbers-append (x ∷ a) b = ap (λ z. x.id ∷ z) (numbers-append a b)

pub numbers-length : {A : _} (cs : List (ShadowId A)) → length (shadow_numbers cs) ≡ length cs
numbers-length [] = refl
numbers-length (x ∷ cs) = ap suc (numbers-length cs)

or_false : (a : Bool) → (a || false) ≡ a
or_false true = refl
or_false false = refl

module _ {A : _} (own : ℕ) (cs : List (ShadowId A)) (i : ℕ) where
  abbrev taken : List ℕ
  taken = own ∷ shadow_numbers (take i cs)

  -- the answers after the next class id
  module _ (x : ShadowId A) (id : ℕ) (lt : i < length cs) (at : x ≡ get_or cs i x) (is : id ≡ x.id) where
    abbrev more : List ℕ
    more = own ∷ shadow_numbers (take (i + 1) cs)

    member_more : (k : ℕ) → member k more ≡ (member k taken || (id == k))
    member_more k =
        ap (λ zs. member k (own ∷ shadow_numbers zs)) (take_more cs i x lt ∙ ap (λ z. take i cs ++ z ∷ []) (sym at))
        ∙ ap (λ zs. member k (own ∷ zs)) (numbers-append (take i cs) (x ∷ []))
        ∙ member-append k taken (x.id ∷ []) ∙ ap (λ b. member k taken || b) (or_false (x.id == k) ∙ ap (λ n. n == k) (sym is))

    used_step : (o m e : Bool) → (if e then true else (o || m)) ≡ (o || (m || e))
    used_step true true true = refl
    used_step true true false = refl
    used_step true false true = refl
    used_step true false false = refl
    used_step false true true = refl
    used_step false true false = refl
    used_step false false true = refl
    used_step false false false = refl

    pub one_more_used : (old now new : UsedIds) → ComeIntoUse taken old now → UsesOne now new id true → ComeIntoUse more old new
    one_more_used old now new before one k =
        one k ∙ ap (λ b. if id == k then true else b) (before k) ∙ used_step (used_answer old k) (member k taken) (id == k) ∙ ap (λ b. used_answer old k || b) (sym (member_more k))

    pub one_more_free : (old now new : UsedIds) → AreFree taken old now → UsesOne now new id false → AreFree more old new
    one_more_free old now new before one k =
        one k ∙ ap (λ b. if id == k then false else b) (before k) ∙ sym (either_then (member k taken) (id == k) false (used_answer old k)) ∙ ap (λ b. if b then false else used_answer old k) (sym (member_more k))

  -- the answers after a class id couldn't be inserted
  hidden_part : (o m r : Bool) → (if (m || r) then false else (o || m)) ≡ (if (m || r) then false else o)
  hidden_part true true r = refl
  hidden_part true false r = refl
  hidden_part false true r = refl
  hidden_part false false true = refl
  hidden_part false false false = refl

  member_all : (k : ℕ) → member k (own ∷ shadow_numbers cs) ≡ (member k taken || member k (shadow_numbers (drop i cs)))
  member_all k =
      ap (λ zs. member k (own ∷ shadow_numbers zs)) (sym (take-append-drop i cs)) ∙ ap (λ zs. member k (own ∷ zs)) (numbers-append (take i cs) (drop i cs))
      ∙ member-append k taken (shadow_numbers (drop i cs))

  pub none_more : (old now new : UsedIds) → ComeIntoUse taken old now → UsesSame now new → UsesSameBut (own ∷ shadow_numbers cs) old new
  none_more old now new before same k =
      let rest = member k (shadow_numbers (drop i cs)) in
      (λ j. if member_all k j then false else (same k ∙ before k) j) ∙ hidden_part (used_answer old k) (member k taken) rest ∙ ap (λ b. if b then false else used_answer old k) (sym (member_all k))

  pub all_came : (old new : UsedIds) → length cs ≤ i → ComeIntoUse taken old new → ComeIntoUse (own ∷ shadow_numbers cs) old new
  all_came old new le before k = before k ∙ ap (λ zs. used_answer old k || member k (own ∷ shadow_numbers zs)) (take_all i cs le)

  pub all_went : (old new : UsedIds) → length cs ≤ i → AreFree taken old new → AreFree (own ∷ shadow_numbers cs) old new
  all_went old new le before k = before k ∙ ap (λ zs. if member k (own ∷ shadow_numbers zs) then false else used_answer old k) (take_all i cs le)
