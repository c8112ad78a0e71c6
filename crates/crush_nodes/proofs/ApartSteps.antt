-- Class ids by their numbers and classes.
use Rattle.std.proofs.Common.{◌≡◌, ℕ, ◌+◌, ◌<◌, ◌≤◌, Bool, true, List, [], ◌∷◌, ◌++◌, length, get_or, take, drop, ap, sym, subst, ◌∙◌, refl}
use Rattle.std.proofs.lemmas.List.{take_all, take_more, drop_all}
use Rattle.std.proofs.lemmas.List.Elements.{All-push}
use Rattle.std.specs.Prelude.{◌&&◌, ◌||◌, not, All, map}
use Rattle.std.specs.List.{list_any}
use Rattle.crush_model.specs.Lawful.{IsShadowId}
use Rattle.crush_model.specs.Tested.{are_apart}
use Rattle.crush_model.proofs.Reorder.{map_append}
use Rattle.crush_nodes.specs.Seen.{shadow_data, shadow_numbers}
use Rattle.crush_nodes.specs.Attachable.{shadow_classes}
use Rattle.crush_nodes.specs.declared.node.ShadowId.{ShadowId}
use Rattle.crush_nodes.proofs.Steps.{drop_at}

-- whether a test holds of a class id's number
pub any_number : {A : _} (f : ℕ → Bool) (cs : List (ShadowId A)) → list_any (λ c. f c.id) cs ≡ list_any f (shadow_numbers cs)
any_number f [] = refl
any_number f (c ∷ cs) = ap (λ z. f c.id || z) (any_number f cs)

-- the same for its class
pub any_class : {A : _} (f : List ℕ → Bool) (cs : List (ShadowId A)) → list_any (λ c. f c.class) cs ≡ list_any f (shadow_classes cs)
any_class f [] = refl
any_class f (c ∷ cs) = ap (λ z. f c.class || z) (any_class f cs)

-- the class ids up to an index, and the class id there
pub seen_more : {A : _} (cs : List (ShadowId A)) (i : ℕ) (x : ShadowId A) → i < length cs → x ≡ get_or cs i x → map shadow_data (take (i + 1) cs) ≡ map shadow_data (take i cs) ++ shadow_data x ∷ []
seen_more cs i x lt e = ap (map shadow_data) (take_more cs i x lt ∙ ap (λ z. take i cs ++ z ∷ []) (sym e)) ∙ map_append shadow_data (take i cs) (x ∷ [])

pub class_ids_more : {A : _} (cs : List (ShadowId A)) (i : ℕ) (x : ShadowId A) → i < length cs → x ≡ get_or cs i x → All IsShadowId (map shadow_data (take i cs)) → IsShadowId (shadow_data x) → All IsShadowId (map shadow_data (take (i + 1) cs))
class_ids_more cs i x lt e a is =
    subst (All IsShadowId) (sym (seen_more cs i x lt e)) (All-push IsShadowId (map shadow_data (take i cs)) (shadow_data x) a is)

pub class_ids_all : {A : _} (cs : List (ShadowId A)) (i : ℕ) → length cs ≤ i → All IsShadowId (map shadow_data (take i cs)) → All IsShadowId (map shadow_data cs)
class_ids_all cs i le a = subst (λ z. All IsShadowId (map shadow_data z)) (take_all i cs le) a

-- the numbers from one class id on are distinct if its own isn't among those after it, and if those are distinct
pub numbers_at : {A : _} (same : ℕ → ℕ → Bool) (cs : List (ShadowId A)) (i : ℕ) (x : ShadowId A) → i < length cs → x ≡ get_or cs i x
    → are_apart same (shadow_numbers (drop i cs)) ≡ (not (list_any (same x.id) (shadow_numbers (drop (i + 1) cs))) && are_apart same (shadow_numbers (drop (i + 1) cs)))
numbers_at same cs i x lt e = ap (λ zs. are_apart same (shadow_numbers zs)) (drop_at cs i x lt e)

pub numbers_end : {A : _} (same : ℕ → ℕ → Bool) (cs : List (ShadowId A)) (i : ℕ) → length cs ≤ i → are_apart same (shadow_numbers (drop i cs)) ≡ true
numbers_end same cs i le = ap (λ zs. are_apart same (shadow_numbers zs)) (drop_all i cs le)

-- the same for classes
pub classes_at : {A : _} (same : List ℕ → List ℕ → Bool) (cs : List (ShadowId A)) (i : ℕ) (x : ShadowId A) → i < length cs → x ≡ get_or cs i x
    → are_apart same (shadow_classes (drop i cs)) ≡ (not (list_any (same x.class) (shadow_classes (drop (i + 1) cs))) && are_apart same (shadow_classes (drop (i + 1) cs)))
classes_at same cs i x lt e = ap (λ zs. are_apart same (shadow_classes zs)) (drop_at cs i x lt e)

pub classes_end : {A : _} (same : List ℕ → List ℕ → Bool) (cs : List (ShadowId A)) (i : ℕ) → length cs ≤ i → are_apart same (shadow_classes (drop i cs)) ≡ true
classes_end same cs i le = ap (λ zs. are_apart same (shadow_classes zs)) (drop_all i cs le)
