-- A copy of a map or of a set gives the same answers, both if it is a clone, and if it was empty and all entries were inserted into it.
use Rattle.std.proofs.Common.{◌≡◌, ℕ, nat_eq, refl, List, [], ◌∷◌, ap, sym, subst, ◌∙◌}
use Rattle.std.specs.Prelude.{◌||◌}
use Rattle.std.specs.Cmp.{nat_eq_equiv}
use Rattle.std.specs.List.{AllZip, IsDistinct, list_any}
use Rattle.std.specs.Map.{keys_of, lookup}
use Rattle.std.specs.Option.{option_or}
use Rattle.std.proofs.lemmas.Map.Made.{update_all_distinct}
use Rattle.indexmap.specs.IndexMap.{IndexMap, get, IsUnique, InsertsAll}
use Rattle.indexmap.specs.IndexSet.{IndexSet, contains, InsertsAll as InsertsAllKeys}
use Rattle.crush_nodes.proofs.Options.{option_or-none}

pub map_copied : {T S : Type 0} (none copy sparse : IndexMap ℕ T S) (xs : List (ℕ × T)) → none.entries ≡ [] → xs ≡ sparse.entries → IsUnique nat_eq sparse → InsertsAll nat_eq none xs copy → (n : ℕ) → get nat_eq copy n ≡ get nat_eq sparse n
map_copied none copy sparse xs empty same once made n =
    made.0 n ∙ update_all_distinct nat_eq_equiv nat_eq (λ x y. refl) (get nat_eq none) xs n (subst (λ ys. IsDistinct nat_eq (keys_of ys)) (sym same) once)
    ∙ ap (λ es. option_or (lookup (nat_eq n) xs) (lookup (nat_eq n) es)) empty ∙ option_or-none (lookup (nat_eq n) xs) ∙ ap (lookup (nat_eq n)) same

pub set_copied : {S : Type 0} (none copy sparse : IndexSet ℕ S) (xs : List ℕ) → none.keys ≡ [] → xs ≡ sparse.keys → InsertsAllKeys nat_eq none xs copy → (k : ℕ) → contains nat_eq copy k ≡ contains nat_eq sparse k
set_copied none copy sparse xs empty same made k =
    made.0 k ∙ ap (λ ks. list_any (nat_eq k) ks || list_any (nat_eq k) xs) empty ∙ ap (list_any (nat_eq k)) same

-- two lists whose entries are equal one by one are equal
pub cloned : {K V : Type 0} (xs ys : List (K × V)) → AllZip (λ p q. (q.0 ≡ p.0) × (q.1 ≡ p.1)) xs ys → ys ≡ xs
cloned [] [] h = refl
cloned [] (y ∷ ys) h = absurd h
cloned (x ∷ xs) [] h = absurd h
cloned (x ∷ xs) (y ∷ ys) h = λ i. (h.0.0 i, h.0.1 i) ∷ cloned xs ys h.1 i
