-- Lemmas about comparing types and tunables: the code compares its own lists, and the contracts compare plain data.
use Rattle.std.proofs.Common.{◌≡◌, ℕ, Bool, true, false, cond, List, [], ◌∷◌, refl, ap, sym, ◌∙◌, map}
use Rattle.std.specs.Prelude.{Option, Some, None, ◌&&◌, ◌==◌, bytes_eq}
use Rattle.std.specs.Cmp.Derive.Mapped.{pointwise-map}
use Rattle.std.specs.Cmp.Lexicographic.{pointwise}
use Rattle.std.specs.HashMap.{entries_eq}
use Rattle.std.specs.List.{list_all}
use Rattle.std.specs.Map.{keys_of, lookup, lookup_entry}
use Rattle.std.specs.Option.{option_eq, option_map}
use Rattle.crush_edits.specs.Setting.{KindData, TunableData, SettingData, first_name}
use Rattle.crush_edits.specs.SettingSeen.{kind_data, tunable_data}
use Rattle.crush_edits.proofs.SettingLaws.{name_got}
use Rattle.crush_compare.specs.Equal.{same_text}
use Rattle.crush_since.specs.Settings.{same_tunable, same_kinds}

-- the tunables are compared in their order
pub tunables_compared : (result : Bool) (xs ys es fs : List (List ℕ × ℕ)) (ts us : List TunableData) → result ≡ pointwise (λ p q. bytes_eq p.0 q.0 && (p.1 == q.1)) xs ys → xs ≡ es → ys ≡ fs → map tunable_data es ≡ ts → map tunable_data fs ≡ us
    → result ≡ pointwise same_tunable ts us
tunables_compared result xs ys es fs ts us is first second are others =
    is ∙ (λ i. pointwise (λ p q. bytes_eq p.0 q.0 && (p.1 == q.1)) (first i) (second i)) ∙ sym (pointwise-map tunable_data same_tunable es fs) ∙ (λ i. pointwise same_tunable (are i) (others i))

-- looking up the name of a type gives the same in the code's list of entries and in the plain data
name_of_entry : (n : ℕ) (es : List (ℕ × List ℕ)) → option_map (λ e. e.1) (lookup_entry (λ k. n == k) es) ≡ lookup (λ k. n == k) es
name_of_entry n [] = refl
name_of_entry n (e ∷ es) = at (n == e.0) (name_of_entry n es) where
  at : (b : Bool) → option_map (λ e. e.1) (lookup_entry (λ k. n == k) es) ≡ lookup (λ k. n == k) es → option_map (λ e. e.1) (cond b (Some e) (lookup_entry (λ k. n == k) es)) ≡ cond b (Some e.1) (lookup (λ k. n == k) es)
  at true rest = refl
  at false rest = rest

by_names : (p q : Option (ℕ × List ℕ)) → option_eq (λ a b. bytes_eq a.1 b.1) p q ≡ same_text (option_map (λ e. e.1) p) (option_map (λ e. e.1) q)
by_names None None = refl
by_names None (Some y) = refl
by_names (Some x) None = refl
by_names (Some x) (Some y) = refl

entries_agree : (n : ℕ) (es fs : List (ℕ × List ℕ)) → option_eq (λ a b. bytes_eq a.1 b.1) (lookup_entry (λ k. n == k) es) (lookup_entry (λ k. n == k) fs) ≡ same_text (first_name (map kind_data es) n) (first_name (map kind_data fs) n)
entries_agree n es fs =
    by_names (lookup_entry (λ k. n == k) es) (lookup_entry (λ k. n == k) fs) ∙ (λ i. same_text (name_of_entry n es i) (name_of_entry n fs i)) ∙ (λ i. same_text (name_got n es i) (name_got n fs i))

numbers_of : (es : List (ℕ × List ℕ)) → keys_of es ≡ map (λ (k : KindData). k.number) (map kind_data es)
numbers_of [] = refl
numbers_of (e ∷ es) = ap (λ (l : List ℕ). e.0 ∷ l) (numbers_of es)

-- the types are compared without regard to their order
pub kinds_compared : (result : Bool) (es fs : List (ℕ × List ℕ)) (a b : SettingData) → result ≡ entries_eq (λ m n. m == n) (λ p q. bytes_eq p.1 q.1) es fs → map kind_data es ≡ a.kinds → map kind_data fs ≡ b.kinds → result ≡ same_kinds a b
unfolding entries_eq
kinds_compared result es fs a b is are others =
    is ∙ (λ i. list_all (λ n. entries_agree n es fs i) (numbers_of es i) && list_all (λ n. entries_agree n es fs i) (numbers_of fs i))
    ∙ (λ i. list_all (λ n. same_text (first_name (are i) n) (first_name (others i) n)) (map (λ (k : KindData). k.number) (are i)) && list_all (λ n. same_text (first_name (are i) n) (first_name (others i) n)) (map (λ (k : KindData). k.number) (others i)))
