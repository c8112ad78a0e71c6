-- Proves that a map compared with itself has no lines about differences.
use Rattle.std.proofs.Common.{◌≡◌, ℕ, Bool, true, false, List, [], ◌∷◌, ◌++◌, ap, ◌∙◌, refl, arith, eq-eqb}
use Rattle.std.specs.Prelude.{flat_map, Option, None, Some, ◌==◌, ◌&&◌, not, if◌then◌else◌, codes, bytes_eq}
use Rattle.std.specs.Cmp.Lexicographic.{pointwise}
use Rattle.std.specs.List.{count_by, list_all}
use Rattle.std.specs.Cmp.{signed_Decides}
use Rattle.std.proofs.lemmas.List.Sums.{sum_by-cons}
use Rattle.crush_units.specs.declared.alg.Alg.{Alg}
use Rattle.crush_units.specs.declared.alg.Alg.TheVariants.{Straw, Straw2, List as ListAlg}
use Rattle.crush_units.specs.declared.id.ItemId.{ItemId}
use Rattle.crush_units.specs.Weight.{weight_text}
use Rattle.crush_model.specs.Items.{ShadowData}
use Rattle.crush_model.specs.Count.{one_if}
use Rattle.crush_model.specs.Table.{Row, total}
use Rattle.crush_model.proofs.Tested.{bytes_itself}
use Rattle.crush_edits.specs.Setting.{TunableData, StepData, take, choose, set, emit, RuleData, SettingData, kind_name}
use Rattle.crush_print.specs.RuleLines.{bucket_name}
use Rattle.crush_compare.specs.declared.identity.Identity.TheVariants.{Ids}
use Rattle.crush_since.specs.Emptied.{taken_weight, if_emptied, emptied_by, emptied_of, emptied_rules, emptied_lines}
use Rattle.crush_compare.specs.Equal.{same_option, same_text}
use Rattle.crush_items.specs.ItemData.{ItemData, item_of, own_class_ids}
use Rattle.crush_since.specs.ItemWords.{place_word, type_word, class_or_none, alg_word}
use Rattle.crush_since.specs.ItemParts.{same_algs, same_class_id, part, change, changes, line, item_line}
use Rattle.crush_since.specs.Rules.{or_order, changed_rules, rule_change_lines}
use Rattle.crush_since.proofs.ClassLaws.{no_classes}
use Rattle.crush_since.specs.Settings.{same_tunable, kind_numbers, agree_on, same_kinds, same_bool, same_step, same_rule, listed_if_not, tunables_line, kinds_line, rules_line, setting_lines}
use Rattle.crush_since.specs.Since.{plain_map, same_class_ids, id_line, all_ids, item_lines, totals_line, last_lines, since_text}
use Rattle.crush_since.specs.SinceLaws.{NothingSinceItself}
use Rattle.crush_since.specs.Tallies.{in_both, is_made, is_removed, is_renamed, is_moved, is_reweighed, is_reclassed, tally_of, counts_line, no_tally}

-- TESTS: each value is the same as itself
pub option_itself : (o : Option ℕ) → same_option o o ≡ true
option_itself None = refl
option_itself (Some n) = eq-eqb n n refl

pub text_itself : (o : Option (List ℕ)) → same_text o o ≡ true
text_itself None = refl
text_itself (Some n) = bytes_itself n

pub pairs_itself : {X : Type 0} (same : X → X → Bool) → ((x : X) → same x x ≡ true) → (xs : List X) → pointwise same xs xs ≡ true
pairs_itself same each [] = refl
pairs_itself same each (x ∷ xs) = λ i. each x i && pairs_itself same each xs i

pub algs_itself : (o : Option Alg) → same_algs o o ≡ true
algs_itself None = refl
algs_itself (Some Straw) = refl
algs_itself (Some Straw2) = refl
algs_itself (Some ListAlg) = refl

pub class_id_itself : (x : ShadowData) → same_class_id x x ≡ true
class_id_itself x = λ i. eq-eqb x.id x.id refl i && bytes_itself x.class i

-- AN ITEM compared with itself has no parts
no_changes : (s p : SettingData) (a : ItemData) → changes s p a a true ≡ []
no_changes s p a = λ i.
    part (bytes_itself a.view.name i) (codes "was " ++ a.view.name)
    ++ change (eq-eqb a.view.kind a.view.kind refl i) (codes "type ") (type_word s a.view.id a.view.kind) (type_word p a.view.id a.view.kind)
    ++ change (option_itself a.view.parent i) (codes "from ") (place_word a) (place_word a)
    ++ change (eq-eqb a.view.weight a.view.weight refl i) (codes "weight ") (weight_text a.view.weight) (weight_text a.view.weight)
    ++ change (text_itself a.view.class i) (codes "class ") (class_or_none a.view.class) (class_or_none a.view.class)
    ++ change (algs_itself a.view.alg i) (codes "alg ") (alg_word a.view.alg) (alg_word a.view.alg)
    ++ part true (codes "class ids")

pub no_line : (s p : SettingData) (i : ItemId) (o : Option ItemData) (same : Bool) → same ≡ true → item_line s p i o o same ≡ []
no_line s p i None same equal = refl
no_line s p i (Some a) same equal = ap (λ b. line a.view.name i (changes s p a a b)) equal ∙ ap (line a.view.name i) (no_changes s p a)

pub nothing_of : {X Z : Type 0} (f : X → List Z) → ((x : X) → f x ≡ []) → (xs : List X) → flat_map f xs ≡ []
nothing_of f each [] = refl
nothing_of f each (x ∷ xs) = λ i. each x i ++ nothing_of f each xs i

pub no_line_of : (s : SettingData) (t : List Row) (i : ItemId) → id_line (plain_map s t) (plain_map s t) i ≡ []
unfolding id_line
no_line_of s t i = no_line s s i (item_of t i) (same_class_ids t t i) (pairs_itself same_class_id class_id_itself (own_class_ids t i))

no_items : (s : SettingData) (t : List Row) → item_lines (plain_map s t) (plain_map s t) ≡ []
unfolding item_lines
no_items s t = nothing_of (id_line (plain_map s t) (plain_map s t)) (no_line_of s t) (all_ids t t)

-- SETTINGS compared with themselves have no lines
pub tunable_itself : (x : TunableData) → same_tunable x x ≡ true
tunable_itself x = λ i. bytes_itself x.name i && eq-eqb x.value x.value refl i

pub all_agree : (p : ℕ → Bool) → ((n : ℕ) → p n ≡ true) → (ns : List ℕ) → list_all p ns ≡ true
all_agree p each [] = refl
all_agree p each (n ∷ ns) = ap (λ b. b && list_all p ns) (each n) ∙ all_agree p each ns

pub kinds_itself : (s : SettingData) → same_kinds s s ≡ true
kinds_itself s = λ i. all_agree (agree_on s s) (λ n. text_itself (kind_name s n)) (kind_numbers s) i && all_agree (agree_on s s) (λ n. text_itself (kind_name s n)) (kind_numbers s) i

pub bool_itself : (b : Bool) → same_bool b b ≡ true
bool_itself true = refl
bool_itself false = refl

step_itself : (x : StepData) → same_step x x ≡ true
step_itself (take b c) = λ i. eq-eqb b b refl i && text_itself c i
step_itself (choose l f n k) = λ i. bool_itself l i && bool_itself f i && (signed_Decides n n).1 refl i && bytes_itself k i
step_itself (set w v) = λ i. bytes_itself w i && eq-eqb v v refl i
step_itself emit = refl

pub rule_itself : (x : RuleData) → same_rule x x ≡ true
rule_itself x = λ i.
    bytes_itself x.name i && eq-eqb x.id x.id refl i && bytes_itself x.kind i && option_itself x.min_size i && option_itself x.max_size i && pairs_itself same_step step_itself x.steps i

no_settings : (s : SettingData) → setting_lines s s ≡ []
unfolding setting_lines tunables_line kinds_line rules_line
no_settings s = λ i.
    listed_if_not (pairs_itself same_tunable tunable_itself s.tunables i) (codes "tunables differ\n") ++ listed_if_not (kinds_itself s i) (codes "types differ\n")
    ++ rule_change_lines (if pairs_itself same_rule rule_itself s.rules i then [] else or_order (changed_rules same_rule s.rules s.rules))

-- COUNTS are all 0
none_meets : (p : ItemId → Bool) → ((i : ItemId) → p i ≡ false) → (ids : List ItemId) → count_by p ids ≡ 0
none_meets p each [] = refl
none_meets p each (x ∷ xs) = let zero_here : one_if (p x) ≡ 0 = ap one_if (each x) in omega (arith, zero_here, none_meets p each xs, sum_by-cons (λ y. one_if (p y)) x xs)

not_made : (o : Option ItemData) → is_made o o ≡ false
not_made None = refl
not_made (Some a) = refl

not_other : (test : ItemData → ItemData → Bool) → ((a : ItemData) → test a a ≡ false) → (o : Option ItemData) → in_both test o o ≡ false
not_other test each None = refl
not_other test each (Some a) = each a

no_counts : (t : List Row) (ids : List ItemId) → tally_of t t ids ≡ no_tally
no_counts t ids = λ k. record {
  made = none_meets (λ i. is_made (item_of t i) (item_of t i)) (λ i. not_made (item_of t i)) ids k;
  removed = none_meets (λ i. is_removed (item_of t i) (item_of t i)) (λ i. not_made (item_of t i)) ids k;
  renamed = none_meets (λ i. is_renamed (item_of t i) (item_of t i)) (λ i. not_other (λ a b. not (bytes_eq a.view.name b.view.name)) (λ a. ap not (bytes_itself a.view.name)) (item_of t i)) ids k;
  moved = none_meets (λ i. is_moved (item_of t i) (item_of t i)) (λ i. not_other (λ a b. not (same_option a.view.parent b.view.parent)) (λ a. ap not (option_itself a.view.parent)) (item_of t i)) ids k;
  reweighed = none_meets (λ i. is_reweighed (item_of t i) (item_of t i)) (λ i. not_other (λ a b. not (a.view.weight == b.view.weight)) (λ a. ap not (eq-eqb a.view.weight a.view.weight refl)) (item_of t i)) ids k;
  reclassed = none_meets (λ i. is_reclassed (item_of t i) (item_of t i)) (λ i. not_other (λ a b. not (same_text a.view.class b.view.class)) (λ a. ap not (text_itself a.view.class)) (item_of t i)) ids k;
}

-- RULES that take a bucket without weight now took a bucket without weight before
pub not_emptied : (w : ℕ) → ((w == 0) && not (w == 0)) ≡ false
not_emptied w = at (w == 0) where
  at : (b : Bool) → (b && not b) ≡ false
  at true = refl
  at false = refl

no_step : (t : List Row) (rule : List ℕ) (x : StepData) → emptied_by Ids t t rule x ≡ []
no_step t rule (take b c) = ap (λ z. if_emptied z rule (bucket_name t b) c) (not_emptied (taken_weight t b c))
no_step t rule (choose l f n k) = refl
no_step t rule (set w v) = refl
no_step t rule emit = refl

no_rules : (s : SettingData) (t : List Row) → emptied_lines t t s ≡ []
unfolding emptied_lines
no_rules s t = ap rule_change_lines (nothing_of (emptied_of Ids t t) (λ r. nothing_of (emptied_by Ids t t r.name) (no_step t r.name) r.steps) s.rules)

pub last_since_itself : (s : SettingData) (t : List Row) → last_lines (plain_map s t) (plain_map s t) (tally_of t t (all_ids t t)) ≡ totals_line (total t) (total t) ++ counts_line no_tally
unfolding last_lines
last_since_itself s t = λ i. no_settings s i ++ no_rules s t i ++ no_classes s t i ++ totals_line (total t) (total t) ++ counts_line (no_counts t (all_ids t t) i)

pub nothing_since_itself : NothingSinceItself
unfolding since_text
nothing_since_itself s t = λ i. no_items s t i ++ last_since_itself s t i
