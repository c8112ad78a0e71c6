-- Proves that the classes of two maps' items are the classes of their tables, and that a map compared with itself has no changed class.
use Rattle.std.proofs.Common.{◌≡◌, ℕ, ◌+◌, Bool, true, false, List, [], ◌∷◌, ◌++◌, map, ap, sym, ◌∙◌, refl, arith, eq-eqb}
use Rattle.std.specs.Prelude.{◌==◌, ◌&&◌, ◌||◌, not, Option, None, Some, All, flat_map, if◌then◌else◌, bytes_eq}
use Rattle.std.specs.List.{sum_by}
use Rattle.std.specs.Option.{option_map, option_map_or}
use Rattle.std.proofs.lemmas.List.Sums.{sum_by-append, sum_by-cons}
use Rattle.std.proofs.lemmas.List.Elements.{All-head, All-tail, All-weaker}
use Rattle.crush_units.specs.declared.id.ItemId.{ItemId}
use Rattle.crush_model.specs.Lawful.{Lawful}
use Rattle.crush_model.specs.Table.{Row, row_of}
use Rattle.crush_model.proofs.Reorder.{sum_by-flat_map, sum_by-map}
use Rattle.crush_model.proofs.Weighs.{All-found}
use Rattle.crush_edits.specs.Setting.{StepData, take, choose, set, emit, RuleData, SettingData}
use Rattle.crush_since.specs.Classes.{class_of, row_class, entry_class, step_class, rule_classes, classes, class_change, is_reweighed, is_untaken, change_of_class, class_changes, lines_of_classes, class_lines}
use Rattle.crush_since.specs.Collected.{Amount, old_weight, new_weight, old_devices, new_devices, takes, ClassData, collected}
use Rattle.crush_since.specs.CollectedSeen.{added}
use Rattle.crush_items.specs.Entries.{EntryData, row_entry, entry_of}
use Rattle.crush_items.specs.Items.{HasEntries, entry_id, item_entry}
use Rattle.crush_items.specs.declared.items.Item.{Item}
use Rattle.crush_since.specs.declared.since.collected.Source.{Source}
use Rattle.crush_since.specs.declared.since.collected.Source.TheVariants.{Old, New, Rule}
use Rattle.crush_since.proofs.CollectedLaws.{amount_at, amounts, Rising, Counted, first_amount, collected_adds, collected_same, rising_collected}
use Rattle.crush_since.proofs.SortedItems.{counted_by}

-- COUNTED: each class of the list is named by a device or by a step of a rule
counted_both : (xs ys : List ClassData) → Counted xs → Counted ys → Counted (xs ++ ys)
counted_both [] ys a b = b
counted_both (x ∷ xs) ys a b = (a.0, counted_both xs ys a.1 b)

counted_each : {X : Type 0} (f : X → List ClassData) → ((x : X) → Counted (f x)) → (xs : List X) → Counted (flat_map f xs)
counted_each f each [] = tt
counted_each f each (x ∷ xs) = counted_both (f x) (flat_map f xs) (each x) (counted_each f each xs)

counted_class : (s : Source) (w : ℕ) (o : Option (List ℕ)) → Counted (class_of (added s w) o)
counted_class s w None = tt
counted_class s w (Some c) = (counted_by s w, tt)

counted_step : (x : StepData) → Counted (step_class x)
counted_step (take b c) = counted_class Rule 0 c
counted_step (choose l f n k) = tt
counted_step (set w v) = tt
counted_step emit = tt

counted_rules : (rules : List RuleData) → Counted (rule_classes rules)
counted_rules rules = counted_each (λ (r : RuleData). flat_map step_class r.steps) (λ r. counted_each step_class counted_step r.steps) rules

-- SUMS over the items of a table are the sums over its rows
sum_same : {X : Type 0} (f g : X → ℕ) (xs : List X) → All (λ x. f x ≡ g x) xs → sum_by f xs ≡ sum_by g xs
sum_same f g [] a = refl
sum_same f g (x ∷ xs) a = omega (arith, sum_by-cons f x xs, sum_by-cons g x xs, All-head (λ y. f y ≡ g y) x xs a, sum_same f g xs (All-tail (λ y. f y ≡ g y) x xs a))

abbrev amount_of : (EntryData → ℕ) → List Row → ItemId → ℕ
amount_of f t i = option_map_or f (entry_of t i) 0

sum_listed : {A : _} (f : EntryData → ℕ) (t : List Row) (ls : List (Item A)) → Lawful t → HasEntries t (map item_entry ls) → sum_by (λ l. f (item_entry l)) ls ≡ sum_by (λ (r : Row). f (row_entry t r.id r)) t
sum_listed f t ls lawful lists =
    sym (sum_by-map f item_entry ls)
    ∙ sum_same f (λ e. amount_of f t (entry_id e)) (map item_entry ls)
    (All-weaker (λ e. entry_of t (entry_id e) ≡ Some e) (λ e. f e ≡ amount_of f t (entry_id e)) (λ e told. sym (ap (λ o. option_map_or f o 0) told)) (map item_entry ls) lists.told)
    ∙ lists.ids (amount_of f t)
    ∙ sum_same (λ (r : Row). amount_of f t r.id) (λ (r : Row). f (row_entry t r.id r)) t
    (All-weaker (λ (r : Row). row_of t r.id ≡ Some r) (λ (r : Row). amount_of f t r.id ≡ f (row_entry t r.id r)) (λ r e. ap (λ o. option_map_or f (option_map (row_entry t r.id) o) 0) e) t (All-found t lawful.ids))

listed_amounts : {A : _} (s : Source) (c : List ℕ) (k : Amount) (t : List Row) (ls : List (Item A)) → Lawful t → HasEntries t (map item_entry ls)
    → amounts c k (flat_map (λ l. entry_class s (item_entry l)) ls) ≡ amounts c k (flat_map (row_class s t) t)
listed_amounts s c k t ls lawful lists =
    sum_by-flat_map (amount_at c k) (λ l. entry_class s (item_entry l)) ls
    ∙ sum_listed (λ e. amounts c k (entry_class s e)) t ls lawful lists
    ∙ sym (sum_by-flat_map (amount_at c k) (row_class s t) t)

-- THE CLASSES of two maps' items are the classes of their tables
pub classes_listed : {A B : _} (t u : List Row) (xs : List (Item A)) (ys : List (Item B)) (rules : List RuleData) → Lawful t → Lawful u → HasEntries t (map item_entry xs) → HasEntries u (map item_entry ys)
    → collected (flat_map (λ l. entry_class Old (item_entry l)) xs ++ flat_map (λ l. entry_class New (item_entry l)) ys ++ rule_classes rules) ≡ classes t u rules
unfolding classes
classes_listed t u xs ys rules lt lu lx ly =
    let a = flat_map (λ l. entry_class Old (item_entry l)) xs in
    let b = flat_map (λ l. entry_class New (item_entry l)) ys in
    let a' = flat_map (row_class Old t) t in
    let b' = flat_map (row_class New u) u in
    let r = rule_classes rules in
    collected_same (a ++ b ++ r) (a' ++ b' ++ r)
    (counted_both (a ++ b) r (counted_both a b (counted_each _ (λ l. counted_class Old (item_entry l).item.view.weight (item_entry l).item.view.class) xs) (counted_each _ (λ l. counted_class New (item_entry l).item.view.weight (item_entry l).item.view.class) ys)) (counted_rules rules))
    (counted_both (a' ++ b') r (counted_both a' b' (counted_each _ (λ (x : Row). counted_class Old _ x.class) t) (counted_each _ (λ (x : Row). counted_class New _ x.class) u)) (counted_rules rules))
    (λ c k. omega (
      arith,
      sum_by-append (amount_at c k) (a ++ b) r,
      sum_by-append (amount_at c k) a b,
      sum_by-append (amount_at c k) (a' ++ b') r,
      sum_by-append (amount_at c k) a' b',
      listed_amounts Old c k t xs lt lx,
      listed_amounts New c k u ys lu ly,
    ))

pub three_pushed : {X : Type 0} (start one two three a b c : List X) → start ≡ [] → one ≡ start ++ a → two ≡ one ++ b → three ≡ two ++ c → three ≡ a ++ b ++ c
three_pushed start one two three a b c none is_one is_two is_three =
    is_three ∙ ap (λ l. l ++ c) (is_two ∙ ap (λ l. l ++ b) (is_one ∙ ap (λ l. l ++ a) none))

-- ITSELF: if a map is compared with itself, the amounts of both maps are equal
class_even : (f g : Amount → ℕ) (k j : Amount) → f k ≡ g j → (c : List ℕ) (o : Option (List ℕ)) → amounts c k (class_of f o) ≡ amounts c j (class_of g o)
class_even f g k j same c None = refl
class_even f g k j same c (Some n) =
    let x : ClassData = record { name = n; amount = f } in
    let y : ClassData = record { name = n; amount = g } in
    let e : amount_at c k x ≡ amount_at c j y = ap (λ m. if bytes_eq n c then m else 0) same in
    omega (arith, e, sum_by-cons (amount_at c k) x [], sum_by-cons (amount_at c j) y [])

flat_even : {X : Type 0} (c : List ℕ) (k j : Amount) (f g : X → List ClassData) → ((x : X) → amounts c k (f x) ≡ amounts c j (g x)) → (xs : List X) → amounts c k (flat_map f xs) ≡ amounts c j (flat_map g xs)
flat_even c k j f g each [] = refl
flat_even c k j f g each (x ∷ xs) =
    omega (arith, each x, flat_even c k j f g each xs, sum_by-append (amount_at c k) (f x) (flat_map f xs), sum_by-append (amount_at c j) (g x) (flat_map g xs))

-- k is an amount of the old map, and j is the same amount of the new map
pub record AreTurned (k j : Amount) : Type 0 where
  pub old : (w : ℕ) → added Old w k ≡ added New w j
  pub new : (w : ℕ) → added New w k ≡ added Old w j
  pub rule : added Rule 0 k ≡ added Rule 0 j

step_even : (k j : Amount) → added Rule 0 k ≡ added Rule 0 j → (c : List ℕ) (x : StepData) → amounts c k (step_class x) ≡ amounts c j (step_class x)
step_even k j same c (take b o) = class_even (added Rule 0) (added Rule 0) k j same c o
step_even k j same c (choose l f n x) = refl
step_even k j same c (set w v) = refl
step_even k j same c emit = refl

abbrev entries : List Row → List RuleData → List ClassData
entries t rules = flat_map (row_class Old t) t ++ flat_map (row_class New t) t ++ rule_classes rules

entries_even : (k j : Amount) → AreTurned k j → (t : List Row) (rules : List RuleData) (c : List ℕ) → amounts c k (entries t rules) ≡ amounts c j (entries t rules)
entries_even k j turned t rules c =
    let a = flat_map (row_class Old t) t in
    let b = flat_map (row_class New t) t in
    let r = rule_classes rules in
    let first : amounts c k a ≡ amounts c j b = flat_even c k j (row_class Old t) (row_class New t) (λ x. class_even _ _ k j (turned.old _) c x.class) t in
    let second : amounts c k b ≡ amounts c j a = flat_even c k j (row_class New t) (row_class Old t) (λ x. class_even _ _ k j (turned.new _) c x.class) t in
    let third : amounts c k r ≡ amounts c j r = flat_even c k j (λ (x : RuleData). flat_map step_class x.steps) (λ (x : RuleData). flat_map step_class x.steps) (λ x. flat_even c k j step_class step_class (step_even k j turned.rule c) x.steps) rules in
    omega (arith, first, second, third, sum_by-append (amount_at c k) (a ++ b) r, sum_by-append (amount_at c k) a b, sum_by-append (amount_at c j) (a ++ b) r, sum_by-append (amount_at c j) a b)

abbrev AllEven : Amount → Amount → List ClassData → Type 0
AllEven k j [] = Unit {0}
AllEven k j (x ∷ xs) = (x.amount k ≡ x.amount j) × AllEven k j xs

all_even : (k j : Amount) (xs : List ClassData) → Rising xs → ((c : List ℕ) → amounts c k xs ≡ amounts c j xs) → AllEven k j xs
all_even k j [] up same = tt
all_even k j (x ∷ xs) up same =
    let first : x.amount k ≡ x.amount j = sym (first_amount k x xs up.0) ∙ same x.name ∙ first_amount j x xs up.0 in
    (first, all_even k j xs up.1 (λ c. let here : amount_at c k x ≡ amount_at c j x = ap (λ m. if bytes_eq x.name c then m else 0) first in omega (arith, same c, here, sum_by-cons (amount_at c k) x xs, sum_by-cons (amount_at c j) x xs)))

classes_even : (k j : Amount) → AreTurned k j → (t : List Row) (rules : List RuleData) → AllEven k j (collected (entries t rules))
classes_even k j turned t rules =
    all_even k j (collected (entries t rules)) (rising_collected (entries t rules)) (λ c. collected_adds c k (entries t rules) ∙ entries_even k j turned t rules c ∙ sym (collected_adds c j (entries t rules)))

never : (p q : Bool) → ((p && not p) && q) ≡ false
never true q = refl
never false q = refl

none_changed : (xs : List ClassData) → AllEven old_weight new_weight xs → AllEven old_devices new_devices xs → flat_map change_of_class xs ≡ []
none_changed [] weights devices = refl
none_changed (x ∷ xs) weights devices =
    let stays : is_reweighed (class_change x) ≡ false = ap not (eq-eqb (x.amount old_weight) (x.amount new_weight) weights.0) in
    let taken : is_untaken (class_change x) ≡ false = ap (λ n. ((x.amount old_devices == 0) && not (n == 0)) && not (not (x.amount takes == 0))) (sym devices.0) ∙ never (x.amount old_devices == 0) (not (not (x.amount takes == 0))) in
    λ i. (if stays i || taken i then class_change x ∷ [] else []) ++ none_changed xs weights.1 devices.1 i

weights_turned : AreTurned old_weight new_weight
weights_turned = record { old = λ w. refl; new = λ w. refl; rule = refl }

devices_turned : AreTurned old_devices new_devices
devices_turned = record { old = λ w. refl; new = λ w. refl; rule = refl }

pub no_changed_classes : (t : List Row) (rules : List RuleData) → class_changes t t rules ≡ []
unfolding classes
no_changed_classes t rules = none_changed (collected (entries t rules)) (classes_even old_weight new_weight weights_turned t rules) (classes_even old_devices new_devices devices_turned t rules)

pub no_classes : (s : SettingData) (t : List Row) → class_lines t t s ≡ []
unfolding class_lines
no_classes s t = ap lines_of_classes (no_changed_classes t s.rules)
