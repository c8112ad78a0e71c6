-- The rows of the tree of what has changed if only the devices of one class count: which rows stay, which weights they have; and that no text of them is empty.
use Rattle.std.proofs.Common.{◌≡◌, ℕ, zero, suc, ◌+◌, ◌-◌, ◌<◌, ◌≤◌, Bool, true, false, List, [], ◌∷◌, ◌++◌, length, get_or, drop, map, reverse, ap, sym, ◌∙◌, refl, arith, add-one}
use Rattle.std.specs.Prelude.{◌&&◌, ◌||◌, Option, None, Some, if◌then◌else◌, is_some, nat_lt, option_and_then, unwrap_or}
use Rattle.std.specs.List.{slice_get}
use Rattle.std.specs.Option.{option_map, option_map_or}
use Rattle.std.proofs.Math.Seq.{drop-cons}
use Rattle.std.proofs.lemmas.Bool.{false≢true, lt-ltb, ltb-false, ltb-true}
use Rattle.std.proofs.lemmas.List.{length-reverse}
use mathlib.Core.List.{reverse-cons}
use Rattle.std.proofs.lemmas.Option.{slice_get-map}
use Rattle.crush_model.specs.Table.{Row}
use Rattle.crush_items.specs.Entries.{EntryData}
use Rattle.crush_items.specs.ItemData.{ItemData}
use Rattle.crush_items.specs.Items.{entry_id, item_entry, item_step}
use Rattle.crush_items.specs.declared.items.Item.{Item}
use Rattle.crush_compare.specs.declared.comparison.Comparison.{Comparison}
use Rattle.crush_print.specs.ClassItems.{step_weight}
use Rattle.crush_print.specs.ClassWeights.{weight_of_class}
use Rattle.crush_print.specs.declared.part.TreePart.{TreePart}
use Rattle.crush_since.specs.ChangePart.{lines_behind, part_rows}
use Rattle.crush_since.specs.Changes.{ChangeData}
use Rattle.crush_since.specs.ChangeText.{rows_text, heading, widths_of}
use Rattle.crush_since.specs.ClassChanges.{class_change, class_changes_text, class_rows, counts_below, has_class, is_of_class, of_class, staying, with_weight}
use Rattle.crush_since.specs.ClassChangesSeen.{AreClassWeights, begins_deeper, class_weights_of, kept_before, row_counts, row_depth, shown_change, weight_at}
use Rattle.crush_since.specs.SeenChange.{row_change}
use Rattle.crush_since.specs.Since.{PlainMap}
use Rattle.crush_since.specs.declared.changes.of_class.ClassWeights.{ClassWeights}
use Rattle.crush_since.specs.declared.changes.rows.TreeRow.{TreeRow}
use Rattle.crush_since.proofs.PartRowLaws.{heading_is_some, rows_are_some}

-- the weights of steps are those of entries
pub weights_of_entries : {A : Type 0} (t : List Row) (c : List ℕ) (xs : List (Item A)) → map (step_weight t c) (map item_step xs) ≡ class_weights_of t c (map item_entry xs)
weights_of_entries t c [] = refl
weights_of_entries t c (x ∷ xs) = ap (λ (l : List (Option ℕ)). weight_of_class t c (entry_id (item_entry x)) ∷ l) (weights_of_entries t c xs)

-- THE ITEM AT A POSITION: the weight there is that of the class at the item
abbrev item_of_entry : Option EntryData → Option ItemData
item_of_entry o = option_map (λ (e : EntryData). e.item) o

found_weight : (t : List Row) (c : List ℕ) (es : List EntryData) (ws : List (Option ℕ)) (p : ℕ) → ws ≡ class_weights_of t c es → weight_at ws (Some p) ≡ unwrap_or (option_map (λ (e : EntryData). weight_of_class t c (entry_id e)) (slice_get es p)) None
found_weight t c es ws p are = ap (λ l. unwrap_or (slice_get l p) None) are ∙ ap (λ (o : Option (Option ℕ)). unwrap_or o None) (slice_get-map (λ (e : EntryData). weight_of_class t c (entry_id e)) es p)

weighed_entry : (t : List Row) (c : List ℕ) (o : Option EntryData)
    → option_map (with_weight (unwrap_or (option_map (λ (e : EntryData). weight_of_class t c (entry_id e)) o) None)) (item_of_entry o) ≡ option_map (of_class t c) (item_of_entry o)
weighed_entry t c None = refl
weighed_entry t c (Some e) = refl

pub weighed_at : (t : List Row) (c : List ℕ) (es : List EntryData) (ws : List (Option ℕ)) (at : Option ℕ) → ws ≡ class_weights_of t c es
    → option_map (with_weight (weight_at ws at)) (item_of_entry (option_and_then (slice_get es) at)) ≡ option_map (of_class t c) (item_of_entry (option_and_then (slice_get es) at))
weighed_at t c es ws None are = refl
weighed_at t c es ws (Some p) are = ap (λ w. option_map (with_weight w) (item_of_entry (slice_get es p))) (found_weight t c es ws p are) ∙ weighed_entry t c (slice_get es p)

entry_has : (t : List Row) (c : List ℕ) (o : Option EntryData) → is_some (unwrap_or (option_map (λ (e : EntryData). weight_of_class t c (entry_id e)) o) None) ≡ has_class t c (item_of_entry o)
entry_has t c None = refl
entry_has t c (Some e) = refl

has_class_at : (t : List Row) (c : List ℕ) (es : List EntryData) (ws : List (Option ℕ)) (at : Option ℕ) → ws ≡ class_weights_of t c es → is_some (weight_at ws at) ≡ has_class t c (item_of_entry (option_and_then (slice_get es) at))
has_class_at t c es ws None are = refl
has_class_at t c es ws (Some p) are = ap is_some (found_weight t c es ws p are) ∙ entry_has t c (slice_get es p)

-- so a row in memory counts if its item is of the class, and it is printed with the weights of the class
pub row_is_of_class : {A B : Type 0} (t u : List Row) (c : List ℕ) (maps : Comparison A B) (weights : ClassWeights) (r : TreeRow) → AreClassWeights t u c maps weights → row_counts weights r ≡ is_of_class t u c (row_change maps r)
row_is_of_class t u c maps weights r are =
    let before = has_class_at t c (map item_entry maps.old.all.items) weights.before.items r.pair.before are.before in
    let after = has_class_at u c (map item_entry maps.new.all.items) weights.after.items r.pair.after are.after in
    λ k. before k || after k

shown_of_class : {A B : Type 0} (t u : List Row) (c : List ℕ) (maps : Comparison A B) (weights : ClassWeights) (r : TreeRow) → AreClassWeights t u c maps weights → shown_change maps (Some weights) r ≡ class_change t u c (row_change maps r)
shown_of_class t u c maps weights r are =
    let before = weighed_at t c (map item_entry maps.old.all.items) weights.before.items r.pair.before are.before in
    let after = weighed_at u c (map item_entry maps.new.all.items) weights.after.items r.pair.after are.after in
    let x = row_change maps r in
    λ k. record { id = x.id; depth = x.depth; stands = x.stands; was = before k; is = after k; same_class_ids = x.same_class_ids }

all_shown : {A B : Type 0} (t u : List Row) (c : List ℕ) (maps : Comparison A B) (weights : ClassWeights) → AreClassWeights t u c maps weights → (rows : List TreeRow)
    → map (shown_change maps (Some weights)) rows ≡ map (class_change t u c) (map (row_change maps) rows)
all_shown t u c maps weights are [] = refl
all_shown t u c maps weights are (r ∷ rows) = λ k. shown_of_class t u c maps weights r are k ∷ all_shown t u c maps weights are rows k

-- THE ROWS THAT STAY are those of the table
same_below : {X Y : Type 0} (f : X → Y) (p : X → Bool) (q : Y → Bool) (d : X → ℕ) (e : Y → ℕ) → ((x : X) → p x ≡ q (f x)) → ((x : X) → d x ≡ e (f x)) → (n : ℕ) (xs : List X) → counts_below p d n xs ≡ counts_below q e n (map f xs)
same_below f p q d e counts deep n [] = refl
same_below f p q d e counts deep n (x ∷ xs) = λ k. nat_lt n (deep x k) && (counts x k || same_below f p q d e counts deep n xs k)

map_if : {X Y : Type 0} (f : X → Y) (b : Bool) (x : X) (xs : List X) → map f (if b then x ∷ xs else xs) ≡ (if b then f x ∷ map f xs else map f xs)
map_if f true x xs = refl
map_if f false x xs = refl

same_staying : {X Y : Type 0} (f : X → Y) (p : X → Bool) (q : Y → Bool) (d : X → ℕ) (e : Y → ℕ) → ((x : X) → p x ≡ q (f x)) → ((x : X) → d x ≡ e (f x)) → (xs : List X) → map f (staying p d xs) ≡ staying q e (map f xs)
same_staying f p q d e counts deep [] = refl
same_staying f p q d e counts deep (x ∷ xs) =
    let rest = same_staying f p q d e counts deep xs in
    map_if f (p x || counts_below p d (d x) xs) x (staying p d xs)
    ∙ (λ k. if counts x k || (same_below f p q d e counts deep (d x) xs ∙ ap (λ n. counts_below q e n (map f xs)) (deep x)) k then f x ∷ rest k else rest k)

pub shown_rows : {A B : Type 0} (t u : List Row) (c : List ℕ) (maps : Comparison A B) (weights : ClassWeights) (rows : List TreeRow) → AreClassWeights t u c maps weights
    → map (shown_change maps (Some weights)) (staying (row_counts weights) row_depth rows) ≡ class_rows t u c (map (row_change maps) rows)
shown_rows t u c maps weights rows are =
    all_shown t u c maps weights are (staying (row_counts weights) row_depth rows)
    ∙ ap (map (class_change t u c)) (same_staying (row_change maps) (row_counts weights) (is_of_class t u c) row_depth (λ (x : ChangeData). x.depth) (λ r. row_is_of_class t u c maps weights r are) (λ r. refl) rows)

-- ONE ROW MORE, before those that stay: the first of these is deeper than the row if one of the rows below it counts
more : (l m a b c : Bool) → (l ≡ true → m ≡ true) → (b ≡ true → c ≡ true) → (l && (a || b)) ≡ true → (m && (a || c)) ≡ true
more false m a b c f g is = absurd (false≢true is)
more true m true b c f g is = λ k. f refl k && true
more true m false b c f g is = λ k. f refl k && g is k

below_more : {X : Type 0} (p : X → Bool) (d : X → ℕ) (m n : ℕ) (xs : List X) → m ≤ n → counts_below p d n xs ≡ true → counts_below p d m xs ≡ true
below_more p d m n [] low is = is
below_more p d m n (x ∷ xs) low is =
    more (nat_lt n (d x)) (nat_lt m (d x)) (p x) (counts_below p d n xs) (counts_below p d m xs)
    (λ e. let over : n < d x = ltb-true n (d x) e in lt-ltb m (d x) (omega (arith, over, low))) (below_more p d m n xs low) is

step : {X : Type 0} (d : X → ℕ) (n : ℕ) (x : X) (stay : List X) (a b c l : Bool) → nat_lt n (d x) ≡ l → begins_deeper d n stay ≡ c → (l ≡ true → b ≡ true → c ≡ true) → (l ≡ false → c ≡ true → b ≡ true)
    → begins_deeper d n (if a || b then x ∷ stay else stay) ≡ (l && (a || c))
step d n x stay true b c true is rest f g = is
step d n x stay true b c false is rest f g = is
step d n x stay false true c true is rest f g = is ∙ sym (f refl refl)
step d n x stay false true c false is rest f g = is
step d n x stay false false c true is rest f g = rest
step d n x stay false false true false is rest f g = absurd (false≢true (g refl refl))
step d n x stay false false false false is rest f g = rest

first_is_below : {X : Type 0} (p : X → Bool) (d : X → ℕ) (n : ℕ) (xs : List X) → begins_deeper d n (staying p d xs) ≡ counts_below p d n xs
first_is_below p d n [] = refl
first_is_below p d n (x ∷ xs) =
    step d n x (staying p d xs) (p x) (counts_below p d (d x) xs) (counts_below p d n xs) (nat_lt n (d x)) refl (first_is_below p d n xs)
    (λ e is. let over : n < d x = ltb-true n (d x) e in below_more p d n (d x) xs (omega (arith, over)) is)
    (λ e is. let under : d x ≤ n = ltb-false n (d x) e in below_more p d (d x) n xs under is)

pub one_more_stays : {X : Type 0} (p : X → Bool) (d : X → ℕ) (x : X) (xs : List X) → kept_before p d x (staying p d xs) ≡ staying p d (x ∷ xs)
one_more_stays p d x xs = ap (λ b. if p x || b then x ∷ staying p d xs else staying p d xs) (first_is_below p d (d x) xs)

-- the row at a position, and the rows after it
pub stays_from_here : (p : TreeRow → Bool) (d : TreeRow → ℕ) (rows : List TreeRow) (i j : ℕ) (row : TreeRow) → i < length rows → j ≡ i + 1 → row ≡ get_or rows i row
    → kept_before p d row (staying p d (drop j rows)) ≡ staying p d (drop i rows)
stays_from_here p d rows i j row lt next is =
    one_more_stays p d row (drop j rows) ∙ ap (staying p d) (sym (drop-cons rows i row lt ∙ (λ k. sym is k ∷ drop (sym (next ∙ add-one i) k) rows)))

-- THE LAST of a list is the first of the list turned round
abbrev first_of : {X : Type 0} → List X → Option X
first_of [] = None
first_of (x ∷ xs) = Some x

abbrev is_deeper : {X : Type 0} → (X → ℕ) → ℕ → Option X → Bool
is_deeper d depth o = option_map_or (λ x. nat_lt depth (d x)) o false

begins_with : {X : Type 0} (d : X → ℕ) (depth : ℕ) (xs : List X) → begins_deeper d depth xs ≡ is_deeper d depth (first_of xs)
begins_with d depth [] = refl
begins_with d depth (x ∷ xs) = refl

first_stays : {X : Type 0} (xs : List X) (x : X) → 0 < length xs → first_of (xs ++ x ∷ []) ≡ first_of xs
first_stays [] x some = absurd (omega (arith, some))
first_stays (y ∷ ys) x some = refl

turned : {X : Type 0} (xs : List X) (i : ℕ) → length xs ≡ i + 1 → first_of (reverse xs) ≡ slice_get xs i
turned [] i long = absurd (omega (arith, long))
turned (x ∷ []) zero long = refl
turned (x ∷ []) (suc i) long = absurd (omega (arith, long))
turned (x ∷ y ∷ ys) zero long = absurd (omega (arith, long))
turned (x ∷ y ∷ ys) (suc i) long =
    let some : 0 < length (reverse (y ∷ ys)) = omega (arith, length-reverse (y ∷ ys)) in
    ap first_of (reverse-cons x (y ∷ ys)) ∙ first_stays (reverse (y ∷ ys)) x some ∙ turned (y ∷ ys) i (omega (arith, long))

pub last_is_first : {X : Type 0} (d : X → ℕ) (depth : ℕ) (xs : List X) (o : Option X) → o ≡ slice_get xs (length xs - 1) → is_deeper d depth o ≡ begins_deeper d depth (reverse xs)
last_is_first d depth [] o is = ap (is_deeper d depth) is
last_is_first d depth (x ∷ xs) o is =
    let long : length (x ∷ xs) ≡ (length (x ∷ xs) - 1) + 1 = omega arith in
    ap (is_deeper d depth) (is ∙ sym (turned (x ∷ xs) (length (x ∷ xs) - 1) long)) ∙ sym (begins_with d depth (reverse (x ∷ xs)))

-- NO TEXT IS EMPTY: it has its headings
pub class_text_is_some : (part : TreePart) (c : List ℕ) (old new : PlainMap) → 0 < length (class_changes_text part c old new)
unfolding class_changes_text rows_text
class_text_is_some part c old new =
    let rows = class_rows old.table new.table c (part_rows part old new) in
    rows_are_some _ (lines_behind part.under old new) (rows_are_some (heading (widths_of rows)) _ (heading_is_some (widths_of rows)))
