-- Proves that the keys of all ids of two tables rise, and that they are the keys of the tables' rows.
use Rattle.std.proofs.Common.{◌≡◌, ℕ, ◌+◌, ◌^◌, ◌-◌, ◌<◌, ◌≤◌, ◌==◌, ◌||◌, ◌&&◌, Bool, true, false, nat_le, List, [], ◌∷◌, ◌++◌, refl, sym, ap, ◌∙◌, arith, map}
use Rattle.std.specs.Prelude.{All, flat_map}
use Rattle.std.proofs.Math.Bool.{or_assoc}
use Rattle.std.proofs.lemmas.Bool.{eqb-true, eq-eqb}
use Rattle.std.proofs.lemmas.Bool.Decides.{nat_tests}
use Rattle.std.proofs.lemmas.List.Elements.{All-head, All-tail, All-nil, All-cons, All-append}
use Rattle.crush_units.specs.declared.id.ItemId.{ItemId}
use Rattle.crush_units.specs.declared.id.ItemId.TheVariants.{Device, Bucket}
use Rattle.crush_model.specs.Lawful.{Lawful, IsRow, IsRowOf}
use Rattle.crush_model.specs.Table.{Row, bucket_ids}
use Rattle.crush_compare.specs.AllIds.{all_ids, all_buckets, all_devices, once}
use Rattle.crush_items.specs.ById.{IsShort, id_key}
use Rattle.crush_items.specs.Order.{ascending, device_number}
use Rattle.crush_compare.specs.Pairs.{RiseFrom, Rise}
use Rattle.crush_compare.proofs.KeyLaws.{has, has-append, has-ascending, has-once, no, or_swap, rise-once, up-ascending}

-- the key of the device with the number d
abbrev pub beyond : ℕ → ℕ
beyond d = 2 ^ 32 + d

abbrev pub row_keys : List Row → List ℕ
row_keys t = map (λ (r : Row). id_key r.id) t

buckets_of : List Row → List ℕ
buckets_of t = flat_map (λ (r : Row). bucket_ids r.id) t

devices_of : List Row → List ℕ
devices_of t = flat_map (λ (r : Row). device_number r.id) t

-- a number is the key of a row if and only if it is the number of a row's bucket, or it is `beyond` d for the number d of a row's device
key_more : (k : ℕ) (i : ItemId) (bs ds : List ℕ) (p : Bool) → p ≡ (has k bs || has k (map beyond ds)) → ((k == id_key i) || p) ≡ (has k (bucket_ids i ++ bs) || has k (map beyond (device_number i ++ ds)))
key_more k (Bucket b) bs ds p is = ap (λ q. (k == b) || q) is ∙ sym (or_assoc (k == b) (has k bs) (has k (map beyond ds)))
key_more k (Device d) bs ds p is = ap (λ q. (k == beyond d) || q) is ∙ or_swap (k == beyond d) (has k bs) (has k (map beyond ds))

has-rows : (k : ℕ) (t : List Row) → has k (row_keys t) ≡ (has k (flat_map (λ (r : Row). bucket_ids r.id) t) || has k (map beyond (flat_map (λ (r : Row). device_number r.id) t)))
has-rows k [] = refl
has-rows k (r ∷ t) = key_more k r.id (flat_map (λ (x : Row). bucket_ids x.id) t) (flat_map (λ (x : Row). device_number x.id) t) (has k (row_keys t)) (has-rows k t)

-- comparing k with `beyond` d is comparing k - 2^32 with d
beyond_is : (k d : ℕ) → (k == beyond d) ≡ (nat_le (2 ^ 32) k && ((k - 2 ^ 32) == d))
beyond_is k d = grind (arith, nat_tests)

and_or : (a p q : Bool) → ((a && p) || (a && q)) ≡ (a && (p || q))
and_or true p q = refl
and_or false p q = refl

and_no : (a : Bool) → false ≡ (a && false)
and_no true = refl
and_no false = refl

has-beyond : (k : ℕ) (ds : List ℕ) → has k (map beyond ds) ≡ (nat_le (2 ^ 32) k && has (k - 2 ^ 32) ds)
has-beyond k [] = and_no (nat_le (2 ^ 32) k)
has-beyond k (d ∷ ds) = (λ i. beyond_is k d i || has-beyond k ds i) ∙ and_or (nat_le (2 ^ 32) k) ((k - 2 ^ 32) == d) (has (k - 2 ^ 32) ds)

-- sorting a list and removing its repetitions doesn't change which numbers are in it
pub has-kept : (k : ℕ) (xs : List ℕ) → has k (once (ascending xs)) ≡ has k xs
has-kept k xs = has-once k (ascending xs) ∙ has-ascending k xs

-- a number is a key of the buckets bs and the devices ds if and only if it is in bs or is `beyond` a number of ds
has-ids : (k : ℕ) (bs ds : List ℕ) → has k (map id_key (map Bucket bs ++ map Device ds)) ≡ (has k bs || has k (map beyond ds))
has-ids k [] [] = refl
has-ids k [] (d ∷ ds) = ap (λ p. (k == beyond d) || p) (has-ids k [] ds)
has-ids k (b ∷ bs) ds = ap (λ p. (k == b) || p) (has-ids k bs ds) ∙ sym (or_assoc (k == b) (has k bs) (has k (map beyond ds)))

or_four : (a b c d : Bool) → ((a || b) || (c || d)) ≡ ((a || c) || (b || d))
or_four true b c d = refl
or_four false true true d = refl
or_four false true false d = refl
or_four false false c d = refl

-- THE KEYS of all ids of two tables are the keys of the rows of both tables
pub has-all_ids : (k : ℕ) (t u : List Row) → has k (map id_key (all_ids t u)) ≡ (has k (row_keys t) || has k (row_keys u))
unfolding all_ids all_buckets all_devices
has-all_ids k t u =
    let bt : List ℕ = flat_map (λ (r : Row). bucket_ids r.id) t in let bu : List ℕ = flat_map (λ (r : Row). bucket_ids r.id) u in
    let dt : List ℕ = flat_map (λ (r : Row). device_number r.id) t in let du : List ℕ = flat_map (λ (r : Row). device_number r.id) u in
    let devices : has k (map beyond (once (ascending (dt ++ du)))) ≡ (has k (map beyond dt) || has k (map beyond du)) =
    has-beyond k (once (ascending (dt ++ du))) ∙ ap (λ p. nat_le (2 ^ 32) k && p) (has-kept (k - 2 ^ 32) (dt ++ du) ∙ has-append (k - 2 ^ 32) dt du)
    ∙ sym (and_or (nat_le (2 ^ 32) k) (has (k - 2 ^ 32) dt) (has (k - 2 ^ 32) du)) ∙ (λ i. sym (has-beyond k dt) i || sym (has-beyond k du) i) in
    let buckets : has k (once (ascending (bt ++ bu))) ≡ (has k bt || has k bu) = has-kept k (bt ++ bu) ∙ has-append k bt bu in
    has-ids k (once (ascending (bt ++ bu))) (once (ascending (dt ++ du))) ∙ (λ i. buckets i || devices i) ∙ or_four (has k bt) (has k bu) (has k (map beyond dt)) (has k (map beyond du))
    ∙ (λ i. sym (has-rows k t) i || sym (has-rows k u) i)

-- the number of each bucket in a lawful table is less than the key of every device
within : (k : ℕ) (i : ItemId) (r : Row) (bs : List ℕ) → IsRowOf i r → (has k bs ≡ true → k < 2 ^ 32) → has k (bucket_ids i ++ bs) ≡ true → k < 2 ^ 32
within k (Device d) r bs row rest is = rest is
within k (Bucket b) r bs row rest is = by (k == b) refl is where
  by : (p : Bool) → (k == b) ≡ p → (p || has k bs) ≡ true → k < 2 ^ 32
  by true same h = let most : b ≤ 2147483648 = row.most in omega (arith, eqb-true k b same, most)
  by false other h = rest h

few_buckets : (k : ℕ) (t : List Row) → All IsRow t → has k (flat_map (λ (r : Row). bucket_ids r.id) t) ≡ true → k < 2 ^ 32
few_buckets k [] rows is = no is
few_buckets k (r ∷ t) rows is = within k r.id r (flat_map (λ (x : Row). bucket_ids x.id) t) (All-head IsRow r t rows).form (few_buckets k t (All-tail IsRow r t rows)) is

either : (p q : Bool) (k : ℕ) → (p ≡ true → k < 2 ^ 32) → (q ≡ true → k < 2 ^ 32) → (p || q) ≡ true → k < 2 ^ 32
either true q k f g is = f refl
either false q k f g is = g is

or_right : (p q : Bool) → q ≡ true → (p || q) ≡ true
or_right true q is = refl
or_right false q is = is

-- the keys of all ids rise
rise_beyond : (low high : ℕ) (ds : List ℕ) → low ≤ beyond high → RiseFrom high ds → RiseFrom low (map id_key (map Device ds))
rise_beyond low high [] less up = tt
rise_beyond low high (d ∷ ds) less up = (omega (arith, less, up.0), rise_beyond (beyond d + 1) (d + 1) ds (omega arith) up.1)

rise_ids : (low : ℕ) (bs ds : List ℕ) → low ≤ 2 ^ 32 → ((k : ℕ) → has k bs ≡ true → k < 2 ^ 32) → RiseFrom low bs → Rise ds → RiseFrom low (map id_key (map Bucket bs ++ map Device ds))
rise_ids low [] ds less few up upper = rise_beyond low 0 ds (omega (arith, less)) upper
rise_ids low (b ∷ bs) ds less few up upper =
    let most : b < 2 ^ 32 = few b (ap (λ p. p || has b bs) (eq-eqb b b refl)) in
    (up.0, rise_ids (b + 1) bs ds (omega (arith, most)) (λ k is. few k (or_right (k == b) (has k bs) is)) up.1 upper)

pub rise-all_ids : (t u : List Row) → Lawful t → Lawful u → Rise (map id_key (all_ids t u))
unfolding all_ids all_buckets all_devices
rise-all_ids t u lawful_t lawful_u =
    let bt : List ℕ = flat_map (λ (r : Row). bucket_ids r.id) t in let bu : List ℕ = flat_map (λ (r : Row). bucket_ids r.id) u in
    let ds : List ℕ = flat_map (λ (r : Row). device_number r.id) t ++ flat_map (λ (r : Row). device_number r.id) u in
    rise_ids 0 (once (ascending (bt ++ bu))) (once (ascending ds)) (omega arith)
    (λ k is. either (has k bt) (has k bu) k (few_buckets k t lawful_t.rows) (few_buckets k u lawful_u.rows) (sym (has-kept k (bt ++ bu) ∙ has-append k bt bu) ∙ is))
    (rise-once (ascending (bt ++ bu)) (up-ascending (bt ++ bu))) (rise-once (ascending ds) (up-ascending ds))

-- in a lawful table the number of each bucket is less than 2^32, which `IsShort` says
short_buckets : (bs : List ℕ) → ((k : ℕ) → has k bs ≡ true → k < 2 ^ 32) → All IsShort (map Bucket bs)
short_buckets [] few = All-nil IsShort
short_buckets (b ∷ bs) few =
    All-cons IsShort (Bucket b) (map Bucket bs) (few b (ap (λ p. p || has b bs) (eq-eqb b b refl))) (short_buckets bs (λ k is. few k (or_right (k == b) (has k bs) is)))

short_devices : (ds : List ℕ) → All IsShort (map Device ds)
short_devices [] = All-nil IsShort
short_devices (d ∷ ds) = All-cons IsShort (Device d) (map Device ds) tt (short_devices ds)

pub short_ids : (t u : List Row) → Lawful t → Lawful u → All IsShort (all_ids t u)
unfolding all_ids all_buckets all_devices
short_ids t u lawful_t lawful_u =
    let bt : List ℕ = flat_map (λ (r : Row). bucket_ids r.id) t in let bu : List ℕ = flat_map (λ (r : Row). bucket_ids r.id) u in
    let ds : List ℕ = once (ascending (flat_map (λ (r : Row). device_number r.id) t ++ flat_map (λ (r : Row). device_number r.id) u)) in
    All-append IsShort (map Bucket (once (ascending (bt ++ bu)))) (map Device ds)
    (short_buckets (once (ascending (bt ++ bu))) (λ k is. either (has k bt) (has k bu) k (few_buckets k t lawful_t.rows) (few_buckets k u lawful_u.rows) (sym (has-kept k (bt ++ bu) ∙ has-append k bt bu) ∙ is)))
    (short_devices ds)
