-- Putting an item changes the table, unless the bucket of the lowest stop already holds the item.
use Rattle.std.proofs.Common.{◌≡◌, ℕ, suc, Bool, true, false, List, [], ◌∷◌, ◌++◌, length, ap, sym, subst, ◌∙◌, ◌<◌, refl, arith, ⊎_elim, eqb-true, nat_eq}
use Rattle.std.proofs.lemmas.Bool.{and_parts}
use Rattle.std.specs.Prelude.{◌==◌, ◌&&◌, not, if◌then◌else◌, Option, Some, None, IfSome, All, is_some, option_and_then, bytes_eq}
use Rattle.std.specs.Option.{option_eq}
use Rattle.std.proofs.lemmas.List.Elements.{All-head, All-tail}
use Rattle.std.proofs.lemmas.List.Sums.{take_while-cons}
use lib.Pointwise.{pointwise}
use Rattle.crush_units.specs.Alg.{same_alg}
use Rattle.crush_units.specs.declared.id.ItemId.{ItemId}
use Rattle.crush_units.specs.declared.id.ItemId.TheVariants.{Device, Bucket}
use Rattle.crush_units.specs.Id.{same_id}
use Rattle.crush_units.proofs.Ids.{same_id_refl, same_id_equal}
use Rattle.crush_model.specs.ItemRows.{bucket_row}
use Rattle.crush_model.specs.Table.{Row, row_of, id_named, is_named, is_there, parent_of, member, used_ids}
use Rattle.crush_model.specs.Lawful.{Lawful}
use Rattle.crush_model.specs.Columns.{without_row}
use Rattle.crush_model.proofs.Climbs.{parent_there}
use Rattle.crush_model.proofs.Appended.{row_of-append, unused_fresh}
use Rattle.crush_model.proofs.Removed.{row_of-only}
use Rattle.crush_model.proofs.Weighs.{true_or_false}
use Rattle.crush_edits.specs.Stops.{StopData, is_fresh, fresh_stops, number_of, receiver}
use Rattle.crush_edits.specs.Put.{NewData, new_header, new_buckets, next_up, chain, next_place, put_at, put, is_id, held}
use Rattle.crush_edits.specs.New.{IsRoute}
use Rattle.crush_edits.specs.Changed.{same_class, same_row, same_table}
use Rattle.crush_edits.proofs.Routes.{end_first, new_buckets-length, no_next, route_fresh, route_next}

-- no new bucket has the id
chain_absent : (i : ItemId) (ns : List NewData) (top : Option ℕ) → All (λ (n : NewData). same_id (Bucket n.id) i ≡ false) ns → row_of (chain ns top) i ≡ None
chain_absent i [] top other = refl
chain_absent i (n ∷ ns) top other =
    ap (λ b. if b then Some (bucket_row (next_up ns top) (new_header n)) else row_of (chain ns top) i) (All-head (λ (x : NewData). same_id (Bucket x.id) i ≡ false) n ns other) ∙ chain_absent i ns top (All-tail (λ (x : NewData). same_id (Bucket x.id) i ≡ false) n ns other)

-- the item's row after the put has the new parent
pub row_of-put : (t : List Row) (r : Row) (ns : List NewData) (top : Option ℕ) → All (λ (n : NewData). same_id (Bucket n.id) r.id ≡ false) ns → row_of (put_at t r ns top) r.id ≡ Some (record r { parent = next_up ns top })
row_of-put t r ns top other =
    let s : Row = record r { parent = next_up ns top } in
    let gone : row_of (without_row r.id t) r.id ≡ None = row_of-only (λ j. not (same_id j r.id)) t r.id ∙ ap (λ b. if not b then row_of t r.id else None) (same_id_refl r.id) in
    row_of-append (without_row r.id t) (chain ns top ++ record r { parent = next_up ns top } ∷ []) r.id
    ∙ (λ k. if is_some (gone k) then gone k else row_of (chain ns top ++ record r { parent = next_up ns top } ∷ []) r.id)
    ∙ row_of-append (chain ns top) (record r { parent = next_up ns top } ∷ []) r.id
    ∙ (λ k. if is_some (chain_absent r.id ns top other k) then chain_absent r.id ns top other k else (if same_id_refl r.id k then Some (record r { parent = next_up ns top }) else None))

-- the item's parent before the put isn't the lowest new bucket, because its id was unused
stood_apart : (t : List Row) → Lawful t → (i : ItemId) (ns : List NewData) (top : Option ℕ) → 0 < length ns → All (λ (n : NewData). member n.id (used_ids t) ≡ false) ns → parent_of t i ≡ next_up ns top → ⊥
stood_apart t l i [] top some unused e = omega (arith, some)
stood_apart t l i (n ∷ ns) top some unused e =
    let there : is_there t (Bucket n.id) ≡ true = subst (λ o. IfSome o (λ b. is_there t (Bucket b) ≡ true)) e (parent_there t t l.parents i) in
    let gone : is_there t (Bucket n.id) ≡ false = unused_fresh t n.id (All-head (λ (x : NewData). member x.id (used_ids t) ≡ false) n ns unused) in
    cc

held_at : (o : Option ItemId) (b : ℕ) → option_and_then number_of o ≡ Some b → is_id (Some b) o ≡ true
held_at None b e = absurd cc
held_at (Some (Device d)) b e = absurd cc
held_at (Some (Bucket c)) b e = let is : c ≡ b = cc in ap (λ z. same_id (Bucket z) (Bucket c)) (sym is) ∙ same_id_refl (Bucket c)

-- an item that isn't held has another parent after it is put
pub parent_differs : (t : List Row) (i : ItemId) (ps : List StopData) → Lawful t → IsRoute t ps → held t i ps ≡ false → parent_of t i ≡ next_place t ps → ⊥
parent_differs t i [] l route h e = let some = route.some in omega (arith, some)
parent_differs t i (p ∷ ps) l route h e = ⊎_elim
    (λ named. let first = end_first t p ps named in
    let none_new : length (new_buckets t (p ∷ ps)) ≡ 0 = new_buckets-length t (p ∷ ps) ∙ ap length first.0 in
    let place = route_next t (p ∷ ps) route in
    let received : option_and_then number_of (id_named t p.name) ≡ Some place.0 = ap (option_and_then number_of) (sym first.1) ∙ sym (no_next (new_buckets t (p ∷ ps)) (receiver t (p ∷ ps)) none_new) ∙ place.1 in
    let yes : held t i (p ∷ ps) ≡ true = ap (λ o. is_id o (id_named t p.name)) (e ∙ place.1) ∙ held_at (id_named t p.name) place.0 received in
    cc)
    (λ fresh. let first : fresh_stops t (p ∷ ps) ≡ p ∷ fresh_stops t ps = take_while-cons (is_fresh t) p ps ∙ ap (λ b. if not b then p ∷ fresh_stops t ps else []) fresh in
    let many : length (fresh_stops t (p ∷ ps)) ≡ suc (length (fresh_stops t ps)) = ap length first in
    stood_apart t l i (new_buckets t (p ∷ ps)) (receiver t (p ∷ ps)) (omega (arith, many, new_buckets-length t (p ∷ ps))) (route_fresh t (p ∷ ps) l route).unused e)
    (true_or_false (is_named t p.name))

-- EQUAL TABLES have the same parents
columns : (a b c d e f g h : Bool) → (a && b && c && d && e && f && g && h) ≡ true → (a ≡ true) × (d ≡ true)
columns false b c d e f g h p = absurd cc
columns true false c d e f g h p = absurd cc
columns true true false d e f g h p = absurd cc
columns true true true false e f g h p = absurd cc
columns true true true true e f g h p = (refl, refl)

option_same : (o q : Option ℕ) → option_eq nat_eq o q ≡ true → o ≡ q
option_same None None e = refl
option_same None (Some q) e = absurd cc
option_same (Some p) None e = absurd cc
option_same (Some p) (Some q) e = ap Some (eqb-true p q e)

pub parent_of-same_table : (t u : List Row) → same_table t u ≡ true → (i : ItemId) → parent_of t i ≡ parent_of u i
parent_of-same_table [] [] e i = refl
parent_of-same_table [] (s ∷ u) e i = absurd cc
parent_of-same_table (r ∷ t) [] e i = absurd cc
parent_of-same_table (r ∷ t) (s ∷ u) e i =
    let first = and_parts (same_row r s) (same_table t u) e in
    let two = columns (same_id r.id s.id) (r.kind == s.kind) (bytes_eq r.name s.name) (option_eq nat_eq r.parent s.parent) (r.weight == s.weight) (option_eq bytes_eq r.class s.class) (option_eq same_alg r.alg s.alg) (pointwise same_class r.class_ids s.class_ids) first.0 in
    by_id (same_id r.id i) (same_id s.id i) (ap (λ j. same_id j i) (same_id_equal r.id s.id two.0)) (option_same r.parent s.parent two.1) (parent_of-same_table t u first.1 i) where
      by_id : (b c : Bool) → b ≡ c → r.parent ≡ s.parent → parent_of t i ≡ parent_of u i
          → option_and_then (λ (x : Row). x.parent) (if b then Some r else row_of t i) ≡ option_and_then (λ (x : Row). x.parent) (if c then Some s else row_of u i)
      by_id true true e p rest = p
      by_id false false e p rest = rest
      by_id true false e p rest = absurd cc
      by_id false true e p rest = absurd cc

-- THE LAW: the put changes the table, unless the item is held
pub differs : (t : List Row) (r : Row) (ps : List StopData) → Lawful t → IsRoute t ps → All (λ (n : NewData). same_id (Bucket n.id) r.id ≡ false) (new_buckets t ps) → held t r.id ps ≡ false → same_table t (put t r ps) ≡ false
differs t r ps l route other h = ⊎_elim
    (λ e. absurd (parent_differs t r.id ps l route h
    (parent_of-same_table t (put t r ps) e r.id ∙ ap (option_and_then (λ (x : Row). x.parent)) (row_of-put t r (new_buckets t ps) (receiver t ps) other))))
    (λ e. e)
    (true_or_false (same_table t (put t r ps)))
