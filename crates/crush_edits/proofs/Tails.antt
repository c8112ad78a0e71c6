-- What one step of a put must have left for the next step.
use Rattle.std.proofs.Common.{Bool, true, false, ◌≡◌, ℕ, ◌≤◌, List, [], ◌∷◌, ◌++◌, length, ap, sym, subst, ◌∙◌, refl, arith, append-nil}
use Rattle.std.specs.Prelude.{not, if◌then◌else◌, Option, Some, None, IfSome, All, is_some, option_and_then}
use Rattle.crush_units.specs.declared.id.ItemId.{ItemId}
use Rattle.crush_units.specs.declared.id.ItemId.TheVariants.{Device, Bucket}
use Rattle.crush_model.specs.ItemRows.{rows}
use Rattle.crush_model.specs.Table.{Row, class_of, row_of, is_there}
use Rattle.crush_model.specs.Same.{Same}
use Rattle.crush_model.specs.Lawful.{IsRow, IsRowOf, Lawful, has_too_many}
use Rattle.crush_model.specs.Columns.{is_part, table_without, part}
use Rattle.crush_model.proofs.Removed.{row_of-only}
use Rattle.crush_model.proofs.Moved.{row_id}
use Rattle.std.proofs.lemmas.List.Elements.{All-head, All-tail}
use Rattle.crush_units.specs.Id.{same_id}
use Rattle.crush_units.specs.declared.limits.TheConstants.{HEAVIEST_DEVICE}
use Rattle.crush_edits.specs.Stops.{receiver}
use Rattle.crush_edits.specs.Put.{NewData, new_buckets, chain, next_place, put}
use Rattle.crush_edits.specs.Boxes.{last_first}
use Rattle.crush_edits.specs.LawPut.{NoneNew, PutMovesOnly, NextStays, FormStays, EditedIsOwn}
use Rattle.crush_edits.specs.LawRoute.{rows_made}
use Rattle.crush_edits.proofs.Chains.{new_are, ids-apart, chain-apart}
use Rattle.crush_edits.proofs.Lawfuls.{next_there_with}
use Rattle.crush_edits.proofs.PutLaws.{moves}
use Rattle.crush_edits.proofs.Routes.{new_buckets-length, route_fresh, no_next}

no_chain : (ns : List NewData) (top : Option ℕ) → length ns ≡ 0 → last_first (chain ns top) ≡ []
no_chain [] top e = refl
no_chain (n ∷ ns) top e = absurd (omega (arith, e))

pub none_new : NoneNew
none_new t ps e =
    let none : length (new_buckets t ps) ≡ 0 = new_buckets-length t ps ∙ ap length e in
    (no_chain (new_buckets t ps) (receiver t ps) none, no_next (new_buckets t ps) (receiver t ps) none)

pub moves_only : PutMovesOnly
moves_only t ps r n l route e found apart room one whole =
    let none = none_new t ps e in
    let same_table : t ++ rows_made t ps ≡ t = ap (λ z. t ++ z) none.0 ∙ append-nil t in
    subst (λ z. Same (table_without r.id z ++ rows (receiver t ps) n) (put t r ps)) same_table
    (subst (λ o. Same (table_without r.id (t ++ rows_made t ps) ++ rows o n) (put t r ps)) none.1
    (moves t ps l route r n found apart room one (subst (λ z. Same (rows None n) (part r.id z)) (sym same_table) whole)))

stays : (u : List Row) (i : ItemId) (o : Option ℕ) → IfSome o (λ b. is_there u (Bucket b) ≡ true) → IfSome o (λ b. is_part u i (Bucket b) ≡ false) → IfSome o (λ b. is_there (table_without i u) (Bucket b) ≡ true)
stays u i None there apart = tt
stays u i (Some b) there apart = ap is_some (row_of-only (λ j. not (is_part u i j)) u (Bucket b)) ∙ ap (λ c. is_some (if not c then row_of u (Bucket b) else None)) apart ∙ there

pub next_stays : NextStays
next_stays t ps r l route found apart room =
    let fresh = route_fresh t ps l route in
    let are = ap (λ z. t ++ z) (new_are t l (new_buckets t ps) (receiver t ps) fresh 1) in
    let fits = ap has_too_many are ∙ room in
    let other = ids-apart t l (new_buckets t ps) (receiver t ps) fresh 1 r.id (ap is_some found) in
    subst (λ u. IfSome (next_place t ps) (λ b. is_there (table_without r.id u) (Bucket b) ≡ true)) are
    (stays _ r.id (next_place t ps) (next_there_with t l (new_buckets t ps) (receiver t ps) fresh 1)
    (chain-apart t l (new_buckets t ps) (receiver t ps) fresh 1 fits r.id other apart).1)

pub form_stays : FormStays
form_stays r row = (λ b. record { name = row.name; form = by_id r.id b row.form }, λ d b w e light. record { name = row.name; form = subst (λ i. IsRowOf i (record r { parent = Some b; weight = w })) (sym e) (device d b w light (subst (λ i. IsRowOf i r) e row.form)) }) where
  by_id : (i : ItemId) (b : ℕ) → IsRowOf i r → IsRowOf i (record r { parent = Some b })
  by_id (Device d) b form = record { id = form.id; kind = form.kind; light = form.light; unplaced = λ e. absurd cc; alg = form.alg; class_ids = form.class_ids; class = form.class }
  by_id (Bucket c) b form = record { some = form.some; most = form.most; kind_some = form.kind_some; kind_most = form.kind_most; weight = form.weight; class = form.class; alg = form.alg; class_ids = form.class_ids; few = form.few; classes = form.classes }

  device : (d b w : ℕ) → w ≤ HEAVIEST_DEVICE → IsRowOf (Device d) r → IsRowOf (Device d) (record r { parent = Some b; weight = w })
  device d b w light form = record { id = form.id; kind = form.kind; light = light; unplaced = λ e. absurd cc; alg = form.alg; class_ids = form.class_ids; class = form.class }

-- the row of an item in a table of valid rows is valid
from_rows : (t : List Row) → All IsRow t → (i : ItemId) (r : Row) → row_of t i ≡ Some r → IsRow r
from_rows [] a i r e = absurd cc
from_rows (x ∷ t) a i r e = by_id (same_id x.id i) e (λ f. from_rows t (All-tail IsRow x t a) i r f) where
  by_id : (b : Bool) → (if b then Some x else row_of t i) ≡ Some r → (row_of t i ≡ Some r → IsRow r) → IsRow r
  by_id true f ih = let is : x ≡ r = cc in subst IsRow is (All-head IsRow x t a)
  by_id false f ih = ih f

pub row_form : (t : List Row) → Lawful t → (i : ItemId) (r : Row) → row_of t i ≡ Some r → IsRow r
row_form t l = from_rows t l.rows

pub edited_is_own : EditedIsOwn
edited_is_own t d w r l e =
    let same : r.id ≡ Device d = row_id (Device d) t r e in
    let form : IsRowOf (Device d) r = subst (λ i. IsRowOf i r) same (row_form t l (Device d) r e).form in
    let class : class_of t (Device d) ≡ r.class = ap (option_and_then (λ (x : Row). x.class)) e in
    λ k. record { id = sym same k; kind = sym form.kind k; name = r.name; parent = None; weight = w; class = class k; alg = sym form.alg k; class_ids = sym form.class_ids k }
