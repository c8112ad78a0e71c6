-- The rows after items are put at a position are those after items are appended, in another order.
use Rattle.std.proofs.Common.{◌≡◌, ℕ, zero, suc, ◌+◌, List, ◌++◌, append_assoc, ap, sym, subst, ◌∙◌, arith, ⊎_elim}
use Rattle.std.specs.Prelude.{◌==◌, if◌then◌else◌, Option, Some, None}
use Rattle.std.proofs.lemmas.Bool.Decides.{eqb_tells}
use Rattle.crush_units.specs.declared.id.ItemId.TheVariants.{Bucket}
use Rattle.crush_model.specs.Count.{one_if}
use Rattle.crush_model.specs.Forest.{join}
use Rattle.crush_model.specs.ItemRows.{rows}
use Rattle.crush_model.specs.Items.{Items, none, device, bucket}
use Rattle.crush_model.specs.Reordered.{IsReordered, keep, through}
use Rattle.crush_model.specs.Table.{Row}
use Rattle.crush_model.proofs.Reorder.{reordered-after, reordered-before, reordered-is, reordered-refl, reordered_comm, reordered_end}
use Rattle.crush_nodes.specs.Ops.{count_of_id}
use Rattle.crush_walks.specs.Positions.{insert_at, put_among, put_at}
use Rattle.crush_nodes.proofs.Joins.{pick_no, pick_yes}
use Rattle.crush_nodes.proofs.LastRows.{one_of}
use Rattle.crush_nodes.proofs.RowLaws.{rows-join}
use Rattle.crush_walks.proofs.PositionLaws.{put_at-absent}

-- the new items come first
first_rows : (p : Option ℕ) (n t : Items) → IsReordered (rows p t ++ rows p n) (rows p (join n t))
first_rows p n t = through (reordered_comm (rows p t) (rows p n)) (reordered-is (sym (rows-join p n t)))

-- the new items come after others
behind_rows : (S R T N : List Row) → IsReordered (R ++ N) T → IsReordered ((S ++ R) ++ N) (S ++ T)
behind_rows S R T N h = through (reordered-is (append_assoc S R N)) (reordered-after S h)

inserted_rows : (p : Option ℕ) (k : ℕ) (n t : Items) → IsReordered (rows p t ++ rows p n) (rows p (insert_at k n t))
inserted_rows p k n none = reordered-refl (rows p n)
inserted_rows p zero n (device d r) = first_rows p n (device d r)
inserted_rows p (suc k) n (device d r) = keep (inserted_rows p k n r)
inserted_rows p zero n (bucket h w m s r) = first_rows p n (bucket h w m s r)
inserted_rows p (suc k) n (bucket h w m s r) = keep (behind_rows (rows (Some h.id) s) (rows p r) (rows p (insert_at k n r)) (rows p n) (inserted_rows p k n r))

-- IN A BUCKET
rows_put : (b k : ℕ) (n : Items) (p : Option ℕ) (t : Items) → count_of_id (Bucket b) t ≡ 1 → IsReordered (rows p t ++ rows (Some b) n) (rows p (put_at b k n t))
rows_put b k n p none one = absurd (omega (arith, one))
rows_put b k n p (device d r) one = keep (rows_put b k n p r (omega (arith, one)))
rows_put b k n p (bucket h w m s r) one =
    let S = rows (Some h.id) s in
    let R = rows p r in
    let N = rows (Some b) n in
    let end : IsReordered ((S ++ R) ++ N) ((S ++ N) ++ R) = reordered_end S R N in
    let away : count_of_id (Bucket b) r ≡ 0 → rows p (put_at b k n r) ≡ R = λ gone. ap (rows p) (put_at-absent b k n r gone) in
    keep (⊎_elim
    (λ yes.
    let here : one_if (h.id == b) ≡ 1 = ap one_if yes.0 in
    let kids : rows (Some h.id) (if h.id == b then insert_at k n (put_at b k n s) else put_at b k n s) ≡ rows (Some h.id) (insert_at k n s) =
    ap (rows (Some h.id)) (pick_yes (h.id == b) _ _ here ∙ ap (insert_at k n) (put_at-absent b k n s (omega (arith, one, here)))) in
    let own : IsReordered (S ++ N) (rows (Some h.id) (insert_at k n s)) = subst (λ z. IsReordered (S ++ rows (Some z) n) (rows (Some h.id) (insert_at k n s))) yes.1 (inserted_rows (Some h.id) k n s) in
    through end (through (reordered-before R own) (reordered-is (λ j. sym kids j ++ sym (away (omega (arith, one, here))) j))))
    (λ no.
    let other : one_if (h.id == b) ≡ 0 = ap one_if no.0 in
    let kids : rows (Some h.id) (if h.id == b then insert_at k n (put_at b k n s) else put_at b k n s) ≡ rows (Some h.id) (put_at b k n s) = ap (rows (Some h.id)) (pick_no (h.id == b) _ _ other) in
    ⊎_elim
    (λ in_kids.
    through end (through (reordered-before R (rows_put b k n (Some h.id) s in_kids)) (reordered-is (λ j. sym kids j ++ sym (away (omega (arith, one, other, in_kids))) j))))
    (λ in_rest.
    let same : rows (Some h.id) (if h.id == b then insert_at k n (put_at b k n s) else put_at b k n s) ≡ S = kids ∙ ap (rows (Some h.id)) (put_at-absent b k n s (omega (arith, one, other, in_rest))) in
    through (behind_rows S R (rows p (put_at b k n r)) N (rows_put b k n p r in_rest)) (reordered-is (ap (λ z. z ++ rows p (put_at b k n r)) (sym same))))
    (one_of (count_of_id (Bucket b) s) (count_of_id (Bucket b) r) (omega (arith, one, other))))
    (eqb_tells h.id b))

pub put_at_rows : (b k : ℕ) (n t : Items) → count_of_id (Bucket b) t ≡ 1 → IsReordered (rows None t ++ rows (Some b) n) (rows None (put_at b k n t))
put_at_rows b k n t one = rows_put b k n None t one

-- AMONG OTHER ITEMS
exchanged_rows : (p : Option ℕ) (n x t : Items) → IsReordered (rows p (join x t) ++ rows p n) (rows p (join n (join t x)))
exchanged_rows p n x t =
    through (reordered-is (ap (λ z. z ++ rows p n) (rows-join p x t))) (through (reordered-before (rows p n) (reordered_comm (rows p x) (rows p t)))
    (through (reordered-is (ap (λ z. z ++ rows p n) (sym (rows-join p t x)))) (first_rows p n (join t x))))

pub put_among_rows : (p : Option ℕ) (k : ℕ) (n t : Items) → IsReordered (rows p t ++ rows p n) (rows p (put_among k n t))
put_among_rows p k n none = reordered-refl (rows p n)
put_among_rows p zero n (device d r) = exchanged_rows p n (device d none) r
put_among_rows p (suc k) n (device d r) = keep (put_among_rows p k n r)
put_among_rows p zero n (bucket h w m s r) = exchanged_rows p n (bucket h w m s none) r
put_among_rows p (suc k) n (bucket h w m s r) = keep (behind_rows (rows (Some h.id) s) (rows p r) (rows p (put_among k n r)) (rows p n) (put_among_rows p k n r))
