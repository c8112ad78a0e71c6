-- Proves that if the table with a bucket's row is lawful, then the first lines of this bucket could be read before the row was appended.
use Rattle.std.proofs.Common.{◌≡◌, ℕ, ◌+◌, ◌≤◌, false, List, [], ◌∷◌, ◌++◌, refl, ap, ◌∙◌, arith}
use Rattle.std.proofs.lemmas.Bool.{and_from, lt-ltb, eq-eqb}
use Rattle.std.proofs.lemmas.List.Elements.{All-weaker}
use Rattle.std.proofs.lemmas.List.Sums.{sum_by-cons}
use Rattle.std.specs.Prelude.{◌==◌, nat_lt, bytes_eq, map}
use Rattle.std.specs.List.{count_by}
use Rattle.crush_units.specs.declared.alg.Alg.{Alg}
use Rattle.crush_model.specs.Count.{one_if}
use Rattle.crush_model.specs.Items.{ShadowData}
use Rattle.crush_model.specs.Table.{Row, is_bucket, member, used_ids}
use Rattle.crush_model.specs.Lawful.{Lawful, IsRow, IsBucketRow}
use Rattle.crush_model.proofs.Same.{times_used, member-count}
use Rattle.crush_model.proofs.Tested.{bytes_itself}
use Rattle.crush_model.proofs.Appended.{times_used-push}
use Rattle.crush_edits.specs.Setting.{SettingData}
use Rattle.crush_edits.specs.Fits.{HasKind}
use Rattle.crush_builder.specs.Building.{CanBegin, CanNumber, own_ids}
use Rattle.crush_builder.proofs.RowSteps.{new_bucket}
use Rattle.crush_laws.proofs.Allowed.{none_before, last_of, count_last, unnamed}
use Rattle.crush_laws.proofs.BuiltHeads.{own_count}

module _ (s : SettingData) (t : List Row) (k : ℕ) (x : List ℕ) (b : ℕ) (cs : List ShadowData) (a : Alg) (l : Lawful (t ++ new_bucket k x b cs a ∷ [])) where
  -- the row meets `IsRow`
  row : IsRow (new_bucket k x b cs a)
  row = last_of IsRow t (new_bucket k x b cs a) l.rows

  -- the row meets `IsBucketRow`
  form : IsBucketRow b (new_bucket k x b cs a)
  form = let r = row in r.form

  -- no other row uses the ids of the row
  own_once : (u : ℕ) → times_used u (t ++ new_bucket k x b cs a ∷ []) ≡ times_used u t + count_by (λ v. v == u) (own_ids b cs)
  own_once u = times_used-push u t (new_bucket k x b cs a)

  -- the ids are free before the row is appended
  own_free : (u : ℕ) → 1 ≤ count_by (λ v. v == u) (own_ids b cs) → member u (used_ids t) ≡ false
  own_free u some = let none : times_used u t ≡ 0 = omega (arith, some, own_once u, l.used u) in member-count u (used_ids t) ∙ ap (nat_lt 0) none

  -- the number of the bucket is one of these ids
  pub id_free : member b (used_ids t) ≡ false
  id_free = own_free b (let one : one_if (b == b) ≡ 1 = ap one_if (eq-eqb b b refl) in omega (arith, one, sum_by-cons (λ v. one_if (v == b)) b (map (λ (c : ShadowData). c.id) cs)))

  -- the bucket could be begun (`CanBegin`)
  pub begin_back : HasKind s (new_bucket k x b cs a) → CanBegin s t k x
  begin_back known =
      let r = row in
      let f = form in
      record {
        known = and_from _ _ (lt-ltb 0 k f.kind_some) (known f.kind_some);
        most = f.kind_most;
        form = r.name;
        free = unnamed t x (none_before (λ (y : Row). bytes_eq y.name x) t (new_bucket k x b cs a) (bytes_itself x) (l.names x));
        few = omega (arith, l.buckets, count_last is_bucket t (new_bucket k x b cs a) refl);
      }

  -- the bucket could get its id and class ids (`CanNumber`)
  pub number_back : CanNumber t b cs
  number_back =
      let f = form in
      record {
        some = f.some;
        most = f.most;
        free = id_free;
        form = f.class_ids;
        fresh = All-weaker (λ (c : ShadowData). 1 ≤ count_by (λ v. v == c.id) (map (λ (y : ShadowData). y.id) cs)) (λ (c : ShadowData). member c.id (used_ids t) ≡ false)
            (λ c some. own_free c.id (omega (arith, some, sum_by-cons (λ v. one_if (v == c.id)) b (map (λ (y : ShadowData). y.id) cs)))) cs (own_count cs);
        apart = λ u. omega (arith, own_once u, l.used u);
        classes = f.classes;
        few = f.few;
      }
