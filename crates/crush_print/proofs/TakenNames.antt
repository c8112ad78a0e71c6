-- A bucket that a rule takes is printed with the name in the bucket's row.
use Rattle.std.proofs.Common.{◌≡◌, ℕ, true, false, List, [], Option, Some, None, refl, sym, ap, ◌∙◌}
use Rattle.std.specs.Prelude.{is_some, unwrap_or}
use Rattle.std.specs.Option.{option_map}
use Rattle.std.proofs.lemmas.List.Elements.{All-weaker}
use Rattle.crush_units.specs.declared.id.ItemId.TheVariants.{Bucket}
use Rattle.crush_model.specs.Table.{Row, row_of}
use Rattle.crush_edits.specs.Setting.{taken_buckets}
use Rattle.crush_edits.specs.Fits.{IsThere}
use Rattle.crush_print.specs.RuleLines.{bucket_name}
use Rattle.crush_print.specs.MapText.{IsNamedSo, TakenBucketsAreNamed}

pub named : (t : List Row) (b : ℕ) → IsThere t b → IsNamedSo t b
unfolding bucket_name
named t b h = by_row (row_of t (Bucket b)) refl
  where
    by_row : (o : Option Row) → row_of t (Bucket b) ≡ o → IsNamedSo t b
    by_row None e = absurd (let no : false ≡ true = sym (ap is_some e) ∙ h in cc)
    by_row (Some r) e = (r, e, ap (λ (p : Option Row). unwrap_or (option_map (λ (x : Row). x.name) p) []) e)

pub taken_buckets-named : TakenBucketsAreNamed
taken_buckets-named s t f = All-weaker (IsThere t) (IsNamedSo t) (named t) (taken_buckets s) f.taken
