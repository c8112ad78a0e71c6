-- When Reweight and ReweightSubtree can be applied. The sums after the edit are not tested yet.
use Rattle.std.specs.Prelude.{◌≡◌, ℕ, List, Some, true, false}
use Rattle.crush_units.specs.declared.id.ItemId.TheVariants.{Device, Bucket}
use Rattle.crush_model.specs.Table.{Row, id_named, is_placed}
use Rattle.crush_edits.specs.Answer.{is_heavy}

-- the device d has the name n and is in a bucket, and the weight w isn't too large for a device
pub record CanReweight (t : List Row) (n : List ℕ) (w d : ℕ) : Type 0 where
  pub light : is_heavy w ≡ false
  pub named : id_named t n ≡ Some (Device d)
  pub placed : is_placed t (Device d) ≡ true

-- the bucket b has the name n, and the weight w isn't too large for a device
pub record CanReweightSubtree (t : List Row) (n : List ℕ) (w b : ℕ) : Type 0 where
  pub light : is_heavy w ≡ false
  pub named : id_named t n ≡ Some (Bucket b)
