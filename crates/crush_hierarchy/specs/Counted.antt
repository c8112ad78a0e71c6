-- How many devices and how many buckets there are among items and below them, and sums of such numbers.
use Rattle.std.specs.Prelude.{◌≡◌, ◌+◌, ◌<◌, ◌≤◌, ◌^◌}
use Rattle.crush_model.specs.Items.{Items, size_of}
use Rattle.crush_nodes.specs.Search.{devices_in}
use Rattle.crush_nodes.specs.declared.view.Counts.{Counts}

-- Among the items n and the items below them, there are fewer than 2^32 devices and fewer than 2^32 buckets.
pub record AreFew (n : Items) : Type 0 where
  pub devices : devices_in n < 2 ^ 32
  pub buckets : size_of n < 2 ^ 32

-- The counts are the numbers of devices and of buckets among the items n and the items below them.
pub record AreCountsIn (n : Items) (counts : Counts) : Type 0 where
  pub devices : counts.devices ≡ devices_in n
  pub buckets : counts.buckets ≡ size_of n

-- The counts a and b together have fewer than 2^32 devices and fewer than 2^32 buckets.
pub record AreFewTogether (a b : Counts) : Type 0 where
  pub devices : a.devices + b.devices < 2 ^ 32
  pub buckets : a.buckets + b.buckets < 2 ^ 32

-- `counts` has no more devices and no more buckets than `most`.
pub record AreAtMost (counts most : Counts) : Type 0 where
  pub devices : counts.devices ≤ most.devices
  pub buckets : counts.buckets ≤ most.buckets

-- The devices of the counts a and b add up to the devices of `whole`, and their buckets to the buckets of `whole`.
pub record AddUp (a b whole : Counts) : Type 0 where
  pub devices : whole.devices ≡ a.devices + b.devices
  pub buckets : whole.buckets ≡ a.buckets + b.buckets
