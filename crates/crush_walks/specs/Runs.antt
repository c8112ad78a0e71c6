-- The weights of the devices among items, in order, as a list and as runs of equal weights.
use Rattle.std.specs.Prelude.{ℕ, ◌≤◌, ◌==◌, List, [], ◌∷◌, ◌++◌, replicate, reverse, if◌then◌else◌}
use Rattle.crush_units.specs.declared.limits.TheConstants.{HEAVIEST_BUCKET}
use Rattle.crush_model.specs.Items.{Items, none, device, bucket}
use Rattle.crush_model.specs.Stored.{weight_sum}
use Rattle.crush_nodes.specs.Ops.{with_sums}
use Rattle.crush_walks.specs.declared.runs.WeightRun.{WeightRun}

-- the weights of all devices, at any depth, in order
abbrev pub weights_in : Items → List ℕ
weights_in none = []
weights_in (device d rest) = d.weight ∷ weights_in rest
weights_in (bucket h w m kids rest) = weights_in kids ++ weights_in rest

-- the first of a list of weights, or 0 if the list is empty
abbrev pub next_weight : List ℕ → ℕ
next_weight [] = 0
next_weight (w ∷ ws) = w

-- a list of weights without its first weight
abbrev pub later_weights : List ℕ → List ℕ
later_weights [] = []
later_weights (w ∷ ws) = ws

-- the weights that are left after each device, at any depth, has taken one
abbrev pub weights_after : Items → List ℕ → List ℕ
weights_after none ws = ws
weights_after (device d rest) ws = weights_after rest (later_weights ws)
weights_after (bucket h w m kids rest) ws = weights_after rest (weights_after kids ws)

-- the items in which each device, at any depth and in order, has the next of the weights, or 0 if none is left
abbrev pub with_weights : List ℕ → Items → Items
with_weights ws none = none
with_weights ws (device d rest) = device (record d { weight = next_weight ws }) (with_weights (later_weights ws) rest)
with_weights ws (bucket h w m kids rest) = bucket h w m (with_weights ws kids) (with_weights (weights_after kids ws) rest)

-- the items in which the devices below each bucket that has the id b have the weights ws, as `with_weights` gives them
abbrev pub with_weights_below : ℕ → List ℕ → Items → Items
with_weights_below b ws none = none
with_weights_below b ws (device d rest) = device d (with_weights_below b ws rest)
with_weights_below b ws (bucket h w m kids rest) = bucket h w m (if h.id == b then with_weights ws kids else with_weights_below b ws kids) (with_weights_below b ws rest)

-- if the first item is a bucket, then it can store its sum after the devices below it have got the weights ws
abbrev pub FitsWeights : List ℕ → Items → Type 0
FitsWeights ws none = Unit {0}
FitsWeights ws (device d rest) = Unit {0}
FitsWeights ws (bucket h w m kids rest) = weight_sum (with_sums (with_weights ws kids)) ≤ HEAVIEST_BUCKET

-- the weights of one run: the weight of the run, `more` plus one times
abbrev pub weights_of_run : WeightRun → List ℕ
weights_of_run r = r.weight ∷ replicate r.more r.weight

-- the weights of several runs, in order
abbrev pub weights_of : List WeightRun → List ℕ
weights_of [] = []
weights_of (r ∷ runs) = weights_of_run r ++ weights_of runs

-- the weights of runs that are stored in reverse order: the weights of the last run come first
abbrev pub weights_left : List WeightRun → List ℕ
weights_left runs = weights_of (reverse runs)
