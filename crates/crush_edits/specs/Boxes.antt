-- New buckets as nested items, each inside the next. A forest stores new buckets in this form.
use Rattle.std.specs.Prelude.{ℕ, List, [], ◌∷◌, ◌++◌}
use Rattle.crush_model.specs.Items.{Items, none, bucket}
use Rattle.crush_model.specs.Stored.{weight_sum}
use Rattle.crush_model.specs.Table.{Row}
use Rattle.crush_edits.specs.Put.{NewData, new_header}

-- the items, put into the first of several new buckets, which is put into the second, and so on. Each new bucket has memory for m items
abbrev pub boxes : ℕ → Items → List NewData → Items
boxes m items [] = items
boxes m items (n ∷ ns) = boxes m (bucket (new_header n) (weight_sum items) m items none) ns

-- the rows in reverse order
abbrev pub last_first : List Row → List Row
last_first [] = []
last_first (r ∷ rs) = last_first rs ++ r ∷ []
