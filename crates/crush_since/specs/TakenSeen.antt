-- When the cached results for the buckets that steps of rules take are right.
use Rattle.std.specs.Prelude.{◌≡◌, List, All}
use Rattle.std.specs.Option.{option_map}
use Rattle.crush_compare.specs.declared.identity.Identity.{Identity}
use Rattle.crush_model.specs.Table.{Row}
use Rattle.crush_since.specs.Emptied.{is_emptied}
use Rattle.crush_since.specs.declared.since.taken.Taken.{Taken}

-- a cached result has a bucket and perhaps a class. The result is right if it says whether the bucket has lost all its weight from the old table t to the new table u. If there is a class, only the bucket's devices of this class count
abbrev pub IsRight : Identity → List Row → List Row → Taken → Type 0
IsRight identity t u k = k.is_emptied ≡ is_emptied identity t u k.bucket (option_map (λ c. c.now) k.class)

-- RIGHT CACHE: each result in the cache is right
abbrev pub AreRight : Identity → List Row → List Row → List Taken → Type 0
AreRight identity t u cache = All (IsRight identity t u) cache
