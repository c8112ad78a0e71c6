-- How contracts see the stops of a route. In the code, a stop refers to a pair of the location by the pair's index.
use Rattle.std.specs.Prelude.{ℕ, zero, suc, ◌<◌, List, [], ◌∷◌, map, insert, nat_le, length}
use Rattle.std.specs.List.{position_or_len}
use Rattle.crush_edits.specs.declared.location.Pair.{Pair}
use Rattle.crush_edits.specs.Stops.{StopData}
use Rattle.crush_apply.specs.declared.route.stops.Stop.{Stop}

-- the bucket name of the pair with the index k in a location, from 0; the empty name if there is no such pair
abbrev pub pair_name : List Pair → ℕ → List ℕ
pair_name [] k = []
pair_name (p ∷ l) zero = p.name
pair_name (p ∷ l) (suc k) = pair_name l k

-- a stop, with the name of its pair instead of the pair's index
abbrev pub stop_data : List Pair → Stop → StopData
stop_data l x = record { kind = x.kind; name = pair_name l x.pair }

-- several stops, each with the name of its pair instead of the pair's index
abbrev pub stops_data : List Pair → List Stop → List StopData
stops_data l xs = map (stop_data l) xs

-- the pair's index in the stop is the index of a pair of the location
abbrev pub IsPairOf : List Pair → Stop → Type 0
IsPairOf l x = x.pair < length l

-- the stops after one more stop was inserted: before the first stop whose type number is at least that of the inserted stop, or at the end if there is no such stop
abbrev pub put_stop : Stop → List Stop → List Stop
put_stop p xs = insert xs (position_or_len (λ (q : Stop). nat_le p.kind q.kind) xs) p
