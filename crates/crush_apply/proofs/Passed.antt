-- What is known when tests have passed.
use Rattle.std.proofs.Common.{◌≡◌, ℕ, ◌≤◌, false, List, length, refl}
use Rattle.std.specs.Prelude.{◌==◌, Option, Some, None, IfSome}
use Rattle.crush_units.specs.declared.id.ItemId.{ItemId}
use Rattle.crush_units.specs.declared.id.ItemId.TheVariants.{Device}
use Rattle.crush_units.specs.declared.limits.TheConstants.{MOST_PAIRS}
use Rattle.crush_model.specs.Table.{Row, is_device_id}
use Rattle.crush_edits.specs.declared.location.Pair.{Pair}
use Rattle.crush_edits.specs.declared.refusal.Refusal.TheVariants.{BadName, BadLocation, NoSuchType, NoPlace, WeightTooLarge, NameTaken, NotABucket}
use Rattle.crush_edits.specs.Answer.{first_refusal, is_a_device, is_heavy}
use Rattle.crush_edits.specs.Fits.{Fits}
use Rattle.crush_edits.specs.Located.{is_bad_location, has_no_kind, names_it, is_taken, location_tests, located_device_tests, end_tests}
use Rattle.crush_edits.specs.New.{IsRoute}
use Rattle.crush_edits.specs.Pushed.{IsLocation}
use Rattle.crush_edits.specs.Setting.{SettingData}
use Rattle.crush_edits.specs.Stops.{StopData, stops, end_id}
use Rattle.crush_edits.proofs.Order.{passed}
use Rattle.crush_edits.proofs.Stops.{location_route}

-- a location that has passed its tests
pub record LocationPasses (s : SettingData) (l : List Pair) : Type 0 where
  pub good : is_bad_location s l ≡ false
  pub known : has_no_kind s l ≡ false
  pub some : (length l == 0) ≡ false

pub location_passes : (s : SettingData) (l : List Pair) → first_refusal (location_tests s l) ≡ None → LocationPasses s l
location_passes s l h = let test = passed (location_tests s l) h in record { good = test BadLocation; known = test NoSuchType; some = test NoPlace }

pub location_nothing : (s : SettingData) (l : List Pair) → LocationPasses s l → first_refusal (location_tests s l) ≡ None
location_nothing s l p = rw (p.good, p.known, p.some) refl

-- a device that has passed its tests, with its location
pub record DevicePasses (s : SettingData) (t : List Row) (d : ℕ) (n : List ℕ) (w : ℕ) (l : List Pair) : Type 0 where
  pub other : names_it l n ≡ false
  pub location : LocationPasses s l
  pub light : is_heavy w ≡ false
  pub own : is_taken t (Device d) n ≡ false

pub device_passes : (s : SettingData) (t : List Row) (d : ℕ) (n : List ℕ) (w : ℕ) (l : List Pair) → first_refusal (located_device_tests s t d n w l) ≡ None → DevicePasses s t d n w l
device_passes s t d n w l h =
    let test = passed (located_device_tests s t d n w l) h in
    record { other = test BadName; location = record { good = test BadLocation; known = test NoSuchType; some = test NoPlace }; light = test WeightTooLarge; own = test NameTaken }

-- no device ends the route
pub no_device_ends : (t : List Row) (ps : List StopData) → first_refusal (end_tests t ps) ≡ None → IfSome (end_id t ps) (λ i. is_device_id i ≡ false)
no_device_ends t ps h = by_end (end_id t ps) (passed (end_tests t ps) h NotABucket) where
  by_end : (o : Option ItemId) → is_a_device o ≡ false → IfSome o (λ i. is_device_id i ≡ false)
  by_end None e = tt
  by_end (Some i) e = e

-- the stops of a location are a route in each table in which no device ends it
pub route_of_tests : (s : SettingData) (u t : List Row) (l : List Pair) → Fits s u → IsLocation l → first_refusal (location_tests s l) ≡ None → first_refusal (end_tests u (stops s l)) ≡ None → first_refusal (end_tests t (stops s l)) ≡ None → IsRoute t (stops s l)
route_of_tests s u t l fits form located ends_u ends_t =
    let passes = location_passes s l located in
    let few : length l ≤ MOST_PAIRS = form.few in
    let route = location_route s u l fits form.names few passes.good passes.known passes.some (no_device_ends u (stops s l) ends_u) in
    record { some = route.some; few = route.few; forms = route.forms; once = route.once; ends = no_device_ends t (stops s l) ends_t }
