-- Each edit that is parsed from a line is an edit that a command can express.
use Rattle.std.proofs.Common.{◌≡◌, ℕ, ◌+◌, ◌<◌, ◌≤◌, ◌^◌, ◌&&◌, Bool, true, false, cond, List, [], ◌∷◌, ◌++◌, Option, Some, None, Result, Ok, Err, length, nat_lt, nat_le, refl, arith, length-append}
use Rattle.std.proofs.lemmas.Bool.Decides.{nat_tests}
use Rattle.std.proofs.lemmas.List.Elements.{All-nil, All-push}
use Rattle.std.specs.Prelude.{IfOk, IfSome, not, ◌==◌, bytes_eq, codes}
use Rattle.std.specs.List.{list_all}
use Rattle.std.specs.Char.{is_ascii_digit}
use Rattle.std.specs.Str.Parse.{digits_value}
use Rattle.crush_units.specs.Name.{IsName, is_name}
use Rattle.crush_units.specs.Weight.{weight_of_text, is_weight_text, units_of, number_in, fraction_of}
use Rattle.crush_units.specs.declared.weight.WeightFault.{WeightFault}
use Rattle.crush_units.proofs.Names.{is_name_holds, both_true}
use Rattle.crush_units.specs.declared.limits.TheConstants.{HEAVIEST_BUCKET, MOST_ENTRIES, MOST_PAIRS}
use Rattle.crush_edits.specs.declared.location.Pair.{Pair}
use Rattle.crush_edits.specs.Pushed.{IsLocation}
use Rattle.crush_script.specs.declared.command.Command.{Command}
use Rattle.crush_script.specs.declared.command.Command.TheVariants as says
use Rattle.crush_edits.specs.declared.keyword.Keyword.{Keyword}
use Rattle.crush_edits.specs.declared.keyword.Keyword.TheVariants as word
use Rattle.crush_edits.specs.Keyword.{keyword_of}
use Rattle.crush_script.specs.declared.fault.Due.{Due}
use Rattle.crush_script.specs.declared.fault.Due.TheVariants as due
use Rattle.crush_script.specs.declared.fault.Due.TheVariants.{Pair as a_pair, NoMorePairs}
use Rattle.crush_history.specs.Said.{device_named, IsSaidPlacing, IsSaid}
use Rattle.crush_script.specs.Words.{pair_of, is_pair, is_count, count_of}
use Rattle.crush_script.specs.Command.{misfit, name_at, read_weight, weight_at, end_at, with_pair, with_pairs, location_at, the_device, placing_at, located_at, one_name_at, two_names_at, name_and_weight_at, edit_of, edit_by, edit_at, read_count, count_at, begin_at, command, operator}
use Rattle.crush_script.specs.Printed.{ReadIsSaid}
use Rattle.crush_script.proofs.Oks.{bind-if_ok_at, if_ok-either, if_ok-then, if_ok-passed, if_ok-at}

-- WORDS that were read have the required form: a name
name_said : (index : ℕ) (d : Due) (words : List (List ℕ)) → IfOk (name_at index d words) (λ r. IsName r.value)
unfolding name_at
name_said index d [] = tt
name_said index d (word ∷ rest) = if_ok-passed _ _ (is_name word) (λ r. IsName r.value) (is_name_holds word)

-- a weight
units_said : (text : List ℕ) → IfOk (weight_of_text text) (λ units. units < 2 ^ 32)
units_said text =
    let units = units_of (number_in text) (length (fraction_of text)) in
    if_ok-then _ _ (is_weight_text text) (λ u. u < 2 ^ 32) (if_ok-passed units _ (nat_le units HEAVIEST_BUCKET) (λ u. u < 2 ^ 32) (λ few. grind (arith, nat_tests, few)))

weight_said : (index : ℕ) (words : List (List ℕ)) → IfOk (weight_at index words) (λ r. r.value < 2 ^ 32)
unfolding weight_at
weight_said index [] = tt
weight_said index (word ∷ rest) = at (weight_of_text word) (units_said word)
  where
    at : (r : Result ℕ WeightFault) → IfOk r (λ units. units < 2 ^ 32) → IfOk (read_weight index r rest) (λ r. r.value < 2 ^ 32)
    at (Ok units) few = few
    at (Err fault) few = tt

-- a device
device_said : (o : Option ℕ) → IfOk (the_device o) (λ d. o ≡ Some d)
device_said None = tt
device_said (Some d) = refl

-- a location
pair_said : (first : ℕ) (l : List Pair) (word : List ℕ) → IsLocation l → IfOk (with_pair first l word) IsLocation
unfolding with_pair
pair_said first l word is = at (nat_lt (length l) MOST_PAIRS) refl
  where
    one_more : nat_lt (length l) MOST_PAIRS ≡ true → is_pair word ≡ true → IsLocation (l ++ pair_of word ∷ [])
    one_more few is_one =
        let p = pair_of word in
        let inner = both_true (is_name p.kind) (is_name p.name) is_one in
        let room : length l < MOST_PAIRS = grind (arith, nat_tests, few) in
        record {
          few = omega (arith, length-append l (p ∷ []), room);
          kinds = All-push (λ (q : Pair). IsName q.kind) l p is.kinds (is_name_holds p.kind inner.0);
          names = All-push (λ (q : Pair). IsName q.name) l p is.names (is_name_holds p.name inner.1);
        }

    at : (v : Bool) → nat_lt (length l) MOST_PAIRS ≡ v → IfOk (cond v (cond (is_pair word) (Ok (l ++ pair_of word ∷ [])) (Err (misfit (first + length l) a_pair))) (Err (misfit (first + length l) NoMorePairs))) IsLocation
    at true few = if_ok-passed _ _ (is_pair word) IsLocation (one_more few)
    at false few = tt

pairs_said : (first : ℕ) (l : List Pair) (words : List (List ℕ)) → IsLocation l → IfOk (with_pairs first l words) IsLocation
unfolding with_pairs
pairs_said first l [] is = is
pairs_said first l (word ∷ rest) is = bind-if_ok_at (with_pair first l word) (λ more. with_pairs first more rest) IsLocation IsLocation (pair_said first l word is) (λ more. pairs_said first more rest)

location_said : (first : ℕ) (words : List (List ℕ)) → IfOk (location_at first words) IsLocation
unfolding location_at
location_said first words = pairs_said first [] words (record { few = omega arith; kinds = All-nil (λ (q : Pair). IsName q.kind); names = All-nil (λ (q : Pair). IsName q.name) })

-- the end of the line
end_said : {X : Type 0} (index : ℕ) (value : X) (words : List (List ℕ)) (P : X → Type 0) → P value → IfOk (end_at index value words) P
unfolding end_at
end_said index value [] P h = h
end_said index value (word ∷ rest) P h = tt

-- FORMS of commands
placing_said : (words : List (List ℕ)) → IfOk (placing_at words) (λ p. IsSaidPlacing p.device p.name p.weight p.at)
unfolding placing_at
placing_said words =
    bind-if_ok_at (name_at 1 due.Device words) _ _ (λ r. IsName r.value) (name_said 1 due.Device words) (λ name is_name.
    bind-if_ok_at (the_device (device_named name.value)) _ _ (λ d. device_named name.value ≡ Some d) (device_said (device_named name.value)) (λ device is_device.
    bind-if_ok_at (weight_at 2 name.rest) _ _ (λ r. r.value < 2 ^ 32) (weight_said 2 name.rest) (λ weight is_weight.
    bind-if_ok_at (location_at 3 weight.rest) _ _ IsLocation (location_said 3 weight.rest) (λ at is_location.
    record { name = is_name; device = is_device; weight = is_weight; at = is_location }))))

located_said : (words : List (List ℕ)) → IfOk (located_at words) (λ p. IsName p.0 × IsLocation p.1)
unfolding located_at
located_said words =
    bind-if_ok_at (name_at 1 due.Name words) _ _ (λ r. IsName r.value) (name_said 1 due.Name words) (λ name is_name.
    bind-if_ok_at (location_at 2 name.rest) _ _ IsLocation (location_said 2 name.rest) (λ at is_location. (is_name, is_location)))

one_name_said : (words : List (List ℕ)) → IfOk (one_name_at words) IsName
unfolding one_name_at
one_name_said words = bind-if_ok_at (name_at 1 due.Name words) _ _ (λ r. IsName r.value) (name_said 1 due.Name words) (λ name is_name. end_said 2 name.value name.rest IsName is_name)

two_names_said : (words : List (List ℕ)) → IfOk (two_names_at words) (λ p. IsName p.0 × IsName p.1)
unfolding two_names_at
two_names_said words =
    bind-if_ok_at (name_at 1 due.Name words) _ _ (λ r. IsName r.value) (name_said 1 due.Name words) (λ first is_first.
    bind-if_ok_at (name_at 2 due.Name first.rest) _ _ (λ r. IsName r.value) (name_said 2 due.Name first.rest) (λ second is_second.
    end_said 3 (first.value, second.value) second.rest (λ p. IsName p.0 × IsName p.1) (is_first, is_second)))

name_and_weight_said : (words : List (List ℕ)) → IfOk (name_and_weight_at words) (λ p. IsName p.0 × (p.1 < 2 ^ 32))
unfolding name_and_weight_at
name_and_weight_said words =
    bind-if_ok_at (name_at 1 due.Name words) _ _ (λ r. IsName r.value) (name_said 1 due.Name words) (λ name is_name.
    bind-if_ok_at (weight_at 2 name.rest) _ _ (λ r. r.value < 2 ^ 32) (weight_said 2 name.rest) (λ weight is_weight.
    end_said 3 (name.value, weight.value) weight.rest (λ p. IsName p.0 × (p.1 < 2 ^ 32)) (is_name, is_weight)))

-- COMMANDS
edit_of_said : (keyword : Keyword) (rest : List (List ℕ)) → IfOk (edit_of keyword rest) IsSaid
edit_of_said (word.Place how) rest = bind-if_ok_at (placing_at rest) _ IsSaid _ (placing_said rest) (λ p is. is)
edit_of_said word.Move rest = bind-if_ok_at (located_at rest) _ IsSaid _ (located_said rest) (λ p is. is)
edit_of_said word.SwapBucket rest = bind-if_ok_at (two_names_at rest) _ IsSaid _ (two_names_said rest) (λ p is. is)
edit_of_said word.Reweight rest = bind-if_ok_at (name_and_weight_at rest) _ IsSaid _ (name_and_weight_said rest) (λ p is. is)
edit_of_said word.ReweightSubtree rest = bind-if_ok_at (name_and_weight_at rest) _ IsSaid _ (name_and_weight_said rest) (λ p is. is)
edit_of_said word.Rm rest = bind-if_ok_at (one_name_at rest) _ IsSaid _ (one_name_said rest) (λ name is. is)
edit_of_said word.AddBucket rest = bind-if_ok_at (two_names_at rest) _ IsSaid _ (two_names_said rest) (λ p is. is)
edit_of_said word.RenameBucket rest = bind-if_ok_at (two_names_at rest) _ IsSaid _ (two_names_said rest) (λ p is. is)
edit_of_said word.SetDeviceClass rest = bind-if_ok_at (two_names_at rest) _ IsSaid _ (two_names_said rest) (λ p is. (is.1, is.0))
edit_of_said word.RmDeviceClass rest = bind-if_ok_at (one_name_at rest) _ IsSaid _ (one_name_said rest) (λ name is. is)

edit_said : (first : List ℕ) (rest : List (List ℕ)) → IfOk (edit_at first rest) IsSaid
unfolding edit_at
edit_said first rest = at (keyword_of first)
  where
    at : (o : Option Keyword) → IfOk (edit_by o rest) IsSaid
    at None = tt
    at (Some keyword) = edit_of_said keyword rest

-- what is true of a parsed line that doesn't begin a section
abbrev pub HasSaid : Command → Type 0
HasSaid says.Nothing = Unit {0}
HasSaid (says.Edit e) = IsSaid e
HasSaid (says.Begin seen) = IfSome seen (λ n. n ≤ MOST_ENTRIES)
HasSaid says.Commit = Unit {0}

-- a number of changes
count_said : (word : List ℕ) → IfSome (count_of word) (λ n. n ≤ MOST_ENTRIES)
count_said word = at (is_count word) refl
  where
    at : (b : Bool) → is_count word ≡ b → IfSome (cond b (Some (digits_value 10 word)) None) (λ n. n ≤ MOST_ENTRIES)
    at true is =
        let few = both_true (not (length word == 0) && list_all is_ascii_digit word) (nat_le (digits_value 10 word) MOST_ENTRIES) is in
        grind (arith, nat_tests, few.1)
    at false is = tt

read_count_said : (o : Option ℕ) (rest : List (List ℕ)) → IfSome o (λ n. n ≤ MOST_ENTRIES) → IfOk (read_count 2 o rest) (λ r. r.value ≤ MOST_ENTRIES)
read_count_said (Some n) rest few = few
read_count_said None rest few = tt

count_at_said : (words : List (List ℕ)) → IfOk (count_at 2 words) (λ r. r.value ≤ MOST_ENTRIES)
unfolding count_at
count_at_said [] = tt
count_at_said (word ∷ rest) = read_count_said (count_of word) rest (count_said word)

begin_said : (words : List (List ℕ)) → IfOk (begin_at words) HasSaid
unfolding begin_at
begin_said [] = tt
begin_said (word ∷ rest) =
    if_ok-then _ _ (bytes_eq word (codes "at")) HasSaid
    (bind-if_ok_at (count_at 2 rest) (λ seen. end_at 3 (says.Begin (Some seen.value)) seen.rest) HasSaid (λ r. r.value ≤ MOST_ENTRIES) (count_at_said rest) (λ seen few. end_said 3 (says.Begin (Some seen.value)) seen.rest HasSaid few))

pub command_said : (words : List (List ℕ)) → IfOk (command words) HasSaid
unfolding command
command_said [] = tt
command_said (first ∷ rest) =
    if_ok-either _ _ (bytes_eq first (codes "begin")) HasSaid (begin_said rest)
    (if_ok-either _ _ (bytes_eq first (codes "commit")) HasSaid (end_said 1 says.Commit rest HasSaid tt)
    (bind-if_ok_at (edit_at first rest) (λ edit. Ok (says.Edit edit)) HasSaid IsSaid (edit_said first rest) (λ e is. is)))

pub read_is_said : ReadIsSaid
read_is_said words e is = if_ok-at (command words) (says.Edit e) HasSaid is (command_said words)

-- a line that begins a section
pub operator_said : (words : List (List ℕ)) → IfOk (operator words) IsName
unfolding operator
operator_said [] = tt
operator_said (first ∷ rest) =
    if_ok-then _ _ (bytes_eq first (codes "%operator")) IsName (one_name_said rest)
