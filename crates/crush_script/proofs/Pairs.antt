-- The pairs that words spell, and the locations that consist of these pairs.
use Rattle.std.proofs.Common.{◌≡◌, ℕ, ◌+◌, ◌<◌, ◌≤◌, ◌&&◌, true, false, List, [], ◌∷◌, ◌++◌, Ok, Err, length, nat_lt, refl, sym, ap, ◌∙◌, rules, tests}
use Rattle.crush_units.specs.Name.{is_name}
use Rattle.crush_units.proofs.Names.{is_name_true}
use Rattle.crush_units.specs.declared.limits.TheConstants.{MOST_PAIRS}
use Rattle.crush_edits.specs.declared.location.Pair.{Pair}
use Rattle.crush_edits.specs.Pushed.{CanPush}
use Rattle.crush_script.specs.declared.fault.Due.TheVariants.{Pair as a_pair, NoMorePairs}
use Rattle.crush_script.specs.Words.{pair_of}
use Rattle.crush_script.specs.Command.{misfit, with_pair}

-- the pair that was added is the pair that the word spells
pub pair_added : (first : ℕ) (l m : List Pair) (word kind name : List ℕ) → kind ≡ (pair_of word).kind → name ≡ (pair_of word).name → CanPush l kind name
    → m ≡ l ++ (record { kind = kind; name = name }) ∷ [] → with_pair first l word ≡ Ok m
unfolding with_pair
pair_added first l m word kind name k n can more =
    let room : nat_lt (length l) MOST_PAIRS ≡ true = let r = can.room in search (rules, tests) in
    let kind_is : is_name (pair_of word).kind ≡ true = ap is_name (sym k) ∙ is_name_true kind can.kind_form in
    let name_is : is_name (pair_of word).name ≡ true = ap is_name (sym n) ∙ is_name_true name can.name_form in
    let same : ◌≡◌ {A = Pair} (pair_of word) (record { kind = kind; name = name }) = λ i. record { kind = sym k i; name = sym n i } in
    rw (room, kind_is, name_is) (ap (λ (p : Pair). Ok (l ++ p ∷ [])) same ∙ ap Ok (sym more))

-- if there is room for a pair, but one part of the word isn't a name, then the word is a misfit
pub pair_refused : (first : ℕ) (l : List Pair) (index : ℕ) (word kind name : List ℕ) → index ≡ first + length l → kind ≡ (pair_of word).kind → name ≡ (pair_of word).name → length l < MOST_PAIRS → (is_name kind && is_name name) ≡ false
    → with_pair first l word ≡ Err (misfit index a_pair)
unfolding with_pair
pair_refused first l index word kind name place k n less bad =
    let none : (is_name (pair_of word).kind && is_name (pair_of word).name) ≡ false = (λ i. is_name (sym k i) && is_name (sym n i)) ∙ bad in
    let room : nat_lt (length l) MOST_PAIRS ≡ true = search (rules, tests) in
    rw (room, none, place) refl

-- if there is no room for a pair, then the word is one too many
pub pair_too_many : (first : ℕ) (l : List Pair) (index : ℕ) (word : List ℕ) → index ≡ first + length l → MOST_PAIRS ≤ length l → with_pair first l word ≡ Err (misfit index NoMorePairs)
unfolding with_pair
pair_too_many first l index word place full = let room : nat_lt (length l) MOST_PAIRS ≡ false = search (rules, tests) in rw (room, place) refl
