-- Lemmas about two seats that are removed from their list, and are put back in the same order.
use Rattle.std.proofs.Common.{◌≡◌, ℕ, zero, suc, ◌+◌, ◌<◌, ◌≤◌, List, [], ◌∷◌, ◌++◌, length, slice_index_or, Option, Some, Result, Ok, Err, IfOk, IfSome, refl, ap, sym, subst, ◌∙◌, arith}
use Rattle.std.specs.List.{All}
use Rattle.std.specs.Option.{option_to_list}
use Rattle.std.specs.Result.{result_ok}
use Rattle.std.proofs.lemmas.List.{length_push, get_or_past}
use Rattle.std.proofs.lemmas.List.Elements.{All-nil, All-same}
use Rattle.crush_history.specs.declared.call.Call.{Call}
use Rattle.crush_history.specs.History.{EntryData, AnsweredData, of_operator}
use Rattle.crush_history.specs.Turns.{calls_of}
use Rattle.crush_map.specs.MapData.{MapData}
use Rattle.crush_editor.specs.Seat.{SeatData, seat_data, slips_of, InOrder, IsHistoryOfSeats}
use Rattle.crush_two_operators.specs.Calls.{AreTheirs, HasMade}

-- what a clause promises for a successful result holds for the value of this result
pub of_ok : {A E : Type 0} (r : Result A E) (x : A) (P : A → Type 0) → result_ok r ≡ Some x → IfOk r P → P x
of_ok (Ok y) x P is holds = let same : y ≡ x = cc in subst P same holds
of_ok (Err e) x P is holds = absurd cc

pub of_some : {A : Type 0} (r : Option A) (x : A) (P : A → Type 0) → r ≡ Some x → IfSome r P → P x
of_some r x P is holds = subst (λ o. IfSome o P) is holds

-- a list from which an element was removed is shorter by one
pub shorter : {A : Type 0} (r : Option A) (x : A) (n m : ℕ) → r ≡ Some x → n + length (option_to_list r) ≡ m → n + 1 ≡ m
shorter r x n m is len = subst (λ o. n + length (option_to_list o) ≡ m) is len

-- the two seats of an editor are removed from their list: the list is then empty, and each seat is as `open` returned it
pub record AreTaken (left : List SeatData) (one two : SeatData) : Type 0 where
  pub rest : left ≡ []
  pub first : one ≡ seat_data 0 [] []
  pub second : two ≡ seat_data 1 [] []

two_taken : (l : List SeatData) (one two : SeatData) → length ((l ++ one ∷ []) ++ two ∷ []) ≡ 2
    → ((k : ℕ) → k < 2 → slice_index_or ((l ++ one ∷ []) ++ two ∷ []) k (seat_data 0 [] []) ≡ seat_data k [] []) → AreTaken l one two
two_taken [] one two len each = record { rest = refl; first = each 0 (omega arith); second = each 1 (omega arith) }
two_taken (x ∷ l) one two len each =
    let p = length_push (l ++ one ∷ []) two in let q = length_push l one in absurd (omega arith)

-- if s are the seats that `open` returned, and l is the list after two seats are removed, then the two seats are taken (`AreTaken`)
pub are_taken : (s m l : List SeatData) (r t : Option SeatData) (one two : SeatData)
    → s ≡ m ++ option_to_list r → r ≡ Some two → m ≡ l ++ option_to_list t → t ≡ Some one → length s ≡ 2
    → ((k : ℕ) → k < 2 → slice_index_or s k (seat_data 0 [] []) ≡ seat_data k [] []) → AreTaken l one two
are_taken s m l r t one two a r_is b t_is len each =
    let m_is : m ≡ l ++ one ∷ [] = b ∙ ap (λ (o : Option SeatData). l ++ option_to_list o) t_is in
    let s_is : s ≡ (l ++ one ∷ []) ++ two ∷ [] = a ∙ ap (λ (o : Option SeatData). m ++ option_to_list o) r_is ∙ ap (λ (xs : List SeatData). xs ++ two ∷ []) m_is in
    two_taken l one two (sym (ap length s_is) ∙ len) (λ k less. subst (λ (xs : List SeatData). slice_index_or xs k (seat_data 0 [] []) ≡ seat_data k [] []) s_is (each k less))

-- after two seats are put back into it, the list has exactly these two
pub put_back : (l p q : List SeatData) (one two one' two' : SeatData) → AreTaken l one two → p ≡ l ++ one' ∷ [] → q ≡ p ++ two' ∷ [] → q ≡ one' ∷ two' ∷ []
put_back l p q one two one' two' taken c d = d ∙ ap (λ (xs : List SeatData). xs ++ two' ∷ []) (c ∙ ap (λ (xs : List SeatData). xs ++ one' ∷ []) taken.rest)

in_order : (one two : SeatData) → one.operator ≡ 0 → two.operator ≡ 1 → (k : ℕ) → k < 2 → (slice_index_or (one ∷ two ∷ []) k (seat_data 0 [] [])).operator ≡ k
in_order one two e f zero less = e
in_order one two e f (suc zero) less = f
in_order one two e f (suc (suc k)) less = absurd (omega arith)

-- the two seats of this list are in the order of their operators
pub back_in_order : (l q : List SeatData) (one two one' two' : SeatData) → AreTaken l one two → q ≡ one' ∷ two' ∷ [] → one'.operator ≡ one.operator → two'.operator ≡ two.operator → InOrder q
back_in_order l q one two one' two' taken is e f =
    subst (λ (xs : List SeatData). InOrder xs) (sym is)
    (in_order one' two' (e ∙ ap (λ (x : SeatData). x.operator) taken.first) (f ∙ ap (λ (x : SeatData). x.operator) taken.second))

-- the list has the slips of the two seats, and no others
slips_past : (one two : SeatData) (k : ℕ) → slips_of (one ∷ two ∷ []) (suc (suc k)) ≡ []
slips_past one two k = ap (λ (x : SeatData). x.slips) (get_or_past (one ∷ two ∷ []) (suc (suc k)) (seat_data 0 [] []) (omega arith))

-- EXACTLY THEIRS: the calls that the two seats have made are exactly those of the history at the close
pub are_theirs : (one two : SeatData) (first second : List Call) (h : List EntryData) → ((k : ℕ) → of_operator k h ≡ slips_of (one ∷ two ∷ []) k) → calls_of one.slips ≡ first → calls_of two.slips ≡ second → AreTheirs first second h
are_theirs one two first second h slips e f zero = ap calls_of (slips 0) ∙ e
are_theirs one two first second h slips e f (suc zero) = ap calls_of (slips 1) ∙ f
are_theirs one two first second h slips e f (suc (suc k)) = ap calls_of (slips (suc (suc k)) ∙ slips_past one two k)

-- if something holds for the calls of both operators, then it holds for all calls
pub each_of_two : (P : Call → Type 0) (one two : SeatData) (h : List EntryData) → ((k : ℕ) → of_operator k h ≡ slips_of (one ∷ two ∷ []) k)
    → All (λ (a : AnsweredData). P a.call) one.slips → All (λ (a : AnsweredData). P a.call) two.slips → (k : ℕ) → All (λ (a : AnsweredData). P a.call) (of_operator k h)
each_of_two P one two h slips e f zero = All-same (λ (a : AnsweredData). P a.call) _ _ (slips 0) e
each_of_two P one two h slips e f (suc zero) = All-same (λ (a : AnsweredData). P a.call) _ _ (slips 1) f
each_of_two P one two h slips e f (suc (suc k)) = All-same (λ (a : AnsweredData). P a.call) _ _ (slips (suc (suc k)) ∙ slips_past one two k) (All-nil _)

-- the work of two seats that were removed from their list and were put back, and the history at the close
pub worked_by_two : {A : Type 0} (o m : MapData) (done : List A → SeatData → SeatData → Type 0) (first second : List A) (h : List EntryData) (l q : List SeatData) (one two one' two' : SeatData) → AreTaken l one two → q ≡ one' ∷ two' ∷ []
    → done first one one' → done second two two' → IsHistoryOfSeats o m h q
    → (x : SeatData) × (y : SeatData) × done first (seat_data 0 [] []) x × done second (seat_data 1 [] []) y × IsHistoryOfSeats o m h (x ∷ y ∷ [])
worked_by_two o m done first second h l q one two one' two' taken is made made' closed =
    (one', two', subst (λ (x : SeatData). done first x one') taken.first made, subst (λ (x : SeatData). done second x two') taken.second made', subst (λ (xs : List SeatData). IsHistoryOfSeats o m h xs) is closed)

-- the calls that two seats have made are exactly the calls of the history at the close
pub theirs_of_two : (o m : MapData) (first second : List Call) (h : List EntryData) (one two : SeatData) → HasMade (seat_data 0 [] []) first one → HasMade (seat_data 1 [] []) second two → IsHistoryOfSeats o m h (one ∷ two ∷ []) → AreTheirs first second h
theirs_of_two o m first second h one two made made' closed = are_theirs one two first second h closed.slips made.calls made'.calls

-- what follows from the value of a result
pub of_each_ok : {A E : Type 0} (r : Result A E) (P Q : A → Type 0) → ((x : A) → P x → Q x) → IfOk r P → IfOk r Q
of_each_ok (Ok x) P Q f p = f x p
of_each_ok (Err e) P Q f p = tt
