-- What an index answers after rows were added or removed. Nothing is assumed about its answers before.
use Rattle.std.proofs.Common.{◌≡◌, ℕ, Bool, true, false, List, [], ◌∷◌, ◌++◌, ap, sym, ◌∙◌, refl, append-nil}
use Rattle.std.specs.Prelude.{◌||◌, if◌then◌else◌, Option, Some, None, Result, Ok, Err, OnErr, is_some, bytes_eq}
use Rattle.std.specs.Option.{option_map}
use Rattle.crush_units.specs.declared.id.ItemId.{ItemId}
use Rattle.crush_units.specs.Id.{same_id}
use Rattle.crush_model.specs.Table.{Row, row_of, id_named, is_device, is_named, is_there, member, used_ids}
use Rattle.crush_model.proofs.Appended.{row_of-append}
use Rattle.crush_model.proofs.NameColumn.{id_named-append}
use Rattle.crush_model.proofs.UsedColumn.{used-append}
use Rattle.crush_nodes.specs.Guides.{place_under}
use Rattle.crush_nodes.specs.declared.place.Place.{Place}
use Rattle.crush_index.specs.IndexAnswers.{Answers, with_name, with_row, with_rows, without_rows}
use Rattle.crush_index.specs.UsedLaw.{uses}

-- two records of answers are equal if they agree for each name, each item and each id
pub tells : (s u : Answers) → ((n : List ℕ) → s.names n ≡ u.names n) → ((i : ItemId) → s.places i ≡ u.places i) → ((k : ℕ) → s.used k ≡ u.used k) → s ≡ u
tells s u names places used = λ j. record { names = λ n. names n j; places = λ i. places i j; used = λ k. used k j }

-- CHOICES
choose : {X : Type 0} (b c : Bool) (x y : X) → b ≡ c → (if b then x else y) ≡ (if c then x else y)
choose b c x y e = ap (λ z. if z then x else y) e

pub either_then : {X : Type 0} (b c : Bool) (x y : X) → (if (b || c) then x else y) ≡ (if c then x else (if b then x else y))
either_then true true x y = refl
either_then true false x y = refl
either_then false true x y = refl
either_then false false x y = refl

in_turn : {X : Type 0} (b c : Bool) (x y : X) → (if b then x else (if c then x else y)) ≡ (if c then x else (if b then x else y))
in_turn true true x y = refl
in_turn true false x y = refl
in_turn false true x y = refl
in_turn false false x y = refl

pub hidden : {X : Type 0} (b : Bool) (x y z : X) → (if b then x else (if b then z else y)) ≡ (if b then x else y)
hidden true x y z = refl
hidden false x y z = refl

pub hidden_use : (b c : Bool) → (if c then false else (b || c)) ≡ (if c then false else b)
hidden_use true true = refl
hidden_use true false = refl
hidden_use false true = refl
hidden_use false false = refl

-- THE ROWS OF TWO LISTS
some_of : {X : Type 0} (o p : Option X) → is_some (if is_some o then o else p) ≡ (is_some o || is_some p)
some_of None p = refl
some_of (Some x) p = refl

pub is_named-append : (t u : List Row) (n : List ℕ) → is_named (t ++ u) n ≡ (is_named t n || is_named u n)
is_named-append t u n = ap is_some (id_named-append t u n) ∙ some_of (id_named t n) (id_named u n)

pub is_there-append : (t u : List Row) (i : ItemId) → is_there (t ++ u) i ≡ (is_there t i || is_there u i)
is_there-append t u i = ap is_some (row_of-append t u i) ∙ some_of (row_of t i) (row_of u i)

pub without_rows-append : (a b : List Row) (s : Answers) → without_rows (a ++ b) s ≡ without_rows b (without_rows a s)
without_rows-append a b s = tells (without_rows (a ++ b) s) (without_rows b (without_rows a s))
    (λ n. choose (is_named (a ++ b) n) (is_named a n || is_named b n) None (s.names n) (is_named-append a b n) ∙ either_then (is_named a n) (is_named b n) None (s.names n))
    (λ i. choose (is_there (a ++ b) i) (is_there a i || is_there b i) None (s.places i) (is_there-append a b i) ∙ either_then (is_there a i) (is_there b i) None (s.places i))
    (λ k. choose (member k (used_ids (a ++ b))) (member k (used_ids a) || member k (used_ids b)) false (s.used k) (used-append a b k) ∙ either_then (member k (used_ids a)) (member k (used_ids b)) false (s.used k))

-- two lists of rows can be removed in either order
turned : (a b : List Row) (s : Answers) → without_rows a (without_rows b s) ≡ without_rows b (without_rows a s)
turned a b s = tells (without_rows a (without_rows b s)) (without_rows b (without_rows a s))
    (λ n. in_turn (is_named a n) (is_named b n) None (s.names n))
    (λ i. in_turn (is_there a i) (is_there b i) None (s.places i))
    (λ k. in_turn (member k (used_ids a)) (member k (used_ids b)) false (s.used k))

pub with_rows-append : (a b : List Row) (s : Answers) → with_rows (a ++ b) s ≡ with_rows b (with_rows a s)
with_rows-append [] b s = refl
with_rows-append (r ∷ a) b s = with_rows-append a b (with_row r s)

-- ONE ROW
abbrev pub without_row : Row → Answers → Answers
without_row r s = record {
  names = λ n. if bytes_eq r.name n then None else s.names n;
  places = λ i. if same_id r.id i then None else s.places i;
  used = λ k. if member k (uses r) then false else s.used k;
}

named_alone : (b : Bool) (r : Row) → is_some (option_map (λ (x : Row). x.id) (if b then Some r else None)) ≡ b
named_alone true r = refl
named_alone false r = refl

there_alone : (b : Bool) (r : Row) → is_some (if b then Some r else None) ≡ b
there_alone true r = refl
there_alone false r = refl

pub without_one : (r : Row) (s : Answers) → without_rows (r ∷ []) s ≡ without_row r s
without_one r s = tells (without_rows (r ∷ []) s) (without_row r s)
    (λ n. choose (is_named (r ∷ []) n) (bytes_eq r.name n) None (s.names n) (named_alone (bytes_eq r.name n) r))
    (λ i. choose (is_there (r ∷ []) i) (same_id r.id i) None (s.places i) (there_alone (same_id r.id i) r))
    (λ k. choose (member k (used_ids (r ∷ []))) (member k (uses r)) false (s.used k) (ap (member k) (append-nil (uses r))))

forgotten_one : (r : Row) (s : Answers) → without_rows (r ∷ []) (with_row r s) ≡ without_rows (r ∷ []) s
forgotten_one r s =
    without_one r (with_row r s)
    ∙ tells (without_row r (with_row r s)) (without_row r s)
    (λ n. hidden (bytes_eq r.name n) None (s.names n) (Some r.id))
    (λ i. hidden (same_id r.id i) None (s.places i) (Some (place_under (is_device r) r.parent)))
    (λ k. hidden_use (s.used k) (member k (uses r)))
    ∙ sym (without_one r s)

-- the answers after rows were added and then removed are the answers after they were only removed
pub forgotten : (t : List Row) (s : Answers) → without_rows t (with_rows t s) ≡ without_rows t s
forgotten [] s = refl
forgotten (r ∷ t) s =
    without_rows-append (r ∷ []) t (with_rows t (with_row r s)) ∙ turned t (r ∷ []) (with_rows t (with_row r s)) ∙ ap (without_rows (r ∷ [])) (forgotten t (with_row r s))
    ∙ turned (r ∷ []) t (with_row r s) ∙ ap (without_rows t) (forgotten_one r s) ∙ sym (without_rows-append (r ∷ []) t s)

-- THE SAME ANSWERS, EXCEPT FOR THE NAMES AND IDS OF ROWS
abbrev pub SameBut : List Row → Answers → Answers → Type 0
SameBut t old new = without_rows t new ≡ without_rows t old

pub same_but-left : (a b : List Row) (s u : Answers) → SameBut a s u → SameBut (a ++ b) s u
same_but-left a b s u e = without_rows-append a b u ∙ ap (without_rows b) e ∙ sym (without_rows-append a b s)

pub same_but-right : (a b : List Row) (s u : Answers) → SameBut b s u → SameBut (a ++ b) s u
same_but-right a b s u e = without_rows-append a b u ∙ turned b a u ∙ ap (without_rows a) e ∙ turned a b s ∙ sym (without_rows-append a b s)

-- if the answers for the name, the item and the ids of one row change as adding the row requires, they are the answers after the row was added
pub came : (r : Row) (s u : Answers) → ((n : List ℕ) → u.names n ≡ (if bytes_eq r.name n then Some r.id else s.names n)) → ((i : ItemId) → u.places i ≡ (if same_id r.id i then Some (place_under (is_device r) r.parent) else s.places i))
    → ((k : ℕ) → u.used k ≡ (s.used k || member k (uses r))) → u ≡ with_row r s
came r s u names places used = tells u (with_row r s) names places used

pub not_used : (b : Bool) → b ≡ (b || false)
not_used true = refl
not_used false = refl

-- the same if the row's name was added first
pub came_named : (r : Row) (name : List ℕ) (place : Place) (s m u : Answers) → name ≡ r.name → place ≡ place_under (is_device r) r.parent → m ≡ with_name name r.id s → ((n : List ℕ) → u.names n ≡ m.names n)
    → ((i : ItemId) → u.places i ≡ (if same_id r.id i then Some place else m.places i)) → ((k : ℕ) → u.used k ≡ (m.used k || member k (uses r))) → u ≡ with_row r s
came_named r name place s m u is at e names places used = came r s u
    (λ n. names n ∙ ap (λ (x : Answers). x.names n) e ∙ ap (λ z. if bytes_eq z n then Some r.id else s.names n) is)
    (λ i. places i ∙ ap (λ (x : Answers). if same_id r.id i then Some place else x.places i) e ∙ ap (λ z. if same_id r.id i then Some z else s.places i) at)
    (λ k. used k ∙ ap (λ (x : Answers). x.used k || member k (uses r)) e)

-- answers that agree except for the name and ids of one row
pub same_but_one : (r : Row) (s u : Answers) → ((n : List ℕ) → (if bytes_eq r.name n then None else u.names n) ≡ (if bytes_eq r.name n then None else s.names n))
    → ((i : ItemId) → (if same_id r.id i then None else u.places i) ≡ (if same_id r.id i then None else s.places i))
    → ((k : ℕ) → (if member k (uses r) then false else u.used k) ≡ (if member k (uses r) then false else s.used k)) → SameBut (r ∷ []) s u
same_but_one r s u names places used = without_one r u ∙ tells (without_row r u) (without_row r s) names places used ∙ sym (without_one r s)

-- a change of the answer for one key makes no difference if this key is left out
pub hidden_one : {X : Type 0} (b : Bool) (o v w : Option X) → w ≡ (if b then o else v) → (if b then None else w) ≡ (if b then None else v)
hidden_one b o v w e = ap (λ z. if b then None else z) e ∙ hidden b None v o

-- what is always true is also true after an error, and on success
pub on_err : {T E P : Type 0} (r : Result T E) → P → OnErr r P
on_err (Ok x) p = tt
on_err (Err e) p = p
