-- The rule of a gauge, which says what is always true of the gauge's word and of the views of its seats. This file also says what each step does to the view of the seat that takes the step.
-- A gauge is one 64-bit word of memory, shared by threads. A seat is the value with which one thread uses this word, and the view of a seat says what the seat has seen. The book's seat is the only seat that changes the word. A reader is a seat that only reads the word. A note says which history one seat has seen, and its view is a reader's.
-- A step is a load or a store of the word, a split of one seat into two seats, or a join of two seats. The word is in a `Table` of the crate `atomic_table`. The state of this `Table` (`State`) has the word and the views of all seats, in the order of the seats' numbers.
use Rattle.std.specs.Prelude.{ℕ, ◌≡◌, ◌<◌, ◌≤◌, ◌+◌, ◌*◌, List, [], ◌∷◌, ◌++◌, length, if◌then◌else◌, nat_le, ◌⊎◌}
use mathlib.Core.Option.{some}
use mathlib.Core.List.{IsPrefix}
use lib.ListN.{get_elem?}
use Rattle.atomic_table.specs.Table.{State, Me, Step}
use Rattle.crush_gauge.specs.declared.limits.TheConstants.{CHANGE, MOST_CHANGES}
use Rattle.crush_gauge.specs.declared.view.Known.{Known}
use Rattle.crush_gauge.specs.declared.view.View.{View}
use Rattle.crush_gauge.specs.declared.view.View.TheVariants.{Fresh, Spent, Book, Reader}

-- the longer of two histories, or the second if they are as long as each other
abbrev pub longer : {E : Type 0} → List E → List E → List E
longer xs ys = if nat_le (length xs) (length ys) then ys else xs

module _ {O E : Type 0} where
  -- what a seat, which is the value with which one thread uses the gauge's word, has seen if no other seat was joined into it since its last load: the opening o and the history h
  abbrev pub known : O → List E → Known O E
  known o h = record { opening = o; seen = h; mine = []; other = [] }

  -- the view of the book's seat (the only seat that changes the gauge's word) after it has seen the first of these openings and no entry; the fresh view if the list has no opening
  abbrev pub opened : List O → View O E
  opened [] = Fresh
  opened (o ∷ os) = Book (known o [])

  -- the view is that of a reader, which is a seat that only reads the gauge's word
  abbrev pub IsReader : View O E → Type 0
  IsReader Fresh = ⊥
  IsReader Spent = ⊥
  IsReader (Book k) = ⊥
  IsReader (Reader k) = Unit {0}

  -- the view is that of the book's seat, which is the only seat that changes the gauge's word
  abbrev pub IsBook : View O E → Type 0
  IsBook Fresh = ⊥
  IsBook Spent = ⊥
  IsBook (Book k) = Unit {0}
  IsBook (Reader k) = ⊥

  -- the view is that of the book's seat, which changes the gauge's word, or of a reader, which is a seat that only reads this word
  abbrev pub IsEither : View O E → Type 0
  IsEither Fresh = ⊥
  IsEither Spent = ⊥
  IsEither (Book k) = Unit {0}
  IsEither (Reader k) = Unit {0}

  -- if the first view is that of the book's seat, which changes the gauge's word, so is the second view. If the first view is that of a reader, which is a seat that only reads this word, so is the second view
  abbrev pub IsSameKind : View O E → View O E → Type 0
  IsSameKind Fresh w = Unit {0}
  IsSameKind Spent w = Unit {0}
  IsSameKind (Book k) w = IsBook w
  IsSameKind (Reader k) w = IsReader w

  -- the view of the note that is made for a seat with the given view. A seat is the value with which one thread uses the gauge's word. A note says which history a seat has seen: its view is a reader's view with the same opening and history. A fresh or spent view is unchanged
  abbrev pub copied : View O E → View O E
  copied Fresh = Fresh
  copied Spent = Spent
  copied (Book k) = Reader (known k.opening k.seen)
  copied (Reader k) = Reader (known k.opening k.seen)

  -- the view of the book's seat (the only seat that changes the gauge's word) after it has published these entries: they are appended to the history that it has seen. Each other view is unchanged
  abbrev pub grown : List E → View O E → View O E
  grown es Fresh = Fresh
  grown es Spent = Spent
  grown es (Book k) = Book (known k.opening (k.seen ++ es))
  grown es (Reader k) = Reader k

  -- the view of a seat (the value with which one thread uses the gauge's word) that had the first view, after a seat with the second view was joined into it. The second view is a reader's, for example that of a note, which says which history another seat has seen. The book's seat, which changes the gauge's word, keeps the history that it has seen. A reader has then seen the longer of the two histories. Until the next load, `mine` and `other` are the histories of the two seats before the join. For any other pair of views, the first view is unchanged.
  abbrev pub joined : View O E → View O E → View O E
  joined (Book k) (Reader j) = Book record { opening = k.opening; seen = k.seen; mine = k.seen; other = j.seen }
  joined (Reader k) (Reader j) = Reader record { opening = k.opening; seen = longer k.seen j.seen; mine = k.seen; other = j.seen }
  joined v w = v

  module _ (legal : O → List E → Type 0) (changes weight : O → List E → ℕ) where
    -- WORD: the value of the gauge's word for the history h after the opening o: the number of changes times 2^43, plus the weight. (The gauge is this one 64-bit word of memory, shared by threads)
    abbrev pub word : O → List E → ℕ
    word o h = changes o h * CHANGE + weight o h

    -- the history is legal after the opening, and has at most MOST_CHANGES changes and a weight below 2^43
    abbrev pub IsLawful : O → List E → Type 0
    IsLawful o h = legal o h × (changes o h ≤ MOST_CHANGES) × (weight o h < CHANGE)

    -- the list has an opening. The empty history after the first opening of the list is lawful, has no changes, and has the weight n
    abbrev pub Opens : List O → ℕ → Type 0
    Opens [] n = ⊥
    Opens (o ∷ os) n = IsLawful o [] × (changes o [] ≡ 0) × (weight o [] ≡ n)

    -- what is always true of a seat that has seen k, if b is the whole history after the opening o. (A seat is the value with which one thread uses the gauge's word.) The seat has seen this opening. The history that it has seen is lawful, and is a prefix of b. The histories `mine` and `other`, which are kept from a join of seats until the next load, are prefixes of the history that the seat has seen.
    pub record Knows (o : O) (b : List E) (k : Known O E) : Type 0 where
      pub opening : k.opening ≡ o
      pub lawful : IsLawful o k.seen
      pub begins : IsPrefix k.seen b
      pub mine : IsPrefix k.mine k.seen
      pub other : IsPrefix k.other k.seen

    -- what the rule says of the view of the seat with the number id, if b is the whole history after the opening o. The view isn't fresh. If it is the view of the book's seat, which is the only seat that changes the gauge's word, then id is equal to `book`, and the seat has seen the whole history b. If it is the view of a reader, which only reads the word, then the reader has seen a prefix of b. If the view is spent, the rule says nothing more about it.
    abbrev pub Fits : O → ℕ → List E → ℕ → View O E → Type 0
    Fits o book b id Fresh = ⊥
    Fits o book b id Spent = Unit {0}
    Fits o book b id (Book k) = (id ≡ book) × (k.seen ≡ b) × Knows o b k
    Fits o book b id (Reader k) = Knows o b k

    -- what the rule says after the first load, if o is the opening. There is one lawful history, `all`. The gauge's word, which is the only word of the gauge's `Table` (of the crate `atomic_table`), is the word of this history. The view of each seat fits this history. The seat with the number `book` is the book's seat, which is the only seat that changes the word.
    pub record Kept (o : O) (s : State (Unit {0}) (View O E)) : Type 0 where
      pub book : ℕ
      pub all : List E
      pub lawful : IsLawful o all
      pub words : s.words ≡ word o all ∷ []
      pub each : (id : ℕ) (v : View O E) → get_elem? s.views id ≡ some v → Fits o book all id v

    -- the state of the gauge's `Table` (of the crate `atomic_table`) before the first load. Its only word is n, which is the weight of the opening. Its only seat is the first seat, which has the fresh view
    pub record IsFresh (n : ℕ) (s : State (Unit {0}) (View O E)) : Type 0 where
      pub words : s.words ≡ n ∷ []
      pub views : s.views ≡ Fresh ∷ []

    -- THE RULE: the gauge's `Table` (of the crate `atomic_table`, with the gauge's word and the views of all seats, which are the values with which threads use the word) is as it was created, or there is an opening and one history after it, as `Kept` says. n is the weight of the opening
    abbrev pub Holds : ℕ → State (Unit {0}) (View O E) → Type 0
    Holds n s = IsFresh n s ⊎ ((o : O) × Kept o s)

    -- what a reader has seen after a load that returns r. (A reader is a seat that only reads the gauge's word.) There is a lawful history h, which begins with the history that the reader had seen before the load. The reader has now seen h, and r is the word of h. Nothing is said of other views.
    abbrev pub LooksAs : View O E → ℕ → View O E → Type 0
    LooksAs Fresh r w = Unit {0}
    LooksAs Spent r w = Unit {0}
    LooksAs (Book k) r w = Unit {0}
    LooksAs (Reader k) r w = (h : List E) × (w ≡ Reader (known k.opening h)) × IsPrefix k.seen h × IsLawful k.opening h × (r ≡ word k.opening h)

    -- the step of a reading, which is one load of the gauge's word with a reader. (A reader is a seat that only reads the word.) The view of the reader changes as `LooksAs` says. The slots of the reader are unchanged. (A slot is a place of the crate `atomic_table` for a value. A gauge has no slots)
    abbrev pub loaded : Step (Unit {0}) → Me (Unit {0}) (View O E) → ℕ → Me (Unit {0}) (View O E) → Type 0
    loaded st m r m' = (m'.1 ≡ m.1) × LooksAs m.0 r m'.0

    -- what a reader has seen after a reading that returns the number c of changes and the weight x. (A reader is a seat that only reads the gauge's word.) There is a lawful history h, which begins with the history that the reader had seen before. The reader has now seen h, which has c changes and the weight x. Nothing is said of other views.
    abbrev pub Reads : View O E → ℕ → ℕ → View O E → Type 0
    Reads Fresh c x w = Unit {0}
    Reads Spent c x w = Unit {0}
    Reads (Book k) c x w = Unit {0}
    Reads (Reader k) c x w = (h : List E) × (w ≡ Reader (known k.opening h)) × IsPrefix k.seen h × IsLawful k.opening h × (c ≡ changes k.opening h) × (x ≡ weight k.opening h)

    -- the book's seat, which is the only seat that changes the gauge's word, may publish the entries es. If es are appended to the history that this seat has seen, the history is lawful, and has c changes and the weight x. A seat with any other view may not publish entries.
    abbrev pub Follows : View O E → List E → ℕ → ℕ → Type 0
    Follows Fresh es c x = ⊥
    Follows Spent es c x = ⊥
    Follows (Book k) es c x = IsLawful k.opening (k.seen ++ es) × (changes k.opening (k.seen ++ es) ≡ c) × (weight k.opening (k.seen ++ es) ≡ x)
    Follows (Reader k) es c x = ⊥

    -- what a seat, which is the value with which one thread uses the gauge's word, has seen after the load of this word that follows a join of two seats. The history that the seat has seen is unchanged and lawful. The histories `mine` and `other`, which the two seats had seen before the join, are prefixes of this history. After the load, `mine` and `other` are empty. Nothing is said of fresh and spent views.
    abbrev pub LearnsAs : View O E → View O E → Type 0
    LearnsAs Fresh w = Unit {0}
    LearnsAs Spent w = Unit {0}
    LearnsAs (Book k) w = (w ≡ Book (known k.opening k.seen)) × IsLawful k.opening k.seen × IsPrefix k.mine k.seen × IsPrefix k.other k.seen
    LearnsAs (Reader k) w = (w ≡ Reader (known k.opening k.seen)) × IsLawful k.opening k.seen × IsPrefix k.mine k.seen × IsPrefix k.other k.seen

    -- the step of the load of the gauge's word that follows a join of two seats. (A seat is the value with which one thread uses this word.) The view of the seat changes as `LearnsAs` says. The slots of the seat are unchanged. (A slot is a place of the crate `atomic_table` for a value. A gauge has no slots)
    abbrev pub learned : Step (Unit {0}) → Me (Unit {0}) (View O E) → ℕ → Me (Unit {0}) (View O E) → Type 0
    learned st m r m' = (m'.1 ≡ m.1) × LearnsAs m.0 m'.0

    -- what a seat, which is the value with which one thread uses the gauge's word, has seen after it has learned from a note. (A note says which history another seat has seen, and its view is a reader's.) The book's seat, which changes the gauge's word, has seen the same history as before, which is lawful and begins with the note's history. A reader, which only reads the word, has seen one of two histories: its own history before, or the note's history. This history is lawful and begins with both. Nothing is said of other views.
    abbrev pub Learns : View O E → View O E → View O E → Type 0
    Learns (Book k) (Reader j) w = (w ≡ Book (known k.opening k.seen)) × IsLawful k.opening k.seen × IsPrefix j.seen k.seen
    Learns (Reader k) (Reader j) w = (h : List E) × (w ≡ Reader (known k.opening h)) × ((h ≡ k.seen) ⊎ (h ≡ j.seen)) × IsLawful k.opening h × IsPrefix k.seen h × IsPrefix j.seen h
    Learns v w u = Unit {0}

  -- the step with which the book's seat, which is the only seat that changes the gauge's word, publishes the entries es. They are appended to the history that this seat has seen, and nothing else of the seat changes
  abbrev pub published : List E → Step (Unit {0}) → Me (Unit {0}) (View O E) → ℕ → Me (Unit {0}) (View O E) → Type 0
  published es st m r m' = m' ≡ (grown es m.0, m.1)

  -- the step of the first seat at the first load: this seat becomes the book's seat, which is the only seat that changes the gauge's word. It has then seen the first opening of the list os, and no entry
  abbrev pub begun : List O → Step (Unit {0}) → Me (Unit {0}) (View O E) → ℕ → Me (Unit {0}) (View O E) → Type 0
  begun os st m r m' = m' ≡ (opened os, m.1)
