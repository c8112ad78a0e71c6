-- Each step of a gauge preserves the rule of the word.
use Rattle.std.proofs.Common.{◌≡◌, ◌≢◌, ◌⊎◌, ℕ, zero, suc, ◌+◌, ◌*◌, ◌/◌, ◌%◌, ◌<◌, ◌≤◌, List, [], ◌∷◌, ◌++◌, length, set, Bool, true, false, refl, sym, ap, ◌∙◌, subst, inl, inr, ⊎_elim, arith, nat_le}
use Rattle.std.specs.Prelude.{slice_index, slice_set}
use mathlib.Core.Option.{some, none, some-injective, some-ne-none}
use mathlib.Core.List.{IsPrefix}
use lib.ListN.{get_elem?}
use Rattle.atomic_table.specs.Table.{State, Me, step, keeps, stepped, opening, Allows, Splits, Joins}
use Rattle.atomic_table.proofs.Lists.{at_set, at_snoc, set_again}
use Rattle.crush_gauge.specs.declared.view.View.{View}
use Rattle.crush_gauge.specs.declared.view.View.TheVariants.{Fresh, Spent, Book, Reader}
use Rattle.crush_gauge.specs.Rule.{known, Opens, IsReader, IsBook, IsEither, IsSameKind, copied, grown, longer, joined, word, IsLawful, Knows, Fits, Kept, LooksAs, loaded, Follows, LearnsAs, Learns, Reads, learned, published, begun, IsFresh, Holds}
use Rattle.std.proofs.lemmas.Bool.Decides.{nat_tests}
use Rattle.crush_gauge.proofs.Prefixes.{prefix_self, prefix_trans, prefix_shorter}

longer_both : {E : Type 0} (xs ys zs : List E) → IsPrefix xs zs → IsPrefix ys zs → IsPrefix xs (longer xs ys) × IsPrefix ys (longer xs ys) × ((longer xs ys ≡ xs) ⊎ (longer xs ys ≡ ys))
longer_both {E} xs ys zs p q = go (nat_le (length xs) (length ys)) refl
  where
    go : (b : Bool) → nat_le (length xs) (length ys) ≡ b → IsPrefix xs (longer xs ys) × IsPrefix ys (longer xs ys) × ((longer xs ys ≡ xs) ⊎ (longer xs ys ≡ ys))
    go true is = let le : length xs ≤ length ys = grind (arith, nat_tests) in rw is (prefix_shorter xs ys zs p q le, prefix_self ys, inr refl)
    go false is = let le : length ys ≤ length xs = grind (arith, nat_tests) in rw is (prefix_self xs, prefix_shorter ys xs zs q p le, inl refl)

module _ {O E : Type 0} (legal : O → List E → Type 0) (changes weight : O → List E → ℕ) where
  abbrev Fit : O → ℕ → List E → ℕ → View O E → Type 0
  Fit = Fits legal changes weight

  abbrev S : Type 0
  S = State (Unit {0}) (View O E)

  abbrev Keep : O → S → Type 0
  Keep = Kept legal changes weight

  nil_begins : (xs : List E) → IsPrefix [] xs
  nil_begins xs = (xs, refl)

  settled : (o : O) (b : List E) (p : O) (h : List E) → p ≡ o → IsLawful legal changes weight o h → IsPrefix h b → Knows legal changes weight o b (known p h)
  settled o b p h same lawful begins = record { opening = same; lawful = lawful; begins = begins; mine = nil_begins h; other = nil_begins h }

  at_opening : (o p : O) (h : List E) → p ≡ o → IsLawful legal changes weight o h → IsLawful legal changes weight p h
  at_opening o p h same lawful = subst (λ (x : O). IsLawful legal changes weight x h) (sym same) lawful

  fits_set : (o : O) (book : ℕ) (now : List E) (views : List (View O E)) (id : ℕ) (w : View O E) → ((j : ℕ) (u : View O E) → j ≢ id → get_elem? views j ≡ some u → Fit o book now j u) → Fit o book now id w
      → (j : ℕ) (u : View O E) → get_elem? (set views id w) j ≡ some u → Fit o book now j u
  fits_set o book now views id w others mine j u e =
      ⊎_elim
      (λ (x : (j ≡ id) × (w ≡ u)). subst (λ (y : ℕ × View O E). Fit o book now y.0 y.1) (λ i. (sym x.0 i, x.1 i)) mine)
      (λ (x : (j ≢ id) × (get_elem? views j ≡ some u)). others j u x.0 x.1)
      (at_set views id j w u e)

  -- a view other than the book's still fits after the history grows
  fits_more : (o : O) (book : ℕ) (b es : List E) (j : ℕ) (u : View O E) → j ≢ book → Fit o book b j u → Fit o book (b ++ es) j u
  fits_more o book b es j Fresh apart f = absurd f
  fits_more o book b es j Spent apart f = tt
  fits_more o book b es j (Book k) apart f = absurd (apart f.0)
  fits_more o book b es j (Reader k) apart f = record { opening = f.opening; lawful = f.lawful; begins = prefix_trans k.seen b (b ++ es) f.begins (es, refl); mine = f.mine; other = f.other }

  -- a load that changes only the view preserves the rule
  reread : (o : O) (s : S) (r : Keep o s) (id : ℕ) (c : List (ℕ × Unit {0})) (w : View O E) → Fit o r.book r.all id w → Keep o (stepped s 0 (slice_index s.words 0) id c w keeps)
  reread o s r id c w fit = record {
    book = r.book;
    all = r.all;
    lawful = r.lawful;
    words = ap (λ ws. slice_set ws 0 (slice_index ws 0)) r.words;
    each = fits_set o r.book r.all s.views id w (λ j u apart e. r.each j u e) fit;
  }

  -- what the rule says of another seat still holds when the view of one seat changes
  others : (o : O) (book : ℕ) (b : List E) (views : List (View O E)) (id : ℕ) (v : View O E) (other : ℕ) (w : View O E) → ((j : ℕ) (u : View O E) → get_elem? views j ≡ some u → Fit o book b j u) → ¬ (other ≡ id) → get_elem? (set views id v) other ≡ some w → Fit o book b other w
  others o book b views id v other w each apart there =
      ⊎_elim (λ (t : (other ≡ id) × (v ≡ w)). absurd (apart t.0)) (λ (t : (other ≢ id) × (get_elem? views other ≡ some w)). each other w t.1) (at_set views id other v w there)

  -- the rule is preserved when one view changes and a second seat is spent
  join_kept : (o : O) (s : S) (r : Keep o s) (id : ℕ) (v : View O E) (other : ℕ) → Fit o r.book r.all id v → Keep o record { words = s.words; homes = s.homes; views = set (set s.views id v) other Spent }
  join_kept o s r id v other fit = record {
    book = r.book;
    all = r.all;
    lawful = r.lawful;
    words = r.words;
    each = fits_set o r.book r.all (set s.views id v) other Spent (λ j u _ e. fits_set o r.book r.all s.views id v (λ i y _ e'. r.each i y e') fit j u e) tt;
  }

  looks : (o : O) (slots id : ℕ) (v : View O E) (c : List (ℕ × Unit {0})) → IsReader v → Allows (Keep o) slots id (v, c) 0 (λ n. n) (loaded legal changes weight (step slots 0 0 0 none) (v, c))
  looks o slots id Fresh c unfit _ _ _ _ _ = absurd unfit
  looks o slots id Spent c unfit _ _ _ _ _ = absurd unfit
  looks o slots id (Book k) c unfit _ _ _ _ _ = absurd unfit
  looks o slots id (Reader k) c fit s r _ at _ =
      let mine = r.each id (Reader k) at in
      let w = Reader (known k.opening r.all) in (
        w,
        keeps,
        tt,
        reread o s r id c w (settled o r.all k.opening r.all mine.opening r.lawful (prefix_self r.all)),
        (refl, (r.all, refl, mine.begins, at_opening o k.opening r.all mine.opening r.lawful, ap (λ ws. slice_index ws 0) r.words ∙ ap (λ (x : O). word legal changes weight x r.all) (sym mine.opening))),
      )

  compares : (o : O) (slots id : ℕ) (v : View O E) (c : List (ℕ × Unit {0})) → ¬ (v ≡ Spent) → Allows (Keep o) slots id (v, c) 0 (λ n. n) (learned legal changes weight (step slots 0 0 0 none) (v, c))
  compares o slots id Fresh c unfit s r _ at _ = absurd (r.each id Fresh at)
  compares o slots id Spent c unfit _ _ _ _ _ = absurd (unfit refl)
  compares o slots id (Book k) c fit s r _ at _ =
      let mine = r.each id (Book k) at in
      let w = Book (known k.opening k.seen) in (
        w,
        keeps,
        tt,
        reread o s r id c w (mine.0, mine.1, settled o r.all k.opening k.seen mine.2.opening mine.2.lawful mine.2.begins),
        (refl, (refl, at_opening o k.opening k.seen mine.2.opening mine.2.lawful, mine.2.mine, mine.2.other)),
      )
  compares o slots id (Reader k) c fit s r _ at _ =
      let mine = r.each id (Reader k) at in
      let w = Reader (known k.opening k.seen) in (
        w,
        keeps,
        tt,
        reread o s r id c w (settled o r.all k.opening k.seen mine.opening mine.lawful mine.begins),
        (refl, (refl, at_opening o k.opening k.seen mine.opening mine.lawful, mine.mine, mine.other)),
      )

  publishes : (o : O) (slots id n x y : ℕ) (v : View O E) (c : List (ℕ × Unit {0})) (es : List E) → Follows legal changes weight v es x y → n ≡ x * 8796093022208 + y
      → Allows (Keep o) slots id (v, c) 0 (λ _. n) (λ _. published es (step slots 0 n 0 none) (v, c) n)
  publishes o slots id n x y Fresh c es unfit is _ _ _ _ _ = absurd unfit
  publishes o slots id n x y Spent c es unfit is _ _ _ _ _ = absurd unfit
  publishes o slots id n x y (Reader k) c es unfit is _ _ _ _ _ = absurd unfit
  publishes o slots id n x y (Book k) c es follows is s r _ at _ =
      let mine = r.each id (Book k) at in
      let now = k.seen ++ es in
      let w = Book (known k.opening now) in
      let lawful = subst (λ (p : O). IsLawful legal changes weight p now) mine.2.opening follows.0 in (
        w,
        keeps,
        tt,
        record {
          book = r.book;
          all = now;
          lawful = lawful;
          words =
              ap (λ ws. slice_set ws 0 n) r.words
              ∙ ap (λ (m : ℕ). m ∷ []) (is ∙ sym (ap (λ (m : ℕ). m * 8796093022208 + y) follows.1) ∙ sym (ap (λ (m : ℕ). changes k.opening now * 8796093022208 + m) follows.2) ∙ ap (λ (p : O). word legal changes weight p now) mine.2.opening);
          each = fits_set o r.book now s.views id w
              (λ j u apart e. subst (λ b. Fit o r.book (b ++ es) j u) (sym mine.1) (fits_more o r.book r.all es j u (λ same. apart (same ∙ sym mine.0)) (r.each j u e)))
              (mine.0, refl, settled o now k.opening now mine.2.opening lawful (prefix_self now));
        },
        refl,
      )

  splits : (o : O) (id : ℕ) (v : View O E) → Splits (Keep o) id v v (copied v)
  splits o id v s r at = record {
    book = r.book;
    all = r.all;
    lawful = r.lawful;
    words = r.words;
    each = λ j u e. ⊎_elim
        (λ was. r.each j u (subst (λ l. get_elem? l j ≡ some u) (set_again s.views id v at) was))
        (λ (same : copied v ≡ u). subst (Fit o r.book r.all j) same (fits_copy j v (r.each id v at)))
        (at_snoc (set s.views id v) (copied v) u j e);
  }
    where
      fits_copy : (j : ℕ) (x : View O E) → Fit o r.book r.all id x → Fit o r.book r.all j (copied x)
      fits_copy j Fresh f = absurd f
      fits_copy j Spent f = tt
      fits_copy j (Book k) f = settled o r.all k.opening k.seen f.2.opening f.2.lawful f.2.begins
      fits_copy j (Reader k) f = settled o r.all k.opening k.seen f.opening f.lawful f.begins

  merges : (o : O) (id : ℕ) (v : View O E) (other : ℕ) (w : View O E) → ¬ (v ≡ Spent) → IsReader w → Joins (Keep o) id v other w (joined v w) Spent
  merges o id Fresh other w real reads s r at apart there = absurd (r.each id Fresh at)
  merges o id Spent other w real reads _ _ _ _ _ = absurd (real refl)
  merges o id (Book k) other Fresh real reads _ _ _ _ _ = absurd reads
  merges o id (Reader k) other Fresh real reads _ _ _ _ _ = absurd reads
  merges o id (Book k) other Spent real reads _ _ _ _ _ = absurd reads
  merges o id (Book k) other (Book j) real reads _ _ _ _ _ = absurd reads
  merges o id (Reader k) other Spent real reads _ _ _ _ _ = absurd reads
  merges o id (Reader k) other (Book j) real reads _ _ _ _ _ = absurd reads
  merges o id (Book k) other (Reader j) real reads s r at apart there =
      let mine = r.each id (Book k) at in
      let v : View O E = joined (Book k) (Reader j) in
      let theirs = others o r.book r.all s.views id v other (Reader j) r.each apart there in
      join_kept o s r id v other (
        mine.0,
        mine.1,
        record {
          opening = mine.2.opening;
          lawful = mine.2.lawful;
          begins = mine.2.begins;
          mine = prefix_self k.seen;
          other = subst (IsPrefix j.seen) (sym mine.1) theirs.begins;
        },
      )
  merges o id (Reader k) other (Reader j) real reads s r at apart there =
      let mine = r.each id (Reader k) at in
      let v : View O E = joined (Reader k) (Reader j) in
      let theirs = others o r.book r.all s.views id v other (Reader j) r.each apart there in
      let l = longer_both k.seen j.seen r.all mine.begins theirs.begins in
      join_kept o s r id v other record {
        opening = mine.opening;
        lawful = ⊎_elim (λ e. subst (IsLawful legal changes weight o) (sym e) mine.lawful) (λ e. subst (IsLawful legal changes weight o) (sym e) theirs.lawful) l.2;
        begins = ⊎_elim (λ e. subst (λ x. IsPrefix x r.all) (sym e) mine.begins) (λ e. subst (λ x. IsPrefix x r.all) (sym e) theirs.begins) l.2;
        mine = l.0;
        other = l.1;
      }

pub reader_either : {O E : Type 0} (v : View O E) → IsReader v → IsEither v
reader_either Fresh r = absurd r
reader_either Spent r = absurd r
reader_either (Book k) r = absurd r
reader_either (Reader k) r = tt

pub book_either : {O E : Type 0} (v : View O E) → IsBook v → IsEither v
book_either Fresh b = absurd b
book_either Spent b = absurd b
book_either (Book k) b = tt
book_either (Reader k) b = absurd b

pub same_kind_reader : {O E : Type 0} (v w : View O E) → IsReader v → IsSameKind v w → IsReader w
same_kind_reader Fresh w r same = absurd r
same_kind_reader Spent w r same = absurd r
same_kind_reader (Book k) w r same = absurd r
same_kind_reader (Reader k) w r same = same

pub same_kind_book : {O E : Type 0} (v w : View O E) → IsBook v → IsSameKind v w → IsBook w
same_kind_book Fresh w b same = absurd b
same_kind_book Spent w b same = absurd b
same_kind_book (Book k) w b same = same
same_kind_book (Reader k) w b same = absurd b

not_spent : {O E : Type 0} (v : View O E) → IsEither v → ¬ (v ≡ Spent)
not_spent Fresh is e = absurd is
not_spent Spent is e = absurd is
not_spent (Book k) is e = cc
not_spent (Reader k) is e = cc

not_fresh : {O E : Type 0} (v : View O E) → IsEither v → ¬ (v ≡ Fresh)
not_fresh Fresh is e = absurd is
not_fresh Spent is e = absurd is
not_fresh (Book k) is e = cc
not_fresh (Reader k) is e = cc

joined_either : {O E : Type 0} (v w : View O E) → IsEither v → IsReader w → IsEither (joined v w)
joined_either Fresh w is q = absurd is
joined_either Spent w is q = absurd is
joined_either (Book k) Fresh is q = absurd q
joined_either (Book k) Spent is q = absurd q
joined_either (Book k) (Book j) is q = absurd q
joined_either (Book k) (Reader j) is q = tt
joined_either (Reader k) Fresh is q = absurd q
joined_either (Reader k) Spent is q = absurd q
joined_either (Reader k) (Book j) is q = absurd q
joined_either (Reader k) (Reader j) is q = tt

-- what a seat of either kind has seen after it joined a note and compared the histories
pub learns_as : {O E : Type 0} (legal : O → List E → Type 0) (changes weight : O → List E → ℕ) (v w j u : View O E) → IsEither v → IsReader w → j ≡ joined v w → LearnsAs legal changes weight j u → IsSameKind v u × Learns legal changes weight v w u
learns_as legal changes weight Fresh w j u r q is l = absurd r
learns_as legal changes weight Spent w j u r q is l = absurd r
learns_as legal changes weight (Book k) Fresh j u r q is l = absurd q
learns_as legal changes weight (Book k) Spent j u r q is l = absurd q
learns_as legal changes weight (Book k) (Book i) j u r q is l = absurd q
learns_as legal changes weight (Reader k) Fresh j u r q is l = absurd q
learns_as legal changes weight (Reader k) Spent j u r q is l = absurd q
learns_as legal changes weight (Reader k) (Book i) j u r q is l = absurd q
learns_as legal changes weight (Book k) (Reader i) j u r q is l =
    let t = subst (λ x. LearnsAs legal changes weight x u) is l in
    (subst IsBook (sym t.0) tt, (t.0, t.1, t.3))
learns_as legal changes weight (Reader k) (Reader i) j u r q is l =
    let t = subst (λ x. LearnsAs legal changes weight x u) is l in
    (subst IsReader (sym t.0) tt, (longer k.seen i.seen, t.0, one k.seen i.seen, t.1, t.2, t.3))
  where
    one : {E : Type 0} (xs ys : List E) → (longer xs ys ≡ xs) ⊎ (longer xs ys ≡ ys)
    one xs ys = go (nat_le (length xs) (length ys)) refl
      where
        go : (b : Bool) → nat_le (length xs) (length ys) ≡ b → (longer xs ys ≡ xs) ⊎ (longer xs ys ≡ ys)
        go true e = rw e (inr refl)
        go false e = rw e (inl refl)

unpacks : (n c x : ℕ) → n ≡ c * 8796093022208 + x → x < 8796093022208 → (c ≡ n / 8796093022208) × (x ≡ n % 8796093022208)
unpacks n c x is small = (omega arith, omega arith)

pub reads_as : {O E : Type 0} (legal : O → List E → Type 0) (changes weight : O → List E → ℕ) (v u : View O E) (n : ℕ) → IsReader v → LooksAs legal changes weight v n u → IsReader u × Reads legal changes weight v (n / 8796093022208) (n % 8796093022208) u
reads_as legal changes weight Fresh u n r l = absurd r
reads_as legal changes weight Spent u n r l = absurd r
reads_as legal changes weight (Book k) u n r l = absurd r
reads_as legal changes weight (Reader k) u n r l =
    let t = unpacks n (changes k.opening l.0) (weight k.opening l.0) l.4 l.3.2 in
    (subst IsReader (sym l.1) tt, (l.0, l.1, l.2, l.3, sym t.0, sym t.1))

pub grown_book : {O E : Type 0} (v : View O E) (es : List E) → IsBook v → IsBook (grown es v)
grown_book Fresh es b = absurd b
grown_book Spent es b = absurd b
grown_book (Book k) es b = tt
grown_book (Reader k) es b = absurd b

pub copied_either : {O E : Type 0} (v : View O E) → IsEither v → IsReader (copied v)
copied_either Fresh is = absurd is
copied_either Spent is = absurd is
copied_either (Book k) is = tt
copied_either (Reader k) is = tt

not_fresh_follows : {O E : Type 0} (legal : O → List E → Type 0) (changes weight : O → List E → ℕ) (v : View O E) (es : List E) (x y : ℕ) → Follows legal changes weight v es x y → ¬ (v ≡ Fresh)
not_fresh_follows legal changes weight Fresh es x y f e = absurd f
not_fresh_follows legal changes weight Spent es x y f e = absurd f
not_fresh_follows legal changes weight (Book k) es x y f e = cc
not_fresh_follows legal changes weight (Reader k) es x y f e = absurd f

-- if some seat's view isn't fresh, there is an opening
module _ {O E : Type 0} (legal : O → List E → Type 0) (changes weight : O → List E → ℕ) where
  abbrev alone_fresh : List (View O E)
  alone_fresh = Fresh ∷ []

  abbrev book_of : O → View O E
  book_of o = Book (known o [])

  has_opening : (n : ℕ) (s : State (Unit {0}) (View O E)) (id : ℕ) (v : View O E) → Holds legal changes weight n s → get_elem? s.views id ≡ some v → ¬ (v ≡ Fresh) → (o : O) × Kept legal changes weight o s
  has_opening n s id v h at real = ⊎_elim (λ (f : IsFresh legal changes weight n s). absurd (alone id (subst (λ vs. get_elem? vs id ≡ some v) f.views at))) (λ (k : (o : O) × Kept legal changes weight o s). k) h
    where
      alone : (j : ℕ) → get_elem? alone_fresh j ≡ some v → ⊥
      alone zero e = real (sym (some-injective _ _ e))
      alone (suc j) e = some-ne-none v (sym e)

  wider_step : (n slots id : ℕ) (me : Me (Unit {0}) (View O E)) (i : ℕ) (f : ℕ → ℕ) (tells : ℕ → Me (Unit {0}) (View O E) → Type 0) → ¬ (me.0 ≡ Fresh)
      → ((o : O) → Allows (Kept legal changes weight o) slots id me i f tells) → Allows (Holds legal changes weight n) slots id me i f tells
  wider_step n slots id me i f tells real each s h len at small =
      let k = has_opening n s id me.0 h at real in
      let t = each k.0 s k.1 len at small in
      (t.0, t.1, t.2, inr (k.0, t.3), t.4)

  wider_split : (n id : ℕ) (v left right : View O E) → ¬ (v ≡ Fresh) → ((o : O) → Splits (Kept legal changes weight o) id v left right) → Splits (Holds legal changes weight n) id v left right
  wider_split n id v left right real each s h at = let k = has_opening n s id v h at real in inr (k.0, each k.0 s k.1 at)

  wider_join : (n id : ℕ) (v : View O E) (other : ℕ) (w both end : View O E) → ¬ (v ≡ Fresh) → ((o : O) → Joins (Kept legal changes weight o) id v other w both end) → Joins (Holds legal changes weight n) id v other w both end
  wider_join n id v other w both end real each s h at apart there = let k = has_opening n s id v h at real in inr (k.0, each k.0 s k.1 at apart there)

  -- THE STEPS, each with the views of its seats
  pub a_reader_looks : (n slots id : ℕ) (v : View O E) (c : List (ℕ × Unit {0})) → IsReader v → Allows (Holds legal changes weight n) slots id (v, c) 0 (λ x. x) (loaded legal changes weight (step slots 0 0 0 none) (v, c))
  a_reader_looks n slots id v c reads = wider_step n slots id (v, c) 0 (λ x. x) (loaded legal changes weight (step slots 0 0 0 none) (v, c)) (not_fresh v (reader_either v reads)) (λ o. looks legal changes weight o slots id v c reads)

  pub a_book_publishes : (n slots id word x y : ℕ) (v : View O E) (c : List (ℕ × Unit {0})) (es : List E) → Follows legal changes weight v es x y → word ≡ x * 8796093022208 + y
      → Allows (Holds legal changes weight n) slots id (v, c) 0 (λ _. word) (λ _. published es (step slots 0 word 0 none) (v, c) word)
  a_book_publishes n slots id word x y v c es follows is =
      wider_step n slots id (v, c) 0 (λ _. word) (λ _. published es (step slots 0 word 0 none) (v, c) word) (not_fresh_follows legal changes weight v es x y follows) (λ o. publishes legal changes weight o slots id word x y v c es follows is)

  pub a_seat_splits : (n id : ℕ) (v : View O E) → IsEither v → Splits (Holds legal changes weight n) id v v (copied v)
  a_seat_splits n id v is = wider_split n id v v (copied v) (not_fresh v is) (λ o. splits legal changes weight o id v)

  pub a_seat_joins : (n id : ℕ) (v : View O E) (other : ℕ) (w : View O E) → IsEither v → IsReader w → Joins (Holds legal changes weight n) id v other w (joined v w) Spent
  a_seat_joins n id v other w is q = wider_join n id v other w (joined v w) Spent (not_fresh v is) (λ o. merges legal changes weight o id v other w (not_spent v is) q)

  pub a_seat_compares : (n slots id : ℕ) (v w : View O E) (me : Me (Unit {0}) (View O E)) (c : List (ℕ × Unit {0})) → IsEither v → IsReader w → me ≡ (joined v w, c)
      → Allows (Holds legal changes weight n) slots id me 0 (λ x. x) (learned legal changes weight (step slots 0 0 0 none) me)
  a_seat_compares n slots id v w me c is q same =
      let u = joined v w in
      let j = joined_either v w is q in
      subst (λ (m : Me (Unit {0}) (View O E)). Allows (Holds legal changes weight n) slots id m 0 (λ x. x) (learned legal changes weight (step slots 0 0 0 none) m)) (sym same)
      (wider_step n slots id (u, c) 0 (λ x. x) (learned legal changes weight (step slots 0 0 0 none) (u, c)) (not_fresh u j) (λ o. compares legal changes weight o slots id u c (not_spent u j)))

  -- the rule is true of the table when it is created
  pub table_is_fresh : (n : ℕ) → Holds legal changes weight n (opening {S = Unit {0}} (n ∷ []) [] Fresh)
  table_is_fresh n = inl record { words = refl; views = refl }

  -- after the first step, the first seat has the opening
  pub begins : (n slots id : ℕ) (os : List O) (me : Me (Unit {0}) (View O E)) → me ≡ (Fresh, []) → Opens legal changes weight os n
      → Allows (Holds legal changes weight n) slots id me 0 (λ x. x) (begun os (step slots 0 0 0 none) me)
  begins n slots id [] me is opens = absurd opens
  begins n slots id (o ∷ os) me is opens =
      subst (λ (m : Me (Unit {0}) (View O E)). Allows (Holds legal changes weight n) slots id m 0 (λ x. x) (begun (o ∷ os) (step slots 0 0 0 none) m)) (sym is) fresh
    where
      first_fits : (j : ℕ) (v : View O E) → get_elem? (book_of o ∷ []) j ≡ some v → Fits legal changes weight o 0 [] j v
      first_fits zero v e = subst (Fits legal changes weight o 0 [] 0) (some-injective _ _ e) (refl, refl, record { opening = refl; lawful = opens.0; begins = ([], refl); mine = ([], refl); other = ([], refl) })
      first_fits (suc j) v e = absurd (some-ne-none v (sym e))

      each_fits : (i j : ℕ) (v : View O E) → get_elem? alone_fresh i ≡ some Fresh → get_elem? (slice_set alone_fresh i (book_of o)) j ≡ some v → Fits legal changes weight o 0 [] j v
      each_fits zero j v at e = first_fits j v e
      each_fits (suc i) j v at e = absurd (some-ne-none Fresh (sym at))

      the_word : n ≡ changes o [] * 8796093022208 + weight o []
      the_word = omega (arith, opens.1, opens.2)

      kept : (s : State (Unit {0}) (View O E)) → IsFresh legal changes weight n s → get_elem? s.views id ≡ some Fresh → Kept legal changes weight o (stepped s 0 (slice_index s.words 0) id [] (book_of o) keeps)
      kept s f at = record {
        book = 0;
        all = [];
        lawful = opens.0;
        words = ap (λ ws. slice_set ws 0 (slice_index ws 0)) f.words ∙ ap (λ (m : ℕ). m ∷ []) the_word;
        each = λ j v e. each_fits id j v (subst (λ vs. get_elem? vs id ≡ some Fresh) f.views at) (subst (λ vs. get_elem? (slice_set vs id (book_of o)) j ≡ some v) f.views e);
      }

      fresh : Allows (Holds legal changes weight n) slots id (Fresh, []) 0 (λ x. x) (begun (o ∷ os) (step slots 0 0 0 none) (Fresh, []))
      fresh s h _ at _ =
          ⊎_elim
          (λ (f : IsFresh legal changes weight n s). (book_of o, keeps, tt, inr (o, kept s f at), refl))
          (λ (k : (p : O) × Kept legal changes weight p s). absurd (k.1.each id Fresh at))
          h
