-- Undoing an edit gives the forest before the edit, for each kind of entry in the undo log.
use Rattle.std.proofs.Common.{◌≡◌, ℕ, Bool, true, false, not, List, [], ◌∷◌, ◌++◌, ap, sym, subst, ◌∙◌, refl, arith, ⊎_elim, nat_eq, append-nil, true≢false}
use Rattle.std.specs.Prelude.{◌&&◌, if◌then◌else◌, Option, Some, None, is_some, Result, Ok, Err, IsErrAnd}
use Rattle.std.specs.Option.{option_map}
use Rattle.std.proofs.lemmas.Bool.Decides.{eqb_tells}
use Rattle.crush_units.specs.declared.id.ItemId.{ItemId}
use Rattle.crush_units.specs.declared.id.ItemId.TheVariants.{Device, Bucket}
use Rattle.crush_units.specs.Id.{same_id}
use Rattle.crush_units.proofs.Ids.{same_id_tells}
use Rattle.crush_model.specs.Count.{one_if}
use Rattle.crush_model.specs.Table.{Row, row_of, is_below, is_device, is_there, is_placed, own_weight_of, weight_of, item_weight}
use Rattle.crush_model.specs.Same.{Same}
use Rattle.crush_model.specs.Columns.{set_class, set_subtree, set_weight}
use Rattle.crush_model.specs.Forest.{ForestData, rows_of, IsSound}
use Rattle.crush_model.specs.Lawful.{Lawful}
use Rattle.crush_model.specs.Stands.{Stands}
use Rattle.crush_model.proofs.Changes.{Same-set_weight, with_weight, with_weight-id, with_weight-parent}
use Rattle.crush_model.proofs.Classes.{with_class, with_class-id}
use Rattle.crush_model.proofs.Found.{Distinct, Distinct-tail, times, times-cons, is_placed-same, is_there-same}
use Rattle.crush_model.proofs.Kept.{parent_of-map, is_there-map}
use Rattle.crush_model.proofs.Same.{Lawful-same, Same-sym}
use Rattle.crush_model.proofs.Stands.{stands_for_rows, stands_lawful}
use Rattle.crush_model.proofs.Weighs.{lawful_light}
use Rattle.crush_tree.specs.Changed.{SetsClass}
use Rattle.crush_tree.specs.Exact.{weights_below}
use Rattle.crush_tree.specs.NewWeights.{ReplacesWeight, ReplacesWeights}
use Rattle.crush_edits.specs.declared.refusal.Refusal.{Refusal}
use Rattle.crush_edits.specs.declared.refusal.Done.{Done}
use Rattle.crush_edits.specs.declared.refusal.EditFault.{EditFault}
use Rattle.crush_edits.specs.declared.refusal.EditFault.TheVariants.{Refused, OutOfMemory}
use Rattle.crush_edits.specs.declared.edit.Edit.TheVariants.{Reweight}
use Rattle.crush_edits.specs.Setting.{SettingData}
use Rattle.crush_edits.specs.Answer.{Answer, refused, done}
use Rattle.crush_edits.specs.Edit.{edit}
use Rattle.crush_edits.specs.Outcome.{IsChange, IsDone}
use Rattle.crush_edits.proofs.Changes.{weights_kept}
use Rattle.crush_apply.specs.declared.undo_log.Undo.{Undo}
use Rattle.crush_apply.specs.declared.undo_log.Undo.TheVariants.{Weight}
use Rattle.crush_apply.specs.Answered.{AnswersAs}
use Rattle.crush_apply.specs.UndoLog.{as_list, done_alone, AnswersLogged, AnswersLoggedIf, UndoesAny, Undoes, GivesClass, GivesWeight, GivesWeights, RollsBack}
use Rattle.crush_apply.specs.Weighed.{CanReweight}
use Rattle.crush_apply.proofs.Refused.{no_refusal}
use Rattle.crush_apply.proofs.Answered.{makes_so, when_changed, when_done, when_lacking, when_refused, when_same, when_still}
use Rattle.crush_apply.proofs.Done.{own_light}
use Rattle.crush_apply.proofs.Weights.{fitting, weight_stays, reweight_made}

-- A WEIGHT THAT IS SET and then set back
abbrev in_row : ItemId → ℕ → Row → Row
in_row i v r = if same_id r.id i then record r { weight = v } else r

untouched : (i : ItemId) (v : ℕ) (t : List Row) → times i t ≡ 0 → set_weight i v t ≡ t
untouched i v [] e = refl
untouched i v (r ∷ t) e = ⊎_elim
    (λ yes. absurd (omega (arith, e, times-cons i r t, ap one_if yes.0)))
    (λ no. ap (λ b. (if b then record r { weight = v } else r) ∷ set_weight i v t) no.0 ∙ ap (λ z. r ∷ z) (untouched i v t (omega (arith, e, times-cons i r t))))
    (same_id_tells r.id i)

weight_back : (i : ItemId) (v w : ℕ) (t : List Row) → Distinct t → own_weight_of t i ≡ Some v → set_weight i v (set_weight i w t) ≡ t
weight_back i v w [] d e = refl
weight_back i v w (r ∷ t) d e = ⊎_elim
    (λ yes.
    let found : Some r.weight ≡ Some v = sym (ap (λ b. option_map (λ (x : Row). x.weight) (if b then Some r else row_of t i)) yes.0) ∙ e in
    let here : r.weight ≡ v = cc in
    let none_left : times i t ≡ 0 = omega (arith, d i, times-cons i r t, ap one_if yes.0) in
    let set : in_row i v (in_row i w r) ≡ in_row i v (record r { weight = w }) = ap (λ b. in_row i v (if b then record r { weight = w } else r)) yes.0 in
    let back : in_row i v (record r { weight = w }) ≡ record r { weight = v } = ap (λ b. if b then record r { weight = v } else record r { weight = w }) yes.0 in
    let head : in_row i v (in_row i w r) ≡ r = set ∙ back ∙ ap (λ z. record r { weight = z }) (sym here) in
    ap (λ z. z ∷ set_weight i v (set_weight i w t)) head ∙ ap (λ z. r ∷ z) (ap (set_weight i v) (untouched i w t none_left) ∙ untouched i v t none_left))
    (λ no.
    let set : in_row i v (in_row i w r) ≡ in_row i v r = ap (λ b. in_row i v (if b then record r { weight = w } else r)) no.0 in
    let head : in_row i v (in_row i w r) ≡ r = set ∙ ap (λ b. if b then record r { weight = v } else r) no.0 in
    let later : own_weight_of t i ≡ Some v = sym (ap (λ b. option_map (λ (x : Row). x.weight) (if b then Some r else row_of t i)) no.0) ∙ e in
    ap (λ z. z ∷ set_weight i v (set_weight i w t)) head ∙ ap (λ z. r ∷ z) (weight_back i v w t (Distinct-tail r t d) later))
    (same_id_tells r.id i)

-- A WEIGHT THAT IS SET, whether or not it differs from the old one
pub weight_set : (f g : ForestData) (d w v : ℕ) → ReplacesWeight d w f g (Some v) → (t : List Row) → Stands f t → is_placed t (Device d) ≡ true → Stands g (set_weight (Device d) w t)
weight_set f g d w v r t st placed = ⊎_elim
    (λ same.
    let heard = weight_stays t w d v placed (st.lawful.ids (Device d)) (r.before t st) in
    let kept : set_weight (Device d) w t ≡ t = weights_kept (λ (y : Row). same_id y.id (Device d)) w t (heard ∙ same.0) in
    subst (Stands g) (sym kept) (subst (λ z. Stands z t) (sym (r.same (ap Some same.1))) st))
    (λ other. r.stands other.1 t st)
    (eqb_tells v w)

-- THE LOG ENTRY of a weight: the old weight is the one in the table
own_of : (t : List Row) (d v : ℕ) → weight_of t (Device d) ≡ Some v → own_weight_of t (Device d) ≡ Some v
own_of t d v is = by_own (own_weight_of t (Device d)) is where
  by_own : (o : Option ℕ) → option_map (item_weight t (Device d)) o ≡ Some v → o ≡ Some v
  by_own None e = absurd cc
  by_own (Some x) e = e

-- setting the device's old weight again gives the old forest
pub weight_given : (f g : ForestData) (d w v : ℕ) → IsSound f → is_placed (rows_of f) (Device d) ≡ true → ReplacesWeight d w f g (Some v) → GivesWeight d v g f
weight_given f g d w v sound placed r =
    let t = rows_of f in
    let st = stands_for_rows f sound in
    let u = set_weight (Device d) w t in
    let after = weight_set f g d w v r t st placed in
    let which : Row → Bool = λ r. same_id r.id (Device d) in
    let stays : is_placed u (Device d) ≡ is_placed t (Device d) = ap is_some (parent_of-map (with_weight which w) (with_weight-id which w) (with_weight-parent which w) t (Device d)) in
    let back : set_weight (Device d) v u ≡ t = weight_back (Device d) v w t sound.lawful.ids (own_of t d v (r.before t st)) in
    let same : Same (set_weight (Device d) v (rows_of g)) t = subst (Same (set_weight (Device d) v (rows_of g))) back (Same-set_weight (Device d) v (rows_of g) u after.same) in
    record {
      placed = is_placed-same (rows_of g) u after.same.rows (stands_lawful g u after).ids (Device d) ∙ stays ∙ placed;
      light = own_light t d v sound.lawful (sym (r.before t st));
      fits = lawful_light (set_weight (Device d) v (rows_of g)) (Lawful-same t (set_weight (Device d) v (rows_of g)) (Same-sym (set_weight (Device d) v (rows_of g)) t same) sound.lawful);
      is = r.back;
    }

-- the result of a call that logs the weight
pub when_noted : {A : Type 0} (f g : ForestData) (s : SettingData) (n : List ℕ) (w d v : ℕ) (b : Bool) → IsSound f → ((t : List Row) → Stands f t → CanReweight t n w d) → ReplacesWeight d w f g (Some v) → b ≡ not (nat_eq v w)
    → AnswersLogged {A = A} (λ t. edit s t (Reweight n w)) f g (Ok (record { changed = b; made = 0 }, Some (Weight d v)))
when_noted f g s n w d v b sound can r is = record {
  answers = when_done _ f g _ still (λ t st.
      let at = can t st in (
        set_weight (Device d) w t,
        reweight_made s t n w d v at (fitting _ (r.fits t st)) (st.lawful.ids (Device d)) (r.before t st) ∙ ap (λ x. done x 0 (set_weight (Device d) w t)) (sym is),
        weight_set f g d w v r t st at.placed,
      ));
  logged = weight_given f g d w v sound (can (rows_of f) (stands_for_rows f sound)).placed r;
} where
  still : b ≡ false → g ≡ f
  still none = ⊎_elim (λ same. r.same (ap Some same.1)) (λ other. absurd (let no : false ≡ true = sym none ∙ is ∙ ap not other.0 in cc)) (eqb_tells v w)

pub when_unnoted : {A : Type 0} (a : List Row → Answer) (f g : ForestData) (q : Refusal) (x : Result (Done × Option (Undo A)) EditFault) → IsErrAnd x (λ e. e ≡ Refused q) → g ≡ f → ((t : List Row) → Stands f t → a t ≡ refused q) → AnswersLogged a f g x
when_unnoted a f g q (Ok z) h same told = elim h [ ]
when_unnoted a f g q (Err e) h same told = record { answers = when_refused a f g q (Err e) h same told; logged = tt }

pub when_short : {A : Type 0} (a : List Row → Answer) (f g : ForestData) (x : Result (Done × Option (Undo A)) EditFault) → IsErrAnd x (λ e. e ≡ OutOfMemory) → g ≡ f → ((t : List Row) → Stands f t → IsChange (a t)) → AnswersLogged a f g x
when_short a f g (Ok z) h same changes = elim h [ ]
when_short a f g (Err e) h same changes = record { answers = when_lacking a f g (Err e) h same changes; logged = tt }

pub when_brought : {A : Type 0} (a : List Row → Answer) (f g : ForestData) (d : Done) (k : ℕ) (undo : Undo A) → d ≡ record { changed = true; made = k } → ((t : List Row) → Stands f t → IsDone (Stands g) (a t) (record { changed = true; made = k })) → Undoes undo g f
    → AnswersLogged a f g (Ok (d, Some undo))
when_brought a f g d k undo is h undoes = subst (λ z. AnswersLogged a f g (Ok (z, Some undo))) (sym is) (record { answers = when_changed a f g k h; logged = undoes })

pub when_unmoved : {A : Type 0} (a : List Row → Answer) (f : ForestData) → ((t : List Row) → Stands f t → IsDone (Stands f) (a t) (record { changed = false; made = 0 })) → AnswersLogged {A = A} a f f (Ok (record { changed = false; made = 0 }, None))
when_unmoved a f h = record { answers = when_still a f 0 h; logged = refl }

-- the same if two edits give the same for each table
pub when_alike : {A : Type 0} (a b : List Row → Answer) (f g : ForestData) (x : Result (Done × Option (Undo A)) EditFault) → ((t : List Row) → Stands f t → a t ≡ b t) → AnswersLogged b f g x → AnswersLogged a f g x
when_alike a b f g x same told = record { answers = when_same a b f g (done_alone x) same told.answers; logged = told.logged }

-- LOGGED ONLY IF WANTED: a call that returns an entry for the undo log even if `logged` is false
pub noted_anyway : {A : Type 0} (logged takes : Bool) (a : List Row → Answer) (f g : ForestData) (x : Result (Done × Option (Undo A)) EditFault) → AnswersLogged a f g x → (x ≡ Err OutOfMemory → takes ≡ true) → AnswersLoggedIf logged takes a f g x
noted_anyway logged takes a f g x told memory = record { makes = makes_so a f g (done_alone x) told.answers; exact = λ _. told.answers; back = λ _. told.logged; memory = λ _. memory }

-- an edit that is done
pub noted_if : {A : Type 0} (logged takes : Bool) (a : List Row → Answer) (f g : ForestData) (d : Done) (o : Option (Undo A)) → AnswersAs a f g (Ok d) → (logged ≡ true → UndoesAny o g f) → AnswersLoggedIf logged takes a f g (Ok (d, o))
noted_if logged takes a f g d o told back = record { makes = makes_so a f g (Ok d) told; exact = λ _. told; back = back; memory = λ _ is. absurd cc }

-- an edit that isn't done, because there is no memory for the log entry
pub noted_lacking : {A : Type 0} (logged takes : Bool) (a : List Row → Answer) (f g : ForestData) (x : Result (Done × Option (Undo A)) EditFault) → logged ≡ true → IsErrAnd x (λ e. e ≡ OutOfMemory) → g ≡ f → AnswersLoggedIf logged takes a f g x
noted_lacking logged takes a f g (Ok z) wanted h same = elim h [ ]
noted_lacking logged takes a f g (Err e) wanted h same = record {
  makes = record { done = tt; refused = λ r is. absurd (no_refusal r (Err e) h is); unchanged = same };
  exact = λ no. absurd (true≢false (sym wanted ∙ no));
  back = λ _. tt;
  memory = λ no. absurd (true≢false (sym wanted ∙ no));
}

-- the result without the log entry is OutOfMemory only if the whole result is
pub lacks_alone : {A : Type 0} (x : Result (Done × Option (Undo A)) EditFault) → done_alone x ≡ Err OutOfMemory → x ≡ Err OutOfMemory
lacks_alone (Ok z) is = absurd cc
lacks_alone (Err e) is = let same : e ≡ OutOfMemory = cc in ap Err same

-- THE LOG ENTRY of a class
pub class_given : (f g : ForestData) (d : ℕ) (c had : Option (List ℕ)) → IsSound f → is_there (rows_of f) (Device d) ≡ true → SetsClass d c f g had → GivesClass d had g f
class_given f g d c had sound there r =
    let t = rows_of f in
    let u = set_class (Device d) c t in
    let after = r.stands t (stands_for_rows f sound) in
    record {
      there = is_there-same (rows_of g) u after.same.rows (stands_lawful g u after).ids (Device d) ∙ is_there-map (with_class (Device d) c) (with_class-id (Device d) c) t (Device d) ∙ there;
      is = r.back;
    }

-- THE LOG ENTRY of the weights below a bucket
pub weights_given : (f g : ForestData) (b w : ℕ) (ws : List ℕ) (change : _) → IsSound f → is_there (rows_of f) (Bucket b) ≡ true → ◌≡◌ {A = Option (List ℕ)} (Some ws) (weights_below b f) → ReplacesWeights b w f g (Some change) → GivesWeights b ws g f
weights_given f g b w ws change sound there told r =
    let t = rows_of f in
    let u = set_subtree b w t in
    let after = r.stands t (stands_for_rows f sound) in
    let which : Row → Bool = λ x. is_device x && is_below t b x.id in
    let back = r.back ws told in
    record {
      can = record {
        there = is_there-same (rows_of g) u after.same.rows (stands_lawful g u after).ids (Bucket b) ∙ is_there-map (with_weight which w) (with_weight-id which w) t (Bucket b) ∙ there;
        fits = subst (λ (z : ForestData). Lawful (rows_of z)) back sound.lawful;
      };
      is = back;
    }

-- UNDOING a weight gives the old forest
pub weight_taken_back : (g h f : ForestData) (d w : ℕ) (a : Option ℕ) → IsSound g → ReplacesWeight d w g h a → GivesWeight d w g f → h ≡ f
weight_taken_back g h f d w None sound r back = absurd (let no : false ≡ true = r.fits (rows_of g) (stands_for_rows g sound) ∙ ap not back.fits in cc)
weight_taken_back g h f d w (Some b) sound r back = r.is ∙ sym back.is

-- A LOG with one more entry at the end
pub given_before : {A : Type 0} (log : List (Undo A)) (x : Undo A) (h g f : ForestData) → Undoes x h g → RollsBack log g f → RollsBack (log ++ x ∷ []) h f
given_before [] x h g f one e = (h, refl, subst (Undoes x h) e one)
given_before (y ∷ log) x h g f one rest = (rest.0, given_before log x h g rest.0 one rest.1, rest.2)

-- the same with an entry that may be missing
pub noted_last : {A : Type 0} (log : List (Undo A)) (o : Option (Undo A)) (h g f : ForestData) → UndoesAny o h g → RollsBack log g f → RollsBack (log ++ as_list o) h f
noted_last log None h g f same back = subst (λ l. RollsBack l h f) (sym (append-nil log)) (subst (λ z. RollsBack log z f) (sym same) back)
noted_last log (Some x) h g f one back = given_before log x h g f one back

last_given : {A : Type 0} (log : List (Undo A)) (x : Undo A) (h f : ForestData) → RollsBack (log ++ x ∷ []) h f → (g : ForestData) × Undoes x h g × RollsBack log g f
last_given [] x h f g = (f, subst (λ z. Undoes x z f) (sym g.1) g.2, refl)
last_given (y ∷ log) x h f g = let r = last_given log x h g.0 g.1 in (r.0, r.1, (g.0, r.2, g.2))

-- undoing the last entry leaves the rest of the log
pub popped : {A : Type 0} (log rest : List (Undo A)) (x : Undo A) (h f : ForestData) → log ≡ rest ++ x ∷ [] → RollsBack log h f → (g : ForestData) × Undoes x h g × RollsBack rest g f
popped log rest x h f is back = last_given rest x h f (subst (λ l. RollsBack l h f) is back)
