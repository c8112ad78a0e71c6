-- Proves that the words of a map's text spell a lawful document.
use Rattle.std.proofs.Common.{◌≡◌, ◌⊎◌, ℕ, zero, suc, ◌+◌, ◌≤◌, Bool, true, false, List, [], ◌∷◌, ◌++◌, Option, Some, None, refl, sym, ap, subst, ◌∙◌, append-nil, arith, inl, inr}
use Rattle.std.proofs.lemmas.Bool.{and_parts, leb-true}
use Rattle.std.proofs.lemmas.List.Elements.{All-nil}
use Rattle.std.proofs.lemmas.Slice.Eq.{bytes_eq-Decides}
use Rattle.std.specs.Prelude.{codes, bytes_eq, cond, drop, unwrap_or, nat_le, length}
use Rattle.std.specs.Str.Parse.{digits_value}
use Rattle.crush_units.specs.declared.alg.Alg.{Alg}
use Rattle.crush_units.specs.declared.alg.Alg.TheVariants.{Straw2}
use Rattle.crush_units.specs.declared.id.ItemId.{ItemId}
use Rattle.crush_units.specs.Alg.{alg_text, alg_of_text}
use Rattle.crush_units.specs.Weight.{are_digits}
use Rattle.crush_units.proofs.Algs.{alg_of_text-alg_text}
use Rattle.crush_model.specs.Items.{ShadowData}
use Rattle.crush_model.specs.Table.{Row}
use Rattle.crush_model.specs.Lawful.{Lawful}
use Rattle.crush_edits.specs.Setting.{StepData, SettingData}
use Rattle.crush_edits.specs.Fits.{Fits}
use Rattle.crush_map.specs.WrittenItems.{put_below, weight_or_one, adjustment}
use Rattle.crush_builder.specs.Built.{Draft, empty_draft, Pending, nothing, numbered as is_numbered, filling as is_filling, pending_with_id, pending_with_class_id, pending_row, pending_with_alg, table_with_item, with_id, with_class_id, with_alg, with_next_item, with_end, add_rule}
use Rattle.crush_units.specs.Numbers.{is_number}
use Rattle.crush_units.specs.Words.{words, texts}
use Rattle.crush_text.specs.declared.fault.TextFaultKind.TheVariants.{BadNumber}
use Rattle.crush_text.specs.declared.statement_kind.StatementKind.TheVariants as statement_kinds
use Rattle.crush_text.specs.Role.{key, number, id_or_alg, algorithm, item, lone_item, item_or_end, step_or_end, weight, kind_of_word, item_of, units}
use Rattle.crush_text.specs.Form.{Mode, first, second, begun, numbered, filling, ruled, at, done, word}
use Rattle.crush_text.specs.Grammar.{id_or_alg_line, item_or_brace, step_or_brace, with_step, statement}
use Rattle.crush_text.specs.Document.{start, IsMapText}
use Rattle.crush_laws.specs.Document.{ItemLine, Document}
use Rattle.crush_laws.specs.Meaning.{item_in, step_in, TakesBucket, setting_of, table_of, adjusted, SpellsMap}
use Rattle.crush_laws.specs.MapOrFlaw.{TextsAreLawfulDocuments}
use Rattle.crush_laws.proofs.Keeps.{not_false, each_map_is_lawful}
use Rattle.crush_laws.proofs.LawfulTexts.{is_for}
use Rattle.crush_laws.proofs.ReadLines.{Line, Lines, along, spelled_lines}
use Rattle.crush_laws.proofs.ReadParts.{cons_is, second_word, is_word, listable, FirstRead, behind_first, read_tunable, read_kind, read_device}
use Rattle.crush_laws.proofs.ReadSteps.{read_step, StepRead}
use Rattle.crush_laws.proofs.Spelled.{lawful_document_is_map}
use Rattle.crush_laws.proofs.ReadRest.{made, with_rules, SecondsRead, ItemsRead, IdsRead, StepsRead, FirstsRead, Goal, header, none_read, more_id, more_item, more_step, no_firsts, more_first, open_second, NoFirst}
use Rattle.crush_text.specs.declared.expected.Optional.TheVariants.{Nothing}

-- LINE BY LINE: the lines are read from the first to the last
-- the algorithm that is found for an algorithm's name is this algorithm
alg_is : (w : List ℕ) (a : Alg) → w ≡ alg_text a → unwrap_or (alg_of_text w) Straw2 ≡ a
alg_is w a e = ap (λ (x : List ℕ). unwrap_or (alg_of_text x) Straw2) e ∙ ap (λ (o : Option Alg). unwrap_or o Straw2) (alg_of_text-alg_text a)

zero_of : (w : List ℕ) → is_number 0 w ≡ true → digits_value 10 w ≡ 0
zero_of w h = let le : digits_value 10 w ≤ 0 = leb-true _ _ (and_parts (are_digits 10 w) (nat_le (digits_value 10 w) 0) h).1 in omega (arith, le)

no_line : (b : Bool) {A : Type 0} → b ≡ true → b ≡ false → A
no_line b t f = absurd (let no : true ≡ false = sym t ∙ f in cc)

parse : (n : ℕ) (m : Mode) (d : Draft) (ws : List (List ℕ)) (e : Draft) → Lines n (at m d) ws e → Goal m d ws e
parse zero first d ws e h = λ idle rules count. no_firsts d ws e rules count (none_read d e ws h.0 h.1 idle)
parse zero second d ws e h = λ idle. none_read d e ws h.0 h.1 idle
parse zero begun d ws e h = λ k x pending. absurd (let no : false ≡ true = h.2 in cc)
parse zero numbered d ws e h = λ k x b cs pending. absurd (let no : false ≡ true = h.2 in cc)
parse zero (filling any) d ws e h = λ b pending. absurd (let no : false ≡ true = h.2 in cc)
parse zero (ruled r) d ws e h = λ idle. absurd (let no : false ≡ true = h.2 in cc)
parse (suc n) first d ws e h = λ idle rules count. by_it (λ m u k. parse n m u h.0 e k) idle rules count (bytes_eq h.2.0 (codes "tunable")) (bytes_eq h.2.0 (codes "device")) (bytes_eq h.2.0 (codes "type")) refl refl refl h.2.4
  where
    opened_by : (w k : List ℕ) (us : List (List ℕ)) → ws ≡ w ∷ us → bytes_eq w k ≡ true → ws ≡ k ∷ us
    opened_by w k us head is = cons_is ws w k us us head (is_word w k is) refl

    none_first : bytes_eq h.2.0 (codes "tunable") ≡ false → bytes_eq h.2.0 (codes "device") ≡ false → bytes_eq h.2.0 (codes "type") ≡ false → NoFirst h.2.0
    none_first ha hb hc (inl e) = no_line _ ((bytes_eq-Decides h.2.0 _).1 e) ha
    none_first ha hb hc (inr (inl e)) = no_line _ ((bytes_eq-Decides h.2.0 _).1 e) hb
    none_first ha hb hc (inr (inr e)) = no_line _ ((bytes_eq-Decides h.2.0 _).1 e) hc

    more : ((m : Mode) (u : Draft) → Lines n (at m u) h.0 e → Goal m u h.0 e) → (x : FirstRead d ws h.0 h.1 (behind_first d)) → d.pending ≡ nothing → d.setting.rules ≡ [] → d.adjusted ≡ 0 → FirstsRead d.setting.kinds d.setting.tunables d.table ws e
    more rec x idle rules count = more_first d x.statement ws h.0 e x.spelled (rec first (behind_first d x.statement) (along n (at first (behind_first d x.statement)) h.1 h.0 e x.leads h.3)) idle rules count

    by_it : ((m : Mode) (u : Draft) → Lines n (at m u) h.0 e → Goal m u h.0 e) → d.pending ≡ nothing → d.setting.rules ≡ [] → d.adjusted ≡ 0 → (a b c : Bool) → bytes_eq h.2.0 (codes "tunable") ≡ a → bytes_eq h.2.0 (codes "device") ≡ b → bytes_eq h.2.0 (codes "type") ≡ c
        → Line d (statement d (cond a statement_kinds.Tunable (cond b statement_kinds.Device (cond c statement_kinds.Type (cond (bytes_eq h.2.0 (codes "rule")) statement_kinds.Rule (statement_kinds.Bucket (kind_of_word d h.2.0))))))) h.2.1 h.0 h.1
        → FirstsRead d.setting.kinds d.setting.tunables d.table ws e
    by_it rec idle rules count true b c ha hb hc l = more rec (read_tunable d ws h.2.1 h.0 h.1 (opened_by h.2.0 (codes "tunable") h.2.1 h.2.2 ha) l) idle rules count
    by_it rec idle rules count false true c ha hb hc l = more rec (read_device d ws h.2.1 h.0 h.1 (opened_by h.2.0 (codes "device") h.2.1 h.2.2 hb) l) idle rules count
    by_it rec idle rules count false false true ha hb hc l = more rec (read_kind d ws h.2.1 h.0 h.1 (opened_by h.2.0 (codes "type") h.2.1 h.2.2 hc) l) idle rules count
    by_it rec idle rules count false false false ha hb hc l = no_firsts d ws e rules count (open_second false n d ws h.0 e h.1 rec idle h.2.0 h.2.1 h.2.2 h.2.3 (λ _. none_first ha hb hc) h.2.4 h.3)
parse (suc n) begun d ws e h = λ k x pending.
    let v = h.0 in
    let l = h.2 in
    let w = l.4.4.0 in
    let number = digits_value 10 (drop 1 w) in
    record {
      number = number;
      id = w;
      behind = v;
      head = cons_is ws l.0 (codes "{") l.1 (codes "id" ∷ w ∷ v) l.2 (is_for d (key (codes "{")) l.0 l.3) (cons_is l.1 l.4.0 (codes "id") l.4.1 (w ∷ v) l.4.2 (is_for d (key (codes "id")) l.4.0 l.4.3) (cons_is l.4.1 w w l.4.4.1 v l.4.4.2 refl l.4.4.4.0));
      is = (not_false _ (l.4.4.3 BadNumber), refl);
      ids = parse n numbered (with_id d number) v e (along n (at numbered (with_id d number)) h.1 v e l.4.4.4.1 h.3) k x number [] (ap (λ (p : Pending). pending_with_id p number) pending);
    }
parse (suc n) numbered d ws e h = λ k x b cs pending. by_it (λ m u k. parse n m u h.0 e k) k x b cs pending (bytes_eq h.2.0 (codes "id")) refl h.2.4
  where
    by_it : ((m : Mode) (u : Draft) → Lines n (at m u) h.0 e → Goal m u h.0 e) → (k : ℕ) (x : List ℕ) (b : ℕ) (cs : List ShadowData) → d.pending ≡ is_numbered k x b cs → (c : Bool) → bytes_eq h.2.0 (codes "id") ≡ c → Line d (id_or_alg_line d c) h.2.1 h.0 h.1 → IdsRead k x b cs d.setting d.table d.adjusted ws e
    by_it rec k x b cs pending true is l =
        let v = h.0 in
        let number = digits_value 10 (drop 1 l.0) in
        let class = l.4.4.0 in
        let c : ShadowData = record { id = number; class = class } in
        let u : Draft = with_class_id d number class in
        more_id k x b cs c d.setting d.table d.adjusted ws v e
        (l.0, (not_false _ (l.3 BadNumber), refl), cons_is ws h.2.0 (codes "id") h.2.1 (l.0 ∷ codes "class" ∷ class ∷ v) h.2.2 (is_word h.2.0 (codes "id") is) (cons_is h.2.1 l.0 l.0 l.1 (codes "class" ∷ class ∷ v) l.2 refl (cons_is l.1 l.4.0 (codes "class") l.4.1 (class ∷ v) l.4.2 (is_for d (key (codes "class")) l.4.0 l.4.3) (cons_is l.4.1 class class l.4.4.1 v l.4.4.2 refl l.4.4.4.0))))
        (rec numbered u (along n (at numbered u) h.1 v e l.4.4.4.1 h.3) k x b (cs ++ c ∷ []) (ap (λ (p : Pending). pending_with_class_id p c) pending))
    by_it rec k x b cs pending false is l = by_hash l.4
      where
        named : (a : Alg) × (l.0 ≡ alg_text a)
        named = is_for d algorithm l.0 l.3

        alg : Alg
        alg = unwrap_or (alg_of_text l.0) Straw2

        head : ws ≡ codes "alg" ∷ alg_text named.0 ∷ l.1
        head = cons_is ws h.2.0 (codes "alg") h.2.1 (alg_text named.0 ∷ l.1) h.2.2 (second_word h.2.0 (codes "id") (codes "alg") is (is_for d id_or_alg h.2.0 h.2.3)) (cons_is h.2.1 l.0 (alg_text named.0) l.1 l.1 l.2 named.1 refl)

        rest : at (filling false) (with_alg d alg) ≡ h.1 → ItemsRead b d.setting (d.table ++ header k x b (cs ++ []) named.0 ∷ []) d.adjusted h.0 e
        rest q =
            let row : pending_row d.pending alg ≡ header k x b (cs ++ []) named.0 ∷ [] = ap (λ (p : Pending). pending_row p alg) pending ∙ (λ i. header k x b (sym (append-nil cs) i) (alg_is l.0 named.0 named.1 i) ∷ []) in
            subst (λ (r : List Row). ItemsRead b d.setting (d.table ++ r) d.adjusted h.0 e) row
            (rec (filling false) (with_alg d alg) (along n (at (filling false) (with_alg d alg)) h.1 h.0 e q h.3) b (ap pending_with_alg pending))

        by_hash : (Line d (word (key (codes "hash")) (λ _. word (number 0) (λ _. done (at (filling false) (with_alg d alg))))) l.1 h.0 h.1) ⊎ (Line d (done (at (filling false) (with_alg d alg))) l.1 h.0 h.1) → IdsRead k x b cs d.setting d.table d.adjusted ws e
        by_hash (inl z) = record {
          ids = [];
          alg = named.0;
          behind_alg = l.1;
          behind_hash = h.0;
          spelled = head;
          hash = inr (z.4.0, (not_false _ (z.4.3 BadNumber), zero_of z.4.0 (not_false _ (z.4.3 BadNumber))), cons_is l.1 z.0 (codes "hash") z.1 (z.4.0 ∷ h.0) z.2 (is_for d (key (codes "hash")) z.0 z.3) (cons_is z.1 z.4.0 z.4.0 z.4.1 h.0 z.4.2 refl z.4.4.0));
          items = rest z.4.4.1;
        }
        by_hash (inr z) = record { ids = []; alg = named.0; behind_alg = l.1; behind_hash = h.0; spelled = head; hash = inl z.0; items = rest z.1 }
parse (suc n) (filling any) d ws e h = λ b pending. by_it (λ m u k. parse n m u h.0 e k) b pending (bytes_eq h.2.0 (codes "item")) refl h.2.4
  where
    item_behind : ((m : Mode) (u : Draft) → Lines n (at m u) h.0 e → Goal m u h.0 e) → (b : ℕ) → d.pending ≡ is_filling b → (i j : ItemId) (w : Option ℕ) → i ≡ j → at (filling true) (with_next_item d i w) ≡ h.1 → ItemsRead b d.setting (put_below b j (weight_or_one w) d.table) (d.adjusted + adjustment d.table j w) h.0 e
    item_behind rec b pending i j w is q =
        let t : table_with_item d.pending i (weight_or_one w) d.table ≡ put_below b j (weight_or_one w) d.table = (λ k. table_with_item (pending k) (is k) (weight_or_one w) d.table) in
        let a : d.adjusted + adjustment d.table i w ≡ d.adjusted + adjustment d.table j w = ap (λ (x : ItemId). d.adjusted + adjustment d.table x w) is in
        subst (λ (x : ℕ). ItemsRead b d.setting (put_below b j (weight_or_one w) d.table) x h.0 e) a
        (subst (λ (u : List Row). ItemsRead b d.setting u (d.adjusted + adjustment d.table i w) h.0 e) t (rec (filling true) (with_next_item d i w) (along n (at (filling true) (with_next_item d i w)) h.1 h.0 e q h.3) b pending))

    by_it : ((m : Mode) (u : Draft) → Lines n (at m u) h.0 e → Goal m u h.0 e) → (b : ℕ) → d.pending ≡ is_filling b → (c : Bool) → bytes_eq h.2.0 (codes "item") ≡ c → Line d (item_or_brace d c) h.2.1 h.0 h.1 → ItemsRead b d.setting d.table d.adjusted ws e
    by_it rec b pending true is (inl l) =
        let i : ItemLine = record { name = l.0; weight = Some (units l.4.4.0) } in
        let free = listable d b l.0 pending (is_for d item l.0 l.3) in
        more_item b i d.setting d.table d.adjusted ws h.0 e (
          l.4.4.0,
          is_for d (weight (item_of d l.0)) l.4.4.0 l.4.4.3,
          cons_is ws h.2.0 (codes "item") h.2.1 (l.0 ∷ codes "weight" ∷ l.4.4.0 ∷ h.0) h.2.2 (is_word h.2.0 (codes "item") is)
              (cons_is h.2.1 l.0 l.0 l.1 (codes "weight" ∷ l.4.4.0 ∷ h.0) l.2 refl (cons_is l.1 l.4.0 (codes "weight") l.4.1 (l.4.4.0 ∷ h.0) l.4.2 (is_for d (key (codes "weight")) l.4.0 l.4.3) (cons_is l.4.1 l.4.4.0 l.4.4.0 l.4.4.1 h.0 l.4.4.2 refl l.4.4.4.0))),
        )
        free.1 (item_behind rec b pending (item_of d l.0) (item_in d.table l.0) (Some (units l.4.4.0)) free.0 l.4.4.4.1)
    by_it rec b pending true is (inr l) =
        let i : ItemLine = record { name = l.0; weight = None } in
        let free = listable d b l.0 pending (is_for d lone_item l.0 l.3) in
        more_item b i d.setting d.table d.adjusted ws h.0 e
        (cons_is ws h.2.0 (codes "item") h.2.1 (l.0 ∷ h.0) h.2.2 (is_word h.2.0 (codes "item") is) (cons_is h.2.1 l.0 l.0 l.1 h.0 l.2 refl l.4.0))
        free.1 (item_behind rec b pending (item_of d l.0) (item_in d.table l.0) None free.0 l.4.1)
    by_it rec b pending false is l =
        let no_more : d.adjusted ≡ d.adjusted + 0 = omega arith in
        record {
          items = [];
          rest = h.0;
          spelled = cons_is ws h.2.0 (codes "}") h.2.1 h.0 h.2.2 (second_word h.2.0 (codes "item") (codes "}") is (is_for d (item_or_end any Nothing) h.2.0 h.2.3)) l.0;
          names = tt;
          seconds = subst (λ (a : ℕ). SecondsRead d.setting d.table a h.0 e) no_more (rec second (with_end d) (along n (at second (with_end d)) h.1 h.0 e l.1 h.3) refl);
        }
parse (suc n) (ruled r) d ws e h = λ idle. by_it (λ m u k. parse n m u h.0 e k) idle (bytes_eq h.2.0 (codes "step")) refl h.2.4
  where
    by_it : ((m : Mode) (u : Draft) → Lines n (at m u) h.0 e → Goal m u h.0 e) → d.pending ≡ nothing → (c : Bool) → bytes_eq h.2.0 (codes "step") ≡ c → Line d (step_or_brace d r c) h.2.1 h.0 h.1 → StepsRead r d.setting d.table d.adjusted ws e
    by_it rec idle true is l =
        let x : StepRead d r ws h.0 h.1 = read_step d r idle ws l.1 h.0 l.0 h.1 (cons_is ws h.2.0 (codes "step") h.2.1 (l.0 ∷ l.1) h.2.2 (is_word h.2.0 (codes "step") is) l.2) l.3 l.4 in
        more_step r x.step d.setting d.table d.adjusted ws h.0 e x.spelled x.names (rec (ruled (with_step r (step_in d.table x.step))) d (along n (at (ruled (with_step r (step_in d.table x.step))) d) h.1 h.0 e x.leads h.3) idle)
    by_it rec idle false is l = record {
      steps = [];
      rest = h.0;
      spelled = cons_is ws h.2.0 (codes "}") h.2.1 h.0 h.2.2 (second_word h.2.0 (codes "step") (codes "}") is (is_for d (step_or_end (length r.steps) Nothing) h.2.0 h.2.3)) l.0;
      names = All-nil (TakesBucket d.table);
      seconds = subst (λ (l : List StepData). SecondsRead (with_rules d.setting (record r { steps = l } ∷ [])) d.table d.adjusted h.0 e) (sym (append-nil r.steps)) (rec second (add_rule d r) (along n (at second (add_rule d r)) h.1 h.0 e l.1 h.3) idle);
    }
parse (suc n) second d ws e h = λ idle. open_second true n d ws h.0 e h.1 (λ m u k. parse n m u h.0 e k) idle h.2.0 h.2.1 h.2.2 h.2.3 (λ is. let no : true ≡ false = is in absurd cc) h.2.4 h.3

-- THE LAW: the words of a map's text spell a lawful document
built_is : (e : Draft) → (s : SettingData) (t : List Row) (a : ℕ) → made s t a ≡ e → (s ≡ e.setting) × (t ≡ e.table) × (a ≡ e.adjusted)
built_is e s t a is = (ap (λ (d : Draft). d.setting) is, ap (λ (d : Draft). d.table) is, ap (λ (d : Draft). d.adjusted) is)

map_is_lawful_document : (bytes : List ℕ) (s : SettingData) (t : List Row) (n : ℕ) → IsMapText bytes s t n → SpellsMap bytes s t n
map_is_lawful_document bytes s t n x =
    let ws = (words 0 bytes).words in
    let lines = spelled_lines start ws x.document.last x.draft x.document.spelled x.document.whole in
    let h = parse lines.0 first empty_draft (texts ws) x.draft lines.1 refl refl refl in
    let doc : Document = record { first = h.firsts; second = h.seconds.seconds } in
    let is = built_is x.draft (setting_of doc) (table_of doc) (0 + adjusted doc) h.seconds.whole in
    let all : adjusted doc ≡ 0 + adjusted doc = omega arith in
    let map = each_map_is_lawful bytes s t n x in
    let setting : setting_of doc ≡ s = is.0 ∙ x.setting in
    let table : table_of doc ≡ t = is.1 ∙ x.table in
    record {
      document = doc;
      spelled = (h.more, h.spelled, h.seconds.spelled);
      end = x.document.end;
      lawful = record {
        names = h.seconds.names;
        lawful = subst Lawful (sym table) map.0;
        fits = subst (λ (q : SettingData). Fits q (table_of doc)) (sym setting) (subst (Fits s) (sym table) map.1);
      };
      setting = setting;
      table = table;
      count = all ∙ is.2 ∙ x.count;
    }

-- the texts of maps are exactly the texts whose words spell a lawful document
pub texts_are_lawful_documents : TextsAreLawfulDocuments
texts_are_lawful_documents bytes s t n = (map_is_lawful_document bytes s t n, lawful_document_is_map bytes s t n)
