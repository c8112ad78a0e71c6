-- What the rest of a text spells, and what it spells together with the line before it.
use Rattle.std.proofs.Common.{◌≡◌, ℕ, ◌+◌, ◌<◌, Bool, true, false, List, [], ◌∷◌, ◌++◌, Option, None, refl, sym, ap, subst, ◌∙◌, append_assoc, append-nil, add_assoc, arith, inl, inr}
use Rattle.std.proofs.lemmas.Bool.{and_parts, ltb-true}
use Rattle.std.proofs.lemmas.List.Elements.{All-cons}
use Rattle.std.specs.Prelude.{All, codes, bytes_eq, cond, flat_map, map, nat_lt, ◌==◌}
use Rattle.std.specs.List.{list_any}
use Rattle.std.specs.Str.Parse.{digits_value}
use Rattle.crush_units.specs.declared.alg.Alg.{Alg}
use Rattle.crush_units.specs.Alg.{alg_text}
use Rattle.crush_model.specs.Items.{ShadowData}
use Rattle.crush_model.specs.Table.{Row}
use Rattle.crush_model.specs.ItemRows.{bucket_row}
use Rattle.crush_edits.specs.Setting.{KindData, TunableData, StepData, RuleData, SettingData}
use Rattle.crush_map.specs.WrittenItems.{put_below, weight_or_one, adjustment}
use Rattle.crush_builder.specs.Built.{Draft, nothing, begun as is_begun, numbered as is_numbered, filling as is_filling, begun_bucket}
use Rattle.crush_text.specs.declared.fault.TextFaultKind.TheVariants.{BadNumber, Unexpected}
use Rattle.crush_text.specs.declared.statement_kind.StatementKind.TheVariants as statement_kinds
use Rattle.crush_text.specs.Role.{key, opening, rule_id_key, kind_of_word, opened}
use Rattle.crush_text.specs.Form.{Mode, first, second, begun, numbered, filling, ruled, Progress, at}
use Rattle.crush_text.specs.Grammar.{bucket_line, rule_line, with_step, new_rule, statement}
use Rattle.crush_text.specs.Rows.{IsRight, ComesFirst}
use Rattle.crush_laws.specs.Document.{ItemLine, BucketLines, StepLine, RuleLines, First, tunable, kind, device, Second, bucket, rule}
use Rattle.crush_laws.specs.Spells.{IsBucketNumber, SpellsEach, SpellsClassId, SpellsHash, SpellsItem, SpellsStep, SpellsRule, SpellsFirst, SpellsSecond}
use Rattle.crush_laws.specs.Meaning.{first_kinds, first_tunables, first_rows, kind_number_in, item_in, with_items, with_seconds, adjusted_items, adjusted_by, rules_by, step_in, IsListable, AreListable, TakesBucket, UseNames}
use Rattle.crush_laws.proofs.Keeps.{not_false, begins_bucket}
use Rattle.crush_laws.proofs.LawfulTexts.{is_for}
use Rattle.crush_laws.proofs.ReadLines.{Line, Lines, along}
use Rattle.crush_laws.proofs.ReadParts.{cons_is, is_word, read_sizes, behind_first}
use Rattle.crush_text.specs.declared.expected.Optional.TheVariants.{Nothing}

-- WHAT THE REST OF A TEXT SPELLS, for each place between two lines
-- the draft between two statements, with this setting, this table and this number of adjusted weights
abbrev pub made : SettingData → List Row → ℕ → Draft
made s t a = record { setting = s; table = t; pending = nothing; adjusted = a }

abbrev pub with_rules : SettingData → List RuleData → SettingData
with_rules s rs = record s { rules = s.rules ++ rs }

-- the rest spells buckets and rules
pub record SecondsRead (s : SettingData) (t : List Row) (a : ℕ) (ws : List (List ℕ)) (e : Draft) : Type 0 where
  pub seconds : List Second
  pub spelled : SpellsEach SpellsSecond seconds ws []
  pub names : UseNames s.kinds seconds t
  pub whole : made (with_rules s (rules_by s.kinds seconds t)) (with_seconds s.kinds seconds t) (a + adjusted_by s.kinds seconds t) ≡ e

-- the rest spells items of a bucket, followed by buckets and rules
pub record ItemsRead (b : ℕ) (s : SettingData) (t : List Row) (a : ℕ) (ws : List (List ℕ)) (e : Draft) : Type 0 where
  pub items : List ItemLine
  pub rest : List (List ℕ)
  pub spelled : SpellsEach SpellsItem items ws (codes "}" ∷ rest)
  pub names : AreListable b items t
  pub seconds : SecondsRead s (with_items b items t) (a + adjusted_items b items t) rest e

-- the rest spells class ids and the algorithm, followed by what comes after them
abbrev pub header : ℕ → List ℕ → ℕ → List ShadowData → Alg → Row
header k x b cs alg = bucket_row None (record { id = b; kind = k; name = x; alg = alg; class_ids = cs })

pub record IdsRead (k : ℕ) (x : List ℕ) (b : ℕ) (cs : List ShadowData) (s : SettingData) (t : List Row) (a : ℕ) (ws : List (List ℕ)) (e : Draft) : Type 0 where
  pub ids : List ShadowData
  pub alg : Alg
  pub behind_alg : List (List ℕ)
  pub behind_hash : List (List ℕ)
  pub spelled : SpellsEach SpellsClassId ids ws (codes "alg" ∷ alg_text alg ∷ behind_alg)
  pub hash : SpellsHash behind_alg behind_hash
  pub items : ItemsRead b s (t ++ header k x b (cs ++ ids) alg ∷ []) a behind_hash e

-- the rest spells a bucket's id, followed by what comes after it
pub record BucketRead (k : ℕ) (x : List ℕ) (s : SettingData) (t : List Row) (a : ℕ) (ws : List (List ℕ)) (e : Draft) : Type 0 where
  pub number : ℕ
  pub id : List ℕ
  pub behind : List (List ℕ)
  pub head : ws ≡ codes "{" ∷ codes "id" ∷ id ∷ behind
  pub is : IsBucketNumber number id
  pub ids : IdsRead k x number [] s t a behind e

-- the rest spells steps of a rule, followed by what comes after them
abbrev pub with_steps : RuleData → List StepData → RuleData
with_steps r xs = record r { steps = r.steps ++ xs }

pub record StepsRead (r : RuleData) (s : SettingData) (t : List Row) (a : ℕ) (ws : List (List ℕ)) (e : Draft) : Type 0 where
  pub steps : List StepLine
  pub rest : List (List ℕ)
  pub spelled : SpellsEach SpellsStep steps ws (codes "}" ∷ rest)
  pub names : All (TakesBucket t) steps
  pub seconds : SecondsRead (with_rules s (with_steps r (map (step_in t) steps) ∷ [])) t a rest e

-- the rest spells lines of the first part, followed by buckets and rules
pub record FirstsRead (ks : List KindData) (ts : List TunableData) (t : List Row) (ws : List (List ℕ)) (e : Draft) : Type 0 where
  pub firsts : List First
  pub more : List (List ℕ)
  pub spelled : SpellsEach SpellsFirst firsts ws more
  pub seconds : SecondsRead (record { kinds = ks ++ flat_map first_kinds firsts; tunables = ts ++ flat_map first_tunables firsts; rules = [] }) (t ++ flat_map first_rows firsts) 0 more e

-- what the rest spells, given the mode after a line
abbrev pub Goal : Mode → Draft → List (List ℕ) → Draft → Type 0
Goal first d ws e = d.pending ≡ nothing → d.setting.rules ≡ [] → d.adjusted ≡ 0 → FirstsRead d.setting.kinds d.setting.tunables d.table ws e
Goal second d ws e = d.pending ≡ nothing → SecondsRead d.setting d.table d.adjusted ws e
Goal begun d ws e = (k : ℕ) (x : List ℕ) → d.pending ≡ is_begun k x → BucketRead k x d.setting d.table d.adjusted ws e
Goal numbered d ws e = (k : ℕ) (x : List ℕ) (b : ℕ) (cs : List ShadowData) → d.pending ≡ is_numbered k x b cs → IdsRead k x b cs d.setting d.table d.adjusted ws e
Goal (filling any) d ws e = (b : ℕ) → d.pending ≡ is_filling b → ItemsRead b d.setting d.table d.adjusted ws e
Goal (ruled r) d ws e = d.pending ≡ nothing → StepsRead r d.setting d.table d.adjusted ws e

-- BUCKETS AND RULES before other buckets and rules
-- if there are no more words, the rest is empty
pub none_read : (d e : Draft) (ws : List (List ℕ)) → ws ≡ [] → d ≡ e → d.pending ≡ nothing → SecondsRead d.setting d.table d.adjusted ws e
none_read d e ws empty is idle =
    let no_more : d.adjusted + 0 ≡ d.adjusted = omega arith in
    record {
      seconds = [];
      spelled = empty;
      names = tt;
      whole = (λ i. made (record d.setting { rules = append-nil d.setting.rules i }) d.table (no_more i)) ∙ (λ i. record d { pending = sym idle i }) ∙ is;
    }

-- one more bucket before the rest
pub more_bucket : (type : List ℕ) (s : SettingData) (t : List Row) (a : ℕ) (ws us : List (List ℕ)) (e : Draft) (x : List ℕ) → 0 < kind_number_in s.kinds type → ws ≡ type ∷ x ∷ us → BucketRead (kind_number_in s.kinds type) x s t a us e → SecondsRead s t a ws e
more_bucket type s t a ws us e x some head h =
    let b : BucketLines = record { kind = type; name = x; id = h.number; class_ids = h.ids.ids; alg = h.ids.alg; items = h.ids.items.items } in
    let rest = h.ids.items.seconds in
    record {
      seconds = bucket b ∷ rest.seconds;
      spelled = (
        h.ids.items.rest,
        record {
          id = h.id;
          behind_id = h.behind;
          behind_alg = h.ids.behind_alg;
          behind_hash = h.ids.behind_hash;
          head = head ∙ ap (λ (l : List (List ℕ)). type ∷ x ∷ l) h.head;
          number = h.is;
          class_ids = h.ids.spelled;
          hash = h.ids.hash;
          items = h.ids.items.spelled;
        },
        rest.spelled,
      );
      names = ((some, h.ids.items.names), rest.names);
      whole = (λ i. made (with_rules s (rules_by s.kinds rest.seconds (with_items h.number h.ids.items.items (t ++ header (kind_number_in s.kinds type) x h.number h.ids.ids h.ids.alg ∷ []))))
          (with_seconds s.kinds rest.seconds (with_items h.number h.ids.items.items (t ++ header (kind_number_in s.kinds type) x h.number h.ids.ids h.ids.alg ∷ [])))
          (sym (add_assoc a (adjusted_items h.number h.ids.items.items (t ++ header (kind_number_in s.kinds type) x h.number h.ids.ids h.ids.alg ∷ [])) (adjusted_by s.kinds rest.seconds (with_items h.number h.ids.items.items (t ++ header (kind_number_in s.kinds type) x h.number h.ids.ids h.ids.alg ∷ [])))) i)) ∙ rest.whole;
    }

-- one more rule before the rest
pub record RuleHead (ws us : List (List ℕ)) (x : List ℕ) (n : ℕ) (k : List ℕ) (least most : Option ℕ) : Type 0 where
  pub spelled : (steps : List StepLine) (rest : List (List ℕ)) → SpellsEach SpellsStep steps us (codes "}" ∷ rest) → SpellsRule (record { name = x; id = n; kind = k; min_size = least; max_size = most; steps = steps }) ws rest

pub more_rule : (s : SettingData) (t : List Row) (a : ℕ) (ws us : List (List ℕ)) (e : Draft) (x : List ℕ) (n : ℕ) (k : List ℕ) (least most : Option ℕ) → RuleHead ws us x n k least most → StepsRead (new_rule x n k least most) s t a us e → SecondsRead s t a ws e
more_rule s t a ws us e x n k least most head h =
    let r : RuleLines = record { name = x; id = n; kind = k; min_size = least; max_size = most; steps = h.steps } in
    let rest = h.seconds in
    let others : ℕ = adjusted_by s.kinds rest.seconds t in
    let none : 0 + others ≡ others = omega arith in
    let own : List RuleData = with_steps (new_rule x n k least most) (map (step_in t) h.steps) ∷ [] in
    record {
      seconds = rule r ∷ rest.seconds;
      spelled = (h.rest, head.spelled h.steps h.rest h.spelled, rest.spelled);
      names = (h.names, rest.names);
      whole = (λ i. made (record s { rules = sym (append_assoc s.rules own (rules_by s.kinds rest.seconds t)) i }) (with_seconds s.kinds rest.seconds t) (a + none i)) ∙ rest.whole;
    }

-- LINES before other lines
-- one more class id before the rest
pub more_id : (k : ℕ) (x : List ℕ) (b : ℕ) (cs : List ShadowData) (c : ShadowData) (s : SettingData) (t : List Row) (a : ℕ) (ws v : List (List ℕ)) (e : Draft) → SpellsClassId c ws v → IdsRead k x b (cs ++ c ∷ []) s t a v e → IdsRead k x b cs s t a ws e
more_id k x b cs c s t a ws v e spelled h = record {
  ids = c ∷ h.ids;
  alg = h.alg;
  behind_alg = h.behind_alg;
  behind_hash = h.behind_hash;
  spelled = (v, spelled, h.spelled);
  hash = h.hash;
  items = subst (λ (l : List ShadowData). ItemsRead b s (t ++ header k x b l h.alg ∷ []) a h.behind_hash e) (append_assoc cs (c ∷ []) h.ids) h.items;
}

-- one more item before the rest
pub more_item : (b : ℕ) (i : ItemLine) (s : SettingData) (t : List Row) (a : ℕ) (ws v : List (List ℕ)) (e : Draft) → SpellsItem i ws v → IsListable b t i.name → ItemsRead b s (put_below b (item_in t i.name) (weight_or_one i.weight) t) (a + adjustment t (item_in t i.name) i.weight) v e → ItemsRead b s t a ws e
more_item b i s t a ws v e spelled names h =
    let u : List Row = put_below b (item_in t i.name) (weight_or_one i.weight) t in
    record {
      items = i ∷ h.items;
      rest = h.rest;
      spelled = (v, spelled, h.spelled);
      names = (names, h.names);
      seconds = subst (λ (n : ℕ). SecondsRead s (with_items b h.items u) n h.rest e) (add_assoc a (adjustment t (item_in t i.name) i.weight) (adjusted_items b h.items u)) h.seconds;
    }

-- one more step before the rest
pub more_step : (r : RuleData) (x : StepLine) (s : SettingData) (t : List Row) (a : ℕ) (ws v : List (List ℕ)) (e : Draft) → SpellsStep x ws v → TakesBucket t x → StepsRead (with_step r (step_in t x)) s t a v e → StepsRead r s t a ws e
more_step r x s t a ws v e spelled names h = record {
  steps = x ∷ h.steps;
  rest = h.rest;
  spelled = (v, spelled, h.spelled);
  names = All-cons (TakesBucket t) x h.steps names h.names;
  seconds = subst (λ (l : List StepData). SecondsRead (with_rules s (record r { steps = l } ∷ [])) t a h.rest e) (append_assoc r.steps (step_in t x ∷ []) (map (step_in t) h.steps)) h.seconds;
}

-- the rest has no line of the first part
pub no_firsts : (d : Draft) (ws : List (List ℕ)) (e : Draft) → d.setting.rules ≡ [] → d.adjusted ≡ 0 → SecondsRead d.setting d.table d.adjusted ws e → FirstsRead d.setting.kinds d.setting.tunables d.table ws e
no_firsts d ws e rules count h = record {
  firsts = [];
  more = ws;
  spelled = refl;
  seconds = let P : SettingData × List Row × ℕ → Type 0 = λ x. SecondsRead x.0 x.1 x.2 ws e in
      subst P (λ i. (record { kinds = sym (append-nil d.setting.kinds) i; tunables = sym (append-nil d.setting.tunables) i; rules = rules i }, sym (append-nil d.table) i, count i)) h;
}

-- one more line of the first part before the rest
pub more_first : (d : Draft) (x : First) (ws v : List (List ℕ)) (e : Draft) → SpellsFirst x ws v → Goal first (behind_first d x) v e → d.pending ≡ nothing → d.setting.rules ≡ [] → d.adjusted ≡ 0 → FirstsRead d.setting.kinds d.setting.tunables d.table ws e
more_first d (tunable name n) ws v e spelled k idle rules count =
    let h = k idle rules count in
    let one : List TunableData = first_tunables (tunable name n) in
    record {
      firsts = tunable name n ∷ h.firsts;
      more = h.more;
      spelled = (v, spelled, h.spelled);
      seconds = subst (λ (l : List TunableData). SecondsRead (record { kinds = d.setting.kinds ++ flat_map first_kinds h.firsts; tunables = l; rules = [] }) (d.table ++ flat_map first_rows h.firsts) 0 h.more e) (append_assoc d.setting.tunables one (flat_map first_tunables h.firsts)) h.seconds;
    }
more_first d (kind n name) ws v e spelled k idle rules count =
    let h = k idle rules count in
    let one : List KindData = first_kinds (kind n name) in
    record {
      firsts = kind n name ∷ h.firsts;
      more = h.more;
      spelled = (v, spelled, h.spelled);
      seconds = subst (λ (l : List KindData). SecondsRead (record { kinds = l; tunables = d.setting.tunables ++ flat_map first_tunables h.firsts; rules = [] }) (d.table ++ flat_map first_rows h.firsts) 0 h.more e) (append_assoc d.setting.kinds one (flat_map first_kinds h.firsts)) h.seconds;
    }
more_first d (device n name class) ws v e spelled k idle rules count =
    let h = k idle rules count in
    let one : List Row = first_rows (device n name class) in
    record {
      firsts = device n name class ∷ h.firsts;
      more = h.more;
      spelled = (v, spelled, h.spelled);
      seconds = subst (λ (l : List Row). SecondsRead (record { kinds = d.setting.kinds ++ flat_map first_kinds h.firsts; tunables = d.setting.tunables ++ flat_map first_tunables h.firsts; rules = [] }) l 0 h.more e) (append_assoc d.table one (flat_map first_rows h.firsts)) h.seconds;
    }

-- the word begins no line of the first part
abbrev pub NoFirst : List ℕ → Type 0
NoFirst w = ComesFirst w → ⊥

-- a bucket or a rule, given its first word, if the rest after its first line is read
pub open_second : (late : Bool) (n : ℕ) (d : Draft) (ws v : List (List ℕ)) (e : Draft) (q : Progress) → ((m : Mode) (u : Draft) → Lines n (at m u) v e → Goal m u v e) → d.pending ≡ nothing
    → (w : List ℕ) (us : List (List ℕ)) → ws ≡ w ∷ us → IsRight d (opening late Nothing) w → (late ≡ false → NoFirst w) → Line d (statement d (opened d w)) us v q → Lines n q v e → SecondsRead d.setting d.table d.adjusted ws e
open_second late n d ws v e q rest idle w us head right none l lines = by_it (bytes_eq w (codes "tunable")) (bytes_eq w (codes "device")) (bytes_eq w (codes "type")) (bytes_eq w (codes "rule")) refl refl refl refl l
  where
    -- the first word begins no line of the first part
    out : ComesFirst w → ⊥
    out early = by_late late refl
      where
        by_late : (b : Bool) → late ≡ b → ⊥
        by_late true is = right Unexpected (inr (inr (is, early)))
        by_late false is = none is early

    bucket_read : (k : ℕ) → 0 < kind_of_word d w → kind_of_word d w ≡ k → Line d (bucket_line d k) us v q → SecondsRead d.setting d.table d.adjusted ws e
    bucket_read k some is x =
        let u : Draft = begun_bucket d (kind_of_word d w) x.0 in
        more_bucket w d.setting d.table d.adjusted ws v e x.0 some (head ∙ ap (λ (l : List (List ℕ)). w ∷ l) (cons_is us x.0 x.0 x.1 v x.2 refl x.4.0))
        (rest begun u (along n (at begun u) q v e (ap (λ (y : ℕ). at begun (begun_bucket d y x.0)) is ∙ x.4.1) lines) (kind_of_word d w) x.0 refl)

    rule_read : ws ≡ codes "rule" ∷ us → Line d (rule_line d) us v q → SecondsRead d.setting d.table d.adjusted ws e
    rule_read head x =
        let name = x.0 in
        let key_word = x.4.4.0 in
        let id = x.4.4.4.0 in
        let number = digits_value 10 id in
        let kind_word = x.4.4.4.4.4.0 in
        let behind = x.4.4.4.4.4.1 in
        let sizes_read = read_sizes d name number kind_word behind v q x.4.4.4.4.4.4 in
        let r : RuleData = new_rule name number kind_word sizes_read.0 sizes_read.1 in
        more_rule d.setting d.table d.adjusted ws v e name number kind_word sizes_read.0 sizes_read.1
        (record {
          spelled = λ steps others spelled. record {
            key = key_word;
            id = id;
            behind_type = behind;
            behind_least = sizes_read.2;
            behind_most = v;
            head = head ∙ ap (λ (l : List (List ℕ)). codes "rule" ∷ l) (cons_is us name name x.1 (codes "{" ∷ key_word ∷ id ∷ codes "type" ∷ kind_word ∷ behind) x.2 refl
                (cons_is x.1 x.4.0 (codes "{") x.4.1 (key_word ∷ id ∷ codes "type" ∷ kind_word ∷ behind) x.4.2 (is_for d (key (codes "{")) x.4.0 x.4.3)
                (cons_is x.4.1 key_word key_word x.4.4.1 (id ∷ codes "type" ∷ kind_word ∷ behind) x.4.4.2 refl
                (cons_is x.4.4.1 id id x.4.4.4.1 (codes "type" ∷ kind_word ∷ behind) x.4.4.4.2 refl
                (cons_is x.4.4.4.1 x.4.4.4.4.0 (codes "type") x.4.4.4.4.1 (kind_word ∷ behind) x.4.4.4.4.2 (is_for d (key (codes "type")) x.4.4.4.4.0 x.4.4.4.4.3) x.4.4.4.4.4.2)))));
            id_key = is_for d rule_id_key key_word x.4.4.3;
            number = (not_false _ (x.4.4.4.3 BadNumber), refl);
            min_size = sizes_read.3;
            max_size = sizes_read.4;
            steps = spelled;
          };
        })
        (rest (ruled r) d (along n (at (ruled r) d) q v e sizes_read.5 lines) idle)

    by_it : (a b c f : Bool) → bytes_eq w (codes "tunable") ≡ a → bytes_eq w (codes "device") ≡ b → bytes_eq w (codes "type") ≡ c → bytes_eq w (codes "rule") ≡ f
        → Line d (statement d (cond a statement_kinds.Tunable (cond b statement_kinds.Device (cond c statement_kinds.Type (cond f statement_kinds.Rule (statement_kinds.Bucket (kind_of_word d w))))))) us v q → SecondsRead d.setting d.table d.adjusted ws e
    by_it true b c f ha hb hc hf x = absurd (out (inl (is_word w (codes "tunable") ha)))
    by_it false true c f ha hb hc hf x = absurd (out (inr (inl (is_word w (codes "device") hb))))
    by_it false false true f ha hb hc hf x = absurd (out (inr (inr (is_word w (codes "type") hc))))
    by_it false false false true ha hb hc hf x = rule_read (cons_is ws w (codes "rule") us us head (is_word w (codes "rule") hf) refl) x
    by_it false false false false ha hb hc hf x =
        let known = begins_bucket d late w right ha hb hc hf in
        bucket_read (kind_of_word d w) (ltb-true 0 (kind_of_word d w) (and_parts (nat_lt 0 (kind_of_word d w)) (list_any (λ (y : KindData). y.number == kind_of_word d w) d.setting.kinds) known.1).0) refl x
