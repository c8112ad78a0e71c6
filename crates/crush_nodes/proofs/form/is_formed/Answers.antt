use Rattle.std.proofs.Common.{◌≡◌, ℕ, ◌<◌, ◌≤◌, Bool, true, false, length, map, ap, sym, subst, ◌∙◌, refl, arith}
use Rattle.std.specs.Bool.{OnTrue}
use Rattle.std.specs.Prelude.{◌&&◌, All, bytes_eq, nat_lt, nat_le}
use Rattle.std.proofs.lemmas.Bool.Decides.{nat_tests}
use Rattle.std.proofs.lemmas.List.{length-map}
use Rattle.crush_units.specs.declared.limits.TheConstants.{MOST_CLASS_IDS}
use Rattle.crush_model.specs.Items.{ShadowData, HeaderData}
use Rattle.crush_model.specs.Lawful.{IsShadowId}
use Rattle.crush_model.specs.Tested.{are_apart}
use Rattle.crush_nodes.specs.Attachable.{is_formed, shadow_classes}
use Rattle.crush_nodes.specs.Seen.{shadow_data, header_data}
use Rattle.crush_nodes.proofs.form.is_formed.Goals as goal

is_above : (a b : ℕ) → a < b → nat_le b a ≡ false
is_above a b lt = grind (arith, nat_tests)

is_at_most : (a b : ℕ) → b ≤ a → nat_le b a ≡ true
is_at_most a b le = grind (arith, nat_tests)

is_some : (n : ℕ) → (n ≡ 0 → ⊥) → nat_lt 0 n ≡ true
is_some n some = grind (arith, nat_tests)

second_off : (a b c : Bool) → b ≡ false → false ≡ (a && (b && c))
second_off true b c off = sym (ap (λ z. z && c) off)
second_off false b c off = refl

holds_anyway : {P : Type 0} (b : Bool) → P → OnTrue b P
holds_anyway true p = p
holds_anyway false p = tt

-- the three cases of a bucket: it has no type, it has too many class ids, or neither
untyped : (h : HeaderData) → h.kind ≡ 0 → false ≡ is_formed h
untyped h e = sym (ap (λ k. nat_lt 0 k && (nat_le (length h.class_ids) MOST_CLASS_IDS && are_apart (λ a b. bytes_eq b a) (map (λ (c : ShadowData). c.class) h.class_ids))) e)

too_many : (h : HeaderData) → MOST_CLASS_IDS < length h.class_ids → false ≡ is_formed h
too_many h lt = second_off (nat_lt 0 h.kind) (nat_le (length h.class_ids) MOST_CLASS_IDS) (are_apart (λ a b. bytes_eq b a) (map (λ (c : ShadowData). c.class) h.class_ids)) (is_above MOST_CLASS_IDS (length h.class_ids) lt)

as_classes : (h : HeaderData) → (h.kind ≡ 0 → ⊥) → length h.class_ids ≤ MOST_CLASS_IDS → are_apart (λ a b. bytes_eq b a) (map (λ (c : ShadowData). c.class) h.class_ids) ≡ is_formed h
as_classes h some le = λ j. sym (is_some h.kind some) j && (sym (is_at_most MOST_CLASS_IDS (length h.class_ids) le) j && are_apart (λ a b. bytes_eq b a) (map (λ (c : ShadowData). c.class) h.class_ids))

pub returns-then-number-eq0-clause-tested : goal.returns-then-number-eq0-clause-tested
returns-then-number-eq0-clause-tested g c = untyped (header_data c.args.header.now) (sym c.number.ensures.value ∙ c.if-number-eq0.true)

pub returns-then-class_ids-gt-MOST_CLASS_IDS-clause-tested : goal.returns-then-class_ids-gt-MOST_CLASS_IDS-clause-tested
returns-then-class_ids-gt-MOST_CLASS_IDS-clause-tested g c =
    let h = c.args.header.now in
    too_many (header_data h) (omega (arith, c.if-class_ids-gt-MOST_CLASS_IDS.true, ap length c.as_slice-class_ids.ensures.value, length-map h.class_ids.items shadow_data))

pub returns-clause-tested : goal.returns-clause-tested
returns-clause-tested g c =
    let h = c.args.header.now in
    let few : length (map shadow_data h.class_ids.items) ≤ MOST_CLASS_IDS = omega (arith, c.if-class_ids-gt-MOST_CLASS_IDS.false, ap length c.as_slice-class_ids.ensures.value, length-map h.class_ids.items shadow_data) in
    c.have_distinct_classes.ensures ∙ ap (λ zs. are_apart (λ a b. bytes_eq b a) (shadow_classes zs)) c.as_slice-class_ids.ensures.value
    ∙ as_classes (header_data h) (λ e. c.if-number-eq0.false (c.number.ensures.value ∙ e)) few

pub returns-clause-typed : goal.returns-clause-typed
returns-clause-typed g c = holds_anyway c.have_distinct_classes.result (record {
  some = c.distance-distance.ensures.some;
  most = omega (arith, c.distance-distance.ensures.range);
  kind = omega (arith, c.number.ensures.range);
  name = c.as_bytes-bytes.ensures.name;
  class_ids = subst (λ zs. All IsShadowId (map shadow_data zs)) c.as_slice-class_ids.ensures.value c.recall_shadow_ids.ensures;
})
