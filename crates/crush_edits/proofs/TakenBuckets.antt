-- The set of the buckets that rules take, which is kept beside the rules.
use Rattle.std.proofs.Common.{◌≡◌, ℕ, Bool, true, false, List, [], ◌∷◌, ◌++◌, ◌||◌, append-nil, refl, ap, sym, ◌∙◌}
use Rattle.std.proofs.Math.Bool.{or_assoc}
use Rattle.std.proofs.lemmas.Grind.{flat_map-append}
use Rattle.std.specs.BTreeMap.{is_at}
use Rattle.std.specs.BTreeSet.{BTreeSet, contains}
use Rattle.std.specs.List.{AllZip, list_any, each_same}
use Rattle.std.specs.Ordering.{nat_cmp}
use Rattle.std.specs.Prelude.{flat_map, map, ◌==◌}
use Rattle.crush_model.specs.Table.{member}
use Rattle.crush_edits.specs.Setting.{RuleData, bucket_taken, taken_by}
use Rattle.crush_edits.specs.SettingSeen.{step_data, rule_data, takes_bucket}
use Rattle.crush_edits.specs.RulesTold.{AreTakenBy, ComeAsTaken}
use Rattle.crush_edits.specs.declared.setting.KeptRule.{KeptRule}
use Rattle.crush_edits.specs.declared.setting.KeptStep.{KeptStep}
use Rattle.crush_edits.specs.declared.setting.KeptStep.TheVariants.{Take, Choose, Set, Emit}

-- whether a number is in two lists together, or among the buckets that steps take
member-++ : (b : ℕ) (xs ys : List ℕ) → member b (xs ++ ys) ≡ member b xs || member b ys
member-++ b [] ys = refl
member-++ b (x ∷ xs) ys = ap (λ z. (x == b) || z) (member-++ b xs ys) ∙ sym (or_assoc (x == b) (member b xs) (member b ys))

or-false : (x : Bool) → x || false ≡ x
or-false true = refl
or-false false = refl

step_taken : (b : ℕ) (x : KeptStep) → takes_bucket b x ≡ member b (bucket_taken (step_data x))
step_taken b (Take taken class) = sym (or-false (taken == b))
step_taken b (Choose leaf firstn count kind) = refl
step_taken b (Set word value) = refl
step_taken b Emit = refl

steps_taken : (b : ℕ) (xs : List KeptStep) → list_any (takes_bucket b) xs ≡ member b (flat_map bucket_taken (map step_data xs))
steps_taken b [] = refl
steps_taken b (x ∷ xs) = ap (λ z. z || list_any (takes_bucket b) xs) (step_taken b x) ∙ ap (λ z. member b (bucket_taken (step_data x)) || z) (steps_taken b xs) ∙ sym (member-++ b (bucket_taken (step_data x)) (flat_map bucket_taken (map step_data xs)))

-- one rule more
taken_by-push : (rules : List RuleData) (r : RuleData) → taken_by (rules ++ r ∷ []) ≡ taken_by rules ++ flat_map bucket_taken r.steps
taken_by-push rules r =
    flat_map-append (λ (x : RuleData). flat_map bucket_taken x.steps) rules (r ∷ []) ∙ ap (λ z. taken_by rules ++ z) (append-nil (flat_map bucket_taken r.steps))

pub taken_pushed : (old new : BTreeSet ℕ) (rules : List RuleData) (r : KeptRule) → AreTakenBy rules old → ComeAsTaken r.steps.items old new → AreTakenBy (rules ++ rule_data r ∷ []) new
taken_pushed old new rules r taken come b =
    come b ∙ (λ j. taken b j || steps_taken b r.steps.items j) ∙ sym (member-++ b (taken_by rules) (flat_map bucket_taken (map step_data r.steps.items)))
    ∙ ap (member b) (sym (taken_by-push rules (rule_data r)))

-- a copy of the set has the same buckets
pub taken_copied : (old new : BTreeSet ℕ) → AllZip (λ x y. y ≡ x) old.keys new.keys → (b : ℕ) → contains nat_cmp new b ≡ contains nat_cmp old b
taken_copied old new h b = ap (list_any (is_at (nat_cmp b))) (each_same old.keys new.keys h)
