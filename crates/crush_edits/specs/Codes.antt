-- Encodings of a setting and of its parts as values of plain types. Decoding the encoding of a value gives this value again.
use Rattle.std.specs.Coded.{Coded, code_by, coded×, coded_ℕ, coded_ℤ, coded_bool, coded_list, coded_option}
use Rattle.std.specs.Prelude.{refl, ◌≡◌, ℕ, ℤ, pos, List, [], Option, None, Bool, false, ◌==◌, if◌then◌else◌}
use Rattle.crush_edits.specs.Setting.{KindData, TunableData, StepData, take, choose, set, emit, RuleData, SettingData}

-- a type is encoded as the pair of its number and its name
abbrev pub coded_kind : Coded KindData
coded_kind = code_by (ℕ × List ℕ) (coded× coded_ℕ (coded_list coded_ℕ)) (λ k. (k.number, k.name)) (λ p. record { number = p.0; name = p.1 }) (λ _. refl)

-- a tunable is encoded as the pair of its name and its value
abbrev pub coded_tunable : Coded TunableData
coded_tunable = code_by (List ℕ × ℕ) (coded× (coded_list coded_ℕ) coded_ℕ) (λ k. (k.name, k.value)) (λ p. record { name = p.0; value = p.1 }) (λ _. refl)

-- the plain type of encoded steps. Its parts are: which of the four variants the step is, a number, a name, a class or none, two flags and a count. A part that a variant doesn't need is 0, empty, none or false
abbrev pub StepParts : Type 0
StepParts = ℕ × (ℕ × (List ℕ × (Option (List ℕ) × (Bool × (Bool × ℤ)))))

-- encodes a step
abbrev pub step_parts : StepData → StepParts
step_parts (take b class) = (0, (b, ([], (class, (false, (false, pos 0))))))
step_parts (choose leaf firstn count kind) = (1, (0, (kind, (None, (leaf, (firstn, count))))))
step_parts (set word value) = (2, (value, (word, (None, (false, (false, pos 0))))))
step_parts emit = (3, (0, ([], (None, (false, (false, pos 0))))))

-- decodes a step
pub parts_step : StepParts → StepData
parts_step p =
    if p.0 == 0 then take p.1.0 p.1.1.1.0
    else (if p.0 == 1 then choose p.1.1.1.1.0 p.1.1.1.1.1.0 p.1.1.1.1.1.1 p.1.1.0
    else (if p.0 == 2 then set p.1.1.0 p.1.0
    else emit))

-- decoding an encoded step gives the step again
pub parts_step-step_parts : (d : StepData) → parts_step (step_parts d) ≡ d
unfolding parts_step
parts_step-step_parts (take b class) = refl
parts_step-step_parts (choose leaf firstn count kind) = refl
parts_step-step_parts (set word value) = refl
parts_step-step_parts emit = refl

-- a step is encoded by its parts
abbrev pub coded_step : Coded StepData
coded_step = code_by StepParts (coded× coded_ℕ (coded× coded_ℕ (coded× (coded_list coded_ℕ) (coded× (coded_option (coded_list coded_ℕ)) (coded× coded_bool (coded× coded_bool coded_ℤ)))))) step_parts parts_step parts_step-step_parts

-- a rule is encoded as the tuple of its fields
abbrev pub coded_rule : Coded RuleData
coded_rule =
    code_by (List ℕ × (ℕ × (List ℕ × (Option ℕ × (Option ℕ × List StepData)))))
    (coded× (coded_list coded_ℕ) (coded× coded_ℕ (coded× (coded_list coded_ℕ) (coded× (coded_option coded_ℕ) (coded× (coded_option coded_ℕ) (coded_list coded_step))))))
    (λ r. (r.name, (r.id, (r.kind, (r.min_size, (r.max_size, r.steps)))))) (λ p. record { name = p.0; id = p.1.0; kind = p.1.1.0; min_size = p.1.1.1.0; max_size = p.1.1.1.1.0; steps = p.1.1.1.1.1 }) (λ _. refl)

-- a setting is encoded as the tuple of its types, tunables and rules
abbrev pub coded_setting : Coded SettingData
coded_setting =
    code_by (List KindData × (List TunableData × List RuleData)) (coded× (coded_list coded_kind) (coded× (coded_list coded_tunable) (coded_list coded_rule)))
    (λ s. (s.kinds, (s.tunables, s.rules))) (λ p. record { kinds = p.0; tunables = p.1.0; rules = p.1.1 }) (λ _. refl)
