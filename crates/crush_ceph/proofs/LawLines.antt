-- Each line means the edits of its command, and all lines together mean all edits.
use Rattle.std.proofs.Common.{◌≡◌, ◌<◌, ◌&&◌, not, Bool, true, false, List, [], ◌∷◌, ◌++◌, Option, Some, length, map, refl, sym, ap, ◌∙◌, arith}
use Rattle.std.specs.Prelude.{All, flat_map, if◌then◌else◌, option_and_then, option_map}
use Rattle.std.proofs.lemmas.Grind.{flat_map-append}
use Rattle.std.proofs.lemmas.List.Elements.{All-cons, All-head, All-nil, All-tail}
use Rattle.crush_model.specs.Table.{Row}
use Rattle.crush_edits.specs.declared.edit.Edit.{Edit}
use Rattle.crush_edits.specs.declared.edit.Edit.TheVariants.{Place}
use Rattle.crush_edits.specs.Setting.{SettingData}
use Rattle.crush_ceph.specs.Commands.{command_line, cut, second_joins, with_step}
use Rattle.crush_ceph.specs.ForCeph.{added, edit_for_ceph, leaves_old_name, sets_unplaced, table_after_edit}
use Rattle.crush_ceph.specs.LawCommands.{edits_done, steps_of}
use Rattle.crush_ceph.specs.LawLines.{EachLineMeansItsEdits, IsSaidEdit, IsSaidStep, LineMeansEdits, LinesMeanTheEdits, edits_of_lines}
use Rattle.crush_ceph.specs.Steps.{ceph_steps, first_leaves_old_name, reweight_if}
use Rattle.crush_ceph.specs.declared.steps.CephStep.{CephStep}
use Rattle.crush_ceph.specs.declared.steps.CephStep.TheVariants.{Does, ReweightAll}
use Rattle.crush_ceph.proofs.LawCommands.{commands_do_the_edits}
use Rattle.crush_ceph.proofs.SaidLines.{IsChain, is_said, said_is_meant}

-- what each list of steps is that `cut` gives
record IsCommand (c : List CephStep) : Type 0 where
  some : 0 < length c
  chain : IsChain c
  all : All IsSaidStep c

alone : (step : CephStep) → IsSaidStep step → IsCommand (step ∷ [])
alone step is = record { some = omega arith; chain = tt; all = All-cons IsSaidStep step [] is (All-nil IsSaidStep) }

longer : (step : CephStep) (c : List CephStep) → second_joins (step ∷ c) ≡ true → IsChain c → IsChain (step ∷ c)
longer step [] joined chain = tt
longer step (next ∷ more) joined chain = (joined, chain)

put_first : (step : CephStep) (cs : List (List CephStep)) → IsSaidStep step → All IsCommand cs → All IsCommand (with_step step cs)
put_first step [] is are = All-cons IsCommand (step ∷ []) [] (alone step is) (All-nil IsCommand)
put_first step (c ∷ cs) is are = by_test (second_joins (step ∷ c)) refl where
  first : IsCommand c
  first = All-head IsCommand c cs are

  by_test : (b : Bool) → second_joins (step ∷ c) ≡ b → All IsCommand (if b then (step ∷ c) ∷ cs else (step ∷ []) ∷ c ∷ cs)
  by_test true e =
      All-cons IsCommand (step ∷ c) cs (record { some = omega arith; chain = longer step c e first.chain; all = All-cons IsSaidStep step c is first.all }) (All-tail IsCommand c cs are)
  by_test false e = All-cons IsCommand (step ∷ []) (c ∷ cs) (alone step is) are

commands : (steps : List CephStep) → All IsSaidStep steps → All IsCommand (cut steps)
commands [] all = All-nil IsCommand
commands (step ∷ steps) all = put_first step (cut steps) (All-head IsSaidStep step steps all) (commands steps (All-tail IsSaidStep step steps all))

means : (c : List CephStep) → IsCommand c → LineMeansEdits c
means c is = said_is_meant c (is_said c is.some is.chain is.all)

pub each_line_means_its_edits : EachLineMeansItsEdits
each_line_means_its_edits steps all = λ k d within. means _ (commands steps all k d within)

-- an edit as Ceph is asked to do it has the same names, weight and location
added_is_said : (e : Edit) → IsSaidEdit e → IsSaidEdit (added e)
added_is_said (Place how device name weight at) is = (record { name = is.0.name; device = is.0.device; weight = is.0.weight; at = is.0.at }, tt)
added_is_said e is = is

asked_is_said : (t : List Row) (e : Edit) → IsSaidEdit e → IsSaidEdit (edit_for_ceph t e)
asked_is_said t e is = by_test (sets_unplaced t e) where
  by_test : (b : Bool) → IsSaidEdit (if b then added e else e)
  by_test true = added_is_said e is
  by_test false = is

-- the steps of edits
reweights_are_said : (b : Bool) (steps : List CephStep) → All IsSaidStep steps → All IsSaidStep (reweight_if b ++ steps)
reweights_are_said true steps all = All-cons IsSaidStep ReweightAll steps tt all
reweights_are_said false steps all = all

steps_are_said : (s : SettingData) (t : List Row) (es : List Edit) → All IsSaidEdit es → All IsSaidStep (ceph_steps s t es)
unfolding ceph_steps
steps_are_said s t [] all = All-nil IsSaidStep
steps_are_said s t (e ∷ es) all =
    let after = table_after_edit s t e in
    let is_due = leaves_old_name s t e && not (first_leaves_old_name s after es) in
    All-cons IsSaidStep (Does (edit_for_ceph t e)) (reweight_if is_due ++ ceph_steps s after es) (asked_is_said t e (All-head IsSaidEdit e es all))
    (reweights_are_said is_due (ceph_steps s after es) (steps_are_said s after es (All-tail IsSaidEdit e es all)))

-- the lines of commands, one after the other
edits_of : List (List CephStep) → List Edit
edits_of cs = flat_map (λ (c : List CephStep). flat_map edits_done c) cs

lines_mean : (cs : List (List CephStep)) → All LineMeansEdits cs → edits_of_lines (map command_line cs) ≡ Some (edits_of cs)
unfolding edits_of
lines_mean [] all = refl
lines_mean (c ∷ cs) all =
    let first = All-head LineMeansEdits c cs all in
    let others = lines_mean cs (All-tail LineMeansEdits c cs all) in
    ap (λ (o : Option (List Edit)). option_and_then (λ (es : List Edit). option_map (λ (more : List Edit). es ++ more) (edits_of_lines (map command_line cs))) o) first
    ∙ ap (option_map (λ (more : List Edit). flat_map edits_done c ++ more)) others

all_steps : (cs : List (List CephStep)) → edits_of cs ≡ flat_map edits_done (steps_of cs)
unfolding edits_of
all_steps [] = refl
all_steps (c ∷ cs) = ap (λ (es : List Edit). flat_map edits_done c ++ es) (all_steps cs) ∙ sym (flat_map-append edits_done c (steps_of cs))

pub lines_mean_the_edits : LinesMeanTheEdits
lines_mean_the_edits s t es all =
    let cs = cut (ceph_steps s t es) in
    lines_mean cs (each_line_means_its_edits (ceph_steps s t es) (steps_are_said s t es all)) ∙ ap Some (all_steps cs ∙ commands_do_the_edits s t es)
