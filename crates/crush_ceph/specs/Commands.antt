-- Which steps one command of Ceph does, and the line of this command. A step is an edit, or `reweight-all`.
use Rattle.std.specs.Prelude.{ℕ, List, [], ◌∷◌, ◌++◌, Bool, true, false, bytes_eq, codes, flat_map, if◌then◌else◌}
use Rattle.std.specs.List.{list_any}
use Rattle.crush_edits.specs.declared.edit.Edit.{Edit}
use Rattle.crush_edits.specs.declared.edit.Edit.TheVariants.{Move, AddBucket, SetClass, RemoveClass}
use Rattle.crush_history.specs.Ceph.{ceph_line, has_dash}
use Rattle.crush_edits.specs.EditText.{edit_text, pairs_text}
use Rattle.crush_ceph.specs.declared.steps.CephStep.{CephStep}
use Rattle.crush_ceph.specs.declared.steps.CephStep.TheVariants.{Does, ReweightAll}

-- whether the edit moves the item of this name
abbrev pub moves : List ℕ → Edit → Bool
moves n (Move m at) = bytes_eq n m
moves n e = false

-- whether the edit takes the class away from a device
abbrev pub takes_class_away : Edit → Bool
takes_class_away (RemoveClass n) = true
takes_class_away e = false

-- whether the edit gives this class to a device
abbrev pub gives_class : List ℕ → Edit → Bool
gives_class c (SetClass n d) = bytes_eq c d
gives_class c e = false

-- whether one command may do both edits, the first edit before the second. There are three cases: an `add-bucket` and the `move` of the same bucket, two edits `rm-device-class`, and two edits `set-device-class` with the same class. The devices of two edits may be the same device or different devices
abbrev pub edits_join : Edit → Edit → Bool
edits_join (AddBucket n kind) f = moves n f
edits_join (RemoveClass n) f = takes_class_away f
edits_join (SetClass n c) f = gives_class c f
edits_join e f = false

-- whether one command may do an edit and the step after it. No command does `reweight-all` together with another step
abbrev pub joins_edit : Edit → CephStep → Bool
joins_edit e (Does f) = edits_join e f
joins_edit e ReweightAll = false

-- whether one command may do both steps, the first step before the second
abbrev pub joins : CephStep → CephStep → Bool
joins (Does e) step = joins_edit e step
joins ReweightAll step = false

-- whether there are at least two steps, and one command may do the first two of them
abbrev pub second_joins : List CephStep → Bool
second_joins [] = false
second_joins (step ∷ []) = false
second_joins (step ∷ next ∷ more) = joins step next

-- puts a step before the steps of commands. If one command may do both this step and the first step of the first command, then this step becomes the first step of that command. Otherwise this step becomes a new command, which is before all others
abbrev pub with_step : CephStep → List (List CephStep) → List (List CephStep)
with_step step [] = (step ∷ []) ∷ []
with_step step (c ∷ cs) = if second_joins (step ∷ c) then (step ∷ c) ∷ cs else (step ∷ []) ∷ c ∷ cs

-- CUT: the commands into which the steps are divided, in the same order. Each command is given as the list of the steps that it does
abbrev pub cut : List CephStep → List (List CephStep)
cut [] = []
cut (step ∷ steps) = with_step step (cut steps)

-- whether the step is an edit that has a word, after its first word, that begins with `-`. Ceph would read such a word as an option
abbrev pub has_option : CephStep → Bool
has_option (Does e) = has_dash e
has_option ReweightAll = false

-- the line of a command that does only this step
abbrev pub step_line : CephStep → List ℕ
step_line (Does e) = ceph_line e
step_line ReweightAll = codes "ceph osd crush reweight-all\n"

-- the words that the first step gives to the line of a command with several steps. `reweight-all` is never such a step
abbrev pub first_words : CephStep → List ℕ
first_words (Does e) = edit_text e
first_words ReweightAll = []

-- the words that an edit adds to the line of a command that also does the previous edit. Each of these words follows a space
abbrev pub words_added : Edit → List ℕ
words_added (Move n at) = pairs_text at
words_added (RemoveClass n) = codes " " ++ n
words_added (SetClass n c) = codes " " ++ n
words_added e = []

-- the words that a step adds to the line of a command that also does the previous step. `reweight-all` is never such a step
abbrev pub more_words : CephStep → List ℕ
more_words (Does e) = words_added e
more_words ReweightAll = []

-- the beginning of the line of a command with several steps, up to the space before the command. This beginning has `--` if the command has a word that Ceph would otherwise read as an option
abbrev pub joined_head : List CephStep → List ℕ
joined_head c = if list_any has_option c then codes "ceph osd crush -- " else codes "ceph osd crush "

-- the line of a command with several steps
abbrev pub joined_line : CephStep → List CephStep → List ℕ
joined_line first more = joined_head (first ∷ more) ++ (first_words first ++ (flat_map more_words more ++ codes "\n"))

-- COMMAND LINE: the line for a shell of the command that does these steps; nothing if there is no step
abbrev pub command_line : List CephStep → List ℕ
command_line [] = []
command_line (step ∷ []) = step_line step
command_line (first ∷ next ∷ more) = joined_line first (next ∷ more)
