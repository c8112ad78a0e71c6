-- The text of a plan.
use Rattle.std.specs.Prelude.{ℕ, ◌==◌, Bool, true, List, [], ◌∷◌, ◌++◌, if◌then◌else◌, codes, decimal, flat_map, length}
use Rattle.crush_model.specs.Table.{Row}
use Rattle.crush_edits.specs.declared.edit.Edit.{Edit}
use Rattle.crush_edits.specs.EditText.{edit_text}
use Rattle.crush_edits.specs.Setting.{SettingData}
use Rattle.crush_history.specs.Ceph.{ceph_heading}
use Rattle.crush_ceph.specs.CephText.{ceph_text}
use Rattle.crush_since.specs.Aside.{aside_text}
use Rattle.crush_since.specs.Stays.{text_of_lines}
use Rattle.crush_plan.specs.Plan.{PlanData}

-- an edit as a line of a script
abbrev pub script_line : Edit → List ℕ
script_line e = edit_text e ++ codes "\n"

-- `commented`: the bytes of a text, with `# ` before each line. The argument `at_head` says whether the first byte is the first of a line. `mark` is the text before a single byte: `# ` if the byte is the first of a line, and otherwise nothing
abbrev pub mark : Bool → List ℕ
mark at_head = if at_head then codes "# " else []

abbrev pub commented : Bool → List ℕ → List ℕ
commented at_head [] = []
commented at_head (b ∷ bs) = mark at_head ++ b ∷ commented (b == 10) bs

-- `stay_heading`: the line that says how many differences remain. `stay_text`: this line, and a comment line for each difference. If no differences remain, `stay_text` is empty
unfoldable pub stay_heading : ℕ → List ℕ
stay_heading count = codes "# " ++ decimal count ++ codes " differences stay\n"

abbrev pub stay_text : List (List ℕ) → List ℕ
stay_text [] = []
stay_text (line ∷ lines) = stay_heading (length (line ∷ lines)) ++ commented true (text_of_lines (line ∷ lines))

-- the lines that follow the edits: the differences that remain, and the numbers of buckets whose ids differ
abbrev pub tail_text : PlanData → List ℕ
tail_text plan = stay_text plan.rest ++ commented true (aside_text plan.aside)

-- PLAN TEXT as a script: a line with the number of edits, a line for each edit, and the lines of `tail_text`
unfoldable pub plan_text : PlanData → List ℕ
plan_text plan = ceph_heading (length plan.edits) ++ flat_map script_line plan.edits ++ tail_text plan

-- PLAN TEXT for Ceph: the commands of Ceph that make the edits, and the lines of `tail_text`. Here t is the table from which the plan starts
unfoldable pub ceph_plan_text : SettingData → List Row → PlanData → List ℕ
ceph_plan_text s t plan = ceph_text s t plan.edits ++ tail_text plan
