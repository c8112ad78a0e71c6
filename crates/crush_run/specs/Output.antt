-- What a run writes about the map after its scripts, as text for a person or as a JSON document for a program.
use Rattle.std.specs.Prelude.{◌≡◌, ℕ, List, [], ◌++◌, Bool, true, false, Option, Some, None, Result, Ok, Err, if◌then◌else◌}
use Rattle.std.specs.Io.KnownBytes.{Appends, Keeps}
use Rattle.crush_units.specs.Writes.{AppendsLess}
use Rattle.crush_units.specs.declared.write.WriteFault.{WriteFault}
use Rattle.crush_units.specs.declared.write.WriteFault.TheVariants as write
use Rattle.serde_json.specs.Data.{Data}
use Rattle.crush_units.specs.declared.id.ItemId.{ItemId}
use Rattle.crush_model.specs.Forest.{rows_of}
use Rattle.crush_model.specs.Table.{Row}
use Rattle.crush_edits.specs.Setting.{SettingData}
use Rattle.crush_history.specs.History.{EntryData}
use Rattle.crush_history.specs.HistoryText.{entries_text}
use Rattle.crush_print.specs.MapText.{map_text}
use Rattle.crush_print.specs.declared.weight_form.WeightForm.{WeightForm}
use Rattle.crush_print.specs.declared.weight_form.WeightForm.TheVariants.{Rounded, Exact}
use Rattle.crush_since.specs.ChangePart.{changes_part_text}
use Rattle.crush_since.specs.ClassChanges.{class_changes_text}
use Rattle.crush_since.specs.Since.{PlainMap, plain_map, since_text}
use Rattle.crush_since.specs.SincePart.{since_part_text}
use Rattle.crush_since.specs.SinceNames.{since_names_part, since_names_text}
use Rattle.crush_print.specs.ClassTree.{class_tree_text}
use Rattle.crush_print.specs.TreePart.{part_steps, tree_part_text}
use Rattle.crush_print.specs.declared.part.TreePart.{TreePart}
use Rattle.crush_reasons.specs.Ceph.{ceph_text}
use Rattle.crush_plan.specs.Plan.{PlanData}
use Rattle.crush_json.specs.Document.{document, document_of_tree, document_text}
use Rattle.crush_json.specs.HistoryDocument.{history_document}
use Rattle.crush_json.specs.MapDocument.{map_document}
use Rattle.crush_json.specs.PlanDocument.{plan_document, plan_document_text}
use Rattle.crush_json.specs.SinceDocument.{document_of_since, since_document}
use Rattle.crush_json.specs.TreeDocument.{tree_document}
use Rattle.crush_options.specs.declared.parsed_options.Mode.{Mode}
use Rattle.crush_input.specs.declared.output.Output.{Output}
use Rattle.crush_input.specs.declared.output.Output.TheVariants as output
use Rattle.crush_input.specs.declared.fault.RunFault.{RunFault}
use Rattle.crush_input.specs.declared.fault.RunFault.TheVariants as run
use Rattle.crush_input.specs.Options.{name_text}
use Rattle.crush_run.specs.Found.{named_item, part_of}
use Rattle.crush_run.specs.Planned.{text_of_plan}

-- the lines of a history, one for each entry, if they are requested; otherwise nothing
abbrev pub lines_if_requested : Bool → List (List ℕ) → List EntryData → List ℕ
lines_if_requested history names h = if history then entries_text names 1 h else []

-- the text of what has changed between two maps, with items matched by id: of all items, or of the part below one item
abbrev pub changed_by_id : Option ItemId → PlainMap → PlainMap → List ℕ
changed_by_id None old new = since_text old new
changed_by_id (Some i) old new = since_part_text i old new

-- the text of what has changed between two maps, with items matched by name: of all items, or of the part below the item of a name
abbrev pub changed_by_name : Option (List ℕ) → PlainMap → PlainMap → List ℕ
changed_by_name None old new = since_names_text old new
changed_by_name (Some name) old new = since_names_part (Some name) old new

-- WHAT HAS CHANGED between two maps. The first argument says whether items are matched by name. If a name is given, then only the part below the item with this name is written. If items are matched by id, this item is the one that has the name in the new map.
abbrev pub changed_text : Bool → Option (List ℕ) → PlainMap → PlainMap → List ℕ
changed_text false under old new = changed_by_id (named_item new.table under) old new
changed_text true under old new = changed_by_name under old new

-- the text of a part of a tree. If a class is given, only the devices of the class are printed and counted
abbrev pub tree_text_of : Option (List ℕ) → SettingData → TreePart → List Row → List ℕ
tree_text_of None s p t = tree_part_text s p t
tree_text_of (Some c) s p t = class_tree_text s p c t

-- the text of a part of a tree of what has changed between two maps. If a class is given, only the devices of this class count
abbrev pub changed_tree_text : Option (List ℕ) → TreePart → PlainMap → PlainMap → List ℕ
changed_tree_text None part old new = changes_part_text part old new
changed_tree_text (Some c) part old new = class_changes_text part c old new

-- the form in which weights are printed in the map's text: exact if this form is selected, otherwise rounded
abbrev pub form_of : Bool → WeightForm
form_of exact = if exact then Exact else Rounded

-- the selected output of a map that has the setting s, and that has the table t after the history h; o is the table before h. The output is the map's text with weights in this form,
-- the map's tree, what has changed in the map since another map (in lines or as a tree), the commands that changed the map, or a plan from the map to a wanted map.
abbrev pub main_text : WeightForm → Output → PlanData → SettingData → List Row → List Row → List EntryData → List ℕ
main_text form output.Map plan s o t h = map_text form s t
main_text form (output.Tree words) plan s o t h = tree_text_of (name_text words.class) s (part_of words s t) t
main_text form (output.Since old) plan s o t h = changed_text old.by_name (name_text old.under) (plain_map old.map.setting (rows_of old.map.forest)) (plain_map s t)
main_text form (output.Changes old) plan s o t h = changed_tree_text (name_text old.part.class) (part_of old.part s t) (plain_map old.map.setting (rows_of old.map.forest)) (plain_map s t)
main_text form output.AsCeph plan s o t h = ceph_text s o h
main_text form (output.To target) plan s o t h = text_of_plan target.as_ceph s t plan

-- FOR A PERSON: the selected output, followed by the lines of the history if they are selected
abbrev pub person_text : WeightForm → Bool → Output → PlanData → SettingData → List Row → List Row → List (List ℕ) → List EntryData → List ℕ
person_text form history what plan s o t names h = main_text form what plan s o t h ++ lines_if_requested history names h

-- the history as a JSON value, if it is selected
abbrev pub history_if_requested : Bool → List (List ℕ) → List EntryData → Option Data
history_if_requested history names h = if history then Some (history_document names h) else None

-- the document of what has changed between two maps: of all items, or of the part below one item. Items are always matched by id in a document. No command line asks for a document of changes in which items are matched by name.
abbrev pub since_program_text : Option Data → Option ItemId → PlainMap → PlainMap → List ℕ
since_program_text history under old new = document_text (document_of_since history (since_document under old new))

-- FOR A PROGRAM: one document, which contains the history if it is selected. A tree of changes has the same document as a list of changes.
-- The tree of a class has the same document as the tree of all devices, but no command line asks for the document of a class.
-- Ceph's own commands have no document, and are written as for a person.
abbrev pub program_text : Bool → Output → PlanData → SettingData → List Row → List Row → List (List ℕ) → List EntryData → List ℕ
program_text history output.Map plan s o t names h = document_text (document (history_if_requested history names h) (map_document s t))
program_text history (output.Tree words) plan s o t names h = document_text (document_of_tree (history_if_requested history names h) (tree_document s t (part_steps (part_of words s t) t)))
program_text history (output.Since old) plan s o t names h = since_program_text (history_if_requested history names h) (named_item t (name_text old.under)) (plain_map old.map.setting (rows_of old.map.forest)) (plain_map s t)
program_text history (output.Changes old) plan s o t names h = since_program_text (history_if_requested history names h) (named_item t (name_text old.part.under)) (plain_map old.map.setting (rows_of old.map.forest)) (plain_map s t)
program_text history (output.To target) plan s o t names h = plan_document_text (plan_document (history_if_requested history names h) plan.edits plan.rest plan.aside.ids plan.aside.class_ids)
program_text history output.AsCeph plan s o t names h = person_text Rounded history output.AsCeph plan s o t names h

-- OUTPUT: everything that a successful run writes
abbrev pub written_text : Mode → Output → PlanData → SettingData → List Row → List Row → List (List ℕ) → List EntryData → List ℕ
written_text mode what plan s o t names h = if mode.json then program_text mode.history what plan s o t names h else person_text (form_of mode.exact) mode.history what plan s o t names h

-- WRITTEN: what the writer has received from a run with this result. After success, the writer has received exactly the text. After a failed write, it has received a proper prefix of the text. After any other fault, it has received nothing.
abbrev pub IsWritten : {X : Type 0} → Result X RunFault → Option (List ℕ) → Option (List ℕ) → List ℕ → Type 0
IsWritten (Ok x) old new text = Appends old new text
IsWritten (Err run.Write) old new text = AppendsLess old new text
IsWritten (Err fault) old new text = Keeps old new

-- what the writer has received from one write within a run. After success, it has received the whole text. After a failed write, it has received a proper prefix of the text. If memory ran out, it has received nothing.
abbrev pub IsPut : {X : Type 0} → Result X WriteFault → Option (List ℕ) → Option (List ℕ) → List ℕ → Type 0
IsPut (Ok x) old new text = Appends old new text
IsPut (Err write.Write) old new text = AppendsLess old new text
IsPut (Err write.OutOfMemory) old new text = Keeps old new
