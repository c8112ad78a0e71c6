-- The words with which the lines of a section begin, and the forms of these lines.
use Rattle.std.specs.Prelude.{ℕ, List, Option, Some, codes, bytes_eq, if◌then◌else◌}
use Rattle.std.specs.Option.{option_map}
use Rattle.crush_edits.specs.Keyword.{keyword_of, keyword_form}
use Rattle.crush_script.specs.declared.keyword.Form.{Form}
use Rattle.crush_script.specs.declared.keyword.Form.TheVariants as form

-- the meaning of the first word of a line of a section, or `None` if no such line may begin with this word
unfoldable pub form_of : List ℕ → Option Form
form_of first =
    if bytes_eq first (codes "%operator") then Some form.Operator
    else if bytes_eq first (codes "begin") then Some form.Begin
    else if bytes_eq first (codes "commit") then Some form.Commit
    else option_map form.Edit (keyword_of first)

-- this form as text. For a line that begins with `begin`, this is the longer of its two forms
abbrev pub form_text : Form → List ℕ
form_text form.Operator = codes "%operator NAME"
form_text form.Begin = codes "begin at N"
form_text form.Commit = codes "commit"
form_text (form.Edit keyword) = keyword_form keyword
