-- The setting and the table that the text means are those of the map that was read. The contracts of the map's methods refer to this setting and this table.
use Rattle.std.proofs.Common.{◌≡◌, ap, subst, ◌∙◌, Err}
use Rattle.std.specs.Io.KnownBytes.{Appends}
use Rattle.crush_edits.specs.declared.refusal.EditFault.TheVariants.{Refused}
use Rattle.crush_edits.specs.Answer.{done, refused}
use Rattle.crush_edits.specs.Edit.{edit}
use Rattle.crush_print.specs.MapText.{map_text}
use Rattle.crush_print.specs.declared.weight_form.WeightForm.TheVariants.{Rounded}
use Rattle.crush_one_edit.proofs.edit_text.Goals as goal

pub returns-in-Err-apply-clause-refused : goal.returns-in-Err-apply-clause-refused
returns-in-Err-apply-clause-refused g c r is s t n text =
    let stands = (c.in-Ok.ensures.spelled s t n text).0 in
    let told : c.in-Err-apply.fault ≡ Refused r = cc in
    subst (λ z. edit z t c.args.asked.now ≡ refused r) stands.setting (c.in-Err-apply.ensures.refused r (ap Err told) t stands.forest)

pub returns-in-Ok-write_map-clause-done : goal.returns-in-Ok-write_map-clause-done
returns-in-Ok-write_map-clause-done g c s t n text =
    let stands = (c.in-Ok.ensures.spelled s t n text).0 in
    let d = c.in-Ok-apply.done in
    let made = c.in-Ok-apply.ensures.done t stands.forest in (
      made.0,
      subst (λ z. edit z t c.args.asked.now ≡ done d.changed d.made made.0) stands.setting made.1,
      subst (λ z. Appends (g.W.Write.contents c.args.out.now) (g.W.Write.contents c.write_map.new.out) (map_text Rounded z made.0)) (c.in-Ok-apply.ensures.setting ∙ stands.setting) (c.in-Ok-write_map.ensures.writes made.0 made.2),
    )
