use Rattle.std.proofs.Common.{◌∙◌, sym, subst}
use Rattle.crush_units.specs.Name.{IsName}
use Rattle.crush_units.proofs.id.DeviceId.osd_name.Goals as goal

pub invariant_of-result : goal.invariant_of-result
invariant_of-result g c = subst IsName (sym (c.new.ensures ∙ c.write_osd_name-len.ensures.text)) c.write_osd_name-len.ensures.name
