use Rattle.crush_units.proofs.id.DeviceId.number.Goals as goal

pub returns-clause-value : goal.returns-clause-value
returns-clause-value c = c.self.view_is
