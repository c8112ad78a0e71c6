use Rattle.crush_text.proofs.adjusted.Adjusted.count.Goals as goal

pub returns : goal.returns
returns c = c.self.view_is
