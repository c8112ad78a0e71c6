use Rattle.crush_builder.proofs.builder.MapBuilder.end.Goals as goal

pub returns : goal.returns
returns g c = λ d at. c.give_back.ensures _ (c.close.ensures d at)
