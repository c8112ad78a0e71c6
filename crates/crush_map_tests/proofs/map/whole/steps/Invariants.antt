use Rattle.std.specs.Prelude.{All}
use Rattle.crush_builder.specs.Rules.{IsStepForm}
use Rattle.crush_map_tests.proofs.map.whole.steps.Given as goal

-- all steps that were made so far have the form `IsStepForm`
abbrev pub invariant-loop-said : goal.invariant-loop-said
invariant-loop-said g l = All IsStepForm l.made.items
