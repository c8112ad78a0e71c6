use Rattle.std.proofs.Common.{◌∙◌, codes}
use Rattle.std.proofs.lemmas.Result.{IfOk-weaker}
use Rattle.clap.specs.Words.{found_of}
use Rattle.clap.proofs.WalkLemmas.{first_value-rows}
use Rattle.crush_options.proofs.command_line.output_of.Goals as goal

pub returns : goal.returns
returns c =
    IfOk-weaker c.copy_of.result _ _ (λ copy is. is ∙ c.get_str.ensures ∙ first_value-rows (found_of c.args.matches.now) (codes "output")) c.copy_of.ensures
