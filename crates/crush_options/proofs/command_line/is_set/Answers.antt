use Rattle.std.proofs.Common.{◌∙◌}
use Rattle.clap.specs.Words.{found_of}
use Rattle.clap.proofs.WalkLemmas.{one_text-rows}
use Rattle.crush_options.proofs.command_line.is_set.Goals as goal

pub returns : goal.returns
returns c =
    let is = one_text-rows (found_of c.args.matches.now) c.args.name.now in
    record {
      given = λ h. c.get_flag.ensures.value (is ∙ h);
      absent = λ h. c.get_flag.ensures.other (is ∙ h);
      none = λ h. c.get_flag.ensures.none (is ∙ h);
    }
