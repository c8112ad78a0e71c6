use Rattle.std.proofs.Common.{sym, ◌∙◌, codes}
use Rattle.clap.specs.Words.{found_of}
use Rattle.clap.proofs.WalkLemmas.{first_value-rows}
use Rattle.crush_options.proofs.command_line.output_flags_of.Goals as goal

pub returns : goal.returns
returns c =
    let found = found_of c.args.matches.now in
    record {
      tree = c.is_set.ensures;
      since = sym (c.get_str.ensures ∙ first_value-rows found (codes "since"));
      as_ceph = c.is_set-2.ensures;
      to = sym (c.get_str-2.ensures ∙ first_value-rows found (codes "to"));
      by_name = c.is_set-3.ensures;
      json = c.is_set-4.ensures;
      under = sym (c.get_str-3.ensures ∙ first_value-rows found (codes "under"));
      down_to = sym (c.get_str-4.ensures ∙ first_value-rows found (codes "down-to"));
      class = sym (c.get_str-5.ensures ∙ first_value-rows found (codes "class"));
      exact = c.is_set-5.ensures;
    }
