use Rattle.std.proofs.Common.{ap, sym, ◌∙◌, codes}
use Rattle.clap.specs.Words.{first_of, found_of, rows_of}
use Rattle.clap.proofs.WalkLemmas.{first_value-rows}
use Rattle.crush_options.proofs.verb_words.verb_words_of.Goals as goal

pub returns : goal.returns
returns c =
    let found = found_of c.args.matches.now in
    record {
      dry_run = c.is_set.ensures;
      make = c.is_set-2.ensures;
      last_wins = c.is_set-3.ensures;
      tree = c.is_set-4.ensures;
      json = c.is_set-5.ensures;
      by_name = c.is_set-6.ensures;
      as_ceph = c.is_set-7.ensures;
      strict = c.is_set-8.ensures;
      exit_code = c.is_set-9.ensures;
      under = sym (c.get_str.ensures ∙ first_value-rows found (codes "under"));
      down_to = sym (c.get_str-2.ensures ∙ first_value-rows found (codes "down-to"));
      class = sym (c.get_str-3.ensures ∙ first_value-rows found (codes "class"));
      output = sym (c.get_str-4.ensures ∙ first_value-rows found (codes "output"));
      map = ap (λ name. first_of name (rows_of found)) (sym c.map_argument.ensures) ∙ sym (c.get_str-5.ensures ∙ first_value-rows found c.map_argument.result.now);
      other = ap (λ name. first_of name (rows_of found)) (sym c.other_argument.ensures) ∙ sym (c.get_str-6.ensures ∙ first_value-rows found c.other_argument.result.now);
      scripts = sym c.scripts_of.ensures;
    }
