use Rattle.std.proofs.Common.{◌∙◌, ◌++◌, List, ℕ, ap}
use Rattle.std.specs.Prelude.{flat_map}
use Rattle.crush_since.specs.Since.{id_line, plain_map}
use Rattle.crush_since.specs.SincePart.{part_ids, since_part_text}
use Rattle.crush_since.proofs.since.part.since_part_text.Goals as goal

pub returns : goal.returns
unfolding since_part_text
returns g c = λ t u a b.
    let ids = part_ids t u c.args.under in
    c.in_ok-push_lines.ensures t u ids (c.in_ok-both.ensures.pairs t u a b).pairs
    ∙ (λ i. c.new-text.result.items ++ flat_map (id_line (plain_map (c.in_ok-both.ensures.old i).setting t) (plain_map (c.in_ok-both.ensures.new i).setting u)) ids)
    ∙ ap (λ (l : List ℕ). l ++ flat_map (id_line (plain_map c.args.old.now.setting t) (plain_map c.args.new.now.setting u)) ids) c.new-text.ensures.items
