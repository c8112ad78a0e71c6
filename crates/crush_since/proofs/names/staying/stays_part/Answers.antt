use Rattle.std.proofs.Common.{◌++◌, ap, ◌∙◌}
use Rattle.std.specs.Option.{option_map}
use Rattle.crush_since.specs.Since.{plain_map}
use Rattle.crush_since.specs.Stays.{line_texts, settings_beside, stay_lines, stays_part}
use Rattle.crush_since.proofs.names.staying.stays_part.Goals as goal

pub returns : goal.returns
unfolding stays_part
returns g c = λ t u a b.
    let old = plain_map c.args.map.now.setting t in
    let new = plain_map c.args.wanted.now.setting u in
    let under = option_map (λ n. n.now) c.args.under in
    c.in_ok-push_beside.ensures t u a b
    ∙ (λ i. (c.in_ok-push_lines.ensures t u a b ∙ ap (λ l. line_texts l ++ stay_lines under old new) c.new-lines.ensures.items) i ++ settings_beside under old new)
