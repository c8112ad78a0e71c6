use Rattle.crush_script.proofs.Cuts.{behind_last, behind_feed}
use Rattle.crush_script.proofs.line.cut_line.Goals as goal

pub returns-in-empty-clause-cut : goal.returns-in-empty-clause-cut
returns-in-empty-clause-cut c =
    rw (c.split_at.ensures.front, c.place_of.ensures.place) (behind_last c.args.text.now c.split_at.result.1.now c.requires (rw (← c.place_of.ensures.place) c.split_at.ensures.back) c.in-empty.len_below)

pub returns-in-len1-up-clause-cut : goal.returns-in-len1-up-clause-cut
returns-in-len1-up-clause-cut c =
    rw (c.split_at.ensures.front, c.place_of.ensures.place) (behind_feed c.args.text.now c.split_at.result.1.now c.requires (rw (← c.place_of.ensures.place) c.split_at.ensures.back))
