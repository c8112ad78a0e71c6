-- What the rest of the text begins with is what the lexer returns.
use Rattle.std.proofs.Common.{◌∙◌, sym, subst, ap, inl, inr}
use Rattle.crush_units.specs.Words.{IsClear}
use Rattle.crush_units.specs.Lexer.{left}
use Rattle.crush_units.proofs.Split.{taken, next_brace, next_word, next_bad, next_end}
use Rattle.crush_units.proofs.Forms.{first_is_formed}
use Rattle.crush_units.proofs.words.Lexer.next.Goals as goal
use Rattle.crush_units.proofs.words.Lexer.next.Goals.{then-len-eq0-via-then-len-eq0, then-len-eq0-via-else-len-eq0+then-len-gt-LONGEST_NAME}

pub returns-then-is_brace : goal.returns-then-is_brace
returns-then-is_brace c =
    let is = taken c.args.self.now.text.now c.args.self.now.place c.skip_blanks-place.result 1 c.split_at.result.1.now c.split_at-then-is_brace.result.0.now c.skip_blanks-place.ensures.same c.split_at.ensures.back c.split_at-then-is_brace.ensures.front
    (next_brace _ _ c.in-len1-up.len_at_least (subst IsClear (sym c.split_at.ensures.back) c.skip_blanks-place.ensures.clear) (sym c.is_brace.ensures ∙ c.if-is_brace.true)) in
    record { nexts = is; formed = first_is_formed _ _ _ _ _ is }

pub returns-else-len-gt-LONGEST_NAME : goal.returns-else-len-gt-LONGEST_NAME
returns-else-len-gt-LONGEST_NAME c =
    let is = taken c.args.self.now.text.now c.args.self.now.place c.skip_blanks-place.result c.run_length-len.result c.split_at.result.1.now c.split_at-in-len1-up.result.0.now c.skip_blanks-place.ensures.same c.split_at.ensures.back c.split_at-in-len1-up.ensures.front
    (next_word _ _ _ c.in-len1-up.len_at_least c.run_length-len.ensures.count c.if-len-eq0.false c.if-len-gt-LONGEST_NAME.false) in
    record { nexts = is; formed = first_is_formed _ _ _ _ _ is }

pub returns-in-empty-clause-nexts : goal.returns-in-empty-clause-nexts
returns-in-empty-clause-nexts c = (next_end c.args.self.now.text.now c.args.self.now.place c.skip_blanks-place.result c.split_at.result.1.now c.skip_blanks-place.ensures.same c.split_at.ensures.back c.in-empty.len_below, c.skip_blanks-place.ensures.same)

pub returns-then-len-eq0-clause-nexts : goal.returns-then-len-eq0-clause-nexts
returns-then-len-eq0-clause-nexts c =
    let clear = subst IsClear (sym c.split_at.ensures.back) c.skip_blanks-place.ensures.clear in
    let bad = next_bad c.args.self.now.text.now c.args.self.now.place c.skip_blanks-place.result c.run_length-len.result c.split_at.result.1.now c.skip_blanks-place.ensures.same c.split_at.ensures.back c.in-len1-up.len_at_least clear (sym c.is_brace.ensures ∙ c.if-is_brace.false) c.run_length-len.ensures.count c.run_length-len.ensures.within in
    elim c.then-len-eq0.branch [
      | then-len-eq0-via-then-len-eq0 w ↦ (bad (inl w.if-len-eq0.true), ap left w.self-is ∙ c.skip_blanks-place.ensures.same)
      | then-len-eq0-via-else-len-eq0+then-len-gt-LONGEST_NAME w ↦ (bad (inr w.if-len-gt-LONGEST_NAME.true), ap left w.self-is ∙ c.skip_blanks-place.ensures.same)
    ]
