-- Reading an item with a weight, and an item without a weight.
use Rattle.std.proofs.Common.{rules, Ok, Err, ◌∙◌, Bool, sym, ap}
use Rattle.std.specs.Prelude.{if◌then◌else◌}
use Rattle.crush_units.specs.Words.{past}
use Rattle.std.proofs.lemmas.Result.{err_from_is_err_and}
use Rattle.crush_text.proofs.MemoryAlone.{light_unwritten}
use Rattle.crush_text.proofs.Weighed.{item_err, item_fault, weighed_reads, lone_reads}
use Rattle.crush_text.proofs.Refused.{no_line}
use Rattle.crush_text.proofs.reader.MapReader.item.Goals as goal

pub returns-in_err-name : goal.returns-in_err-name
returns-in_err-name g c =
    let p = err_from_is_err_and c.from_residual.result c.from_residual.ensures.1 in
    rw (p.1, p.2) (no_line _ _ _ _ _ (λ d h.
    (item_err d _ _ c.in_err-name.ensures.gives)))

pub returns-in_err-item : goal.returns-in_err-item
returns-in_err-item g c =
    let p = err_from_is_err_and c.from_residual-in_err-item.result c.from_residual-in_err-item.ensures.1 in
    rw (p.1, p.2) (no_line _ _ _ _ _ (λ d h.
    (item_fault d _ _ _ _ c.in_ok-name.ensures.gives (c.in_err-item.ensures.gives d h))))

pub returns-then-take_key : goal.returns-then-take_key
returns-then-take_key g c = record {
  reads = λ d h.
      weighed_reads d _ _ _ _ _ (Ok tt) _ _ c.in_ok-name.ensures.gives (sym c.if-take_key.true ∙ c.take_key.ensures.answer) (c.take_key.ensures.rest ∙ ap (λ (b : Bool). if b then past c.next_word.new.reader else c.next_word.new.reader) c.if-take_key.true) (c.in_ok-item.ensures.gives d h) (c.in_ok-weight.ensures.reads d h);
  stands = c.in_ok-weight.ensures.stands;
  shorter = search rules;
}

pub returns-in_err-weight : goal.returns-in_err-weight
returns-in_err-weight g c =
    let p = err_from_is_err_and c.from_residual-in_err-weight.result c.from_residual-in_err-weight.ensures.1 in
    rw (p.1, p.2) (no_line _ _ _ _ _ (λ d h.
    weighed_reads d _ _ _ _ _ (Err _) c.weight.new.self.builder c.weight.new.self.text c.in_ok-name.ensures.gives (sym c.if-take_key.true ∙ c.take_key.ensures.answer) (c.take_key.ensures.rest ∙ ap (λ (b : Bool). if b then past c.next_word.new.reader else c.next_word.new.reader) c.if-take_key.true) (c.in_ok-item.ensures.gives d h) (c.in_err-weight.ensures.reads d h)))

pub returns : goal.returns
returns g c = record {
  reads = λ d h.
      lone_reads d _ _ _ _ _ (Ok tt) _ c.in_ok-name.ensures.gives (sym c.if-take_key.false ∙ c.take_key.ensures.answer) (c.take_key.ensures.rest ∙ ap (λ (b : Bool). if b then past c.next_word.new.reader else c.next_word.new.reader) c.if-take_key.false) (c.in_ok-item.ensures.gives d h) (c.in_ok-add_item.ensures.adds d h);
  stands = c.in_ok-add_item.ensures.filling;
  shorter = search rules;
}

pub returns-in_err-add_item : goal.returns-in_err-add_item
returns-in_err-add_item g c =
    let p = err_from_is_err_and c.from_residual-in_err-add_item.result c.from_residual-in_err-add_item.ensures.1 in
    rw (p.1, p.2) (no_line _ _ _ _ _ (λ d h.
    lone_reads d _ _ _ _ _ (Err _) c.add_item.new.builder c.in_ok-name.ensures.gives (sym c.if-take_key.false ∙ c.take_key.ensures.answer) (c.take_key.ensures.rest ∙ ap (λ (b : Bool). if b then past c.next_word.new.reader else c.next_word.new.reader) c.if-take_key.false) (c.in_ok-item.ensures.gives d h) (c.in_err-add_item.ensures.adds d h)))

pub add_item-requires-clause-light : goal.add_item-requires-clause-light
add_item-requires-clause-light g c = light_unwritten c.in_ok-item.item
