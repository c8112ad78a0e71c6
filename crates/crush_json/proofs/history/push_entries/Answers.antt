use Rattle.std.proofs.Common.{ℕ, ◌+◌, List, ◌++◌, ap, sym, ◌∙◌, append-nil, take}
use Rattle.json.specs.Token.{Token}
use Rattle.crush_history.specs.HistoryText.{names_of}
use Rattle.crush_history.specs.Script.{scripts_data}
use Rattle.crush_json.specs.HistoryDocument.{entry_document, entry_documents}
use Rattle.crush_json.specs.Tokens.{tokens_of, tokens_of_all}
use Rattle.crush_json.proofs.EntryLaws.{entries-more, no_entries}
use Rattle.crush_json.proofs.Listed.{one_more}
use Rattle.crush_json.proofs.history.push_entries.Goals as goal

pub loop-place-init : goal.loop-place-init
loop-place-init c = sym (append-nil c.args.out.now) ∙ ap (λ (l : List Token). c.args.out.now ++ l) (no_entries (names_of (scripts_data c.args.history.scripts.now)))

pub loop-place-preserved : goal.loop-place-preserved
loop-place-preserved c =
    let names : List (List ℕ) = names_of (scripts_data c.args.history.scripts.now) in
    let place = c.loop-place.place in
    let e = c.index-entries-place.result in
    one_more _ _ _ _ _ _ c.loop-place.invariant c.in_ok-push_entry.ensures
    (entries-more names c.args.history.entries.now place e c.loop-place-test.true c.index-entries-place.is
    ∙ ap (λ name. tokens_of_all (entry_documents names 1 (take place c.args.history.entries.now)) ++ tokens_of (entry_document (place + 1) name e)) (sym c.operator_name-operator.ensures))
