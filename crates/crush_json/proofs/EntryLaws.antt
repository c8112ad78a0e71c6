-- The entries of a history that grows by one entry.
use Rattle.std.proofs.Common.{◌≡◌, ℕ, ◌+◌, ◌<◌, List, [], ◌∷◌, ◌++◌, length, get_or, take, refl, sym, ap, ◌∙◌, append-nil, arith}
use Rattle.std.specs.Prelude.{slice_index_or}
use Rattle.std.proofs.lemmas.List.{take_more, length-take-le}
use Rattle.std.proofs.lemmas.List.Concat.{flat_map-append}
use Rattle.json.specs.Token.{Token}
use Rattle.serde_json.specs.Data.{Data}
use Rattle.crush_history.specs.History.{EntryData}
use Rattle.crush_json.specs.HistoryDocument.{entry_document, entry_documents}
use Rattle.crush_json.specs.Tokens.{tokens_of, tokens_of_all}

entries-push : (names : List (List ℕ)) (n : ℕ) (h : List EntryData) (e : EntryData)
    → entry_documents names n (h ++ e ∷ []) ≡ entry_documents names n h ++ entry_document (n + length h) (slice_index_or names e.operator []) e ∷ []
unfolding entry_documents
entries-push names n [] e = ap (λ m. entry_document m (slice_index_or names e.operator []) e ∷ []) (omega arith)
entries-push names n (f ∷ h) e =
    ap (λ (l : List Data). entry_document n (slice_index_or names f.operator []) f ∷ l)
    (entries-push names (n + 1) h e ∙ ap (λ m. entry_documents names (n + 1) h ++ entry_document m (slice_index_or names e.operator []) e ∷ []) (omega arith))

-- the tokens of the entries before an index, followed by those of the entry at this index
pub entries-more : (names : List (List ℕ)) (h : List EntryData) (i : ℕ) (e : EntryData) → i < length h → e ≡ get_or h i e
    → tokens_of_all (entry_documents names 1 (take (i + 1) h)) ≡ tokens_of_all (entry_documents names 1 (take i h)) ++ tokens_of (entry_document (i + 1) (slice_index_or names e.operator []) e)
entries-more names h i e lt is =
    let long : length (take i h) ≡ i = length-take-le i h (omega arith) in
    ap (λ l. tokens_of_all (entry_documents names 1 l)) (take_more h i e lt ∙ ap (λ y. take i h ++ y ∷ []) (sym is))
    ∙ ap tokens_of_all (entries-push names 1 (take i h) e)
    ∙ flat_map-append tokens_of (entry_documents names 1 (take i h)) _
    ∙ ap (λ (l : List Token). tokens_of_all (entry_documents names 1 (take i h)) ++ l) (append-nil _)
    ∙ ap (λ m. tokens_of_all (entry_documents names 1 (take i h)) ++ tokens_of (entry_document m (slice_index_or names e.operator []) e)) (omega (arith, long))

-- a history without entries has no tokens of entries
pub no_entries : (names : List (List ℕ)) → ◌≡◌ {A = List Token} [] (tokens_of_all (entry_documents names 1 []))
unfolding entry_documents
no_entries names = refl
