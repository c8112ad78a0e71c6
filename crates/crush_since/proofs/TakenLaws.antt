-- A cached result for a bucket and a class is also right for an equal bucket and an equal class.
use Rattle.std.proofs.Common.{◌≡◌, ◌∙◌, ℕ, Bool, true, List}
use Rattle.std.specs.Prelude.{◌==◌, ◌&&◌, Option}
use Rattle.std.specs.Option.{option_map}
use Rattle.crush_model.specs.Table.{Row}
use Rattle.crush_compare.specs.Equal.{same_text}
use Rattle.crush_compare.specs.declared.identity.Identity.{Identity}
use Rattle.crush_since.specs.Emptied.{is_emptied}
use Rattle.crush_since.specs.TakenSeen.{IsRight}
use Rattle.crush_since.specs.declared.since.taken.Taken.{Taken}
use Rattle.crush_since.proofs.EqualItems.{number_equal, text_equal}
use Rattle.crush_nodes.proofs.StoredLaws.{first_of, second_of}

-- the result for a bucket and a class is right for the same bucket and the same class
pub right_for_same : (identity : Identity) (t u : List Row) (k : Taken) (b : ℕ) (c : Option (List ℕ)) → IsRight identity t u k
    → ((k.bucket == b) && same_text (option_map (λ c. c.now) k.class) c) ≡ true → k.is_emptied ≡ is_emptied identity t u b c
right_for_same identity t u k b c right same =
    let class = option_map (λ c. c.now) k.class in
    right ∙ (λ i. is_emptied identity t u (number_equal k.bucket b (first_of (k.bucket == b) (same_text class c) same) i) (text_equal class c (second_of (k.bucket == b) (same_text class c) same) i))
