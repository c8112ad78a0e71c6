-- Which value a chain of links has for a key, and how each call changes the chain.
use Rattle.std.specs.Prelude.{◌≡◌, Bool, Option, Some, None, if◌then◌else◌}
use Rattle.crush_index.specs.declared.chain.Chain.{Chain}
use Rattle.crush_index.specs.declared.chain.Chain.TheVariants.{End, Link'}

-- the value of the first key that passes the test, or None if no key passes it
abbrev pub chain_answer : {K V : Type 0} → (K → Bool) → Chain K V → Option V
chain_answer test End = None
chain_answer test (Link' k v box rest) = if test k then Some v else chain_answer test rest

-- the chain with another value for the first key that passes the test
abbrev pub chain_with : {K V : Type 0} → (K → Bool) → V → Chain K V → Chain K V
chain_with test w End = End
chain_with test w (Link' k v box rest) = if test k then Link' k w box rest else Link' k v box (chain_with test w rest)

-- the chain without all links whose keys pass the test
abbrev pub chain_without : {K V : Type 0} → (K → Bool) → Chain K V → Chain K V
chain_without test End = End
chain_without test (Link' k v box rest) = if test k then chain_without test rest else Link' k v box (chain_without test rest)

-- a link with the key k and the value v was added before the first link: for each test that k passes, the new chain's answer is v; for each other test, the new chain has the old chain's answer
abbrev pub Pushes : {K V : Type 0} → K → V → Chain K V → Chain K V → Type 0
Pushes {K} k v old new =
    (test : K → Bool) → chain_answer test new ≡ (if test k then Some v else chain_answer test old)

-- both chains give the same answer to each test
abbrev pub TellsSame : {K V : Type 0} → Chain K V → Chain K V → Type 0
TellsSame {K} old new = (test : K → Bool) → chain_answer test new ≡ chain_answer test old
