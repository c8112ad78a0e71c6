-- How a name is hashed.
use Rattle.std.specs.Prelude.{Option, Some, None, ℕ, List, [], ◌∷◌}
use Rattle.std.specs.RandomState.{initial_hasher}
use Rattle.std.specs.Hash.DefaultHasher as sip
use Rattle.std.specs.declared.hash.DefaultHasher.{DefaultHasher}
use Rattle.std.specs.declared.hash.RandomState.{RandomState}

-- the state in which a hasher begins: the first state of SipHash with these keys, or without keys if none are given
abbrev pub first_state : Option RandomState → DefaultHasher
first_state None = sip.initial
first_state (Some keys) = initial_hasher keys

-- what is written to the hasher: all bytes of the name in one write
abbrev pub at_once : List ℕ → List (List ℕ)
at_once bytes = bytes ∷ []
