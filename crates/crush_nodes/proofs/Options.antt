-- Options and tests.
use Rattle.std.proofs.Common.{◌≡◌, Bool, true, false, refl}
use Rattle.std.specs.Prelude.{Option, Some, None, is_some, if◌then◌else◌}
use Rattle.std.specs.Option.{option_map, option_or}

pub is_some-map : {X Y : Type 0} (f : X → Y) (o : Option X) → is_some (option_map f o) ≡ is_some o
is_some-map f None = refl
is_some-map f (Some x) = refl

pub none_of : {X : Type 0} (o : Option X) → is_some o ≡ false → o ≡ None
none_of None h = refl
none_of (Some x) h = cc

pub option_or-found : {X : Type 0} (o p : Option X) → is_some o ≡ true → option_or o p ≡ o
option_or-found None p h = cc
option_or-found (Some x) p h = refl

pub option_or-none : {X : Type 0} (o : Option X) → option_or o None ≡ o
option_or-none None = refl
option_or-none (Some x) = refl

pub option_or-assoc : {X : Type 0} (o p q : Option X) → option_or (option_or o p) q ≡ option_or o (option_or p q)
option_or-assoc None p q = refl
option_or-assoc (Some x) p q = refl

pub option_map-or : {X Y : Type 0} (f : X → Y) (o p : Option X) → option_map f (option_or o p) ≡ option_or (option_map f o) (option_map f p)
option_map-or f None p = refl
option_map-or f (Some x) p = refl

pub option_map-if : {X Y : Type 0} (f : X → Y) (b : Bool) (x : X) (o : Option X) → option_map f (if b then Some x else o) ≡ (if b then Some (f x) else option_map f o)
option_map-if f true x o = refl
option_map-if f false x o = refl

pub option_or-if : {X : Type 0} (b : Bool) (x : X) (o p : Option X) → option_or (if b then Some x else o) p ≡ (if b then Some x else option_or o p)
option_or-if true x o p = refl
option_or-if false x o p = refl
