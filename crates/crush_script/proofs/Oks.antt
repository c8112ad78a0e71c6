-- Properties of the value in an Ok, after several steps and tests.
use Rattle.std.proofs.Common.{◌≡◌, Bool, true, false, cond, Result, Ok, Err, refl, subst}
use Rattle.std.specs.Prelude.{IfOk}
use Rattle.crush_text.specs.Flow.{◌>>=◌}

-- if a property is true after the first step, and leads to a property after the second step, then the latter is true after both steps
pub bind-if_ok_at : {A B F : Type 0} (r : Result A F) (f : A → Result B F) (P : B → Type 0) (Q : A → Type 0) → IfOk r Q → ((x : A) → Q x → IfOk (f x) P) → IfOk (r >>= f) P
bind-if_ok_at (Ok x) f P Q q h = h x q
bind-if_ok_at (Err e) f P Q q h = tt

pub bind-if_ok : {A B F : Type 0} (r : Result A F) (f : A → Result B F) (P : B → Type 0) → ((x : A) → IfOk (f x) P) → IfOk (r >>= f) P
bind-if_ok (Ok x) f P h = h x
bind-if_ok (Err e) f P h = tt

-- a property of two results is a property of the one that a test chooses
pub if_ok-either : {A F : Type 0} (r q : Result A F) (b : Bool) (P : A → Type 0) → IfOk r P → IfOk q P → IfOk (cond b r q) P
if_ok-either r q true P h k = h
if_ok-either r q false P h k = k

-- a property of a result is also true if a test comes before it, which may fail with an error
pub if_ok-then : {A F : Type 0} (r : Result A F) (e : F) (b : Bool) (P : A → Type 0) → IfOk r P → IfOk (cond b r (Err e)) P
if_ok-then r e true P h = h
if_ok-then r e false P h = tt

pub if_ok-else : {A F : Type 0} (e : F) (r : Result A F) (b : Bool) (P : A → Type 0) → IfOk r P → IfOk (cond b (Err e) r) P
if_ok-else e r true P h = tt
if_ok-else e r false P h = h

pub if_ok-not : {A F : Type 0} (e : F) (r : Result A F) (b : Bool) (P : A → Type 0) → (b ≡ false → IfOk r P) → IfOk (cond b (Err e) r) P
if_ok-not e r true P h = tt
if_ok-not e r false P h = h refl

-- a property of a value that is returned only if a test is passed
pub if_ok-passed : {A F : Type 0} (x : A) (e : F) (b : Bool) (P : A → Type 0) → (b ≡ true → P x) → IfOk (cond b (Ok x) (Err e)) P
if_ok-passed x e true P h = h refl
if_ok-passed x e false P h = tt

-- a property of an Ok is a property of its value
pub if_ok-at : {A F : Type 0} (r : Result A F) (x : A) (P : A → Type 0) → r ≡ Ok x → IfOk r P → P x
if_ok-at r x P e h = subst (λ q. IfOk q P) e h
