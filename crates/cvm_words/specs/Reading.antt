-- Readings of what may be faulty: steps one after another, with the first fault that is met, and what a call's result says of the answer
-- that is due. A reading takes no memory, a call does.
use Rattle.std.specs.Prelude.{◌≡◌, ◌⊎◌, Result, Ok, Err, MatchResult}

-- a step, and then another by its value
infixl 10 ◌>>=◌
abbrev pub ◌>>=◌ : {A B F : Type 0} → Result A F → (A → Result B F) → Result B F
(Ok x) >>= f = f x
(Err e) >>= f = Err e

-- a step's result, seen by view, is what reading gives
abbrev pub Comes : {X Y F : Type 0} → (X → Y) → Result X F → Result Y F → Type 0
Comes view (Ok x) read = read ≡ Ok (view x)
Comes view (Err e) read = read ≡ Err e

-- a result, seen by view, is the answer, or it is this fault, which is want of memory
abbrev pub GivesUnless : {X Y F : Type 0} → (memory : F) → (X → Y) → Result X F → Result Y F → Type 0
GivesUnless memory view (Ok x) answer = answer ≡ Ok (view x)
GivesUnless memory view (Err f) answer = (f ≡ memory) ⊎ (answer ≡ Err f)

-- the same, but memory is wanted only once there is no fault: a fault that is due is the result
abbrev pub GivesOkUnless : {X F : Type 0} → (memory : F) → Result X F → Result X F → Type 0
GivesOkUnless memory result (Ok x) = MatchResult result (λ y. y ≡ x) (λ e. e ≡ memory)
GivesOkUnless memory result (Err fault) = result ≡ Err fault
