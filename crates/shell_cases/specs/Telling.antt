-- What a disk that may be altered tells.
use Rattle.std.specs.Prelude.{◌≡◌, ℕ, List, length, Option, Some, None, IfSome, refl}

-- the sectors, unless there is an alteration
abbrev pub told_unless : {X : Type 0} → Option X → List (List ℕ) → Option (List (List ℕ))
told_unless None sectors = Some sectors
told_unless (Some x) sectors = None

-- where they are told, they are as many
pub told_size : {X : Type 0} → (alteration : Option X) (sectors : List (List ℕ)) → IfSome (told_unless alteration sectors) (λ ss. length ss ≡ length sectors)
told_size None sectors = refl
told_size (Some x) sectors = tt
