-- No spelling so far stands at the front.
use Rattle.std.proofs.Common.{◌≡◌, ◌==◌, find, drop}
use Rattle.std.specs.List.{starts_with}
use Rattle.c0_tokens.proofs.spelling.first_front.Given as goal

abbrev pub invariant-loop-spelling : goal.invariant-loop-spelling
invariant-loop-spelling l =
    find (λ s. starts_with (λ a b. a == b) l.text s.text.now) (drop l.spelling-index l.spellings) ≡ find (λ s. starts_with (λ a b. a == b) l.text s.text.now) l.spellings
