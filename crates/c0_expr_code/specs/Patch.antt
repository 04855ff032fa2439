-- Branches that get their distance when the code that they lead to stands.
use Rattle.std.specs.Prelude.{ℕ, ◌+◌, ◌-◌, ◌*◌, ◌/◌, ◌%◌, ◌^◌}

-- the distance of a branch at a word to another word, modulo 2 ^ 16
abbrev pub distance : (at to : ℕ) → ℕ
distance at to = (2 ^ 64 + to - (at + 1)) % 2 ^ 16

-- a word whose lower half is another
abbrev pub aimed : (word far : ℕ) → ℕ
aimed word far = word / 2 ^ 16 * 2 ^ 16 + far
