-- A number is its two halves put together, and a small one is itself where a half is extended by its sign.
use Rattle.std.proofs.Common.{◌≡◌, ℕ, ◌+◌, ◌-◌, ◌*◌, ◌/◌, ◌%◌, ◌^◌, ◌<◌, nat_lt, bit_or, ◌∙◌, arith, lt-ltb}
use Rattle.std.proofs.lemmas.Bool.{cond-true}
use Rattle.std.proofs.lemmas.Nat.{or_shifted}
use Rattle.mips_table.specs.Arith.{extended}

pub const_is : (v : ℕ) → bit_or (v / 65536 * 2 ^ 16) (v % 65536) ≡ v
const_is v = or_shifted (v / 65536) 16 (v % 65536) (omega arith) ∙ omega arith

pub small_is : (v : ℕ) → v < 32768 → extended v ≡ v
small_is v lt = cond-true (nat_lt v (2 ^ 15)) v (v + (2 ^ 32 - 2 ^ 16)) (lt-ltb v (2 ^ 15) lt)
