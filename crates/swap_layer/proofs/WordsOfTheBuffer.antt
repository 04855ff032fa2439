-- The words of the disk's buffer, and where the words of a place end.
use Rattle.std.proofs.Common.{◌≡◌, ℕ, ◌+◌, ◌-◌, ◌<◌, ◌≤◌, ◌&&◌, ◌||◌, not, true, nat_lt, ap, ap₂, ◌∙◌, ⊎_elim, arith, lt-ltb, le-ltb}
use Rattle.std.specs.Prelude.{◌==◌}
use Rattle.std.proofs.lemmas.Bool.{cond-true, cond-false}
use Rattle.mips_table.specs.Device.{BUFFER, SECTOR, is_buffer}
use Rattle.mips_table.specs.Code.{World, Sound, filled}
use Rattle.masm.specs.Says.{is_disk_word}
use Rattle.swap_layer.specs.Laws.{IsFrameOrBuffer}

-- a word of the buffer
pub buffer_is : (x : ℕ) → BUFFER ≤ x → x < SECTOR → is_buffer x ≡ true
buffer_is x le lt = ap₂ (λ a b. not a && b) (le-ltb x BUFFER le) (lt-ltb x SECTOR lt)

pub disk_is : (x : ℕ) → BUFFER ≤ x → x < SECTOR → is_disk_word x ≡ true
disk_is x le lt = ap (λ b. b || x == SECTOR) (buffer_is x le lt)

-- the buffer's words, once it is filled, and the words below it
pub in_buffer : (g m : ℕ → ℕ) (k : ℕ) → k < 1024 → filled m g (BUFFER + k) ≡ g k
in_buffer g m k lt =
    let e : BUFFER + k - BUFFER ≡ k = omega arith in
    cond-true (is_buffer (BUFFER + k)) _ (m (BUFFER + k)) (buffer_is (BUFFER + k) (omega arith) (omega arith)) ∙ ap g e

pub elsewhere : (g m : ℕ → ℕ) (x : ℕ) → x < BUFFER → filled m g x ≡ m x
elsewhere g m x lt = cond-false (is_buffer x) _ (m x) (ap (λ a. not a && nat_lt x SECTOR) (lt-ltb x BUFFER lt))

-- the last of a place's words lies below the sector register
pub place_top : (w : World) → Sound w → (a : ℕ) → IsFrameOrBuffer w a → a + 1023 < SECTOR
place_top w f a p = let s = f.small in ⊎_elim (λ h. omega arith) (λ h. omega arith) p
