-- Where a block stands, and that a run of its words alone stays among them.
use Rattle.std.specs.Prelude.{◌≡◌, ℕ, ◌+◌, ◌<◌, ◌≤◌, ◌==◌, if◌then◌else◌, List, [], ◌∷◌, length, All, Option, Some, None}
use Rattle.mips_table.specs.declared.inst.Inst.{Inst}
use Rattle.mips_table.specs.Encoding.{InRange}
use Rattle.mips_table.specs.Code.{World, CodeState, code_run, Steps, CodeAt}
use Rattle.masm.specs.Laws.{IsPartOfCode, with_code}

-- the block at n, and no other code
abbrev pub only_block_at : ℕ → List Inst → ℕ → Option Inst
only_block_at n [] k = None
only_block_at n (i ∷ is) k = if k == n then Some i else only_block_at (n + 1) is k

-- the run of this block alone
abbrev pub alone : World → ℕ → List Inst → World
alone w n is = with_code w (only_block_at n is)

-- Alone the block stands where it stands in the whole code, of which it is a part, and its instructions in range are so there. In a run of it alone each
-- instruction is one of the block's: it is left at the run's end, and nowhere else.
pub record BlockStands (n : ℕ) (is : List Inst) : Type 0 where
  pub part : (w : World) → CodeAt w n is → IsPartOfCode (only_block_at n is) w.code
  pub stands : (w : World) → CodeAt (alone w n is) n is
  pub inside : (k : ℕ) (i : Inst) → only_block_at n is k ≡ Some i → (n ≤ k) × (k < n + length is)
  pub range : All InRange is → (k : ℕ) (i : Inst) → only_block_at n is k ≡ Some i → InRange i
  pub stays : (w : World) (m j : ℕ) (s t : CodeState) → Steps (alone w n is) m s t → j < m → (n ≤ (code_run (alone w n is) s j).at)
      × ((code_run (alone w n is) s j).at < n + length is)
