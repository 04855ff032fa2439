-- Words are moved, by masm's law of the loop that copies, and the address of a user's word is found.
use Rattle.std.proofs.Common.{◌≡◌, ℕ, ◌+◌, ◌*◌, ◌/◌, ◌%◌, ◌^◌, ◌<◌, [], ◌∷◌, refl, ap, arith}
use Rattle.mips_table.specs.Device.{Idle}
use Rattle.mips_table.specs.Code.{Contents, Behind, World}
use Rattle.mips_table.proofs.NumbersInHalves.{const_is}
use Rattle.cvm_primitives.specs.Routines.{RoutineLaws}
use Rattle.masm.specs.Says.{Gives, Reads}
use Rattle.masm.specs.Laws.{From}
use Rattle.cvm_primitives.proofs.BlocksFromOneState.{from_straight, from_later}
use Rattle.page_model.specs.TableLayout.{TableLayout}
use Rattle.frame_table.specs.View.{Sited}
use Rattle.cvm_primitives.proofs.PartStates.{Keeps, Moved, Located}
use Rattle.masm.specs.Copy.{copy_code, MayCopy, IsCopied}
use Rattle.cvm_primitives.specs.Code.{locate_code}

module _ (w : World) (f : RoutineLaws w) (a b n : ℕ) (c0 : Contents) (d0 : Behind) (asked : MayCopy w a b n c0 d0) where
  kept : (c : Contents) → IsCopied a b n c0 c → Keeps c0 c
  kept c k = record {
    r13 = k.regs 13 (omega arith) (omega arith) (omega arith) (omega arith);
    r14 = k.regs 14 (omega arith) (omega arith) (omega arith) (omega arith);
    r15 = k.regs 15 (omega arith) (omega arith) (omega arith) (omega arith);
    r16 = k.regs 16 (omega arith) (omega arith) (omega arith) (omega arith);
    r26 = k.regs 26 (omega arith) (omega arith) (omega arith) (omega arith);
    r27 = k.regs 27 (omega arith) (omega arith) (omega arith) (omega arith);
    r28 = k.regs 28 (omega arith) (omega arith) (omega arith) (omega arith);
    r29 = k.regs 29 (omega arith) (omega arith) (omega arith) (omega arith);
    r30 = k.regs 30 (omega arith) (omega arith) (omega arith) (omega arith);
    r31 = k.regs 31 (omega arith) (omega arith) (omega arith) (omega arith);
    special = k.special;
  }

  pub moves : From w copy_code (7 * n + 1) c0 d0 (Moved a b n c0 d0)
  moves = from_later w f copy_code (7 * n + 1) (7 * n + 1) c0 d0 (λ c d. IsCopied a b n c0 c × (d ≡ d0)) (Moved a b n c0 d0) (omega arith)
      (λ c d k. record { words = k.0.words; others = k.0.others; keeps = kept c k.0; disk = k.1 })
      (f.copies a b n c0 d0 asked)

module _ (w : World) (f : RoutineLaws w) (p : TableLayout) (b : ℕ) (si : Sited p w) where
  -- register x holds the word's number; i moves it to 8
  pub locate_from : (z : ℕ) (c : Contents) (d : Behind) → c.regs 8 ≡ z → z < 1024 * p.layout.pages → c.memory (p.tables + z / 1024) < 2 ^ 32 → d.pending ≡ Idle → From w (locate_code p) 11 c d (Located p z c d)
  locate_from z c d at lt small idle =
      let low = si.low in let first = si.first in let second = si.second in let third = si.third in let words = f.small in let pages = si.pages in
      from_straight w f (locate_code p) (Gives (4 * p.tables / 65536 * 2 ^ 16) ∷ Gives (4 * p.tables) ∷ Gives (z / 1024) ∷ Gives (4 * (z / 1024)) ∷ Gives (4 * (p.tables + z / 1024)) ∷ Reads (p.tables + z / 1024) (c.memory (p.tables + z / 1024)) ∷ Gives (c.memory (p.tables + z / 1024) / 4096) ∷ Gives (4096 * (c.memory (p.tables + z / 1024) / 4096)) ∷ Gives (z * 2 ^ 22 % 2 ^ 32) ∷ Gives (4 * (z % 1024)) ∷ Gives (4 * (1024 * (c.memory (p.tables + z / 1024) / 4096) + z % 1024)) ∷ []) c d (Located p z c d) refl idle
      (λ n. (
        (refl, (const_is (4 * p.tables), (ap (λ y. y / 2 ^ 10) at, (omega arith, (omega arith, ((omega arith, omega arith, refl), (refl, (omega arith, (ap (λ y. y * 2 ^ 22 % 2 ^ 32) at, (omega arith, (omega arith, tt))))))))))),
        record { address = refl; r1 = refl; memory = refl; keeps = record { r13 = refl; r14 = refl; r15 = refl; r16 = refl; r26 = refl; r27 = refl; r28 = refl; r29 = refl; r30 = refl; r31 = refl; special = refl }; disk = refl },
      ))
