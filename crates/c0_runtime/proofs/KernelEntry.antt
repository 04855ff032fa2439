-- The entry of a kernel.
use Rattle.std.proofs.Common.{◌≡◌, ℕ, ◌+◌, ◌*◌, ◌/◌, ◌^◌, ◌<◌, ◌≤◌, [], ◌∷◌, refl, ◌∙◌, arith}
use Rattle.mips_table.specs.declared.inst.Inst.TheVariants.{Lui}
use Rattle.mips_table.specs.Device.{Idle}
use Rattle.mips_table.specs.Code.{put, Contents, Behind, World, at_with, Reaches, CodeAt}
use Rattle.mips_table.proofs.PutsChangeOneWord.{put_other}
use Rattle.masm.specs.Says.{Gives, Reads}
use Rattle.masm.specs.Laws.{StraightRuns}
use Rattle.c0_runtime.specs.Code.{startup_code, behind_first}
use Rattle.layer_map.specs.declared.entries.TheConstants.{LEAVE}
use Rattle.c0_runtime.specs.Laws.{RoutineReturns, StackIs, IsEntered, with_half, EntryRuns}
use Rattle.c0_runtime.proofs.RoutineSteps.{moved}
use Rattle.c0_runtime.proofs.HiAndLoAnswer.{halves}

-- the contents behind the entry
abbrev ready : (globals first stack : ℕ) → Contents → Contents
ready globals first stack c = record c {
  regs = put (put (put (put (put c.regs 28 (globals / 2 ^ 16 * 2 ^ 16)) 28 globals) 29 (4 * first)) 30 (4 * (first + stack))) 31 LEAVE;
}

-- a register below 28 is none of these
below : (m : ℕ → ℕ) (a v r : ℕ) → 28 ≤ a → r < 28 → put m a v r ≡ m r
below m a v r le lt = put_other m a v r (λ e. absurd (omega (arith, e, le, lt)))

module _ (w : World) (straight : StraightRuns w) where
  begins : (n globals : ℕ) (c : Contents) (d : Behind) → CodeAt w n (startup_code globals) → d.pending ≡ Idle → Reaches w 1 (at_with n c d)
      (at_with (n + 1) (with_half globals c) d)
  begins n globals c d at idle = straight.next (Lui 28 (globals / 2 ^ 16)) (Gives (globals / 2 ^ 16 * 2 ^ 16)) n c d at.0 refl idle refl

  enters : (n globals first stack : ℕ) (c : Contents) (d : Behind) → CodeAt w (n + 1) (behind_first globals) → d.pending ≡ Idle →
      StackIs w first stack c → RoutineReturns w 4 (n + 1) (n + 5) (with_half globals c) d (IsEntered globals first stack c)
  enters n globals first stack c d at idle h =
      let variables = h.variables in (
        ready globals first stack c,
        record {
          globals = refl;
          frame = refl;
          stack = refl;
          back = refl;
          regs = λ r lt. below (put (put (put (put c.regs 28 (globals / 2 ^ 16 * 2 ^ 16)) 28 globals) 29 (4 * first)) 30 (4 * (first + stack))) 31 LEAVE r
              (omega arith) lt
              ∙ below (put (put (put c.regs 28 (globals / 2 ^ 16 * 2 ^ 16)) 28 globals) 29 (4 * first)) 30 (4 * (first + stack)) r (omega arith) lt
              ∙ below (put (put c.regs 28 (globals / 2 ^ 16 * 2 ^ 16)) 28 globals) 29 (4 * first) r (omega arith) lt
              ∙ below (put c.regs 28 (globals / 2 ^ 16 * 2 ^ 16)) 28 globals r (omega arith) lt
              ∙ below c.regs 28 (globals / 2 ^ 16 * 2 ^ 16) r (omega arith) lt;
          memory = refl;
          hi = refl;
          lo = refl;
          special = refl;
        },
        moved w 4 (at_with (n + 1) (with_half globals c) d) (n + 1 + 4) (n + 5) (ready globals first stack c) d (omega arith)
            (straight.all (behind_first globals) (Gives globals ∷ Reads 1029 (4 * first) ∷ Reads 1030 (4 * (first + stack)) ∷ Gives LEAVE ∷ []) (n + 1)
            (with_half globals c) d at refl idle (halves globals, ((refl, omega arith, h.first_word), ((refl, omega arith, h.limit_word), (refl, tt))))),
      )

  pub entry_runs : EntryRuns w
  entry_runs = record { first = begins; enters = enters }
