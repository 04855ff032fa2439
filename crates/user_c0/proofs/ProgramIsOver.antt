-- Where a program has ended, by its return or by a fault: it is over from there on.
use Rattle.std.specs.Prelude.{ℤ}
use Rattle.std.proofs.Common.{◌≡◌, ◌⊎◌, ℕ, suc, ◌+◌, ◌≤◌, List, [], ◌∷◌, ◌++◌, refl, ◌∙◌, arith}
use Rattle.mips_table.specs.declared.inst.Inst.TheVariants.{Syscall}
use Rattle.mips_table.specs.Encoding.{encoding}
use Rattle.mips_table.specs.Flat.{vstep}
use Rattle.mips_table.specs.Code.{CodeState, Program, on_flat}
use Rattle.mips_table.specs.Simulation.{FlatSimulates}
use Rattle.mips_table.specs.Borders.{FlatCalls}
use Rattle.masm.specs.Laws.{RunsCompose, JumpsLead}
use Rattle.c0_meaning.specs.Operators.{KernelFault, NullUse, Bounds, DivZero, StackOut}
use Rattle.c0_expr_code.specs.Scope.{exit_of}
use Rattle.c0_runs.specs.Setup.{Setup}
use Rattle.user_c0.specs.Events.{SYSCALL, trapping}
use Rattle.user_c0.specs.Served.{Served, served, asked_by, other_by, others_in}
use Rattle.user_c0.specs.Flat.{Outer}
use Rattle.user_c0.specs.Host.{Here}
use Rattle.user_c0.specs.Program.{fault_call}
use Rattle.user_c0.specs.Stands.{LeavesTo}
use Rattle.user_c0.proofs.EndTrapsAgain.{Exits, over}

-- from step k on the kernel isn't asked, no other trap comes but this, it comes within two steps, and of two steps one gives it
pub record Closed (first : Served) (word k : ℕ) : Type 0 where
  pub asks : (n : ℕ) → k ≤ n → asked_by (vstep (served first n).machine) ≡ []
  pub trap : (n : ℕ) → k ≤ n → (other_by (vstep (served first n).machine) ≡ []) ⊎ (other_by (vstep (served first n).machine) ≡ trapping SYSCALL word ∷ [])
  pub again : (n : ℕ) → k ≤ n → (other_by (vstep (served first n).machine) ≡ trapping SYSCALL word ∷ []) ⊎ (other_by (vstep (served first (suc n)).machine) ≡ trapping SYSCALL word ∷ [])
  pub soon : ℕ
  pub within : soon ≤ k + 2
  pub comes : others_in first soon ≡ others_in first k ++ trapping SYSCALL word ∷ []

module _ (runs : RunsCompose) (simulates : FlatSimulates) (traps : FlatCalls) (p : Program) (z : Setup (List ℤ) ℤ Outer) (l : LeavesTo p z) (jumps : JumpsLead (on_flat p)) (first : Served) where
  -- at an exit
  at_exit : (e loop number k : ℕ) (s : CodeState) → Exits runs simulates traps p l.sound jumps e loop number → Here p first k s → s.at ≡ e → Closed first (encoding (Syscall number)) k
  at_exit e loop number k s x here at =
      let o = over runs simulates traps p l.sound jumps e loop number x first k s here at in
      record { asks = o.asks; trap = o.trap; again = o.again; soon = suc (suc k); within = omega arith; comes = o.soon }

  null_exit : Exits runs simulates traps p l.sound jumps 2058 2064 2
  null_exit = record { exit = l.exits.0; call = l.loops.0; again = l.loops.1.0; apart = λ q. absurd (omega (arith, q)); other = refl }

  bounds_exit : Exits runs simulates traps p l.sound jumps 2059 2066 3
  bounds_exit = record { exit = l.exits.1.0; call = l.loops.1.1.0; again = l.loops.1.1.1.0; apart = λ q. absurd (omega (arith, q)); other = refl }

  zero_exit : Exits runs simulates traps p l.sound jumps 2060 2068 4
  zero_exit = record { exit = l.exits.1.1.0; call = l.loops.1.1.1.1.0; again = l.loops.1.1.1.1.1.0; apart = λ q. absurd (omega (arith, q)); other = refl }

  stack_exit : Exits runs simulates traps p l.sound jumps 2061 2070 5
  stack_exit = record { exit = l.exits.1.1.1.0; call = l.loops.1.1.1.1.1.1.0; again = l.loops.1.1.1.1.1.1.1.0; apart = λ q. absurd (omega (arith, q)); other = refl }

  main_exit : Exits runs simulates traps p l.sound jumps 2062 2072 1
  main_exit = record { exit = l.exits.1.1.1.1.0; call = l.loops.1.1.1.1.1.1.1.1.0; again = l.loops.1.1.1.1.1.1.1.1.1.0; apart = λ q. absurd (omega (arith, q)); other = refl }

  -- after a fault
  pub failed_closes : (f : KernelFault) (k : ℕ) (s : CodeState) → Here p first k s → s.at ≡ exit_of z.addresses f → Closed first (fault_call f) k
  failed_closes NullUse k s here at = at_exit 2058 2064 2 k s null_exit here (at ∙ l.faults NullUse)
  failed_closes Bounds k s here at = at_exit 2059 2066 3 k s bounds_exit here (at ∙ l.faults Bounds)
  failed_closes DivZero k s here at = at_exit 2060 2068 4 k s zero_exit here (at ∙ l.faults DivZero)
  failed_closes StackOut k s here at = at_exit 2061 2070 5 k s stack_exit here (at ∙ l.faults StackOut)

  -- after the return of `main`
  pub done_closes : (k : ℕ) (s : CodeState) → Here p first k s → s.at ≡ z.a.back → Closed first 0x4c k
  done_closes k s here at = at_exit 2062 2072 1 k s main_exit here (at ∙ l.back)
