-- A worked example: a program that tells the sum of the numbers from 1 to 10, and what is known of it in every system.
use Rattle.std.specs.Prelude.{◌≡◌, ℕ, zero, suc, ◌≤◌, ℤ, pos, List, [], ◌∷◌, length, Some, codes}
use Rattle.mips_table.specs.declared.cause.Cause.{Cause}
use Rattle.mips_table.specs.Flat.{Flat, Goes, Trap, vstep}
use Rattle.mips_table.specs.Machine.{cause_number}
use Rattle.c0_tree.specs.declared.tree.Kind.TheVariants.{Local, Primitive}
use Rattle.c0_tree.specs.declared.tree.BinaryOp.TheVariants.{Add, Lt}
use Rattle.c0_tree.specs.Tree.{assign, call, loop, binary, code, CUnit}
use Rattle.c0_tree.specs.Tree as tree
use Rattle.c0_meaning.specs.Bare.{bare}
use Rattle.c0_meaning.specs.UserProgram.{prog, done, not_yet}
use Rattle.cvm_model.specs.Primitives.{user_of}
use Rattle.cvm_model.specs.Cvm.{System, Cvm, cvm}
use Rattle.cvm_model.specs.Journal.{journal, KernelReplays}
use Rattle.worked_rows.specs.Kernels.{z, name, decl, local, number, block, function}
use Rattle.user_c0.specs.Events.{SYSCALL, Event, IsAnsweredJournal, call_count, others, untrapped}
use Rattle.user_c0.specs.Program.{steps_of}
use Rattle.user_c0.specs.Users.{UserHasCome, IsProgram, IsTrapCall}
use Rattle.user_c0.specs.Systems.{RunsProgram}

-- int main() { int i; int s; int a; i = 0; s = 0; while (i < 10) { i = i + 1; s = s + i; } a = trap(s); return 0; }
abbrev pub summing : CUnit
summing = record {
  length = 0;
  structs = [];
  globals = [];
  functions =
      function tree.int (codes "main") 0 []
      (code (decl tree.int (codes "i") Local 0 ∷ decl tree.int (codes "s") Local 1 ∷ decl tree.int (codes "a") Local 2 ∷ []) (block (
      assign z (local (codes "i") 0) (number 0) ∷
      assign z (local (codes "s") 1) (number 0) ∷
      loop z (binary z Lt (local (codes "i") 0) (number 10)) (block (
      assign z (local (codes "i") 0) (binary z Add (local (codes "i") 0) (number 1)) ∷
      assign z (local (codes "s") 1) (binary z Add (local (codes "s") 1) (local (codes "i") 0)) ∷ [])) ∷
      call z (local (codes "a") 2) z (name (codes "trap") Primitive 0) (local (codes "s") 1 ∷ []) ∷ [])) (number 0)) ∷ [];
}

-- a unit that is this program, with spans or without
pub record IsSumming (u : CUnit) : Type 0 where
  pub program : IsProgram u
  pub is : bare u ≡ summing

-- what a trap is after so many calls: the first is the call with 55, and each later one the end
abbrev pub SumTrap : ℕ → Flat → (cause edata : ℕ) → Type 0
SumTrap zero f cause edata = IsTrapCall f (pos 55) cause edata
SumTrap (suc i) f cause edata = (cause ≡ SYSCALL) × (edata ≡ 0x4c)

-- A LAW: so is each of its traps, from whatever step on, and each comes within the steps of 200 units
pub record SumsAreTold : Type 0 where
  pub asks : prog summing [] 200 ≡ record { arguments = pos 55 ∷ []; ending = not_yet }
  pub ends : (a : ℤ) (rest : List ℤ) → prog summing (a ∷ rest) 200 ≡ record { arguments = pos 55 ∷ []; ending = done }
  pub traps : (u : CUnit) (es : List Event) (f g : Flat) (cause : Cause) (edata : ℕ) → IsSumming u → UserHasCome u es f → vstep f ≡ Trap g cause edata
      → SumTrap (call_count es) f (cause_number cause) edata
  pub soon : (u : CUnit) (es : List Event) (f g : Flat) → IsSumming u → UserHasCome u es f → vstep f ≡ Goes g → others es ≡ []
      → suc (untrapped es) ≤ steps_of 200

-- A LAW: in every system in which a user runs it and its calls are answered so far, whatever the kernel, the other users and the lines are, its next trap is
-- so: the first finds 55 in register 4
abbrev pub SumsAreToldInSystems : Type 0
SumsAreToldInSystems = (y : System) (lines : ℕ → ℕ) (units turns n : ℕ) (c : Cvm) (u : CUnit) → IsSumming u → KernelReplays y.boot.meaning → 1 ≤ n
    → n ≤ length y.boot.users → RunsProgram y n u
    → cvm y lines units turns ≡ Some c → (a : IsAnsweredJournal (journal y lines units n turns)) → (g : Flat) (cause : Cause) (edata : ℕ)
    → vstep (user_of c.core.users n) ≡ Trap g cause edata
    → SumTrap (call_count a.events) (user_of c.core.users n) (cause_number cause) edata
