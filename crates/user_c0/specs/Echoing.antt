-- A worked example: a program that serves for ever. It tells the kernel each of its answers.
use Rattle.std.specs.Prelude.{◌≡◌, ℕ, ◌+◌, ◌*◌, ℤ, pos, List, [], ◌∷◌, length, codes}
use Rattle.mips_table.specs.declared.cause.Cause.{Cause}
use Rattle.mips_table.specs.Flat.{Flat, Trap, vstep}
use Rattle.mips_table.specs.Machine.{cause_number}
use Rattle.c0_tree.specs.declared.tree.Kind.TheVariants.{Local, Primitive}
use Rattle.c0_tree.specs.Tree.{true_, call, loop, code, CUnit}
use Rattle.c0_tree.specs.Tree as tree
use Rattle.c0_meaning.specs.Bare.{bare}
use Rattle.c0_meaning.specs.UserProgram.{prog}
use Rattle.worked_rows.specs.Kernels.{z, name, decl, local, number, block, function}
use Rattle.user_c0.specs.Events.{Event, answers}
use Rattle.user_c0.specs.Users.{UserHasCome, IsProgram, IsTrapCall}

-- int main() { int x; while (true) { x = trap(x); } return 0; }
abbrev pub echoing : CUnit
echoing = record {
  length = 0;
  structs = [];
  globals = [];
  functions =
      function tree.int (codes "main") 0 [] (code (decl tree.int (codes "x") Local 0 ∷ []) (block (
      loop z (true_ z) (block (call z (local (codes "x") 0) z (name (codes "trap") Primitive 0) (local (codes "x") 0 ∷ []) ∷ [])) ∷ [])) (number 0)) ∷ [];
}

-- the last of the answers, or 0
abbrev pub last_answer : ℤ → List ℤ → ℤ
last_answer a [] = a
last_answer a (b ∷ rest) = last_answer b rest

-- A LAW: it asks 0 and then each of its answers, within 10 units for each of them and 20 more; so each of its traps, for ever, is a call with the last answer
pub record EchoesForEver : Type 0 where
  pub asks : (given : List ℤ) → (prog echoing given (10 * length given + 20)).arguments ≡ pos 0 ∷ given
  pub traps : (u : CUnit) (es : List Event) (f g : Flat) (cause : Cause) (edata : ℕ) → IsProgram u → bare u ≡ echoing → UserHasCome u es f
      → vstep f ≡ Trap g cause edata
      → IsTrapCall f (last_answer (pos 0) (answers es)) (cause_number cause) edata
