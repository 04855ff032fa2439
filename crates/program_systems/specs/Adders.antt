-- Programs that add up the numbers from 1 to a limit, and bring the sum to their kernel.
use Rattle.std.specs.Prelude.{◌≡◌, ℕ, ℤ, pos, [], ◌∷◌, codes}
use Rattle.c0_tree.specs.declared.tree.Kind.TheVariants.{Local, Primitive}
use Rattle.c0_tree.specs.declared.tree.BinaryOp.TheVariants.{Add, Lt}
use Rattle.c0_tree.specs.Tree.{assign, call, loop, binary, code, CUnit}
use Rattle.c0_tree.specs.Tree as tree
use Rattle.c0_meaning.specs.UserProgram.{prog, done, not_yet}
use Rattle.worked_rows.specs.Kernels.{z, name, decl, local, number, block, function}
use Rattle.cvm_model.specs.Cvm.{first_flat}
use Rattle.user_c0.specs.Image.{image_words}
use Rattle.program_systems.specs.Counts.{TrapsThrough}

-- int main() { int i; int s; int a; while (i < LIMIT) { i = i + 1; s = s + i; } a = trap(s); return 0; }
abbrev pub adder : ℕ → CUnit
adder limit = record {
  length = 0;
  structs = [];
  globals = [];
  functions =
      function tree.int (codes "main") 0 []
      (code (decl tree.int (codes "i") Local 0 ∷ decl tree.int (codes "s") Local 1 ∷ decl tree.int (codes "a") Local 2 ∷ []) (block (
      loop z (binary z Lt (local (codes "i") 0) (number limit)) (block (
      assign z (local (codes "i") 0) (binary z Add (local (codes "i") 0) (number 1)) ∷
      assign z (local (codes "s") 1) (binary z Add (local (codes "s") 1) (local (codes "i") 0)) ∷ [])) ∷
      call z (local (codes "a") 2) z (name (codes "trap") Primitive 0) (local (codes "s") 1 ∷ []) ∷ [])) (number 0)) ∷ [];
}

-- A LAW: within 200 units the one that counts to 10 calls with 55, and within 400 the one that counts to 20 with 210; and then it ends, whatever it is answered
pub record AddersCall : Type 0 where
  pub ten : prog (adder 10) [] 200 ≡ record { arguments = pos 55 ∷ []; ending = not_yet }
  pub twenty : prog (adder 20) [] 400 ≡ record { arguments = pos 210 ∷ []; ending = not_yet }
  pub ten_ends : (x : ℤ) → prog (adder 10) (x ∷ []) 200 ≡ record { arguments = pos 55 ∷ []; ending = done }
  pub twenty_ends : (x : ℤ) → prog (adder 20) (x ∷ []) 400 ≡ record { arguments = pos 210 ∷ []; ending = done }

-- A LAW: their images call behind 120 steps and behind 220, and end behind 7 more, whatever they are answered
pub record AddersAreCounted : Type 0 where
  pub ten : (x : ℕ) → TrapsThrough (first_flat (image_words (adder 10))) (x ∷ []) (120 ∷ 7 ∷ [])
  pub twenty : (x : ℕ) → TrapsThrough (first_flat (image_words (adder 20))) (x ∷ []) (220 ∷ 7 ∷ [])
