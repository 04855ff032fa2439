-- The code of three small functions, instruction by instruction; and what is live in small statements.
use Rattle.std.specs.Prelude.{◌≡◌, ℕ, Bool, true, false, List, [], ◌∷◌}
use Rattle.mips_table.specs.declared.inst.Inst.{Inst}
use Rattle.mips_table.specs.declared.inst.Inst.TheVariants.{Addu, Addiu, Beq, Blez, Bne, J, Jal, Jr, Lw, Ori, Slt, Sltu, Sw}
use Rattle.c0_tree.specs.declared.tree.Kind.TheVariants.{Local, Function}
use Rattle.c0_tree.specs.declared.tree.BinaryOp.TheVariants.{Gt}
use Rattle.c0_tree.specs.Tree.{CTy, int, pointer, array, num, var, deref, binary, assign, call, choice, loop, done, next, CDecl}
use Rattle.c0_meaning.specs.Bare.{z}
use Rattle.c0_meaning.specs.Env.{Typed, typed_of}
use Rattle.c0_expr_code.specs.Scope.{Scope}
pub use Rattle.c0_expr_code.specs.Rows.{numbered_name}
use Rattle.c0_stmt_code.specs.Live.{are_live}
use Rattle.c0_stmt_code.specs.Code.{Links, statements_function}

-- a local of a number, of a type
abbrev pub local_of : CTy → ℕ → CDecl
local_of t n = record { ty = t; ty_span = z; name = numbered_name Local n }

-- what the code of a function with these variables depends on, where all faults leave to word 9
abbrev pub scope_with : List Typed → (in_registers : Bool) → (frame : ℕ) → Scope
scope_with variables in_registers frame = record {
  env = record { structs = []; globals = []; functions = []; primitives = []; locals = variables };
  in_registers = in_registers;
  frame = frame;
  exit = λ fault. 9;
}

-- each function stands at word 7
abbrev pub row_links : Links
row_links = record { function = λ n. 7; primitive = λ n. 8; new_object = 6 }

-- `int f(int n) { int r; if (n > 0) { r = 1; } else { r = 0; } return r; }`: its variables stand in registers 20 and 21
abbrev pub sign_code : List Inst
sign_code =
    statements_function (scope_with (typed_of (local_of int 0) ∷ typed_of (local_of int 1) ∷ []) true 5) row_links 1 (local_of int 1 ∷ [])
    (next (choice z (binary z Gt (var (numbered_name Local 0)) (num z 0)) (next (assign z (var (numbered_name Local 1)) (num z 1)) done)
    (next (assign z (var (numbered_name Local 1)) (num z 0)) done)) done) (var (numbered_name Local 1))

-- `int g(int n) { int[10] a; n = f(n); return n; }`: its frame has 14 words; n stands in register 20 at the call, and in register 2 behind it
abbrev pub calling_code : List Inst
calling_code =
    statements_function (scope_with (typed_of (local_of int 0) ∷ typed_of (local_of (array int 10) 1) ∷ []) false 14) row_links 1
    (local_of (array int 10) 1 ∷ [])
    (next (call z (var (numbered_name Local 0)) z (numbered_name Function 0) (var (numbered_name Local 0) ∷ [])) done)
    (var (numbered_name Local 0))

-- `int h(int* p, int n) { int r; r = *p; if (n > 0) { r = *p; } while (n > r) { n = *p; } return *p; }`: p is tested for null once, where it is
-- followed first
abbrev pub following_code : List Inst
following_code =
    statements_function (scope_with (typed_of (local_of (pointer int) 0) ∷ typed_of (local_of int 1) ∷ typed_of (local_of int 2) ∷ []) true 6) row_links 2
    (local_of int 2 ∷ [])
    (next (assign z (var (numbered_name Local 2)) (deref z (var (numbered_name Local 0))))
    (next (choice z (binary z Gt (var (numbered_name Local 1)) (num z 0))
    (next (assign z (var (numbered_name Local 2)) (deref z (var (numbered_name Local 0)))) done) done)
    (next (loop z (binary z Gt (var (numbered_name Local 1)) (var (numbered_name Local 2)))
    (next (assign z (var (numbered_name Local 1)) (deref z (var (numbered_name Local 0)))) done)) done)))
    (deref z (var (numbered_name Local 0)))

-- the code of these functions
pub record AreCodes : Type 0 where
  pub in_registers : sign_code
      ≡ Addiu 1 29 20 ∷ Sltu 1 30 1 ∷ Beq 1 0 1 ∷ J 9
      ∷ Blez 20 2 ∷ Ori 21 0 1 ∷ Beq 0 0 1 ∷ Ori 21 0 0
      ∷ Addu 2 21 0 ∷ Jr 31 ∷ []
  pub in_a_frame : calling_code
      ≡ Addiu 29 29 56 ∷ Sltu 1 30 29 ∷ Beq 1 0 1 ∷ J 9 ∷ Sw 31 29 65480 ∷ Sw 20 29 65492
      ∷ Addiu 2 29 65496 ∷ Sw 0 2 0 ∷ Addiu 2 2 4 ∷ Bne 2 29 65533
      ∷ Jal 7 ∷ Sw 2 29 65492
      ∷ Lw 31 29 65480 ∷ Addiu 29 29 65480 ∷ Jr 31 ∷ []
  pub followed_once : following_code
      ≡ Addiu 1 29 24 ∷ Sltu 1 30 1 ∷ Beq 1 0 1 ∷ J 9
      ∷ Bne 20 0 1 ∷ J 9 ∷ Lw 22 20 0
      ∷ Blez 21 1 ∷ Lw 22 20 0
      ∷ Beq 0 0 1 ∷ Lw 21 20 0 ∷ Slt 1 22 21 ∷ Bne 1 0 65533
      ∷ Lw 2 20 0 ∷ Jr 31 ∷ []

-- what isn't live: a variable that is assigned first, in a statement or in both branches of an `if`
pub record AreLiveRows : Type 0 where
  pub assigned : are_live (next (assign z (var (numbered_name Local 1)) (num z 0)) done) 1 true ≡ false
  pub in_branches : are_live
      (next (choice z (num z 0) (next (assign z (var (numbered_name Local 1)) (num z 0)) done)
      (next (assign z (var (numbered_name Local 1)) (num z 1)) done)) done) 1 true ≡ false
