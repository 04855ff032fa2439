-- Kernels of small systems: what they do with users and the console by calls of primitives.
use Rattle.std.specs.Prelude.{ℕ, List, [], ◌∷◌, codes}
use Rattle.c0_tree.specs.declared.tree.Kind.TheVariants.{Global, Local, Function, Primitive}
use Rattle.c0_tree.specs.declared.tree.UnaryOp.TheVariants.{Negate, Not}
use Rattle.c0_tree.specs.declared.tree.BinaryOp.TheVariants.{Add, Mul, Div, Eq, And}
use Rattle.c0_tree.specs.Tree.{CExpr, var, index, unary, binary, CStmt, assign, call, choice, done, CDecl, code, CFunction, CUnit}
use Rattle.c0_tree.specs.Tree as tree
use Rattle.worked_rows.specs.Kernels.{z, name, decl, global, local, number, block, function, causes, scheduler}

-- a call of a primitive, whose answer goes to a variable
abbrev pub asking : CExpr → List ℕ → ℕ → List CExpr → CStmt
asking place text n args = call z place z (name text Primitive n) args

-- a kernel of these globals, whose `dispatch` has these locals and statements, and answers an expression
abbrev pub kernel : List CDecl → List CDecl → List CStmt → CExpr → CUnit
kernel globals locals statements answer =
    record {
      length = 0;
      structs = [];
      globals = globals;
      functions = function tree.int (codes "dispatch") 0 causes (code locals (block statements) answer) ∷ [];
    }

-- the local `next_local`, and a statement that sets it
abbrev pub next_local : CDecl
next_local = decl tree.int (codes "next") Local 3

abbrev pub set_next : ℕ → CStmt
set_next n = assign z (local (codes "next") 3) (number n)

-- whether the cause is of a number
abbrev pub cause_is : ℕ → CExpr
cause_is n = binary z Eq (local (codes "cause") 0) (number n)

-- int dispatch(int cause, int data, int user) { return e; }
abbrev pub returning_kernel : CExpr → CUnit
returning_kernel e = kernel [] [] [] e

-- int c; int w; int dispatch(int cause, int data, int user) { int next; next = 1; if (cause == 5) { c = vm_get(1, 32); w = vm_get(1, 2);
-- next = 0; } return next; }
abbrev pub overflow : CUnit
overflow = kernel (decl tree.int (codes "c") Global 0 ∷ decl tree.int (codes "w") Global 1 ∷ []) (next_local ∷ [])
    (set_next 1
    ∷ choice z (cause_is 5) (block (asking (global (codes "c") 0) (codes "vm_get") 0 (number 1 ∷ number 32 ∷ [])
    ∷ asking (global (codes "w") 1) (codes "vm_get") 0 (number 1 ∷ number 2 ∷ []) ∷ set_next 0 ∷ [])) done
    ∷ []) (local (codes "next") 3)

-- int n; int m; int dispatch(int cause, int data, int user) { int next; next = 1; if (cause == 1) { n = n + 1; m = m * 8 + data; if (n ==
-- 2) { next = 0; } } return next; }
abbrev pub line_kernel : CUnit
line_kernel = kernel (decl tree.int (codes "n") Global 0 ∷ decl tree.int (codes "m") Global 1 ∷ []) (next_local ∷ [])
    (set_next 1
    ∷ choice z (cause_is 1) (block (
    assign z (global (codes "n") 0) (binary z Add (global (codes "n") 0) (number 1))
    ∷ assign z (global (codes "m") 1) (binary z Add (binary z Mul (global (codes "m") 1) (number 8)) (local (codes "data") 1))
    ∷ choice z (binary z Eq (global (codes "n") 0) (number 2)) (block (set_next 0 ∷ [])) done ∷ [])) done
    ∷ []) (local (codes "next") 3)

-- bool b; int dispatch(int cause, int data, int user) { int next; if (cause == 0) { b = vm_resize(1, 2); b = vm_copy(1, 0, 1, 4096, 1024);
-- next = 1; } return next; }
abbrev pub copies : CUnit
copies = kernel (decl tree.bool (codes "b") Global 0 ∷ []) (next_local ∷ [])
    (choice z (cause_is 0) (block (
    asking (global (codes "b") 0) (codes "vm_resize") 3 (number 1 ∷ number 2 ∷ [])
    ∷ asking (global (codes "b") 0) (codes "vm_copy") 6 (number 1 ∷ number 0 ∷ number 1 ∷ number 4096 ∷ number 1024 ∷ [])
    ∷ set_next 1 ∷ [])) done ∷ []) (local (codes "next") 3)

-- bool b; bool c; int dispatch(int cause, int data, int user) { b = vm_copy(1, 4088, 2, 0, 4); c = vm_copy(1, 4088, 1, 4096, 4); return 0; }
abbrev pub copies_twice : CUnit
copies_twice = kernel (decl tree.bool (codes "b") Global 0 ∷ decl tree.bool (codes "c") Global 1 ∷ []) []
    (asking (global (codes "b") 0) (codes "vm_copy") 6 (number 1 ∷ number 4088 ∷ number 2 ∷ number 0 ∷ number 4 ∷ [])
    ∷ asking (global (codes "c") 1) (codes "vm_copy") 6 (number 1 ∷ number 4088 ∷ number 1 ∷ number 4096 ∷ number 4 ∷ []) ∷ []) (number 0)

-- int g; int w; bool s; bool t; int dispatch(int cause, int data, int user) { g = vm_get(9, 1); w = vm_word(1, 2); s = vm_set(1, 0, 5); t =
-- vm_resize(1, 5); t = vm_resize(1, 0); t = vm_resize(1, 1); return 0; }
abbrev pub probes : CUnit
probes = kernel (decl tree.int (codes "g") Global 0 ∷ decl tree.int (codes "w") Global 1 ∷ decl tree.bool (codes "s") Global 2
    ∷ decl tree.bool (codes "t") Global 3 ∷ []) []
    (asking (global (codes "g") 0) (codes "vm_get") 0 (number 9 ∷ number 1 ∷ [])
    ∷ asking (global (codes "w") 1) (codes "vm_word") 4 (number 1 ∷ number 2 ∷ [])
    ∷ asking (global (codes "s") 2) (codes "vm_set") 1 (number 1 ∷ number 0 ∷ number 5 ∷ [])
    ∷ asking (global (codes "t") 3) (codes "vm_resize") 3 (number 1 ∷ number 5 ∷ [])
    ∷ asking (global (codes "t") 3) (codes "vm_resize") 3 (number 1 ∷ number 0 ∷ [])
    ∷ asking (global (codes "t") 3) (codes "vm_resize") 3 (number 1 ∷ number 1 ∷ []) ∷ []) (number 0)

-- bool b; int dispatch(int cause, int data, int user) { int next; if (cause == 0) { b = vm_resize(1, pages); next = 1; } return next; }
abbrev pub resizes : ℕ → CUnit
resizes pages = kernel (decl tree.bool (codes "b") Global 0 ∷ []) (next_local ∷ [])
    (choice z (cause_is 0) (block (asking (global (codes "b") 0) (codes "vm_resize") 3 (number 1 ∷ number pages ∷ []) ∷ set_next 1 ∷ [])) done ∷ [])
    (local (codes "next") 3)

-- int x; int dispatch(int cause, int data, int user) { int next; x = 100 / (cause + 3); if (cause == 0) { next = 1; } return next; }
abbrev pub divides : CUnit
divides = kernel (decl tree.int (codes "x") Global 0 ∷ []) (next_local ∷ [])
    (assign z (global (codes "x") 0) (binary z Div (number 100) (binary z Add (local (codes "cause") 0) (number 3)))
    ∷ choice z (cause_is 0) (block (set_next 1 ∷ [])) done ∷ []) (local (codes "next") 3)

-- int s; bool b; int dispatch(int cause, int data, int user) { int a; int c; a = con_get(); c = con_get(); s = a + c; b = con_put(s); b =
-- con_put(-1); return 0; }
abbrev pub console_kernel : CUnit
console_kernel = kernel (decl tree.int (codes "s") Global 0 ∷ decl tree.bool (codes "b") Global 1 ∷ []) (decl tree.int (codes "a") Local 3
    ∷ decl tree.int (codes "c") Local 4 ∷ [])
    (asking (local (codes "a") 3) (codes "con_get") 8 []
    ∷ asking (local (codes "c") 4) (codes "con_get") 8 []
    ∷ assign z (global (codes "s") 0) (binary z Add (local (codes "a") 3) (local (codes "c") 4))
    ∷ asking (global (codes "b") 1) (codes "con_put") 7 (global (codes "s") 0 ∷ [])
    ∷ asking (global (codes "b") 1) (codes "con_put") 7 (unary z Negate (number 1) ∷ []) ∷ []) (number 0)

-- The scheduler of three users, in which user 3 runs only once both others have sent their sums: the last statement of its `dispatch` is
-- if (!done[3]) { next = pick(user); if (next == 3 && !(done[1] && done[2])) { next = pick(3); } }
abbrev pub waiting_kernel : CUnit
waiting_kernel = record scheduler { functions = with_last scheduler.functions }
  where
    sent : ℕ → CExpr
    sent user = index z (global (codes "done") 1) (number user)

    pick : CExpr → CStmt
    pick user = call z (local (codes "next") 3) z (name (codes "pick") Function 0) (user ∷ [])

    last : CStmt
    last =
        choice z (unary z Not (sent 3)) (block (
        pick (local (codes "user") 2)
        ∷ choice z (binary z And (binary z Eq (local (codes "next") 3) (number 3)) (unary z Not (binary z And (sent 1) (sent 2))))
        (block (pick (number 3) ∷ [])) done ∷ [])) done

    -- the first of two statements, and another one in place of the second
    and_last : tree.CStmts → tree.CStmts
    and_last (tree.next first rest) = tree.next first (block (last ∷ []))
    and_last tree.done = done

    changed : tree.CBody → tree.CBody
    changed (code locals stmts answer) = code locals (and_last stmts) answer
    changed (tree.asm text span words) = tree.asm text span words

    with_last : List CFunction → List CFunction
    with_last (a ∷ f ∷ fs) = a ∷ record f { body = changed f.body } ∷ fs
    with_last fs = fs
