-- The open code of a typed test: its branches to the target have no distance yet, and are patched later.
use Rattle.std.specs.Prelude.{◌≡◌, ℕ, ◌+◌, ◌%◌, ◌^◌, ◌<◌, ◌≤◌, All, Bool, true, false, not, List, ◌++◌, length, map}
use Rattle.mips_table.specs.Encoding.{encoding}
use Rattle.c0_typed.specs.Tree.{TExpr, negation, plain, both, either}
use Rattle.c0_expr_code.specs.Jumps.{UnpatchedTest, both_unpatched, last_unpatched, patched}
use Rattle.c0_expr_code.specs.Node.{node_made, node_test, order_test}
use Rattle.c0_expr_code.specs.FrameSetting.{FrameSetting, where_told}
use Rattle.c0_expr_code.specs.Test.{plain_test}

-- every test
abbrev pub node_unpatched : FrameSetting → TExpr → UnpatchedTest
node_unpatched st (negation e) s r = node_unpatched st e (not s) r
node_unpatched st (plain o a b) s r = last_unpatched (order_test o (node_made st (plain o a b)) (node_made st a) (node_made st b) s 0 r)
node_unpatched st (both a b) s r = both_unpatched false s (node_test st a) (node_unpatched st a) (node_unpatched (where_told st a true) b) r
node_unpatched st (either a b) s r = both_unpatched true s (node_test st a) (node_unpatched st a) (node_unpatched (where_told st a false) b) r
node_unpatched st e s r = last_unpatched (plain_test (node_made st e) s 0 r)

-- A law: a typed test's open code, patched where it stands between other words, is the test's code with the distance to the target.
abbrev pub NodePatchesAim : Type 0
NodePatchesAim = (st : FrameSetting) (e : TExpr) (s : Bool) (r far to : ℕ) (before after : List ℕ) → far < 2 ^ 16
    → length before + length (node_unpatched st e s r).code < 2 ^ 64
    → (length before + length (node_unpatched st e s r).code + far) % 2 ^ 16 ≡ to % 2 ^ 16
    → patched to (map (λ j. length before + j) (node_unpatched st e s r).jumps) (before ++ (map encoding (node_unpatched st e s r).code ++ after))
    ≡ before ++ (map encoding (node_test st e s far r) ++ after)

-- A law: the branches of a typed test's open code stand in it.
abbrev pub NodeJumpsAreWithin : Type 0
NodeJumpsAreWithin = (st : FrameSetting) (e : TExpr) (s : Bool) (r at n : ℕ) → at + length (node_unpatched st e s r).code ≤ n
    → All (λ j. j < n) (map (λ j. at + j) (node_unpatched st e s r).jumps)
