-- The trees that are spoken of: no number in an expression is larger than a source can have, no list has 2^32 parts or more, and each
-- struct has a field. What a source reads as is so.
use Rattle.std.specs.Prelude.{ℕ, suc, ◌^◌, ◌&&◌, nat_lt, nat_le, Bool, true, false, List, [], ◌∷◌, length}
use Rattle.std.specs.List.{list_all}
use Rattle.c0_tree.specs.Tree.{CExpr, num, true_, false_, null, var, field, arrow, index, deref, address, unary, binary, CStmt}
use Rattle.c0_tree.specs.Tree.{assign, call, new, choice, loop, CStmts, done, next, CStruct, CBody, code, asm, CUnit}

-- whether the numbers in an expression are at most 2147483647
abbrev pub is_plain_expr : CExpr → Bool
is_plain_expr (num s n) = nat_le n 2147483647
is_plain_expr (true_ s) = true
is_plain_expr (false_ s) = true
is_plain_expr (null s) = true
is_plain_expr (var x) = true
is_plain_expr (field s e f) = is_plain_expr e
is_plain_expr (arrow s e f) = is_plain_expr e
is_plain_expr (index s e i) = is_plain_expr e && is_plain_expr i
is_plain_expr (deref s e) = is_plain_expr e
is_plain_expr (address s e) = is_plain_expr e
is_plain_expr (unary s o e) = is_plain_expr e
is_plain_expr (binary s o a b) = is_plain_expr a && is_plain_expr b

-- whether a list has fewer than 2^32 parts
abbrev pub is_short : {A : Type 0} → List A → Bool
is_short xs = nat_lt (length xs) (2 ^ 32)

-- how many statements stand in a list
abbrev pub stmts_length : CStmts → ℕ
stmts_length done = 0
stmts_length (next s rest) = suc (stmts_length rest)

-- whether a statement, or each of a list, is so: the lists in it are short, and the numbers small
abbrev mutual
  pub is_plain_stmt : CStmt → Bool
  is_plain_stmt (assign s p v) = is_plain_expr p && is_plain_expr v
  is_plain_stmt (call s p cs f args) = is_plain_expr p && (is_short args && list_all is_plain_expr args)
  is_plain_stmt (new s p t ts) = is_plain_expr p
  is_plain_stmt (choice s t a b) =
      is_plain_expr t && (nat_lt (stmts_length a) (2 ^ 32) && (nat_lt (stmts_length b) (2 ^ 32) && (are_plain_stmts a && are_plain_stmts b)))
  is_plain_stmt (loop s t b) = is_plain_expr t && (nat_lt (stmts_length b) (2 ^ 32) && are_plain_stmts b)

  pub are_plain_stmts : CStmts → Bool
  are_plain_stmts done = true
  are_plain_stmts (next s rest) = is_plain_stmt s && are_plain_stmts rest

-- whether a body is so
abbrev pub is_plain_body : CBody → Bool
is_plain_body (code locals stmts answer) = is_short locals && (nat_lt (stmts_length stmts) (2 ^ 32) && (are_plain_stmts stmts && is_plain_expr answer))
is_plain_body (asm text span words) = is_short text && is_short words

-- whether a list has a part
abbrev pub is_nonempty : {A : Type 0} → List A → Bool
is_nonempty [] = false
is_nonempty (x ∷ xs) = true

-- whether a struct is so: it has a field, and not too many
abbrev pub is_plain_struct : CStruct → Bool
is_plain_struct s = is_nonempty s.fields && is_short s.fields

-- whether a unit is so
abbrev pub is_plain : CUnit → Bool
is_plain u =
    is_short u.structs && (is_short u.globals && (is_short u.functions
    && (list_all is_plain_struct u.structs && list_all (λ f. is_short f.params && is_plain_body f.body) u.functions)))
