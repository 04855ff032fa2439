-- A typed tree reads the variables that its statements read: so the same ones are live, and the same locals are cleared.
use Rattle.std.specs.Prelude.{◌&&◌, ◌||◌, nat_eq, nat_lt, if◌then◌else◌, not}
use Rattle.std.proofs.lemmas.List.Sums.{sum_by-cons}
use Rattle.std.proofs.Common.{◌≡◌, ℕ, ◌+◌, ◌*◌, ◌%◌, ◌^◌, Bool, true, false, List, [], ◌∷◌, map, Option, Some, None, refl, sym, ap, ap₂, ◌∙◌}
use Rattle.c0_tree.specs.declared.tree.Kind.{Kind}
use Rattle.c0_tree.specs.declared.tree.Kind.TheVariants.{Unresolved, Struct, Field, Global, Local, Function, Primitive}
use Rattle.c0_tree.specs.declared.tree.UnaryOp.TheVariants.{Negate, Not}
use Rattle.c0_tree.specs.declared.tree.BinaryOp.{BinaryOp}
use Rattle.c0_tree.specs.declared.tree.BinaryOp.TheVariants.{Add, Sub, Mul, Div, Rem, Lt, Le, Gt, Ge, Eq, Ne, And, Or}
use Rattle.c0_tree.specs.Tree.{CExpr, num, true_, false_, null, var, field, arrow, index, deref, address, unary, binary, CStmt, assign, call, new, choice, loop, CStmts, done, next, CDecl}
use Rattle.c0_meaning.specs.Ty.{is_scalar, ty_of}
use Rattle.c0_meaning.specs.Env.{Env, Shape, typed_of}
use Rattle.c0_meaning.specs.Numbered.{is_in_frame}
use Rattle.c0_meaning.specs.TypeAt.{type_at}
use Rattle.c0_meaning.specs.Words.{words, all_words}
use Rattle.c0_typed.specs.declared.tree.Elements.{Elements}
use Rattle.c0_typed.specs.declared.tree.LocalType.{LocalType}
use Rattle.c0_typed.specs.Tree.{TExpr, part, element}
use Rattle.c0_typed.specs.Typed.{elements_in, written_number, typed_variable, typed_element, typed_negative, typed_binary, typed_of_expr, typed_of_stmt, typed_of_stmts, typed_of_local}
use Rattle.c0_expr_code.specs.Reads.{reads, reads_to_find}
use Rattle.c0_stmt_code.specs.Live.{any_reads, is_variable, live_at_place, is_live, are_live, are_scalar, is_cleared}
use Rattle.c0_stmt_code.specs.TypedFunction.{words_of_locals}
use Rattle.c0_stmt_code.specs.TypedLive.{typed_reads, typed_any_reads, typed_reads_to_find, is_that_local, typed_live_at_place, typed_is_live, typed_are_live, are_scalars, typed_cleared}

or_none : (b : Bool) → b || false ≡ b
or_none true = refl
or_none false = refl

-- a written number reads nothing
number_reads : (e : CExpr) (c n : ℕ) → written_number e ≡ Some c → reads e n ≡ false
number_reads (num s v) c n e = refl
number_reads (true_ s) c n e = refl
number_reads (false_ s) c n e = refl
number_reads (null s) c n e = refl
number_reads (var x) c n e = absurd (cc)
number_reads (field s p f) c n e = absurd (cc)
number_reads (arrow s p f) c n e = absurd (cc)
number_reads (index s p i) c n e = absurd (cc)
number_reads (deref s p) c n e = absurd (cc)
number_reads (address s p) c n e = absurd (cc)
number_reads (unary s o p) c n e = absurd (cc)
number_reads (binary s o a b) c n e = absurd (cc)

-- an element, whose index may be left out where it is a number
element_reads : (x : Elements) (p i : TExpr) (o : Option ℕ) (n : ℕ) (b : Bool) → b ≡ typed_reads i n → ((c : ℕ) → o ≡ Some c → b ≡ false) → (typed_reads p n || b) ≡ typed_reads (typed_element x p i o) n
element_reads x p i None n b same silent = ap (λ (y : Bool). typed_reads p n || y) same
element_reads x p i (Some c) n b same silent = by (nat_lt c x.count)
  where
    by : (t : Bool) → (typed_reads p n || b) ≡ typed_reads (if t then part p (c * x.bytes % 2 ^ 32) else element p i x) n
    by true = ap (λ (y : Bool). typed_reads p n || y) (silent c refl) ∙ or_none (typed_reads p n)
    by false = ap (λ (y : Bool). typed_reads p n || y) same

-- `-`, which makes a constant of a number
negative_reads : (x : TExpr) (o : Option ℕ) (n : ℕ) (b : Bool) → b ≡ typed_reads x n → ((c : ℕ) → o ≡ Some c → b ≡ false) → b ≡ typed_reads (typed_negative x o) n
negative_reads x None n b same silent = same
negative_reads x (Some c) n b same silent = silent c refl

binary_reads : (o : BinaryOp) (a b : TExpr) (n : ℕ) → (typed_reads a n || typed_reads b n) ≡ typed_reads (typed_binary o a b) n
binary_reads Add a b n = refl
binary_reads Sub a b n = refl
binary_reads Mul a b n = refl
binary_reads Div a b n = refl
binary_reads Rem a b n = refl
binary_reads Lt a b n = refl
binary_reads Le a b n = refl
binary_reads Gt a b n = refl
binary_reads Ge a b n = refl
binary_reads Eq a b n = refl
binary_reads Ne a b n = refl
binary_reads And a b n = refl
binary_reads Or a b n = refl

-- this node is no local: it is read where its place is found
record IsNoLocal (t : TExpr) (n : ℕ) : Type 0 where
  finds : typed_reads_to_find t n ≡ typed_reads t n
  other : is_that_local t n ≡ false

element_other : (x : Elements) (p i : TExpr) (o : Option ℕ) (n : ℕ) → IsNoLocal (typed_element x p i o) n
element_other x p i None n = record { finds = refl; other = refl }
element_other x p i (Some c) n = by (nat_lt c x.count)
  where
    by : (t : Bool) → IsNoLocal (if t then part p (c * x.bytes % 2 ^ 32) else element p i x) n
    by true = record { finds = refl; other = refl }
    by false = record { finds = refl; other = refl }

negative_other : (x : TExpr) (o : Option ℕ) (n : ℕ) → IsNoLocal (typed_negative x o) n
negative_other x None n = record { finds = refl; other = refl }
negative_other x (Some c) n = record { finds = refl; other = refl }

binary_other : (o : BinaryOp) (a b : TExpr) (n : ℕ) → IsNoLocal (typed_binary o a b) n
binary_other Add a b n = record { finds = refl; other = refl }
binary_other Sub a b n = record { finds = refl; other = refl }
binary_other Mul a b n = record { finds = refl; other = refl }
binary_other Div a b n = record { finds = refl; other = refl }
binary_other Rem a b n = record { finds = refl; other = refl }
binary_other Lt a b n = record { finds = refl; other = refl }
binary_other Le a b n = record { finds = refl; other = refl }
binary_other Gt a b n = record { finds = refl; other = refl }
binary_other Ge a b n = record { finds = refl; other = refl }
binary_other Eq a b n = record { finds = refl; other = refl }
binary_other Ne a b n = record { finds = refl; other = refl }
binary_other And a b n = record { finds = refl; other = refl }
binary_other Or a b n = record { finds = refl; other = refl }

-- the words of locals, and whether all of them are scalars
pub words_same : (structs : List Shape) (ds : List CDecl) → all_words structs (map typed_of ds) ≡ words_of_locals (map (typed_of_local structs) ds)
words_same structs [] = refl
words_same structs (d ∷ ds) =
    ap (λ (n : ℕ). words structs (ty_of d.ty) + n) (words_same structs ds)
    ∙ sym (sum_by-cons (λ (n : ℕ). n) (words structs (ty_of d.ty)) (map (λ (x : LocalType). x.words) (map (typed_of_local structs) ds)))

scalars_same : (structs : List Shape) (ds : List CDecl) → are_scalar ds ≡ are_scalars (map (typed_of_local structs) ds)
scalars_same structs [] = refl
scalars_same structs (d ∷ ds) = ap (λ (b : Bool). is_scalar (ty_of d.ty) && b) (scalars_same structs ds)

module _ (env : Env) where
  variable_reads : (k : Kind) (i n : ℕ) → (is_in_frame k && nat_eq i n) ≡ typed_reads (typed_variable env k i) n
  variable_reads Unresolved i n = refl
  variable_reads Struct i n = refl
  variable_reads Field i n = refl
  variable_reads Global i n = refl
  variable_reads Local i n = refl
  variable_reads Function i n = refl
  variable_reads Primitive i n = refl

  expr_reads : (e : CExpr) (n : ℕ) → reads e n ≡ typed_reads (typed_of_expr env e) n
  expr_reads (num s v) n = refl
  expr_reads (true_ s) n = refl
  expr_reads (false_ s) n = refl
  expr_reads (null s) n = refl
  expr_reads (var x) n = variable_reads x.kind x.number n
  expr_reads (field s e f) n = expr_reads e n
  expr_reads (arrow s e f) n = expr_reads e n
  expr_reads (index s e i) n =
      ap (λ (b : Bool). b || reads i n) (expr_reads e n)
      ∙ element_reads (elements_in env.structs (type_at env e)) (typed_of_expr env e) (typed_of_expr env i) (written_number i) n (reads i n) (expr_reads i n) (λ c q. number_reads i c n q)
  expr_reads (deref s e) n = expr_reads e n
  expr_reads (address s e) n = expr_reads e n
  expr_reads (unary s Negate e) n = negative_reads (typed_of_expr env e) (written_number e) n (reads e n) (expr_reads e n) (λ c q. number_reads e c n q)
  expr_reads (unary s Not e) n = expr_reads e n
  expr_reads (binary s o a b) n = ap₂ (λ (x y : Bool). x || y) (expr_reads a n) (expr_reads b n) ∙ binary_reads o (typed_of_expr env a) (typed_of_expr env b) n

  -- a place is found by the same variables, and is the same variable
  record IsSamePlace (e : CExpr) (n : ℕ) : Type 0 where
    finds : reads_to_find e n ≡ typed_reads_to_find (typed_of_expr env e) n
    is : is_variable e n ≡ is_that_local (typed_of_expr env e) n

  variable_finds : (k : Kind) (i n : ℕ) → false ≡ typed_reads_to_find (typed_variable env k i) n
  variable_finds Unresolved i n = refl
  variable_finds Struct i n = refl
  variable_finds Field i n = refl
  variable_finds Global i n = refl
  variable_finds Local i n = refl
  variable_finds Function i n = refl
  variable_finds Primitive i n = refl

  variable_is : (k : Kind) (i n : ℕ) → (is_in_frame k && nat_eq i n) ≡ is_that_local (typed_variable env k i) n
  variable_is Unresolved i n = refl
  variable_is Struct i n = refl
  variable_is Field i n = refl
  variable_is Global i n = refl
  variable_is Local i n = refl
  variable_is Function i n = refl
  variable_is Primitive i n = refl

  place_same : (e : CExpr) (n : ℕ) → IsSamePlace e n
  place_same (num s v) n = record { finds = refl; is = refl }
  place_same (true_ s) n = record { finds = refl; is = refl }
  place_same (false_ s) n = record { finds = refl; is = refl }
  place_same (null s) n = record { finds = refl; is = refl }
  place_same (var x) n = record { finds = variable_finds x.kind x.number n; is = variable_is x.kind x.number n }
  place_same (field s e f) n = record { finds = expr_reads e n; is = refl }
  place_same (arrow s e f) n = record { finds = expr_reads e n; is = refl }
  place_same (index s e i) n =
      let o = element_other (elements_in env.structs (type_at env e)) (typed_of_expr env e) (typed_of_expr env i) (written_number i) n in
      record { finds = expr_reads (index s e i) n ∙ sym o.finds; is = sym o.other }
  place_same (deref s e) n = record { finds = expr_reads e n; is = refl }
  place_same (address s e) n = record { finds = expr_reads e n; is = refl }
  place_same (unary s Negate e) n =
      let o = negative_other (typed_of_expr env e) (written_number e) n in
      record { finds = expr_reads (unary s Negate e) n ∙ sym o.finds; is = sym o.other }
  place_same (unary s Not e) n = record { finds = expr_reads e n; is = refl }
  place_same (binary s o a b) n =
      let p = binary_other o (typed_of_expr env a) (typed_of_expr env b) n in
      record { finds = expr_reads (binary s o a b) n ∙ sym p.finds; is = sym p.other }

  any_same : (es : List CExpr) (n : ℕ) → any_reads es n ≡ typed_any_reads (map (typed_of_expr env) es) n
  any_same [] n = refl
  any_same (e ∷ es) n = ap₂ (λ (x y : Bool). x || y) (expr_reads e n) (any_same es n)

  at_place : (p : CExpr) (n : ℕ) (behind : Bool) → live_at_place p n behind ≡ typed_live_at_place (typed_of_expr env p) n behind
  at_place p n behind = let h = place_same p n in ap₂ (λ (x y : Bool). x || (not y && behind)) h.finds h.is

  mutual
    live_same : (s : CStmt) (n : ℕ) (behind : Bool) → is_live s n behind ≡ typed_is_live (typed_of_stmt env s) n behind
    live_same (assign s p v) n behind = ap₂ (λ (x y : Bool). x || y) (expr_reads v n) (at_place p n behind)
    live_same (call s p cs f args) n behind = ap₂ (λ (x y : Bool). x || y) (any_same args n) (at_place p n behind)
    live_same (new s p t ts) n behind = at_place p n behind
    live_same (choice s t a b) n behind = λ j. expr_reads t n j || (lives_same a n behind j || lives_same b n behind j)
    live_same (loop s t b) n behind = λ j. expr_reads t n j || (behind || lives_same b n false j)

    lives_same : (ss : CStmts) (n : ℕ) (behind : Bool) → are_live ss n behind ≡ typed_are_live (typed_of_stmts env ss) n behind
    lives_same done n behind = refl
    lives_same (next s rest) n behind =
        live_same s n (are_live rest n behind) ∙ ap (λ (b : Bool). typed_is_live (typed_of_stmt env s) n b) (lives_same rest n behind)

  -- the locals that are cleared
  pub cleared_same : (locals : List CDecl) (stmts : CStmts) (answer : CExpr)
      → is_cleared locals stmts answer ≡ typed_cleared (map (typed_of_local env.structs) locals) (typed_of_stmts env stmts) (typed_of_expr env answer)
  cleared_same locals stmts answer = λ j n. at_number n j
    where
      at_number : (n : ℕ) → is_cleared locals stmts answer n ≡ typed_cleared (map (typed_of_local env.structs) locals) (typed_of_stmts env stmts) (typed_of_expr env answer) n
      at_number n =
          ap₂ (λ (x y : Bool). not x || y) (scalars_same env.structs locals)
          (lives_same stmts n (reads answer n) ∙ ap (λ (b : Bool). typed_are_live (typed_of_stmts env stmts) n b) (expr_reads answer n))
