-- The words of an `if` and of a loop, whose tests get their distances when the code behind them stands.
use Rattle.std.proofs.Common.{◌≡◌, ℕ, zero, suc, ◌+◌, ◌%◌, ◌^◌, ◌<◌, ◌≤◌, max, Bool, true, false, List, [], ◌∷◌, ◌++◌, length, map, refl, sym, ap, ◌∙◌, subst, arith}
use Rattle.std.specs.Prelude.{All, slice_set}
use Rattle.std.proofs.lemmas.List.{append_assoc, append-nil, length-append, length-map, map-append, get_or-map}
use Rattle.mips_table.specs.declared.inst.Inst.{Inst}
use Rattle.mips_table.specs.Encoding.{encoding}
use Rattle.c0_typed.specs.declared.tree.TypedExpr.{TypedExpr}
use Rattle.c0_typed.specs.declared.tree.TypedStmt.{TypedStmt}
use Rattle.c0_typed.specs.Size.{typed_need}
use Rattle.c0_typed.specs.Tree.{TExpr, TStmts, done, next}
use Rattle.c0_typed.specs.View.{typed_expr_view, typed_stmts_view}
use Rattle.c0_expr_code.specs.EmitTest.{StandsUnpatched}
use Rattle.c0_expr_code.specs.FrameSetting.{FrameSetting}
use Rattle.c0_expr_code.specs.Jumps.{Unpatched, patched}
use Rattle.c0_expr_code.specs.Node.{node_test}
use Rattle.c0_expr_code.specs.NodeJumps.{NodeJumpsAreWithin, NodePatchesAim, node_unpatched}
use Rattle.c0_stmt_code.specs.Emit.{skipped_code}
use Rattle.c0_stmt_code.specs.TypedCode.{typed_otherwise, typed_otherwise_at, typed_choice, typed_back, typed_while}

-- each argument can stand
pub args_stand : (n : ℕ) (xs : List TypedExpr) → All (λ e. typed_need e ≤ n) (map typed_expr_view xs) → All (λ x. typed_need (typed_expr_view x) ≤ n) xs
args_stand n xs h k d within =
    let e = get_or-map typed_expr_view xs k d (typed_expr_view d) within in
    let P : TExpr → Type 0 = λ x. typed_need x ≤ n in
    subst P e (h k (typed_expr_view d) (omega (arith, within, length-map xs typed_expr_view)))

-- another branch that has a statement
pub otherwise_is : (ss : List TypedStmt) (is : List Inst) → 0 < length ss → typed_otherwise (typed_stmts_view ss) is ≡ skipped_code is
otherwise_is [] is h = absurd (omega arith)
otherwise_is (s ∷ ss) is h = refl

pub otherwise_some : (ss : List TypedStmt) → 0 < length ss → typed_otherwise_at (typed_stmts_view ss) ≡ 1
otherwise_some [] h = absurd (omega arith)
otherwise_some (s ∷ ss) h = refl

otherwise_long : (ss : TStmts) (is : List Inst) → typed_otherwise_at ss ≤ length (typed_otherwise ss is)
otherwise_long done is = omega arith
otherwise_long (next s rest) is = omega arith

pub otherwise_fits : (old new : List ℕ) (ss : TStmts) (is : List Inst) → new ≡ old ++ map encoding (typed_otherwise ss is) → length old + typed_otherwise_at ss ≤ length new
otherwise_fits old new ss is e = omega (arith, ap length e, length-append old (map encoding (typed_otherwise ss is)), length-map (typed_otherwise ss is) encoding, otherwise_long ss is)

-- a list of addresses that was empty
pub from_none : (old new marked marks : List ℕ) (x : Unpatched) → marked ≡ [] → StandsUnpatched old new marked marks x → StandsUnpatched old new [] marks x
from_none old new marked marks x none opened = subst (λ m. StandsUnpatched old new m marks x) none opened

-- words are not taken back
pub two_longer : (a b c : List ℕ) (x y : List ℕ) → b ≡ a ++ x → c ≡ b ++ y → length a ≤ length c
two_longer a b c x y e q = omega (arith, ap length e, ap length q, length-append a x, length-append b y)

-- the branches of a test stand in the words so far
pub jumps_within : NodeJumpsAreWithin → (st : FrameSetting) (e : TExpr) (s : Bool) (old new js words : List ℕ) → StandsUnpatched old new [] js (node_unpatched st e s 8) → length new ≤ length words → All (λ j. j < length words) js
jumps_within within st e s old new js words opened longer =
    let long : length old + length (node_unpatched st e s 8).code ≤ length words
    = omega (arith, longer, ap length opened.words, length-append old (map encoding (node_unpatched st e s 8).code), length-map (node_unpatched st e s 8).code encoding) in
    let P : List ℕ → Type 0 = λ l. All (λ j. j < length words) l in
    subst P (sym opened.places) (within st e s 8 (length old) (length words) long)

-- a test's words, patched, and words behind them
aimed : NodePatchesAim → (st : FrameSetting) (e : TExpr) (s : Bool) (far to : ℕ) (old new js after : List ℕ) → StandsUnpatched old new [] js (node_unpatched st e s 8) → far < 2 ^ 16 → length new < 2 ^ 64 → (length new + far) % 2 ^ 16 ≡ to % 2 ^ 16
    → patched to js (new ++ after) ≡ old ++ (map encoding (node_test st e s far 8) ++ after)
aimed aim st e s far to old new js after opened small fits same =
    let long : length new ≡ length old + length (node_unpatched st e s 8).code
    = ap length opened.words ∙ length-append old (map encoding (node_unpatched st e s 8).code) ∙ ap (λ n. length old + n) (length-map (node_unpatched st e s 8).code encoding) in
    ap (λ l. patched to l (new ++ after)) opened.places
    ∙ ap (λ l. patched to (map (λ j. length old + j) (node_unpatched st e s 8).jumps) l) (ap (λ (l : List ℕ). l ++ after) opened.words ∙ append_assoc old (map encoding (node_unpatched st e s 8).code) after)
    ∙ aim st e s 8 far to old after small (omega (arith, long, fits)) (subst (λ n. (n + far) % 2 ^ 16 ≡ to % 2 ^ 16) long same)

-- an `if`
pub choice_words : NodePatchesAim → (st : FrameSetting) (e : TExpr) (ss : TStmts) (old c1 c2 c3 c4 js : List ℕ) (first other : List Inst) (to : ℕ) → StandsUnpatched old c1 [] js (node_unpatched st e false 8)
    → c2 ≡ c1 ++ map encoding first → c3 ≡ c2 ++ map encoding (typed_otherwise ss other) → length c3 < 2 ^ 64 → to ≡ length c2 + typed_otherwise_at ss → c4 ≡ patched to js c3
    → c4 ≡ old ++ map encoding (typed_choice st e ss first other)
choice_words aim st e ss old c1 c2 c3 c4 js first other to opened two three fits at four =
    let far = (length first + typed_otherwise_at ss) % 2 ^ 16 in
    let after = map encoding first ++ map encoding (typed_otherwise ss other) in
    let whole : c3 ≡ c1 ++ after = three ∙ ap (λ (l : List ℕ). l ++ map encoding (typed_otherwise ss other)) two ∙ append_assoc c1 (map encoding first) (map encoding (typed_otherwise ss other)) in
    let l2 : length c2 ≡ length c1 + length first = ap length two ∙ length-append c1 (map encoding first) ∙ ap (λ n. length c1 + n) (length-map first encoding) in
    let l3 : length c3 ≡ length c1 + length after = ap length whole ∙ length-append c1 after in
    let same : (length c1 + far) % 2 ^ 16 ≡ to % 2 ^ 16 = omega (arith, l2, at) in
    let joined : map encoding (typed_choice st e ss first other) ≡ map encoding (node_test st e false far 8) ++ after
    = map-append encoding (node_test st e false far 8) (first ++ typed_otherwise ss other) ∙ ap (λ l. map encoding (node_test st e false far 8) ++ l) (map-append encoding first (typed_otherwise ss other)) in
    four ∙ ap (patched to js) whole
    ∙ aimed aim st e false far to old c1 js after opened (omega arith) (omega (arith, fits, l3)) same
    ∙ ap (λ l. old ++ l) (sym joined)

-- patching keeps the number of words
set_long : (ws : List ℕ) (j v : ℕ) → length (slice_set ws j v) ≡ length ws
set_long [] j v = refl
set_long (w ∷ ws) zero v = refl
set_long (w ∷ ws) (suc j) v = ap suc (set_long ws j v)

patched_long : (to : ℕ) (js ws : List ℕ) → length (patched to js ws) ≡ length ws
patched_long to [] ws = refl
patched_long to (j ∷ js) ws = patched_long to js _ ∙ set_long ws j _

-- a test is as long with no distance
unpatched_long : NodePatchesAim → (st : FrameSetting) (e : TExpr) (s : Bool) (old new js : List ℕ) → StandsUnpatched old new [] js (node_unpatched st e s 8) → length new < 2 ^ 64 → length new ≡ length old + length (node_test st e s 0 8)
unpatched_long aim st e s old new js opened fits =
    let is = aimed aim st e s 0 (length new) old new js [] opened (omega arith) fits (ap (λ n. n % 2 ^ 16) (omega arith)) in
    let test = map encoding (node_test st e s 0 8) in
    let p = patched_long (length new) js (new ++ []) in
    let q = ap length is in
    let r = length-append old (test ++ []) in
    omega (arith, p, q, r, length-append new [], length-append test [], length-map (node_test st e s 0 8) encoding)

-- a jump over code is a word more
pub skipped_long : (old new : List ℕ) (is : List Inst) → new ≡ old ++ map encoding (skipped_code is) → length new ≡ length old + (length is + 1)
skipped_long old new is e = omega (arith, ap length e, length-append old (map encoding (skipped_code is)), length-map (skipped_code is) encoding)

-- a loop
pub while_words : NodePatchesAim → (st : FrameSetting) (e : TExpr) (old c1 c2 c3 js : List ℕ) (body : List Inst) (to : ℕ) → c1 ≡ old ++ map encoding (skipped_code body) → StandsUnpatched c1 c2 [] js (node_unpatched st e true 8)
    → length c2 < 2 ^ 64 → to + max (length body) 1 ≡ length c1 → c3 ≡ patched to js c2 → c3 ≡ old ++ map encoding (typed_while st e body)
while_words aim st e old c1 c2 c3 js body to one opened fits at three =
    let far = typed_back st e body in
    let long = unpatched_long aim st e true c1 c2 js opened fits in
    let same : (length c2 + far) % 2 ^ 16 ≡ to % 2 ^ 16 = omega (arith, long, at) in
    let test = map encoding (node_test st e true far 8) in
    let joined : map encoding (typed_while st e body) ≡ map encoding (skipped_code body) ++ test = map-append encoding (skipped_code body) (node_test st e true far 8) in
    three ∙ ap (patched to js) (sym (append-nil c2))
    ∙ aimed aim st e true far to c1 c2 js [] opened (omega arith) fits same
    ∙ ap (λ l. c1 ++ l) (append-nil test)
    ∙ ap (λ (l : List ℕ). l ++ test) one
    ∙ append_assoc old (map encoding (skipped_code body)) test
    ∙ ap (λ l. old ++ l) (sym joined)
