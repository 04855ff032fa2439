-- A typed test's open code, patched, is the test's code, and its branches stand in it.
use Rattle.std.specs.Prelude.{map, slice_index, slice_set, All}
use Rattle.std.proofs.lemmas.List.Elements.{All-nil, All-cons, All-same, All-append}
use Rattle.std.proofs.Common.{◌≡◌, ℕ, suc, ◌+◌, ◌-◌, ◌*◌, ◌/◌, ◌%◌, ◌^◌, ◌<◌, ◌≤◌, Bool, true, false, not, cond, nat_eq, Option, Some, None, List, [], ◌∷◌, ◌++◌, length, refl, sym, ap, ap₂, ◌∙◌, arith, length-append}
use Rattle.mips_table.specs.declared.inst.Inst.{Inst}
use Rattle.mips_table.specs.declared.inst.Inst.TheVariants.{Slt, Slti}
use Rattle.mips_table.specs.Encoding.{encoding}
use Rattle.c0_tree.specs.declared.tree.BinaryOp.{BinaryOp}
use Rattle.c0_tree.specs.declared.tree.BinaryOp.TheVariants.{Add, Sub, Mul, Div, Rem, Lt, Le, Gt, Ge, Eq, Ne, And, Or}
use Rattle.c0_typed.specs.declared.sorted.Order.{Order as Orders}
use Rattle.c0_typed.specs.declared.sorted.Order.TheVariants.{Less, LessOrEqual, Greater, GreaterOrEqual}
use Rattle.c0_typed.specs.declared.sorted.Plain.{Plain}
use Rattle.c0_typed.specs.declared.sorted.Plain.TheVariants.{Sum, Difference, Product, Order, Equal, Different}
use Rattle.c0_typed.specs.Sorted.{order_of, plain_of}
use Rattle.c0_typed.specs.Tree.{TExpr, negation, plain, both, either}
use Rattle.c0_expr_code.specs.Code.{low, is_near, Made, operand_code, operand_register}
use Rattle.c0_expr_code.specs.FrameSetting.{FrameSetting, where_told}
use Rattle.c0_expr_code.specs.Jumps.{Unpatched, last_unpatched, behind_unpatched, joined_unpatched, both_unpatched, aimed_word, patched}
use Rattle.c0_expr_code.specs.Node.{node_made, node_test, order_test}
use Rattle.c0_expr_code.specs.NodeJumps.{node_unpatched, NodePatchesAim, NodeJumpsAreWithin}
use Rattle.c0_expr_code.specs.Test.{branch_code, negative_branch, positive_branch, below_code, compare_code, ImmediateTest, immediate_test, immediate_test_of, compare_test, both_code, plain_test}

-- lists
pub assoc : {A : Type 0} (xs ys zs : List A) → (xs ++ ys) ++ zs ≡ xs ++ (ys ++ zs)
assoc [] ys zs = refl
assoc (x ∷ xs) ys zs = ap (λ l. x ∷ l) (assoc xs ys zs)

pub map_append : {A B : Type 0} (f : A → B) (xs ys : List A) → map f (xs ++ ys) ≡ map f xs ++ map f ys
map_append f [] ys = refl
map_append f (x ∷ xs) ys = ap (λ l. f x ∷ l) (map_append f xs ys)

pub map_length : {A B : Type 0} (f : A → B) (xs : List A) → length (map f xs) ≡ length xs
map_length f [] = refl
map_length f (x ∷ xs) = ap suc (map_length f xs)

pub shifted : (a b : ℕ) (js : List ℕ) → map (λ j. a + j) (map (λ j. b + j) js) ≡ map (λ j. (a + b) + j) js
shifted a b [] = refl
shifted a b (j ∷ js) = let e : a + (b + j) ≡ a + b + j = omega arith in ap₂ (λ x l. x ∷ l) e (shifted a b js)

patched_append : (to : ℕ) (js ks ws : List ℕ) → patched to (js ++ ks) ws ≡ patched to ks (patched to js ws)
patched_append to [] ks ws = refl
patched_append to (j ∷ js) ks ws = patched_append to js ks _

set_there : (xs : List ℕ) (y : ℕ) (ys : List ℕ) (v : ℕ) → slice_set (xs ++ y ∷ ys) (length xs) v ≡ xs ++ v ∷ ys
set_there [] y ys v = refl
set_there (x ∷ xs) y ys v = ap (λ l. x ∷ l) (set_there xs y ys v)

index_there : (xs : List ℕ) (y : ℕ) (ys : List ℕ) → slice_index (xs ++ y ∷ ys) (length xs) ≡ y
index_there [] y ys = refl
index_there (x ∷ xs) y ys = index_there xs y ys

patch_one : (xs : List ℕ) (y : ℕ) (ys : List ℕ) (j to v : ℕ) → j ≡ length xs → aimed_word to j y ≡ v → slice_set (xs ++ y ∷ ys) j (aimed_word to j (slice_index (xs ++ y ∷ ys) j)) ≡ xs ++ v ∷ ys
patch_one xs y ys j to v e is =
    ap₂ (λ i u. slice_set (xs ++ y ∷ ys) i u) e (ap (aimed_word to j) (ap (slice_index (xs ++ y ∷ ys)) e ∙ index_there xs y ys) ∙ is) ∙ set_there xs y ys v

-- code whose last instruction is a branch with the distance
pub record EndsIn (f : ℕ → List Inst) : Type 0 where
  pub before : List Inst
  pub branch : ℕ → Inst
  pub is : (far : ℕ) → f far ≡ before ++ (branch far ∷ [])
  pub words : (far : ℕ) → far < 2 ^ 16 → encoding (branch far) ≡ encoding (branch 0) / 2 ^ 16 * 2 ^ 16 + far

pub record AimsAt (x : Unpatched) (f : ℕ → List Inst) : Type 0 where
  pub same : (far : ℕ) → length (f far) ≡ length x.code
  pub within : (at n : ℕ) → at + length x.code ≤ n → All (λ j. j < n) (map (λ j. at + j) x.jumps)
  pub law : (far to : ℕ) (before after : List ℕ) → far < 2 ^ 16 → length before + length x.code < 2 ^ 64 → (length before + length x.code + far) % 2 ^ 16 ≡ to % 2 ^ 16
      → patched to (map (λ j. length before + j) x.jumps) (before ++ (map encoding x.code ++ after)) ≡ before ++ (map encoding (f far) ++ after)

words_of : (is : List Inst) (b : Inst) (before after : List ℕ) → before ++ (map encoding (is ++ (b ∷ [])) ++ after) ≡ (before ++ map encoding is) ++ (encoding b ∷ after)
words_of is b before after =
    ap (λ l. before ++ (l ++ after)) (map_append encoding is (b ∷ [])) ∙ ap (λ l. before ++ l) (assoc (map encoding is) (encoding b ∷ []) after) ∙ sym (assoc before (map encoding is) (encoding b ∷ after))

lasts : (f : ℕ → List Inst) → EndsIn f → AimsAt (last_unpatched (f 0)) f
lasts f h = record { same = λ far. len far ∙ sym (len 0); within = within; law = law }
  where
    len : (far : ℕ) → length (f far) ≡ length h.before + 1
    len far = ap length (h.is far) ∙ length-append h.before (h.branch far ∷ [])

    within : (at n : ℕ) → at + length (f 0) ≤ n → All (λ j. j < n) ((at + (length (f 0) - 1)) ∷ [])
    within at n w = let l0 = len 0 in All-cons (λ j. j < n) (at + (length (f 0) - 1)) [] (omega (arith, l0, w)) (All-nil (λ j. j < n))

    law : (far to : ℕ) (before after : List ℕ) → far < 2 ^ 16 → length before + length (f 0) < 2 ^ 64 → (length before + length (f 0) + far) % 2 ^ 16 ≡ to % 2 ^ 16
        → patched to ((length before + (length (f 0) - 1)) ∷ []) (before ++ (map encoding (f 0) ++ after)) ≡ before ++ (map encoding (f far) ++ after)
    law far to before after short small aim =
        let l0 = len 0 in
        let front = before ++ map encoding h.before in
        let there : length before + (length (f 0) - 1) ≡ length (before ++ map encoding h.before) = omega (arith, l0, length-append before (map encoding h.before), map_length encoding h.before) in
        let start : before ++ (map encoding (f 0) ++ after) ≡ (before ++ map encoding h.before) ++ (encoding (h.branch 0) ∷ after) = ap (λ is. before ++ (map encoding is ++ after)) (h.is 0) ∙ words_of h.before (h.branch 0) before after in
        let end : before ++ (map encoding (f far) ++ after) ≡ (before ++ map encoding h.before) ++ (encoding (h.branch far) ∷ after) = ap (λ is. before ++ (map encoding is ++ after)) (h.is far) ∙ words_of h.before (h.branch far) before after in
        let value : aimed_word to (length before + (length (f 0) - 1)) (encoding (h.branch 0)) ≡ encoding (h.branch far) = (let d : (to + (2 ^ 64 - (length before + (length (f 0) - 1) + 1))) % 2 ^ 16 ≡ far = omega (arith, l0, short, small, aim) in ap (λ y. encoding (h.branch 0) / 2 ^ 16 * 2 ^ 16 + y) d) ∙ sym (h.words far short) in
        ap (λ ws. patched to ((length before + (length (f 0) - 1)) ∷ []) ws) start
        ∙ patch_one (before ++ map encoding h.before) (encoding (h.branch 0)) after (length before + (length (f 0) - 1)) to (encoding (h.branch far)) there value
        ∙ sym end

behinds : (is : List Inst) (x : Unpatched) (f : ℕ → List Inst) → AimsAt x f → AimsAt (behind_unpatched is x) (λ far. is ++ f far)
behinds is x f h = record { same = same; within = within; law = law }
  where
    within : (at n : ℕ) → at + length (is ++ x.code) ≤ n → All (λ j. j < n) (map (λ j. at + j) (map (λ j. length is + j) x.jumps))
    within at n w =
        let m = length-append is x.code in
        All-same (λ j. j < n) _ _ (shifted at (length is) x.jumps) (h.within (at + length is) n (omega (arith, m, w)))

    same : (far : ℕ) → length (is ++ f far) ≡ length (is ++ x.code)
    same far = let a = h.same far in omega (arith, a, length-append is (f far), length-append is x.code)

    law : (far to : ℕ) (before after : List ℕ) → far < 2 ^ 16 → length before + length (is ++ x.code) < 2 ^ 64 → (length before + length (is ++ x.code) + far) % 2 ^ 16 ≡ to % 2 ^ 16
        → patched to (map (λ j. length before + j) (map (λ j. length is + j) x.jumps)) (before ++ (map encoding (is ++ x.code) ++ after)) ≡ before ++ (map encoding (is ++ f far) ++ after)
    law far to before after short small aim =
        let n = length-append is x.code in
        let m : length (before ++ map encoding is) ≡ length before + length is = omega (arith, length-append before (map encoding is), map_length encoding is) in
        let over : (ys : List Inst) → before ++ (map encoding (is ++ ys) ++ after) ≡ (before ++ map encoding is) ++ (map encoding ys ++ after) = λ ys.
        ap (λ l. before ++ (l ++ after)) (map_append encoding is ys) ∙ ap (λ l. before ++ l) (assoc (map encoding is) (map encoding ys) after) ∙ sym (assoc before (map encoding is) (map encoding ys ++ after)) in
        let js : map (λ j. length before + j) (map (λ j. length is + j) x.jumps) ≡ map (λ j. length (before ++ map encoding is) + j) x.jumps = shifted (length before) (length is) x.jumps ∙ ap (λ k. map (λ j. k + j) x.jumps) (sym m) in
        ap₂ (λ j w. patched to j w) js (over x.code)
        ∙ h.law far to (before ++ map encoding is) after short (omega (arith, n, m, small)) (let z : length (before ++ map encoding is) + length x.code + far ≡ length before + length (is ++ x.code) + far = omega (arith, n, m) in ap (λ y. y % 2 ^ 16) z ∙ aim)
        ∙ sym (over (f far))

pub joins : (x y : Unpatched) (f g : ℕ → List Inst) → AimsAt x f → AimsAt y g → AimsAt (joined_unpatched x y) (λ far. f ((far + length (g far)) % 2 ^ 16) ++ g far)
joins x y f g h k = record { same = same; within = within; law = law }
  where
    within : (at n : ℕ) → at + length (x.code ++ y.code) ≤ n → All (λ j. j < n) (map (λ j. at + j) (x.jumps ++ map (λ j. length x.code + j) y.jumps))
    within at n w =
        let m = length-append x.code y.code in
        All-same (λ j. j < n) _ _ (map_append (λ j. at + j) x.jumps (map (λ j. length x.code + j) y.jumps))
        (All-append (λ j. j < n) _ _ (h.within at n (omega (arith, m, w))) ((behinds x.code y g k).within at n w))

    same : (far : ℕ) → length (f ((far + length (g far)) % 2 ^ 16) ++ g far) ≡ length (x.code ++ y.code)
    same far =
        let a = h.same ((far + length (g far)) % 2 ^ 16) in
        let b = k.same far in
        omega (arith, a, b, length-append (f ((far + length (g far)) % 2 ^ 16)) (g far), length-append x.code y.code)

    law : (far to : ℕ) (before after : List ℕ) → far < 2 ^ 16 → length before + length (x.code ++ y.code) < 2 ^ 64 → (length before + length (x.code ++ y.code) + far) % 2 ^ 16 ≡ to % 2 ^ 16
        → patched to (map (λ j. length before + j) (x.jumps ++ map (λ j. length x.code + j) y.jumps)) (before ++ (map encoding (x.code ++ y.code) ++ after))
        ≡ before ++ (map encoding (f ((far + length (g far)) % 2 ^ 16) ++ g far) ++ after)
    law far to before after short small aim =
        let n = length-append x.code y.code in
        let b = k.same far in
        let split : (is js : List Inst) → before ++ (map encoding (is ++ js) ++ after) ≡ before ++ (map encoding is ++ (map encoding js ++ after)) = λ is js.
        ap (λ l. before ++ (l ++ after)) (map_append encoding is js) ∙ ap (λ l. before ++ l) (assoc (map encoding is) (map encoding js) after) in
        let js : map (λ j. length before + j) (x.jumps ++ map (λ j. length x.code + j) y.jumps) ≡ map (λ j. length before + j) x.jumps ++ map (λ j. length before + j) (map (λ j. length x.code + j) y.jumps) = map_append (λ j. length before + j) x.jumps (map (λ j. length x.code + j) y.jumps) in
        let near : (length before + length x.code + (far + length (g far)) % 2 ^ 16) % 2 ^ 16 ≡ to % 2 ^ 16 = omega (arith, n, b, aim) in
        let rest = behinds x.code y g k in
        let tail = behinds (f ((far + length (g far)) % 2 ^ 16)) y g k in
        let ks : map (λ j. length before + j) (map (λ j. length x.code + j) y.jumps) ≡ map (λ j. length before + j) (map (λ j. length (f ((far + length (g far)) % 2 ^ 16)) + j) y.jumps) = ap (λ m. map (λ j. length before + j) (map (λ j. m + j) y.jumps)) (sym (h.same ((far + length (g far)) % 2 ^ 16))) in
        let m = length-append (f ((far + length (g far)) % 2 ^ 16)) y.code in
        let a = h.same ((far + length (g far)) % 2 ^ 16) in
        let whole : length before + length (f ((far + length (g far)) % 2 ^ 16) ++ y.code) + far ≡ length before + length (x.code ++ y.code) + far = omega (arith, n, m, a) in
        ap₂ (λ j w. patched to j w) js (split x.code y.code)
        ∙ patched_append to (map (λ j. length before + j) x.jumps) (map (λ j. length before + j) (map (λ j. length x.code + j) y.jumps)) _
        ∙ ap₂ (λ j w. patched to j w) ks (h.law ((far + length (g far)) % 2 ^ 16) to before (map encoding y.code ++ after) (omega arith) (omega (arith, n, small)) near ∙ sym (split (f ((far + length (g far)) % 2 ^ 16)) y.code))
        ∙ tail.law far to before after short (omega (arith, n, m, a, small)) (ap (λ y. y % 2 ^ 16) whole ∙ aim)

-- the branches
branch_words : (s : Bool) (q t far : ℕ) → far < 2 ^ 16 → encoding (branch_code s q t far) ≡ encoding (branch_code s q t 0) / 2 ^ 16 * 2 ^ 16 + far
branch_words true q t far h = omega (arith, h)
branch_words false q t far h = omega (arith, h)

negative_words : (s : Bool) (q far : ℕ) → far < 2 ^ 16 → encoding (negative_branch s q far) ≡ encoding (negative_branch s q 0) / 2 ^ 16 * 2 ^ 16 + far
negative_words true q far h = omega (arith, h)
negative_words false q far h = omega (arith, h)

positive_words : (s : Bool) (q far : ℕ) → far < 2 ^ 16 → encoding (positive_branch s q far) ≡ encoding (positive_branch s q 0) / 2 ^ 16 * 2 ^ 16 + far
positive_words true q far h = omega (arith, h)
positive_words false q far h = omega (arith, h)

after : (is : List Inst) (f : ℕ → List Inst) → EndsIn f → EndsIn (λ far. is ++ f far)
after is f h = record { before = is ++ h.before; branch = h.branch; is = λ far. ap (λ js. is ++ js) (h.is far) ∙ sym (assoc is h.before (h.branch far ∷ [])); words = h.words }

pub plain_ends : (m : Made) (s : Bool) (r : ℕ) → EndsIn (λ far. plain_test m s far r)
plain_ends m s r = record { before = operand_code m r; branch = λ far. branch_code (not s) (operand_register m r) 0 far; is = λ far. refl; words = λ far h. branch_words (not s) (operand_register m r) 0 far h }

one_branch : (b : ℕ → Inst) → ((far : ℕ) → far < 2 ^ 16 → encoding (b far) ≡ encoding (b 0) / 2 ^ 16 * 2 ^ 16 + far) → EndsIn (λ far. b far ∷ [])
one_branch b h = record { before = []; branch = b; is = λ far. refl; words = h }

two_branch : (i : Inst) (b : ℕ → Inst) → ((far : ℕ) → far < 2 ^ 16 → encoding (b far) ≡ encoding (b 0) / 2 ^ 16 * 2 ^ 16 + far) → EndsIn (λ far. i ∷ b far ∷ [])
two_branch i b h = record { before = i ∷ []; branch = b; is = λ far. refl; words = h }

-- the orders, and equality
pub data IsCompared : BinaryOp → Type 0 where
  lt : IsCompared Lt
  le : IsCompared Le
  gt : IsCompared Gt
  ge : IsCompared Ge
  eq : IsCompared Eq
  ne : IsCompared Ne

compare_ends : (o : BinaryOp) → IsCompared o → (s : Bool) (q t : ℕ) → EndsIn (λ far. compare_code o s far q t)
compare_ends _ eq s q t = one_branch (λ far. branch_code s q t far) (λ far h. branch_words s q t far h)
compare_ends _ ne s q t = one_branch (λ far. branch_code (not s) q t far) (λ far h. branch_words (not s) q t far h)
compare_ends _ lt s q t = two_branch (Slt 1 q t) (λ far. branch_code (not s) 1 0 far) (λ far h. branch_words (not s) 1 0 far h)
compare_ends _ gt s q t = two_branch (Slt 1 t q) (λ far. branch_code (not s) 1 0 far) (λ far h. branch_words (not s) 1 0 far h)
compare_ends _ le s q t = two_branch (Slt 1 t q) (λ far. branch_code s 1 0 far) (λ far h. branch_words s 1 0 far h)
compare_ends _ ge s q t = two_branch (Slt 1 q t) (λ far. branch_code s 1 0 far) (λ far h. branch_words s 1 0 far h)

abbrev pub EndsTest : ImmediateTest → Type 0
EndsTest None = Unit {0}
EndsTest (Some g) = (s : Bool) (q : ℕ) → EndsIn (λ far. g s far q)

by_tests : (b c : Bool) (f g : Bool → ℕ → ℕ → List Inst) → EndsTest (Some f) → EndsTest (Some g) → EndsTest (cond b (Some f) (cond c (Some g) None))
by_tests true c f g h i = h
by_tests false true f g h i = i
by_tests false false f g h i = tt

below_ends : (k : ℕ) → EndsTest (Some (λ s far q. below_code k s far q))
below_ends k s q = two_branch (Slti 1 q (low k)) (λ far. branch_code (not s) 1 0 far) (λ far h. branch_words (not s) 1 0 far h)

test_at : (o : BinaryOp) (k : ℕ) → EndsTest (immediate_test o k)
test_at Lt k = by_tests (nat_eq k 0) (is_near k) _ _ (λ s q. one_branch (λ far. negative_branch s q far) (λ far h. negative_words s q far h)) (λ s q. below_ends k s q)
test_at Ge k = by_tests (nat_eq k 0) (is_near k) _ _ (λ s q. one_branch (λ far. negative_branch (not s) q far) (λ far h. negative_words (not s) q far h)) (λ s q. below_ends k (not s) q)
test_at Gt k = by_tests (nat_eq k 0) (is_near ((k + 1) % 2 ^ 32)) _ _ (λ s q. one_branch (λ far. positive_branch s q far) (λ far h. positive_words s q far h)) (λ s q. below_ends ((k + 1) % 2 ^ 32) (not s) q)
test_at Le k = by_tests (nat_eq k 0) (is_near ((k + 1) % 2 ^ 32)) _ _ (λ s q. one_branch (λ far. positive_branch (not s) q far) (λ far h. positive_words (not s) q far h)) (λ s q. below_ends ((k + 1) % 2 ^ 32) s q)
test_at Eq k = tt
test_at Ne k = tt
test_at Add k = tt
test_at Sub k = tt
test_at Mul k = tt
test_at Div k = tt
test_at Rem k = tt
test_at And k = tt
test_at Or k = tt

pub test_of : (o : BinaryOp) (k : Option ℕ) → EndsTest (immediate_test_of o k)
test_of o None = tt
test_of o (Some k) = test_at o k

pub compared : (im : ImmediateTest) (o : BinaryOp) (a b : Made) (s : Bool) (r : ℕ) → EndsTest im → IsCompared o → EndsIn (λ far. compare_test im o a b s far r)
compared (Some g) o a b s r h i = after (operand_code a r) (λ far. g s far (operand_register a r)) (h s (operand_register a r))
compared None o a b s r h i =
    after (operand_code a r) (λ far. operand_code b (r + 1) ++ compare_code o s far (operand_register a r) (operand_register b (r + 1)))
    (after (operand_code b (r + 1)) (λ far. compare_code o s far (operand_register a r) (operand_register b (r + 1))) (compare_ends o i s (operand_register a r) (operand_register b (r + 1))))

pub compares : (im : ImmediateTest) (o : BinaryOp) (a b : Made) (s : Bool) (r : ℕ) → EndsTest im → IsCompared o → AimsAt (last_unpatched (compare_test im o a b s 0 r)) (λ far. compare_test im o a b s far r)
compares im o a b s r h i = lasts (λ far. compare_test im o a b s far r) (compared im o a b s r h i)

pub plains : (m : Made) (s : Bool) (r : ℕ) → AimsAt (last_unpatched (plain_test m s 0 r)) (λ far. plain_test m s far r)
plains m s r = lasts (λ far. plain_test m s far r) (plain_ends m s r)

-- code of a test that is passed over has a fixed distance
pub over : (one : ℕ → List Inst) (y : Unpatched) (g : ℕ → List Inst) → AimsAt y g → AimsAt (behind_unpatched (one (length y.code % 2 ^ 16)) y) (λ far. one (length (g far) % 2 ^ 16) ++ g far)
over one y g h =
    let b = behinds (one (length y.code % 2 ^ 16)) y g h in
    record {
      same = λ far. ap (λ n. length (one (n % 2 ^ 16) ++ g far)) (h.same far) ∙ b.same far;
      within = b.within;
      law = λ far to before after short small aim. b.law far to before after short small aim ∙ ap (λ n. before ++ (map encoding (one (n % 2 ^ 16) ++ g far) ++ after)) (sym (h.same far));
    }

pub compared_order : (o : Orders) → IsCompared (order_of o)
compared_order Less = lt
compared_order LessOrEqual = le
compared_order Greater = gt
compared_order GreaterOrEqual = ge

-- an operator on two registers
orders : (o : Plain) (m a b : Made) (s : Bool) (r : ℕ) → AimsAt (last_unpatched (order_test o m a b s 0 r)) (λ far. order_test o m a b s far r)
orders Sum m a b s r = plains m s r
orders Difference m a b s r = plains m s r
orders Product m a b s r = plains m s r
orders (Order o) m a b s r = compares (immediate_test_of (order_of o) b.known) (order_of o) a b s r (test_of (order_of o) b.known) (compared_order o)
orders Equal m a b s r = compares None (plain_of Equal) a b s r tt eq
orders Different m a b s r = compares None (plain_of Different) a b s r tt ne

-- both tests, of which the second goes by what the first told
boths : (st su : FrameSetting) (decides s : Bool) (a b : TExpr) (r : ℕ) → ((s : Bool) → AimsAt (node_unpatched st a s r) (λ far. node_test st a s far r)) → ((s : Bool) → AimsAt (node_unpatched su b s r) (λ far. node_test su b s far r))
    → AimsAt (both_unpatched decides s (node_test st a) (node_unpatched st a) (node_unpatched su b) r) (λ far. both_code decides s (node_test st a) (node_test su b) far r)
boths st su true true a b r h k = joins (node_unpatched st a true r) (node_unpatched su b true r) (λ far. node_test st a true far r) (λ far. node_test su b true far r) (h true) (k true)
boths st su true false a b r h k = over (λ n. node_test st a true n r) (node_unpatched su b false r) (λ far. node_test su b false far r) (k false)
boths st su false true a b r h k = over (λ n. node_test st a false n r) (node_unpatched su b true r) (λ far. node_test su b true far r) (k true)
boths st su false false a b r h k = joins (node_unpatched st a false r) (node_unpatched su b false r) (λ far. node_test st a false far r) (λ far. node_test su b false far r) (h false) (k false)

pub aims : (st : FrameSetting) (e : TExpr) (s : Bool) (r : ℕ) → AimsAt (node_unpatched st e s r) (λ far. node_test st e s far r)
aims st (negation e) s r = aims st e (not s) r
aims st (plain o a b) s r = orders o (node_made st (plain o a b)) (node_made st a) (node_made st b) s r
aims st (both a b) s r = boths st (where_told st a true) false s a b r (λ s. aims st a s r) (λ s. aims (where_told st a true) b s r)
aims st (either a b) s r = boths st (where_told st a false) true s a b r (λ s. aims st a s r) (λ s. aims (where_told st a false) b s r)
aims st e s r = plains (node_made st e) s r

pub node_patches : NodePatchesAim
node_patches st e s r far to before after short small aim = (aims st e s r).law far to before after short small aim

pub node_within : NodeJumpsAreWithin
node_within st e s r at n h = (aims st e s r).within at n h
