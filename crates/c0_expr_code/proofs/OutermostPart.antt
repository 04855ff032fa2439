-- What is known of a typed node by its outermost part is what its record says.
use Rattle.std.proofs.Common.{◌≡◌, ℕ, Bool, true, false, cond, Some, None, refl, sym, ap, ◌∙◌, rules}
use Rattle.c0_typed.specs.declared.sorted.Plain.{Plain}
use Rattle.c0_typed.specs.declared.sorted.Plain.TheVariants.{Sum, Difference, Product, Order, Equal, Different}
use Rattle.c0_typed.specs.Sorted.{plain_of}
use Rattle.c0_typed.specs.declared.tree.TypedExpr as rust
use Rattle.c0_typed.specs.declared.tree.TypedExpr.{TypedExpr}
use Rattle.c0_typed.specs.declared.tree.TypedExpr.TheFolds as folds
use Rattle.c0_typed.specs.View.{typed_expr_view}
use Rattle.c0_typed.specs.Tree.{TExpr, global, local, part, element, target, constant, address, negative, negation, plain, quotient, remainder, both, either}
use Rattle.c0_tree.specs.declared.tree.BinaryOp.{BinaryOp}
use Rattle.c0_expr_code.specs.Code.{Immediate, Made, frame_made, immediate_of, no_address, operator_made, register_made, sum_made}
use Rattle.c0_expr_code.specs.Facts.{register_holding, register_of_variable}
use Rattle.c0_expr_code.specs.declared.setting.CodeSetting.{CodeSetting}
use Rattle.c0_expr_code.specs.EmitNode.{logic_nodes}
use Rattle.c0_expr_code.specs.EmitNodeTest.{logic_node, open_node}
use Rattle.c0_expr_code.specs.FrameSetting.{FrameSetting}
use Rattle.c0_expr_code.specs.NodeJumps.{node_unpatched}
use Rattle.c0_expr_code.specs.SettingIn.{node_in, setting_in}
use Rattle.c0_expr_code.specs.Known.{local_register, own_register, stands_of, written_word}
use Rattle.c0_expr_code.specs.Node.{local_place, node_made, plain_node}

-- nothing is known, it stands nowhere, and it is no place
record IsUnknown (m : Made) : Type 0 where
  known : None ≡ m.known
  stands : None ≡ m.stands
  register : None ≡ m.register
  place : (r : ℕ) → m.place r ≡ no_address r

operator_unknown : (i : Immediate) (o : BinaryOp) (a b : Made) → IsUnknown (operator_made i o a b)
operator_unknown (Some f) o a b = record { known = refl; stands = refl; register = refl; place = λ r. refl }
operator_unknown None o a b = record { known = refl; stands = refl; register = refl; place = λ r. refl }

sum_unknown : (i k : Immediate) (a b : Made) → IsUnknown (sum_made i k a b)
sum_unknown (Some f) k a b = record { known = refl; stands = refl; register = refl; place = λ r. refl }
sum_unknown None (Some g) a b = record { known = refl; stands = refl; register = refl; place = λ r. refl }
sum_unknown None None a b = record { known = refl; stands = refl; register = refl; place = λ r. refl }

plain_unknown : (o : Plain) (a b : Made) → IsUnknown (plain_node o a b)
plain_unknown Sum a b = sum_unknown (immediate_of (plain_of Sum) b.known) (immediate_of (plain_of Sum) a.known) a b
plain_unknown Difference a b = operator_unknown _ _ a b
plain_unknown Product a b = operator_unknown _ _ a b
plain_unknown (Order o) a b = operator_unknown _ _ a b
plain_unknown Equal a b = operator_unknown _ _ a b
plain_unknown Different a b = operator_unknown _ _ a b

local_known : (st : FrameSetting) (n w : ℕ) (b : Bool) → None ≡ (cond b (register_made (register_of_variable n)) (frame_made (register_holding st.facts n) (λ r. local_place st w))).known
local_known st n w true = refl
local_known st n w false = refl

local_stands : (st : FrameSetting) (n w : ℕ) (b : Bool) → local_register b st.facts n ≡ (cond b (register_made (register_of_variable n)) (frame_made (register_holding st.facts n) (λ r. local_place st w))).stands
local_stands st n w true = refl
local_stands st n w false = refl

pub word_is : (st : FrameSetting) (t : TExpr) → written_word t ≡ (node_made st t).known
word_is st (global k) = refl
word_is st (local n w) = local_known st n w st.in_registers
word_is st (part p k) = refl
word_is st (element p i x) = refl
word_is st (target p) = refl
word_is st (constant k) = refl
word_is st (address p) = refl
word_is st (negative e) = refl
word_is st (negation e) = refl
word_is st (plain o a b) = (plain_unknown o (node_made st a) (node_made st b)).known
word_is st (quotient a b) = refl
word_is st (remainder a b) = refl
word_is st (both a b) = refl
word_is st (either a b) = refl

pub stands_is : (st : FrameSetting) (t : TExpr) → stands_of st.in_registers st.facts t ≡ (node_made st t).stands
stands_is st (global k) = refl
stands_is st (local n w) = local_stands st n w st.in_registers
stands_is st (part p k) = refl
stands_is st (element p i x) = refl
stands_is st (target p) = refl
stands_is st (constant k) = refl
stands_is st (address p) = refl
stands_is st (negative e) = refl
stands_is st (negation e) = refl
stands_is st (plain o a b) = (plain_unknown o (node_made st a) (node_made st b)).stands
stands_is st (quotient a b) = refl
stands_is st (remainder a b) = refl
stands_is st (both a b) = refl
stands_is st (either a b) = refl

-- only a variable is a register
abbrev IsNoLocal : TExpr → Type 0
IsNoLocal (local n w) = ⊥
IsNoLocal _ = Unit {0}

own_none : (b : Bool) (t : TExpr) → IsNoLocal t → own_register b t ≡ None
own_none true (global k) h = refl
own_none false (global k) h = refl
own_none true (part p k) h = refl
own_none false (part p k) h = refl
own_none true (element p i x) h = refl
own_none false (element p i x) h = refl
own_none true (target p) h = refl
own_none false (target p) h = refl
own_none true (constant k) h = refl
own_none false (constant k) h = refl
own_none true (address p) h = refl
own_none false (address p) h = refl
own_none true (negative e) h = refl
own_none false (negative e) h = refl
own_none true (negation e) h = refl
own_none false (negation e) h = refl
own_none true (quotient a b) h = refl
own_none false (quotient a b) h = refl
own_none true (remainder a b) h = refl
own_none false (remainder a b) h = refl
own_none true (both a b) h = refl
own_none false (both a b) h = refl
own_none true (either a b) h = refl
own_none false (either a b) h = refl
own_none true (plain o a b) h = refl
own_none false (plain o a b) h = refl
own_none true (local n w) h = absurd h
own_none false (local n w) h = absurd h

own_local : (st : FrameSetting) (n w : ℕ) (b : Bool) → own_register b (local n w) ≡ (cond b (register_made (register_of_variable n)) (frame_made (register_holding st.facts n) (λ r. local_place st w))).register
own_local st n w true = refl
own_local st n w false = refl

pub own_is : (st : FrameSetting) (t : TExpr) → own_register st.in_registers t ≡ (node_made st t).register
own_is st (local n w) = own_local st n w st.in_registers
own_is st (plain o a b) = own_none st.in_registers (plain o a b) tt ∙ (plain_unknown o (node_made st a) (node_made st b)).register
own_is st (global k) = own_none st.in_registers (global k) tt
own_is st (part p k) = own_none st.in_registers (part p k) tt
own_is st (element p i x) = own_none st.in_registers (element p i x) tt
own_is st (target p) = own_none st.in_registers (target p) tt
own_is st (constant k) = own_none st.in_registers (constant k) tt
own_is st (address p) = own_none st.in_registers (address p) tt
own_is st (negative e) = own_none st.in_registers (negative e) tt
own_is st (negation e) = own_none st.in_registers (negation e) tt
own_is st (quotient a b) = own_none st.in_registers (quotient a b) tt
own_is st (remainder a b) = own_none st.in_registers (remainder a b) tt
own_is st (both a b) = own_none st.in_registers (both a b) tt
own_is st (either a b) = own_none st.in_registers (either a b) tt

view_plain : (o : _) (a b : _) → typed_expr_view (rust.Plain o a b) ≡ plain o (typed_expr_view a.value) (typed_expr_view b.value)
view_plain o a b = search (rules, folds.the_lemmas)

-- an operator on two registers is no place
pub plain_address : (st : FrameSetting) (e : TypedExpr) (o : _) (a b : _) (r : ℕ) → e ≡ rust.Plain o a b → (node_made st (typed_expr_view e)).place r ≡ no_address r
plain_address st e o a b r h =
    ap (λ (x : TypedExpr). (node_made st (typed_expr_view x)).place r) h
    ∙ ap (λ (t : TExpr). (node_made st t).place r) (view_plain o a b)
    ∙ (plain_unknown o (node_made st (typed_expr_view a.value)) (node_made st (typed_expr_view b.value))).place r

view_both : (a b : _) → typed_expr_view (rust.Both a b) ≡ both (typed_expr_view a.value) (typed_expr_view b.value)
view_both a b = search (rules, folds.the_lemmas)

view_either : (a b : _) → typed_expr_view (rust.Either a b) ≡ either (typed_expr_view a.value) (typed_expr_view b.value)
view_either a b = search (rules, folds.the_lemmas)

-- `&&` and `||` are the code of their sides
pub both_value : (s : CodeSetting) (e x y : TypedExpr) (a b : _) (d r : ℕ) → e ≡ rust.Both a b → x ≡ a.value → y ≡ b.value
    → logic_nodes s false x y d r ≡ (node_in s e).value d r
both_value s e x y a b d r h p q =
    ap (λ (z : TypedExpr). logic_nodes s false z y d r) p
    ∙ ap (λ (z : TypedExpr). logic_nodes s false a.value z d r) q
    ∙ ap (λ (t : TExpr). (node_made (setting_in s) t).value d r) (sym (view_both a b))
    ∙ ap (λ (z : TypedExpr). (node_made (setting_in s) (typed_expr_view z)).value d r) (sym h)

pub either_value : (s : CodeSetting) (e x y : TypedExpr) (a b : _) (d r : ℕ) → e ≡ rust.Either a b → x ≡ a.value → y ≡ b.value
    → logic_nodes s true x y d r ≡ (node_in s e).value d r
either_value s e x y a b d r h p q =
    ap (λ (z : TypedExpr). logic_nodes s true z y d r) p
    ∙ ap (λ (z : TypedExpr). logic_nodes s true a.value z d r) q
    ∙ ap (λ (t : TExpr). (node_made (setting_in s) t).value d r) (sym (view_either a b))
    ∙ ap (λ (z : TypedExpr). (node_made (setting_in s) (typed_expr_view z)).value d r) (sym h)

pub both_test : (s : CodeSetting) (e x y : TypedExpr) (a b : _) (w : Bool) (r : ℕ) → e ≡ rust.Both a b → x ≡ a.value → y ≡ b.value
    → logic_node s false x y w r ≡ open_node s e w r
both_test s e x y a b w r h p q =
    ap (λ (z : TypedExpr). logic_node s false z y w r) p
    ∙ ap (λ (z : TypedExpr). logic_node s false a.value z w r) q
    ∙ ap (λ (t : TExpr). node_unpatched (setting_in s) t w r) (sym (view_both a b))
    ∙ ap (λ (z : TypedExpr). node_unpatched (setting_in s) (typed_expr_view z) w r) (sym h)

pub either_test : (s : CodeSetting) (e x y : TypedExpr) (a b : _) (w : Bool) (r : ℕ) → e ≡ rust.Either a b → x ≡ a.value → y ≡ b.value
    → logic_node s true x y w r ≡ open_node s e w r
either_test s e x y a b w r h p q =
    ap (λ (z : TypedExpr). logic_node s true z y w r) p
    ∙ ap (λ (z : TypedExpr). logic_node s true a.value z w r) q
    ∙ ap (λ (t : TExpr). node_unpatched (setting_in s) t w r) (sym (view_either a b))
    ∙ ap (λ (z : TypedExpr). node_unpatched (setting_in s) (typed_expr_view z) w r) (sym h)
