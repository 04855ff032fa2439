-- What is known of variables holds on: with less of it, where code keeps registers, and where a value goes to a place.
use Rattle.std.specs.Prelude.{◌%◌, ◌^◌, ◌&&◌, nat_eq, Ok, Err, Result, pos, negsuc, nat_lt, if◌then◌else◌, IsTrue, Some}
use Rattle.std.proofs.Common.{◌≡◌, ◌≢◌, ℕ, ◌+◌, ◌*◌, ◌<◌, Bool, true, false, Option, None, List, [], ◌∷◌, ◌++◌, refl, sym, ap, ◌∙◌, subst, arith, eq-eqb, eqb-true}
use Rattle.mips_table.specs.Code.{Contents}
use Rattle.c0_tree.specs.declared.tree.Kind.{Kind}
use Rattle.c0_tree.specs.declared.tree.Kind.TheVariants.{Unresolved, Struct, Field, Global, Local, Function, Primitive}
use Rattle.c0_tree.specs.Tree.{CName, CExpr, num, true_, false_, null, var, field, arrow, index, deref, address, unary, binary}
use Rattle.c0_meaning.specs.Env.{Env}
use Rattle.c0_meaning.specs.Value.{Region, globals, heap, locals, Location, Value, int, group, below, count}
use Rattle.c0_meaning.specs.Operators.{Failure, Bounds, faulted}
use Rattle.c0_meaning.specs.State.{C0State, variables_of, read}
use Rattle.c0_meaning.specs.Numbered.{is_frame_place, is_in_frame}
use Rattle.c0_meaning.specs.Expression.{is_lvalue}
use Rattle.c0_meaning.specs.Sizes.{words_before}
use Rattle.c0_meaning.specs.TypeAt.{type_at}
use Rattle.c0_meaning.specs.Evaluation.{Costed, costs, at_no_cost, paying, element_of, field_of, indexed, place_of, value_of, variable_location}
use Rattle.c0_meaning.specs.TypedState.{types_of}
use Rattle.c0_typed.specs.declared.tree.Elements.{Elements}
use Rattle.c0_typed.specs.Tree.{TExpr}
use Rattle.c0_typed.specs.Tree as tree
use Rattle.c0_typed.specs.Typed.{elements_in, typed_element, typed_of_expr, typed_variable, written_number}
use Rattle.c0_expr_code.specs.declared.facts.Facts.{Facts}
use Rattle.c0_expr_code.specs.Facts.{IsFreeRegister, IsWithin, HaveSameRegisters, SureHold, facts_answered, assigned_to, facts_called, holds_answer, holds_param, overwritten, stored_in}
use Rattle.c0_expr_code.specs.Scope.{Scope}
use Rattle.c0_expr_runs.specs.Bases.{Bases, locals_start, location_word}
use Rattle.c0_expr_runs.specs.Relation.{FactsHold, RegistersHold}
use Rattle.c0_stmt_code.specs.Behind.{answer_known, kill_place}
use Rattle.c0_stmt_code.specs.Live.{is_variable}
use Rattle.c0_runs.proofs.FactsBehind.{called_no_param, overwritten_others, place_shrinks, within_itself}
use Rattle.c0_runs.proofs.LiveAroundSteps.{found_variable}

-- fewer facts hold where more do
pub registers_within : (sc : Scope) (p : Bases) (less more : Facts) (c : Contents) → IsWithin less more → RegistersHold sc p more c → RegistersHold sc p less c
registers_within sc p less more c w h = record { params = λ n y. h.params n (w.params n y); answer = λ n y. h.answer n (w.answer n y) }

pub facts_within : (sc : Scope) (p : Bases) (less more : Facts) (s : C0State) (c : Contents) → IsWithin less more → FactsHold sc p more s c → FactsHold sc p less s c
facts_within sc p less more s c w h = record { registers = λ e. registers_within sc p less more c w (h.registers e); sure = λ n y. h.sure n (w.sure n y) }

-- facts with the same registers
pub same_registers : (sc : Scope) (p : Bases) (f g : Facts) (s : C0State) (c : Contents) → HaveSameRegisters g f → SureHold g (variables_of s.frames) → FactsHold sc p f s c → FactsHold sc p g s c
same_registers sc p f g s c same sure h = record {
  registers = λ e. record {
    params = λ n y. (h.registers e).params n (subst IsTrue (ap (λ l. holds_param (record { params = l; answer = None; sure = [] }) n) same.params) y);
    answer = λ n y. (h.registers e).answer n (subst IsTrue (ap (λ o. holds_answer o n) same.answer) y);
  };
  sure = sure;
}

-- code of expressions goes to none of the registers that have a variable's word
pub free_between : (f : Facts) (d : ℕ) → 2 < d → d < 20 → IsFreeRegister f d
free_between f d lo hi = record { params = λ n y e. absurd (omega (arith, e, hi)); answer = λ n y e. absurd (omega (arith, e, lo)) }

-- numbers at the ends of paths
no_number : (n : ℕ) → n ∷ [] ≡ [] → ⊥
no_number n e = cc

one_number : (m n : ℕ) → m ∷ [] ≡ n ∷ [] → m ≡ n
one_number m n e = cc

-- the end of a path, and that of one that was followed further
no_end : (path : List ℕ) (i : ℕ) → path ++ i ∷ [] ≡ [] → ⊥
no_end [] i e = cc
no_end (x ∷ path) i e = cc

longer : (path : List ℕ) (i n : ℕ) → path ≢ [] → path ++ i ∷ [] ≡ n ∷ [] → ⊥
longer [] i n some e = some refl
longer (x ∷ path) i n some e = let q : path ++ i ∷ [] ≡ [] = cc in no_end path i q

ok_same : {A : Type 0} (k u : ℕ) (a b : A) → costs k (Ok a) ≡ costs u (Ok b) → b ≡ a
ok_same k u a b e = cc

-- where the place is of which a field or an element was found
field_in : (r : Costed Location) (f : CName) (u : ℕ) (l : Location) → paying 1 (field_of f r) ≡ costs u (Ok l) → (k : ℕ) × (m : Location) × (r ≡ costs k (Ok m)) × (l.path ≡ m.path ++ f.number ∷ [])
field_in (costs k (Ok m)) f u l e = (k, m, refl, ap (λ y. y.path) (ok_same (1 + (k + 0)) u (below m f.number) l e))
field_in (costs k (Err x)) f u l e = absurd (cc)

element_in : (m : Location) (o : Option Value) (v : Value) (l : Location) → element_of m o v ≡ Ok l → (i : ℕ) × (l.path ≡ m.path ++ i ∷ [])
element_in m (Some (group vs)) (int (pos i)) l e = by_bound (nat_lt i (count vs)) e
  where
    by_bound : (b : Bool) → (if b then Ok (below m i) else Err (faulted Bounds)) ≡ Ok l → (i : ℕ) × (l.path ≡ m.path ++ i ∷ [])
    by_bound true q = (i, let y : l ≡ below m i = cc in ap (λ y. y.path) y)
    by_bound false q = absurd (cc)
element_in m (Some (group vs)) (int (negsuc i)) l e = absurd (cc)
element_in m _ _ l e = absurd (cc)

index_in : (s : C0State) (r : Costed Location) (i : Costed Value) (u : ℕ) (l : Location) → paying 1 (indexed s r i) ≡ costs u (Ok l) → (k : ℕ) × (m : Location) × (n : ℕ) × (r ≡ costs k (Ok m)) × (l.path ≡ m.path ++ n ∷ [])
index_in s (costs k (Ok m)) (costs j (Ok v)) u l e = by_element (element_of m (read s m) v) refl e
  where
    by_element : (o : Result Location Failure) → element_of m (read s m) v ≡ o → costs (1 + (k + (j + 0))) o ≡ costs u (Ok l) → (q : ℕ) × (y : Location) × (n : ℕ) × (costs k (Ok m) ≡ costs q (Ok y)) × (l.path ≡ y.path ++ n ∷ [])
    by_element (Ok y) is q = let h = element_in m (read s m) v y is in (k, m, h.0, refl, ap (λ y. y.path) (ok_same (1 + (k + (j + 0))) u y l q) ∙ h.1)
    by_element (Err x) is q = absurd (cc)
index_in s (costs k (Ok m)) (costs j (Err x)) u l e = absurd (cc)
index_in s (costs k (Err x)) i u l e = absurd (cc)

-- the path of a place in the frame isn't empty
some_path : (p : CExpr) (s : C0State) (u : ℕ) (l : Location) → IsTrue (is_frame_place p) → place_of p s ≡ costs u (Ok l) → l.path ≢ []
some_path (var x) s u l frame e = by_kind x.kind e
  where
    by_kind : (k : Kind) → paying 1 (at_no_cost (variable_location k x.number)) ≡ costs u (Ok l) → l.path ≢ []
    by_kind Global q = let y = ap (λ y. y.path) (ok_same 1 u _ l q) in λ z. absurd (no_number x.number (sym y ∙ z))
    by_kind Local q = let y = ap (λ y. y.path) (ok_same 1 u _ l q) in λ z. absurd (no_number x.number (sym y ∙ z))
    by_kind Unresolved q = absurd (cc)
    by_kind Struct q = absurd (cc)
    by_kind Field q = absurd (cc)
    by_kind Function q = absurd (cc)
    by_kind Primitive q = absurd (cc)
some_path (field t e f) s u l frame h = let y = field_in (place_of e s) f u l h in λ z. no_end y.1.path f.number (sym y.3 ∙ z)
some_path (index t e i) s u l frame h = let y = index_in s (place_of e s) (value_of i s) u l h in λ z. no_end y.1.path y.2 (sym y.4 ∙ z)
some_path (arrow t e f) s u l frame h = absurd (cc)
some_path (deref t e) s u l frame h = absurd (cc)
some_path (num t n) s u l frame h = absurd (cc)
some_path (true_ t) s u l frame h = absurd (cc)
some_path (false_ t) s u l frame h = absurd (cc)
some_path (null t) s u l frame h = absurd (cc)
some_path (address t e) s u l frame h = absurd (cc)
some_path (unary t o e) s u l frame h = absurd (cc)
some_path (binary t o a b) s u l frame h = absurd (cc)

-- a place that is found at a variable as a whole is that variable
pub is_that_variable : (env : Env) (p : CExpr) (s : C0State) (u : ℕ) (l : Location) (n : ℕ) (f : Facts) → IsTrue (is_frame_place p) → place_of p s ≡ costs u (Ok l) → l.path ≡ n ∷ [] → kill_place (typed_of_expr env p) f ≡ assigned_to f n
is_that_variable env (var x) s u l n f frame e at = by_kind x.kind frame e
  where
    by_kind : (k : Kind) → IsTrue (is_in_frame k) → paying 1 (at_no_cost (variable_location k x.number)) ≡ costs u (Ok l) → kill_place (typed_variable env k x.number) f ≡ assigned_to f n
    by_kind Local h q = let y = ap (λ y. y.path) (ok_same 1 u _ l q) in ap (λ i. assigned_to f i) (one_number x.number n (sym y ∙ at))
    by_kind Global h q = absurd (cc)
    by_kind Unresolved h q = absurd (cc)
    by_kind Struct h q = absurd (cc)
    by_kind Field h q = absurd (cc)
    by_kind Function h q = absurd (cc)
    by_kind Primitive h q = absurd (cc)
is_that_variable env (field t e f) s u l n fs frame h at = let y = field_in (place_of e s) f u l h in absurd (longer y.1.path f.number n (some_path e s y.0 y.1 frame y.2) (sym y.3 ∙ at))
is_that_variable env (index t e i) s u l n fs frame h at = let y = index_in s (place_of e s) (value_of i s) u l h in absurd (longer y.1.path y.2 n (some_path e s y.0 y.1 frame y.3) (sym y.4 ∙ at))
is_that_variable env (arrow t e f) s u l n fs frame h at = absurd (cc)
is_that_variable env (deref t e) s u l n fs frame h at = absurd (cc)
is_that_variable env (num t k) s u l n fs frame h at = absurd (cc)
is_that_variable env (true_ t) s u l n fs frame h at = absurd (cc)
is_that_variable env (false_ t) s u l n fs frame h at = absurd (cc)
is_that_variable env (null t) s u l n fs frame h at = absurd (cc)
is_that_variable env (address t e) s u l n fs frame h at = absurd (cc)
is_that_variable env (unary t o e) s u l n fs frame h at = absurd (cc)
is_that_variable env (binary t o a b) s u l n fs frame h at = absurd (cc)

-- so what is left where a value goes to a place is known where it has gone to the location
pub place_within : (env : Env) (p : CExpr) (s : C0State) (u : ℕ) (l : Location) (f : Facts) → (l.region ≡ locals → IsTrue (is_frame_place p)) → place_of p s ≡ costs u (Ok l)
    → IsWithin (kill_place (typed_of_expr env p) f) (stored_in l.region l.path f)
place_within env p s u l f frame e = by_region l.region l.path (λ q. frame q) (λ n q. is_that_variable env p s u l n f q e)
  where
    by_region : (r : Region) (path : List ℕ) → (r ≡ locals → IsTrue (is_frame_place p)) → ((n : ℕ) → IsTrue (is_frame_place p) → path ≡ n ∷ [] → kill_place (typed_of_expr env p) f ≡ assigned_to f n)
        → IsWithin (kill_place (typed_of_expr env p) f) (stored_in r path f)
    by_region globals path h g = place_shrinks (typed_of_expr env p) f
    by_region heap path h g = place_shrinks (typed_of_expr env p) f
    by_region locals [] h g = place_shrinks (typed_of_expr env p) f
    by_region locals (n ∷ []) h g = subst (λ y. IsWithin (kill_place (typed_of_expr env p) f) y) (g n (h refl) refl) (within_itself (kill_place (typed_of_expr env p) f))
    by_region locals (n ∷ m ∷ path) h g = place_shrinks (typed_of_expr env p) f

-- a place that is a local in the typed tree is that variable
local_is : (env : Env) (p : CExpr) (n w : ℕ) → IsTrue (is_lvalue p) → typed_of_expr env p ≡ tree.local n w → IsTrue (is_variable p n)
local_is env (var x) n w place e = by_kind x.kind e
  where
    by_kind : (k : Kind) → typed_variable env k x.number ≡ tree.local n w → (is_in_frame k && nat_eq x.number n) ≡ true
    by_kind Local q = let y : x.number ≡ n = cc in eq-eqb x.number n y
    by_kind Global q = absurd (cc)
    by_kind Unresolved q = absurd (cc)
    by_kind Struct q = absurd (cc)
    by_kind Field q = absurd (cc)
    by_kind Function q = absurd (cc)
    by_kind Primitive q = absurd (cc)
local_is env (field t e f) n w place q = absurd (cc)
local_is env (arrow t e f) n w place q = absurd (cc)
local_is env (deref t e) n w place q = absurd (cc)
local_is env (index t e i) n w place q = absurd (no_local (elements_in env.structs (type_at env e)) (typed_of_expr env e) (typed_of_expr env i) (written_number i) q)
  where
    no_local : (x : Elements) (a b : TExpr) (o : Option ℕ) → typed_element x a b o ≡ tree.local n w → ⊥
    no_local x a b None y = cc
    no_local x a b (Some c) y = by_bound (nat_lt c x.count) y
      where
        by_bound : (g : Bool) → (if g then tree.part a (c * x.bytes % 2 ^ 32) else tree.element a b x) ≡ tree.local n w → ⊥
        by_bound true z = cc
        by_bound false z = cc
local_is env (num t k) n w place q = absurd (let y : false ≡ true = place in cc)
local_is env (true_ t) n w place q = absurd (let y : false ≡ true = place in cc)
local_is env (false_ t) n w place q = absurd (let y : false ≡ true = place in cc)
local_is env (null t) n w place q = absurd (let y : false ≡ true = place in cc)
local_is env (address t e) n w place q = absurd (let y : false ≡ true = place in cc)
local_is env (unary t o e) n w place q = absurd (let y : false ≡ true = place in cc)
local_is env (binary t o a b) n w place q = absurd (let y : false ≡ true = place in cc)

-- where an answer's place has the word of register 2, it is known of the variable that it is
pub answer_holds : (sc : Scope) (p : Bases) (e : CExpr) (f : Facts) (s later : C0State) (u : ℕ) (l : Location) (b : Contents) → IsTrue (is_lvalue e) → place_of e s ≡ costs u (Ok l) → b.regs 2 ≡ b.memory (location_word sc p l)
    → FactsHold sc p f later b → FactsHold sc p (answer_known sc.in_registers (typed_of_expr sc.env e) f) later b
answer_holds sc p e f s later u l b place found is h = by_form sc.in_registers
  where
    known : (n w : ℕ) → typed_of_expr sc.env e ≡ tree.local n w → FactsHold sc p (facts_answered f n) later b
    known n w q =
        let at = found_variable e s u l n found (local_is sc.env e n w place q) in
        let word : location_word sc p l ≡ locals_start sc p + words_before sc.env.structs (types_of sc.env.locals) n = ap (location_word sc p) at ∙ omega arith in
        record {
          registers = λ form. record {
            params = (h.registers form).params;
            answer = λ m y t there scalar. is ∙ ap b.memory (word ∙ ap (λ i. locals_start sc p + words_before sc.env.structs (types_of sc.env.locals) i) (eqb-true n m y));
          };
          sure = h.sure;
        }

    by_tree : (t : TExpr) → typed_of_expr sc.env e ≡ t → FactsHold sc p (answer_known false t f) later b
    by_tree (tree.local n w) q = known n w q
    by_tree t q = h

    by_form : (r : Bool) → FactsHold sc p (answer_known r (typed_of_expr sc.env e) f) later b
    by_form true = h
    by_form false = by_tree (typed_of_expr sc.env e) refl

-- an answer tells of no variable that it isn't null
pub answer_sure : (r : Bool) (t : TExpr) (f : Facts) (v : Value) → SureHold f v → SureHold (answer_known r t f) v
answer_sure true t f v h = h
answer_sure false (tree.local n w) f v h = h
answer_sure false t f v h = h

-- where nothing is known of registers
pub registers_forgotten : (sc : Scope) (p : Bases) (f : Facts) (c : Contents) → IsWithin f (facts_called f) → RegistersHold sc p f c
registers_forgotten sc p f c w = record { params = λ n y. absurd (called_no_param f n (w.params n y)); answer = λ n y. absurd (none (w.answer n y)) }
  where
    none : false ≡ true → ⊥
    none e = cc

-- an argument's value goes to its register: of the others it is known as before
pub others_free : (f : Facts) (i : ℕ) → IsFreeRegister (overwritten f i) (20 + i)
others_free f i = record { params = λ n y e. overwritten_others f i n y (omega (arith, e)); answer = λ n y e. absurd (omega (arith, e)) }
