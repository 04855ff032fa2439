-- An expression never fails for want of stack: only the call of a function does.
use Rattle.std.proofs.Common.{ℕ, zero, suc, Bool, true, false, nat_lt, List, [], ◌∷◌}
use Rattle.std.specs.Prelude.{ℤ, pos, negsuc, if◌then◌else◌, Option, Some, None, Result, Ok, Err, ok_or}
use Rattle.c0_tree.specs.declared.tree.Kind.{Kind}
use Rattle.c0_tree.specs.declared.tree.Kind.TheVariants.{Global, Local}
use Rattle.c0_tree.specs.declared.tree.UnaryOp.{UnaryOp}
use Rattle.c0_tree.specs.declared.tree.UnaryOp.TheVariants.{Negate, Not}
use Rattle.c0_tree.specs.declared.tree.BinaryOp.{BinaryOp}
use Rattle.c0_tree.specs.declared.tree.BinaryOp.TheVariants.{Div, Rem, Eq, Ne, And, Or}
use Rattle.c0_tree.specs.Tree.{CName, CExpr, num, true_, false_, null, var, field, arrow, index, deref, address, unary, binary}
use Rattle.cvm_words.specs.Words.{quotient, remainder}
use Rattle.c0_meaning.specs.Value.{Location, Value, int, bool, at, group, Values, empty, part, count, below}
use Rattle.c0_meaning.specs.Value as value
use Rattle.c0_meaning.specs.State.{C0State, read}
use Rattle.c0_meaning.specs.Operators.{Failure, NullUse, Bounds, DivZero, StackOut, faulted, stuck, on_unary, on_binary, on_ints, divided}
use Rattle.c0_meaning.specs.Evaluation.{Costed, costs, at_no_cost, paying, ◌>>=◌, bool_of, variable_location, pointed_to, element_of, truth, both_sides, load_from, indexed, field_of, pointed, value_of, place_of, values_of}

-- another failure than want of stack
abbrev pub IsOther : Failure → Type 0
IsOther (faulted NullUse) = Unit {0}
IsOther (faulted Bounds) = Unit {0}
IsOther (faulted DivZero) = Unit {0}
IsOther (faulted StackOut) = ⊥
IsOther stuck = Unit {0}

-- a result that is no want of stack, and an evaluation that comes to one
abbrev pub HasRoom : {A : Type 0} → Result A Failure → Type 0
HasRoom (Ok x) = Unit {0}
HasRoom (Err f) = IsOther f

abbrev pub Stays : {A : Type 0} → Costed A → Type 0
Stays (costs n r) = HasRoom r

pays : {A : Type 0} (k : ℕ) (e : Costed A) → Stays e → Stays (paying k e)
pays k (costs n r) h = h

binds : {A B : Type 0} (e : Costed A) (f : A → Costed B) → Stays e → ((x : A) → Stays (f x)) → Stays (e >>= f)
binds (costs n (Ok x)) f h g = pays n (f x) (g x)
binds (costs n (Err e)) f h g = h

bool_stays : (v : Value) → HasRoom (bool_of v)
bool_stays (int z) = tt
bool_stays (bool b) = tt
bool_stays value.null = tt
bool_stays (at l) = tt
bool_stays (group vs) = tt

variable_stays : (k : Kind) (n : ℕ) → HasRoom (variable_location k n)
variable_stays Global n = tt
variable_stays Local n = tt
variable_stays _ n = tt

behind_stays : (v : Value) → HasRoom (pointed_to v)
behind_stays (int z) = tt
behind_stays (bool b) = tt
behind_stays value.null = tt
behind_stays (at l) = tt
behind_stays (group vs) = tt

either : {A : Type 0} (b : Bool) (x y : Result A Failure) → HasRoom x → HasRoom y → HasRoom (if b then x else y)
either true x y h g = h
either false x y h g = g

element_stays : (l : Location) (o : Option Value) (v : Value) → HasRoom (element_of l o v)
element_stays l (Some (group vs)) (int (pos i)) = either (nat_lt i (count vs)) (Ok (below l i)) (Err (faulted Bounds)) tt tt
element_stays l (Some (group vs)) (int (negsuc i)) = tt
element_stays l _ _ = tt

found_stays : {A : Type 0} (o : Option A) → HasRoom (ok_or o stuck)
found_stays (Some x) = tt
found_stays None = tt

unary_stays : (op : UnaryOp) (v : Value) → HasRoom (on_unary op v)
unary_stays Negate (int a) = tt
unary_stays Not (bool b) = tt
unary_stays _ _ = tt

divided_stays : (division : ℤ → ℤ → ℤ) (a b : ℤ) → HasRoom (divided division a b)
divided_stays division a (pos zero) = tt
divided_stays division a (pos (suc n)) = tt
divided_stays division a (negsuc n) = tt

ints_stay : (op : BinaryOp) (a b : ℤ) → HasRoom (on_ints op a b)
ints_stay Div a b = divided_stays quotient a b
ints_stay Rem a b = divided_stays remainder a b
ints_stay _ a b = tt

binary_stays : (op : BinaryOp) (v w : Value) → HasRoom (on_binary op v w)
binary_stays Eq v w = tt
binary_stays Ne v w = tt
binary_stays op (int a) (int b) = ints_stay op a b
binary_stays op _ _ = tt

truth_stays : (e : Costed Value) → Stays e → Stays (truth e)
truth_stays e h = binds e _ h (λ v. bool_stays v)

if_stays : {A : Type 0} (b : Bool) (x y : Costed A) → Stays x → Stays y → Stays (if b then x else y)
if_stays true x y h g = h
if_stays false x y h g = g

sides_stay : (op : BinaryOp) (a b : Costed Value) → Stays a → Stays b → Stays (a >>= λ v. b >>= λ w. at_no_cost (on_binary op v w))
sides_stay op a b h g = binds a _ h (λ v. binds b _ g (λ w. binary_stays op v w))

both_stay : (op : BinaryOp) (a b : Costed Value) → Stays a → Stays b → Stays (both_sides op a b)
both_stay And a b h g = binds (truth a) _ (truth_stays a h) (λ t. if_stays t b (at_no_cost (Ok (bool false))) g tt)
both_stay Or a b h g = binds (truth a) _ (truth_stays a h) (λ t. if_stays t (at_no_cost (Ok (bool true))) b tt g)
both_stay op a b h g = sides_stay op a b h g

loaded_stays : (s : C0State) (e : Costed Location) → Stays e → Stays (load_from s e)
loaded_stays s e h = binds e _ h (λ l. found_stays (read s l))

indexed_stays : (s : C0State) (place : Costed Location) (i : Costed Value) → Stays place → Stays i → Stays (indexed s place i)
indexed_stays s place i h g = binds place _ h (λ l. binds i _ g (λ v. element_stays l (read s l) v))

field_stays : (f : CName) (place : Costed Location) → Stays place → Stays (field_of f place)
field_stays f place h = binds place _ h (λ l. tt)

pointed_stays : (e : Costed Value) → Stays e → Stays (pointed e)
pointed_stays e h = binds e _ h (λ v. behind_stays v)

mutual
  pub value_stays : (e : CExpr) (s : C0State) → Stays (value_of e s)
  value_stays (num p n) s = tt
  value_stays (true_ p) s = tt
  value_stays (false_ p) s = tt
  value_stays (null p) s = tt
  value_stays (var x) s = pays 1 _ (loaded_stays s (at_no_cost (variable_location x.kind x.number)) (variable_stays x.kind x.number))
  value_stays (field p e f) s = pays 1 _ (loaded_stays s _ (field_stays f _ (place_stays e s)))
  value_stays (arrow p e f) s = pays 1 _ (loaded_stays s _ (field_stays f _ (pointed_stays _ (value_stays e s))))
  value_stays (index p e i) s = pays 1 _ (loaded_stays s _ (indexed_stays s _ _ (place_stays e s) (value_stays i s)))
  value_stays (deref p e) s = pays 1 _ (loaded_stays s _ (pointed_stays _ (value_stays e s)))
  value_stays (address p e) s = pays 1 _ (binds (place_of e s) _ (place_stays e s) (λ l. tt))
  value_stays (unary p op e) s = pays 1 _ (binds (value_of e s) _ (value_stays e s) (λ v. unary_stays op v))
  value_stays (binary p op a b) s = pays 1 _ (both_stay op _ _ (value_stays a s) (value_stays b s))

  pub place_stays : (e : CExpr) (s : C0State) → Stays (place_of e s)
  place_stays (var x) s = variable_stays x.kind x.number
  place_stays (field p e f) s = pays 1 _ (field_stays f _ (place_stays e s))
  place_stays (arrow p e f) s = pays 1 _ (field_stays f _ (pointed_stays _ (value_stays e s)))
  place_stays (index p e i) s = pays 1 _ (indexed_stays s _ _ (place_stays e s) (value_stays i s))
  place_stays (deref p e) s = pays 1 _ (pointed_stays _ (value_stays e s))
  place_stays _ s = tt

pub values_stay : (es : List CExpr) (s : C0State) → Stays (values_of es s)
values_stay [] s = tt
values_stay (e ∷ es) s = binds (value_of e s) _ (value_stays e s) (λ v. binds (values_of es s) _ (values_stay es s) (λ vs. tt))

pub truth_of_stays : (e : CExpr) (s : C0State) → Stays (truth (value_of e s))
truth_of_stays e s = truth_stays (value_of e s) (value_stays e s)

-- a function that is looked up
pub function_stays : {A : Type 0} (o : Option A) → Stays (at_no_cost (ok_or o stuck))
function_stays o = found_stays o
