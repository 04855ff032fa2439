-- What is known of a function's variables at a place of its code: which of those in the frame a register has too, and which surely aren't null.
use Rattle.std.specs.Prelude.{◌≡◌, ◌≢◌, ℕ, ◌+◌, ◌%◌, ◌^◌, Bool, true, false, not, ◌&&◌, ◌==◌}
use Rattle.std.specs.Prelude.{nat_lt, if◌then◌else◌, List, [], ◌∷◌, replicate, get_or, slice_set, Option, Some, None, IsTrue}
use Rattle.masm.specs.declared.registers.TheConstants.{ANSWER, ARGUMENTS}
use Rattle.c0_meaning.specs.Value.{Region, locals, Value, null, get}
use Rattle.c0_typed.specs.declared.sorted.Plain.{Plain}
use Rattle.c0_typed.specs.declared.sorted.Plain.TheVariants.{Sum, Difference, Product, Order, Equal, Different}
use Rattle.c0_typed.specs.Tree.{TExpr, global, local, part, element, target, constant, address, negative, negation, plain, quotient, remainder, both, either}
use Rattle.c0_expr_code.specs.declared.facts.Facts.{Facts}

-- the register of the variable of a number, where variables stand in registers, and of the parameter of a number at a call
abbrev pub register_of_variable : ℕ → ℕ
register_of_variable n = (ARGUMENTS + n) % 2 ^ 5

-- nothing
abbrev pub nothing_known : Facts
nothing_known = record { params = replicate 8 false; answer = None; sure = replicate 64 false }

-- at a function's begin: its parameters came in registers, where it doesn't keep its variables there
abbrev pub start_facts : (in_registers : Bool) → (params : ℕ) → Facts
start_facts true k = nothing_known
start_facts false k = record {
  params = nat_lt 0 k ∷ nat_lt 1 k ∷ nat_lt 2 k ∷ nat_lt 3 k ∷ nat_lt 4 k ∷ nat_lt 5 k ∷ nat_lt 6 k ∷ nat_lt 7 k ∷ [];
  answer = None;
  sure = replicate 64 false;
}

-- whether the variable that has the answer is that of a number
abbrev pub holds_answer : Option ℕ → ℕ → Bool
holds_answer None n = false
holds_answer (Some m) n = m == n

-- whether the variable of a number is a parameter that stands in its argument's register
abbrev pub holds_param : Facts → ℕ → Bool
holds_param f n = nat_lt n 8 && get_or f.params n false

-- the register that has the word of a variable in the frame
abbrev pub register_holding : Facts → ℕ → Option ℕ
register_holding f n = if holds_answer f.answer n then Some ANSWER else if holds_param f n then Some (register_of_variable n) else None

-- whether a variable surely isn't null
abbrev pub is_not_null : Facts → ℕ → Bool
is_not_null f n = get_or f.sure n false

-- once a variable is assigned to, nothing is known of it
abbrev pub assigned_to : Facts → ℕ → Facts
assigned_to f n = record {
  params = slice_set f.params n false;
  answer = if holds_answer f.answer n then None else f.answer;
  sure = slice_set f.sure n false;
}

-- a call changes the registers, and no variable
abbrev pub facts_called : Facts → Facts
facts_called f = record { params = replicate 8 false; answer = None; sure = f.sure }

-- `new` changes the answer's register
abbrev pub renewed : Facts → Facts
renewed f = record { params = f.params; answer = None; sure = f.sure }

-- the answer went to a variable
abbrev pub facts_answered : Facts → ℕ → Facts
facts_answered f n = record { params = f.params; answer = Some n; sure = f.sure }

-- the argument of a number went to its register
abbrev pub overwritten : Facts → ℕ → Facts
overwritten f i = record { params = slice_set f.params i false; answer = f.answer; sure = f.sure }

-- a variable isn't null
abbrev pub found_sure : Facts → ℕ → Facts
found_sure f n = record { params = f.params; answer = f.answer; sure = slice_set f.sure n true }

-- the variable that an expression is
abbrev pub variable_in : TExpr → Option ℕ
variable_in (local n w) = Some n
variable_in _ = None

-- a variable isn't null, if there is one
abbrev pub with_sure : Facts → Option ℕ → Facts
with_sure f None = f
with_sure f (Some n) = found_sure f n

-- whether an expression is a variable that surely isn't null
abbrev pub sure_variable : Facts → Option ℕ → Bool
sure_variable f None = false
sure_variable f (Some n) = is_not_null f n

abbrev pub is_sure_pointer : Facts → TExpr → Bool
is_sure_pointer f e = sure_variable f (variable_in e)

-- Once an expression has a value or a place: it followed these variables, so they aren't null. The right sides of `&&` and `||` needn't be evaluated.
abbrev pub facts_followed : TExpr → Facts → Facts
facts_followed (global k) f = f
facts_followed (local n w) f = f
facts_followed (part p k) f = facts_followed p f
facts_followed (element p i x) f = facts_followed i (facts_followed p f)
facts_followed (target p) f = with_sure (facts_followed p f) (variable_in p)
facts_followed (constant k) f = f
facts_followed (address p) f = facts_followed p f
facts_followed (negative e) f = facts_followed e f
facts_followed (negation e) f = facts_followed e f
facts_followed (plain o a b) f = facts_followed b (facts_followed a f)
facts_followed (quotient a b) f = facts_followed b (facts_followed a f)
facts_followed (remainder a b) f = facts_followed b (facts_followed a f)
facts_followed (both a b) f = facts_followed a f
facts_followed (either a b) f = facts_followed a f

-- whether an expression is written as 0, `false` or `null`
abbrev pub is_zero : TExpr → Bool
is_zero (constant k) = k == 0
is_zero _ = false

-- whether the sides of an operator differ where it came out so
abbrev pub tells_difference : Plain → Bool → Bool
tells_difference Sum s = false
tells_difference Difference s = false
tells_difference Product s = false
tells_difference (Order o) s = false
tells_difference Equal s = not s
tells_difference Different s = s

-- Once an operator on two registers came out so: where its sides differ and the right one is written as `null`, the variable that the left one is isn't
-- null. A `null` at the left tells nothing.
abbrev pub facts_compared : Plain → (a b : TExpr) → Bool → Facts → Facts
facts_compared o a b s f =
    if tells_difference o s && is_zero b then with_sure (facts_followed b (facts_followed a f)) (variable_in a)
    else facts_followed b (facts_followed a f)

-- once a test came out so
abbrev pub facts_told : TExpr → Bool → Facts → Facts
facts_told (negation e) s f = facts_told e (not s) f
facts_told (plain o a b) s f = facts_compared o a b s f
facts_told (both a b) s f = if s then facts_told b true (facts_told a true f) else facts_followed a f
facts_told (either a b) s f = if s then facts_followed a f else facts_told b false (facts_told a false f)
facts_told e s f = facts_followed e f

-- some facts are among others
pub record IsWithin (less more : Facts) : Type 0 where
  pub params : (n : ℕ) → IsTrue (holds_param less n) → IsTrue (holds_param more n)
  pub answer : (n : ℕ) → IsTrue (holds_answer less.answer n) → IsTrue (holds_answer more.answer n)
  pub sure : (n : ℕ) → IsTrue (is_not_null less n) → IsTrue (is_not_null more n)

-- some facts have the same registers as others
pub record HaveSameRegisters (f g : Facts) : Type 0 where
  pub params : f.params ≡ g.params
  pub answer : f.answer ≡ g.answer

-- no variable is known to stand in a register, whatever else that has
pub record IsFreeRegister (f : Facts) (d : ℕ) : Type 0 where
  pub params : (n : ℕ) → IsTrue (holds_param f n) → d ≢ ARGUMENTS + n
  pub answer : (n : ℕ) → IsTrue (holds_answer f.answer n) → d ≢ ANSWER

-- of a function's variables those aren't null that are sure
abbrev pub SureHold : Facts → (variables : Value) → Type 0
SureHold f v = (n : ℕ) → IsTrue (is_not_null f n) → get v (n ∷ []) ≢ Some null

-- once something is stored at a path in a region: nothing is known of the variable that it is
abbrev pub stored_in : Region → (path : List ℕ) → Facts → Facts
stored_in locals (n ∷ []) f = assigned_to f n
stored_in _ _ f = f
