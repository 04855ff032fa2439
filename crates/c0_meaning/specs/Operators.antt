-- What operators give.
use Rattle.std.specs.Prelude.{zero, ℤ, pos, ◌+ℤ◌, ◌-ℤ◌, ◌*ℤ◌, neg_ℤ, int_lt, int_le, Bool, true, false, not, ◌&&◌, if◌then◌else◌, bytes_eq, Result, Ok, Err}
use Rattle.std.specs.Int.{int_wrap, w32}
use Rattle.std.specs.Ordering.{int_eq}
use Rattle.c0_tree.specs.declared.tree.UnaryOp.{UnaryOp}
use Rattle.c0_tree.specs.declared.tree.UnaryOp.TheVariants.{Negate, Not}
use Rattle.c0_tree.specs.declared.tree.BinaryOp.{BinaryOp}
use Rattle.c0_tree.specs.declared.tree.BinaryOp.TheVariants.{Add, Sub, Mul, Div, Rem, Lt, Le, Gt, Ge, Eq, Ne}
use Rattle.cvm_words.specs.Words.{quotient, remainder}
use Rattle.c0_meaning.specs.Value.{Region, globals, heap, locals, Value, int, bool, null, at}

-- how a kernel fails: a use of null, an index outside its array, a division by zero, a call past the stack's limit
pub data KernelFault : Type 0 where
  NullUse Bounds DivZero StackOut : KernelFault

-- why a run stops before its end: by a fault of the kernel; or it is stuck, since a tree, a state or a primitive's answer has no type
pub data Failure : Type 0 where
  faulted : KernelFault → Failure
  stuck : Failure

-- whether two regions are the same
abbrev pub same_region : Region → Region → Bool
same_region globals globals = true
same_region heap heap = true
same_region locals locals = true
same_region _ _ = false

-- whether two scalars of one type are the same: pointers are where both are null, or both name the same object part
abbrev pub same : Value → Value → Bool
same (int a) (int b) = int_eq a b
same (bool a) (bool b) = if a then b else not b
same null null = true
same (at l) (at m) = same_region l.region m.region && bytes_eq l.path m.path
same _ _ = false

-- a unary operator
abbrev pub on_unary : UnaryOp → Value → Result Value Failure
on_unary Negate (int a) = Ok (int (int_wrap w32 (neg_ℤ a)))
on_unary Not (bool b) = Ok (bool (not b))
on_unary _ _ = Err stuck

-- a division: the right side isn't 0
abbrev pub divided : (ℤ → ℤ → ℤ) → ℤ → ℤ → Result Value Failure
divided division a (pos zero) = Err (faulted DivZero)
divided division a b = Ok (int (division a b))

-- a binary operator on ints: sums, differences and products wrap around, and divisions truncate towards zero
abbrev pub on_ints : BinaryOp → ℤ → ℤ → Result Value Failure
on_ints Add a b = Ok (int (int_wrap w32 (a +ℤ b)))
on_ints Sub a b = Ok (int (int_wrap w32 (a -ℤ b)))
on_ints Mul a b = Ok (int (int_wrap w32 (a *ℤ b)))
on_ints Div a b = divided quotient a b
on_ints Rem a b = divided remainder a b
on_ints Lt a b = Ok (bool (int_lt a b))
on_ints Le a b = Ok (bool (int_le a b))
on_ints Gt a b = Ok (bool (int_lt b a))
on_ints Ge a b = Ok (bool (int_le b a))
on_ints _ a b = Err stuck

-- a binary operator whose sides are both evaluated
abbrev pub on_binary : BinaryOp → Value → Value → Result Value Failure
on_binary Eq v w = Ok (bool (same v w))
on_binary Ne v w = Ok (bool (not (same v w)))
on_binary op (int a) (int b) = on_ints op a b
on_binary op _ _ = Err stuck
