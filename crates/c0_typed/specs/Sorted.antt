-- Which operator of C0 each operator on two registers is.
use Rattle.c0_tree.specs.declared.tree.BinaryOp.{BinaryOp}
use Rattle.c0_tree.specs.declared.tree.BinaryOp.TheVariants.{Add, Sub, Mul, Lt, Le, Gt, Ge, Eq, Ne}
use Rattle.c0_typed.specs.declared.sorted.Order.{Order as Orders}
use Rattle.c0_typed.specs.declared.sorted.Order.TheVariants.{Less, LessOrEqual, Greater, GreaterOrEqual}
use Rattle.c0_typed.specs.declared.sorted.Plain.{Plain}
use Rattle.c0_typed.specs.declared.sorted.Plain.TheVariants.{Sum, Difference, Product, Order, Equal, Different}

-- of an order
abbrev pub order_of : Orders → BinaryOp
order_of Less = Lt
order_of LessOrEqual = Le
order_of Greater = Gt
order_of GreaterOrEqual = Ge

-- of any
abbrev pub plain_of : Plain → BinaryOp
plain_of Sum = Add
plain_of Difference = Sub
plain_of Product = Mul
plain_of (Order o) = order_of o
plain_of Equal = Eq
plain_of Different = Ne
