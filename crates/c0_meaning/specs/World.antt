-- What a unit runs in, and where a run stands.
use Rattle.std.specs.Prelude.{ℕ, ◌+◌, List, [], ◌∷◌, ◌++◌, length, Option, None}
use Rattle.c0_tree.specs.Tree.{CUnit}
use Rattle.c0_meaning.specs.Value.{Value, Values}
use Rattle.c0_meaning.specs.State.{C0State}

-- what a call of a primitive comes to: the answer, the world's value after it, the journal entries that it makes, and how many pages
-- and words it touches
pub record Called (W E : Type 0) : Type 0 where
  pub answer : Value
  pub world : W
  pub entries : List E
  pub pages : ℕ
  pub words : ℕ

-- the meaning of primitives, over a world with values in W and journal entries in E: what the call of a primitive comes to, by its
-- number, its argument values and the world's value
abbrev pub PrimitiveMeaning : (W E : Type 0) → Type 0
PrimitiveMeaning W E = ℕ → Values → W → Called W E

-- what a run is set in: a unit with the words of its heap and of its stack, and what its primitives mean
pub record Setting (W E : Type 0) : Type 0 where
  pub unit : CUnit
  pub heap : ℕ
  pub stack : ℕ
  pub meaning : PrimitiveMeaning W E

-- What a run costs: units that are the program's own (an expression node, a statement, a test of a loop, a call, a zeroed word, a word of
-- an asm body), units that are a primitive's (its call, and each word and page that it touches), and the pages that primitives use.
pub record Cost : Type 0 where
  pub own : ℕ
  pub primitive : ℕ
  pub pages : ℕ

-- units of the program's own
abbrev pub units : ℕ → Cost
units n = record { own = n; primitive = 0; pages = 0 }

-- all units
abbrev pub total : Cost → ℕ
total c = c.own + c.primitive

-- one cost and another
abbrev pub plus : Cost → Cost → Cost
plus a b = record { own = a.own + b.own; primitive = a.primitive + b.primitive; pages = a.pages + b.pages }

-- where a run stands: the state of C0, the world's value, the calls of primitives that ended, each by its journal entries, the oldest
-- first, and the answer of the first function once it has returned
pub record Configuration (W E : Type 0) : Type 0 where
  pub state : C0State
  pub world : W
  pub calls : List (List E)
  pub answer : Option Value

-- the entries of calls, one after another
abbrev pub all_entries : {E : Type 0} → List (List E) → List E
all_entries [] = []
all_entries (entries ∷ rest) = entries ++ all_entries rest

-- the journal entries so far
abbrev pub journal_so_far : {W E : Type 0} → Configuration W E → List E
journal_so_far c = all_entries c.calls

-- how many calls of primitives ended
abbrev pub calls_ended : {W E : Type 0} → Configuration W E → ℕ
calls_ended c = length c.calls

-- where a run begins
abbrev pub beginning : {W E : Type 0} → C0State → W → Configuration W E
beginning s world = record { state = s; world = world; calls = []; answer = None }

-- with another state of C0
abbrev pub with_state : {W E : Type 0} → Configuration W E → C0State → Configuration W E
with_state c s = record c { state = s }

-- after a call of a primitive
abbrev pub after_call : {W E : Type 0} → Configuration W E → Called W E → Configuration W E
after_call c r = record c { world = r.world; calls = c.calls ++ r.entries ∷ [] }

-- the units that are a primitive's, and its pages
abbrev pub call_cost : {W E : Type 0} → Called W E → Cost
call_cost r = record { own = 0; primitive = 1 + r.words + r.pages; pages = r.pages }
