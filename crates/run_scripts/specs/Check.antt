-- A check: its words, and what it tells of the object that it gets: how much stack the object's kernel needs.
use Rattle.std.specs.Prelude.{◌≡◌, ℕ, ◌≤◌, List, [], ◌∷◌, Result, Ok, Err, decimal, codes}
use Rattle.c0_tree.specs.Tree.{CUnit as Unit}
use Rattle.c0_types.specs.Front.{IsFrontAnswer}
use Rattle.c0_types.specs.declared.source_fault.SourceFault.{SourceFault}
use Rattle.bound_check.specs.Chains.{IsLongest, IsLeastLoop}
use Rattle.bound_check.specs.Text.{chain_text, loop_text}
use Rattle.object_file.specs.Answer.{IsObjectAnswer as IsObject}
use Rattle.object_file.specs.Parts.{ObjectParts as Object}
use Rattle.object_file.specs.declared.fault.ObjectFault.{ObjectFault}
use Rattle.kernel_linker.specs.Open.{open_answer}
use Rattle.kernel_linker.specs.declared.fault.LinkFault.{LinkFault}
use Rattle.run_scripts.specs.Refusal.{Refusal, bad_object, unlinked}

-- print how much stack the kernel of an object needs, beside so many words of stack
pub record Check : Type 0 where
  pub object : List ℕ
  pub stack : ℕ

-- check OBJ STACK
pub record IsCheck (words : List (List ℕ)) (c : Check) : Type 0 where
  pub spelled : words ≡ codes "check" ∷ c.object ∷ decimal c.stack ∷ []
  pub least : 64 ≤ c.stack
  pub most : c.stack ≤ 262144

-- WHAT IS TOLD OF A UNIT: its longest chain of calls, beside so many words of stack; or where calls loop, the least loop
pub data TellsUnit (stack : ℕ) (u : Unit) : List ℕ → Type 0 where
  has_longest : (words : ℕ) (functions : List ℕ) → IsLongest u words functions → TellsUnit stack u (chain_text u stack words functions)
  has_loop : (functions : List ℕ) → IsLeastLoop u functions → TellsUnit stack u (loop_text u functions)

-- what is told, or the refusal
abbrev pub CheckTold : Type 0
CheckTold = Result (List ℕ) Refusal

-- OF WHAT WAS OPENED the unit is told, or the fault is refused
abbrev pub TellsOpened : (stack : ℕ) → Result Unit LinkFault → CheckTold → Type 0
TellsOpened stack (Ok u) (Ok text) = TellsUnit stack u text
TellsOpened stack (Err f) (Err r) = r ≡ unlinked f
TellsOpened stack opened told = ⊥

-- OF THE BYTES of an object: it is read, then opened
pub data TellsObject (stack : ℕ) (bytes : List ℕ) : CheckTold → Type 0 where
  no_object : (f : ObjectFault) → IsObject bytes (Err f) → TellsObject stack bytes (Err (bad_object f))
  has_object : (o : Object) (front : Result Unit SourceFault) (told : CheckTold) → IsObject bytes (Ok o) → IsFrontAnswer o.source front
      → TellsOpened stack (open_answer o front) told → TellsObject stack bytes told
