-- Texts of kernels and user programs, and the trees that they mean. To be used to carry what was proved of a tree to every unit of its text: prove `IsTextOf`
-- by computation, and `texts_mean_trees` gives `Means`.
use Rattle.std.specs.Prelude.{◌≡◌, ◌≤◌, ℕ, ℤ, true, List, [], length}
use Rattle.layer_map.specs.declared.params.Params.{Params}
use Rattle.c0_tree.specs.declared.primitive.Program.{Program}
use Rattle.c0_tree.specs.declared.primitive.Program.TheVariants.{Kernel, User}
use Rattle.c0_tree.specs.Tree.{CUnit}
use Rattle.c0_meaning.specs.Bare.{bare}
use Rattle.c0_meaning.specs.UserProgram.{prog}
use Rattle.c0_parser.specs.Walk.{walk, start, is_read, tree_of}
use Rattle.c0_types.specs.Source.{source_faults_as, checked_as}
use Rattle.c0_types.specs.Front.{IsUnitOf, IsUnitAs}
use Rattle.cvm_model.specs.KernelMeaning.{kernel_meaning}

-- whatever unit is that of a text means what a tree means
abbrev pub Means : List ℕ → CUnit → Type 0
Means text tree = (u : CUnit) (p : Params) → IsUnitOf text u → kernel_meaning u p ≡ kernel_meaning tree p

-- a text, of a kernel or a user program, is read in so many steps, no fault stands in it, and its checked unit without its places is a tree; each of these
-- computes
pub record IsTextAs (program : Program) (n : ℕ) (text : List ℕ) (tree : CUnit) : Type 0 where
  pub short : length text ≤ 1048576
  pub reads : is_read (walk n (start text)) ≡ true
  pub faultless : source_faults_as program (tree_of n text) ≡ []
  pub is : bare (checked_as program (tree_of n text)) ≡ tree

-- a kernel's text
abbrev pub IsTextOf : (n : ℕ) (text : List ℕ) (tree : CUnit) → Type 0
IsTextOf = IsTextAs Kernel

-- a law: such a text means the tree
abbrev pub TextsMeanTrees : Type 0
TextsMeanTrees = (n : ℕ) (text : List ℕ) (tree : CUnit) → IsTextOf n text tree → Means text tree

-- whatever unit is that of a user program's text is a tree without its places, and the program that the tree is
pub record MeansProgram (text : List ℕ) (tree : CUnit) : Type 0 where
  pub tree_is : (u : CUnit) → IsUnitAs User text u → bare u ≡ tree
  pub program_is : (u : CUnit) → IsUnitAs User text u → (answers : List ℤ) (n : ℕ) → prog u answers n ≡ prog tree answers n

-- a law: a program's text means the tree so
abbrev pub ProgramTextsMeanTrees : Type 0
ProgramTextsMeanTrees = (n : ℕ) (text : List ℕ) (tree : CUnit) → IsTextAs User n text tree → MeansProgram text tree
