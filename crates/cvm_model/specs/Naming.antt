-- The primitives by their names: the table of names, the numbers and the meanings belong together.
use Rattle.std.specs.Prelude.{◌≡◌, ℕ, ℤ, List, [], ◌∷◌, codes, position, Option, Some, option_and_then}
use Rattle.std.specs.Str.{bytes_eq}
use Rattle.c0_tree.specs.Primitives.{kernel_primitives}
use Rattle.cvm_model.specs.Primitives.{KernelCall, VmGet, VmSet, VmSize, VmResize, VmWord, VmPut, VmCopy, ConPut, ConGet, ConLeft}
use Rattle.cvm_model.specs.KernelMeaning.{call_numbered}

-- the call of the primitive of a name with these arguments, if there is one
abbrev pub call_named : List ℕ → List ℤ → Option KernelCall
call_named name args = option_and_then (λ n. call_numbered n args) (position (λ row. bytes_eq row.name name) kernel_primitives)

-- what each name calls
pub record NamesAreCalls : Type 0 where
  pub vm_get : (u r : ℤ) → call_named (codes "vm_get") (u ∷ r ∷ []) ≡ Some (VmGet u r)
  pub vm_set : (u r v : ℤ) → call_named (codes "vm_set") (u ∷ r ∷ v ∷ []) ≡ Some (VmSet u r v)
  pub vm_size : (u : ℤ) → call_named (codes "vm_size") (u ∷ []) ≡ Some (VmSize u)
  pub vm_resize : (u pages : ℤ) → call_named (codes "vm_resize") (u ∷ pages ∷ []) ≡ Some (VmResize u pages)
  pub vm_word : (u a : ℤ) → call_named (codes "vm_word") (u ∷ a ∷ []) ≡ Some (VmWord u a)
  pub vm_put : (u a v : ℤ) → call_named (codes "vm_put") (u ∷ a ∷ v ∷ []) ≡ Some (VmPut u a v)
  pub vm_copy : (u a v b n : ℤ) → call_named (codes "vm_copy") (u ∷ a ∷ v ∷ b ∷ n ∷ []) ≡ Some (VmCopy u a v b n)
  pub con_put : (w : ℤ) → call_named (codes "con_put") (w ∷ []) ≡ Some (ConPut w)
  pub con_get : call_named (codes "con_get") [] ≡ Some ConGet
  pub con_left : call_named (codes "con_left") [] ≡ Some ConLeft
