-- Routines that are laid one after another, with the jumps to them.
use Rattle.std.specs.Prelude.{◌≡◌, ℕ, ◌+◌, ◌%◌, ◌^◌, List, [], ◌∷◌, ◌++◌, length, map}
use Rattle.mips_table.specs.declared.inst.Inst.{Inst}
use Rattle.mips_table.specs.declared.inst.Inst.TheVariants.{J}
use Rattle.mips_table.specs.Encoding.{encoding}
use Rattle.layer_map.specs.Map.{Map}
use Rattle.page_model.specs.TableLayout.{table_layout}
use Rattle.page_fault.specs.Code.{handle_page_code}
use Rattle.cvm_primitives.specs.Code.{vm_word_code, vm_put_code, vm_copy_code, vm_resize_code}
use Rattle.cvm_primitives.specs.RegisterCode.{vm_get_code, vm_set_code, vm_size_code}
use Rattle.real_layer.specs.declared.routines.Routines.{Routines}
use Rattle.real_layer.specs.Image.{returning, code_joined, entries_end}

-- the jumps to routines, the first of which has so many words before it behind the entries
abbrev pub jumps_from : ℕ → List (List Inst) → List Inst
jumps_from n [] = []
jumps_from n (is ∷ rest) = J ((entries_end + n) % 2 ^ 26) ∷ jumps_from (n + length is) rest

-- these routines are laid behind those that there are
pub record Lays (old new : Routines) (more : List (List Inst)) : Type 0 where
  pub entries : new.entries.items ≡ old.entries.items ++ map encoding (jumps_from (length old.words.items) more)
  pub words : new.words.items ≡ old.words.items ++ map encoding (code_joined more)

-- the primitives that use no page and not the console, for so many users
abbrev pub register_routines : ℕ → List (List Inst)
register_routines n = returning (vm_get_code n) ∷ returning (vm_set_code n) ∷ returning (vm_size_code n) ∷ []

-- the primitives on memory
abbrev pub memory_routines : Map → List (List Inst)
memory_routines m =
    let p = table_layout m in
    let n = m.users in
    let per = m.params.pages in
    let page = handle_page_code (table_layout m) in
    returning (vm_resize_code p n per) ∷ returning (vm_word_code p n per page) ∷ returning (vm_put_code p n per page)
    ∷ returning (vm_copy_code p n per page) ∷ []
