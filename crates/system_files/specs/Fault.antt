-- The numbers of faults, as they are printed, and the numbers behind each.
use Rattle.std.specs.Prelude.{ℕ, List, [], ◌∷◌}
use Rattle.system_files.specs.declared.fault.FileFault.{FileFault}
use Rattle.system_files.specs.declared.fault.FileFault.TheVariants.{Parameter, Memory, UserTorn, BadParams}

abbrev pub file_fault_number : FileFault → ℕ
file_fault_number (Parameter which value) = 62
file_fault_number Memory = 64
file_fault_number (UserTorn user bytes) = 65
file_fault_number (BadParams line) = 66

abbrev pub file_fault_fields : FileFault → List ℕ
file_fault_fields (Parameter which value) = which ∷ value ∷ []
file_fault_fields Memory = []
file_fault_fields (UserTorn user bytes) = user ∷ bytes ∷ []
file_fault_fields (BadParams line) = line ∷ []
