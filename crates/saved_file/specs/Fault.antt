-- The number that is printed of a fault, and the numbers behind it.
use Rattle.std.specs.Prelude.{ℕ, List, [], ◌∷◌}
use Rattle.saved_file.specs.declared.fault.SaveFault.{SaveFault}
use Rattle.saved_file.specs.declared.fault.SaveFault.TheVariants.{Magic, Truncated, Trailing, Field, ForgedWord, SizeTooLarge, TurnsDone, SaveTooLarge, Memory}

-- the number that is printed for a fault
abbrev pub save_fault_number : SaveFault → ℕ
save_fault_number Magic = 100
save_fault_number (Truncated at) = 101
save_fault_number (Trailing at) = 102
save_fault_number (Field position value) = 103
save_fault_number (ForgedWord position stored made) = 104
save_fault_number (SizeTooLarge user pages) = 105
save_fault_number (TurnsDone saved wanted) = 106
save_fault_number (SaveTooLarge bytes) = 107
save_fault_number Memory = 108

-- and the numbers that are printed behind it
abbrev pub save_fault_fields : SaveFault → List ℕ
save_fault_fields Magic = []
save_fault_fields (Truncated at) = at ∷ []
save_fault_fields (Trailing at) = at ∷ []
save_fault_fields (Field position value) = position ∷ value ∷ []
save_fault_fields (ForgedWord position stored made) = position ∷ stored ∷ made ∷ []
save_fault_fields (SizeTooLarge user pages) = user ∷ pages ∷ []
save_fault_fields (TurnsDone saved wanted) = saved ∷ wanted ∷ []
save_fault_fields (SaveTooLarge bytes) = bytes ∷ []
save_fault_fields Memory = []
