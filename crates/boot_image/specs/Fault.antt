-- The numbers of a fault.
use Rattle.std.specs.Prelude.{ℕ, Option, Some, None}
use Rattle.boot_image.specs.declared.fault.ImageFault.{ImageFault}
use Rattle.boot_image.specs.declared.fault.ImageFault.TheVariants.{Magic, Truncated, Trailing, Parameter, Memory}

-- the number that is printed for a fault
abbrev pub image_fault_number : ImageFault → ℕ
image_fault_number Magic = 50
image_fault_number (Truncated at) = 51
image_fault_number (Trailing at) = 52
image_fault_number (Parameter which value) = 53
image_fault_number Memory = 57

-- the byte of the file that a fault names
abbrev pub image_fault_position : ImageFault → Option ℕ
image_fault_position Magic = None
image_fault_position (Truncated at) = Some at
image_fault_position (Trailing at) = Some at
image_fault_position (Parameter which value) = None
image_fault_position Memory = None

-- the number of the word that may not stand in its field
abbrev pub image_fault_which : ImageFault → Option ℕ
image_fault_which Magic = None
image_fault_which (Truncated at) = None
image_fault_which (Trailing at) = None
image_fault_which (Parameter which value) = Some which
image_fault_which Memory = None

-- the number that may not stand in a field
abbrev pub image_fault_value : ImageFault → Option ℕ
image_fault_value Magic = None
image_fault_value (Truncated at) = None
image_fault_value (Trailing at) = None
image_fault_value (Parameter which value) = Some value
image_fault_value Memory = None
