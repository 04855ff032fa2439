-- The numbers of faults, as they are printed, and the numbers behind each. A source's own fault has its number and its fields there.
use Rattle.std.specs.Prelude.{ℕ, List, [], ◌∷◌, ◌++◌, Option, Some, None}
use Rattle.c0_tree.specs.declared.tree.Span.{Span}
use Rattle.c0_parser.specs.declared.fault.ReadFault.{ReadFault}
use Rattle.c0_parser.specs.declared.fault.ReadFault.TheVariants.{Memory as NoMemoryToRead}
use Rattle.c0_parser.specs.Faults.{read_fault_number, read_fault_position}
use Rattle.c0_types.specs.declared.fault.TypeFault.{TypeFault}
use Rattle.c0_types.specs.declared.fault.TypeFault.TheVariants.{Memory as NoMemoryToType}
use Rattle.c0_types.specs.Answer.{type_fault_number, type_fault_span, type_fault_line}
use Rattle.c0_types.specs.declared.source_fault.SourceFault.{SourceFault}
use Rattle.c0_types.specs.declared.source_fault.SourceFault.TheVariants.{Reading, Typing}
use Rattle.boot_image.specs.declared.fault.ImageFault.{ImageFault}
use Rattle.boot_image.specs.declared.fault.ImageFault.TheVariants.{Memory as NoMemoryForImage}
use Rattle.boot_image.specs.Fault.{image_fault_number, image_fault_position, image_fault_which, image_fault_value}
use Rattle.kernel_linker.specs.declared.difference.Difference.{Difference}
use Rattle.kernel_linker.specs.declared.difference.Difference.TheVariants.{Count, Word}
use Rattle.kernel_linker.specs.declared.fault.LinkFault.{LinkFault}
use Rattle.kernel_linker.specs.declared.fault.LinkFault.TheVariants as link
use Rattle.kernel_linker.specs.declared.fault.AcceptFault.{AcceptFault}
use Rattle.kernel_linker.specs.declared.fault.AcceptFault.TheVariants as accept

-- a number, if there is one
abbrev pub field_number : Option ℕ → List ℕ
field_number None = []
field_number (Some n) = n ∷ []

-- the first byte of a span and the byte behind it
abbrev pub span_fields : Option Span → List ℕ
span_fields None = []
span_fields (Some s) = s.start ∷ s.end ∷ []

-- the number of a fault of reading, and the byte that it names
abbrev pub read_fields : ReadFault → List ℕ
read_fields f = read_fault_number f ∷ field_number (read_fault_position f)

-- the number of a fault of typing, its span, and the line of an asm text
abbrev pub type_fields : TypeFault → List ℕ
type_fields f = type_fault_number f ∷ (span_fields (type_fault_span f) ++ field_number (type_fault_line f))

-- what an image's fault names: a byte, or a word and its value
abbrev pub image_fields : ImageFault → List ℕ
image_fields f = field_number (image_fault_position f) ++ (field_number (image_fault_which f) ++ field_number (image_fault_value f))

abbrev pub link_fault_number : LinkFault → ℕ
link_fault_number (link.UserCount users) = 60
link_fault_number (link.UserTooLong user words) = 61
link_fault_number (link.Parameter which value) = 62
link_fault_number (link.ObjectForged position stored made) = 63
link_fault_number link.Memory = 64
link_fault_number (link.ObjectForgedCount stored made) = 67
link_fault_number (link.ObjectSource f) = 68
link_fault_number (link.ObjectTypes f) = 69

abbrev pub link_fault_fields : LinkFault → List ℕ
link_fault_fields (link.UserCount users) = users ∷ []
link_fault_fields (link.UserTooLong user words) = user ∷ words ∷ []
link_fault_fields (link.Parameter which value) = which ∷ value ∷ []
link_fault_fields (link.ObjectForged position stored made) = position ∷ stored ∷ made ∷ []
link_fault_fields link.Memory = []
link_fault_fields (link.ObjectForgedCount stored made) = stored ∷ made ∷ []
link_fault_fields (link.ObjectSource f) = read_fields f
link_fault_fields (link.ObjectTypes f) = type_fields f

abbrev pub accept_fault_number : AcceptFault → ℕ
accept_fault_number (accept.File f) = image_fault_number f
accept_fault_number (accept.Source f) = 54
accept_fault_number (accept.Types f) = 55
accept_fault_number (accept.Forged position stored made) = 56
accept_fault_number accept.Memory = 57
accept_fault_number (accept.ForgedCount stored made) = 58

abbrev pub accept_fault_fields : AcceptFault → List ℕ
accept_fault_fields (accept.File f) = image_fields f
accept_fault_fields (accept.Source f) = read_fields f
accept_fault_fields (accept.Types f) = type_fields f
accept_fault_fields (accept.Forged position stored made) = position ∷ stored ∷ made ∷ []
accept_fault_fields accept.Memory = []
accept_fault_fields (accept.ForgedCount stored made) = stored ∷ made ∷ []

-- a source's fault as one of linking: want of memory stays want of memory
abbrev pub link_source_fault : SourceFault → LinkFault
link_source_fault (Reading NoMemoryToRead) = link.Memory
link_source_fault (Reading f) = link.ObjectSource f
link_source_fault (Typing NoMemoryToType) = link.Memory
link_source_fault (Typing f) = link.ObjectTypes f

-- a source's fault as one of accepting
abbrev pub accept_source_fault : SourceFault → AcceptFault
accept_source_fault (Reading NoMemoryToRead) = accept.Memory
accept_source_fault (Reading f) = accept.Source f
accept_source_fault (Typing NoMemoryToType) = accept.Memory
accept_source_fault (Typing f) = accept.Types f

-- a file's fault as one of accepting
abbrev pub accept_file_fault : ImageFault → AcceptFault
accept_file_fault NoMemoryForImage = accept.Memory
accept_file_fault f = accept.File f

-- a difference of words as a fault
abbrev pub link_difference : Difference → LinkFault
link_difference (Count stored made) = link.ObjectForgedCount stored made
link_difference (Word position stored made) = link.ObjectForged position stored made

abbrev pub accept_difference : Difference → AcceptFault
accept_difference (Count stored made) = accept.ForgedCount stored made
accept_difference (Word position stored made) = accept.Forged position stored made
