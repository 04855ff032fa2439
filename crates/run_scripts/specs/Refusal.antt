-- The refusals, with the row and the status of each.
use Rattle.std.specs.Prelude.{ℕ, ℤ, List, [], ◌∷◌, ◌++◌, Option, Some, None, option_map, decimal, codes}
use Rattle.std.specs.Fmt.{signed_decimal}
use Rattle.mips_asm.specs.Fault.{asm_fault_number, asm_fault_position, asm_fault_line, asm_fault_value}
use Rattle.mips_asm.specs.declared.fault.AsmFault.{AsmFault}
use Rattle.c0_tree.specs.declared.tree.Span.{Span}
use Rattle.c0_parser.specs.Faults.{read_fault_number, read_fault_position}
use Rattle.c0_types.specs.Answer.{type_fault_number, type_fault_span, type_fault_line}
use Rattle.c0_types.specs.declared.source_fault.SourceFault.{SourceFault}
use Rattle.c0_types.specs.declared.source_fault.SourceFault.TheVariants.{Reading, Typing}
use Rattle.user_c0.specs.Compiled.{fault_number as user_fault_number, fault_fields as user_fault_fields}
use Rattle.user_c0.specs.declared.fault.UserFault.{UserFault}
use Rattle.object_file.specs.Answer.{object_fault_number, object_fault_position, object_fault_value}
use Rattle.object_file.specs.declared.fault.ObjectFault.{ObjectFault}
use Rattle.system_files.specs.Fault.{file_fault_number, file_fault_fields}
use Rattle.system_files.specs.declared.fault.FileFault.{FileFault}
use Rattle.kernel_linker.specs.Fault.{link_fault_number, link_fault_fields, accept_fault_number, accept_fault_fields}
use Rattle.kernel_linker.specs.declared.fault.AcceptFault.{AcceptFault}
use Rattle.schedule_file.specs.Fault.{schedule_fault_number, schedule_fault_line, schedule_fault_value}
use Rattle.schedule_file.specs.declared.fault.ScheduleFault.{ScheduleFault}
use Rattle.kernel_linker.specs.declared.fault.LinkFault.{LinkFault}
use Rattle.saved_file.specs.Fault.{save_fault_number, save_fault_fields}
use Rattle.saved_file.specs.declared.fault.SaveFault.{SaveFault}
use Rattle.run_scripts.specs.declared.exit_status.Status.{Status}
use Rattle.run_scripts.specs.declared.exit_status.Status.TheVariants.{Refused, Disk, Shelf}

pub data Refusal : Type 0 where
  -- 1 to 7: a user's text has no words
  bad_text : (fault : AsmFault) → Refusal
  -- 10 to 14, and 20 to 36: the source of a kernel or a user program has no tree, or its tree is not typed
  bad_source : (fault : SourceFault) → Refusal
  -- 37: the image of a user program is too large
  bad_program : (fault : UserFault) → Refusal
  -- 40 to 43: a file is no object
  bad_object : (fault : ObjectFault) → Refusal
  -- 62, 65 and 66: a text has no parameters, or a user's file no words
  bad_file : (fault : FileFault) → Refusal
  -- 60 to 63 and 67 to 69: an object, parameters and users are not linked
  unlinked : (fault : LinkFault) → Refusal
  -- 50 to 56 and 58: an image is not accepted
  unaccepted : (fault : AcceptFault) → Refusal
  -- 70 to 72 and 74: a text is no schedule
  bad_schedule : (fault : ScheduleFault) → Refusal
  -- 100 to 106: a file is not taken up; 107: a machine's file may be too long
  bad_save : (fault : SaveFault) → Refusal
  -- 90: the disk has fewer sectors than the users' pages need
  small_disk : (need have : ℕ) → Refusal
  -- 96: the user of a trace is none of the users
  no_such_user : (user users : ℕ) → Refusal
  -- 81: a file has more than 67,108,864 bytes
  too_long : Refusal

-- a field of a row, if it has one
abbrev pub field_text : Option ℕ → List ℕ
field_text None = []
field_text (Some n) = 32 ∷ decimal n

abbrev pub signed_field_text : Option ℤ → List ℕ
signed_field_text None = []
signed_field_text (Some n) = 32 ∷ signed_decimal n

-- the row of a fault of a user's text: its number, and the place, the line and the value that it has
abbrev pub text_fault_row : AsmFault → List ℕ
text_fault_row f =
    codes "refused " ++ decimal (asm_fault_number f) ++ field_text (asm_fault_position f) ++ field_text (asm_fault_line f)
    ++ signed_field_text (asm_fault_value f) ++ codes "\n"

-- where a span starts
abbrev pub span_start : Option Span → Option ℕ
span_start span = option_map (λ s. s.start) span

-- where it ends
abbrev pub span_end : Option Span → Option ℕ
span_end span = option_map (λ s. s.end) span

-- the row of a fault of the source of a kernel or a user program: its number, and the byte that it names; or the span that it names, and the line
abbrev pub source_fault_row : SourceFault → List ℕ
source_fault_row (Reading f) = codes "refused " ++ decimal (read_fault_number f) ++ field_text (read_fault_position f) ++ codes "\n"
source_fault_row (Typing f) =
    codes "refused " ++ decimal (type_fault_number f) ++ field_text (span_start (type_fault_span f)) ++ field_text (span_end (type_fault_span f))
    ++ field_text (type_fault_line f) ++ codes "\n"

-- a row of numbers: the refusal's, and those behind it
abbrev pub numbers_text : List ℕ → List ℕ
numbers_text [] = []
numbers_text (n ∷ rest) = 32 ∷ decimal n ++ numbers_text rest

abbrev pub numbers_row : (number : ℕ) → (fields : List ℕ) → List ℕ
numbers_row number fields = codes "refused " ++ decimal number ++ numbers_text fields ++ codes "\n"

-- the row of a fault of an object: its number, the byte that it names, and the value that stands there
abbrev pub object_fault_row : ObjectFault → List ℕ
object_fault_row f =
    codes "refused " ++ decimal (object_fault_number f) ++ field_text (object_fault_position f) ++ field_text (object_fault_value f) ++ codes "\n"

-- the row of a fault of a schedule: its number, the line, and the value that is out of range
abbrev pub schedule_fault_row : ScheduleFault → List ℕ
schedule_fault_row f =
    codes "refused " ++ decimal (schedule_fault_number f) ++ field_text (schedule_fault_line f) ++ field_text (schedule_fault_value f) ++ codes "\n"

-- the row that is printed
abbrev pub refusal_text : Refusal → List ℕ
refusal_text (bad_text f) = text_fault_row f
refusal_text (bad_source f) = source_fault_row f
refusal_text (bad_program f) = numbers_row (user_fault_number f) (user_fault_fields f)
refusal_text (bad_object f) = object_fault_row f
refusal_text (bad_file f) = numbers_row (file_fault_number f) (file_fault_fields f)
refusal_text (unlinked f) = numbers_row (link_fault_number f) (link_fault_fields f)
refusal_text (unaccepted f) = numbers_row (accept_fault_number f) (accept_fault_fields f)
refusal_text (bad_schedule f) = schedule_fault_row f
refusal_text (bad_save f) = numbers_row (save_fault_number f) (save_fault_fields f)
refusal_text (small_disk need have) = numbers_row 90 (need ∷ have ∷ [])
refusal_text (no_such_user user users) = numbers_row 96 (user ∷ users ∷ [])
refusal_text too_long = codes "refused 81\n"

-- the status beside the row: a file that is too long is the shelf's fault, and a disk that is too small the disk's
abbrev pub refusal_status : Refusal → Status
refusal_status (small_disk need have) = Disk
refusal_status too_long = Shelf
refusal_status other = Refused
