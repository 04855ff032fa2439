-- What the emitters say of the code that they append.
use Rattle.std.specs.Prelude.{◌≡◌, ℕ, ◌%◌, ◌^◌, Bool, true, false, ◌==◌, if◌then◌else◌, List, [], ◌∷◌, ◌++◌, length, map, Option, Some, None, Result, OnOk}
use Rattle.mips_table.specs.declared.inst.Inst.{Inst}
use Rattle.mips_table.specs.declared.inst.Inst.TheVariants.{Lw, Sw, Addiu, Lui, Addu, Sltiu, Sltu, Xori, Mflo, Mfhi, Beq, Bne, Sll, Mult}
use Rattle.mips_table.specs.Encoding.{encoding}
use Rattle.masm.specs.declared.registers.TheConstants.{SCRATCH}
use Rattle.c0_expr_code.specs.declared.address.Address.{Address as Near}
use Rattle.c0_expr_code.specs.declared.address.Access.{Access}
use Rattle.c0_expr_code.specs.declared.address.Access.TheVariants.{Load, Store, Address}
use Rattle.c0_expr_code.specs.Code.{AddressingMode, Immediate, constant_code, frame_value, high, low}

-- the words of this code were appended, unless memory was wanting
abbrev pub Appends : {A E : Type 0} → (old new : List ℕ) → List Inst → Result A E → Type 0
Appends old new code result = OnOk result (new ≡ old ++ map encoding code)

-- the instruction that does with a place what is asked: it loads from there to a register, stores the register there, or puts its address
-- into the register
abbrev pub access_inst : Access → (register base displacement : ℕ) → Inst
access_inst Load d b k = Lw d b k
access_inst Store d b k = Sw d b k
access_inst Address d b k = Addiu d b k

-- a place whose code stands already
abbrev pub address_view : Near → AddressingMode
address_view x = record { code = []; base = x.base; displacement = x.displacement }

-- the access to a place that is too far for an immediate
abbrev pub far_code : (ℕ → ℕ → Inst) → ℕ → AddressingMode → List Inst
far_code f r x = Lui SCRATCH (high x.displacement) ∷ Addu r x.base SCRATCH ∷ f r (low x.displacement) ∷ []

-- the code of an operator with a constant, where there is such code
abbrev pub code_with : Immediate → (d q : ℕ) → List Inst
code_with (Some f) d q = f d q
code_with None d q = []

-- whether there is such code
abbrev pub is_immediate : Immediate → Bool
is_immediate (Some f) = true
is_immediate None = false

-- the instruction that tells whether a register is 0, or whether it isn't
abbrev pub zero_test : Bool → (d q : ℕ) → Inst
zero_test true d q = Sltiu d q 1
zero_test false d q = Sltu d 0 q

-- whether a register is a constant, or whether it isn't
abbrev pub equality_code : Bool → (k d q : ℕ) → List Inst
equality_code b k d q = if k == 0 then zero_test b d q ∷ [] else Xori d q k ∷ zero_test b d d ∷ []

-- the instruction that takes the quotient, or else the remainder
abbrev pub taken_inst : Bool → ℕ → Inst
taken_inst true d = Mflo d
taken_inst false d = Mfhi d

-- a place whose code stands already is another place
abbrev pub IsSameAddress : Near → AddressingMode → Type 0
IsSameAddress x y = (x.base ≡ y.base) × (x.displacement ≡ y.displacement)

-- a variable as value: it stands in a register, or in the frame, where a register may have it too
abbrev pub held_code : (in_registers : Bool) → Option ℕ → AddressingMode → (d r : ℕ) → List Inst
held_code true (Some q) x d r = Addu d q 0 ∷ []
held_code true None x d r = frame_value None x d r
held_code false q x d r = frame_value q x d r

-- the branch over the right side of `||`, or else of `&&`
abbrev pub logic_skip : Bool → (r k : ℕ) → Inst
logic_skip true r k = Bne r 0 k
logic_skip false r k = Beq r 0 k

-- the word in a register times the bytes of an element, into the scratch register
abbrev pub scaled_at : Option ℕ → (bytes q : ℕ) → List Inst
scaled_at (Some by) bytes q = Sll SCRATCH q by ∷ []
scaled_at None bytes q = constant_code SCRATCH bytes ++ (Mult q SCRATCH ∷ Mflo SCRATCH ∷ [])

-- the branch over the right side of `||`, or else of `&&`, and that side's code
abbrev pub right_code : Bool → ℕ → List Inst → List Inst
right_code b r code = logic_skip b r (length code % 2 ^ 16) ∷ code
