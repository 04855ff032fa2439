-- What a source reads as, and why it reads as nothing.
use Rattle.std.specs.Prelude.{ℕ, ◌≡◌, ◌<◌, ◌≤◌, List, [], ◌∷◌, ◌++◌, length, Option, Some, None}
use Rattle.c0_tokens.specs.declared.token.TokenFault.TheVariants as token_fault
use Rattle.c0_tokens.specs.Tokens.{CToken, CLexeme, faulty}
use Rattle.c0_tokens.specs.Nesting.{tokens_of}
use Rattle.c0_tree.specs.Tree.{CUnit}
use Rattle.c0_parser.specs.Value.{SemanticValue, pair, parsed_unit}
use Rattle.c0_parser.specs.Grammar.{UNIT, Derives}
use Rattle.c0_parser.specs.declared.fault.ReadFault.{ReadFault}
use Rattle.c0_parser.specs.declared.fault.ReadFault.TheVariants.{BadByte, BadNumber, Unexpected, TooNested, SourceTooLong, Memory}

-- the tokens of a source derive this tree
abbrev pub ReadsAs : List ℕ → CUnit → Type 0
ReadsAs source u = (items : SemanticValue) × (stop : SemanticValue) × Derives UNIT (tokens_of source) (pair items stop)
    × (parsed_unit (length source) items ≡ u)

-- tokens begin some unit with the end of its source
abbrev pub IsPrefix : List CToken → Type 0
IsPrefix ts = (more : List CToken) × (v : SemanticValue) × Derives UNIT (ts ++ more) v

-- a token is the first that cannot be: those before it begin some unit, and with it they begin none
pub record IsFirstBad (ts : List CToken) (t : CToken) : Type 0 where
  pub before : List CToken
  pub after : List CToken
  pub stands : ts ≡ before ++ t ∷ after
  pub good : IsPrefix before
  pub bad : IsPrefix (before ++ t ∷ []) → ⊥

-- the fault of a token that cannot be where it stands: its own, or that it is unexpected
abbrev pub fault_by : CLexeme → ℕ → ReadFault
fault_by (faulty token_fault.BadByte) position = BadByte position
fault_by (faulty token_fault.BadNumber) position = BadNumber position
fault_by (faulty token_fault.TooNested) position = TooNested position
fault_by _ position = Unexpected position

abbrev pub fault_at : CToken → ReadFault
fault_at t = fault_by t.lexeme t.start

-- the number that is printed for a fault
abbrev pub read_fault_number : ReadFault → ℕ
read_fault_number (BadByte at) = 10
read_fault_number (BadNumber at) = 11
read_fault_number (Unexpected at) = 12
read_fault_number (TooNested at) = 13
read_fault_number SourceTooLong = 14
read_fault_number Memory = 15

-- the first byte of the token that cannot be, where the fault has one
abbrev pub read_fault_position : ReadFault → Option ℕ
read_fault_position (BadByte at) = Some at
read_fault_position (BadNumber at) = Some at
read_fault_position (Unexpected at) = Some at
read_fault_position (TooNested at) = Some at
read_fault_position SourceTooLong = None
read_fault_position Memory = None

-- why a source has no tree: it is too long, or this is the fault of its first token that cannot be; want of memory says nothing
abbrev pub FaultIs : List ℕ → ReadFault → Type 0
FaultIs source Memory = Unit {0}
FaultIs source SourceTooLong = 1048576 < length source
FaultIs source f = (length source ≤ 1048576) × ((t : CToken) × IsFirstBad (tokens_of source) t × (f ≡ fault_at t))
