-- What the functions of the reader give, by the machine: for proofs.
use Rattle.std.specs.Prelude.{ℕ, ◌≡◌, ◌<◌, ◌≤◌, false, List, [], ◌∷◌, map, length, Result, Ok, Err}
use Rattle.std.specs.Borrow.{Bor}
use Rattle.c0_tokens.specs.Tokens.{CToken, token_view}
use Rattle.c0_tokens.specs.declared.token.Token.{Token}
use Rattle.c0_parser.specs.Sorts.{Sort}
use Rattle.c0_parser.specs.Value.{SemanticValue}
use Rattle.c0_parser.specs.Grammar.{Piece, one_of}
use Rattle.c0_parser.specs.Machine.{ParserState, at, Task, want, more, heads, ParserLeads}
use Rattle.c0_parser.specs.declared.reader.Halt.{Halt}
use Rattle.c0_parser.specs.declared.reader.Halt.TheVariants.{Left}

-- tokens as contracts see them
abbrev pub as_seen : List Token → List CToken
as_seen ts = map token_view ts

-- the first token is not of this sort
abbrev pub IsNotNext : Sort → List Token → Type 0
IsNotNext sort ts = heads (one_of sort []) (as_seen ts) ≡ false

-- the piece is read from the first tokens to the others, with this meaning
pub record PieceReads (p : Piece) (ts : List CToken) (v : SemanticValue) (rest : List CToken) : Type 0 where
  pub by : (st : List Task) (vs : List SemanticValue) → ParserLeads (at ts (want p ∷ st) vs) (at rest st (v ∷ vs))

-- a state leads to a token that is not wanted
pub record Stuck (s : ParserState) (rest : List CToken) : Type 0 where
  pub sort : Sort
  pub sorts : List Sort
  pub tasks : List Task
  pub values : List SemanticValue
  pub leads : ParserLeads s (at rest (want (one_of sort sorts) ∷ tasks) values)
  pub refused : heads (one_of sort sorts) rest ≡ false

-- the piece cannot be read: the first of the tokens left is the first that cannot be
pub record Refuses (p : Piece) (ts rest : List CToken) : Type 0 where
  pub by : (st : List Task) (vs : List SemanticValue) → Stuck (at ts (want p ∷ st) vs) rest

-- a list is read further, from the parts so far to more parts
pub record PieceGoesOn (p : Piece) (ts : List CToken) (v : SemanticValue) (rest : List CToken) (w : SemanticValue) : Type 0 where
  pub by : (st : List Task) (vs : List SemanticValue) → ParserLeads (at ts (more p ∷ st) (v ∷ vs)) (at rest (more p ∷ st) (w ∷ vs))

-- the piece cannot be read, and so many tokens are left; or there is no memory
pub record PieceFails (p : Piece) (ts : List CToken) (h : Halt) : Type 0 where
  pub by : (n : ℕ) → h ≡ Left n → (rest : List CToken) × Refuses p ts rest × (length rest ≡ n)

-- what was read is a piece whose meaning is in this relation to what is answered; some token was read
abbrev pub PieceReading : {A : Type 0} → Piece → (A → SemanticValue → Type 0) → List Token → A × Bor (List Token) → Type 0
PieceReading p Is ts r = (v : SemanticValue) × PieceReads p (as_seen ts) v (as_seen r.1.now) × Is r.0 v × (length r.1.now < length ts)

abbrev pub PieceGives : {A : Type 0} → Piece → (A → SemanticValue → Type 0) → List Token → Result (A × Bor (List Token)) Halt → Type 0
PieceGives p Is ts (Ok r) = PieceReading p Is ts r
PieceGives p Is ts (Err h) = PieceFails p (as_seen ts) h

-- the same of a piece that nothing may stand for
abbrev pub ReadingAny : {A : Type 0} → Piece → (A → SemanticValue → Type 0) → List Token → A × Bor (List Token) → Type 0
ReadingAny p Is ts r = (v : SemanticValue) × PieceReads p (as_seen ts) v (as_seen r.1.now) × Is r.0 v × (length r.1.now ≤ length ts)

abbrev pub GivesAny : {A : Type 0} → Piece → (A → SemanticValue → Type 0) → List Token → Result (A × Bor (List Token)) Halt → Type 0
GivesAny p Is ts (Ok r) = ReadingAny p Is ts r
GivesAny p Is ts (Err h) = PieceFails p (as_seen ts) h
