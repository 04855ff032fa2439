-- The primitives: what each call answers and changes, the words that it touches and the pages that it uses.
use Rattle.std.specs.Prelude.{ℕ, zero, suc, ◌+◌, ◌-◌, ◌*◌, ◌/◌, ◌%◌, ℤ, pos, negsuc, nat_abs, Bool, true, false, not, ◌&&◌, ◌||◌, ◌==◌, nat_lt, nat_le}
use Rattle.std.specs.Prelude.{if◌then◌else◌, List, [], ◌∷◌, ◌++◌, length, take, drop, replicate, slice_index, slice_index_or, slice_set}
use Rattle.std.specs.Int.{cast_unsigned, w32}
use Rattle.mips_table.specs.Arith.{signed}
use Rattle.mips_table.specs.Flat.{Flat}
use Rattle.mips_table.specs.Machine.{zero_cpu, log_has_room, Console}
use Rattle.c0_meaning.specs.Value.{Value, int, bool}
use Rattle.cvm_model.specs.Kernel.{UserChange, Changes, JournalEntry, Set, Size, Put}

-- a call of a primitive, with its arguments
pub data KernelCall : Type 0 where
  VmGet : (u r : ℤ) → KernelCall
  VmSet : (u r v : ℤ) → KernelCall
  VmSize : (u : ℤ) → KernelCall
  VmResize : (u pages : ℤ) → KernelCall
  VmWord : (u a : ℤ) → KernelCall
  VmPut : (u a v : ℤ) → KernelCall
  VmCopy : (u a v b n : ℤ) → KernelCall
  ConPut : (w : ℤ) → KernelCall
  ConGet : KernelCall
  ConLeft : KernelCall

-- its number in the table of primitives
abbrev pub primitive_number : KernelCall → ℕ
primitive_number (VmGet u r) = 0
primitive_number (VmSet u r v) = 1
primitive_number (VmSize u) = 2
primitive_number (VmResize u pages) = 3
primitive_number (VmWord u a) = 4
primitive_number (VmPut u a v) = 5
primitive_number (VmCopy u a v b n) = 6
primitive_number (ConPut w) = 7
primitive_number ConGet = 8
primitive_number ConLeft = 9

-- its arguments, in order
abbrev pub arguments_of : KernelCall → List ℤ
arguments_of (VmGet u r) = u ∷ r ∷ []
arguments_of (VmSet u r v) = u ∷ r ∷ v ∷ []
arguments_of (VmSize u) = u ∷ []
arguments_of (VmResize u pages) = u ∷ pages ∷ []
arguments_of (VmWord u a) = u ∷ a ∷ []
arguments_of (VmPut u a v) = u ∷ a ∷ v ∷ []
arguments_of (VmCopy u a v b n) = u ∷ a ∷ v ∷ b ∷ n ∷ []
arguments_of (ConPut w) = w ∷ []
arguments_of ConGet = []
arguments_of ConLeft = []

-- what a call comes to
pub record Given : Type 0 where
  pub answer : Value
  pub users : List Flat
  pub console : Console
  pub changes : UserChange
  pub words : ℕ  -- touched
  pub pages : ℕ  -- used

-- a machine of no pages
abbrev pub no_flat : Flat
no_flat = record { cpu = zero_cpu; words = [] }

-- the machine of user u, from 1
abbrev pub user_of : List Flat → ℕ → Flat
user_of users u = slice_index_or users (u - 1) no_flat

-- the machines with that of user u replaced
abbrev pub with_user : List Flat → ℕ → Flat → List Flat
with_user users u f = slice_set users (u - 1) f

-- the size of a machine in pages
abbrev pub pages_of : Flat → ℕ
pages_of f = length f.words / 1024

-- register r, or the pc for 32
abbrev pub register_of : Flat → ℕ → ℕ
register_of f r = if r == 32 then f.cpu.pc else slice_index f.cpu.regs r

abbrev pub with_register : Flat → ℕ → ℕ → Flat
with_register f r value = record f { cpu = if r == 32 then record f.cpu { pc = value } else record f.cpu { regs = slice_set f.cpu.regs r value } }

-- the memory is cut, or grows by zeros
abbrev pub resized : Flat → ℕ → Flat
resized f pages = record f { words = take (1024 * pages) f.words ++ replicate (1024 * pages - length f.words) 0 }

-- the word at an address is replaced
abbrev pub with_word : Flat → ℕ → ℕ → Flat
with_word f a value = record f { words = slice_set f.words (a / 4) value }

-- words are replaced from an address on
abbrev pub with_words : Flat → ℕ → List ℕ → Flat
with_words f a new = record f { words = take (a / 4) f.words ++ (new ++ drop (a / 4 + length new) f.words) }

-- the entries of words that are put from an address on
abbrev pub put_entries : ℕ → List ℕ → List JournalEntry
put_entries a [] = []
put_entries a (w ∷ ws) = Put a w ∷ put_entries (a + 4) ws

-- the runs of words with one source page and one target page, among n words
abbrev pub copy_pieces : ℕ → ℕ → ℕ → ℕ
copy_pieces a b zero = 0
copy_pieces a b (suc n) = copy_pieces a b n + (if n == 0 || (a / 4 + n) % 1024 == 0 || (b / 4 + n) % 1024 == 0 then 1 else 0)

-- whether an int is one of low to high
abbrev pub is_within : ℕ → ℕ → ℤ → Bool
is_within low high (pos n) = nat_le low n && nat_le n high
is_within low high (negsuc n) = false

-- whether an int is an address of n words below the end of a machine's memory
abbrev pub is_address : Flat → ℤ → ℕ → Bool
is_address f (pos a) n = a % 4 == 0 && nat_le (a + 4 * n) (4096 * pages_of f)
is_address f (negsuc a) n = false

-- whether two ranges of n words share a word
abbrev pub ranges_overlap : ℕ → ℕ → ℕ → Bool
ranges_overlap a b n = nat_lt a (b + 4 * n) && nat_lt b (a + 4 * n)

-- whether a call is good, with at most so many pages
abbrev pub is_good : ℕ → List Flat → KernelCall → Bool
is_good most users (VmGet u r) = is_within 1 (length users) u && is_within 1 32 r
is_good most users (VmSet u r v) = is_within 1 (length users) u && is_within 1 32 r
is_good most users (VmSize u) = is_within 1 (length users) u
is_good most users (VmResize u pages) = is_within 1 (length users) u && is_within 0 most pages
is_good most users (VmWord u a) = is_within 1 (length users) u && is_address (user_of users (nat_abs u)) a 1
is_good most users (VmPut u a v) = is_within 1 (length users) u && is_address (user_of users (nat_abs u)) a 1
is_good most users (VmCopy u a v b (negsuc n)) = false
is_good most users (VmCopy u a v b (pos n)) = is_within 1 (length users) u && is_within 1 (length users) v
    && is_address (user_of users (nat_abs u)) a n && is_address (user_of users (nat_abs v)) b n
    && not (nat_abs u == nat_abs v && ranges_overlap (nat_abs a) (nat_abs b) n)
is_good most users other = true

-- what is answered where nothing changes
abbrev pub unchanged : List Flat → Console → Value → ℕ → ℕ → Given
unchanged users console answer words pages =
    record { answer = answer; users = users; console = console; changes = record { user = 0; entries = [] }; words = words; pages = pages }

-- what is answered where the machine of user u becomes f
abbrev pub changed : List Flat → Console → ℕ → Flat → List JournalEntry → ℕ → ℕ → Given
changed users console u f entries words pages =
    record {
      answer = bool true;
      users = with_user users u f;
      console = console;
      changes = record { user = u; entries = entries };
      words = words;
      pages = pages;
    }

-- what a bad call answers
abbrev pub refused : KernelCall → Value
refused (VmSet u r v) = bool false
refused (VmResize u pages) = bool false
refused (VmPut u a v) = bool false
refused (VmCopy u a v b n) = bool false
refused (ConPut w) = bool false
refused other = int (negsuc 0)

-- a good call
abbrev pub granted : List Flat → Console → KernelCall → Given
granted users o (VmGet u r) = unchanged users o (int (signed (register_of (user_of users (nat_abs u)) (nat_abs r)))) 0 0
granted users o (VmSet u r v) =
    let value = cast_unsigned w32 v in
    changed users o (nat_abs u) (with_register (user_of users (nat_abs u)) (nat_abs r) value) (Set (nat_abs r) value ∷ []) 0 0
granted users o (VmSize u) = unchanged users o (int (pos (pages_of (user_of users (nat_abs u))))) 0 0
granted users o (VmResize u pages) =
    let f = user_of users (nat_abs u) in
    let p = nat_abs pages in
    changed users o (nat_abs u) (resized f p) (Size p ∷ []) 0 ((p - pages_of f) + (pages_of f - p))
granted users o (VmWord u a) = unchanged users o (int (signed (slice_index (user_of users (nat_abs u)).words (nat_abs a / 4)))) 1 1
granted users o (VmPut u a v) =
    let value = cast_unsigned w32 v in
    changed users o (nat_abs u) (with_word (user_of users (nat_abs u)) (nat_abs a) value) (Put (nat_abs a) value ∷ []) 1 1
granted users o (VmCopy u a v b n) =
    let words = take (nat_abs n) (drop (nat_abs a / 4) (user_of users (nat_abs u)).words) in
    changed users o (nat_abs v) (with_words (user_of users (nat_abs v)) (nat_abs b) words) (put_entries (nat_abs b) words) (nat_abs n)
    (3 * copy_pieces (nat_abs a) (nat_abs b) (nat_abs n))
granted users o (ConPut w) =
    let has = log_has_room o.log in
    unchanged users (if has then record o { log = o.log ++ cast_unsigned w32 w ∷ [] } else o) (bool has) 0 0
granted users o ConGet = unchanged users (record o { input = drop 1 o.input }) (int (signed (slice_index o.input 0))) 0 0
granted users o ConLeft = unchanged users o (int (pos (length o.input))) 0 0

-- what a call comes to, for users of at most so many pages
abbrev pub prim : ℕ → KernelCall → List Flat → Console → Given
prim most call users console = if is_good most users call then granted users console call else unchanged users console (refused call) 0 0

-- what is told of a call that has ended: which it was, and what it changed
abbrev pub changes_told : KernelCall → Given → Changes
changes_told call g = record { number = primitive_number call; arguments = arguments_of call; user = g.changes.user; entries = g.changes.entries }

-- the units of a primitive: its call, and the words and pages that it touches
abbrev pub units_of : Given → ℕ
units_of g = 1 + g.words + g.pages
