-- Where the values of C0 stand in the machine: where regions begin, the words of locations, and values as words.
use Rattle.std.specs.Prelude.{◌≡◌, ℕ, ◌+◌, ◌*◌, ◌-◌, ◌<◌, Bool, if◌then◌else◌, List, [], ◌∷◌, replicate, Some, slice_get, IsTrue}
use Rattle.mips_table.specs.Arith.{flag}
use Rattle.cvm_words.specs.Words.{word_of}
use Rattle.c0_meaning.specs.Ty.{Ty}
use Rattle.c0_meaning.specs.Ty as ty
use Rattle.c0_meaning.specs.Env.{Shape}
use Rattle.c0_meaning.specs.Words.{shape_fields, words}
use Rattle.c0_meaning.specs.Sizes.{words_before}
use Rattle.c0_meaning.specs.Addresses.{words_to_part}
use Rattle.c0_meaning.specs.Value.{Region, globals, heap, locals, Location, Value, int, bool, null, at, group, Values, empty, part}
use Rattle.c0_meaning.specs.TypedState.{types_of}
use Rattle.c0_expr_code.specs.Scope.{Scope}

-- the words of values of these types, one after another
abbrev pub words_of_all : List Shape → List Ty → ℕ
words_of_all structs [] = 0
words_of_all structs (t ∷ ts) = words structs t + words_of_all structs ts

-- The words at which globals and heap begin; the word behind the frame; and the types of the heap's objects.
pub record Bases : Type 0 where
  pub globals : ℕ
  pub heap : ℕ
  pub frame_end : ℕ
  pub objects : List Ty

-- the variables begin in the frame's fourth word, or in register 20
abbrev pub locals_start : Scope → Bases → ℕ
locals_start sc p = if sc.in_registers then 20 else (p.frame_end - sc.frame) + 3

-- where a region begins
abbrev pub region_start : Scope → Bases → Region → ℕ
region_start sc p globals = p.globals
region_start sc p heap = p.heap
region_start sc p locals = locals_start sc p

-- the types of a region's variables or objects
abbrev pub types_in : Scope → Bases → Region → List Ty
types_in sc p globals = types_of sc.env.globals
types_in sc p heap = p.objects
types_in sc p locals = types_of sc.env.locals

-- the word number of a location
abbrev pub location_word : Scope → Bases → Location → ℕ
location_word sc p l = region_start sc p l.region + words_to_part sc.env.structs (types_in sc p l.region) l.path

-- the word of a scalar: a pointer is an address, and null is 0
abbrev pub word_of_scalar : Scope → Bases → Value → ℕ
word_of_scalar sc p (int z) = word_of z
word_of_scalar sc p (bool b) = flag b
word_of_scalar sc p null = 0
word_of_scalar sc p (at l) = 4 * location_word sc p l
word_of_scalar sc p (group vs) = 0

-- a value of a type stands in these words from a on, and so do values one after another
abbrev mutual
  pub Held : Scope → Bases → (ℕ → ℕ) → ℕ → Ty → Value → Type 0
  Held sc p m a (ty.named x) (group vs) = AllHeld sc p m a (types_of (shape_fields sc.env.structs x)) vs
  Held sc p m a (ty.array t n) (group vs) = AllHeld sc p m a (replicate n t) vs
  Held sc p m a (ty.named x) _ = ⊥
  Held sc p m a (ty.array t n) _ = ⊥
  Held sc p m a _ v = m a ≡ word_of_scalar sc p v

  pub AllHeld : Scope → Bases → (ℕ → ℕ) → ℕ → List Ty → Values → Type 0
  AllHeld sc p m a [] empty = Unit {0}
  AllHeld sc p m a (t ∷ ts) (part v vs) = Held sc p m a t v × AllHeld sc p m (a + words sc.env.structs t) ts vs
  AllHeld sc p m a _ _ = ⊥

-- the variables or objects of a region stand from a on
abbrev pub RegionHeld : Scope → Bases → (ℕ → ℕ) → ℕ → List Ty → Value → Type 0
RegionHeld sc p m a types (group vs) = AllHeld sc p m a types vs
RegionHeld sc p m a types _ = ⊥

-- Variables stand from a on, as far as they are live: all of them stand in words of which those of live ones are these.
pub record LocalsHeld (sc : Scope) (p : Bases) (live : ℕ → Bool) (m : ℕ → ℕ) (a : ℕ) (types : List Ty) (v : Value) : Type 0 where
  pub whole : ℕ → ℕ
  pub held : RegionHeld sc p whole a types v
  pub same : (n : ℕ) (t : Ty) → slice_get types n ≡ Some t → IsTrue (live n) → (k : ℕ) → k < words sc.env.structs t
      → m (a + words_before sc.env.structs types n + k) ≡ whole (a + words_before sc.env.structs types n + k)
