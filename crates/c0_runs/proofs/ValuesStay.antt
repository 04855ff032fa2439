-- Values that fit point to no local: so they stand in the same words for every function of a unit, and with more objects in the heap.
use Rattle.std.specs.Prelude.{replicate}
use Rattle.std.proofs.Common.{◌≡◌, ℕ, ◌+◌, ◌*◌, Bool, List, [], ◌∷◌, refl, sym, ap, ◌∙◌}
use Rattle.c0_meaning.specs.Ty.{Ty}
use Rattle.c0_meaning.specs.Ty as ty
use Rattle.c0_meaning.specs.Env.{Typed, Shape, Signature}
use Rattle.c0_meaning.specs.Words.{shape_fields, words}
use Rattle.c0_meaning.specs.Addresses.{words_to_part}
use Rattle.c0_meaning.specs.Value.{Region, globals, heap, locals, Value, int, bool, null, at, group, Values, empty, part}
use Rattle.c0_meaning.specs.Operators.{KernelFault}
use Rattle.c0_meaning.specs.TypedState.{StoreTyping, types_of, LeadsFrom, PointsTo, Fits, AllFit, AreParts}
use Rattle.c0_expr_code.specs.Scope.{Scope}
use Rattle.c0_expr_runs.specs.Bases.{Bases, location_word, word_of_scalar, Held, AllHeld, RegionHeld}

-- what a scope has beside the unit's structs and globals
pub record Rest : Type 0 where
  pub functions : List Signature
  pub primitives : List Signature
  pub locals : List Typed
  pub in_registers : Bool
  pub frame : ℕ
  pub exit : KernelFault → ℕ

abbrev pub scope_with : List Shape → List Typed → Rest → Scope
scope_with structs gs x = record {
  env = record { structs = structs; globals = gs; functions = x.functions; primitives = x.primitives; locals = x.locals };
  in_registers = x.in_registers;
  frame = x.frame;
  exit = x.exit;
}

abbrev pub bases_with : (g h e : ℕ) → List Ty → Bases
bases_with g h e objects = record { globals = g; heap = h; frame_end = e; objects = objects }

module _ (structs : List Shape) (gs : List Typed) (g h : ℕ) (objects objects' : List Ty) (grows : (path : List ℕ) (t : Ty) → LeadsFrom structs objects path t → words_to_part structs objects' path ≡ words_to_part structs objects path)
    (x y : Rest) (e e' : ℕ) where
  abbrev lay : StoreTyping
  lay = record { globals = types_of gs; objects = objects }

  place_same : (r : Region) (path : List ℕ) (t : Ty) → PointsTo structs lay r path t →
      location_word (scope_with structs gs y) (bases_with g h e' objects') (record { region = r; path = path }) ≡ location_word (scope_with structs gs x) (bases_with g h e objects) (record { region = r; path = path })
  place_same globals path t k = refl
  place_same heap path t k = ap (λ n. h + n) (grows path t k)
  place_same locals path t k = absurd k

  pub word_same : (t : Ty) (v : Value) → Fits structs lay t v → word_of_scalar (scope_with structs gs y) (bases_with g h e' objects') v ≡ word_of_scalar (scope_with structs gs x) (bases_with g h e objects) v
  word_same ty.int (int z) k = refl
  word_same ty.bool (bool b) k = refl
  word_same (ty.pointer t) null k = refl
  word_same (ty.pointer t) (at l) k = ap (λ n. 4 * n) (place_same l.region l.path t k)
  word_same (ty.named n) (group vs) k = refl
  word_same (ty.array t n) (group vs) k = refl
  word_same _ _ k = absurd k

  mutual
    pub held : (m : ℕ → ℕ) (a : ℕ) (t : Ty) (v : Value) → Fits structs lay t v → Held (scope_with structs gs x) (bases_with g h e objects) m a t v → Held (scope_with structs gs y) (bases_with g h e' objects') m a t v
    held m a ty.int (int z) k i = i
    held m a ty.bool (bool b) k i = i
    held m a (ty.pointer t) null k i = i
    held m a (ty.pointer t) (at l) k i = i ∙ sym (ap (λ n. 4 * n) (place_same l.region l.path t k))
    held m a (ty.named n) (group vs) k i = all_held m a (types_of (shape_fields structs n)) vs k i
    held m a (ty.array t n) (group vs) k i = all_held m a (replicate n t) vs k i
    held m a _ _ k i = absurd k

    pub all_held : (m : ℕ → ℕ) (a : ℕ) (ts : List Ty) (vs : Values) → AllFit structs lay ts vs → AllHeld (scope_with structs gs x) (bases_with g h e objects) m a ts vs → AllHeld (scope_with structs gs y) (bases_with g h e' objects') m a ts vs
    all_held m a [] empty k i = tt
    all_held m a (t ∷ ts) (part v vs) k i = (held m a t v k.0 i.0, all_held m (a + words structs t) ts vs k.1 i.1)
    all_held m a _ _ k i = absurd k

  pub region : (m : ℕ → ℕ) (a : ℕ) (ts : List Ty) (v : Value) → AreParts structs lay ts v → RegionHeld (scope_with structs gs x) (bases_with g h e objects) m a ts v → RegionHeld (scope_with structs gs y) (bases_with g h e' objects') m a ts v
  region m a ts (group vs) k i = all_held m a ts vs k i
  region m a ts _ k i = absurd k
