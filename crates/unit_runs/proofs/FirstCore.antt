-- The state at the start of what is booted: all that it holds is 0 but the users' words, and it is one of its map.
use Rattle.std.specs.Prelude.{if◌then◌else◌}
use Rattle.std.proofs.Common.{◌≡◌, ℕ, zero, suc, ◌+◌, ◌-◌, ◌*◌, ◌/◌, ◌≤◌, Bool, true, false, List, [], ◌∷◌, length, map, replicate, get_or, All, refl, ap₂, ◌∙◌, arith}
use Rattle.std.proofs.lemmas.List.{length-append, length-map, length-replicate}
use Rattle.std.proofs.lemmas.List.Elements.{All-nil, All-cons, All-append, All-map, All-replicate}
use Rattle.mips_table.specs.Fits.{IsWord, CpuFits}
use Rattle.mips_table.specs.Machine.{zero_cpu}
use Rattle.layer_map.specs.Map.{Map, next_page}
use Rattle.layer_map.specs.declared.params.Params.{Params}
use Rattle.c0_tree.specs.Tree.{CUnit}
use Rattle.c0_meaning.specs.Ty.{Ty}
use Rattle.c0_meaning.specs.Ty as ty
use Rattle.c0_meaning.specs.Env.{Typed, Shape, typed_of}
use Rattle.c0_meaning.specs.Words.{shape_fields, holds, all_words}
use Rattle.c0_meaning.specs.RunLaws.{ZeroHasWords, all_scalars}
use Rattle.c0_meaning.specs.Sound.{shapes, global_words}
use Rattle.c0_meaning.specs.Value.{Location, Value, group, empty, repeated, zero_with, zeros_with, zero_within, zeros_of}
use Rattle.cvm_model.specs.Kernel.{Core, flat, flats}
use Rattle.cvm_model.specs.Cvm.{Boot, first_flat, first_core}
use Rattle.cvm_model.specs.KernelMeaning.{kernel_meaning}
use Rattle.cvm_model.specs.Primitives.{pages_of}
use Rattle.cvm_model.specs.Stands.{UserFits, CoreFits, input_room}
use Rattle.layer_contract.specs.Layer.{Starts}

-- the words of values at their start are 0
abbrev AreZeros : List ℕ → Type 0
AreZeros ws = All (λ w. w ≡ 0) ws

module _ (address : Location → ℕ) where
  repeated_zeros : (n : ℕ) (v : Value) → AreZeros (flat address v) → AreZeros (flats address (repeated n v))
  repeated_zeros zero v h = All-nil (λ w. w ≡ 0)
  repeated_zeros (suc n) v h = All-append (λ w. w ≡ 0) (flat address v) (flats address (repeated n v)) h (repeated_zeros n v h)

  with_zeros : (f : List ℕ → Value) → ((x : List ℕ) → AreZeros (flat address (f x))) → (t : Ty) → AreZeros (flat address (zero_with f t))
  with_zeros f h ty.int = All-cons (λ w. w ≡ 0) 0 [] refl (All-nil (λ w. w ≡ 0))
  with_zeros f h ty.bool = All-cons (λ w. w ≡ 0) 0 [] refl (All-nil (λ w. w ≡ 0))
  with_zeros f h (ty.pointer t) = All-cons (λ w. w ≡ 0) 0 [] refl (All-nil (λ w. w ≡ 0))
  with_zeros f h (ty.named x) = h x
  with_zeros f h (ty.array t n) = repeated_zeros n (zero_with f t) (with_zeros f h t)

  all_zeros : (f : List ℕ → Value) → ((x : List ℕ) → AreZeros (flat address (f x))) → (ds : List Typed) → AreZeros (flats address (zeros_with f ds))
  all_zeros f h [] = All-nil (λ w. w ≡ 0)
  all_zeros f h (d ∷ ds) = All-append (λ w. w ≡ 0) (flat address (zero_with f d.ty)) (flats address (zeros_with f ds)) (with_zeros f h d.ty) (all_zeros f h ds)

  within_zeros : (depth : ℕ) (structs : List Shape) (x : List ℕ) → AreZeros (flat address (zero_within depth structs x))
  within_zeros zero structs x = All-nil (λ w. w ≡ 0)
  within_zeros (suc depth) structs x = by_test (holds structs x x) (λ y. within_zeros depth structs y)
    where
      by_test : (b : Bool) → ((y : List ℕ) → AreZeros (flat address (zero_within depth structs y)))
          → AreZeros (flat address (if b then group empty else group (zeros_with (zero_within depth structs) (shape_fields structs x))))
      by_test true h = All-nil (λ w. w ≡ 0)
      by_test false h = all_zeros (zero_within depth structs) h (shape_fields structs x)

  globals_zeros : (structs : List Shape) (ds : List Typed) → AreZeros (flats address (zeros_of structs ds))
  globals_zeros structs ds = all_zeros (zero_within (length structs) structs) (λ x. within_zeros (length structs) structs x) ds

-- and as many as the words of their types
zeros_words : ZeroHasWords → (structs : List Shape) (ds : List Typed) → all_scalars (zeros_of structs ds) ≡ all_words structs ds
zeros_words law structs [] = refl
zeros_words law structs (d ∷ ds) = let a = law structs d.ty in let b = zeros_words law structs ds in omega (arith, a, b)

-- a user's words, filled up to whole pages
padded : (ws : List ℕ) → length (first_flat ws).words ≡ next_page (length ws)
padded ws = length-append ws (replicate (next_page (length ws) - length ws) 0) ∙ omega (arith, length-replicate {A = ℕ} (next_page (length ws) - length ws) 0)

same_size : (ws : List ℕ) → (length ws + 1023) / 1024 ≡ pages_of (first_flat ws)
same_size ws = let size : length (first_flat ws).words ≡ next_page (length ws) = padded ws in omega (arith, size)

pub same_sizes : (users : List (List ℕ)) → map (λ words. (length words + 1023) / 1024) users ≡ map (λ words. pages_of (first_flat words)) users
same_sizes [] = refl
same_sizes (ws ∷ rest) = ap₂ (λ (n : ℕ) (ns : List ℕ). n ∷ ns) (same_size ws) (same_sizes rest)

no_cpu_fits : CpuFits zero_cpu
no_cpu_fits = record { pc = omega arith; regs = record { size = refl; each = All-replicate IsWord 32 0 (omega arith); none = refl }; hi = omega arith; lo = omega arith }

flat_fits : (most : ℕ) (ws : List ℕ) → All IsWord ws → length ws ≤ 1024 * most → UserFits most (first_flat ws)
flat_fits most ws all few =
    let size : length (first_flat ws).words ≡ next_page (length ws) = padded ws in
    record {
      cpu = no_cpu_fits;
      pages = omega (arith, size, few);
      whole = omega (arith, size);
      words = All-append IsWord ws (replicate (next_page (length ws) - length ws) 0) all (All-replicate IsWord (next_page (length ws) - length ws) 0 (omega arith));
    }

flats_fit : (most : ℕ) (users : List (List ℕ)) → All (All IsWord) users → All (λ words. length words ≤ 1024 * most) users → All (UserFits most) (map first_flat users)
flats_fit most users all few = All-map (UserFits most) first_flat users (λ i d lt. flat_fits most (get_or users i d) (all i d lt) (few i d lt))

-- what is booted of a unit, and its state at the start
abbrev pub boot_with : CUnit → Params → (words : List ℕ) → (users : List (List ℕ)) → Boot
boot_with u params words users = record { params = params; meaning = kernel_meaning u params; words = words; users = users }

abbrev start : CUnit → Params → (words : List ℕ) → (users : List (List ℕ)) → List ℕ → ℕ → Core
start u params words users input longest = first_core (record { boot = boot_with u params words users; input = input; longest = longest })

-- a map for it, of so many users and words of code
abbrev map_with : CUnit → Params → ℕ → ℕ → Map
map_with u params count code = record { params = params; users = count; code_words = code; global_words = global_words u }

pub starts : (u : CUnit) (params : Params) (words : List ℕ) (users : List (List ℕ)) (input : List ℕ) (longest : ℕ) → Starts (start u params words users input longest)
starts u params words users input longest = record {
  globals = λ address. globals_zeros address (shapes u) (map typed_of u.globals);
  heap = refl;
  users = All-map (λ f. f.cpu ≡ zero_cpu) first_flat users (λ i d lt. refl);
  current = refl;
  log = refl;
}

pub core_fits : ZeroHasWords → (u : CUnit) (params : Params) (words : List ℕ) (users : List (List ℕ)) (count code : ℕ) → length users ≡ count → (input : List ℕ) (longest : ℕ)
    → All (All IsWord) users → All (λ words. length words ≤ 1024 * params.pages) users → length input ≤ input_room
    → CoreFits (map_with u params count code) (start u params words users input longest)
core_fits law u params words users count code so_many input longest all few room = record {
  users = length-map users first_flat ∙ so_many;
  each = flats_fit params.pages users all few;
  globals = zeros_words law (shapes u) (map typed_of u.globals);
  heap = omega arith;
  used = refl;
  frames = refl;
  current = omega arith;
  log = omega arith;
  input = room;
}
