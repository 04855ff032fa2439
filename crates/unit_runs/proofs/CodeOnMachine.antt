-- A kernel's code as the code of a machine: what stands where, that it is sound, and that the machine holds its words.
use Rattle.std.specs.Prelude.{slice_get, slice_index, option_map, nat_lt, nat_le, ◌&&◌, ◌||◌, if◌then◌else◌, drop}
use Rattle.std.specs.List.{All}
use Rattle.std.proofs.Common.{◌≡◌, ℕ, zero, suc, ◌+◌, ◌-◌, ◌^◌, ◌<◌, ◌≤◌, inl, inr, Bool, true, false, List, [], ◌∷◌, ◌++◌, length, map, Option, Some, None, refl, sym, ap, ap₂, ◌∙◌, subst, arith, append_assoc, length-append, lt-ltb}
use Rattle.std.proofs.lemmas.Bool.{cases_lt, cond-true, cond-false, le-ltb}
use Rattle.std.proofs.lemmas.List.{get_or-drop}
use Rattle.std.proofs.lemmas.List.Elements.{All-head, All-tail}
use Rattle.std.proofs.lemmas.Option.{slice_get_past}
use Rattle.mips_table.specs.declared.inst.Inst.{Inst}
use Rattle.mips_table.specs.Encoding.{InRange, encoding}
use Rattle.mips_table.specs.Device.{Environment}
use Rattle.mips_table.specs.Code.{on_machine, Sound, CodeAt}
use Rattle.layer_map.specs.Map.{Map, layer_words, block_at, memory_words}
use Rattle.cvm_model.specs.Stands.{is_own}
use Rattle.unit_runs.specs.Placed.{code_from, kept_of, program, CodeStandsAt}

pub at_number : {A : Type 0} (P : A → Type 0) (xs : List A) (i : ℕ) (x : A) → All P xs → slice_get xs i ≡ Some x → P x
at_number P [] i x a e = cc
at_number P (y ∷ xs) zero x a e = let q : y ≡ x = cc in subst P q (All-head P y xs a)
at_number P (y ∷ xs) (suc i) x a e = at_number P xs i x (All-tail P y xs a) e

pub some_below : {A : Type 0} (xs : List A) (i : ℕ) (x : A) → slice_get xs i ≡ Some x → i < length xs
some_below [] i x e = cc
some_below (y ∷ xs) zero x e = omega arith
some_below (y ∷ xs) (suc i) x e = let r = some_below xs i x e in omega (arith, r)

get_seam : {A : Type 0} (before : List A) (x : A) (after : List A) → slice_get (before ++ (x ∷ after)) (length before) ≡ Some x
get_seam [] x after = refl
get_seam (y ∷ before) x after = get_seam before x after

get_encoding : (code : List Inst) (i : ℕ) (a : Inst) → slice_get code i ≡ Some a → slice_index (map encoding code) i ≡ encoding a
get_encoding [] i a e = cc
get_encoding (b ∷ code) zero a e = let q : b ≡ a = cc in ap encoding q
get_encoding (b ∷ code) (suc i) a e = get_encoding code i a e

-- an instruction that stands somewhere, and where it stands
pub code_there : (first : ℕ) (code : List Inst) (k : ℕ) (i : Inst) → first ≤ k → slice_get code (k - layer_words) ≡ Some i → code_from first code k ≡ Some i
code_there first code k i le e = cond-false (nat_lt k first) None (slice_get code (k - layer_words)) (le-ltb k first le) ∙ e

pub code_is : (first : ℕ) (code : List Inst) (k : ℕ) (i : Inst) → code_from first code k ≡ Some i → (first ≤ k) × (slice_get code (k - layer_words) ≡ Some i)
code_is first code k i e = elim (cases_lt k first) [
  | inl lt ↦ let q : code_from first code k ≡ None = cond-true (nat_lt k first) None (slice_get code (k - layer_words)) (lt-ltb k first lt) in absurd (cc)
  | inr le ↦ (le, sym (cond-false (nat_lt k first) None (slice_get code (k - layer_words)) (le-ltb k first le)) ∙ e)
]

pub no_code : (first : ℕ) (code : List Inst) (k : ℕ) → layer_words + length code ≤ k → code_from first code k ≡ None
no_code first code k le = elim (cases_lt k first) [
  | inl lt ↦ cond-true (nat_lt k first) None (slice_get code (k - layer_words)) (lt-ltb k first lt)
  | inr ge ↦ cond-false (nat_lt k first) None (slice_get code (k - layer_words)) (le-ltb k first ge) ∙ slice_get_past code (k - layer_words) (omega (arith, le))
]

pub no_low_code : (code : List Inst) (k : ℕ) → k < layer_words → code_from layer_words code k ≡ None
no_low_code code k lt = cond-true (nat_lt k layer_words) None (slice_get code (k - layer_words)) (lt-ltb k layer_words lt)

-- a piece stands in the machine's code
pub piece_at : (x : Environment) (m : Map) (first : ℕ) (words : List ℕ) (code : List Inst) (piece before after : List Inst) → first ≤ layer_words + length before → code ≡ before ++ (piece ++ after)
    → CodeAt (on_machine x (program m first code words)) (layer_words + length before) piece
piece_at x m first words code [] before after le e = tt
piece_at x m first words code (i ∷ is) before after le e =
    let place : layer_words + length before - layer_words ≡ length before = omega arith in
    let here : slice_get code (layer_words + length before - layer_words) ≡ Some i = ap (slice_get code) place ∙ ap (λ c. slice_get c (length before)) e ∙ get_seam before i (is ++ after) in
    let next : layer_words + length (before ++ i ∷ []) ≡ layer_words + length before + 1 = omega (arith, length-append before (i ∷ [])) in (
      code_there first code (layer_words + length before) i le here,
      subst (λ k. CodeAt (on_machine x (program m first code words)) k is) next
          (piece_at x m first words code is (before ++ i ∷ []) after (omega (arith, le, next)) (e ∙ sym (append_assoc before (i ∷ []) (is ++ after)))),
    )

pub stands_at : (x : Environment) (m : Map) (words : List ℕ) (code : List Inst) (k : ℕ) (piece : List Inst) → CodeStandsAt code k piece → CodeAt (on_machine x (program m (layer_words + 1) code words)) k piece
stands_at x m words code k piece s =
    let some = s.4 in
    subst (λ n. CodeAt (on_machine x (program m (layer_words + 1) code words)) n piece) (sym s.3) (piece_at x m (layer_words + 1) words code piece s.0 s.1 (omega (arith, some)) s.2)

-- below the end of the map the code is kept, and no other word; behind it each word is
pub kept_code : (m : Map) (code : List Inst) (words : List ℕ) (k : ℕ) → k < memory_words m → kept_of m code words k ≡ option_map encoding (code_from layer_words code k)
kept_code m code words k lt = cond-true (nat_lt k (memory_words m)) (option_map encoding (code_from layer_words code k)) (if nat_lt k (length words) then Some (slice_index words k) else None) (lt-ltb k (memory_words m) lt)

pub kept_past : (m : Map) (code : List Inst) (words : List ℕ) (k : ℕ) → memory_words m ≤ k → k < length words → kept_of m code words k ≡ Some (slice_index words k)
kept_past m code words k le lt =
    cond-false (nat_lt k (memory_words m)) (option_map encoding (code_from layer_words code k)) (if nat_lt k (length words) then Some (slice_index words k) else None) (le-ltb k (memory_words m) le)
    ∙ cond-true (nat_lt k (length words)) (Some (slice_index words k)) None (lt-ltb k (length words) lt)

-- the code is sound
pub sound : (x : Environment) (m : Map) (first : ℕ) (words : List ℕ) (code : List Inst) → layer_words ≤ first → layer_words + length code ≤ memory_words m → memory_words m ≤ length words → length words < 2 ^ 26 → All InRange code
    → Sound (on_machine x (program m first code words))
sound x m first words code from room big small range = record {
  small = small;
  range = λ n i e. at_number InRange code (n - layer_words) i range (code_is first code n i e).1;
  inside = λ n i e. let c = code_is first code n i e in let lt = some_below code (n - layer_words) i c.1 in let le = c.0 in omega (arith, lt, le, from, room, big);
  keeps = λ n i e.
      let c = code_is first code n i e in let le = c.0 in let lt = some_below code (n - layer_words) i c.1 in
      kept_code m code words n (omega (arith, lt, le, from, room)) ∙ ap (option_map encoding) (code_there layer_words code n i (omega (arith, le, from)) c.1);
}

-- the layer's own words lie below the kernel's code
and_false : (a : Bool) → (a && false) ≡ false
and_false true = refl
and_false false = refl

pub not_own : (m : Map) (k : ℕ) → m.users ≤ 64 → layer_words ≤ k → is_own m k ≡ false
not_own m k few le =
    ap₂ (λ a b. (nat_le 1024 k && a) || (nat_le (block_at 1) k && b)) (le-ltb k 2048 (omega (arith, le))) (le-ltb k (block_at (m.users + 1)) (omega (arith, le, few)))
    ∙ ap₂ (λ a b. a || b) (and_false (nat_le 1024 k)) (and_false (nat_le (block_at 1) k))

-- memory that holds the linked code, and behind the map what was there, holds what is kept
pub kept_words : (m : Map) (words linked memory : List ℕ) (code : List Inst) → drop layer_words linked ≡ map encoding code → ((k : ℕ) → layer_words ≤ k → k < layer_words + length code → slice_index memory k ≡ slice_index linked k)
    → ((k : ℕ) → memory_words m ≤ k → k < length words → slice_index memory k ≡ slice_index words k) → (k v : ℕ) → kept_of m code words k ≡ Some v → slice_index memory k ≡ v
kept_words m words linked memory code is same past k v e = elim (cases_lt k (memory_words m)) [
  | inl lt ↦ by (code_from layer_words code k) refl (sym (kept_code m code words k lt) ∙ e)
  | inr le ↦ elim (cases_lt k (length words)) [
    | inl lt ↦ let w : ◌≡◌ {A = Option ℕ} (Some (slice_index words k)) (Some v) = sym (kept_past m code words k le lt) ∙ e in let v_is : slice_index words k ≡ v = cc in past k le lt ∙ v_is
    | inr over ↦ let w : ◌≡◌ {A = Option ℕ} None (Some v) = sym (none le over) ∙ e in absurd (cc)
  ]
]
  where
    none : memory_words m ≤ k → length words ≤ k → kept_of m code words k ≡ None
    none le over =
        cond-false (nat_lt k (memory_words m)) (option_map encoding (code_from layer_words code k)) (if nat_lt k (length words) then Some (slice_index words k) else None) (le-ltb k (memory_words m) le)
        ∙ cond-false (nat_lt k (length words)) (Some (slice_index words k)) None (le-ltb k (length words) over)

    by : (o : Option Inst) → code_from layer_words code k ≡ o → option_map encoding (code_from layer_words code k) ≡ Some v → slice_index memory k ≡ v
    by None q h = let w : ◌≡◌ {A = Option ℕ} None (Some v) = sym (ap (option_map encoding) q) ∙ h in absurd (cc)
    by (Some i) q h =
        let w : ◌≡◌ {A = Option ℕ} (Some (encoding i)) (Some v) = sym (ap (option_map encoding) q) ∙ h in
        let v_is : encoding i ≡ v = cc in
        let c = code_is layer_words code k i q in
        let le = c.0 in
        let lt = some_below code (k - layer_words) i c.1 in
        let place : layer_words + (k - layer_words) ≡ k = omega (arith, le) in
        same k le (omega (arith, lt, le)) ∙ ap (slice_index linked) (sym place) ∙ sym (get_or-drop layer_words linked (k - layer_words) 0)
        ∙ ap (λ xs. slice_index xs (k - layer_words)) is ∙ get_encoding code (k - layer_words) i c.1 ∙ v_is
