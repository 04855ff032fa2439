-- Where the parts of a well-formed unit's code stand by its addresses, and that its instructions are in range.
use Rattle.std.specs.Prelude.{All, sum, slice_get, slice_index, Some}
use Rattle.std.proofs.Common.{rules, Global, ◌≡◌, ℕ, zero, suc, ◌+◌, ◌*◌, ◌/◌, ◌^◌, ◌<◌, ◌≤◌, List, [], ◌∷◌, ◌++◌, length, take, drop, refl, sym, ap, ◌∙◌, subst, arith, length-append, append_assoc}
use Rattle.std.proofs.lemmas.List.{length-map, take-append-drop}
use Rattle.std.proofs.lemmas.List.FromFn.{get_or-map-range_with_len}
use Rattle.std.proofs.lemmas.Bool.{and_parts, ltb-true}
use Rattle.c0_tree.specs.Plain.{is_short}
use denote.RawPtr.{null_ptr}
use Rattle.std.proofs.lemmas.List.Elements.{All-append, All-cons, All-head, All-nil, All-tail}
use Rattle.std.specs.declared.vec.Vec.{Vec}
use Rattle.mips_table.specs.declared.inst.Inst.{Inst}
use Rattle.mips_table.specs.Encoding.{InRange}
use Rattle.layer_map.specs.Map.{primitives_at}
use Rattle.masm.specs.declared.registers.CodeAddresses.{CodeAddresses}
use Rattle.masm.specs.CodeAddresses.{IsJumpTarget, AreCodeAddresses}
use Rattle.c0_tree.specs.Primitives.{CPrimitive}
use Rattle.c0_tree.specs.Tree.{CFunction, CUnit}
use Rattle.c0_meaning.specs.Operators.{KernelFault, NullUse, Bounds, DivZero, StackOut}
use Rattle.c0_meaning.specs.Typed.{UnitsAreFaultless}
use Rattle.c0_meaning.specs.Unit.{IsWellFormed}
use Rattle.c0_runtime.specs.declared.runtime.TheConstants.{NEW_OBJECT, MULTIPLY, DIVIDE, REMAINDER}
use Rattle.c0_runtime.specs.Code.{startup_code, new_routine, multiply_code, divide_code, remainder_code}
use Rattle.c0_expr_code.specs.Scope.{exit_number, scope_of}
use Rattle.c0_stmt_code.specs.Code.{Links, links_of, function_code}
use Rattle.c0_stmt_code.specs.Lengths.{FunctionsAreShort, LengthsAreFixed}
use Rattle.c0_stmt_code.specs.Ranges.{AreNear, FunctionsAreInRange}
use Rattle.c0_unit.specs.Code.{fault_exits, primitive_entries, routines_at, functions_at, scope, no_links, unit_links, functions_code, words_of_functions, lengths_of, ordered_code, starts_from, function_starts, globals_start, routines_code, unit_code}
use Rattle.c0_unit.specs.Laws.{AreAddressesOf, StandsIn, UnitStands}
use Rattle.c0_unit.proofs.OneFunctionMore.{few_nodes, are_places}
use Rattle.c0_unit.proofs.FunctionsInOrder.{starts_length, code_join, both_sum, ordered_length, stands_in_order, first_stands}
use Rattle.c0_unit.proofs.UnitAddresses.{IsPart, behind, before_more, code_same, links_same, words_few}

place_at : (xs : List ℕ) (n : ℕ) → All IsJumpTarget xs → IsJumpTarget (slice_index xs n)
place_at [] n h = (refl, omega arith)
place_at (x ∷ xs) zero h = All-head IsJumpTarget x xs h
place_at (x ∷ xs) (suc n) h = place_at xs n (All-tail IsJumpTarget x xs h)

-- the entries of primitives are words of the layer's, a word each
entry_at : (n : ℕ) → n < 10 → slice_index primitive_entries n / 4 ≡ 2048 + n
entry_at n lt = let e = get_or-map-range_with_len (λ k. 4 * (primitives_at + k)) 0 10 n n 0 lt (omega arith) in omega (arith, e)

-- number by number
abbrev Each : (ℕ → Type 0) → List ℕ → Type 0
Each P [] = Unit {0}
Each P (x ∷ xs) = P x × Each P xs

all_each : (P : ℕ → Type 0) (xs : List ℕ) → Each P xs → All P xs
all_each P [] h = All-nil P
all_each P (x ∷ xs) h = All-cons P x xs h.0 (all_each P xs h.1)

entries_low : (xs : List ℕ) (n : ℕ) → Each (λ a. a < 65536) xs → slice_index xs n < 65536
entries_low [] n h = omega arith
entries_low (x ∷ xs) zero h = h.0
entries_low (x ∷ xs) (suc n) h = entries_low xs n h.1

entries : Each (λ a. a < 65536) primitive_entries
entries = search rules

exit_near : (fault : KernelFault) → slice_index fault_exits (exit_number fault) / 4 < 2 ^ 26
exit_near NullUse = omega arith
exit_near Bounds = omega arith
exit_near DivZero = omega arith
exit_near StackOut = omega arith

exit_at : (fault : KernelFault) → slice_index fault_exits (exit_number fault) / 4 ≡ 2058 + exit_number fault
exit_at NullUse = refl
exit_at Bounds = refl
exit_at DivZero = refl
exit_at StackOut = refl

-- instruction by instruction
abbrev Ranged : List Inst → Type 0
Ranged [] = Unit {0}
Ranged (i ∷ is) = InRange i × Ranged is

all_of : (is : List Inst) → Ranged is → All InRange is
all_of [] h = All-nil InRange
all_of (i ∷ is) h = All-cons InRange i is h.0 (all_of is h.1)

pub routines_fine : Ranged routines_code
routines_fine = search rules

entry_fine : (globals : ℕ) → globals < 2 ^ 28 → Ranged (startup_code globals)
entry_fine globals g = search rules

-- of each function's code
abbrev AreFine : CUnit → Links → List CFunction → Type 0
AreFine u x [] = Unit {0}
AreFine u x (f ∷ fs) = All InRange (function_code (scope u f) x f) × AreFine u x fs

are_fine : (u : CUnit) (x : Links) (fs : List CFunction) → ((n : ℕ) (f : CFunction) → slice_get fs n ≡ Some f → All InRange (function_code (scope u f) x f)) → AreFine u x fs
are_fine u x [] h = tt
are_fine u x (f ∷ fs) h = (h zero f refl, are_fine u x fs (λ n. h (suc n)))

fine_take : (u : CUnit) (x : Links) (n : ℕ) (fs : List CFunction) → AreFine u x fs → AreFine u x (take n fs)
fine_take u x zero fs h = tt
fine_take u x (suc n) [] h = tt
fine_take u x (suc n) (f ∷ fs) h = (h.0, fine_take u x n fs h.1)

fine_drop : (u : CUnit) (x : Links) (n : ℕ) (fs : List CFunction) → AreFine u x fs → AreFine u x (drop n fs)
fine_drop u x zero fs h = h
fine_drop u x (suc n) [] h = tt
fine_drop u x (suc n) (f ∷ fs) h = fine_drop u x n fs h.1

functions_fine : (u : CUnit) (x : Links) (fs : List CFunction) → AreFine u x fs → All InRange (functions_code u x fs)
functions_fine u x [] h = All-nil InRange
functions_fine u x (f ∷ fs) h = All-append InRange (function_code (scope u f) x f) (functions_code u x fs) h.0 (functions_fine u x fs h.1)

ordered_fine : (u : CUnit) (x : Links) (first : ℕ) → AreFine u x u.functions → All InRange (ordered_code u x first)
ordered_fine u x first h =
    subst (λ (is : List Inst). All InRange is) (sym (code_join u x (drop first u.functions) (take first u.functions)))
    (All-append InRange (functions_code u x (drop first u.functions)) (functions_code u x (take first u.functions))
    (functions_fine u x (drop first u.functions) (fine_drop u x first u.functions h)) (functions_fine u x (take first u.functions) (fine_take u x first u.functions h)))

-- where a routine stands among them
multiply_part : IsPart multiply_code 18 routines_code
multiply_part = record { before = new_routine; after = divide_code (slice_index fault_exits 2) ++ remainder_code (slice_index fault_exits 2); is = refl; from = refl }

divide_part : (exits : List ℕ) → exits ≡ fault_exits → IsPart (divide_code (slice_index exits 2)) 21 routines_code
divide_part exits e = record {
  before = new_routine ++ multiply_code;
  after = remainder_code (slice_index fault_exits 2);
  is = ap (λ (ns : List ℕ). (new_routine ++ multiply_code) ++ (divide_code (slice_index ns 2) ++ remainder_code (slice_index fault_exits 2))) (sym e);
  from = refl;
}

remainder_part : (exits : List ℕ) → exits ≡ fault_exits → IsPart (remainder_code (slice_index exits 2)) 26 routines_code
remainder_part exits e = record {
  before = new_routine ++ (multiply_code ++ divide_code (slice_index fault_exits 2));
  after = [];
  is = ap (λ (ns : List ℕ). (new_routine ++ (multiply_code ++ divide_code (slice_index fault_exits 2))) ++ (remainder_code (slice_index ns 2) ++ [])) (sym e);
  from = refl;
}

new_part : IsPart new_routine 0 routines_code
new_part = record { before = []; after = multiply_code ++ (divide_code (slice_index fault_exits 2) ++ remainder_code (slice_index fault_exits 2)); is = refl; from = refl }

module _ (faultless : UnitsAreFaultless) (short : FunctionsAreShort) (table : List CPrimitive) (u : CUnit) (well : IsWellFormed table u) (first : ℕ) where
  few_words : sum (lengths_of u) ≤ 3200000
  few_words =
      let nodes = few_nodes faultless table u well in
      let few = words_few short u u.functions in
      omega (arith, nodes, few)

  -- the addresses of functions are addresses, and so is that of the globals
  pub starts_placed : All IsJumpTarget (function_starts u first)
  starts_placed =
      let few = few_words in let both = both_sum u first in
      All-append IsJumpTarget (starts_from (functions_at + sum (words_of_functions u (drop first u.functions))) (words_of_functions u (take first u.functions))) (starts_from functions_at (words_of_functions u (drop first u.functions)))
      (are_places (words_of_functions u (take first u.functions)) (functions_at + sum (words_of_functions u (drop first u.functions))) (omega (arith, few, both)))
      (are_places (words_of_functions u (drop first u.functions)) functions_at (omega (arith, few, both)))

  pub globals_placed : IsJumpTarget (globals_start u)
  globals_placed = let few = few_words in (omega arith, omega (arith, few))

  pub routine_placed : (k : ℕ) → k ≤ 31 → IsJumpTarget (4 * (routines_at u + k))
  routine_placed k le = let few = few_words in (omega arith, omega (arith, few, le))

  start_placed : (n : ℕ) → IsJumpTarget (slice_index (function_starts u first) n)
  start_placed n = place_at (function_starts u first) n starts_placed

  near : AreNear (unit_links u first)
  near = record {
    function = λ n. let h = (start_placed n).1 in omega (arith, h);
    primitive = λ n. let h = entries_low primitive_entries n entries in omega (arith, h);
    new_object = let few = few_words in omega (arith, few);
  }

  whole_fine : FunctionsAreInRange → All InRange (unit_code u first)
  whole_fine ranged =
      let g = globals_placed in
      All-append InRange (startup_code (globals_start u)) (ordered_code u (unit_links u first) first ++ routines_code) (all_of (startup_code (globals_start u)) (entry_fine (globals_start u) g.1))
      (All-append InRange (ordered_code u (unit_links u first) first) routines_code
      (ordered_fine u (unit_links u first) first (are_fine u (unit_links u first) u.functions (λ n f is. ranged table u well (scope u f) (unit_links u first) exit_near near n f is refl))) (all_of routines_code routines_fine))

  -- the parts of a unit's code
  pub unit_stands : LengthsAreFixed → FunctionsAreInRange → (p : CodeAddresses) → AreAddressesOf u first p → UnitStands u first p
  unit_stands fixed ranged p h = record {
    rest = ordered_code u (unit_links u first) first ++ routines_code;
    entry = ap (λ (n : ℕ). startup_code n ++ (ordered_code u (unit_links u first) first ++ routines_code)) (sym h.globals_at);
    begins = λ f is.
        let far = ap (λ (ns : List ℕ). slice_index ns first / 4) h.functions in
        let at = first_stands u functions_at first f is in
        omega (arith, far, at);
    new_object = routine_stands new_routine 0 p.new_object new_part h.new_object;
    multiply = routine_stands multiply_code 18 p.multiply multiply_part h.multiply;
    divide = routine_stands (divide_code (slice_index p.faults 2)) 21 p.divide (divide_part p.faults h.faults) h.divide;
    remainder = routine_stands (remainder_code (slice_index p.faults 2)) 26 p.remainder (remainder_part p.faults h.faults) h.remainder;
    functions = λ n f is. its_place n f is;
    words = let l = ordered_length u fixed (unit_links u first) first in omega (arith, l, length-append (ordered_code u (unit_links u first) first) routines_code);
    in_range = whole_fine ranged;
    exits = λ fault. ap (λ (ns : List ℕ). slice_index ns (exit_number fault) / 4) h.faults ∙ exit_at fault;
    primitives = λ n lt. ap (λ (ns : List ℕ). slice_index ns n / 4) h.primitives ∙ entry_at n lt;
    below = λ n.
        let same = ap (λ (ns : List ℕ). slice_index ns n / 4) h.primitives in
        let low = entries_low primitive_entries n entries in
        omega (arith, same, low);
  }
    where
      routine_stands : (part : List Inst) (at place : ℕ) → IsPart part at routines_code → place ≡ 4 * (routines_at u + at) → StandsIn u first (place / 4) part
      routine_stands part at place is there =
          let b = behind (startup_code (globals_start u) ++ ordered_code u (unit_links u first) first) part routines_code at (5 + sum (lengths_of u))
          (let l = ordered_length u fixed (unit_links u first) first in omega (arith, l)) is in
          let long = b.from in
          record {
            before = b.before;
            after = b.after;
            is = sym (append_assoc (startup_code (globals_start u)) (ordered_code u (unit_links u first) first) routines_code) ∙ b.is;
            from = omega (arith, there, long);
            behind = omega (arith, long);
          }

      linked : links_of p ≡ unit_links u first
      linked = links_same p (function_starts u first) (routines_at u) (globals_start u) h

      its_place : (n : ℕ) (f : CFunction) → slice_get u.functions n ≡ Some f → StandsIn u first ((links_of p).function n) (function_code (scope_of u f p) (links_of p) f)
      its_place n f is =
          let r = stands_in_order u fixed (unit_links u first) functions_at first n f is in
          let b = behind (startup_code (globals_start u)) (function_code (scope u f) (unit_links u first) f) (ordered_code u (unit_links u first) first ++ routines_code) r.0 5 refl
          (before_more (function_code (scope u f) (unit_links u first) f) (ordered_code u (unit_links u first) first) routines_code r.0 r.2) in
          let at = r.1 in
          let far = ap (λ (ns : List ℕ). slice_index ns n / 4) h.functions in
          let long = b.from in
          record {
            before = b.before;
            after = b.after;
            is = b.is ∙ ap (λ (is : List Inst). b.before ++ (is ++ b.after)) (sym (code_same u p h.faults f ∙ ap (λ (x : Links). function_code (scope u f) x f) linked));
            from = omega (arith, far, at, long);
            behind = omega (arith, long);
          }

-- numbers as a vector, wherever it stands
vec_of : (xs : List ℕ) → length xs < 2 ^ 63 → Vec ℕ Global
vec_of xs h = record { ptr = null_ptr; len = length xs; cap = length xs; alloc = record { memory = record { seal = tt } }; items = xs; ok = (refl, omega arith); small = h }

-- a unit's functions begin at as many addresses
tree_starts : (u : CUnit) (first : ℕ) → length (function_starts u first) ≡ length u.functions
tree_starts u first =
    let a = starts_length (functions_at + sum (words_of_functions u (drop first u.functions))) (words_of_functions u (take first u.functions)) in
    let b = starts_length functions_at (words_of_functions u (drop first u.functions)) in
    let c = length-map (take first u.functions) (λ f. length (function_code (scope u f) no_links f)) in
    let d = length-map (drop first u.functions) (λ f. length (function_code (scope u f) no_links f)) in
    let both = length-append (starts_from (functions_at + sum (words_of_functions u (drop first u.functions))) (words_of_functions u (take first u.functions))) (starts_from functions_at (words_of_functions u (drop first u.functions))) in
    let all = length-append (take first u.functions) (drop first u.functions) in
    let same = ap (λ (fs : List CFunction). length fs) (take-append-drop first u.functions) in
    omega (arith, a, b, c, d, both, all, same)

-- a well-formed tree has few functions
few_functions : (table : List CPrimitive) (u : CUnit) → IsWellFormed table u → length u.functions < 2 ^ 63
few_functions table u well =
    let globals = (and_parts (is_short u.structs) _ well.plain).1 in
    let functions = (and_parts (is_short u.globals) _ globals).1 in
    let few = ltb-true (length u.functions) (2 ^ 32) (and_parts (is_short u.functions) _ functions).0 in
    omega (arith, few)

-- the addresses of a checked unit
pub tree_places : (faultless : UnitsAreFaultless) (short : FunctionsAreShort) (table : List CPrimitive) (u : CUnit) → IsWellFormed table u → (first : ℕ) → (p : CodeAddresses) × AreAddressesOf u first p × AreCodeAddresses p
unfolding vec_of
tree_places faultless short table u well first =
    let few : length (function_starts u first) < 2 ^ 63 = let l = tree_starts u first in let most = few_functions table u well in omega (arith, l, most) in
    let placed = routine_placed faultless short table u well first in
    let addresses : CodeAddresses = record {
      globals = globals_start u;
      faults = fault_exits;
      multiply = 4 * (routines_at u + MULTIPLY);
      divide = 4 * (routines_at u + DIVIDE);
      remainder = 4 * (routines_at u + REMAINDER);
      new_object = 4 * (routines_at u + NEW_OBJECT);
      functions = vec_of (function_starts u first) few;
      primitives = vec_of primitive_entries (omega arith);
    } in (
      addresses,
      record { globals_at = refl; faults = refl; multiply = refl; divide = refl; remainder = refl; new_object = refl; functions = refl; primitives = refl },
      record {
        globals = globals_placed faultless short table u well first;
        faults = all_each IsJumpTarget fault_exits exits_placed;
        multiply = placed MULTIPLY (omega arith);
        divide = placed DIVIDE (omega arith);
        remainder = placed REMAINDER (omega arith);
        new_object = placed NEW_OBJECT (omega arith);
        functions = starts_placed faultless short table u well first;
        primitives = all_each IsJumpTarget primitive_entries entries_placed;
      },
    )
  where
    exits_placed : Each IsJumpTarget fault_exits
    exits_placed = search rules

    entries_placed : Each IsJumpTarget primitive_entries
    entries_placed = search rules
