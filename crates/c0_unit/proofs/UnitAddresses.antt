-- Where the parts of a unit's code stand, and how long it is.
use Rattle.std.specs.Prelude.{sum, slice_get, slice_index, Some}
use Rattle.std.proofs.Common.{◌≡◌, ℕ, zero, suc, ◌+◌, ◌*◌, ◌/◌, ◌≤◌, List, [], ◌∷◌, ◌++◌, length, refl, sym, ap, ◌∙◌, arith, length-append, append_assoc}
use Rattle.std.proofs.lemmas.List.Sums.{sum_by-cons}
use Rattle.mips_table.specs.declared.inst.Inst.{Inst}
use Rattle.masm.specs.declared.registers.CodeAddresses.{CodeAddresses}
use Rattle.layer_map.specs.Map.{layer_words}
use Rattle.c0_tree.specs.Tree.{CFunction, CUnit}
use Rattle.c0_meaning.specs.Limits.{all_nodes, words_of_frame}
use Rattle.c0_meaning.specs.Sound.{shapes}
use Rattle.c0_meaning.specs.TypeAt.{env_in}
use Rattle.c0_runtime.specs.declared.runtime.TheConstants.{NEW_OBJECT, MULTIPLY, DIVIDE, REMAINDER}
use Rattle.c0_typed.specs.Leaf.{keeps_registers}
use Rattle.c0_expr_code.specs.Scope.{Scope, scope_of, exit_number}
use Rattle.c0_stmt_code.specs.Code.{Links, links_of, function_code}
use Rattle.c0_stmt_code.specs.Lengths.{FunctionsAreShort, LengthsAreFixed}
use Rattle.c0_unit.specs.Code.{fault_exits, primitive_entries, scope, links, no_links, functions_code, words_of_functions, lengths_of, starts_from, function_starts, routines_at, code_words, globals_start}
use Rattle.c0_unit.specs.Laws.{AreAddressesAt, AreAddressesOf}

-- code stands in other code, from this instruction of it on
pub record IsPart (part : List Inst) (at : ℕ) (whole : List Inst) : Type 0 where
  pub before : List Inst
  pub after : List Inst
  pub is : whole ≡ before ++ (part ++ after)
  pub from : length before ≡ at

pub sum-cons : (n : ℕ) (ns : List ℕ) → sum (n ∷ ns) ≡ n + sum ns
sum-cons n ns = sum_by-cons (λ x. x) n ns

-- the scope that a unit's addresses give
pub scope_same : (u : CUnit) (f : CFunction) (p : CodeAddresses) → p.faults ≡ fault_exits → scope_of u f p ≡ scope u f
scope_same u f p e = ap (λ (exits : List ℕ). with_exits exits) e
  where
    with_exits : List ℕ → Scope
    with_exits exits = record { env = env_in u f; in_registers = keeps_registers f; frame = words_of_frame (shapes u) f; exit = λ fault. slice_index exits (exit_number fault) / 4 }

-- and the links
links_by : (functions primitives : List ℕ) (new_object : ℕ) → Links
links_by functions primitives new_object = record { function = λ n. slice_index functions n / 4; primitive = λ n. slice_index primitives n / 4; new_object = new_object / 4 }

pub links_same : (p : CodeAddresses) (starts : List ℕ) (routines globals : ℕ) → AreAddressesAt p starts routines globals → links_of p ≡ links starts routines
unfolding links_by
links_same p starts routines globals h =
    ap (λ (xs : List ℕ). links_by xs p.primitives.items p.new_object) h.functions
    ∙ (ap (λ (xs : List ℕ). links_by starts xs p.new_object) h.primitives ∙ ap (λ (n : ℕ). links_by starts primitive_entries n) h.new_object)

pub code_same : (u : CUnit) (p : CodeAddresses) → p.faults ≡ fault_exits → (f : CFunction) → function_code (scope_of u f p) (links_of p) f ≡ function_code (scope u f) (links_of p) f
code_same u p faults f = ap (λ (sc : Scope). function_code sc (links_of p) f) (scope_same u f p faults)

-- a unit's code is short
module _ (short : FunctionsAreShort) (u : CUnit) where
  pub words_few : (fs : List CFunction) → sum (words_of_functions u fs) ≤ 32 * all_nodes fs
  words_few [] = omega arith
  words_few (f ∷ rest) =
      let n = short (scope u f) no_links f in
      let r = words_few rest in
      omega (arith, n, r, sum-cons (length (function_code (scope u f) no_links f)) (words_of_functions u rest))

-- and as long as its words say
module _ (fixed : LengthsAreFixed) (u : CUnit) (x : Links) where
  pub functions_length : (fs : List CFunction) → length (functions_code u x fs) ≡ sum (words_of_functions u fs)
  functions_length [] = refl
  functions_length (f ∷ rest) =
      let e = fixed (scope u f) x no_links f in
      let r = functions_length rest in
      omega (arith, e, r, length-append (function_code (scope u f) x f) (functions_code u x rest), sum-cons (length (function_code (scope u f) no_links f)) (words_of_functions u rest))

  -- a function stands in the functions' code where its address says, whatever addresses come behind theirs
  pub function_stands : (fs : List CFunction) (more : List ℕ) (k n : ℕ) (f : CFunction) → slice_get fs n ≡ Some f
      → (at : ℕ) × (slice_index (starts_from k (words_of_functions u fs) ++ more) n ≡ 4 * (k + at)) × IsPart (function_code (scope u f) x f) at (functions_code u x fs)
  function_stands [] more k n f e = absurd (cc)
  function_stands (g ∷ rest) more k zero f e =
      let same : g ≡ f = cc in
      (0, omega arith, record { before = []; after = functions_code u x rest; is = ap (λ (h : CFunction). function_code (scope u h) x h ++ functions_code u x rest) same; from = refl })
  function_stands (g ∷ rest) more k (suc n) f e =
      let r = function_stands rest more (k + length (function_code (scope u g) no_links g)) n f e in
      let w = fixed (scope u g) x no_links g in
      let p = r.2 in
      let at = r.1 in (
        length (function_code (scope u g) no_links g) + r.0,
        omega (arith, at),
        record {
          before = function_code (scope u g) x g ++ p.before;
          after = p.after;
          is = ap (λ (is : List Inst). function_code (scope u g) x g ++ is) p.is ∙ sym (append_assoc (function_code (scope u g) x g) p.before (function_code (scope u f) x f ++ p.after));
          from = let fr = p.from in omega (arith, fr, w, length-append (function_code (scope u g) x g) p.before);
        },
      )

-- a part of what stands behind other code
pub behind : (front part whole : List Inst) (at n : ℕ) → length front ≡ n → IsPart part at whole → IsPart part (n + at) (front ++ whole)
behind front part whole at n e p = record {
  before = front ++ p.before;
  after = p.after;
  is = ap (λ (is : List Inst). front ++ is) p.is ∙ sym (append_assoc front p.before (part ++ p.after));
  from = let f = p.from in omega (arith, e, f, length-append front p.before);
}

-- a part of what stands before other code
pub before_more : (part whole more : List Inst) (at : ℕ) → IsPart part at whole → IsPart part at (whole ++ more)
before_more part whole more at p = record {
  before = p.before;
  after = p.after ++ more;
  is = ap (λ (is : List Inst). is ++ more) p.is ∙ (append_assoc p.before (part ++ p.after) more ∙ ap (λ (is : List Inst). p.before ++ is) (append_assoc part p.after more));
  from = p.from;
}

-- the addresses that the first emission gives are those of the unit
pub are_places_of : (u : CUnit) (first : ℕ) (p : CodeAddresses) (starts : List ℕ) (routines globals long : ℕ) → AreAddressesAt p starts routines globals
    → starts ≡ function_starts u first → long ≡ 5 + sum (lengths_of u) → routines ≡ layer_words + long → globals ≡ (routines + 31 + 1023) / 1024 * 4096 → AreAddressesOf u first p
are_places_of u first p starts routines globals long h are is behind_it to = record {
  globals_at = h.globals_at ∙ (to ∙ globals_same);
  faults = h.faults;
  multiply = h.multiply ∙ ap (λ (n : ℕ). 4 * (n + MULTIPLY)) routines_same;
  divide = h.divide ∙ ap (λ (n : ℕ). 4 * (n + DIVIDE)) routines_same;
  remainder = h.remainder ∙ ap (λ (n : ℕ). 4 * (n + REMAINDER)) routines_same;
  new_object = h.new_object ∙ ap (λ (n : ℕ). 4 * (n + NEW_OBJECT)) routines_same;
  functions = h.functions ∙ are;
  primitives = h.primitives;
}
  where
    routines_same : routines ≡ routines_at u
    routines_same = omega (arith, is, behind_it)

    globals_same : (routines + 31 + 1023) / 1024 * 4096 ≡ globals_start u
    globals_same = let same : routines + 31 ≡ layer_words + code_words u = omega (arith, is, behind_it) in ap (λ (n : ℕ). (n + 1023) / 1024 * 4096) same ∙ omega arith
