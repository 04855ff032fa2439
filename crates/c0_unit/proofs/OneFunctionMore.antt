-- One function more: the code and the addresses so far, of a range of a unit's functions; and two ranges that are all of them.
use Rattle.std.specs.Prelude.{◌^◌, All, map, sum, slice_get, slice_index, Some}
use Rattle.std.proofs.Common.{◌≡◌, ℕ, zero, suc, ◌+◌, ◌*◌, ◌<◌, ◌≤◌, List, [], ◌∷◌, ◌++◌, length, take, drop, refl, sym, ap, ◌∙◌, subst, arith, length-append, append_assoc, append-nil}
use Rattle.std.proofs.Math.Seq.{take-length}
use Rattle.std.proofs.lemmas.List.{length-map, map-append}
use Rattle.std.proofs.lemmas.List.Elements.{All-cons}
use Rattle.mips_table.specs.declared.inst.Inst.{Inst}
use Rattle.mips_table.specs.Encoding.{encoding}
use Rattle.masm.specs.CodeAddresses.{IsJumpTarget}
use Rattle.masm.specs.declared.registers.CodeAddresses.{CodeAddresses}
use Rattle.c0_tree.specs.Tree.{CFunction, CUnit}
use Rattle.c0_tree.specs.Primitives.{CPrimitive}
use Rattle.c0_meaning.specs.Limits.{all_nodes}
use Rattle.c0_meaning.specs.Typed.{UnitsAreFaultless}
use Rattle.c0_meaning.specs.Unit.{IsWellFormed}
use Rattle.c0_runtime.specs.Code.{startup_code, new_routine, multiply_code, divide_code, remainder_code, runtime_code}
use Rattle.c0_expr_code.specs.Scope.{scope_of}
use Rattle.c0_stmt_code.specs.Code.{Links, links_of, function_code}
use Rattle.c0_stmt_code.specs.Lengths.{FunctionsAreShort, LengthsAreFixed}
use Rattle.c0_unit.specs.Code.{fault_exits, scope, no_links, functions_code, words_of_functions, lengths_of, functions_in, code_in, words_in, ordered_code, starts_from, starts_in_order, function_starts, routines_at, globals_start, unit_links, words_from}
use Rattle.c0_unit.specs.Laws.{AreAddressesOf}
use Rattle.c0_unit.proofs.UnitAddresses.{sum-cons, code_same, links_same, functions_length}
use Rattle.c0_unit.proofs.FunctionsInOrder.{range_more, code_join, words_join, range_few, ordered_length}

-- a unit that is well formed has few nodes
pub few_nodes : UnitsAreFaultless → (table : List CPrimitive) (u : CUnit) → IsWellFormed table u → all_nodes u.functions ≤ 100000
few_nodes faultless table u well = ((faultless table u).1 well.typed).nodes

-- the addresses of parts are addresses, where the parts end early enough
pub are_places : (ns : List ℕ) (at : ℕ) → at + sum ns < 2 ^ 26 → All IsJumpTarget (starts_from at ns)
are_places [] at lt = λ k d less. absurd (omega (arith, less))
are_places (n ∷ ns) at lt =
    let s = sum-cons n ns in
    All-cons (λ a. IsJumpTarget a) (4 * at) (starts_from (at + n) ns) (omega arith, omega (arith, lt)) (are_places ns (at + n) (omega (arith, s, lt)))

pub some_at : (fs : List CFunction) (n : ℕ) → n < length fs → (f : CFunction) × (slice_get fs n ≡ Some f)
some_at [] n lt = absurd (omega (arith, lt))
some_at (f ∷ fs) zero lt = (f, refl)
some_at (f ∷ fs) (suc n) lt = some_at fs n (omega (arith, lt))

starts_more : (ns : List ℕ) (at n : ℕ) → starts_from at (ns ++ n ∷ []) ≡ starts_from at ns ++ (4 * (at + sum ns)) ∷ []
starts_more [] at n = let e : at ≡ at + 0 = omega arith in ap (λ (a : ℕ). 4 * a ∷ []) e
starts_more (m ∷ ns) at n =
    let e : at + m + sum ns ≡ at + sum (m ∷ ns) = omega (arith, sum-cons m ns) in
    ap (λ (rest : List ℕ). 4 * at ∷ rest) (starts_more ns (at + m) n ∙ ap (λ (a : ℕ). starts_from (at + m) ns ++ (4 * a) ∷ []) e)

module _ (u : CUnit) where
  -- the code with one function more
  pub grown_code : (p : CodeAddresses) → p.faults ≡ fault_exits → (from n k : ℕ) → from ≤ n → k ≡ suc n → n < length u.functions → (before old new : List ℕ)
      → old ≡ before ++ map encoding (code_in u (links_of p) from n)
      → ((f : CFunction) → slice_get u.functions n ≡ Some f → new ≡ old ++ map encoding (function_code (scope_of u f p) (links_of p) f))
      → new ≡ before ++ map encoding (code_in u (links_of p) from k)
  grown_code p faults from n k le next lt before old new was more =
      let found = some_at u.functions n lt in
      let so_far = code_in u (links_of p) from n in
      let its = function_code (scope u found.0) (links_of p) found.0 in
      let whole : code_in u (links_of p) from k ≡ code_in u (links_of p) from n ++ function_code (scope u found.0) (links_of p) found.0 =
      ap (functions_code u (links_of p)) (range_more u from n k found.0 next le found.1)
      ∙ (code_join u (links_of p) (functions_in u from n) (found.0 ∷ []) ∙ ap (λ (is : List Inst). code_in u (links_of p) from n ++ is) (append-nil (function_code (scope u found.0) (links_of p) found.0))) in
      more found.0 found.1
      ∙ (ap (λ (is : List Inst). old ++ map encoding is) (code_same u p faults found.0)
      ∙ (ap (λ (ws : List ℕ). ws ++ map encoding its) was
      ∙ (append_assoc before (map encoding so_far) (map encoding its)
      ∙ (ap (λ (ws : List ℕ). before ++ ws) (sym (map-append encoding so_far its))
      ∙ ap (λ (is : List Inst). before ++ map encoding is) (sym whole)))))

  -- how long the code of a range is
  pub range_long : LengthsAreFixed → (x : Links) (from n : ℕ) (before code : List ℕ) → code ≡ before ++ map encoding (code_in u x from n) → length code ≡ length before + sum (words_in u from n)
  range_long fixed x from n before code is =
      let long = ap (λ (ws : List ℕ). length ws) is in
      let all = functions_length fixed u x (functions_in u from n) in
      omega (arith, long, all, length-append before (map encoding (code_in u x from n)), length-map (code_in u x from n) encoding)

  -- the addresses with one function more
  pub grown_starts : LengthsAreFixed → (x : Links) (from n k base at : ℕ) → from ≤ n → k ≡ suc n → n < length u.functions → (before old starts more : List ℕ)
      → old ≡ before ++ map encoding (code_in u x from n)
      → at ≡ 4 * (base + length old)
      → starts ≡ starts_from (base + length before) (words_in u from n)
      → more ≡ starts ++ at ∷ []
      → more ≡ starts_from (base + length before) (words_in u from k)
  grown_starts fixed x from n k base at le next lt before old starts more was here are then =
      let found = some_at u.functions n lt in
      let ns = words_in u from n in
      let its = length (function_code (scope u found.0) no_links found.0) in
      let whole : words_in u from k ≡ words_in u from n ++ length (function_code (scope u found.0) no_links found.0) ∷ [] =
      ap (words_of_functions u) (range_more u from n k found.0 next le found.1) ∙ words_join u (functions_in u from n) (found.0 ∷ []) in
      let long = range_long fixed x from n before old was in
      let where_ : at ≡ 4 * (base + length before + sum (words_in u from n)) = omega (arith, here, long) in
      then
      ∙ (ap (λ (ws : List ℕ). ws ++ at ∷ []) are
      ∙ (ap (λ (a : ℕ). starts_from (base + length before) ns ++ a ∷ []) where_
      ∙ (sym (starts_more ns (base + length before) its)
      ∙ ap (λ (xs : List ℕ). starts_from (base + length before) xs) (sym whole))))

  -- how long the code is with any number of functions
  pub code_few : FunctionsAreShort → LengthsAreFixed → (x : Links) (from n : ℕ) (before code : List ℕ) → all_nodes u.functions ≤ 100000
      → code ≡ before ++ map encoding (code_in u x from n) → length code ≤ length before + 3200000
  code_few short fixed x from n before code nodes is =
      let long = range_long fixed x from n before code is in
      let few = range_few u short from n in
      omega (arith, nodes, long, few)

  -- the addresses are addresses
  pub starts_placed : FunctionsAreShort → (from n at : ℕ) (starts : List ℕ) → all_nodes u.functions ≤ 100000 → starts ≡ starts_from at (words_in u from n) → at ≤ 60000000 → All IsJumpTarget starts
  starts_placed short from n at starts nodes is low =
      let few = range_few u short from n in
      subst (λ (xs : List ℕ). All IsJumpTarget xs) (sym is) (are_places (words_in u from n) at (omega (arith, nodes, few, low)))

  -- two ranges behind one another are the functions in their order
  module _ (x : Links) (first count : ℕ) (all : count ≡ length u.functions) (c0 c1 c2 : List ℕ) (late : c1 ≡ c0 ++ map encoding (code_in u x first count)) (early : c2 ≡ c1 ++ map encoding (code_in u x 0 first)) where
    taken : functions_in u first count ≡ drop first u.functions
    taken = ap (λ (k : ℕ). drop first (take k u.functions)) all ∙ ap (drop first) (take-length u.functions)

    both : functions_code u x (functions_in u first count) ++ functions_code u x (take first u.functions) ≡ ordered_code u x first
    both = ap (λ (fs : List CFunction). functions_code u x fs ++ functions_code u x (take first u.functions)) taken ∙ sym (code_join u x (drop first u.functions) (take first u.functions))

    pub ordered : c2 ≡ c0 ++ map encoding (ordered_code u x first)
    ordered =
        early
        ∙ (ap (λ (ws : List ℕ). ws ++ map encoding (code_in u x 0 first)) late
        ∙ (append_assoc c0 (map encoding (code_in u x first count)) (map encoding (code_in u x 0 first))
        ∙ (ap (λ (ws : List ℕ). c0 ++ ws) (sym (map-append encoding (code_in u x first count) (code_in u x 0 first)))
        ∙ ap (λ (is : List Inst). c0 ++ map encoding is) both)))

    pub ordered_long : LengthsAreFixed → length c2 ≡ length c0 + sum (lengths_of u)
    ordered_long fixed =
        let long = ap (λ (ws : List ℕ). length ws) ordered in
        let all = ordered_length u fixed x first in
        omega (arith, long, all, length-append c0 (map encoding (ordered_code u x first)), length-map (ordered_code u x first) encoding)

    pub ordered_starts : LengthsAreFixed → (base : ℕ) (behind before starts : List ℕ) → behind ≡ starts_from (base + length c0) (words_in u first count)
        → before ≡ starts_from (base + length c1) (words_in u 0 first) → starts ≡ before ++ behind → starts ≡ starts_in_order (base + length c0) u first
    ordered_starts fixed base behind before starts late_at early_at are =
        let long = range_long fixed x first count c0 c1 late in
        let words : sum (words_in u first count) ≡ sum (words_of_functions u (drop first u.functions)) = ap (λ (fs : List CFunction). sum (words_of_functions u fs)) taken in
        let seam : base + length c1 ≡ base + length c0 + sum (words_of_functions u (drop first u.functions)) = omega (arith, long, words) in
        are
        ∙ (ap (λ (ns : List ℕ). ns ++ behind) (early_at ∙ ap (λ (n : ℕ). starts_from n (words_in u 0 first)) seam)
        ∙ ap (λ (ns : List ℕ). starts_from (base + length c0 + sum (words_of_functions u (drop first u.functions))) (words_in u 0 first) ++ ns)
        (late_at ∙ ap (λ (fs : List CFunction). starts_from (base + length c0) (words_of_functions u fs)) taken))

-- the entry, the functions and the routines are a unit's words
joined : (c0 c1 c2 c3 : List ℕ) (e f r : List Inst) → c0 ≡ [] → c1 ≡ c0 ++ map encoding e → c2 ≡ c1 ++ map encoding f → c3 ≡ c2 ++ map encoding r → c3 ≡ map encoding (e ++ (f ++ r))
joined c0 c1 c2 c3 e f r none first second third =
    third
    ∙ (ap (λ (ws : List ℕ). ws ++ map encoding r) (second ∙ ap (λ (ws : List ℕ). ws ++ map encoding f) (first ∙ ap (λ (ws : List ℕ). ws ++ map encoding e) none))
    ∙ (append_assoc (map encoding e) (map encoding f) (map encoding r)
    ∙ (ap (λ (ws : List ℕ). map encoding e ++ ws) (sym (map-append encoding f r)) ∙ sym (map-append encoding e (f ++ r)))))

pub whole_words : (u : CUnit) (first : ℕ) (p : CodeAddresses) → AreAddressesOf u first p → (c0 c1 c2 c3 : List ℕ) → c0 ≡ [] → c1 ≡ c0 ++ map encoding (startup_code p.globals)
    → c2 ≡ c1 ++ map encoding (ordered_code u (links_of p) first) → c3 ≡ c2 ++ map encoding (runtime_code p) → c3 ≡ words_from u first
whole_words u first p h c0 c1 c2 c3 none a b c =
    joined c0 c1 c2 c3 (startup_code p.globals) (ordered_code u (links_of p) first) (runtime_code p) none a b c
    ∙ (ap (λ (n : ℕ). map encoding (startup_code n ++ (ordered_code u (links_of p) first ++ runtime_code p))) h.globals_at
    ∙ (ap (λ (x : Links). map encoding (startup_code (globals_start u) ++ (ordered_code u x first ++ runtime_code p))) (links_same p (function_starts u first) (routines_at u) (globals_start u) h)
    ∙ ap (λ (ns : List ℕ). map encoding (startup_code (globals_start u) ++ (ordered_code u (unit_links u first) first ++ (new_routine ++ (multiply_code ++ (divide_code (slice_index ns 2) ++ remainder_code (slice_index ns 2))))))) h.faults))
