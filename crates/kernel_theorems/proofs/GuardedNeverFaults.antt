-- The guarded kernel: each of its dispatches is done with no fault, by the rules for code.
use Rattle.std.proofs.Common.{◌≡◌, ◌≢◌, ℕ, zero, suc, ◌+◌, ◌-◌, ◌%◌, ◌^◌, ◌≤◌, List, [], ◌∷◌, length, Bool, true, false, nat_lt, Option, Some, None, refl, sym, ap, ◌∙◌, subst, arith}
use Rattle.std.specs.Prelude.{ℤ, pos, negsuc, neg_ℤ, unsigned_abs, ◌+ℤ◌, not, codes, Ok, int_lt, nat_le}
use Rattle.std.specs.Int.{int_wrap, w32}
use Rattle.std.specs.Ordering.{int_eq}
use Rattle.std.proofs.lemmas.Bool.{le-ltb, le-leb, ltb-true, ltb-false, eqb-false}
use Rattle.std.proofs.lemmas.Int.{to_z_pos}
use Rattle.std.proofs.Math.Nat.{div-add-mod'}
use Rattle.mips_table.specs.Arith.{signed}
use Rattle.mips_table.specs.declared.cause.Cause.{Cause}
use Rattle.mips_table.specs.declared.cause.Cause.TheVariants as causes
use Rattle.mips_table.specs.Machine.{cause_number}
use Rattle.mips_table.specs.Processor.{is_aligned}
use Rattle.mips_table.specs.Flat.{Flat}
use Rattle.layer_map.specs.declared.params.Params.{Params}
use Rattle.cvm_words.specs.Words.{quotient, remainder}
use Rattle.c0_tree.specs.declared.tree.Kind.TheVariants.{Function}
use Rattle.c0_tree.specs.Tree.{call, choice, done, next}
use Rattle.worked_rows.specs.Kernels.{z, name, local}
use Rattle.c0_meaning.specs.Value.{int, group, empty, part}
use Rattle.c0_meaning.specs.State.{C0State, Frame}
use Rattle.c0_meaning.specs.Operators.{divided}
use Rattle.c0_meaning.specs.World.{Setting, Configuration, beginning}
use Rattle.c0_meaning.specs.Running.{Work, begin, act_on, leave, into, outward, push}
use Rattle.c0_meaning.specs.Execution.{dispatch}
use Rattle.c0_meaning.specs.Reasoning.{DoneWith, EndsIn}
use Rattle.c0_meaning.proofs.Rules as rules
use Rattle.cvm_model.specs.Kernel.{Core, Changes, KernelMeaning as Kernel}
use Rattle.cvm_model.specs.KernelMeaning.{Machines, setting_of, machines_of}
use Rattle.cvm_model.specs.Primitives.{user_of}
use Rattle.cvm_model.specs.Cvm.{System, first_core}
use Rattle.cvm_model.specs.Invariant.{Dispatch, Keeps, KeptAt, IsInvariant, HasUsers, RunsAreLawful}
use Rattle.cvm_model.proofs.InvariantsHold.{invariants_hold}
use Rattle.cvm_model.proofs.KeepsDispatch.{keeps_by}
use Rattle.kernel_theorems.proofs.ComputedDispatches.{answers_user}
use Rattle.kernel_theorems.proofs.LessSaid.{weaker, from_state}
use Rattle.kernel_theorems.specs.Traps.{TrapTells, StepsTell}
use Rattle.kernel_theorems.specs.GuardedTree.{guarded, bump_locals, bump_body, bump_answer, bump_code, dispatch_answer, dispatch_test4, dispatch_yes4, dispatch_test5, dispatch_yes5, dispatch_rest3}
use Rattle.kernel_theorems.specs.Guarded.{Data, globals_of, heap_of, used_of, data_of, IsData, RunsGuarded, GuardedNeverFaults}

-- a division whose right side is not 0 has a value
divides : (a x : ℤ) → not (int_eq x (pos 0)) ≡ true → divided quotient a x ≡ Ok (int (quotient a x))
divides a (pos zero) e = absurd (cc)
divides a (pos (suc n)) e = refl
divides a (negsuc n) e = refl

divides_by : (a x : ℤ) → x ≢ pos 0 → divided quotient a x ≡ Ok (int (quotient a x))
divides_by a (pos zero) h = absurd (h refl)
divides_by a (pos (suc n)) h = refl
divides_by a (negsuc n) h = refl

-- AN ADDRESS that is no multiple of 4 is no multiple of 4 as an int
is_zero : (n : ℕ) → neg_ℤ (pos n) ≡ pos 0 → n ≡ 0
is_zero zero e = refl
is_zero (suc n) e = absurd (cc)

leaves_more : (w : ℕ) → is_aligned w ≡ false → remainder (signed w) (pos 4) ≢ pos 0
leaves_more w odd = by (nat_lt w (2 ^ 31)) refl
  where
    by : (b : Bool) → nat_lt w (2 ^ 31) ≡ b → remainder (signed w) (pos 4) ≢ pos 0
    by true e h =
        let left : w % 4 ≡ 0 = ap unsigned_abs (ap (λ a. remainder a (pos 4)) (sym (to_z_pos w32 w (ltb-true w (2 ^ 31) e))) ∙ h) in
        eqb-false (w % 4) 0 odd left
    by false e h =
        let n : ℕ = suc (2 ^ 32 - suc w) in
        let is : signed w ≡ negsuc (2 ^ 32 - suc w) = rw e refl in
        let left : n % 4 ≡ 0 = is_zero (n % 4) (ap (λ a. remainder a (pos 4)) (sym is) ∙ h) in
        let high : 2 ^ 31 ≤ w = ltb-false w (2 ^ 31) e in
        let whole = div-add-mod' n 4 in
        let parts = div-add-mod' w 4 in
        let none : w % 4 ≡ 0 = omega (arith, left, high, whole, parts) in
        eqb-false (w % 4) 0 odd none

module _ (p : Params) (room : 13 ≤ p.stack) where
  abbrev s : Setting Machines Changes
  s = setting_of guarded p

  -- the state in `dispatch`
  abbrev inside : Data → (cause edata user who seen : ℤ) → C0State
  inside x cause edata user who seen = record {
    global_values = globals_of x;
    heap_values = group (heap_of x.cell);
    heap_words = used_of x.cell;
    frames = record { function = 1; variables = group (part (int cause) (part (int edata) (part (int user) (part (int who) (part (int seen) empty))))) } ∷ [];
  }

  -- done: it has answered this, and its data are ints
  record Answers (who : ℤ) (d : Configuration Machines Changes) : Type 0 where
    values : Data
    answer : d.answer ≡ Some (int who)
    state : d.state ≡ data_of values

  -- THE DIVISION, behind its test
  rated : (x : Data) (cause edata user who seen : ℤ) (d : Configuration Machines Changes) → not (int_eq x.a (pos 0)) ≡ true
      → EndsIn s 20 (push dispatch_yes5 (push done (leave dispatch_answer outward ∷ []))) (record d { state = inside x cause edata user who seen }) (Answers who)
  rated x cause edata user who seen d e = rw (divides x.b x.a e) (record { values = record x { rate = quotient x.b x.a }; answer = refl; state = refl })

  last_part : (x : Data) (cause edata user who seen : ℤ) (d : Configuration Machines Changes)
      → EndsIn s 30 (push dispatch_rest3 (leave dispatch_answer outward ∷ [])) (record d { state = inside x cause edata user who seen }) (Answers who)
  last_part x cause edata user who seen d =
      rules.more Machines Changes s (1 + 5 + 20) 30 (push dispatch_rest3 (leave dispatch_answer outward ∷ [])) (record d { state = inside x cause edata user who seen }) (Answers who) (omega arith)
      (rules.by_choice Machines Changes s z dispatch_test5 dispatch_yes5 done done (leave dispatch_answer outward ∷ []) (record d { state = inside x cause edata user who seen }) 5 20 (not (int_eq x.a (pos 0))) (Answers who)
      refl (λ e. rated x cause edata user who seen d e) (λ e. record { values = x; answer = refl; state = refl }))

  -- THE INDEX, behind its test: a place that is none of the four leaves the counts
  abbrev in_bump : Data → (at seen : ℤ) → List Frame → C0State
  in_bump x at seen behind = record {
    global_values = globals_of x;
    heap_values = group (heap_of x.cell);
    heap_words = used_of x.cell;
    frames = record { function = 0; variables = group (part (int at) (part (int seen) empty)) } ∷ behind;
  }

  record Bumped (at : ℤ) (behind : List Frame) (cell : Option ℤ) (d : Configuration Machines Changes) : Type 0 where
    values : Data
    seen : ℤ
    same : values.cell ≡ cell
    state : d.state ≡ in_bump values at seen behind

  bumped : (x : Data) (at : ℤ) (behind : List Frame) (d : Configuration Machines Changes) → EndsIn s 60 (push bump_body []) (record d { state = in_bump x at (pos 0) behind }) (Bumped at behind x.cell)
  bumped x (pos zero) behind d = record { values = record x { a = int_wrap w32 (x.a +ℤ pos 1) }; seen = _; same = refl; state = refl }
  bumped x (pos (suc zero)) behind d = record { values = record x { b = int_wrap w32 (x.b +ℤ pos 1) }; seen = _; same = refl; state = refl }
  bumped x (pos (suc (suc zero))) behind d = record { values = record x { c = int_wrap w32 (x.c +ℤ pos 1) }; seen = _; same = refl; state = refl }
  bumped x (pos (suc (suc (suc zero)))) behind d = record { values = record x { d = int_wrap w32 (x.d +ℤ pos 1) }; seen = _; same = refl; state = refl }
  bumped x (pos (suc (suc (suc (suc n))))) behind d =
      let from : nat_le 0 (suc (suc (suc (suc n)))) ≡ true = le-leb 0 (suc (suc (suc (suc n)))) (omega arith) in
      let past : nat_lt (suc (suc (suc (suc n)))) 4 ≡ false = le-ltb (suc (suc (suc (suc n)))) 4 (omega arith) in
      rw (from, past) (record { values = x; seen = pos 0; same = refl; state = refl })
  bumped x (negsuc n) behind d = record { values = x; seen = pos 0; same = refl; state = refl }

  -- behind the call, THE POINTER, behind its test
  abbrev behind_call : List Work
  behind_call = push dispatch_rest3 (leave dispatch_answer outward ∷ [])

  abbrev returning : List Work
  returning = leave bump_answer (into (local (codes "seen") 4) (next (choice z dispatch_test4 dispatch_yes4 done) done)) ∷ behind_call

  abbrev frame_of : (cause edata user : ℤ) → Frame
  frame_of cause edata user = record { function = 1; variables = group (part (int cause) (part (int edata) (part (int user) (part (int user) (part (int (pos 0)) empty))))) }

  abbrev back_in : Data → (at seen cause edata user : ℤ) → Configuration Machines Changes → Configuration Machines Changes
  back_in x at seen cause edata user d = record d { state = in_bump x at seen (frame_of cause edata user ∷ []) }

  stored : (x : Data) (o : Option ℤ) (at seen cause edata user : ℤ) (d : Configuration Machines Changes) → EndsIn s 60 returning (back_in (record x { cell = o }) at seen cause edata user d) (Answers user)
  stored x None at seen cause edata user d =
      rules.straight Machines Changes s 3 30 30 returning (back_in (record x { cell = None }) at seen cause edata user d) (Answers user)
      (omega arith, last_part (record x { cell = None }) cause edata user user seen d)
  stored x (Some v) at seen cause edata user d =
      rules.straight Machines Changes s 4 30 30 returning (back_in (record x { cell = Some v }) at seen cause edata user d) (Answers user)
      (omega arith, last_part (record x { cell = Some seen }) cause edata user user seen d)

  -- THE CALL, with data that any user may give
  abbrev at_call : List Work
  at_call = act_on (call z (local (codes "seen") 4) z (name (codes "bump") Function 0) (local (codes "data") 1 ∷ [])) (next (choice z dispatch_test4 dispatch_yes4 done) done) ∷ behind_call

  called : (x : Data) (cause edata user : ℤ) (c : Configuration Machines Changes) → EndsIn s (2 + 1 + 1 + (60 + suc 60)) at_call (record c { state = inside x cause edata user user (pos 0) }) (Answers user)
  called x cause edata user c =
      let room13 : nat_lt p.stack 13 ≡ false = le-ltb p.stack 13 room in
      let at : Configuration Machines Changes = record c { state = inside x cause edata user user (pos 0) } in
      rules.by_call Machines Changes s z (local (codes "seen") 4) z (name (codes "bump") Function 0) (local (codes "data") 1 ∷ []) (next (choice z dispatch_test4 dispatch_yes4 done) done) behind_call at
      bump_code bump_locals bump_body bump_answer (part (int edata) empty) 1 60 60 (Bumped edata (frame_of cause edata user ∷ []) x.cell) (Answers user) refl refl refl room13 refl
      (bumped x edata (frame_of cause edata user ∷ []) at)
      (λ d h. from_state Machines Changes s 60 returning d (in_bump h.values edata h.seen (frame_of cause edata user ∷ [])) (Answers user) h.state (stored h.values h.values.cell edata h.seen cause edata user d))

  -- A TRAP whose data the kernel knows nothing of
  trapped : (m : ℕ) → int_eq (pos m) (pos 0) ≡ false → int_eq (pos m) (pos 7) ≡ false → int_lt (pos 1) (pos m) ≡ true → (x : Data) (edata user : ℤ) (world : Machines)
      → EndsIn s 300 (begin 1 (part (int (pos m)) (part (int edata) (part (int user) empty))) ∷ []) (beginning (data_of x) world) (Answers user)
  trapped m no_start no_division no_line x edata user world =
      let room8 : nat_lt p.stack 8 ≡ false = le-ltb p.stack 8 (omega (arith, room)) in
      rules.more Machines Changes s (50 + (2 + 1 + 1 + (60 + suc 60))) 300 (begin 1 (part (int (pos m)) (part (int edata) (part (int user) empty))) ∷ []) (beginning (data_of x) world) (Answers user) (omega arith)
      (rules.straight Machines Changes s 5 50 (2 + 1 + 1 + (60 + suc 60)) (begin 1 (part (int (pos m)) (part (int edata) (part (int user) empty))) ∷ []) (beginning (data_of x) world) (Answers user)
      (rw (room8, no_start, no_division, no_line) (omega arith, called x (pos m) edata user (beginning (data_of x) world))))

  -- A TRAP FOR AN ADDRESS: the division has no test, and needs what its data are
  misaligned : (x : Data) (edata user : ℤ) (world : Machines) → remainder edata (pos 4) ≢ pos 0
      → EndsIn s 300 (begin 1 (part (int (pos 7)) (part (int edata) (part (int user) empty))) ∷ []) (beginning (data_of x) world) (Answers user)
  misaligned x edata user world more =
      let room8 : nat_lt p.stack 8 ≡ false = le-ltb p.stack 8 (omega (arith, room)) in
      let now : Data = record x { rate = quotient (pos 12) (remainder edata (pos 4)) } in
      rules.more Machines Changes s (50 + (2 + 1 + 1 + (60 + suc 60))) 300 (begin 1 (part (int (pos 7)) (part (int edata) (part (int user) empty))) ∷ []) (beginning (data_of x) world) (Answers user) (omega arith)
      (rules.straight Machines Changes s 6 50 (2 + 1 + 1 + (60 + suc 60)) (begin 1 (part (int (pos 7)) (part (int edata) (part (int user) empty))) ∷ []) (beginning (data_of x) world) (Answers user)
      (rw (room8, divides_by (pos 12) (remainder edata (pos 4)) more) (omega arith, called now (pos 7) edata user (beginning (data_of x) world))))

  -- A LINE, and THE START, where `new` may give null
  lined : (x : Data) (edata user : ℤ) (world : Machines) → EndsIn s 300 (begin 1 (part (int (pos 1)) (part (int edata) (part (int user) empty))) ∷ []) (beginning (data_of x) world) (Answers user)
  lined x edata user world =
      let room8 : nat_lt p.stack 8 ≡ false = le-ltb p.stack 8 (omega (arith, room)) in
      rules.more Machines Changes s (40 + 30) 300 (begin 1 (part (int (pos 1)) (part (int edata) (part (int user) empty))) ∷ []) (beginning (data_of x) world) (Answers user) (omega arith)
      (rules.straight Machines Changes s 5 40 30 (begin 1 (part (int (pos 1)) (part (int edata) (part (int user) empty))) ∷ []) (beginning (data_of x) world) (Answers user)
      (rw room8 (omega arith, last_part x (pos 1) edata user user (pos 0) (beginning (data_of x) world))))

  abbrev nothing : Data
  nothing = record { a = pos 0; b = pos 0; c = pos 0; d = pos 0; rate = pos 0; cell = None }

  started : (edata user : ℤ) (world : Machines) (full : Bool) → nat_lt p.heap 1 ≡ full
      → EndsIn s 300 (begin 1 (part (int (pos 0)) (part (int edata) (part (int user) empty))) ∷ []) (beginning (data_of nothing) world) (Answers (pos 1))
  started edata user world true e =
      let room8 : nat_lt p.stack 8 ≡ false = le-ltb p.stack 8 (omega (arith, room)) in
      rw (room8, e) (record { values = nothing; answer = refl; state = refl })
  started edata user world false e =
      let room8 : nat_lt p.stack 8 ≡ false = le-ltb p.stack 8 (omega (arith, room)) in
      rw (room8, e) (record { values = record nothing { cell = Some (pos 0) }; answer = refl; state = refl })

-- THE INVARIANT is kept
module _ (tell : StepsTell) (y : System) (r : RunsGuarded y) where
  -- a dispatch that answers a user, from data that is known
  keeps : (k cause edata : ℕ) (past : List Dispatch) (at : Core) (x : Data) (u : ℕ) → at.c0 ≡ data_of x → 1 ≤ u → u ≤ length y.boot.users
      → EndsIn (setting_of guarded y.boot.params) 300 (begin 1 (part (int (pos cause)) (part (int (signed edata)) (part (int (pos at.current)) empty))) ∷ []) (beginning (data_of x) (machines_of y.boot.params at)) (Answers y.boot.params r.room (pos u))
      → Keeps y 300 IsData k cause edata past at
  keeps k cause edata past at x u data_is some few h =
      keeps_by y guarded r.meaning_is 300 IsData k cause edata past at
      (subst (λ (t : C0State). DoneWith (dispatch (setting_of guarded y.boot.params) 300 (pos cause) (signed edata) (pos at.current) t (machines_of y.boot.params at)) (KeptAt y IsData k cause edata past at)) (sym data_is)
      (weaker Machines Changes _ (Answers y.boot.params r.room (pos u)) (KeptAt y IsData k cause edata past at)
      (λ d a. answers_user y IsData k cause edata past at d u a.answer some few (record { values = a.values; data_is = ap (λ (t : C0State). record t { frames = [] }) a.state })) h))

  invariant : IsInvariant y 300 (HasUsers y) IsData
  invariant = record {
    start = λ fit. keeps 0 0 0 [] (first_core y) (nothing y.boot.params r.room) 1 (ap (λ (m : Kernel). m.first) r.meaning_is) (omega arith) r.some (started y.boot.params r.room (signed 0) (pos 0) _ (nat_lt y.boot.params.heap 1) refl);
    line = λ k mask past at some eight fit user h.
        keeps (suc k) 1 mask past at h.values at.current h.data_is user.0 (subst (λ n. at.current ≤ n) fit user.1) (lined y.boot.params r.room h.values (signed mask) (pos at.current) _);
    trap = λ k cause edata past before at came fit user h.
        let tells = tell (user_of before.users before.current) came.after cause edata came.stepped in
        keeps (suc k) (cause_number cause) edata past at h.values at.current h.data_is user.0 (subst (λ n. at.current ≤ n) fit user.1) (trap (user_of before.users before.current) cause edata tells h.values (pos at.current) _);
  }
    where
      trap : (f : Flat) (cause : Cause) (edata : ℕ) → TrapTells f cause edata → (x : Data) (user : ℤ) (world : Machines)
          → EndsIn (setting_of guarded y.boot.params) 300 (begin 1 (part (int (pos (cause_number cause))) (part (int (signed edata)) (part (int user) empty))) ∷ []) (beginning (data_of x) world) (Answers y.boot.params r.room user)
      trap f causes.Reset edata tells x user world = absurd tells
      trap f causes.External edata tells x user world = absurd tells
      trap f causes.DataAlign edata tells x user world = misaligned y.boot.params r.room x (signed edata) user world (leaves_more edata tells)
      trap f other edata tells x user world = trapped y.boot.params r.room (cause_number other) refl refl refl x (signed edata) user world

pub guarded_never_faults : StepsTell → RunsAreLawful → GuardedNeverFaults
guarded_never_faults tell laws y r lines eight k =
    let h = invariants_hold laws y guarded 300 (HasUsers y) IsData r.meaning_is (laws.counted y guarded r.meaning_is) (invariant tell y r) lines eight k in
    (h.0, λ c is. (h.1 c is).safe)
