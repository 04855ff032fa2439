-- The round robin: what each dispatch comes to, by computation, and that it keeps the order.
use native.Mathlib.Nat.{add-mul-mod_self_right, div-add-mod', mod-lt, mod-eq_of_lt}
use Rattle.std.proofs.Common.{◌≡◌, ℕ, zero, suc, ◌+◌, ◌*◌, ◌/◌, ◌%◌, ◌≤◌, ◌<◌, List, [], ◌∷◌, ◌++◌, length, false, nat_lt, Some, refl, sym, ap, ◌∙◌, subst, arith}
use Rattle.std.specs.Prelude.{◌==◌, if◌then◌else◌, ℤ, pos, ◌+ℤ◌}
use Rattle.std.specs.Int.{int_wrap, w32}
use Rattle.std.proofs.lemmas.Bool.{le-ltb}
use Rattle.std.proofs.lemmas.Int.{int_wrap_fits}
use Rattle.layer_map.specs.declared.params.Params.{Params}
use Rattle.mips_table.specs.Arith.{signed}
use Rattle.mips_table.specs.declared.cause.Cause.{Cause}
use Rattle.mips_table.specs.declared.cause.Cause.TheVariants as causes
use Rattle.mips_table.specs.Machine.{cause_number}
use Rattle.c0_meaning.specs.State.{C0State}
use Rattle.c0_meaning.specs.Value.{int}
use Rattle.c0_meaning.specs.World.{units}
use Rattle.c0_meaning.specs.Execution.{Outcome, Done, dispatch}
use Rattle.cvm_model.specs.Kernel.{Core, Changes, KernelMeaning}
use Rattle.cvm_model.specs.KernelMeaning.{Machines, setting_of, machines_of}
use Rattle.cvm_model.specs.Cvm.{System, Cvm, first_core}
use Rattle.cvm_model.specs.declared.row.Next.TheVariants.{User}
use Rattle.cvm_model.specs.declared.row.Row.{Row}
use Rattle.cvm_model.specs.Invariant.{Dispatch, dispatch_row, dispatch_rows, IsTrap, Keeps, IsInvariant, Holds, HasUsers, dispatches_of, RunsAreLawful}
use Rattle.cvm_model.proofs.InvariantsHold.{invariants_hold}
use Rattle.kernel_theorems.proofs.ComputedDispatches.{rows_join, keeps_as, answers_user}
use Rattle.kernel_theorems.specs.RoundRobin.{round_robin, data_of, taken_lines, lines_in, turn_after, InOrder, Turns, RunsRoundRobin, IsFair, RoundRobinIsFair}

-- where a dispatch ends: its answer and its data
abbrev ends : ℕ → ℤ → C0State → Machines → Outcome Machines Changes
ends n answer s m = Done (units n) (record { state = s; world = m; calls = []; answer = Some (int answer) })

-- WHAT THE CODE DOES: one line each for the start, a line and a trap
module _ (users : ℕ) (p : Params) (room : 7 ≤ p.stack) (edata : ℤ) (m : Machines) where
  has_room : nat_lt p.stack 7 ≡ false
  has_room = le-ltb p.stack 7 room

  starts : dispatch (setting_of (round_robin (suc users)) p) 100 (pos 0) edata (pos 0) (data_of (pos 0) (pos 0)) m ≡ ends 24 (pos 1) (data_of (pos 1) (pos 0)) m
  starts = rw has_room refl

  line : (before : ℕ) (s : ℤ) → dispatch (setting_of (round_robin (suc users)) p) 100 (pos 1) edata (pos before) (data_of (pos before) s) m
      ≡ ends 28 (int_wrap w32 (pos (before % suc users + 1))) (data_of (int_wrap w32 (pos (before % suc users + 1))) s) m
  line before s = rw has_room refl

  trap : (cause : Cause) → IsTrap cause → (current : ℕ) (s : ℤ) → dispatch (setting_of (round_robin (suc users)) p) 100 (pos (cause_number cause)) edata (pos current) (data_of (pos current) s) m
      ≡ ends 23 (pos current) (data_of (pos current) (int_wrap w32 (s +ℤ pos 1))) m
  trap causes.Reset h current s = absurd h
  trap causes.External h current s = absurd h
  trap other h current s = rw has_room refl

-- ARITHMETIC of turns
next_turn : (users n : ℕ) → suc (n % suc users) % suc users ≡ suc n % suc users
next_turn users n =
    let e : suc (n % suc users) + n / suc users * suc users ≡ suc n = omega (arith, div-add-mod' n (suc users)) in
    sym (add-mul-mod_self_right (suc (n % suc users)) (n / suc users) (suc users)) ∙ ap (λ x. x % suc users) e

small : (n : ℕ) → n < 65 → int_wrap w32 (pos n) ≡ pos n
small n h = int_wrap_fits w32 (pos n) (record { sfits = omega arith })

lines_more : (rows : List Row) (r : Row) → lines_in (rows ++ r ∷ []) ≡ taken_lines r + lines_in rows
lines_more [] r = refl
lines_more (s ∷ rest) r = let e = lines_more rest r in omega (arith, e)

order_more : (users before : ℕ) (rows : List Row) (r : Row) → InOrder users before rows → r.next ≡ User (turn_after users (taken_lines r + (lines_in rows + before))) → InOrder users before (rows ++ r ∷ [])
order_more users before [] r h e = (e ∙ ap (λ n. User (turn_after users n)) (omega arith), tt)
order_more users before (s ∷ rest) r h e =
    (h.0, order_more users (taken_lines s + before) rest r h.1 (e ∙ ap (λ n. User (turn_after users n)) (omega arith)))

abbrev counts : ℕ → ℕ
counts cause = if cause == 1 then 1 else 0

no_line : (cause : Cause) → IsTrap cause → counts (cause_number cause) ≡ 0
no_line causes.Reset h = absurd h
no_line causes.External h = absurd h
no_line other h = refl

-- THE INVARIANT is kept
module _ (y : System) (u : ℕ) (r : RunsRoundRobin y (suc u)) where
  -- one dispatch that answers the user whose turn it is keeps the order
  keeps : (k cause edata : ℕ) (past : List Dispatch) (at : Core) (n a : ℕ) (s : C0State) (services : ℤ) → at.c0 ≡ s
      → dispatch (setting_of (round_robin (suc u)) y.boot.params) 100 (pos cause) (signed edata) (pos at.current) s (machines_of y.boot.params at)
      ≡ ends n (pos (suc a)) (data_of (pos (suc a)) services) (machines_of y.boot.params at)
      → a ≡ (counts cause + lines_in (dispatch_rows past)) % suc u → InOrder (suc u) 0 (dispatch_rows past) → Keeps y 100 (Turns (suc u)) k cause edata past at
  keeps k cause edata past at n a s services data_is e is order =
      let less : a < suc u = rw is (mod-lt (counts cause + lines_in (dispatch_rows past)) (omega arith)) in
      let few : suc a ≤ length y.boot.users = rw r.users_are (omega (arith, less)) in
      keeps_as y (round_robin (suc u)) r.meaning_is 100 (Turns (suc u)) k cause edata past at s _ data_is e
      (answers_user y (Turns (suc u)) k cause edata past at _ (suc a) refl (omega arith) few (turns _ (suc a) refl refl))
    where
      turns : (d : Dispatch) (b : ℕ) → dispatch_row d ≡ record { turn = k; cause = cause; edata = edata; user = at.current; next = User (suc a) } → b ≡ suc a
          → Turns (suc u) (past ++ d ∷ []) (data_of (pos b) services) b
      turns d b row e =
          let rows : dispatch_rows (past ++ d ∷ []) ≡ dispatch_rows past ++ record { turn = k; cause = cause; edata = edata; user = at.current; next = User (suc a) } ∷ [] =
          rows_join past d ∙ ap (λ (x : Row). dispatch_rows past ++ x ∷ []) row in
          record {
            services = services;
            data_is = refl;
            current_is = e ∙ ap suc is ∙ ap (turn_after (suc u)) (sym (ap lines_in rows ∙ lines_more (dispatch_rows past) _));
            order = subst (InOrder (suc u) 0) (sym rows) (order_more (suc u) 0 (dispatch_rows past) _ order (ap User (ap suc is ∙ ap (turn_after (suc u)) (omega arith))));
          }

  invariant : IsInvariant y 100 (HasUsers y) (Turns (suc u))
  invariant = record {
    start = λ fit. keeps 0 0 0 [] (first_core y) 24 0 (data_of (pos 0) (pos 0)) (pos 0) (ap (λ (m : KernelMeaning). m.first) r.meaning_is)
        (starts u y.boot.params r.room (signed 0) _) (sym (mod-eq_of_lt (omega arith))) tt;
    line = λ k mask past at some eight fit user h.
        let a : ℕ = at.current % suc u in
        let less : a < suc u = mod-lt at.current (omega arith) in
        let few : suc u ≤ 64 = r.few in
        let wrapped : int_wrap w32 (pos (a + 1)) ≡ pos (suc a) = small (a + 1) (omega arith) ∙ ap pos (omega arith) in
        let is : a ≡ (1 + lines_in (dispatch_rows past)) % suc u = ap (λ c. c % suc u) h.current_is ∙ next_turn u (lines_in (dispatch_rows past)) ∙ ap (λ c. c % suc u) (omega arith) in
        keeps (suc k) 1 mask past at 28 a (data_of (pos at.current) h.services) h.services h.data_is
        (line u y.boot.params r.room (signed mask) _ at.current h.services ∙ ap (λ v. ends 28 v (data_of v h.services) (machines_of y.boot.params at)) wrapped) is h.order;
    trap = λ k cause edata past before at came fit user h.
        let a : ℕ = lines_in (dispatch_rows past) % suc u in
        let more : ℤ = int_wrap w32 (h.services +ℤ pos 1) in
        keeps (suc k) (cause_number cause) edata past at 23 a (data_of (pos at.current) h.services) more h.data_is
        (trap u y.boot.params r.room (signed edata) _ cause came.is at.current h.services ∙ ap (λ v. ends 23 (pos v) (data_of (pos v) more) (machines_of y.boot.params at)) h.current_is)
        (ap (λ n. n % suc u) (let none = no_line cause came.is in omega (arith, none))) h.order;
  }

-- from what holds of the run's dispatches to its rows
fair : (users : ℕ) (past : List Dispatch) (c : Cvm) → Holds (Turns users) past c → IsFair users c
fair users past c h = record {
  safe = h.safe;
  services = h.kept.services;
  turn_is = h.kept.data_is;
  current_is = h.kept.current_is ∙ ap (λ rows. turn_after users (lines_in rows)) (sym h.rows);
  order = subst (InOrder users 0) (sym h.rows) h.kept.order;
}

pub round_robin_is_fair : RunsAreLawful → RoundRobinIsFair
round_robin_is_fair laws y zero r lines eight k = let some = r.some in absurd (omega (arith, some))
round_robin_is_fair laws y (suc u) r lines eight k =
    let h = invariants_hold laws y (round_robin (suc u)) 100 (HasUsers y) (Turns (suc u)) r.meaning_is (laws.counted y (round_robin (suc u)) r.meaning_is) (invariant y u r) lines eight k in
    (h.0, λ c is. fair (suc u) (dispatches_of y lines 100 (suc k)) c (h.1 c is))
