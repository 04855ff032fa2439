-- The users alternate: each dispatch, and each step of a user, keeps `Alternates`.
use Rattle.std.proofs.Common.{◌≡◌, ℕ, zero, suc, ◌+◌, ◌*◌, ◌≤◌, List, [], ◌∷◌, ◌++◌, length, false, nat_lt, refl, sym, ap, ◌∙◌, subst, arith}
use Rattle.std.specs.Prelude.{◌==◌, if◌then◌else◌, pos, map, slice_index}
use Rattle.std.specs.Int.{int_wrap}
use Rattle.std.proofs.lemmas.Bool.{le-ltb}
use Rattle.mips_table.specs.Arith.{signed}
use Rattle.mips_table.specs.declared.cause.Cause.{Cause}
use Rattle.mips_table.specs.declared.cause.Cause.TheVariants as causes
use Rattle.mips_table.specs.Machine.{cause_number}
use Rattle.mips_table.specs.Flat.{Flat, Goes, vstep}
use Rattle.cvm_model.specs.Kernel.{Core, KernelMeaning}
use Rattle.cvm_model.specs.Primitives.{user_of, with_user}
use Rattle.cvm_model.specs.Cvm.{System, Running, Halted, first_flat, first_core, status_of}
use Rattle.cvm_model.specs.Invariant.{Dispatch, IsTrapOf, with_machine, HasUsers, RunsAreLawful}
use Rattle.cvm_model.specs.Systems.{SystemProperty, status_after, lines_taken, UsePages, KeepsAll, IsSystemInvariant}
use Rattle.cvm_model.proofs.SystemsHold.{systems_hold, status_join, lines_join}
use Rattle.cvm_model.proofs.KeepsSystem.{all_user, all_halt}
use Rattle.kernel_theorems.specs.UserRuns.{after, CallsAfter}
use Rattle.kernel_theorems.proofs.UserRuns.{core_of_parts, known_step, known_trap, arrives}
use Rattle.kernel_theorems.proofs.OneDispatchMore.{one_more}
use Rattle.kernel_theorems.proofs.TestsSplit.{by_same}
use Rattle.kernel_theorems.proofs.OneKernel.{DoesWithin, keeps_within}
use Rattle.alternating.specs.Tree.{kernel_tree}
use Rattle.alternating.specs.Users.{user_1, user_2}
use Rattle.alternating.specs.Property.{data_of, half, whose_turn, steps_of_1, steps_of_2, leg, steps_up_to, behind_calls, machines, status_behind, console_behind, Alternates, Alternating, RunsAlternating, UsersAlternate}
use Rattle.alternating.proofs.UsersBring.{brings_odd, brings_even}

-- a state that is running is behind five calls at most
pub still_few : (calls : ℕ) → calls ≤ 6 → status_behind calls ≡ Running → calls ≤ 5
still_few calls few on = by_same calls 6
    (λ e six. absurd (let z : Halted ≡ Running = sym (ap (λ b. if b then Halted else Running) e) ∙ on in cc))
    (λ e other. omega (arith, few, other))

module _ (y : System) (r : RunsAlternating y) (f g : Flat) (odd : (c : ℕ) → c ≤ 2 → CallsAfter (behind_calls f c) (leg c) (suc (2 * c))) (even : (c : ℕ) → c ≤ 2 → CallsAfter (behind_calls g c) (leg c) (suc (suc (2 * c))))
    (users_are : map first_flat y.boot.users ≡ f ∷ g ∷ []) where
  abbrev I : SystemProperty
  I = Alternates y.input f g

  abbrev J : SystemProperty
  J k past c = I k past c × UsePages y 300 0 past

  has_room : nat_lt y.boot.params.stack 9 ≡ false
  has_room = le-ltb y.boot.params.stack 9 (let room = r.room in omega (arith, room))

  many_users : length y.boot.users ≡ 2
  many_users = ap length r.users_are

  -- the machine of the user whose turn it is, behind its last call
  abbrev starts : ℕ → Flat
  starts zero = f
  starts (suc zero) = g
  starts (suc (suc calls)) = starts calls

  abbrev caller : ℕ → Flat
  caller calls = behind_calls (starts calls) (half calls)

  -- A TURN: who has it goes on to its next call, and brings the next number
  record Turn (calls : ℕ) : Type 0 where
    brings : CallsAfter (caller calls) (leg (half calls)) (suc calls)
    stands : (t : ℕ) → user_of (machines f g calls t) (whose_turn calls) ≡ after t (caller calls)
    steps : (t : ℕ) → with_user (machines f g calls t) (whose_turn calls) (after (suc t) (caller calls)) ≡ machines f g calls (suc t)
    passes : (t : ℕ) → with_user (machines f g calls t) (whose_turn calls) (after (suc (leg (half calls))) (caller calls)) ≡ machines f g (suc calls) 0
    called : user_of (machines f g (suc calls) 0) (whose_turn calls) ≡ after (suc (leg (half calls))) (caller calls)
    some : 1 ≤ whose_turn calls
    most : whose_turn calls ≤ 2

  turn : (calls : ℕ) → calls ≤ 5 → Turn calls
  turn zero few = record { brings = odd 0 (omega arith); stands = λ t. refl; steps = λ t. refl; passes = λ t. refl; called = refl; some = omega arith; most = omega arith }
  turn (suc zero) few = record { brings = even 0 (omega arith); stands = λ t. refl; steps = λ t. refl; passes = λ t. refl; called = refl; some = omega arith; most = omega arith }
  turn (suc (suc zero)) few = record { brings = odd 1 (omega arith); stands = λ t. refl; steps = λ t. refl; passes = λ t. refl; called = refl; some = omega arith; most = omega arith }
  turn (suc (suc (suc zero))) few = record { brings = even 1 (omega arith); stands = λ t. refl; steps = λ t. refl; passes = λ t. refl; called = refl; some = omega arith; most = omega arith }
  turn (suc (suc (suc (suc zero)))) few = record { brings = odd 2 (omega arith); stands = λ t. refl; steps = λ t. refl; passes = λ t. refl; called = refl; some = omega arith; most = omega arith }
  turn (suc (suc (suc (suc (suc zero))))) few = record { brings = even 2 (omega arith); stands = λ t. refl; steps = λ t. refl; passes = λ t. refl; called = refl; some = omega arith; most = omega arith }
  turn (suc (suc (suc (suc (suc (suc calls)))))) few = absurd (omega (arith, few))

  -- BEHIND A DISPATCH
  made : (k : ℕ) (past : List Dispatch) (d : Dispatch) (calls steps : ℕ) (c : Core) → calls ≤ 6 → steps ≤ leg (half calls) → (calls ≡ 6 → steps ≡ 0)
      → suc k ≡ 1 + steps_up_to calls + steps + calls + (lines_taken past + (if d.cause == 1 then 1 else 0)) → suc (length past) ≡ 1 + calls + (lines_taken past + (if d.cause == 1 then 1 else 0))
      → c.c0 ≡ data_of calls → c.users ≡ machines f g calls steps → c.console ≡ console_behind y.input calls → (calls ≤ 5 → c.current ≡ whose_turn calls) → status_of d.next ≡ status_behind calls
      → I (suc k) (past ++ d ∷ []) c
  made k past d calls steps c few before at_end turns long data_is users console turn status =
      let l = lines_join past d in
      let m = one_more past d in
      record {
        calls = calls;
        few = few;
        steps = steps;
        before_call = before;
        at_end = at_end;
        turns_are = omega (arith, turns, l);
        length_is = omega (arith, long, l, m);
        data_is = data_is;
        users_are = users;
        console_is = console;
        turn_is = turn;
        status_is = status_join Running past d ∙ status;
      }

  -- the code of a dispatch, behind so many calls
  abbrev Does : (k cause edata : ℕ) → List Dispatch → Core → (calls : ℕ) → Type 0
  Does k cause edata past at calls = DoesWithin y kernel_tree r.meaning_is 300 0 I k cause edata past at (data_of calls)

  -- THE START: user 1's turn
  started : Does 0 0 0 [] (first_core y) 0
  started = rw has_room (
    omega arith,
    all_user y I 0 0 0 [] (first_core y) _ 1 refl (omega arith) (let many = many_users in omega (arith, many))
        (made 0 [] _ 0 0 _ (omega arith) (omega arith) (λ e. refl) (omega arith) (omega arith) refl users_are refl (λ few. refl) refl),
  )

  -- LINES: the current user goes on
  lined : (k mask : ℕ) (past : List Dispatch) (at : Core) → 1 ≤ at.current → at.current ≤ 2 → (h : I k past at) → status_after past ≡ Running → Does k 1 mask past at h.calls
  lined k mask past at some most h on =
      let turns = h.turns_are in
      let long = h.length_is in
      rw has_room (
        omega arith,
        all_user y I k 1 mask past at _ at.current refl some (let many = many_users in omega (arith, many, most))
            (made k past _ h.calls h.steps _ h.few h.before_call h.at_end (omega (arith, turns)) (omega (arith, long)) refl h.users_are h.console_is h.turn_is (sym (sym h.status_is ∙ on))),
      )

  -- A CALL behind so many, at a state that is written out, in which one of the users has called: what it brings is logged, and the other one is next, or nobody
  -- behind the sixth
  abbrev at_call : (calls : ℕ) → List Flat → ℕ → Core
  at_call calls users u = core_of_parts (data_of calls) users (console_behind y.input calls) u

  module _ (k edata : ℕ) (past : List Dispatch) (calls : ℕ) (few : calls ≤ 5) (turns : k ≡ 1 + steps_up_to (suc calls) + calls + lines_taken past) (long : length past ≡ 1 + calls + lines_taken past) (f' g' : Flat)
      (users : f' ∷ g' ∷ [] ≡ machines f g (suc calls) 0) where
    goes_on : (d : Dispatch) (c : Core) → d.cause ≡ 6 → c.c0 ≡ data_of (suc calls) → c.users ≡ f' ∷ g' ∷ [] → c.console ≡ console_behind y.input (suc calls) → (suc calls ≤ 5 → c.current ≡ whose_turn (suc calls))
        → status_of d.next ≡ status_behind (suc calls) → I (suc k) (past ++ d ∷ []) c
    goes_on d c six data_is users_are console turn status =
        let no_line : ◌≡◌ {A = ℕ} (if d.cause == 1 then 1 else 0) 0 = ap (λ (n : ℕ). if n == 1 then 1 else 0) six in
        made k past d (suc calls) 0 c (omega (arith, few)) (omega arith) (λ e. refl) (omega (arith, turns, no_line)) (omega (arith, long, no_line)) data_is (users_are ∙ users) console turn status

  two_there : (u : ℕ) → u ≤ 2 → u ≤ length y.boot.users
  two_there u few = let many = many_users in omega (arith, few, many)

  call : (k edata : ℕ) (past : List Dispatch) (calls : ℕ) (few : calls ≤ 5) (turns : k ≡ 1 + steps_up_to (suc calls) + calls + lines_taken past) (long : length past ≡ 1 + calls + lines_taken past) (f' g' : Flat)
      → f' ∷ g' ∷ [] ≡ machines f g (suc calls) 0 → signed (slice_index (user_of (f' ∷ g' ∷ []) (whose_turn calls)).cpu.regs 4) ≡ pos (suc calls) → Does k 6 edata past (at_call calls (f' ∷ g' ∷ []) (whose_turn calls)) calls
  unfolding int_wrap
  call k edata past zero few turns long f' g' users is =
      rw (has_room, is) (omega arith, all_user y I k 6 edata past _ _ 2 refl (omega arith) (two_there 2 (omega arith)) (goes_on k edata past 0 few turns long f' g' users _ _ refl refl refl refl (λ few. refl) refl))
  call k edata past (suc zero) few turns long f' g' users is =
      rw (has_room, is) (omega arith, all_user y I k 6 edata past _ _ 1 refl (omega arith) (two_there 1 (omega arith)) (goes_on k edata past 1 few turns long f' g' users _ _ refl refl refl refl (λ few. refl) refl))
  call k edata past (suc (suc zero)) few turns long f' g' users is =
      rw (has_room, is) (omega arith, all_user y I k 6 edata past _ _ 2 refl (omega arith) (two_there 2 (omega arith)) (goes_on k edata past 2 few turns long f' g' users _ _ refl refl refl refl (λ few. refl) refl))
  call k edata past (suc (suc (suc zero))) few turns long f' g' users is =
      rw (has_room, is) (omega arith, all_user y I k 6 edata past _ _ 1 refl (omega arith) (two_there 1 (omega arith)) (goes_on k edata past 3 few turns long f' g' users _ _ refl refl refl refl (λ few. refl) refl))
  call k edata past (suc (suc (suc (suc zero)))) few turns long f' g' users is =
      rw (has_room, is) (omega arith, all_user y I k 6 edata past _ _ 2 refl (omega arith) (two_there 2 (omega arith)) (goes_on k edata past 4 few turns long f' g' users _ _ refl refl refl refl (λ few. refl) refl))
  call k edata past (suc (suc (suc (suc (suc zero))))) few turns long f' g' users is =
      rw (has_room, is) (omega arith, all_halt y I k 6 edata past _ _ refl (goes_on k edata past 5 few turns long f' g' users _ _ refl refl refl refl (λ more. absurd (omega (arith, more))) refl))
  call k edata past (suc (suc (suc (suc (suc (suc calls)))))) few turns long f' g' users is = absurd (omega (arith, few))

  called : (k edata : ℕ) (past : List Dispatch) (calls : ℕ) → calls ≤ 5 → Turn calls → k ≡ 1 + steps_up_to (suc calls) + calls + lines_taken past
      → length past ≡ 1 + calls + lines_taken past → Does k 6 edata past (at_call calls (machines f g (suc calls) 0) (whose_turn calls)) calls
  called k edata past calls few w turns long =
      call k edata past calls few turns long (after (steps_of_1 (suc calls) 0) (behind_calls f (half (suc (suc calls))))) (after (steps_of_2 (suc calls) 0) (behind_calls g (half (suc calls)))) refl
      (ap (λ (m : Flat). signed (slice_index m.cpu.regs 4)) w.called ∙ w.brings.value_is)

  -- A TRAP is the call of the user whose turn it is
  trapped : (k : ℕ) (cause : Cause) (edata : ℕ) (past : List Dispatch) (before at : Core) → IsTrapOf before cause edata at → status_after past ≡ Running → UsePages y 300 0 past → (h : I k past before)
      → KeepsAll y 300 J k (cause_number cause) edata past at
  trapped k cause edata past before at came on touch h =
      let few : h.calls ≤ 5 = still_few h.calls h.few (sym h.status_is ∙ on) in
      let w : Turn h.calls = turn h.calls few in
      let trap = known_trap before at (machines f g h.calls h.steps) (whose_turn h.calls) (caller h.calls) (leg (half h.calls)) causes.Syscall w.brings.calls w.brings.calls.edata h.steps cause edata
      (data_of h.calls) (console_behind y.input h.calls) refl h.before_call h.users_are (h.turn_is few) (w.stands h.steps) h.data_is h.console_is came in
      let turns = h.turns_are in
      let last = trap.last in
      arrives trap (subst (λ us. KeepsAll y 300 J k 6 w.brings.calls.edata past (core_of_parts (data_of h.calls) us (console_behind y.input h.calls) (whose_turn h.calls))) (sym (w.passes h.steps))
      (keeps_within y kernel_tree r.meaning_is 300 0 I k 6 w.brings.calls.edata past (core_of_parts (data_of h.calls) (machines f g (suc h.calls) 0) (console_behind y.input h.calls) (whose_turn h.calls)) (data_of h.calls) touch refl
      (called k w.brings.calls.edata past h.calls few w (omega (arith, turns, last)) h.length_is)))

  -- A STEP of that user
  stepped : (k : ℕ) (past : List Dispatch) (c : Core) (next : Flat) → vstep (user_of c.users c.current) ≡ Goes next → status_after past ≡ Running → (h : I k past c) → I (suc k) past (with_machine c next)
  stepped k past c next e on h =
      let few : h.calls ≤ 5 = still_few h.calls h.few (sym h.status_is ∙ on) in
      let w : Turn h.calls = turn h.calls few in
      let step = known_step c (machines f g h.calls h.steps) (whose_turn h.calls) (caller h.calls) (leg (half h.calls)) causes.Syscall w.brings.calls h.steps h.before_call h.users_are (h.turn_is few)
      (w.stands h.steps) next e in
      let turns = h.turns_are in
      let before = step.before in
      record {
        calls = h.calls;
        few = h.few;
        steps = suc h.steps;
        before_call = omega (arith, before);
        at_end = λ e. absurd (omega (arith, few, e));
        turns_are = omega (arith, turns);
        length_is = h.length_is;
        data_is = h.data_is;
        users_are = step.users ∙ w.steps h.steps;
        console_is = h.console_is;
        turn_is = h.turn_is;
        status_is = h.status_is;
      }

  pub invariant : IsSystemInvariant y 300 (HasUsers y) J
  invariant = record {
    start = λ fit. keeps_within y kernel_tree r.meaning_is 300 0 I 0 0 0 [] (first_core y) (data_of 0) tt (ap (λ (m : KernelMeaning). m.first) r.meaning_is) started;
    line = λ k mask past at some eight fit user on h. keeps_within y kernel_tree r.meaning_is 300 0 I (suc k) 1 mask past at (data_of h.0.calls) h.1 h.0.data_is
        (lined (suc k) mask past at user.0 (let most = user.1 in let two = ap length h.0.users_are in omega (arith, most, two)) h.0 on);
    trap = λ k cause edata past before at came fit user fits one on h. trapped (suc k) cause edata past before at came on h.1 h.0;
    step = λ k past c next e fit user fits on h. (stepped (suc k) past c next e on h.0, h.1);
  }

pub always : (y : System) → RunsAlternating y → IsSystemInvariant y 300 (HasUsers y) (Alternating y)
always y r = invariant y r (first_flat user_1) (first_flat user_2) brings_odd brings_even (ap (map first_flat) r.users_are)

pub users_alternate : RunsAreLawful → UsersAlternate
users_alternate laws y r lines eight k =
    systems_hold laws y kernel_tree 300 (HasUsers y) (Alternating y) r.meaning_is (laws.counted y kernel_tree r.meaning_is) (always y r) lines eight k
