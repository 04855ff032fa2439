-- Each dispatch, and each step of a user, keeps `IsAnswering`.
use Rattle.std.proofs.Common.{◌≡◌, ℕ, suc, ◌+◌, ◌≤◌, ◌<◌, ◌^◌, List, [], ◌∷◌, ◌++◌, length, false, nat_lt, refl, sym, ap, ◌∙◌, arith}
use Rattle.std.specs.Prelude.{◌==◌, if◌then◌else◌, ℤ, pos, slice_index, map}
use Rattle.std.specs.Int.{w32, cast_unsigned}
use Rattle.std.proofs.lemmas.Bool.{le-ltb}
use Rattle.mips_table.specs.Arith.{signed}
use Rattle.mips_table.specs.Machine.{cause_number, Console}
use Rattle.mips_table.specs.declared.cause.Cause.{Cause}
use Rattle.mips_table.specs.declared.cause.Cause.TheVariants.{Syscall}
use Rattle.mips_table.specs.Flat.{Flat, Goes, vstep}
use Rattle.c0_meaning.specs.State.{C0State}
use Rattle.cvm_model.specs.Kernel.{Core, KernelMeaning}
use Rattle.cvm_model.specs.Primitives.{user_of, with_register}
use Rattle.cvm_model.specs.Cvm.{System, Running, Halted, first_flat, first_core, status_of}
use Rattle.cvm_model.specs.Invariant.{Dispatch, IsTrapOf, with_machine, HasUsers, RunsAreLawful}
use Rattle.cvm_model.specs.Systems.{SystemProperty, status_after, lines_taken, UsePages, KeepsAll, IsSystemInvariant}
use Rattle.cvm_model.proofs.SystemsHold.{systems_hold, status_join, lines_join}
use Rattle.cvm_model.proofs.KeepsSystem.{all_user, all_halt}
use Rattle.kernel_theorems.specs.UserRuns.{after, told}
use Rattle.kernel_theorems.proofs.UserRuns.{core_of_parts, known_step, KnownTrap, known_trap, arrives}
use Rattle.kernel_theorems.proofs.OneDispatchMore.{one_more}
use Rattle.kernel_theorems.proofs.TestsSplit.{small_sum}
use Rattle.kernel_theorems.proofs.OneKernel.{DoesWithin, keeps_within}
use Rattle.answering.specs.Tree.{kernel_tree}
use Rattle.answering.specs.Property.{RunsAnswering, data_of, Phase, FirstAsks, FirstEnds, SecondAsks, SecondEnds, Over, traps_of, total_of, status_of_phase, IsTurn, most_of, gone_by, first_at, second_at, IsAnswering, Answering, AnswersAreRight}

turn_within : (p : Phase) (u : ℕ) → IsTurn p u → status_of_phase p ≡ Running → (1 ≤ u) × (u ≤ 2)
turn_within FirstAsks u e on = (omega (arith, e), omega (arith, e))
turn_within FirstEnds u e on = (omega (arith, e), omega (arith, e))
turn_within SecondAsks u e on = (omega (arith, e), omega (arith, e))
turn_within SecondEnds u e on = (omega (arith, e), omega (arith, e))
turn_within Over u e on = absurd (cc)

module _ (y : System) (a b c d v w : ℕ) (r : RunsAnswering y a b c d v w) where
  abbrev f1 : Flat
  f1 = first_flat r.one

  abbrev f2 : Flat
  f2 = first_flat r.two

  abbrev I : SystemProperty
  I = IsAnswering y a b c d v w f1 f2

  abbrev J : SystemProperty
  J = Answering y a b c d v w f1 f2

  abbrev users_at : Phase → ℕ → List Flat
  users_at p t = first_at a b v f1 p t ∷ second_at c d (v + w) f2 p t ∷ []

  abbrev o : Console
  o = (first_core y).console

  has_room : nat_lt y.boot.params.stack 9 ≡ false
  has_room = le-ltb y.boot.params.stack 9 (let room = r.room in omega (arith, room))

  two_users : length y.boot.users ≡ 2
  two_users = ap length r.users_are

  -- behind a dispatch
  made : (k : ℕ) (past : List Dispatch) (e : Dispatch) (q : Phase) (t : ℕ) (at : Core) → t ≤ most_of a b c d q
      → suc k ≡ 1 + gone_by a b c d q + t + (lines_taken past + (if e.cause == 1 then 1 else 0)) → suc (length past) ≡ 1 + traps_of q + (lines_taken past + (if e.cause == 1 then 1 else 0))
      → at.users ≡ users_at q t → at.c0 ≡ data_of (pos (total_of v w q)) → IsTurn q at.current → status_of e.next ≡ status_of_phase q → at.console ≡ o → I (suc k) (past ++ e ∷ []) at
  made k past e q t at few turns long users data_is turn status console =
      let l = lines_join past e in
      let m = one_more past e in
      record {
        phase = q;
        steps = t;
        few = few;
        turns_are = omega (arith, turns, l);
        length_is = omega (arith, long, l, m);
        users_are = users;
        data_is = data_is;
        turn_is = turn;
        status_is = status_join Running past e ∙ status;
        console_is = console;
      }

  -- the code of a dispatch, from data that is known
  abbrev Does : (k cause edata : ℕ) → List Dispatch → Core → C0State → Type 0
  Does = DoesWithin y kernel_tree r.meaning_is 100 0 I

  -- THE START
  started : Does 0 0 0 [] (first_core y) (data_of (pos 0))
  started = rw has_room (
    omega arith,
    all_user y I 0 0 0 [] (first_core y) _ 1 refl (omega arith) (let two = two_users in omega (arith, two))
        (made 0 [] _ FirstAsks 0 _ (omega arith) (omega arith) (omega arith) (ap (map first_flat) r.users_are) refl refl refl refl),
  )

  -- LINES: the same user goes on
  lined : (k mask : ℕ) (past : List Dispatch) (at : Core) (p : Phase) (t : ℕ) → t ≤ most_of a b c d p → k ≡ 1 + gone_by a b c d p + t + lines_taken past → length past ≡ 1 + traps_of p + lines_taken past
      → at.users ≡ users_at p t → IsTurn p at.current → status_of_phase p ≡ Running → at.console ≡ o → Does k 1 mask past at (data_of (pos (total_of v w p)))
  lined k mask past at p t few turns long users turn on console =
      let within = turn_within p at.current turn on in
      let two = two_users in
      rw has_room (
        omega arith,
        all_user y I k 1 mask past at _ at.current refl within.0 (omega (arith, two, within))
            (made k past _ p t _ few (omega (arith, turns)) (omega (arith, long)) users refl turn (sym on) console),
      )

  -- THE FOUR TRAPS, where they find known machines
  abbrev at_call : (total : ℕ) → Flat → Flat → ℕ → Core
  at_call total f g u = core_of_parts (data_of (pos total)) (f ∷ g ∷ []) o u

  first_asks : (k : ℕ) (past : List Dispatch) → k ≡ 1 + a + lines_taken past → length past ≡ 1 + lines_taken past → Does k 6 12 past (at_call 0 (after (suc a) f1) f2 1) (data_of (pos 0))
  first_asks k past turns long =
      let few : v < 2 ^ 31 = let s = r.small in omega (arith, s) in
      let sum = small_sum 0 v v (signed (slice_index (after (suc a) f1).cpu.regs 4)) r.first.value_is (omega arith) few in
      rw has_room (
        omega arith,
        all_user y I k 6 12 past (at_call 0 (after (suc a) f1) f2 1) _ 1 refl (omega arith) (let two = two_users in omega (arith, two))
            (made k past _ FirstEnds 0 _ (omega arith) (omega (arith, turns)) (omega (arith, long)) (ap (λ (z : ℤ). with_register (after (suc a) f1) 2 (cast_unsigned w32 z) ∷ f2 ∷ []) sum) (ap data_of sum) refl refl refl),
      )

  first_ends : (k : ℕ) (past : List Dispatch) → k ≡ 1 + (1 + a) + b + lines_taken past → length past ≡ 2 + lines_taken past → Does k 6 76 past (at_call v (after (suc b) (told (after (suc a) f1) v)) f2 1) (data_of (pos v))
  first_ends k past turns long = rw has_room (
    omega arith,
    all_user y I k 6 76 past (at_call v (after (suc b) (told (after (suc a) f1) v)) f2 1) _ 2 refl (omega arith) (let two = two_users in omega (arith, two))
        (made k past _ SecondAsks 0 _ (omega arith) (omega (arith, turns)) (omega (arith, long)) refl refl refl refl refl),
  )

  second_asks : (k : ℕ) (past : List Dispatch) → k ≡ 1 + (2 + a + b) + c + lines_taken past → length past ≡ 3 + lines_taken past
      → Does k 6 12 past (at_call v (after (suc b) (told (after (suc a) f1) v)) (after (suc c) f2) 2) (data_of (pos v))
  second_asks k past turns long =
      let sum = small_sum v w (v + w) (signed (slice_index (after (suc c) f2).cpu.regs 4)) r.second.value_is refl r.small in
      rw has_room (
        omega arith,
        all_user y I k 6 12 past (at_call v (after (suc b) (told (after (suc a) f1) v)) (after (suc c) f2) 2) _ 2 refl (omega arith) (let two = two_users in omega (arith, two))
            (made k past _ SecondEnds 0 _ (omega arith) (omega (arith, turns)) (omega (arith, long))
            (ap (λ (z : ℤ). after (suc b) (told (after (suc a) f1) v) ∷ with_register (after (suc c) f2) 2 (cast_unsigned w32 z) ∷ []) sum) (ap data_of sum) refl refl refl),
      )

  second_ends : (k : ℕ) (past : List Dispatch) → k ≡ 1 + (3 + a + b + c) + d + lines_taken past → length past ≡ 4 + lines_taken past
      → Does k 6 76 past (at_call (v + w) (after (suc b) (told (after (suc a) f1) v)) (after (suc d) (told (after (suc c) f2) (v + w))) 2) (data_of (pos (v + w)))
  second_ends k past turns long = rw has_room (
    omega arith,
    all_halt y I k 6 76 past (at_call (v + w) (after (suc b) (told (after (suc a) f1) v)) (after (suc d) (told (after (suc c) f2) (v + w))) 2) _ refl
        (made k past _ Over 0 _ (omega arith) (omega (arith, turns)) (omega (arith, long)) refl refl tt refl refl),
  )

  -- a trap that is known
  arrive : {k t steps word edata : ℕ} {cause : Cause} {past : List Dispatch} {at there : Core} → KnownTrap at there steps t Syscall word cause edata → UsePages y 100 0 past → Does k 6 word past there there.c0
      → KeepsAll y 100 J k (cause_number cause) edata past at
  arrive {k} {t} {steps} {word} {edata} {cause} {past} {at} {there} h touch does = arrives h (keeps_within y kernel_tree r.meaning_is 100 0 I k 6 word past there there.c0 touch refl does)

  trapped : (k : ℕ) (cause : Cause) (edata : ℕ) (past : List Dispatch) (before at : Core) → IsTrapOf before cause edata at → status_after past ≡ Running → UsePages y 100 0 past → (h : I (suc k) past before) → KeepsAll y 100 J (suc k) (cause_number cause) edata past at
  trapped k cause edata past before at came on touch h = by h.phase h.few h.turn_is h.users_are h.turns_are h.length_is h.data_is h.status_is
    where
      by : (p : Phase) → h.steps ≤ most_of a b c d p → IsTurn p before.current → before.users ≡ users_at p h.steps → suc k ≡ 1 + gone_by a b c d p + h.steps + lines_taken past → length past ≡ 1 + traps_of p + lines_taken past
          → before.c0 ≡ data_of (pos (total_of v w p)) → status_after past ≡ status_of_phase p → KeepsAll y 100 J (suc k) (cause_number cause) edata past at
      by FirstAsks few one users turns long data_is status =
          let t = known_trap before at (users_at FirstAsks h.steps) 1 f1 a Syscall r.first.asks 12 h.steps cause edata (data_of (pos 0)) o r.first.asks_by few users one refl data_is h.console_is came in
          let last = t.last in
          arrive t touch (first_asks (suc k) past (omega (arith, turns, last)) long)
      by FirstEnds few one users turns long data_is status =
          let t = known_trap before at (users_at FirstEnds h.steps) 1 (told (after (suc a) f1) v) b Syscall r.first.ends 76 h.steps cause edata (data_of (pos v)) o r.first.ends_by few users one refl data_is h.console_is came in
          let last = t.last in
          arrive t touch (first_ends (suc k) past (omega (arith, turns, last)) long)
      by SecondAsks few two users turns long data_is status =
          let t = known_trap before at (users_at SecondAsks h.steps) 2 f2 c Syscall r.second.asks 12 h.steps cause edata (data_of (pos v)) o r.second.asks_by few users two refl data_is h.console_is came in
          let last = t.last in
          arrive t touch (second_asks (suc k) past (omega (arith, turns, last)) long)
      by SecondEnds few two users turns long data_is status =
          let t = known_trap before at (users_at SecondEnds h.steps) 2 (told (after (suc c) f2) (v + w)) d Syscall r.second.ends 76 h.steps cause edata (data_of (pos (v + w))) o r.second.ends_by few users two refl data_is h.console_is came in
          let last = t.last in
          arrive t touch (second_ends (suc k) past (omega (arith, turns, last)) long)
      by Over few turn users turns long data_is status = absurd (let z : Halted ≡ Running = sym status ∙ on in cc)

  -- A STEP of the current user
  stepped : (k : ℕ) (past : List Dispatch) (at : Core) (f : Flat) → vstep (user_of at.users at.current) ≡ Goes f → status_after past ≡ Running → (h : I (suc k) past at) → I (suc (suc k)) past (with_machine at f)
  stepped k past at f e on h = by h.phase h.few h.turn_is h.users_are h.turns_are h.length_is h.data_is h.status_is
    where
      with_step : (p : Phase) → h.steps < most_of a b c d p → (with_machine at f).users ≡ users_at p (suc h.steps) → IsTurn p at.current → suc k ≡ 1 + gone_by a b c d p + h.steps + lines_taken past
          → length past ≡ 1 + traps_of p + lines_taken past → at.c0 ≡ data_of (pos (total_of v w p)) → status_after past ≡ status_of_phase p → I (suc (suc k)) past (with_machine at f)
      with_step p lt users turn turns long data_is status = record {
        phase = p;
        steps = suc h.steps;
        few = omega (arith, lt);
        turns_are = omega (arith, turns);
        length_is = long;
        users_are = users;
        data_is = data_is;
        turn_is = turn;
        status_is = status;
        console_is = h.console_is;
      }

      by : (p : Phase) → h.steps ≤ most_of a b c d p → IsTurn p at.current → at.users ≡ users_at p h.steps → suc k ≡ 1 + gone_by a b c d p + h.steps + lines_taken past → length past ≡ 1 + traps_of p + lines_taken past
          → at.c0 ≡ data_of (pos (total_of v w p)) → status_after past ≡ status_of_phase p → I (suc (suc k)) past (with_machine at f)
      by FirstAsks few one users turns long data_is status =
          let s = known_step at (users_at FirstAsks h.steps) 1 f1 a Syscall r.first.asks h.steps few users one refl f e in with_step FirstAsks s.before s.users one turns long data_is status
      by FirstEnds few one users turns long data_is status =
          let s = known_step at (users_at FirstEnds h.steps) 1 (told (after (suc a) f1) v) b Syscall r.first.ends h.steps few users one refl f e in with_step FirstEnds s.before s.users one turns long data_is status
      by SecondAsks few two users turns long data_is status =
          let s = known_step at (users_at SecondAsks h.steps) 2 f2 c Syscall r.second.asks h.steps few users two refl f e in with_step SecondAsks s.before s.users two turns long data_is status
      by SecondEnds few two users turns long data_is status =
          let s = known_step at (users_at SecondEnds h.steps) 2 (told (after (suc c) f2) (v + w)) d Syscall r.second.ends h.steps few users two refl f e in with_step SecondEnds s.before s.users two turns long data_is status
      by Over few turn users turns long data_is status = absurd (let z : Halted ≡ Running = sym status ∙ on in cc)

  pub invariant : IsSystemInvariant y 100 (HasUsers y) J
  invariant = record {
    start = λ fit. keeps_within y kernel_tree r.meaning_is 100 0 I 0 0 0 [] (first_core y) (data_of (pos 0)) tt (ap (λ (m : KernelMeaning). m.first) r.meaning_is) started;
    line = λ k mask past at some few fit is on h. keeps_within y kernel_tree r.meaning_is 100 0 I (suc k) 1 mask past at (data_of (pos (total_of v w h.0.phase))) h.1 h.0.data_is
        (lined (suc k) mask past at h.0.phase h.0.steps h.0.few h.0.turns_are h.0.length_is h.0.users_are h.0.turn_is (sym h.0.status_is ∙ on) h.0.console_is);
    trap = λ k cause edata past before at came fit is fits one on h. trapped k cause edata past before at came on h.1 h.0;
    step = λ k past at f e fit is fits on h. (stepped k past at f e on h.0, h.1);
  }

pub answers_are_right : RunsAreLawful → AnswersAreRight
answers_are_right laws y a b c d v w r lines eight k =
    systems_hold laws y kernel_tree 100 (HasUsers y) (Answering y a b c d v w (first_flat r.one) (first_flat r.two)) r.meaning_is (laws.counted y kernel_tree r.meaning_is) (invariant y a b c d v w r) lines eight k
