-- The sums are right: each dispatch, and each step of a user, keeps `IsSum`.
use Rattle.std.proofs.Common.{◌≡◌, inl, inr, ℕ, suc, ◌+◌, ◌≤◌, List, [], ◌∷◌, ◌++◌, length, Bool, true, false, nat_lt, refl, sym, ap, ◌∙◌, arith}
use Rattle.std.specs.Prelude.{◌==◌, if◌then◌else◌, pos, map}
use Rattle.std.specs.Ordering.{int_eq}
use Rattle.std.proofs.lemmas.Bool.{le-ltb}
use Rattle.mips_table.specs.declared.cause.Cause.{Cause}
use Rattle.mips_table.specs.declared.cause.Cause.TheVariants as causes
use Rattle.mips_table.specs.Machine.{cause_number, Console}
use Rattle.mips_table.specs.Flat.{Flat, Goes, vstep}
use Rattle.c0_meaning.specs.State.{C0State}
use Rattle.cvm_model.specs.Kernel.{Core, KernelMeaning}
use Rattle.cvm_model.specs.Primitives.{user_of}
use Rattle.cvm_model.specs.Cvm.{System, Running, Halted, first_flat, first_core, status_of}
use Rattle.cvm_model.specs.Invariant.{Dispatch, IsTrapOf, with_machine, HasUsers, RunsAreLawful}
use Rattle.cvm_model.specs.Systems.{SystemProperty, status_after, lines_taken, UsePages, KeepsAll, IsSystemInvariant}
use Rattle.cvm_model.proofs.SystemsHold.{systems_hold, status_join, lines_join}
use Rattle.cvm_model.proofs.KeepsSystem.{all_user, all_halt}
use Rattle.kernel_theorems.proofs.UserRuns.{core_of_parts, known_step, KnownTrap, known_trap, arrives}
use Rattle.kernel_theorems.proofs.OneDispatchMore.{one_more}
use Rattle.kernel_theorems.proofs.TestsSplit.{small_sum}
use Rattle.kernel_theorems.proofs.OneKernel.{DoesWithin, keeps_within}
use Rattle.summing.specs.Tree.{kernel_tree}
use Rattle.summing.specs.Property.{RunsSumming, data_of, Phase, Nobody, FirstOnly, SecondOnly, Everybody, first_called, second_called, phase_calls, total_of, done_of, status_of_phase, IsTurn, machine_of, IsSum, Sums, SumsAreRight}

module _ (y : System) (m n v w : ℕ) (r : RunsSumming y m n v w) where
  abbrev f1 : Flat
  f1 = first_flat r.one

  abbrev f2 : Flat
  f2 = first_flat r.two

  abbrev I : SystemProperty
  I = IsSum y m n v w f1 f2

  abbrev J : SystemProperty
  J = Sums y m n v w f1 f2

  abbrev users_at : Phase → (a b : ℕ) → List Flat
  users_at p a b = machine_of (first_called p) m a f1 ∷ machine_of (second_called p) n b f2 ∷ []

  has_room : nat_lt y.boot.params.stack 8 ≡ false
  has_room = le-ltb y.boot.params.stack 8 (let room = r.room in omega (arith, room))

  two_users : length y.boot.users ≡ 2
  two_users = ap length r.users_are

  -- behind a dispatch: from the phase before it
  made : (k : ℕ) (past : List Dispatch) (d : Dispatch) (p q : Phase) (a b : ℕ) (c : Core) → a ≤ m → b ≤ n → k ≡ 1 + a + b + phase_calls p + lines_taken past → length past ≡ 1 + phase_calls p + lines_taken past
      → phase_calls q + (if d.cause == 1 then 1 else 0) ≡ suc (phase_calls p) → c.users ≡ users_at q a b → c.c0 ≡ data_of (pos (total_of v w q)) (done_of q) → IsTurn q c.current
      → status_of d.next ≡ status_of_phase q → c.console ≡ (first_core y).console → I (suc k) (past ++ d ∷ []) c
  made k past d p q a b c few_one few_two turns long calls users data_is turn status console =
      let l = lines_join past d in
      let o = one_more past d in
      record {
        phase = q;
        one = a;
        two = b;
        few_one = few_one;
        few_two = few_two;
        turns_are = omega (arith, turns, calls, l);
        length_is = omega (arith, long, calls, l, o);
        users_are = users;
        data_is = data_is;
        turn_is = turn;
        status_is = status_join Running past d ∙ status;
        console_is = console;
      }

  -- the code of a dispatch, from data that is known
  abbrev Does : (k cause edata : ℕ) → List Dispatch → Core → C0State → Type 0
  Does = DoesWithin y kernel_tree r.meaning_is 100 0 I

  -- THE START
  started : Does 0 0 0 [] (first_core y) (data_of (pos 0) false)
  started = rw has_room (
    omega arith,
    all_user y I 0 0 0 [] (first_core y) _ 1 refl (omega arith) (let two = two_users in omega (arith, two)) (record {
      phase = Nobody;
      one = 0;
      two = 0;
      few_one = omega arith;
      few_two = omega arith;
      turns_are = refl;
      length_is = refl;
      users_are = ap (map first_flat) r.users_are;
      data_is = refl;
      turn_is = inl refl;
      status_is = refl;
      console_is = refl;
    }),
  )

  -- LINES
  lined : (k mask : ℕ) (past : List Dispatch) (at : Core) (p : Phase) (a b : ℕ) → a ≤ m → b ≤ n → k ≡ 1 + a + b + phase_calls p + lines_taken past → length past ≡ 1 + phase_calls p + lines_taken past
      → at.users ≡ users_at p a b → IsTurn p at.current → status_of_phase p ≡ Running → at.console ≡ (first_core y).console → Does k 1 mask past at (data_of (pos (total_of v w p)) (done_of p))
  lined k mask past at Nobody a b few_one few_two turns long users (inl current) on console =
      let first : int_eq (pos at.current) (pos 1) ≡ true = rw current refl in
      rw (has_room, first) (
        omega arith,
        all_user y I k 1 mask past at _ 2 refl (omega arith) (let two = two_users in omega (arith, two))
            (made k past _ Nobody Nobody a b _ few_one few_two turns long refl users refl (inr refl) refl console),
      )
  lined k mask past at Nobody a b few_one few_two turns long users (inr current) on console =
      let first : int_eq (pos at.current) (pos 1) ≡ false = rw current refl in
      rw (has_room, first) (
        omega arith,
        all_user y I k 1 mask past at _ 1 refl (omega arith) (let two = two_users in omega (arith, two))
            (made k past _ Nobody Nobody a b _ few_one few_two turns long refl users refl (inl refl) refl console),
      )
  lined k mask past at FirstOnly a b few_one few_two turns long users current on console =
      let first : int_eq (pos at.current) (pos 1) ≡ false = rw current refl in
      rw (has_room, first) (
        omega arith,
        all_user y I k 1 mask past at _ at.current refl (omega (arith, current)) (let two = two_users in omega (arith, two, current))
            (made k past _ FirstOnly FirstOnly a b _ few_one few_two turns long refl users refl current refl console),
      )
  lined k mask past at SecondOnly a b few_one few_two turns long users current on console =
      let first : int_eq (pos at.current) (pos 1) ≡ true = rw current refl in
      rw (has_room, first) (
        omega arith,
        all_user y I k 1 mask past at _ at.current refl (omega (arith, current)) (let two = two_users in omega (arith, two, current))
            (made k past _ SecondOnly SecondOnly a b _ few_one few_two turns long refl users refl current refl console),
      )
  lined k mask past at Everybody a b few_one few_two turns long users current on console = absurd (cc)

  -- THE FOUR CALLS there are, each at a state that is written out: one user's machine as its call left it
  abbrev o : Console
  o = (first_core y).console

  abbrev at_call : (total : ℕ) → Bool → Phase → (a b : ℕ) → ℕ → Core
  at_call total done p a b u = core_of_parts (data_of (pos total) done) (users_at p a b) o u

  by_first : (k edata : ℕ) (past : List Dispatch) (a b : ℕ) → a ≤ m → b ≤ n → k ≡ 1 + a + b + phase_calls Nobody + lines_taken past → length past ≡ 1 + phase_calls Nobody + lines_taken past
      → Does k 6 edata past (at_call (total_of v w Nobody) (done_of Nobody) FirstOnly a b 1) (data_of (pos (total_of v w Nobody)) (done_of Nobody))
  by_first k edata past a b few_one few_two turns long =
      let sum = small_sum 0 v v _ r.first_calls.value_is (omega arith) (let s = r.small in omega (arith, s)) in
      rw has_room (
        omega arith,
        all_user y I k 6 edata past _ _ 2 refl (omega arith) (let two = two_users in omega (arith, two))
            (made k past _ Nobody FirstOnly a b _ few_one few_two turns long refl refl (ap (λ z. data_of z true) sum) refl refl refl),
      )

  by_second : (k edata : ℕ) (past : List Dispatch) (a b : ℕ) → a ≤ m → b ≤ n → k ≡ 1 + a + b + phase_calls Nobody + lines_taken past → length past ≡ 1 + phase_calls Nobody + lines_taken past
      → Does k 6 edata past (at_call (total_of v w Nobody) (done_of Nobody) SecondOnly a b 2) (data_of (pos (total_of v w Nobody)) (done_of Nobody))
  by_second k edata past a b few_one few_two turns long =
      let sum = small_sum 0 w w _ r.second_calls.value_is (omega arith) (let s = r.small in omega (arith, s)) in
      rw has_room (
        omega arith,
        all_user y I k 6 edata past _ _ 1 refl (omega arith) (let two = two_users in omega (arith, two))
            (made k past _ Nobody SecondOnly a b _ few_one few_two turns long refl refl (ap (λ z. data_of z true) sum) refl refl refl),
      )

  then_second : (k edata : ℕ) (past : List Dispatch) (a b : ℕ) → a ≤ m → b ≤ n → k ≡ 1 + a + b + phase_calls FirstOnly + lines_taken past → length past ≡ 1 + phase_calls FirstOnly + lines_taken past
      → Does k 6 edata past (at_call (total_of v w FirstOnly) (done_of FirstOnly) Everybody a b 2) (data_of (pos (total_of v w FirstOnly)) (done_of FirstOnly))
  then_second k edata past a b few_one few_two turns long =
      let sum = small_sum v w (v + w) _ r.second_calls.value_is refl r.small in
      rw has_room (
        omega arith,
        all_halt y I k 6 edata past _ _ refl
            (made k past _ FirstOnly Everybody a b _ few_one few_two turns long refl refl (ap (λ z. data_of z true) sum) tt refl refl),
      )

  then_first : (k edata : ℕ) (past : List Dispatch) (a b : ℕ) → a ≤ m → b ≤ n → k ≡ 1 + a + b + phase_calls SecondOnly + lines_taken past → length past ≡ 1 + phase_calls SecondOnly + lines_taken past
      → Does k 6 edata past (at_call (total_of v w SecondOnly) (done_of SecondOnly) Everybody a b 1) (data_of (pos (total_of v w SecondOnly)) (done_of SecondOnly))
  then_first k edata past a b few_one few_two turns long =
      let sum = small_sum w v (v + w) _ r.first_calls.value_is (omega arith) r.small in
      rw has_room (
        omega arith,
        all_halt y I k 6 edata past _ _ refl
            (made k past _ SecondOnly Everybody a b _ few_one few_two turns long refl refl (ap (λ z. data_of z true) sum) tt refl refl),
      )

  -- a trap that is known
  arrive : {k t steps word edata : ℕ} {cause : Cause} {past : List Dispatch} {at there : Core} → KnownTrap at there steps t causes.Syscall word cause edata → UsePages y 100 0 past → Does k 6 word past there there.c0
      → KeepsAll y 100 J k (cause_number cause) edata past at
  arrive {k} {t} {steps} {word} {edata} {cause} {past} {at} {there} h touch does = arrives h (keeps_within y kernel_tree r.meaning_is 100 0 I k 6 word past there there.c0 touch refl does)

  trapped : (k : ℕ) (cause : Cause) (edata : ℕ) (past : List Dispatch) (before at : Core) → IsTrapOf before cause edata at → status_after past ≡ Running → UsePages y 100 0 past → (h : I (suc k) past before) → KeepsAll y 100 J (suc k) (cause_number cause) edata past at
  trapped k cause edata past before at came on touch h = by h.phase h.turn_is h.users_are h.turns_are h.length_is h.data_is h.status_is
    where
      by : (p : Phase) → IsTurn p before.current → before.users ≡ users_at p h.one h.two → suc k ≡ 1 + h.one + h.two + phase_calls p + lines_taken past → length past ≡ 1 + phase_calls p + lines_taken past
          → before.c0 ≡ data_of (pos (total_of v w p)) (done_of p) → status_after past ≡ status_of_phase p → KeepsAll y 100 J (suc k) (cause_number cause) edata past at
      by Nobody (inl one) users turns long data_is status =
          arrive (known_trap before at (users_at Nobody h.one h.two) 1 f1 m causes.Syscall r.first_calls.calls _ h.one cause edata (data_of (pos (total_of v w Nobody)) (done_of Nobody)) o refl h.few_one users one refl data_is h.console_is came) touch
          (by_first (suc k) _ past h.one h.two h.few_one h.few_two turns long)
      by Nobody (inr two) users turns long data_is status =
          arrive (known_trap before at (users_at Nobody h.one h.two) 2 f2 n causes.Syscall r.second_calls.calls _ h.two cause edata (data_of (pos (total_of v w Nobody)) (done_of Nobody)) o refl h.few_two users two refl data_is h.console_is came) touch
          (by_second (suc k) _ past h.one h.two h.few_one h.few_two turns long)
      by FirstOnly two users turns long data_is status =
          arrive (known_trap before at (users_at FirstOnly h.one h.two) 2 f2 n causes.Syscall r.second_calls.calls _ h.two cause edata (data_of (pos (total_of v w FirstOnly)) (done_of FirstOnly)) o refl h.few_two users two refl data_is h.console_is came) touch
          (then_second (suc k) _ past h.one h.two h.few_one h.few_two turns long)
      by SecondOnly one users turns long data_is status =
          arrive (known_trap before at (users_at SecondOnly h.one h.two) 1 f1 m causes.Syscall r.first_calls.calls _ h.one cause edata (data_of (pos (total_of v w SecondOnly)) (done_of SecondOnly)) o refl h.few_one users one refl data_is h.console_is came) touch
          (then_first (suc k) _ past h.one h.two h.few_one h.few_two turns long)
      by Everybody turn users turns long data_is status = absurd (let z : Halted ≡ Running = sym status ∙ on in cc)

  -- A STEP of the current user
  stepped : (k : ℕ) (past : List Dispatch) (c : Core) (f : Flat) → vstep (user_of c.users c.current) ≡ Goes f → status_after past ≡ Running → (h : I (suc k) past c) → I (suc (suc k)) past (with_machine c f)
  stepped k past c f e on h = by h.phase h.turn_is h.users_are h.turns_are h.length_is h.data_is h.status_is
    where
      with_step : (p : Phase) (a b : ℕ) → a ≤ m → b ≤ n → a + b ≡ suc (h.one + h.two) → suc k ≡ 1 + h.one + h.two + phase_calls p + lines_taken past → (with_machine c f).users ≡ users_at p a b → IsTurn p c.current
          → length past ≡ 1 + phase_calls p + lines_taken past → c.c0 ≡ data_of (pos (total_of v w p)) (done_of p) → status_after past ≡ status_of_phase p → I (suc (suc k)) past (with_machine c f)
      with_step p a b few_one few_two sum turns users turn long data_is status = record {
        phase = p;
        one = a;
        two = b;
        few_one = few_one;
        few_two = few_two;
        turns_are = omega (arith, sum, turns);
        length_is = long;
        users_are = users;
        data_is = data_is;
        turn_is = turn;
        status_is = status;
        console_is = h.console_is;
      }

      by : (p : Phase) → IsTurn p c.current → c.users ≡ users_at p h.one h.two → suc k ≡ 1 + h.one + h.two + phase_calls p + lines_taken past → length past ≡ 1 + phase_calls p + lines_taken past
          → c.c0 ≡ data_of (pos (total_of v w p)) (done_of p) → status_after past ≡ status_of_phase p → I (suc (suc k)) past (with_machine c f)
      by Nobody (inl one) users turns long data_is status =
          let s = known_step c (users_at Nobody h.one h.two) 1 f1 m causes.Syscall r.first_calls.calls h.one h.few_one users one refl f e in
          let before = s.before in
          with_step Nobody (suc h.one) h.two (omega (arith, before)) h.few_two (omega arith) turns s.users (inl one) long data_is status
      by Nobody (inr two) users turns long data_is status =
          let s = known_step c (users_at Nobody h.one h.two) 2 f2 n causes.Syscall r.second_calls.calls h.two h.few_two users two refl f e in
          let before = s.before in
          with_step Nobody h.one (suc h.two) h.few_one (omega (arith, before)) (omega arith) turns s.users (inr two) long data_is status
      by FirstOnly two users turns long data_is status =
          let s = known_step c (users_at FirstOnly h.one h.two) 2 f2 n causes.Syscall r.second_calls.calls h.two h.few_two users two refl f e in
          let before = s.before in
          with_step FirstOnly h.one (suc h.two) h.few_one (omega (arith, before)) (omega arith) turns s.users two long data_is status
      by SecondOnly one users turns long data_is status =
          let s = known_step c (users_at SecondOnly h.one h.two) 1 f1 m causes.Syscall r.first_calls.calls h.one h.few_one users one refl f e in
          let before = s.before in
          with_step SecondOnly (suc h.one) h.two (omega (arith, before)) h.few_two (omega arith) turns s.users one long data_is status
      by Everybody turn users turns long data_is status = absurd (let z : Halted ≡ Running = sym status ∙ on in cc)

  pub invariant : IsSystemInvariant y 100 (HasUsers y) J
  invariant = record {
    start = λ fit. keeps_within y kernel_tree r.meaning_is 100 0 I 0 0 0 [] (first_core y) (data_of (pos 0) false) tt (ap (λ (m : KernelMeaning). m.first) r.meaning_is) started;
    line = λ k mask past c some few fit is on h. keeps_within y kernel_tree r.meaning_is 100 0 I (suc k) 1 mask past c (data_of (pos (total_of v w h.0.phase)) (done_of h.0.phase)) h.1 h.0.data_is
        (lined (suc k) mask past c h.0.phase h.0.one h.0.two h.0.few_one h.0.few_two h.0.turns_are h.0.length_is h.0.users_are h.0.turn_is (sym h.0.status_is ∙ on) h.0.console_is);
    trap = λ k cause edata past before at came fit is fits one on h. trapped k cause edata past before at came on h.1 h.0;
    step = λ k past c f e fit is fits on h. (stepped k past c f e on h.0, h.1);
  }

pub sums_are_right : RunsAreLawful → SumsAreRight
sums_are_right laws y m n v w r lines eight k =
    systems_hold laws y kernel_tree 100 (HasUsers y) (Sums y m n v w (first_flat r.one) (first_flat r.two)) r.meaning_is (laws.counted y kernel_tree r.meaning_is) (invariant y m n v w r) lines eight k
