-- Each dispatch, and each step of a user, keeps `IsMailing`.
use Rattle.std.proofs.Common.{◌≡◌, ◌⊎◌, ℕ, suc, ◌+◌, ◌≤◌, ◌<◌, ◌^◌, List, [], ◌∷◌, ◌++◌, length, Option, Some, None, true, false, nat_lt, refl, sym, ap, ap₂, ◌∙◌, subst, inl, inr, ⊎_elim, append_assoc, arith}
use Rattle.std.specs.Prelude.{◌==◌, if◌then◌else◌, ℤ, pos, map}
use Rattle.std.specs.Int.{w32, cast_unsigned}
use Rattle.std.proofs.lemmas.Bool.{le-ltb, lt-ltb}
use Rattle.std.proofs.lemmas.Int.{of_z-to_z, to_z_pos}
use Rattle.mips_table.specs.Machine.{cause_number, Console, LOG_ROOM, log_has_room}
use Rattle.mips_table.specs.declared.cause.Cause.{Cause}
use Rattle.mips_table.specs.declared.cause.Cause.TheVariants.{Syscall}
use Rattle.mips_table.specs.Flat.{Flat, Goes, Trap, vstep}
use Rattle.layer_map.specs.declared.params.Params.{Params}
use Rattle.c0_meaning.specs.State.{C0State}
use Rattle.c0_meaning.specs.World.{Configuration}
use Rattle.c0_meaning.specs.Execution as c0_run
use Rattle.cvm_model.specs.Kernel.{Core, Changes, KernelMeaning}
use Rattle.cvm_model.specs.KernelMeaning.{Machines}
use Rattle.cvm_model.specs.Primitives.{user_of, with_user}
use Rattle.cvm_model.specs.Cvm.{System, Running, Halted, first_flat, first_core, status_of}
use Rattle.cvm_model.specs.declared.row.Next.{Next}
use Rattle.cvm_model.specs.declared.row.Next.TheVariants.{User, Halt}
use Rattle.cvm_model.specs.Invariant.{Dispatch, IsTrapOf, with_machine, HasUsers, RunsAreLawful}
use Rattle.cvm_model.specs.Systems.{SystemProperty, status_after, lines_taken, UsePages, KeepsAll, KeptAllAt, IsSystemInvariant}
use Rattle.cvm_model.proofs.SystemsHold.{systems_hold, status_join, lines_join, append_none}
use Rattle.cvm_model.proofs.KeepsSystem.{ComesWithin, keeps_within_by, all_user, all_halt}
use Rattle.kernel_theorems.specs.UserRuns.{after, told}
use Rattle.kernel_theorems.proofs.OneDispatchMore.{one_more}
use Rattle.kernel_theorems.proofs.UserRuns.{goes_before, goes_next, its_step, put_in}
use Rattle.mailing.specs.Tree.{kernel_tree}
use Rattle.mailing.specs.Users.{Leg, before_trap, UserProgress, Runs, Waits, Ended, machine_at, IsStillStepping, FollowsLegs}
use Rattle.mailing.specs.Property.{Message, sends, receives, asking_leg, printing_leg, message_numbers, message_ints, AreSmall, Mails, data_of, held, message_number, IsFull, IsEmpty, calls_left, waits_by, over_of, status_of_users, MailState, stand, unsent, sent_by, sent, StandsSo, IsMailing, Mailing, MailIsKept, MailIsPrinted}
use Rattle.mailing.proofs.DispatchesComputed.{core_of, Gives, Code}
use Rattle.mailing.proofs.DispatchesComputed as code
use Rattle.mailing.proofs.UserFollows.{goes_on, is_answered, is_waiting, is_answered_late, is_over, TrapsSo, its_trap, IsThat, is_that}

-- HISTORY with a dispatch more
sent_join : (past : List Dispatch) (e : Dispatch) (xs : List ℤ) → sent (past ++ e ∷ []) ++ xs ≡ sent past ++ (sent_by e ++ xs)
sent_join [] e xs = ap (λ (z : List ℤ). z ++ xs) (append_none (sent_by e))
sent_join (d ∷ past) e xs =
    append_assoc (sent_by d) (sent (past ++ e ∷ [])) xs ∙ ap (λ (z : List ℤ). sent_by d ++ z) (sent_join past e xs) ∙ sym (append_assoc (sent_by d) (sent past) (sent_by e ++ xs))

-- MESSAGES
small_behind : (xs ys : List Message) → AreSmall (xs ++ ys) → AreSmall ys
small_behind [] ys h = h
small_behind (x ∷ xs) ys h = small_behind xs ys h.2

small_held : (o : Option Message) (xs : List Message) → AreSmall (held o xs) → AreSmall xs
small_held None xs h = h
small_held (Some m) xs h = h.2

numbers_push : (xs : List Message) (m : Message) → message_numbers (xs ++ m ∷ []) ≡ message_numbers xs ++ m.number ∷ []
numbers_push [] m = refl
numbers_push (x ∷ xs) m = ap (λ ns. x.number ∷ ns) (numbers_push xs m)

numbers_length : (xs : List Message) → length (message_numbers xs) ≡ length xs
numbers_length [] = refl
numbers_length (x ∷ xs) = ap suc (numbers_length xs)

fewer : (xs : List Message) (m : Message) (ys : List Message) → length xs < length (xs ++ m ∷ ys)
fewer [] m ys = omega arith
fewer (x ∷ xs) m ys = let h = fewer xs m ys in omega (arith, h)

word_is : (n : ℕ) → n < 2 ^ 31 → cast_unsigned w32 (pos n) ≡ n
word_is n lt = ap (cast_unsigned w32) (sym (to_z_pos w32 n lt)) ∙ of_z-to_z w32 n (omega (arith, lt))

-- what isn't so of one that waits
busy : (A : Type 0) (t : ℕ) → Runs t ≡ Waits → A
busy A t e = absurd (cc)

gone : (A : Type 0) → Ended ≡ Waits → A
gone A e = absurd (cc)

-- A CORE by its parts, with another machine of its user
abbrev core : C0State → List Flat → Console → ℕ → Core
core s us o u = record { c0 = s; users = us; console = o; current = u }

core_is : (before : Core) (h g : Flat) (us : List Flat) (s : C0State) (u : ℕ) → before.users ≡ us → before.current ≡ u → before.c0 ≡ s → h ≡ g
    → with_machine before h ≡ core s (with_user us u g) before.console u
core_is before h g us s u users current word same =
    ap (λ (s : C0State). core s (with_user before.users before.current h) before.console before.current) word
    ∙ ap₂ (λ (us : List Flat) (u : ℕ). core s (with_user us u h) before.console u) users current
    ∙ ap (λ (g : Flat). core s (with_user us u g) before.console u) same

whole : (c : Core) (us : List Flat) (s : C0State) (u : ℕ) → c.users ≡ us → c.current ≡ u → c.c0 ≡ s → c ≡ core s us c.console u
whole c us s u users current word =
    ap (λ (s : C0State). core s c.users c.console c.current) word ∙ ap₂ (λ (us : List Flat) (u : ℕ). core s us c.console u) users current

lifts : (pages : ℕ) (o : c0_run.Outcome Machines Changes) (P Q : Configuration Machines Changes → Type 0) → ((d : Configuration Machines Changes) → P d → Q d) → ComesWithin pages o P → ComesWithin pages o Q
lifts pages (c0_run.Done used d) P Q to h = (h.0, to d h.1)
lifts pages (c0_run.Failed used f d) P Q to h = absurd h
lifts pages (c0_run.NotYet used d) P Q to h = absurd h

-- a dispatch
abbrev made_of : (k cause edata : ℕ) (there after : Core) → Next → Dispatch
made_of k cause edata there after next = record { turn = k; cause = cause; edata = edata; before = there; after = after; next = next }

module _ (y : System) (ms : List Message) (one two : ℕ) (r : Mails y ms one two) where
  abbrev F : Flat
  F = first_flat r.sender

  abbrev G : Flat
  G = first_flat r.receiver

  abbrev p : Params
  p = y.boot.params

  abbrev I : SystemProperty
  I = IsMailing ms one two F G

  abbrev J : SystemProperty
  J = Mailing y ms one two F G

  abbrev So : ℕ → List Dispatch → Core → MailState → Type 0
  So k past at s = StandsSo ms one two F G k past at s

  has_room : nat_lt y.boot.params.stack 11 ≡ false
  has_room = le-ltb y.boot.params.stack 11 (let room = r.room in omega (arith, room))

  two_users : length y.boot.users ≡ 2
  two_users = ap length r.users_are

  -- the state of a standing
  abbrev at_place : MailState → Console → ℕ → Core
  at_place s o u = core_of (message_number s.box) (waits_by 1 s.sender + waits_by 2 s.receiver) (over_of s.sender s.receiver)
      (machine_at s.f (sends s.rest) one s.sender) (machine_at s.g (calls_left s.hand (held s.box s.rest)) two s.receiver) o u

  -- BEHIND A DISPATCH
  made : (k : ℕ) (past : List Dispatch) (e : Dispatch) (s : MailState) (o : Console) (u : ℕ)
      → (a : FollowsLegs F (sends ms) one s.f (sends s.rest) s.sender) (b : FollowsLegs G (receives ms) two s.g (calls_left s.hand (held s.box s.rest)) s.receiver)
      → ms ≡ s.printed ++ held s.hand (held s.box s.rest) → sent past ++ (sent_by e ++ message_ints (unsent s.sender s.rest)) ≡ message_ints ms → o.log ≡ message_numbers s.printed
      → (s.sender ≡ Waits → IsFull s.box) → (s.receiver ≡ Waits → IsEmpty s.hand × IsEmpty s.box)
      → (status_of_users s.sender s.receiver ≡ Running → ((u ≡ 1) × IsStillStepping s.sender) ⊎ ((u ≡ 2) × IsStillStepping s.receiver)) → status_of e.next ≡ status_of_users s.sender s.receiver
      → suc k ≡ 1 + a.steps + b.steps + (lines_taken past + (if e.cause == 1 then 1 else 0)) → suc (length past) ≡ 1 + a.traps + b.traps + (lines_taken past + (if e.cause == 1 then 1 else 0))
      → I (suc k) (past ++ e ∷ []) (at_place s o u)
  made k past e s o u a b all sends_on log room mail turn status turns long =
      let l = lines_join past e in
      let m = one_more past e in
      let over = status_join Running past e ∙ status in
      record {
        printed = s.printed;
        hand = s.hand;
        box = s.box;
        rest = s.rest;
        sender_from = s.f;
        receiver_from = s.g;
        sender_progress = s.sender;
        receiver_progress = s.receiver;
        so = record {
          sender = a;
          receiver = b;
          all = all;
          sent_are = sent_join past e (message_ints (unsent s.sender s.rest)) ∙ sends_on;
          log_is = log;
          for_room = room;
          for_mail = mail;
          users_are = refl;
          data_is = refl;
          turn_is = λ on. turn (sym over ∙ on);
          status_is = over;
          turns_are = omega (arith, turns, l);
          length_is = omega (arith, long, l, m);
        };
      }

  -- FROM CODE to a dispatch, by who is next
  to_user : (k cause edata : ℕ) (past : List Dispatch) (there after : Core) (a : ℕ) → 1 ≤ a → a ≤ 2 → I (suc k) (past ++ made_of k cause edata there after (User a) ∷ []) (record after { current = a })
      → (d : Configuration Machines Changes) → Gives there a after d → KeptAllAt y I k cause edata past there d
  to_user k cause edata past there after a some few held_then d h =
      all_user y I k cause edata past there d a h.0 some (let two = two_users in omega (arith, two, few))
      (subst (λ (c : Core). I (suc k) (past ++ made_of k cause edata there c (User a) ∷ []) (record c { current = a })) (sym h.1) held_then)

  to_halt : (k cause edata : ℕ) (past : List Dispatch) (there after : Core) → I (suc k) (past ++ made_of k cause edata there after Halt ∷ []) after
      → (d : Configuration Machines Changes) → Gives there 0 after d → KeptAllAt y I k cause edata past there d
  to_halt k cause edata past there after held_then d h =
      all_halt y I k cause edata past there d h.0 (subst (λ (c : Core). I (suc k) (past ++ made_of k cause edata there c Halt ∷ []) c) (sym h.1) held_then)

  keeps : (k cause edata : ℕ) (past : List Dispatch) (at : Core) (box waits over : ℕ) (f g : Flat) (o : Console) (u a : ℕ) (after : Core) → UsePages y 200 0 past → at ≡ core_of box waits over f g o u
      → ((d : Configuration Machines Changes) → Gives (core_of box waits over f g o u) a after d → KeptAllAt y I k cause edata past (core_of box waits over f g o u) d)
      → Code p cause edata (core_of box waits over f g o u) a after → KeepsAll y 200 J k cause edata past at
  keeps k cause edata past at box waits over f g o u a after touch same to does =
      subst (λ (c : Core). KeepsAll y 200 J k cause edata past c) (sym same)
      (keeps_within_by y kernel_tree r.meaning_is 200 0 I k cause edata past (core_of box waits over f g o u) touch
      (lifts 0 _ (Gives (core_of box waits over f g o u) a after) (KeptAllAt y I k cause edata past (core_of box waits over f g o u)) to does))

  -- a trap that is known
  arrive : (k : ℕ) (cause : Cause) (edata word : ℕ) (past : List Dispatch) (at : Core) → cause ≡ Syscall → edata ≡ word → KeepsAll y 200 J k 6 word past at → KeepsAll y 200 J k (cause_number cause) edata past at
  arrive k cause edata word past at is same h =
      subst (λ (z : Cause). KeepsAll y 200 J k (cause_number z) edata past at) (sym is) (subst (λ (e : ℕ). KeepsAll y 200 J k 6 e past at) (sym same) h)

  -- THE START
  started : KeepsAll y 200 J 0 0 0 [] (first_core y)
  started =
      let o = (first_core y).console in
      let s = stand [] None None ms F G (Runs 0) (Runs 0) in
      keeps 0 0 0 [] (first_core y) 0 0 0 F G (first_core y).console 0 1 (core_of 0 0 0 F G (first_core y).console 0) tt
      (whole (first_core y) (F ∷ G ∷ []) (data_of 0 0 0) 0 (ap (map first_flat) r.users_are) refl (ap (λ (m : KernelMeaning). m.first) r.meaning_is))
      (to_user 0 0 0 [] (core_of 0 0 0 F G (first_core y).console 0) (core_of 0 0 0 F G (first_core y).console 0) 1 (omega arith) (omega arith)
      (made 0 [] (made_of 0 0 0 (core_of 0 0 0 F G (first_core y).console 0) (core_of 0 0 0 F G (first_core y).console 0) (User 1)) (stand [] None None ms F G (Runs 0) (Runs 0)) (first_core y).console 1
      (record { calls = r.sending; ends = refl; is_at = omega arith; steps = 0; steps_are = omega arith; traps = 0; traps_are = omega arith })
      (record { calls = r.receiving; ends = refl; is_at = omega arith; steps = 0; steps_are = omega arith; traps = 0; traps_are = omega arith })
      refl refl refl (busy (IsFull None) 0) (busy (IsEmpty None × IsEmpty None) 0) (λ on. inl (refl, tt)) refl (omega arith) (omega arith)))
      (code.starts p has_room F G (first_core y).console)

  -- A DISPATCH WHOSE CODE IS KNOWN, by the standing behind it: a user is next, or nobody
  moves : (k cause edata : ℕ) (past : List Dispatch) (at : Core) → UsePages y 200 0 past → (box waits over : ℕ) (f g : Flat) (o : Console) (u a : ℕ) (s : MailState) (after : Console)
      → at ≡ core_of box waits over f g o u → Code p cause edata (core_of box waits over f g o u) a (at_place s after u) → 1 ≤ a → a ≤ 2 → ((a ≡ 1) × IsStillStepping s.sender) ⊎ ((a ≡ 2) × IsStillStepping s.receiver)
      → Running ≡ status_of_users s.sender s.receiver
      → (b : FollowsLegs F (sends ms) one s.f (sends s.rest) s.sender) (c : FollowsLegs G (receives ms) two s.g (calls_left s.hand (held s.box s.rest)) s.receiver)
      → ms ≡ s.printed ++ held s.hand (held s.box s.rest)
      → sent past ++ (sent_by (made_of k cause edata (core_of box waits over f g o u) (at_place s after u) (User a)) ++ message_ints (unsent s.sender s.rest)) ≡ message_ints ms → after.log ≡ message_numbers s.printed
      → (s.sender ≡ Waits → IsFull s.box) → (s.receiver ≡ Waits → IsEmpty s.hand × IsEmpty s.box)
      → suc k ≡ 1 + b.steps + c.steps + (lines_taken past + (if cause == 1 then 1 else 0)) → suc (length past) ≡ 1 + b.traps + c.traps + (lines_taken past + (if cause == 1 then 1 else 0))
      → KeepsAll y 200 J k cause edata past at
  moves k cause edata past at touch box waits over f g o u a s after same does some few turn on b c all sends_on log room mail turns long =
      keeps k cause edata past at box waits over f g o u a (at_place s after u) touch same
      (to_user k cause edata past (core_of box waits over f g o u) (at_place s after u) a some few
      (made k past (made_of k cause edata (core_of box waits over f g o u) (at_place s after u) (User a)) s after a b c all sends_on log room mail (λ go. turn) on turns long)) does

  halts : (k cause edata : ℕ) (past : List Dispatch) (at : Core) → UsePages y 200 0 past → (box waits over : ℕ) (f g : Flat) (o : Console) (u : ℕ) (s : MailState)
      → at ≡ core_of box waits over f g o u → Code p cause edata (core_of box waits over f g o u) 0 (at_place s o u)
      → Halted ≡ status_of_users s.sender s.receiver
      → (b : FollowsLegs F (sends ms) one s.f (sends s.rest) s.sender) (c : FollowsLegs G (receives ms) two s.g (calls_left s.hand (held s.box s.rest)) s.receiver)
      → ms ≡ s.printed ++ held s.hand (held s.box s.rest)
      → sent past ++ (sent_by (made_of k cause edata (core_of box waits over f g o u) (at_place s o u) Halt) ++ message_ints (unsent s.sender s.rest)) ≡ message_ints ms → o.log ≡ message_numbers s.printed
      → (s.sender ≡ Waits → IsFull s.box) → (s.receiver ≡ Waits → IsEmpty s.hand × IsEmpty s.box)
      → suc k ≡ 1 + b.steps + c.steps + (lines_taken past + (if cause == 1 then 1 else 0)) → suc (length past) ≡ 1 + b.traps + c.traps + (lines_taken past + (if cause == 1 then 1 else 0))
      → KeepsAll y 200 J k cause edata past at
  halts k cause edata past at touch box waits over f g o u s same does off b c all sends_on log room mail turns long =
      keeps k cause edata past at box waits over f g o u 0 (at_place s o u) touch same
      (to_halt k cause edata past (core_of box waits over f g o u) (at_place s o u)
      (made k past (made_of k cause edata (core_of box waits over f g o u) (at_place s o u) Halt) s o u b c all sends_on log room mail (λ on. absurd (let z : Halted ≡ Running = off ∙ on in cc)) off turns long)) does

  -- A STANDING of a state that is running, by its parts: the dispatch that comes next
  module _ (k : ℕ) (past : List Dispatch) (touch : UsePages y 200 0 past) (printed : List Message) (hand : Option Message) where
    -- LINES: user 1 is current, and user 2
    lined_first : (box : Option Message) (rest : List Message) (f g : Flat) (mask : ℕ) (c : Core) (t : ℕ) (q : UserProgress) → So k past c (stand printed hand box rest f g (Runs t) q) → c.current ≡ 1
        → KeepsAll y 200 J k 1 mask past c
    lined_first box rest f g mask c t (Runs s) so here =
        let turns = so.turns_are in
        let long = so.length_is in
        moves k 1 mask past c touch (message_number box) 0 0 (after t f) (after s g) c.console 1 2 (stand printed hand box rest f g (Runs t) (Runs s)) c.console
        (whole c (after t f ∷ after s g ∷ []) (data_of (message_number box) 0 0) 1 so.users_are here so.data_is) (code.first_lets p has_room (after t f) (after s g) c.console (message_number box) mask)
        (omega arith) (omega arith) (inr (refl, tt)) refl so.sender so.receiver so.all so.sent_are so.log_is so.for_room so.for_mail (omega (arith, turns)) (omega (arith, long))
    lined_first box rest f g mask c t Waits so here =
        let turns = so.turns_are in
        let long = so.length_is in
        let h = machine_at g (calls_left hand (held box rest)) two Waits in
        moves k 1 mask past c touch (message_number box) 2 0 (after t f) h c.console 1 1 (stand printed hand box rest f g (Runs t) Waits) c.console
        (whole c (after t f ∷ h ∷ []) (data_of (message_number box) 2 0) 1 so.users_are here so.data_is) (code.first_stays_waiting p has_room (after t f) h c.console (message_number box) mask)
        (omega arith) (omega arith) (inl (refl, tt)) refl so.sender so.receiver so.all so.sent_are so.log_is so.for_room so.for_mail (omega (arith, turns)) (omega (arith, long))
    lined_first box rest f g mask c t Ended so here =
        let turns = so.turns_are in
        let long = so.length_is in
        let h = machine_at g (calls_left hand (held box rest)) two Ended in
        moves k 1 mask past c touch (message_number box) 0 2 (after t f) h c.console 1 1 (stand printed hand box rest f g (Runs t) Ended) c.console
        (whole c (after t f ∷ h ∷ []) (data_of (message_number box) 0 2) 1 so.users_are here so.data_is) (code.first_stays_over p has_room (after t f) h c.console (message_number box) mask)
        (omega arith) (omega arith) (inl (refl, tt)) refl so.sender so.receiver so.all so.sent_are so.log_is so.for_room so.for_mail (omega (arith, turns)) (omega (arith, long))

    lined_second : (box : Option Message) (rest : List Message) (f g : Flat) (mask : ℕ) (c : Core) (q : UserProgress) (s : ℕ) → So k past c (stand printed hand box rest f g q (Runs s)) → c.current ≡ 2
        → KeepsAll y 200 J k 1 mask past c
    lined_second box rest f g mask c (Runs t) s so here =
        let turns = so.turns_are in
        let long = so.length_is in
        moves k 1 mask past c touch (message_number box) 0 0 (after t f) (after s g) c.console 2 1 (stand printed hand box rest f g (Runs t) (Runs s)) c.console
        (whole c (after t f ∷ after s g ∷ []) (data_of (message_number box) 0 0) 2 so.users_are here so.data_is) (code.second_lets p has_room (after t f) (after s g) c.console (message_number box) mask)
        (omega arith) (omega arith) (inl (refl, tt)) refl so.sender so.receiver so.all so.sent_are so.log_is so.for_room so.for_mail (omega (arith, turns)) (omega (arith, long))
    lined_second box rest f g mask c Waits s so here =
        let turns = so.turns_are in
        let long = so.length_is in
        let h = machine_at f (sends rest) one Waits in
        moves k 1 mask past c touch (message_number box) 1 0 h (after s g) c.console 2 2 (stand printed hand box rest f g Waits (Runs s)) c.console
        (whole c (h ∷ after s g ∷ []) (data_of (message_number box) 1 0) 2 so.users_are here so.data_is) (code.second_stays_waiting p has_room h (after s g) c.console (message_number box) mask)
        (omega arith) (omega arith) (inr (refl, tt)) refl so.sender so.receiver so.all so.sent_are so.log_is so.for_room so.for_mail (omega (arith, turns)) (omega (arith, long))
    lined_second box rest f g mask c Ended s so here =
        let turns = so.turns_are in
        let long = so.length_is in
        let h = machine_at f (sends rest) one Ended in
        moves k 1 mask past c touch (message_number box) 0 1 h (after s g) c.console 2 2 (stand printed hand box rest f g Ended (Runs s)) c.console
        (whole c (h ∷ after s g ∷ []) (data_of (message_number box) 0 1) 2 so.users_are here so.data_is) (code.second_stays_over p has_room h (after s g) c.console (message_number box) mask)
        (omega arith) (omega arith) (inr (refl, tt)) refl so.sender so.receiver so.all so.sent_are so.log_is so.for_room so.for_mail (omega (arith, turns)) (omega (arith, long))

    -- what is small, of those that aren't printed
    small_left : (box : Option Message) (rest : List Message) → ms ≡ printed ++ held hand (held box rest) → AreSmall (held hand (held box rest))
    small_left box rest all = small_behind printed (held hand (held box rest)) (subst AreSmall all r.small)

    small_rest : (box : Option Message) (rest : List Message) → ms ≡ printed ++ held hand (held box rest) → AreSmall (held box rest)
    small_rest box rest all = small_held hand (held box rest) (small_left box rest all)

    -- A TRAP OF USER 1
    module _ (c at : Core) (cause : Cause) (edata : ℕ) (came : IsTrapOf c cause edata at) where
      -- which trap it is, and the state in which dispatch is called
      first_traps : (box : Option Message) (rest : List Message) (f g : Flat) (t : ℕ) (q : UserProgress) → So k past c (stand printed hand box rest f g (Runs t) q) → c.current ≡ 1
          → IsThat f (sends rest) one t came.after cause edata
          × (at ≡ core_of (message_number box) (waits_by 1 (Runs t) + waits_by 2 q) (over_of (Runs t) q) (after (suc (before_trap (sends rest) one)) f) (machine_at g (calls_left hand (held box rest)) two q) c.console 1)
      first_traps box rest f g t q so here =
          let us = after t f ∷ machine_at g (calls_left hand (held box rest)) two q ∷ [] in
          let is : IsThat f (sends rest) one t came.after cause edata = is_that f (sends rest) one so.sender.calls t so.sender.is_at came.after cause edata
          (its_step c (after t f ∷ machine_at g (calls_left hand (held box rest)) two q ∷ []) 1 (Trap came.after cause edata) so.users_are here came.stepped) in (
            is,
            came.left ∙ core_is c came.after (after (suc (before_trap (sends rest) one)) f) (after t f ∷ machine_at g (calls_left hand (held box rest)) two q ∷ [])
                (data_of (message_number box) (waits_by 1 (Runs t) + waits_by 2 q) (over_of (Runs t) q)) 1 so.users_are here so.data_is is.left,
          )

      puts : (m : Message) (rest : List Message) (f g : Flat) (t s : ℕ) → So k past c (stand printed hand None (m ∷ rest) f g (Runs t) (Runs s)) → c.current ≡ 1 → KeepsAll y 200 J k (cause_number cause) edata past at
      puts m rest f g t s so here =
          let n = first_traps None (m ∷ rest) f g t (Runs s) so here in
          let turns = so.turns_are in
          let long = so.length_is in
          let leg : Leg = record { steps = m.sending; argument = m.number; answer = 0 } in
          let says = so.sender.calls.0.argument_is in
          let small = small_rest None (m ∷ rest) so.all in
          arrive k cause edata 12 past at n.0.cause_is n.0.edata_is
          (moves k 6 12 past at touch 0 0 0 (after (suc m.sending) f) (after s g) c.console 1 1
          (stand printed hand (Some m) rest (told (after (suc m.sending) f) 0) g (Runs 0) (Runs s)) c.console n.1
          (code.put p has_room (after (suc m.sending) f) (after s g) c.console m.number small.0 says) (omega arith) (omega arith) (inl (refl, tt)) refl
          (is_answered F (sends ms) one f (record { steps = m.sending; argument = m.number; answer = 0 }) (sends rest) t n.0.now so.sender) so.receiver so.all
          (ap (λ (z : ℤ). sent past ++ (z ∷ message_ints rest)) says ∙ so.sent_are) so.log_is (busy (IsFull (Some m)) 0) (busy (IsEmpty hand × IsEmpty (Some m)) s) (omega (arith, turns)) (omega (arith, long)))

      waits_for_room : (b m : Message) (rest : List Message) (f g : Flat) (t s : ℕ) → So k past c (stand printed hand (Some b) (m ∷ rest) f g (Runs t) (Runs s)) → c.current ≡ 1 → KeepsAll y 200 J k (cause_number cause) edata past at
      waits_for_room b m rest f g t s so here =
          let n = first_traps (Some b) (m ∷ rest) f g t (Runs s) so here in
          let turns = so.turns_are in
          let long = so.length_is in
          let says = so.sender.calls.0.argument_is in
          let small = small_rest (Some b) (m ∷ rest) so.all in
          arrive k cause edata 12 past at n.0.cause_is n.0.edata_is
          (moves k 6 12 past at touch b.number 0 0 (after (suc m.sending) f) (after s g) c.console 1 2
          (stand printed hand (Some b) (m ∷ rest) f g Waits (Runs s)) c.console n.1
          (code.too_early p has_room (after (suc m.sending) f) (after s g) c.console b.number small.0) (omega arith) (omega arith) (inr (refl, tt)) refl
          (is_waiting F (sends ms) one f (record { steps = m.sending; argument = m.number; answer = 0 }) (sends rest) t n.0.now so.sender) so.receiver so.all
          (ap (λ (z : ℤ). sent past ++ (z ∷ message_ints rest)) says ∙ so.sent_are) so.log_is (λ e. tt) (busy (IsEmpty hand × IsEmpty (Some b)) s) (omega (arith, turns)) (omega (arith, long)))

      first_ends : (box : Option Message) (f g : Flat) (t s : ℕ) → So k past c (stand printed hand box [] f g (Runs t) (Runs s)) → c.current ≡ 1 → KeepsAll y 200 J k (cause_number cause) edata past at
      first_ends box f g t s so here =
          let n = first_traps box [] f g t (Runs s) so here in
          let turns = so.turns_are in
          let long = so.length_is in
          arrive k cause edata 76 past at n.0.cause_is n.0.edata_is
          (moves k 6 76 past at touch (message_number box) 0 0 (after (suc one) f) (after s g) c.console 1 2
          (stand printed hand box [] f g Ended (Runs s)) c.console n.1
          (code.first_ends p has_room (after (suc one) f) (after s g) c.console (message_number box)) (omega arith) (omega arith) (inr (refl, tt)) refl
          (is_over F (sends ms) one f t n.0.now so.sender) so.receiver so.all so.sent_are so.log_is (gone (IsFull box)) so.for_mail (omega (arith, turns)) (omega (arith, long)))

      first_ends_all : (box : Option Message) (f g : Flat) (t : ℕ) → So k past c (stand printed hand box [] f g (Runs t) Ended) → c.current ≡ 1 → KeepsAll y 200 J k (cause_number cause) edata past at
      first_ends_all box f g t so here =
          let n = first_traps box [] f g t Ended so here in
          let turns = so.turns_are in
          let long = so.length_is in
          let h = machine_at g (calls_left hand (held box [])) two Ended in
          arrive k cause edata 76 past at n.0.cause_is n.0.edata_is
          (halts k 6 76 past at touch (message_number box) 0 2 (after (suc one) f) h c.console 1 (stand printed hand box [] f g Ended Ended) n.1
          (code.first_ends_all p has_room (after (suc one) f) h c.console (message_number box)) refl
          (is_over F (sends ms) one f t n.0.now so.sender) so.receiver so.all so.sent_are so.log_is (gone (IsFull box)) (gone (IsEmpty hand × IsEmpty box)) (omega (arith, turns)) (omega (arith, long)))

      -- A TRAP OF USER 2
      second_traps : (box : Option Message) (rest : List Message) (f g : Flat) (q : UserProgress) (s : ℕ) → So k past c (stand printed hand box rest f g q (Runs s)) → c.current ≡ 2
          → IsThat g (calls_left hand (held box rest)) two s came.after cause edata
          × (at ≡ core_of (message_number box) (waits_by 1 q + waits_by 2 (Runs s)) (over_of q (Runs s)) (machine_at f (sends rest) one q) (after (suc (before_trap (calls_left hand (held box rest)) two)) g) c.console 2)
      second_traps box rest f g q s so here =
          let is : IsThat g (calls_left hand (held box rest)) two s came.after cause edata = is_that g (calls_left hand (held box rest)) two so.receiver.calls s so.receiver.is_at came.after cause edata
          (its_step c (machine_at f (sends rest) one q ∷ after s g ∷ []) 2 (Trap came.after cause edata) so.users_are here came.stepped) in (
            is,
            came.left ∙ core_is c came.after (after (suc (before_trap (calls_left hand (held box rest)) two)) g) (machine_at f (sends rest) one q ∷ after s g ∷ [])
                (data_of (message_number box) (waits_by 1 q + waits_by 2 (Runs s)) (over_of q (Runs s))) 2 so.users_are here so.data_is is.left,
          )

  -- those of a receiver with nothing in its hand
  module _ (k : ℕ) (past : List Dispatch) (touch : UsePages y 200 0 past) (printed : List Message) (c at : Core) (cause : Cause) (edata : ℕ) (came : IsTrapOf c cause edata at) where
    -- the sender's message goes to a receiver that waits
    delivers : (m : Message) (rest : List Message) (f g : Flat) (t : ℕ) → So k past c (stand printed None None (m ∷ rest) f g (Runs t) Waits) → c.current ≡ 1 → KeepsAll y 200 J k (cause_number cause) edata past at
    delivers m rest f g t so here =
        let n = first_traps k past touch printed None c at cause edata came None (m ∷ rest) f g t Waits so here in
        let turns = so.turns_are in
        let long = so.length_is in
        let says = so.sender.calls.0.argument_is in
        let small = small_rest k past touch printed None None (m ∷ rest) so.all in
        arrive k cause edata 12 past at n.0.cause_is n.0.edata_is
        (moves k 6 12 past at touch 0 2 0 (after (suc m.sending) f) (after (suc m.asking) g) c.console 1 1
        (stand printed (Some m) None rest (told (after (suc m.sending) f) 0) (told (after (suc m.asking) g) m.number) (Runs 0) (Runs 0)) c.console n.1
        (code.deliver p has_room (after (suc m.sending) f) (after (suc m.asking) g) c.console m.number small.0 says) (omega arith) (omega arith) (inl (refl, tt)) refl
        (is_answered F (sends ms) one f (record { steps = m.sending; argument = m.number; answer = 0 }) (sends rest) t n.0.now so.sender)
        (is_answered_late G (receives ms) two g (asking_leg m) (printing_leg m ∷ receives rest) so.receiver) so.all
        (ap (λ (z : ℤ). sent past ++ (z ∷ message_ints rest)) says ∙ so.sent_are) so.log_is (busy (IsFull None) 0) (busy (IsEmpty (Some m) × IsEmpty None) 0) (omega (arith, turns)) (omega (arith, long)))

    takes : (b : Message) (rest : List Message) (f g : Flat) (t s : ℕ) → So k past c (stand printed None (Some b) rest f g (Runs t) (Runs s)) → c.current ≡ 2 → KeepsAll y 200 J k (cause_number cause) edata past at
    takes b rest f g t s so here =
        let n = second_traps k past touch printed None c at cause edata came (Some b) rest f g (Runs t) s so here in
        let turns = so.turns_are in
        let long = so.length_is in
        let says = so.receiver.calls.0.argument_is in
        let small = small_rest k past touch printed None (Some b) rest so.all in
        arrive k cause edata 12 past at n.0.cause_is n.0.edata_is
        (moves k 6 12 past at touch b.number 0 0 (after t f) (after (suc b.asking) g) c.console 2 2
        (stand printed (Some b) None rest f (told (after (suc b.asking) g) b.number) (Runs t) (Runs 0)) c.console n.1
        (code.take p has_room (after t f) (after (suc b.asking) g) c.console b.number small.0 says) (omega arith) (omega arith) (inr (refl, tt)) refl
        so.sender (is_answered G (receives ms) two g (asking_leg b) (printing_leg b ∷ receives rest) s n.0.now so.receiver) so.all so.sent_are so.log_is
        (busy (IsFull None) t) (busy (IsEmpty (Some b) × IsEmpty None) 0) (omega (arith, turns)) (omega (arith, long)))

    takes_last : (b : Message) (rest : List Message) (f g : Flat) (s : ℕ) → So k past c (stand printed None (Some b) rest f g Ended (Runs s)) → c.current ≡ 2 → KeepsAll y 200 J k (cause_number cause) edata past at
    takes_last b rest f g s so here =
        let n = second_traps k past touch printed None c at cause edata came (Some b) rest f g Ended s so here in
        let turns = so.turns_are in
        let long = so.length_is in
        let says = so.receiver.calls.0.argument_is in
        let small = small_rest k past touch printed None (Some b) rest so.all in
        let h = machine_at f (sends rest) one Ended in
        arrive k cause edata 12 past at n.0.cause_is n.0.edata_is
        (moves k 6 12 past at touch b.number 0 1 h (after (suc b.asking) g) c.console 2 2
        (stand printed (Some b) None rest f (told (after (suc b.asking) g) b.number) Ended (Runs 0)) c.console n.1
        (code.take_last p has_room h (after (suc b.asking) g) c.console b.number small.0 says) (omega arith) (omega arith) (inr (refl, tt)) refl
        so.sender (is_answered G (receives ms) two g (asking_leg b) (printing_leg b ∷ receives rest) s n.0.now so.receiver) so.all so.sent_are so.log_is
        (gone (IsFull None)) (busy (IsEmpty (Some b) × IsEmpty None) 0) (omega (arith, turns)) (omega (arith, long)))

    takes_and_puts : (b m : Message) (rest : List Message) (f g : Flat) (s : ℕ) → So k past c (stand printed None (Some b) (m ∷ rest) f g Waits (Runs s)) → c.current ≡ 2 → KeepsAll y 200 J k (cause_number cause) edata past at
    takes_and_puts b m rest f g s so here =
        let n = second_traps k past touch printed None c at cause edata came (Some b) (m ∷ rest) f g Waits s so here in
        let turns = so.turns_are in
        let long = so.length_is in
        let says = so.receiver.calls.0.argument_is in
        let brings = so.sender.calls.0.argument_is in
        let small = small_rest k past touch printed None (Some b) (m ∷ rest) so.all in
        arrive k cause edata 12 past at n.0.cause_is n.0.edata_is
        (moves k 6 12 past at touch b.number 1 0 (after (suc m.sending) f) (after (suc b.asking) g) c.console 2 2
        (stand printed (Some b) (Some m) rest (told (after (suc m.sending) f) 0) (told (after (suc b.asking) g) b.number) (Runs 0) (Runs 0)) c.console n.1
        (code.take_and_put p has_room (after (suc m.sending) f) (after (suc b.asking) g) c.console b.number m.number small.0 says brings small.2.0) (omega arith) (omega arith) (inr (refl, tt)) refl
        (is_answered_late F (sends ms) one f (record { steps = m.sending; argument = m.number; answer = 0 }) (sends rest) so.sender)
        (is_answered G (receives ms) two g (asking_leg b) (printing_leg b ∷ receives (m ∷ rest)) s n.0.now so.receiver) so.all so.sent_are so.log_is
        (busy (IsFull (Some m)) 0) (busy (IsEmpty (Some b) × IsEmpty (Some m)) 0) (omega (arith, turns)) (omega (arith, long)))

    waits_for_mail : (m : Message) (rest : List Message) (f g : Flat) (t s : ℕ) → So k past c (stand printed None None (m ∷ rest) f g (Runs t) (Runs s)) → c.current ≡ 2 → KeepsAll y 200 J k (cause_number cause) edata past at
    waits_for_mail m rest f g t s so here =
        let n = second_traps k past touch printed None c at cause edata came None (m ∷ rest) f g (Runs t) s so here in
        let turns = so.turns_are in
        let long = so.length_is in
        let says = so.receiver.calls.0.argument_is in
        arrive k cause edata 12 past at n.0.cause_is n.0.edata_is
        (moves k 6 12 past at touch 0 0 0 (after t f) (after (suc m.asking) g) c.console 2 1
        (stand printed None None (m ∷ rest) f g (Runs t) Waits) c.console n.1
        (code.nothing_there p has_room (after t f) (after (suc m.asking) g) c.console says) (omega arith) (omega arith) (inl (refl, tt)) refl
        so.sender (is_waiting G (receives ms) two g (asking_leg m) (printing_leg m ∷ receives rest) s n.0.now so.receiver) so.all so.sent_are so.log_is
        (busy (IsFull None) t) (λ e. (tt, tt)) (omega (arith, turns)) (omega (arith, long)))

    second_ends : (f g : Flat) (t s : ℕ) → So k past c (stand printed None None [] f g (Runs t) (Runs s)) → c.current ≡ 2 → KeepsAll y 200 J k (cause_number cause) edata past at
    second_ends f g t s so here =
        let n = second_traps k past touch printed None c at cause edata came None [] f g (Runs t) s so here in
        let turns = so.turns_are in
        let long = so.length_is in
        arrive k cause edata 76 past at n.0.cause_is n.0.edata_is
        (moves k 6 76 past at touch 0 0 0 (after t f) (after (suc two) g) c.console 2 1
        (stand printed None None [] f g (Runs t) Ended) c.console n.1
        (code.second_ends p has_room (after t f) (after (suc two) g) c.console 0) (omega arith) (omega arith) (inl (refl, tt)) refl
        so.sender (is_over G (receives ms) two g s n.0.now so.receiver) so.all so.sent_are so.log_is (busy (IsFull None) t) (gone (IsEmpty None × IsEmpty None)) (omega (arith, turns)) (omega (arith, long)))

    second_ends_all : (f g : Flat) (s : ℕ) → So k past c (stand printed None None [] f g Ended (Runs s)) → c.current ≡ 2 → KeepsAll y 200 J k (cause_number cause) edata past at
    second_ends_all f g s so here =
        let n = second_traps k past touch printed None c at cause edata came None [] f g Ended s so here in
        let turns = so.turns_are in
        let long = so.length_is in
        let h = machine_at f [] one Ended in
        arrive k cause edata 76 past at n.0.cause_is n.0.edata_is
        (halts k 6 76 past at touch 0 0 1 (after (suc one) f) (after (suc two) g) c.console 2 (stand printed None None [] f g Ended Ended) n.1
        (code.second_ends_all p has_room (after (suc one) f) (after (suc two) g) c.console 0) refl
        so.sender (is_over G (receives ms) two g s n.0.now so.receiver) so.all so.sent_are so.log_is (gone (IsFull None)) (gone (IsEmpty None × IsEmpty None)) (omega (arith, turns)) (omega (arith, long)))

  -- those of a receiver with a message in its hand: it is printed
  module _ (k : ℕ) (past : List Dispatch) (touch : UsePages y 200 0 past) (printed : List Message) (m : Message) (c at : Core) (cause : Cause) (edata : ℕ) (came : IsTrapOf c cause edata at) where
    has_log_room : (xs : List Message) (log : List ℕ) → ms ≡ printed ++ m ∷ xs → log ≡ message_numbers printed → log_has_room log ≡ true
    has_log_room xs log all is =
        let few = r.few in
        let less = fewer printed m xs in
        let long : length ms ≡ length (printed ++ m ∷ xs) = ap length all in
        let same : length log ≡ length printed = ap length is ∙ numbers_length printed in
        lt-ltb (length log) LOG_ROOM (omega (arith, few, less, long, same))

    logged : (log : List ℕ) → log ≡ message_numbers printed → m.number < 2 ^ 31 → log ++ cast_unsigned w32 (pos m.number) ∷ [] ≡ message_numbers (printed ++ m ∷ [])
    logged log is small = ap (λ (ns : List ℕ). ns ++ cast_unsigned w32 (pos m.number) ∷ []) is ∙ ap (λ (n : ℕ). message_numbers printed ++ n ∷ []) (word_is m.number small) ∙ sym (numbers_push printed m)

    prints_it : (box : Option Message) (rest : List Message) (f g : Flat) (t s : ℕ) → So k past c (stand printed (Some m) box rest f g (Runs t) (Runs s)) → c.current ≡ 2 → KeepsAll y 200 J k (cause_number cause) edata past at
    prints_it box rest f g t s so here =
        let n = second_traps k past touch printed (Some m) c at cause edata came box rest f g (Runs t) s so here in
        let turns = so.turns_are in
        let long = so.length_is in
        let says = so.receiver.calls.0.argument_is in
        let small = small_left k past touch printed (Some m) box rest so.all in
        arrive k cause edata 12 past at n.0.cause_is n.0.edata_is
        (moves k 6 12 past at touch (message_number box) 0 0 (after t f) (after (suc m.printing) g) c.console 2 2
        (stand (printed ++ m ∷ []) None box rest f (told (after (suc m.printing) g) 0) (Runs t) (Runs 0)) (code.with_word p has_room (after t f) (after (suc m.printing) g) c.console m.number) n.1
        (code.print p has_room (after t f) (after (suc m.printing) g) c.console (message_number box) m.number small.0 says (has_log_room (held box rest) c.console.log so.all so.log_is)) (omega arith) (omega arith) (inr (refl, tt)) refl
        so.sender (is_answered G (receives ms) two g (printing_leg m) (receives (held box rest)) s n.0.now so.receiver) (so.all ∙ sym (append_assoc printed (m ∷ []) (held box rest))) so.sent_are
        (logged c.console.log so.log_is small.1) (busy (IsFull box) t) (busy (IsEmpty None × IsEmpty box) 0) (omega (arith, turns)) (omega (arith, long)))

    prints_late : (box : Option Message) (rest : List Message) (f g : Flat) (s : ℕ) → So k past c (stand printed (Some m) box rest f g Ended (Runs s)) → c.current ≡ 2 → KeepsAll y 200 J k (cause_number cause) edata past at
    prints_late box rest f g s so here =
        let n = second_traps k past touch printed (Some m) c at cause edata came box rest f g Ended s so here in
        let turns = so.turns_are in
        let long = so.length_is in
        let says = so.receiver.calls.0.argument_is in
        let small = small_left k past touch printed (Some m) box rest so.all in
        let h = machine_at f (sends rest) one Ended in
        arrive k cause edata 12 past at n.0.cause_is n.0.edata_is
        (moves k 6 12 past at touch (message_number box) 0 1 h (after (suc m.printing) g) c.console 2 2
        (stand (printed ++ m ∷ []) None box rest f (told (after (suc m.printing) g) 0) Ended (Runs 0)) (code.with_word p has_room h (after (suc m.printing) g) c.console m.number) n.1
        (code.print_late p has_room h (after (suc m.printing) g) c.console (message_number box) m.number small.0 says (has_log_room (held box rest) c.console.log so.all so.log_is)) (omega arith) (omega arith) (inr (refl, tt)) refl
        so.sender (is_answered G (receives ms) two g (printing_leg m) (receives (held box rest)) s n.0.now so.receiver) (so.all ∙ sym (append_assoc printed (m ∷ []) (held box rest))) so.sent_are
        (logged c.console.log so.log_is small.1) (gone (IsFull box)) (busy (IsEmpty None × IsEmpty box) 0) (omega (arith, turns)) (omega (arith, long)))

    prints_while_full : (b : Message) (rest : List Message) (f g : Flat) (s : ℕ) → So k past c (stand printed (Some m) (Some b) rest f g Waits (Runs s)) → c.current ≡ 2 → KeepsAll y 200 J k (cause_number cause) edata past at
    prints_while_full b rest f g s so here =
        let n = second_traps k past touch printed (Some m) c at cause edata came (Some b) rest f g Waits s so here in
        let turns = so.turns_are in
        let long = so.length_is in
        let says = so.receiver.calls.0.argument_is in
        let small = small_left k past touch printed (Some m) (Some b) rest so.all in
        let h = machine_at f (sends rest) one Waits in
        arrive k cause edata 12 past at n.0.cause_is n.0.edata_is
        (moves k 6 12 past at touch b.number 1 0 h (after (suc m.printing) g) c.console 2 2
        (stand (printed ++ m ∷ []) None (Some b) rest f (told (after (suc m.printing) g) 0) Waits (Runs 0)) (code.with_word p has_room h (after (suc m.printing) g) c.console m.number) n.1
        (code.print_while_full p has_room h (after (suc m.printing) g) c.console b.number m.number small.2.0 says small.0 (has_log_room (b ∷ rest) c.console.log so.all so.log_is)) (omega arith) (omega arith) (inr (refl, tt)) refl
        so.sender (is_answered G (receives ms) two g (printing_leg m) (receives (b ∷ rest)) s n.0.now so.receiver) (so.all ∙ sym (append_assoc printed (m ∷ []) (b ∷ rest))) so.sent_are
        (logged c.console.log so.log_is small.1) (λ e. tt) (busy (IsEmpty None × IsEmpty (Some b)) 0) (omega (arith, turns)) (omega (arith, long)))

  -- WHICH IT IS, of all
  module _ (k : ℕ) (past : List Dispatch) (touch : UsePages y 200 0 past) (printed : List Message) (c at : Core) (cause : Cause) (edata : ℕ) (came : IsTrapOf c cause edata at) where
    abbrev Kept : Type 0
    Kept = KeepsAll y 200 J k (cause_number cause) edata past at

    by_first : (hand box : Option Message) (rest : List Message) (f g : Flat) (t : ℕ) (q : UserProgress) → So k past c (stand printed hand box rest f g (Runs t) q) → c.current ≡ 1 → Kept
    by_first hand box [] f g t (Runs s) so here = first_ends k past touch printed hand c at cause edata came box f g t s so here
    by_first hand box [] f g t Ended so here = first_ends_all k past touch printed hand c at cause edata came box f g t so here
    by_first None None [] f g t Waits so here = absurd so.receiver.is_at
    by_first None (Some b) [] f g t Waits so here = absurd (so.for_mail refl).1
    by_first (Some h) box [] f g t Waits so here = absurd (so.for_mail refl).0
    by_first hand None (m ∷ rest) f g t (Runs s) so here = puts k past touch printed hand c at cause edata came m rest f g t s so here
    by_first hand (Some b) (m ∷ rest) f g t (Runs s) so here = waits_for_room k past touch printed hand c at cause edata came b m rest f g t s so here
    by_first None None (m ∷ rest) f g t Waits so here = delivers k past touch printed c at cause edata came m rest f g t so here
    by_first None (Some b) (m ∷ rest) f g t Waits so here = absurd (so.for_mail refl).1
    by_first (Some h) box (m ∷ rest) f g t Waits so here = absurd (so.for_mail refl).0
    by_first None None (m ∷ rest) f g t Ended so here = absurd so.receiver.is_at
    by_first None (Some b) (m ∷ rest) f g t Ended so here = absurd so.receiver.is_at
    by_first (Some h) box (m ∷ rest) f g t Ended so here = absurd so.receiver.is_at

    by_second : (hand box : Option Message) (rest : List Message) (f g : Flat) (q : UserProgress) (s : ℕ) → So k past c (stand printed hand box rest f g q (Runs s)) → c.current ≡ 2 → Kept
    by_second (Some m) box rest f g (Runs t) s so here = prints_it k past touch printed m c at cause edata came box rest f g t s so here
    by_second (Some m) box rest f g Ended s so here = prints_late k past touch printed m c at cause edata came box rest f g s so here
    by_second (Some m) (Some b) rest f g Waits s so here = prints_while_full k past touch printed m c at cause edata came b rest f g s so here
    by_second (Some m) None rest f g Waits s so here = absurd (so.for_room refl)
    by_second None (Some b) rest f g (Runs t) s so here = takes k past touch printed c at cause edata came b rest f g t s so here
    by_second None (Some b) rest f g Ended s so here = takes_last k past touch printed c at cause edata came b rest f g s so here
    by_second None (Some b) (m ∷ rest) f g Waits s so here = takes_and_puts k past touch printed c at cause edata came b m rest f g s so here
    by_second None (Some b) [] f g Waits s so here = absurd so.sender.is_at
    by_second None None [] f g (Runs t) s so here = second_ends k past touch printed c at cause edata came f g t s so here
    by_second None None [] f g Ended s so here = second_ends_all k past touch printed c at cause edata came f g s so here
    by_second None None rest f g Waits s so here = absurd (so.for_room refl)
    by_second None None (m ∷ rest) f g (Runs t) s so here = waits_for_mail k past touch printed c at cause edata came m rest f g t s so here
    by_second None None (m ∷ rest) f g Ended s so here = absurd so.sender.is_at

  -- A STEP of user 1, and of user 2
  module _ (k : ℕ) (past : List Dispatch) (printed : List Message) (hand box : Option Message) (rest : List Message) (f g : Flat) (c : Core) (h : Flat) (e : vstep (user_of c.users c.current) ≡ Goes h) where
    first_steps : (t : ℕ) (q : UserProgress) → So k past c (stand printed hand box rest f g (Runs t) q) → c.current ≡ 1 → I (suc k) past (with_machine c h)
    first_steps t q so here =
        let us = after t f ∷ machine_at g (calls_left hand (held box rest)) two q ∷ [] in
        let z : vstep (after t f) ≡ Goes h = its_step c (after t f ∷ machine_at g (calls_left hand (held box rest)) two q ∷ []) 1 (Goes h) so.users_are here e in
        let s : TrapsSo f (sends rest) one = its_trap f (sends rest) one so.sender.calls in
        let turns = so.turns_are in
        record {
          printed = printed;
          hand = hand;
          box = box;
          rest = rest;
          sender_from = f;
          receiver_from = g;
          sender_progress = Runs (suc t);
          receiver_progress = q;
          so = record {
            sender = goes_on F (sends ms) one f (sends rest) t (goes_before f (before_trap (sends rest) one) Syscall s.traps t so.sender.is_at h z) so.sender;
            receiver = so.receiver;
            all = so.all;
            sent_are = so.sent_are;
            log_is = so.log_is;
            for_room = busy (IsFull box) (suc t);
            for_mail = so.for_mail;
            users_are = put_in c (after t f ∷ machine_at g (calls_left hand (held box rest)) two q ∷ []) 1 h (after (suc t) f) so.users_are here
                (goes_next f (before_trap (sends rest) one) Syscall s.traps t so.sender.is_at h z);
            data_is = so.data_is;
            turn_is = λ on. inl (here, tt);
            status_is = so.status_is;
            turns_are = omega (arith, turns);
            length_is = so.length_is;
          };
        }

    second_steps : (q : UserProgress) (t : ℕ) → So k past c (stand printed hand box rest f g q (Runs t)) → c.current ≡ 2 → I (suc k) past (with_machine c h)
    second_steps q t so here =
        let legs = calls_left hand (held box rest) in
        let z : vstep (after t g) ≡ Goes h = its_step c (machine_at f (sends rest) one q ∷ after t g ∷ []) 2 (Goes h) so.users_are here e in
        let s : TrapsSo g (calls_left hand (held box rest)) two = its_trap g (calls_left hand (held box rest)) two so.receiver.calls in
        let turns = so.turns_are in
        record {
          printed = printed;
          hand = hand;
          box = box;
          rest = rest;
          sender_from = f;
          receiver_from = g;
          sender_progress = q;
          receiver_progress = Runs (suc t);
          so = record {
            sender = so.sender;
            receiver = goes_on G (receives ms) two g (calls_left hand (held box rest)) t (goes_before g (before_trap (calls_left hand (held box rest)) two) Syscall s.traps t so.receiver.is_at h z) so.receiver;
            all = so.all;
            sent_are = so.sent_are;
            log_is = so.log_is;
            for_room = so.for_room;
            for_mail = busy (IsEmpty hand × IsEmpty box) (suc t);
            users_are = put_in c (machine_at f (sends rest) one q ∷ after t g ∷ []) 2 h (after (suc t) g) so.users_are here
                (goes_next g (before_trap (calls_left hand (held box rest)) two) Syscall s.traps t so.receiver.is_at h z);
            data_is = so.data_is;
            turn_is = λ on. inr (here, tt);
            status_is = so.status_is;
            turns_are = omega (arith, turns);
            length_is = so.length_is;
          };
        }

  -- BY WHO IS CURRENT, of a state that is running
  module _ (k : ℕ) (past : List Dispatch) (c : Core) (printed : List Message) (hand box : Option Message) (rest : List Message) (f g : Flat) (P : Type 0) where
    first_runs : (p q : UserProgress) → So k past c (stand printed hand box rest f g p q) → c.current ≡ 1 → IsStillStepping p → ((t : ℕ) → So k past c (stand printed hand box rest f g (Runs t) q) → P) → P
    first_runs (Runs t) q so here on to = to t so
    first_runs Waits q so here on to = absurd on
    first_runs Ended q so here on to = absurd on

    second_runs : (p q : UserProgress) → So k past c (stand printed hand box rest f g p q) → c.current ≡ 2 → IsStillStepping q → ((t : ℕ) → So k past c (stand printed hand box rest f g p (Runs t)) → P) → P
    second_runs p (Runs t) so here on to = to t so
    second_runs p Waits so here on to = absurd on
    second_runs p Ended so here on to = absurd on

  by_who : (k : ℕ) (past : List Dispatch) (c : Core) (P : Type 0) → status_after past ≡ Running → (h : I k past c)
      → ((t : ℕ) → So k past c (stand h.printed h.hand h.box h.rest h.sender_from h.receiver_from (Runs t) h.receiver_progress) → c.current ≡ 1 → P)
      → ((t : ℕ) → So k past c (stand h.printed h.hand h.box h.rest h.sender_from h.receiver_from h.sender_progress (Runs t)) → c.current ≡ 2 → P) → P
  by_who k past c P on h to_first to_second = ⊎_elim
      (λ (w : (c.current ≡ 1) × IsStillStepping h.sender_progress). first_runs k past c h.printed h.hand h.box h.rest h.sender_from h.receiver_from P h.sender_progress h.receiver_progress h.so w.0 w.1 (λ t so. to_first t so w.0))
      (λ (w : (c.current ≡ 2) × IsStillStepping h.receiver_progress). second_runs k past c h.printed h.hand h.box h.rest h.sender_from h.receiver_from P h.sender_progress h.receiver_progress h.so w.0 w.1 (λ t so. to_second t so w.0))
      (h.so.turn_is on)

  lined : (k mask : ℕ) (past : List Dispatch) (c : Core) → status_after past ≡ Running → UsePages y 200 0 past → I k past c → KeepsAll y 200 J k 1 mask past c
  lined k mask past c on touch h = by_who k past c (KeepsAll y 200 J k 1 mask past c) on h
      (λ t so here. lined_first k past touch h.printed h.hand h.box h.rest h.sender_from h.receiver_from mask c t h.receiver_progress so here)
      (λ t so here. lined_second k past touch h.printed h.hand h.box h.rest h.sender_from h.receiver_from mask c h.sender_progress t so here)

  trapped : (k : ℕ) (cause : Cause) (edata : ℕ) (past : List Dispatch) (c at : Core) → IsTrapOf c cause edata at → status_after past ≡ Running → UsePages y 200 0 past → I k past c
      → KeepsAll y 200 J k (cause_number cause) edata past at
  trapped k cause edata past c at came on touch h = by_who k past c (KeepsAll y 200 J k (cause_number cause) edata past at) on h
      (λ t so here. by_first k past touch h.printed c at cause edata came h.hand h.box h.rest h.sender_from h.receiver_from t h.receiver_progress so here)
      (λ t so here. by_second k past touch h.printed c at cause edata came h.hand h.box h.rest h.sender_from h.receiver_from h.sender_progress t so here)

  stepped : (k : ℕ) (past : List Dispatch) (c : Core) (f : Flat) → vstep (user_of c.users c.current) ≡ Goes f → status_after past ≡ Running → I k past c → I (suc k) past (with_machine c f)
  stepped k past c f e on h = by_who k past c (I (suc k) past (with_machine c f)) on h
      (λ t so here. first_steps k past h.printed h.hand h.box h.rest h.sender_from h.receiver_from c f e t h.receiver_progress so here)
      (λ t so here. second_steps k past h.printed h.hand h.box h.rest h.sender_from h.receiver_from c f e h.sender_progress t so here)

  invariant : IsSystemInvariant y 200 (HasUsers y) J
  invariant = record {
    start = λ fit. started;
    line = λ k mask past c some few fit is on h. lined (suc k) mask past c on h.1 h.0;
    trap = λ k cause edata past before at came fit is fits one on h. trapped (suc k) cause edata past before at came on h.1 h.0;
    step = λ k past c f e fit is fits on h. (stepped (suc k) past c f e on h.0, h.1);
  }

pub mail_is_kept : MailIsKept
mail_is_kept y ms one two r = invariant y ms one two r

pub mail_is_printed : RunsAreLawful → MailIsKept → MailIsPrinted
mail_is_printed laws kept y ms one two r lines eight k =
    systems_hold laws y kernel_tree 200 (HasUsers y) (Mailing y ms one two (first_flat r.sender) (first_flat r.receiver)) r.meaning_is (laws.counted y kernel_tree r.meaning_is) (kept y ms one two r) lines eight k
