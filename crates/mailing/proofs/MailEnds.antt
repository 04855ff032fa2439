-- What follows of a state of the system: what was sent is carried, how long it runs, and what it has come to where it has halted.
use Rattle.std.proofs.Common.{◌≡◌, ℕ, suc, ◌+◌, ◌≤◌, ◌<◌, List, [], ◌∷◌, ◌++◌, length, Option, Some, None, Bool, true, false, refl, sym, ap, ap₂, ◌∙◌, subst, ⊎_elim, append_assoc, arith}
use Rattle.std.specs.Prelude.{◌==◌, if◌then◌else◌, pos, map}
use Rattle.std.proofs.lemmas.List.{append_cancel_right}
use Rattle.mips_table.specs.Flat.{Flat}
use Rattle.cvm_model.specs.Kernel.{Core}
use Rattle.cvm_model.specs.Cvm.{Running, Halted}
use Rattle.cvm_model.specs.Invariant.{Dispatch, IsSafe}
use Rattle.cvm_model.specs.Systems.{status_after, lines_taken}
use Rattle.cvm_model.proofs.SystemsHold.{append_none}
use Rattle.mailing.specs.Users.{Leg, leg_steps, before_trap, UserProgress, Runs, Waits, Ended, IsProgressOf, steps_at, traps_at, IsStillStepping}
use Rattle.mailing.specs.Property.{Message, sends, message_numbers, message_ints, held, calls_left, over_of, status_of_users, stand, unsent, sent, StandsSo, IsMailing, IsCarried, IsFinished, turns_for, dispatches_for, MailEnds}

-- WHAT IS ON ITS WAY: a sender that waits has sent one more
abbrev asked : UserProgress → List Message → List Message
asked Waits [] = []
asked Waits (m ∷ ms) = m ∷ []
asked (Runs t) ms = []
asked Ended ms = []

split : (p : UserProgress) (rest : List Message) → rest ≡ asked p rest ++ unsent p rest
split Waits [] = refl
split Waits (m ∷ ms) = refl
split (Runs t) ms = refl
split Ended ms = refl

held_join : (o : Option Message) (xs ys : List Message) → held o (xs ++ ys) ≡ held o xs ++ ys
held_join None xs ys = refl
held_join (Some m) xs ys = refl

ints_join : (xs ys : List Message) → message_ints (xs ++ ys) ≡ message_ints xs ++ message_ints ys
ints_join [] ys = refl
ints_join (x ∷ xs) ys = ap (λ zs. pos x.number ∷ zs) (ints_join xs ys)

numbers_join : (xs ys : List Message) → message_numbers (xs ++ ys) ≡ message_numbers xs ++ message_numbers ys
numbers_join [] ys = refl
numbers_join (x ∷ xs) ys = ap (λ zs. x.number ∷ zs) (numbers_join xs ys)

ints_are : (xs : List Message) → message_ints xs ≡ map (λ (n : ℕ). pos n) (message_numbers xs)
ints_are [] = refl
ints_are (x ∷ xs) = ap (λ zs. pos x.number ∷ zs) (ints_are xs)

few_asked : (p : UserProgress) (rest : List Message) → length (message_numbers (asked p rest)) ≤ 1
few_asked Waits [] = omega arith
few_asked Waits (m ∷ ms) = omega arith
few_asked (Runs t) ms = omega arith
few_asked Ended ms = omega arith

few_held : (o : Option Message) (xs : List Message) (n : ℕ) → length (message_numbers xs) ≤ n → length (message_numbers (held o xs)) ≤ suc n
few_held None xs n h = omega (arith, h)
few_held (Some m) xs n h = omega (arith, h)

-- A SYSTEM THAT HAS HALTED
module _ (ms : List Message) (one two : ℕ) (f g : Flat) (k : ℕ) (past : List Dispatch) (at : Core) where
  abbrev So : (printed : List Message) → (hand box : Option Message) → (rest : List Message) → (a b : Flat) → (p q : UserProgress) → Type 0
  So printed hand box rest a b p q = StandsSo ms one two f g k past at (stand printed hand box rest a b p q)

  record IsOver (printed : List Message) (hand box : Option Message) (rest : List Message) (p : UserProgress) : Type 0 where
    none_left : message_numbers (held hand (held box (asked p rest))) ≡ []
    finished : IsFinished ms one two f g at

  not_halted : (A : Type 0) → Running ≡ Halted → A
  not_halted A e = absurd (cc)

  over : (printed : List Message) (hand box : Option Message) (rest : List Message) (a b : Flat) (p q : UserProgress) → So printed hand box rest a b p q → status_of_users p q ≡ Halted
      → IsOver printed hand box rest p
  over printed None None [] a b Ended Ended so e = record {
    none_left = refl;
    finished = record {
      log_is = so.log_is ∙ ap message_numbers (sym (append_none printed) ∙ sym so.all);
      data_is = so.data_is;
      users_are = so.users_are ∙ ap₂ (λ (a b : Flat). a ∷ b ∷ []) so.sender.ends so.receiver.ends;
    };
  }
  over printed None (Some m) [] a b Ended Ended so e = absurd so.receiver.is_at
  over printed (Some m) box [] a b Ended Ended so e = absurd so.receiver.is_at
  over printed hand box (m ∷ rest) a b Ended Ended so e = absurd so.sender.is_at
  over printed hand box rest a b (Runs t) (Runs s) so e = not_halted (IsOver printed hand box rest (Runs t)) e
  over printed hand box rest a b (Runs t) Waits so e = not_halted (IsOver printed hand box rest (Runs t)) e
  over printed hand box rest a b (Runs t) Ended so e = not_halted (IsOver printed hand box rest (Runs t)) e
  over printed hand box rest a b Waits (Runs s) so e = not_halted (IsOver printed hand box rest Waits) e
  over printed hand box rest a b Waits Waits so e = not_halted (IsOver printed hand box rest Waits) e
  over printed hand box rest a b Waits Ended so e = not_halted (IsOver printed hand box rest Waits) e
  over printed hand box rest a b Ended (Runs s) so e = not_halted (IsOver printed hand box rest Ended) e
  over printed hand box rest a b Ended Waits so e = not_halted (IsOver printed hand box rest Ended) e

  module _ (h : IsMailing ms one two f g k past at) where
    is_over : status_after past ≡ Halted → IsOver h.printed h.hand h.box h.rest h.sender_progress
    is_over e = over h.printed h.hand h.box h.rest h.sender_from h.receiver_from h.sender_progress h.receiver_progress h.so (sym h.so.status_is ∙ e)

    abbrev way : List Message
    way = held h.hand (held h.box (asked h.sender_progress h.rest))

    parts : ms ≡ (h.printed ++ way) ++ unsent h.sender_progress h.rest
    parts =
        let u = unsent h.sender_progress h.rest in
        h.so.all ∙ ap (λ (l : List Message). h.printed ++ held h.hand (held h.box l)) (split h.sender_progress h.rest)
        ∙ ap (λ (l : List Message). h.printed ++ held h.hand l) (held_join h.box (asked h.sender_progress h.rest) (unsent h.sender_progress h.rest))
        ∙ ap (λ (l : List Message). h.printed ++ l) (held_join h.hand (held h.box (asked h.sender_progress h.rest)) (unsent h.sender_progress h.rest))
        ∙ sym (append_assoc h.printed way (unsent h.sender_progress h.rest))

    is_sent : sent past ≡ message_ints (h.printed ++ way)
    is_sent = append_cancel_right (sent past) (message_ints (h.printed ++ way)) (message_ints (unsent h.sender_progress h.rest))
        (h.so.sent_are ∙ ap message_ints parts ∙ ints_join (h.printed ++ way) (unsent h.sender_progress h.rest))

    is_carried : IsCarried past at
    is_carried = record {
      on_way = message_numbers way;
      few = few_held h.hand (held h.box (asked h.sender_progress h.rest)) 2 (few_held h.box (asked h.sender_progress h.rest) 1 (few_asked h.sender_progress h.rest));
      sent_are = is_sent ∙ ints_are (h.printed ++ way) ∙ ap (map (λ (n : ℕ). pos n)) (numbers_join h.printed way ∙ ap (λ (l : List ℕ). l ++ message_numbers way) (sym h.so.log_is));
      at_the_end = λ e. (is_over e).none_left;
    }

-- HOW LONG
less : (left : List Leg) (last t : ℕ) → t ≤ before_trap left last → t < leg_steps left last
less [] last t h = omega (arith, h)
less (leg ∷ legs) last t h = omega (arith, h)

at_most : (left : List Leg) (last : ℕ) (p : UserProgress) → IsProgressOf left last p → steps_at left last p ≤ leg_steps left last
at_most left last (Runs t) h = let l = less left last t h in omega (arith, l)
at_most left last Waits h = let l = less left last (before_trap left last) (omega arith) in omega (arith, l)
at_most left last Ended h = let l = less left last (before_trap left last) (omega arith) in omega (arith, l)

running_less : (left : List Leg) (last : ℕ) (p : UserProgress) → IsProgressOf left last p → IsStillStepping p → steps_at left last p < leg_steps left last
running_less left last (Runs t) h on = less left last t h
running_less left last Waits h on = absurd on
running_less left last Ended h on = absurd on

one_trap : (p : UserProgress) → traps_at p ≤ 1
one_trap (Runs t) = omega arith
one_trap Waits = omega arith
one_trap Ended = omega arith

safe_if : (b : Bool) → IsSafe (if b then Halted else Running)
safe_if true = tt
safe_if false = tt

module _ (ms : List Message) (one two : ℕ) (f g : Flat) (k : ℕ) (past : List Dispatch) (at : Core) (h : IsMailing ms one two f g k past at) where
  abbrev left : List Leg
  left = calls_left h.hand (held h.box h.rest)

  below : status_after past ≡ Running → k < turns_for ms one two + lines_taken past
  below on =
      let a = h.so.sender.steps_are in
      let b = h.so.receiver.steps_are in
      let turns = h.so.turns_are in
      let la = at_most (sends h.rest) one h.sender_progress h.so.sender.is_at in
      let lb = at_most left two h.receiver_progress h.so.receiver.is_at in
      ⊎_elim
      (λ (w : (at.current ≡ 1) × IsStillStepping h.sender_progress). let l = running_less (sends h.rest) one h.sender_progress h.so.sender.is_at w.1 in omega (arith, a, b, turns, la, lb, l))
      (λ (w : (at.current ≡ 2) × IsStillStepping h.receiver_progress). let l = running_less left two h.receiver_progress h.so.receiver.is_at w.1 in omega (arith, a, b, turns, la, lb, l))
      (h.so.turn_is on)

  few : length past ≤ dispatches_for ms + lines_taken past
  few =
      let a = h.so.sender.traps_are in
      let b = h.so.receiver.traps_are in
      let long = h.so.length_is in
      let la = one_trap h.sender_progress in
      let lb = one_trap h.receiver_progress in
      omega (arith, a, b, long, la, lb)

  safe : IsSafe (status_after past)
  safe = subst IsSafe (sym h.so.status_is) (safe_if (over_of h.sender_progress h.receiver_progress == 3))

pub mail_ends : MailEnds
mail_ends = record {
  carried = λ ms one two f g k past at h. is_carried ms one two f g k past at h;
  below = λ ms one two f g k past at h on. below ms one two f g k past at h on;
  few = λ ms one two f g k past at h. few ms one two f g k past at h;
  safe = λ ms one two f g k past at h. safe ms one two f g k past at h;
  finished = λ ms one two f g k past at h e. (is_over ms one two f g k past at h e).finished;
}
