-- A user that follows its calls: with a step more, a call that is answered at once or later, and its end.
use Rattle.std.proofs.Common.{◌≡◌, ℕ, suc, ◌≤◌, ◌<◌, List, [], ◌∷◌, sym, ◌∙◌, subst, arith}
use Rattle.mips_table.specs.declared.cause.Cause.{Cause}
use Rattle.mips_table.specs.declared.cause.Cause.TheVariants.{Syscall}
use Rattle.mips_table.specs.Flat.{Flat, Trap, vstep}
use Rattle.kernel_theorems.specs.UserRuns.{after, TrapsAfter}
use Rattle.kernel_theorems.proofs.UserRuns.{traps_last, is_cause, leaves_last}
use Rattle.mailing.specs.Users.{Leg, behind_leg, CallsInTurn, before_trap, Runs, Waits, Ended, FollowsLegs}

module _ (first : Flat) (all : List Leg) (last : ℕ) (f : Flat) where
  abbrev pub goes_on : (left : List Leg) (t : ℕ) → t < before_trap left last → FollowsLegs first all last f left (Runs t) → FollowsLegs first all last f left (Runs (suc t))
  goes_on left t lt h = record {
    calls = h.calls;
    ends = h.ends;
    is_at = omega (arith, lt);
    steps = suc h.steps;
    steps_are = let e = h.steps_are in omega (arith, e);
    traps = h.traps;
    traps_are = h.traps_are;
  }

  abbrev pub is_answered : (leg : Leg) (legs : List Leg) (t : ℕ) → t ≡ leg.steps → FollowsLegs first all last f (leg ∷ legs) (Runs t) → FollowsLegs first all last (behind_leg f leg) legs (Runs 0)
  is_answered leg legs t same h = record {
    calls = h.calls.1;
    ends = h.ends;
    is_at = omega arith;
    steps = suc h.steps;
    steps_are = let e = h.steps_are in omega (arith, e, same);
    traps = suc h.traps;
    traps_are = let e = h.traps_are in omega (arith, e);
  }

  abbrev pub is_waiting : (leg : Leg) (legs : List Leg) (t : ℕ) → t ≡ leg.steps → FollowsLegs first all last f (leg ∷ legs) (Runs t) → FollowsLegs first all last f (leg ∷ legs) Waits
  is_waiting leg legs t same h = record {
    calls = h.calls;
    ends = h.ends;
    is_at = tt;
    steps = suc h.steps;
    steps_are = let e = h.steps_are in omega (arith, e, same);
    traps = suc h.traps;
    traps_are = let e = h.traps_are in omega (arith, e);
  }

  abbrev pub is_answered_late : (leg : Leg) (legs : List Leg) → FollowsLegs first all last f (leg ∷ legs) Waits → FollowsLegs first all last (behind_leg f leg) legs (Runs 0)
  is_answered_late leg legs h = record {
    calls = h.calls.1;
    ends = h.ends;
    is_at = omega arith;
    steps = h.steps;
    steps_are = let e = h.steps_are in omega (arith, e);
    traps = h.traps;
    traps_are = let e = h.traps_are in omega (arith, e);
  }

  abbrev pub is_over : (t : ℕ) → t ≡ last → FollowsLegs first all last f [] (Runs t) → FollowsLegs first all last f [] Ended
  is_over t same h = record {
    calls = h.calls;
    ends = h.ends;
    is_at = tt;
    steps = suc h.steps;
    steps_are = let e = h.steps_are in omega (arith, e, same);
    traps = suc h.traps;
    traps_are = let e = h.traps_are in omega (arith, e);
  }

-- ITS NEXT TRAP
abbrev pub word_of : List Leg → ℕ
word_of [] = 76
word_of (leg ∷ legs) = 12

pub record TrapsSo (f : Flat) (legs : List Leg) (last : ℕ) : Type 0 where
  pub traps : TrapsAfter f (before_trap legs last) Syscall
  pub word_is : traps.edata ≡ word_of legs

pub its_trap : (f : Flat) (legs : List Leg) (last : ℕ) → CallsInTurn f legs last → TrapsSo f legs last
its_trap f [] last h = record { traps = h.traps; word_is = h.word_is }
its_trap f (leg ∷ legs) last h = record { traps = h.0.traps; word_is = h.0.word_is }

-- a trap of such a user
pub record IsThat (f : Flat) (legs : List Leg) (last i : ℕ) (g : Flat) (cause : Cause) (edata : ℕ) : Type 0 where
  pub now : i ≡ before_trap legs last
  pub cause_is : cause ≡ Syscall
  pub edata_is : edata ≡ word_of legs
  pub left : g ≡ after (suc (before_trap legs last)) f

same_data : (g h : Flat) (cause by : Cause) (edata word : ℕ) → Trap g cause edata ≡ Trap h by word → edata ≡ word
same_data g h cause by edata word e = cc

that_trap : (f : Flat) (m : ℕ) (t : TrapsAfter f m Syscall) (i : ℕ) → i ≡ m → vstep (after i f) ≡ Trap (after (suc m) f) Syscall t.edata
that_trap f m t i same = subst (λ j. vstep (after j f) ≡ Trap (after (suc m) f) Syscall t.edata) (sym same) t.traps

pub is_that : (f : Flat) (legs : List Leg) (last : ℕ) → CallsInTurn f legs last → (i : ℕ) → i ≤ before_trap legs last → (g : Flat) (cause : Cause) (edata : ℕ) → vstep (after i f) ≡ Trap g cause edata
    → IsThat f legs last i g cause edata
is_that f legs last calls i few g cause edata e =
    let s : TrapsSo f legs last = its_trap f legs last calls in
    let now : i ≡ before_trap legs last = traps_last f (before_trap legs last) Syscall s.traps i few g cause edata e in
    record {
      now = now;
      cause_is = is_cause f (before_trap legs last) Syscall s.traps i few g cause edata e;
      edata_is = same_data g (after (suc (before_trap legs last)) f) cause Syscall edata s.traps.edata (sym e ∙ that_trap f (before_trap legs last) s.traps i now) ∙ s.word_is;
      left = leaves_last f (before_trap legs last) Syscall s.traps i few g cause edata e;
    }
