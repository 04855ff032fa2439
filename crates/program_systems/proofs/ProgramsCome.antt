-- A program's steps are counted down from those that its units allow: while it makes one it is below them, so it comes to a trap.
use Rattle.std.specs.Prelude.{ℤ, map, slice_get, slice_index}
use Rattle.std.proofs.Common.{◌≡◌, ◌⊎◌, ℕ, zero, suc, ◌+◌, ◌≤◌, ◌<◌, List, [], ◌∷◌, ◌++◌, length, Some, refl, sym, ap, ◌∙◌, subst, arith, inl, inr}
use Rattle.mips_table.specs.Arith.{signed}
use Rattle.mips_table.specs.declared.cause.Cause.{Cause}
use Rattle.mips_table.specs.declared.cause.Cause.TheVariants.{Reset, External, FetchAlign, FetchFault, Illegal, Overflow, Syscall, DataAlign, DataFault}
use Rattle.mips_table.specs.Flat.{Flat, VStep, Goes, Trap, vstep}
use Rattle.mips_table.specs.Machine.{cause_number}
use Rattle.c0_tree.specs.Tree.{CUnit}
use Rattle.c0_meaning.specs.UserProgram.{prog}
use Rattle.c0_meaning.specs.RunLaws.{HasEnded}
use Rattle.cvm_model.specs.Cvm.{first_flat}
use Rattle.cvm_model.specs.Invariant.{machine_after}
use Rattle.user_c0.specs.Image.{image_words}
use Rattle.user_c0.specs.Events.{CALL_CAUSE, Event, step, call, other, replies, call_count, others, untrapped, answer_of, answers}
use Rattle.user_c0.specs.Program.{EndsBy, steps_of}
use Rattle.user_c0.specs.Users.{UserHasCome, UsersGoOn, IsProgram, IsTrapCall, ProgramsTrap, TrapsAreKnown, IsDue, ProgramsStay}
use Rattle.kernel_theorems.specs.UserRuns.{after, IsGoes, TrapsAfter}
use Rattle.program_systems.specs.Coming.{ComesToTrap, ProgramsCome, CallsNext, CallsCome, EndsNext, EndsCome, ComesToCall, FirstCallsCome}

-- a step more
replies_step : (es : List Event) → replies (es ++ step ∷ []) ≡ replies es
replies_step [] = refl
replies_step (step ∷ es) = replies_step es
replies_step (call r ∷ es) = ap (λ rs. r ∷ rs) (replies_step es)
replies_step (other c d ∷ es) = replies_step es

others_step : (es : List Event) → others es ≡ [] → others (es ++ step ∷ []) ≡ []
others_step [] e = refl
others_step (step ∷ es) e = others_step es e
others_step (call r ∷ es) e = others_step es e
others_step (other c d ∷ es) e = absurd (cc)

untrapped_step : (es : List Event) → untrapped (es ++ step ∷ []) ≡ suc (untrapped es)
untrapped_step [] = refl
untrapped_step (step ∷ es) = ap suc (untrapped_step es)
untrapped_step (call r ∷ es) = untrapped_step es
untrapped_step (other c d ∷ es) = untrapped_step es

-- the steps behind the first one
pub front : (t : ℕ) (f g : Flat) → vstep f ≡ Goes g → after (suc t) f ≡ after t g
front zero f g e = ap machine_after e
front (suc t) f g e = ap (λ h. machine_after (vstep h)) (front t f g e)

due_at : (u : CUnit) (n : ℕ) (es : List Event) → IsDue u es n → IsDue u (es ++ step ∷ []) n
due_at u n es due =
    subst (λ rs. (length rs < length (prog u (map answer_of rs) n).arguments) ⊎ HasEnded (prog u (map answer_of rs) n).ending) (sym (replies_step es)) due

-- a machine that traps at once, and one that traps behind a step
pub at_once : (f g : Flat) (cause : Cause) (edata : ℕ) → vstep f ≡ Trap g cause edata → TrapsAfter f 0 cause
at_once f g cause edata e =
    record { goes = λ t lt. absurd (omega (arith, lt)); edata = edata; traps = e ∙ ap (λ h. Trap h cause edata) (sym (ap machine_after e)) }

pub one_more : (f g : Flat) (m : ℕ) (cause : Cause) → vstep f ≡ Goes g → TrapsAfter g m cause → TrapsAfter f (suc m) cause
one_more f g m cause e r =
    record { goes = goes; edata = r.edata; traps = ap vstep (front m f g e) ∙ r.traps ∙ ap (λ h. Trap h cause r.edata) (sym (front (suc m) f g e)) }
  where
    goes : (t : ℕ) → t < suc m → IsGoes (vstep (after t f))
    goes zero lt = subst IsGoes (sym e) tt
    goes (suc t) lt = subst (λ h. IsGoes (vstep h)) (sym (front t f g e)) (r.goes t (omega (arith, lt)))

module _ (go : UsersGoOn) (stay : ProgramsStay) (u : CUnit) (n : ℕ) (p : IsProgram u) where
  -- by its next step
  by_step : (es : List Event) (f : Flat) → UserHasCome u es f → others es ≡ [] → IsDue u es n
      → ((g : Flat) → vstep f ≡ Goes g → ComesToTrap u (es ++ step ∷ []) g n) → (v : VStep) → vstep f ≡ v → ComesToTrap u es f n
  by_step es f c none due rest (Trap g cause edata) e =
      record { steps = 0; few = omega arith; cause = cause; traps = at_once f g cause edata e; events = es; come = c; replies_are = refl; others_are = none; count = omega arith }
  by_step es f c none due rest (Goes g) e =
      let r = rest g e in
      let under = stay.stay u es f g n p c e none due in
      let more = untrapped_step es in
      let few = r.few in
      let count = r.count in
      record {
        steps = suc r.steps;
        few = omega (arith, under, more, few);
        cause = r.cause;
        traps = one_more f g r.steps r.cause e r.traps;
        events = r.events;
        come = subst (λ h. UserHasCome u r.events h) (sym (front r.steps f g e)) r.come;
        replies_are = r.replies_are ∙ replies_step es;
        others_are = r.others_are;
        count = omega (arith, more, count);
      }

  come : (d : ℕ) (es : List Event) (f : Flat) → UserHasCome u es f → others es ≡ [] → IsDue u es n → steps_of n ≤ untrapped es + d → ComesToTrap u es f n
  come zero es f c none due enough =
      by_step es f c none due (λ g e. absurd (let under = stay.stay u es f g n p c e none due in omega (arith, under, enough))) (vstep f) refl
  come (suc d) es f c none due enough = by_step es f c none due
      (λ g e. come d (es ++ step ∷ []) g (go.steps u es f g c e) (others_step es none) (due_at u n es due) (let more = untrapped_step es in omega (arith, more, enough)))
      (vstep f) refl

pub programs_come : UsersGoOn → ProgramsStay → ProgramsCome
programs_come go stay u es f n p c none due = come go stay u n p (steps_of n) es f c none due (omega arith)

-- THE FIRST CALL
is_syscall : (cause : Cause) → cause_number cause ≡ 6 → cause ≡ Syscall
is_syscall Reset e = absurd (omega (arith, e))
is_syscall External e = absurd (omega (arith, e))
is_syscall FetchAlign e = absurd (omega (arith, e))
is_syscall FetchFault e = absurd (omega (arith, e))
is_syscall Illegal e = absurd (omega (arith, e))
is_syscall Overflow e = absurd (omega (arith, e))
is_syscall Syscall e = refl
is_syscall DataAlign e = absurd (omega (arith, e))
is_syscall DataFault e = absurd (omega (arith, e))

some_there : (xs : List ℤ) (i : ℕ) (a : ℤ) → slice_get xs i ≡ Some a → i < length xs
some_there [] i a e = absurd (cc)
some_there (x ∷ xs) zero a e = omega arith
some_there (x ∷ xs) (suc i) a e = let lt = some_there xs i a e in omega (arith, lt)

abbrev called : (f : Flat) (m : ℕ) (cause : Cause) → cause ≡ Syscall → TrapsAfter f m cause → TrapsAfter f m Syscall
called f m cause same r = record { goes = r.goes; edata = r.edata; traps = r.traps ∙ ap (λ c. Trap (after (suc m) f) c r.edata) same }

-- THE NEXT TRAP, where it is known
module _ (go : UsersGoOn) (trap : ProgramsTrap) (known : TrapsAreKnown) (u : CUnit) (es : List Event) (f : Flat) (n : ℕ) (p : IsProgram u) (r : ComesToTrap u es f n) where
  its_trap : vstep (after r.steps f) ≡ Trap (after (suc r.steps) f) r.cause r.traps.edata
  its_trap = r.traps.traps

  calls_next : (a : ℤ) → IsTrapCall (after r.steps f) a (cause_number r.cause) r.traps.edata → CallsNext u es f n a
  calls_next a is =
      let t : TrapsAfter f r.steps Syscall = called f r.steps r.cause (is_syscall r.cause is.cause_is) r.traps in
      let e : vstep (after r.steps f) ≡ Trap (after (suc r.steps) f) Syscall CALL_CAUSE = (called f r.steps r.cause (is_syscall r.cause is.cause_is) r.traps).traps ∙ ap (λ d. Trap (after (suc r.steps) f) Syscall d) is.edata_is in
      record {
        steps = r.steps;
        few = r.few;
        traps = t;
        edata_is = is.edata_is;
        argument = ap (λ regs. signed (slice_index regs 4)) (trap.leaves (after r.steps f) (after (suc r.steps) f) r.cause r.traps.edata r.traps.traps) ∙ is.argument;
        events = r.events;
        replies_are = r.replies_are;
        others_are = r.others_are;
        count = r.count;
        unanswered = go.calls u r.events (after r.steps f) (after (suc r.steps) f) r.come e;
        answered = λ x small. go.answered u r.events (after r.steps f) (after (suc r.steps) f) x small r.come e;
      }

  is_call : (a : ℤ) → slice_get (prog u (answers es) n).arguments (call_count es) ≡ Some a → IsTrapCall (after r.steps f) a (cause_number r.cause) r.traps.edata
  is_call a has =
      known.next_call u r.events (after r.steps f) (after (suc r.steps) f) r.cause r.traps.edata p r.come r.traps.traps n a
      (subst (λ rs. slice_get (prog u (map answer_of rs) n).arguments (length rs) ≡ Some a) (sym r.replies_are) has)

  ends_next : (cause_number r.cause ≡ 6) × EndsBy (prog u (answers es) n).ending r.traps.edata → EndsNext u es f n
  ends_next is = record { steps = r.steps; few = r.few; traps = called f r.steps r.cause (is_syscall r.cause is.0) r.traps; ends = is.1 }

  is_end : HasEnded (prog u (answers es) n).ending → length (prog u (answers es) n).arguments ≡ call_count es → (cause_number r.cause ≡ 6) × EndsBy (prog u (answers es) n).ending r.traps.edata
  is_end over count =
      let z = known.next_end u r.events (after r.steps f) (after (suc r.steps) f) r.cause r.traps.edata p r.come r.traps.traps n
      (subst (λ rs. HasEnded (prog u (map answer_of rs) n).ending) (sym r.replies_are) over)
      (subst (λ rs. length (prog u (map answer_of rs) n).arguments ≡ length rs) (sym r.replies_are) count) in
      (z.0, subst (λ rs. EndsBy (prog u (map answer_of rs) n).ending r.traps.edata) r.replies_are z.1)

pub calls_come : UsersGoOn → ProgramsCome → ProgramsTrap → TrapsAreKnown → CallsCome
calls_come go comes trap known u es f n a p c none has =
    let r = comes u es f n p c none (inl (some_there (prog u (answers es) n).arguments (call_count es) a has)) in
    calls_next go trap known u es f n p r a (is_call go trap known u es f n p r a has)

pub ends_come : UsersGoOn → ProgramsCome → ProgramsTrap → TrapsAreKnown → EndsCome
ends_come go comes trap known u es f n p c none over count =
    let r = comes u es f n p c none (inr over) in
    ends_next go trap known u es f n p r (is_end go trap known u es f n p r over count)

-- THE FIRST CALL, over a machine that stands for the first one
first_from : (u : CUnit) (f : Flat) (n : ℕ) (a : ℤ) → CallsNext u [] f n a → ComesToCall f (steps_of n) a
first_from u f n a r = let few = r.few in record { steps = r.steps; few = omega (arith, few); traps = r.traps; edata_is = r.edata_is; argument = r.argument }

pub first_calls_come : UsersGoOn → CallsCome → FirstCallsCome
first_calls_come go comes u n a p has = first_from u (first_flat (image_words u)) n a (comes u [] (first_flat (image_words u)) n a p (go.starts u) refl has)
