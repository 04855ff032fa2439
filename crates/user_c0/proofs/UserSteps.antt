-- A user goes on with each of its steps: its journal has an event more.
use Rattle.std.specs.Prelude.{◌==◌, ◌&&◌, if◌then◌else◌, option_and_then, ℤ, pos, negsuc, FitsSigned}
use Rattle.std.specs.Int.{w32, cast_unsigned}
use Rattle.std.proofs.Common.{◌≡◌, ℕ, ◌^◌, ◌<◌, true, Some, None, List, [], ◌∷◌, ◌++◌, refl, ap, ◌∙◌, arith, append-nil}
use Rattle.std.proofs.lemmas.Bool.{eq-eqb}
use Rattle.std.proofs.lemmas.Int.{to_z-of_z}
use Rattle.mips_table.specs.declared.cause.Cause.{Cause}
use Rattle.mips_table.specs.Flat.{Flat, Trap}
use Rattle.mips_table.specs.Machine.{cause_number}
use Rattle.c0_tree.specs.Tree.{CUnit}
use Rattle.cvm_model.specs.Kernel.{Set}
use Rattle.cvm_model.specs.Primitives.{with_register}
use Rattle.cvm_model.specs.Cvm.{first_flat}
use Rattle.cvm_model.specs.Journal.{replay_step, replay_trap, replay, ReplayJoins}
use Rattle.user_c0.specs.Image.{image_words}
use Rattle.user_c0.specs.Events.{SYSCALL, CALL_CAUSE, Event, step, call, other, entries_of, journal_of, IsProperEvent, AreProper}
use Rattle.user_c0.specs.Users.{UserHasCome, UsersGoOn, IntsAreTold}
use Rattle.user_c0.proofs.ProgramPromises.{journal_join}

proper_join : (es : List Event) (e : Event) → AreProper es → IsProperEvent e → AreProper (es ++ e ∷ [])
proper_join [] e h is = (is, tt)
proper_join (x ∷ es) e h is = (h.0, proper_join es e h.1 is)

same_number : (n : ℕ) → (n == n) ≡ true
same_number n = eq-eqb n n refl

-- a trap is replayed by a trap of its cause and data
trap_replays : (g : Flat) (cause : Cause) (edata : ℕ) → replay_trap (Trap g cause edata) (cause_number cause) edata ≡ Some g
trap_replays g cause edata =
    ap (λ b. if b && edata == edata then Some g else None) (same_number (cause_number cause)) ∙ ap (λ b. if true && b then Some g else None) (same_number edata)

module _ (joins : ReplayJoins) where
  -- one event more
  more : (u : CUnit) (es : List Event) (e : Event) (f g : Flat) → UserHasCome u es f → IsProperEvent e → replay f (entries_of e) ≡ Some g → UserHasCome u (es ++ e ∷ []) g
  more u es e f g h is one = record {
    proper = proper_join es e h.proper is;
    replayed =
        ap (replay (first_flat (image_words u))) (journal_join es (e ∷ []) ∙ ap (λ j. journal_of es ++ j) (append-nil (entries_of e)))
        ∙ joins (first_flat (image_words u)) (journal_of es) (entries_of e) ∙ ap (option_and_then (λ m. replay m (entries_of e))) h.replayed ∙ one;
  }

  pub go_on : UsersGoOn
  go_on = record {
    starts = λ u. record { proper = tt; replayed = refl };
    steps = λ u es f g h e. more u es step f g h tt (ap (λ v. option_and_then (λ m. replay m []) (replay_step v)) e);
    calls = λ u es f g h e. more u es (call None) f g h tt (ap (λ v. option_and_then (λ m. replay m []) (replay_trap v SYSCALL CALL_CAUSE)) e);
    answered = λ u es f g x small h e. more u es (call (Some x)) f (with_register g 2 x) h small (ap (λ v. option_and_then (λ m. replay m (Set 2 x ∷ [])) (replay_trap v SYSCALL CALL_CAUSE)) e);
    others = λ u es f g cause edata isnt h e. more u es (other (cause_number cause) edata) f g h isnt
        (ap (λ v. option_and_then (λ m. replay m []) (replay_trap v (cause_number cause) edata)) e ∙ ap (option_and_then (λ m. replay m [])) (trap_replays g cause edata));
  }

cast_small : (v : ℤ) → FitsSigned w32 v → cast_unsigned w32 v < 2 ^ 32
cast_small (pos n) h = let f = h.sfits in omega (arith, f)
cast_small (negsuc n) h = let f = h.sfits in omega (arith, f)

pub ints_told : IntsAreTold
ints_told v fits = (cast_small v fits, to_z-of_z w32 v fits)
