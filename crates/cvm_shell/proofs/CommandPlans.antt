-- The plan that words and files come to, by the command.
use Rattle.std.proofs.Common.{◌≡◌, ◌≢◌, ◌⊎◌, inl, inr, ℕ, List, refl}
use Rattle.std.specs.Prelude.{Option}
use Rattle.real_layer.specs.Image.{layer_image}
use Rattle.cvm_shell.specs.declared.refusal.Refusal.{Refusal as ByCode}
use Rattle.cvm_shell.specs.declared.refusal.Refusal.TheVariants as by
use Rattle.run_scripts.specs.declared.session.Session.{Session}
use Rattle.boot_turns.specs.declared.answers.View.{View}
use Rattle.boot_turns.specs.declared.answers.View.TheVariants as view
use Rattle.run_scripts.specs.Command.{BootCommand, Command, IsCommand, IsNoCommand, command_of}
use Rattle.run_scripts.specs.Refusal.{Refusal, too_long}
use Rattle.run_scripts.specs.Plan.{Plan, bad_words, refuses, PlanComesTo, no_command, by_command, AllTold, IsPlan}
use Rattle.cvm_shell.specs.Stages.{FilesPlan, IsBootPlan}
use Rattle.cvm_shell.specs.Views.{refusal_view}
use Rattle.run_scripts.proofs.OneCommand.{its_plan}

pub only_none : (words : List (List ℕ)) (file : List ℕ → Option (List ℕ)) → IsNoCommand words → (q : Plan) → PlanComesTo words file q → q ≡ bad_words
only_none words file none q (no_command also) = refl
only_none words file none q (by_command c _ other got) = absurd (none c other)

pub plan_of : (words : List (List ℕ)) (file : List ℕ → Option (List ℕ)) (c : Command) (p : Plan) → IsCommand words c → FilesPlan layer_image file c p → IsPlan (AllTold words file) (PlanComesTo words file) p
plan_of words file c p is plan =
    record { comes = by_command c p is plan.comes; only = λ told q comes. plan.only (told c is) q (its_plan words file c q is comes) }

-- a refusal is that of a file that is too long, or another
pub which : (r : ByCode) → (r ≡ by.TooLong) ⊎ (refusal_view r ≢ too_long)
which (by.BadText fault) = inr (λ e. cc)
which (by.BadSource fault) = inr (λ e. cc)
which (by.BadProgram fault) = inr (λ e. cc)
which (by.BadObject fault) = inr (λ e. cc)
which (by.BadFile fault) = inr (λ e. cc)
which (by.Unlinked fault) = inr (λ e. cc)
which (by.Unaccepted fault) = inr (λ e. cc)
which (by.BadSchedule fault) = inr (λ e. cc)
which (by.BadSave fault) = inr (λ e. cc)
which (by.SmallDisk need have) = inr (λ e. cc)
which (by.NoSuchUser user users) = inr (λ e. cc)
which by.TooLong = inl refl

pub one_refusal : (r s : Refusal) → refuses r ≡ refuses s → r ≡ s
one_refusal r s h = cc

-- the plan of a boot's files is that of the command with its view
abbrev pub session_of : BootCommand → View → Session
session_of b v = record { start = b.start; view = v; turns = b.turns; steps = b.steps }

pub viewed_plan : (file : List ℕ → Option (List ℕ)) (b : BootCommand) (v : View) (p : Plan) → IsBootPlan layer_image file b (session_of b v) p → FilesPlan layer_image file (command_of b v) p
viewed_plan file b view.Boot p h = h
viewed_plan file b (view.Trace u) p h = h
