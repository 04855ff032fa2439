-- The replay of a user's journal is its machine, in every system; and two traces of equal starts and journals tell the same.
use Rattle.std.proofs.Common.{◌≡◌, ℕ, List, refl, sym, ap, ◌∙◌, subst, Some, None}
use Rattle.std.specs.Prelude.{Option}
use Rattle.std.specs.Option.{option_map}
use Rattle.mips_table.specs.Flat.{Flat}
use Rattle.cvm_model.specs.Kernel.{JournalEntry}
use Rattle.cvm_model.specs.Cvm.{Status as CvmStatus, UnitsDontMatter}
use Rattle.cvm_model.specs.KernelMeaning.{UnitsAreKernels, UnitsReplay}
use Rattle.cvm_model.specs.Journal.{replay, Isolated as AreIsolated}
use Rattle.cvm_model.specs.Text.{trace_text}
use Rattle.boot_turns.specs.TurnEnds.{first_user_machine}
use Rattle.run_scripts.specs.Boot.{booted}
use Rattle.run_scripts.specs.Isolation.{replayed_text, TellTheSame, EqualJournalsTellTheSame}
use Rattle.cvm_shell.specs.Stages.{JournalsReplay}

-- the law of every system, from those of the model
pub journals_replayed : UnitsAreKernels → UnitsDontMatter → UnitsReplay → AreIsolated → JournalsReplay
journals_replayed kernels one replays alone = λ s rows lines n k u c d some most is other.
    (one (booted s rows) lines k c d (kernels s.unit s.params) (record { units = n; is = is }) other, alone (booted s rows) lines n k u c (replays s.unit s.params) some most is)

-- TWO TRACES of one start and one journal.

some_is : (a b : List ℕ) → Some a ≡ Some b → b ≡ a
some_is a b e = cc

-- by what the replay comes to
told_by : (u : ℕ) (first : Flat) (j : List JournalEntry) (status ended : CvmStatus) (text other : List ℕ) (r : Option Flat) → replay first j ≡ r
    → option_map (λ last. trace_text u first j last status) r ≡ Some text → option_map (λ last. trace_text u first j last ended) r ≡ Some other → TellTheSame u first j status text ended other
told_by u first j status ended text other None e is so = absurd cc
told_by u first j status ended text other (Some last) e is so =
    let one : text ≡ trace_text u first j last status = some_is _ _ is in
    let two : other ≡ trace_text u first j last ended = some_is _ _ so in
    record {
      last = last;
      replayed = e;
      text_is = one;
      other_is = two;
      alike = λ same. one ∙ ap (trace_text u first j last) same ∙ sym two;
    }

-- the second text, said of the first one's start and journal
told_alike : (u : ℕ) (first start : Flat) (j k : List JournalEntry) (status ended : CvmStatus) (text other : List ℕ) → first ≡ start → j ≡ k
    → replayed_text u first j status ≡ Some text → replayed_text u start k ended ≡ Some other → TellTheSame u first j status text ended other
told_alike u first start j k status ended text other starts journals is so =
    let from_start = subst (λ (f : Flat). replayed_text u f k ended ≡ Some other) (sym starts) so in
    told_by u first j status ended text other (replay first j) refl is (subst (λ (xs : List JournalEntry). replayed_text u first xs ended ≡ Some other) (sym journals) from_start)

pub equal_journals : EqualJournalsTellTheSame
equal_journals session another u s r rows inputs before present old new past now status ended a b starts journals =
    told_alike u (first_user_machine (booted s rows) u) (first_user_machine (booted r inputs) u) a.entries b.entries a.last.status b.last.status a.text b.text starts journals a.text_is b.text_is
