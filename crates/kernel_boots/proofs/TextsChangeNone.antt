-- From a kernel that leaves users alone to what boots and traces print of them.
use Rattle.std.proofs.Common.{◌≡◌, ◌≤◌, ◌-◌, ℕ, zero, suc, List, length, Bool, true, false, Option, Some, refl, sym, ap, ◌∙◌, subst, arith}
use Rattle.std.specs.Prelude.{if◌then◌else◌, Ok, option_map, slice_get}
use Rattle.std.specs.Io.KnownBytes.{append_known}
use Rattle.std.proofs.lemmas.List.{length-map}
use Rattle.schedule_file.specs.Rows.{Rows}
use Rattle.real_layer.specs.Image.{layer_image}
use Rattle.boot_image.specs.Reading.{answer as image_of}
use Rattle.boot_run.specs.RunCalls.{end_by}
use Rattle.run_scripts.specs.RunStatus.{status_of_end}
use Rattle.cvm_model.specs.KernelMeaning.{UnitsReplay}
use Rattle.cvm_model.specs.Primitives.{user_of}
use Rattle.cvm_model.specs.Cvm.{System, Cvm, Status as CvmStatus, Running, Halted, Faulted, first_flat, first_core, first_cvm, cvm}
use Rattle.cvm_model.specs.Journal.{journal, replay, Isolated}
use Rattle.cvm_model.specs.Text.{user_text, trace_text}
use Rattle.kernel_linker.specs.Accept.{ImageSystem}
use Rattle.kernel_linker.specs.Sources.{AcceptedAreOfImages}
use Rattle.kernel_theorems.specs.UserRuns.{after}
use Rattle.kernel_theorems.specs.Text.{TextsMeanTrees}
use Rattle.run_scripts.specs.declared.exit_status.Status.TheVariants.{Done}
use Rattle.run_scripts.specs.declared.session.Session.{Session}
use Rattle.cvm_outside.specs.Outside.{Outside}
use Rattle.run_scripts.specs.Plan.{Accepts}
use Rattle.run_scripts.specs.Boot.{booted, AskFor, by_boot, by_trace, by_sample, IsHonest}
use Rattle.run_scripts.specs.Isolation.{session_lines}
use Rattle.kernel_boots.specs.Boots.{BootStands, AsksSource, RunsItsSource}
use Rattle.kernel_boots.specs.Systems.{BootIsChain, BootsAreChains}
use Rattle.kernel_boots.proofs.StatesShown.{of_image}
use Rattle.called_primitives.specs.Kernels.{LeavesAlone, ChangesNoMachine, ReadersChangeNone}
use Rattle.kernel_boots.specs.OwnRuns.{own_steps, own_journal, OwnRun, RunsAreOwn}
use Rattle.kernel_boots.specs.Separation.{SourceChangesNone, DoneBoot, system_of_boot, lines_of_boot, turns_of_boot, PrintsUser, ImageHasUser, AsksUser, BootsSource, own_block, BootsPrintOwn, BootsAgree, TracesAreOwn, TextsChangeNone}
use Rattle.kernel_boots.proofs.ReportsCut.{IsReported, cut_boot, there, mapped}

-- THE USER'S WORDS are those of the image
words_of_image : AcceptedAreOfImages → (u : ℕ) (words bytes : List ℕ) (s : ImageSystem) → Accepts layer_image (image_of bytes) (Ok s) → ImageHasUser u words bytes → slice_get s.users (u - 1) ≡ Some words
words_of_image law u words bytes s accepted h =
    ap (λ us. slice_get us (u - 1)) (of_image law h.0.source bytes s accepted (h.0, h.1, refl)).users ∙ h.2

asked_words : AcceptedAreOfImages → (u : ℕ) (words : List ℕ) (given : List (List ℕ)) (file : List ℕ → Option (List ℕ)) (session : Session) (s : ImageSystem) (rows : Rows)
    → (a : AskFor given file session s rows) → AsksUser u words a → slice_get s.users (u - 1) ≡ Some words
asked_words law u words given file session s rows (by_boot b is same files) h = words_of_image law u words files.image s files.accepted h
asked_words law u words given file session s rows (by_trace t is same files) h = words_of_image law u words files.image s files.accepted h
asked_words law u words given file session s rows (by_sample x is same parts) h = words_of_image law u words parts.image s parts.accepted h

-- a user that there is
record IsThere (y : System) (u : ℕ) (words : List ℕ) : Type 0 where
  few : u ≤ length y.boot.users
  first : user_of (first_core y).users u ≡ first_flat words

is_there : (y : System) (u : ℕ) (words : List ℕ) → 1 ≤ u → slice_get y.boot.users (u - 1) ≡ Some words → IsThere y u words
is_there y u words some e = record {
  few = let lt = there y.boot.users (u - 1) words e in omega (arith, lt, some);
  first = mapped first_flat y.boot.users (u - 1) words e;
}

-- a boot that is done has no fault
done_reports : (b : Bool) (s : CvmStatus) → Done ≡ status_of_end (end_by b s) → IsReported s
done_reports b Running e = tt
done_reports b Halted e = tt
done_reports true (Faulted f) e = absurd (cc)
done_reports false (Faulted f) e = absurd (cc)

module _ (replays : UnitsReplay) (isolated : Isolated) (own : RunsAreOwn) (images : AcceptedAreOfImages) (sources : RunsItsSource) where
  -- A RUN of a source that changes no machine
  record Runs (s : ImageSystem) (rows : Rows) (lines : ℕ → ℕ) (n k u : ℕ) (words : List ℕ) (c : Cvm) : Type 0 where
    there : IsThere (booted s rows) u words
    run : OwnRun (booted s rows) lines n k u c
    replayed : replay (first_flat words) (journal (booted s rows) lines n u k) ≡ Some (user_of c.core.users u)

  runs : (source : List ℕ) → SourceChangesNone source → (given : List (List ℕ)) (session : Session) (s : ImageSystem) (rows : Rows) (before : List (List ℕ)) (old new : Outside)
      → (h : IsHonest given session s rows before old new) → AsksSource source h.asked → (u : ℕ) (words : List ℕ) → 1 ≤ u → AsksUser u words h.asked
      → (lines : ℕ → ℕ) (n k : ℕ) (c : Cvm) → cvm (booted s rows) lines n k ≡ Some c → Runs s rows lines n k u words c
  runs source none given session s rows before old new h asks u words some user lines n k c is =
      let y : System = booted s rows in
      let there : IsThere y u words = is_there y u words some (asked_words images u words given old.shelf.file session s rows h.asked user) in
      let alone : LeavesAlone y.boot.meaning u = (none s.unit s.params (sources source given session s rows before old new h asks)).alone u in
      record {
        there = there;
        run = own y lines n k u c (replays s.unit s.params) alone some there.few is;
        replayed = subst (λ f. replay f (journal y lines n u k) ≡ Some (user_of c.core.users u)) there.first (isolated y lines n k u c (replays s.unit s.params) some there.few is);
      }

  -- A BOOT
  run_of : (source : List ℕ) → SourceChangesNone source → (u : ℕ) (words : List ℕ) (b : DoneBoot) → BootsSource source u words b → (n : ℕ) (c : Cvm) → cvm (system_of_boot b) (lines_of_boot b) n (turns_of_boot b) ≡ Some c
      → Runs b.system b.rows (lines_of_boot b) n (turns_of_boot b) u words c
  run_of source none u words b h n c is =
      runs source none b.words b.session b.system b.rows b.before b.old b.new b.honest h.source_is u words h.some h.user_is (lines_of_boot b) n (turns_of_boot b) c is

  block_own : (source : List ℕ) → SourceChangesNone source → (u : ℕ) (words : List ℕ) (b : DoneBoot) → BootsSource source u words b → (steps : ℕ) (block : List ℕ) → PrintsUser b u steps block → block ≡ own_block u words steps
  block_own source none u words b h steps block p =
      let r : Runs b.system b.rows (lines_of_boot b) p.units (turns_of_boot b) u words p.state = run_of source none u words b h p.units p.state p.run in
      let count : r.run.steps ≡ steps = r.run.steps_are ∙ sym p.steps_are in
      p.block_is ∙ ap (user_text u) (r.run.machine ∙ ap (λ n. after n (user_of (first_core (system_of_boot b)).users u)) count ∙ ap (after steps) r.there.first)

  module _ (chains : BootsAreChains) where
    prints : (source : List ℕ) → SourceChangesNone source → (u : ℕ) (words : List ℕ) (b : DoneBoot) → BootsSource source u words b → (steps : ℕ) × (block : List ℕ) × PrintsUser b u steps block
    prints source none u words b h =
        let chain : BootIsChain b.session b.system b.rows b.before Done b.old b.new = chains b.words Done b.old b.new b.headlines b.session b.system b.rows b.before b.honest (λ e. absurd (cc)) b.view in
        let shows : BootStands b.session b.system b.rows b.before Done b.old b.new = chain.shows in
        let c : Cvm = shows.stands.state in
        let n : ℕ = shows.stands.is.units in
        let r : Runs b.system b.rows (lines_of_boot b) n (turns_of_boot b) u words c = run_of source none u words b h n c shows.stands.is.is in
        let count : length c.core.users ≡ length b.system.users = counted (turns_of_boot b) refl chain in
        let few : u ≤ length c.core.users = let f = r.there.few in omega (arith, f, count) in (
          own_steps (journal (system_of_boot b) (lines_of_boot b) n u (turns_of_boot b)),
          user_text u (user_of c.core.users u),
          record {
            units = n;
            state = c;
            run = shows.stands.is.is;
            steps_are = refl;
            printed = shows.printed ∙ ap (append_known b.old.sink.text) (shows.stands.text_is ∙ cut_boot (system_of_boot b) c u (done_reports _ c.status shows.stands.status_is) h.some few);
            block_is = refl;
          },
        )
      where
        counted : (k : ℕ) → turns_of_boot b ≡ k → (chain : BootIsChain b.session b.system b.rows b.before Done b.old b.new) → length chain.shows.stands.state.core.users ≡ length b.system.users
        counted zero e chain =
            let is : Some (first_cvm (system_of_boot b)) ≡ Some chain.shows.stands.state = subst (λ j. cvm (system_of_boot b) (lines_of_boot b) chain.shows.stands.is.units j ≡ Some chain.shows.stands.state) e chain.shows.stands.is.is in
            let same : first_cvm (system_of_boot b) ≡ chain.shows.stands.state = cc in
            ap (λ (c : Cvm). length c.core.users) (sym same) ∙ length-map b.system.users first_flat
        counted (suc k) e chain = (chain.chain k e).fits

    pub boots_print_own : BootsPrintOwn
    boots_print_own source none u words b h = record { prints = prints source none u words b h; own = block_own source none u words b h }

  pub boots_agree : BootsAgree
  boots_agree source another none neither u words a b left right steps one two p q =
      let first = block_own source none u words a left steps one p in
      let second = block_own another neither u words b right steps two q in
      record { same = first ∙ sym second; own = first }

  -- A TRACE
  pub traces_are_own : TracesAreOwn
  traces_are_own source none given session u words s rows before old new status h asks some user a =
      let lines : ℕ → ℕ = session_lines session s rows old before in
      let r : Runs s rows lines a.units a.turns u words a.last = runs source none given session s rows before old new h asks u words some user lines a.units a.turns a.last a.run in
      let count : r.run.steps ≡ own_steps a.entries = r.run.steps_are ∙ ap own_steps (sym a.entries_are) in
      let entries : a.entries ≡ own_journal (own_steps a.entries) (first_flat words) = a.entries_are ∙ r.run.entries ∙ ap (λ n. own_journal n (user_of (first_core (booted s rows)).users u)) count ∙ ap (own_journal (own_steps a.entries)) r.there.first in
      let machine : user_of a.last.core.users u ≡ after (own_steps a.entries) (first_flat words) = r.run.machine ∙ ap (λ n. after n (user_of (first_core (booted s rows)).users u)) count ∙ ap (after (own_steps a.entries)) r.there.first in
      let replayed : replay (first_flat words) a.entries ≡ Some (user_of a.last.core.users u) = ap (replay (first_flat words)) a.entries_are ∙ r.replayed in
      let told : option_map (λ last. trace_text u (first_flat words) a.entries last a.last.status) (replay (first_flat words) a.entries) ≡ Some a.text =
      subst (λ f. option_map (λ last. trace_text u f a.entries last a.last.status) (replay f a.entries) ≡ Some a.text) r.there.first a.text_is in
      let text : trace_text u (first_flat words) a.entries (user_of a.last.core.users u) a.last.status ≡ a.text =
      some_same _ _ (sym (ap (option_map (λ last. trace_text u (first_flat words) a.entries last a.last.status)) replayed) ∙ told) in
      sym text ∙ ap (λ j. trace_text u (first_flat words) j (user_of a.last.core.users u) a.last.status) entries
      ∙ ap (λ f. trace_text u (first_flat words) (own_journal (own_steps a.entries) (first_flat words)) f a.last.status) machine
    where
      some_same : {A : Type 0} (a b : A) → Some a ≡ Some b → a ≡ b
      some_same a b e = cc

-- A TEXT that only reads
pub texts_change_none : TextsMeanTrees → ReadersChangeNone → TextsChangeNone
texts_change_none means readers n text tree is reads u p unit = subst ChangesNoMachine (sym (means n text tree is u p unit)) (readers tree p reads)
