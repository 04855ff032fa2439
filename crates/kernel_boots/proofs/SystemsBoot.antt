-- From an invariant of a whole system to what its boots show. No contract can carry it for any invariant, since that ranges over types: this file may be cited
-- from other crates. To be used by `systems_boot`: it needs an invariant of each system with the source and its users, and the laws below.
use Rattle.std.proofs.Common.{◌≡◌, ◌⊎◌, ℕ, zero, suc, ◌+◌, ◌-◌, ◌≤◌, ◌*◌, List, [], ◌∷◌, ◌++◌, length, Bool, true, false, Some, refl, sym, ap, ◌∙◌, subst, ⊎_elim, arith}
use Rattle.std.specs.Prelude.{◌≢◌, if◌then◌else◌, codes, Option, Ok}
use Rattle.schedule_file.specs.Rows.{Rows}
use Rattle.mips_table.specs.Device.{Environment}
use Rattle.mips_table.specs.Machine.{State}
use Rattle.mips_table.specs.Turns.{lines_of_turn, is_end, end_within, TurnLaws}
use Rattle.boot_run.specs.RunCalls.{end_by}
use Rattle.run_scripts.specs.RunStatus.{status_of_end}
use Rattle.run_scripts.specs.RanFrom.{ending}
use Rattle.boot_turns.specs.GoesOn.{GoesOnWithin}
use Rattle.c0_tree.specs.Tree.{CUnit}
use Rattle.c0_types.specs.Front.{IsUnitOf}
use Rattle.cvm_model.specs.Kernel.{Core}
use Rattle.cvm_model.specs.KernelMeaning.{kernel_meaning}
use Rattle.cvm_model.specs.Cvm.{System, Cvm, Status as CvmStatus, Running, Halted, Faulted, cvm, IsCvm, first_cvm, map_of, reset_steps, turn_steps, enter_steps, leave_steps, run_steps}
use Rattle.std.proofs.lemmas.Nat.{mul-le}
use Rattle.cvm_model.specs.Text.{rows_text, boot_text, closing_text, report_text}
use Rattle.cvm_model.specs.Invariant.{Dispatch, dispatch_rows, dispatches_of, Known, HasEight, IsSafe, RunsAreLawful}
use Rattle.cvm_model.specs.Systems.{SystemProperty, status_after, lines_taken, IsSystemInvariant, SystemHolds, RunsAreChains}
use Rattle.cvm_model.proofs.SystemsHold.{systems_hold, ends_below, stays_over}
use Rattle.run_bounds.specs.Steps.{steps_for, BoundsAreSmall}
use Rattle.run_bounds.specs.Lines.{turns_with_lines, LinesTakenAreFew, RaisedLinesAreFew}
use Rattle.kernel_linker.specs.Accept.{ImageSystem}
use Rattle.kernel_linker.specs.Sources.{AcceptedAreOfImages}
use Rattle.run_scripts.specs.declared.exit_status.Status.{Status}
use Rattle.run_scripts.specs.declared.exit_status.Status.TheVariants.{Done, KernelFault}
use Rattle.run_scripts.specs.declared.session.Session.{Session}
use Rattle.run_scripts.specs.Plan.{Accepts}
use Rattle.real_layer.specs.Image.{layer_image}
use Rattle.boot_image.specs.Reading.{answer as image_of}
use Rattle.run_scripts.specs.Boot.{booted, environment_of, start_state, steps_before, AskFor, by_boot, by_trace, by_sample}
use Rattle.kernel_boots.specs.Boots.{TextOfState, StandsAt, turns_made, BootStands, AsksSource}
use Rattle.kernel_boots.specs.Systems.{SystemEndsWithin, HasHalted, SystemShown, HasSystem, AsksSystem, SystemsBoot, BootsAreChains}
use Rattle.kernel_boots.proofs.RunsHaveRoom.{Roomy}
use Rattle.kernel_boots.proofs.EightLines.{turns_have_eight}
use Rattle.kernel_boots.proofs.StatesShown.{RunsAreOne, ones, no_fault, no_status, boots_stand, of_image, asked_eight, asked_few, asked_read}

-- a status that is neither running nor a fault
halted_of : (s : CvmStatus) → IsSafe s → s ≢ Running → s ≡ Halted
halted_of Running safe off = absurd (off refl)
halted_of Halted safe off = refl
halted_of (Faulted f) safe off = absurd safe

rows_length : (past : List Dispatch) → length (dispatch_rows past) ≡ length past
rows_length [] = refl
rows_length (d ∷ past) = ap suc (rows_length past)

sums : (r t b e f : ℕ) → e ≤ f → b ≤ r + t + e → b ≤ r + t + f
sums r t b e f le h = omega (arith, le, h)

-- the end of a text, by the status
halted_text : (y : System) (c : Cvm) (s : CvmStatus) → s ≡ Halted → closing_text y c s ≡ codes "halted\n" ++ report_text y.boot.meaning.names c.core
halted_text y c Halted e = refl
halted_text y c Running e = absurd (cc)
halted_text y c (Faulted f) e = absurd (cc)

done_of : (b : Bool) (s : CvmStatus) → b ≡ true → s ≡ Halted → status_of_end (end_by b s) ≡ Done
done_of true Halted e h = refl
done_of true Running e h = absurd (cc)
done_of true (Faulted f) e h = absurd (cc)
done_of false s e h = absurd (cc)

-- the text of a state whose status is that of a run that is done
whole_text : (y : System) (status : Status) (c : Cvm) (text : List ℕ) → status ≡ Done → TextOfState y status c text → text ≡ boot_text y c
whole_text y status c text e h = subst (λ (z : Status). TextOfState y z c text) e h

-- before the first turn it is running
first_runs_of : (y : System) (c : Cvm) (lines : ℕ → ℕ) → IsCvm y lines 0 c → c.status ≡ Running
first_runs_of y c lines is = let same : first_cvm y ≡ c = let e = is.is in cc in sym (ap (λ (c : Cvm). c.status) same)

module _ (laws : RunsAreLawful) (counts : TurnLaws) (small : BoundsAreSmall) (takes : LinesTakenAreFew) (x : Environment) (y : System) (u : CUnit) (meaning_is : y.boot.meaning ≡ kernel_meaning u y.boot.params) (one : RunsAreOne y)
    (n : ℕ) (Fit : Core → Type 0) (I : SystemProperty) (known : Known y Fit) (inv : IsSystemInvariant y n Fit I) (s : State) (eight : HasEight (lines_of_turn x s))
    (late raised turns steps : ℕ) (goes : GoesOnWithin x y s late) (rises : (k : ℕ) → turns_with_lines (lines_of_turn x s) k ≤ raised) (status : Status) (text : List ℕ) (w : StandsAt x y s turns steps status text) where
  abbrev at : ℕ
  at = end_within x s turns steps

  holds : (k : ℕ) → turns_made x s turns steps ≡ suc k → SystemHolds Fit I (suc k) (dispatches_of y (lines_of_turn x s) n (suc k)) w.state
  holds k e = (systems_hold laws y u n Fit I meaning_is known inv (lines_of_turn x s) eight k).1 w.state (subst (λ j. IsCvm y (lines_of_turn x s) j w.state) e w.is)

  first_runs : (c : Cvm) → IsCvm y (lines_of_turn x s) 0 c → c.status ≡ Running
  first_runs c is = first_runs_of y c (lines_of_turn x s) is

  -- no dispatch faulted, where the invariant excludes faults
  safe_at : ((k : ℕ) (past : List Dispatch) (c : Core) → I k past c → IsSafe (status_after past)) → (k : ℕ) → turns_made x s turns steps ≡ k → IsSafe w.state.status
  safe_at safe zero e = subst IsSafe (sym (first_runs w.state (subst (λ j. IsCvm y (lines_of_turn x s) j w.state) e w.is))) tt
  safe_at safe (suc k) e = let h = holds k e in subst IsSafe (sym h.status) (safe h.made _ _ h.kept)

  not_faulted : ((k : ℕ) (past : List Dispatch) (c : Core) → I k past c → IsSafe (status_after past)) → status ≢ KernelFault
  not_faulted safe e = no_status (ending x s turns steps w.state) (no_fault (is_end x s turns at) w.state.status (safe_at safe _ refl)) (sym w.status_is ∙ e)

  -- lines are taken in few dispatches
  few_lines : (k : ℕ) → lines_taken (dispatches_of y (lines_of_turn x s) n (suc k)) ≤ raised
  few_lines k =
      let d = (systems_hold laws y u n Fit I meaning_is known inv (lines_of_turn x s) eight (suc k)).0 in
      let a = takes y (lines_of_turn x s) n (suc k) d.0 d.1 in
      let b = rises (suc k) in
      omega (arith, a, b)

  module _ (lines most dispatches pages : ℕ) (ends : SystemEndsWithin y n I lines most dispatches pages) (under : raised ≤ lines) (enough : most ≤ turns) (long : steps_for y most dispatches n pages + late ≤ steps) where
    under_lines : (k : ℕ) → lines_taken (dispatches_of y (lines_of_turn x s) n (suc k)) ≤ lines
    under_lines k = let few = few_lines k in omega (arith, few, under)

    -- where the system is over at the latest
    record Last : Type 0 where
      last : Cvm
      is : cvm y (lines_of_turn x s) n most ≡ Some last
      off : last.status ≢ Running
      short : last.bound ≤ steps_for y most dispatches n pages

    last_at : (k : ℕ) → most ≡ suc k → Last
    last_at k e =
        let d = (systems_hold laws y u n Fit I meaning_is known inv (lines_of_turn x s) eight (suc k)).0 in
        let h : SystemHolds Fit I (suc k) (dispatches_of y (lines_of_turn x s) n (suc k)) d.0 =
        (systems_hold laws y u n Fit I meaning_is known inv (lines_of_turn x s) eight k).1 d.0 (record { units = n; is = d.1 }) in
        let b = small y u (lines_of_turn x s) n (suc k) d.0 meaning_is d.1 in
        let few : length d.0.rows ≤ dispatches = let f = ends.few h.made _ _ h.kept (under_lines k) in let l = ap length h.rows in let r = rows_length (dispatches_of y (lines_of_turn x s) n (suc k)) in omega (arith, f, l, r) in
        let short : d.0.bound ≤ steps_for y (suc k) (length d.0.rows) n pages = b.by_pages pages (ends.touch h.made _ _ h.kept) in
        record {
          last = d.0;
          is = subst (λ j. cvm y (lines_of_turn x s) n j ≡ Some d.0) (sym e) d.1;
          off = ends_below Fit I lines most (suc k) (dispatches_of y (lines_of_turn x s) n (suc k)) d.0 ends.below (under_lines k) (omega (arith, e)) h;
          short = subst (λ j. d.0.bound ≤ steps_for y j dispatches n pages) (sym e) (more_dispatches (suc k) (length d.0.rows) d.0.bound few short);
        }
      where
        more_dispatches : (k d bound : ℕ) → d ≤ dispatches → bound ≤ steps_for y k d n pages → bound ≤ steps_for y k dispatches n pages
        more_dispatches k d bound le h =
            let m = mul-le d (enter_steps + leave_steps + run_steps (map_of y.boot) y.longest n pages) dispatches (enter_steps + leave_steps + run_steps (map_of y.boot) y.longest n pages) le (omega arith) in
            sums (reset_steps (map_of y.boot)) (k * turn_steps (map_of y.boot) y.longest) bound _ _ m h

    some_most : (k : ℕ) × (most ≡ suc k)
    some_most = by most ends.some
      where
        by : (m : ℕ) → 1 ≤ m → (k : ℕ) × (m ≡ suc k)
        by zero le = absurd (omega (arith, le))
        by (suc k) le = (k, refl)

    last : Last
    last = last_at some_most.0 some_most.1

    -- the run comes to its end within the steps
    ended : is_end x s turns at ≡ true
    ended =
        let l = last in
        let z : turns - most + most ≡ turns = omega (arith, enough) in
        let there : cvm y (lines_of_turn x s) n turns ≡ Some l.last = subst (λ j. cvm y (lines_of_turn x s) n j ≡ Some l.last) z (stays_over y (lines_of_turn x s) n most (turns - most) l.last l.is l.off) in
        let (t, first, within) = goes turns l.last (record { units = n; is = there }) in
        let short : l.last.bound ≤ steps_for y most dispatches n pages = l.short in
        let e : end_within x s turns steps ≡ t = counts.ends x s turns steps t first (omega (arith, within, short, long)) in
        subst (λ j. is_end x s turns j ≡ true) (sym e) first.here

    -- there it isn't running
    over : (k : ℕ) → turns_made x s turns steps ≡ k → w.state.status ≢ Running
    over zero e on = ⊎_elim
        (λ (all : turns_made x s turns steps ≡ turns). let some = ends.some in absurd (omega (arith, all, e, some, enough)))
        (λ (off : w.state.status ≢ Running). off (first_runs w.state (subst (λ j. IsCvm y (lines_of_turn x s) j w.state) e w.is)))
        (w.over ended)
    over (suc k) e on = ⊎_elim
        (λ (all : turns_made x s turns steps ≡ turns). ends_below Fit I lines most (suc k) (dispatches_of y (lines_of_turn x s) n (suc k)) w.state ends.below (under_lines k) (omega (arith, e, all, enough)) (holds k e) on)
        (λ (off : w.state.status ≢ Running). off on)
        (w.over ended)

    halts : HasHalted x y s turns steps status text w
    halts =
        let halted : w.state.status ≡ Halted = halted_of w.state.status (safe_at ends.safe _ refl) (over _ refl) in
        let done : status ≡ Done = w.status_is ∙ done_of (is_end x s turns at) w.state.status ended halted in
        record {
          status_is = done;
          halted = halted;
          text_is = whole_text y status w.state text done w.text_is ∙ ap (λ (t : List ℕ). rows_text w.state.rows ++ t) (halted_text y w.state w.state.status halted);
        }

  shown : SystemShown x y s late raised turns steps n Fit I status text
  shown = record { stands = w; holds = holds; few_lines = few_lines; no_fault = not_faulted; halts = halts }

-- THE STATE OF A SYSTEM THAT HALTED: a turn was made, so the invariant holds of it; its history has halted; it printed a row for each dispatch, and few of them
-- took lines
pub record Stopped (I : SystemProperty) (raised : ℕ) (c : Cvm) : Type 0 where
  pub turns : ℕ
  pub past : List Dispatch
  pub kept : I turns past c.core
  pub over : status_after past ≡ Halted
  pub rows : length c.rows ≡ length past
  pub few : lines_taken past ≤ raised

pub stopped : {x : Environment} {y : System} {s : State} {late raised turns steps n : ℕ} {Fit : Core → Type 0} {I : SystemProperty} {status : Status} {text : List ℕ}
    → (h : SystemShown x y s late raised turns steps n Fit I status text) → HasHalted x y s turns steps status text h.stands → Stopped I raised h.stands.state
stopped {x} {y} {s} {late} {raised} {turns} {steps} {n} {Fit} {I} {status} {text} h halted = by (turns_made x s turns steps) refl
  where
    by : (k : ℕ) → turns_made x s turns steps ≡ k → Stopped I raised h.stands.state
    by zero e =
        let first : IsCvm y (lines_of_turn x s) 0 h.stands.state = subst (λ j. IsCvm y (lines_of_turn x s) j h.stands.state) e h.stands.is in
        absurd (let z : Running ≡ Halted = sym (first_runs_of y h.stands.state (lines_of_turn x s) first) ∙ halted.halted in cc)
    by (suc k) e =
        let held : SystemHolds Fit I (suc k) (dispatches_of y (lines_of_turn x s) n (suc k)) h.stands.state = h.holds k e in
        record {
          turns = held.made;
          past = dispatches_of y (lines_of_turn x s) n (suc k);
          kept = held.kept;
          over = sym held.status ∙ halted.halted;
          rows = ap length held.rows ∙ rows_length (dispatches_of y (lines_of_turn x s) n (suc k));
          few = h.few_lines k;
        }

-- AN IMAGE with this source and these users: its source, and the users of the system that is run
pub asks_source : (source : List ℕ) (users : List (List ℕ)) (words : List (List ℕ)) (file : List ℕ → Option (List ℕ)) (session : Session) (s : ImageSystem) (rows : Rows)
    → (a : AskFor words file session s rows) → AsksSystem source users a → AsksSource source a
asks_source source users words file session s rows (by_boot b is same files) h = (h.0, h.1, h.2)
asks_source source users words file session s rows (by_trace t is same files) h = (h.0, h.1, h.2)
asks_source source users words file session s rows (by_sample x is same parts) h = (h.0, h.1, h.2)

users_of_image : AcceptedAreOfImages → (source : List ℕ) (users : List (List ℕ)) (bytes : List ℕ) (s : ImageSystem) → Accepts layer_image (image_of bytes) (Ok s) → HasSystem source users bytes → s.users ≡ users
users_of_image law source users bytes s accepted h = (of_image law source bytes s accepted (h.0, h.1, h.2)).users ∙ h.3

pub asked_users : AcceptedAreOfImages → (source : List ℕ) (users : List (List ℕ)) (words : List (List ℕ)) (file : List ℕ → Option (List ℕ)) (session : Session) (s : ImageSystem) (rows : Rows)
    → (a : AskFor words file session s rows) → AsksSystem source users a → s.users ≡ users
asked_users law source users words file session s rows (by_boot b is same files) h = users_of_image law source users files.image s files.accepted h
asked_users law source users words file session s rows (by_trace t is same files) h = users_of_image law source users files.image s files.accepted h
asked_users law source users words file session s rows (by_sample x is same parts) h = users_of_image law source users parts.image s parts.accepted h

-- EACH BOOT OF A SYSTEM
pub systems_boot : AcceptedAreOfImages → RunsAreLawful → TurnLaws → BoundsAreSmall → LinesTakenAreFew → RaisedLinesAreFew → (source : List ℕ) (Is : ImageSystem → Type 0) (n : ℕ) (Fit : System → Core → Type 0) (I : System → SystemProperty)
    → ((s : ImageSystem) (rows : Rows) → IsUnitOf source s.unit → Roomy s → Is s → length rows.inputs ≤ 4096 → Known (booted s rows) (Fit (booted s rows)) × IsSystemInvariant (booted s rows) n (Fit (booted s rows)) (I (booted s rows)))
    → SystemsBoot source Is n Fit I
systems_boot law laws counts small takes rise source Is n Fit I inv words status old new headlines session s rows before h some view asks is =
    let read = asked_read law source words old.shelf.file session s rows h.asked asks in
    let few : length rows.inputs ≤ 4096 = asked_few words old.shelf.file session s rows h.asked in
    let b : BootStands session s rows before status old new = boots_stand laws words status old new headlines session s rows before h some view in
    let x = environment_of rows old in
    let y = booted s rows in
    let first = start_state session s rows before in
    let eight : HasEight (lines_of_turn x first) = turns_have_eight x first (asked_eight words old.shelf.file session s rows h.asked old) in
    let i = inv s rows read.unit read.room is few in (
      b.text,
      b.printed,
      shown laws counts small takes x y s.unit refl (ones laws s rows) n (Fit y) (I y) i.0 i.1 first eight (steps_before session.start y) (length rows.lines) session.turns session.steps b.goes_on (λ k. rise rows old.disk.size first k) status b.text b.stands,
    )

-- EACH BOOT IS A CHAIN
pub boots_are_chains : RunsAreLawful → RunsAreChains → BootsAreChains
boots_are_chains laws chains words status old new headlines session s rows before h some view =
    let b : BootStands session s rows before status old new = boots_stand laws words status old new headlines session s rows before h some view in
    let x = environment_of rows old in
    let y = booted s rows in
    let first = start_state session s rows before in
    let eight : HasEight (lines_of_turn x first) = turns_have_eight x first (asked_eight words old.shelf.file session s rows h.asked old) in
    record {
      shows = b;
      units = b.stands.is.units;
      chain = λ k e. chains y s.unit (lines_of_turn x first) b.stands.is.units k b.stands.state refl eight
          (subst (λ j. cvm y (lines_of_turn x first) b.stands.is.units j ≡ Some b.stands.state) e b.stands.is.is);
    }

-- MORE TURNS want more steps: for users whose steps are only bounded. This may be cited from other crates.
with_fewer : (r d a b late steps : ℕ) → a ≤ b → r + b + d + late ≤ steps → r + a + d + late ≤ steps
with_fewer r d a b late steps le h = omega (arith, le, h)

pub fewer_turns : (y : System) (j k d n p late steps : ℕ) → j ≤ k → steps_for y k d n p + late ≤ steps → steps_for y j d n p + late ≤ steps
fewer_turns y j k d n p late steps le h =
    with_fewer (reset_steps (map_of y.boot)) (d * (enter_steps + leave_steps + run_steps (map_of y.boot) y.longest n p)) _ _ late steps
    (mul-le j (turn_steps (map_of y.boot) y.longest) k (turn_steps (map_of y.boot) y.longest) le (omega arith)) h
