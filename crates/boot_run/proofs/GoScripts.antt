-- The script of the loop over turns: by the turns that were made so far, and the next.
use Rattle.std.proofs.Common.{◌≡◌, ℕ, zero, suc, ◌+◌, ◌-◌, ◌<◌, ◌≤◌, Bool, true, false, Option, Some, None, List, [], ◌++◌, Ok, Err, refl, sym, ap, ap₂, ◌∙◌, subst, arith, ◌⊎◌, ⊎_elim, append-nil, append_assoc}
use Rattle.std.specs.Prelude.{IsSome, is_some, not, ◌||◌, ◌==◌}
use Rattle.std.proofs.lemmas.Bool.{cases_lt}
use Rattle.cvm_outside.specs.Outside.{Outside, Files}
use Rattle.cvm_outside.specs.declared.sink.Sink as sink_of
use Rattle.cvm_outside.specs.declared.sectors.Sectors as sectors_of
use Rattle.cvm_outside.specs.Script.{Call, Who, TheSink, TheDisk, Performs, done}
use Rattle.cvm_outside.proofs.ScriptsFollow.{both, first}
use Rattle.cvm_outside.proofs.RowsPut.{same_script, scripts-none}
use Rattle.mips_table.specs.Device as device
use Rattle.mips_table.specs.Machine.{State, run}
use Rattle.mips_table.specs.Turns.{complete, lines_of_turn, is_end, end_within, TurnLaws}
use Rattle.schedule_file.specs.Rows.{Rows}
use Rattle.mips_machine.specs.Steps.{outside_of}
use Rattle.c0_tree.specs.Tree.{CUnit}
use Rattle.c0_tree.specs.View.{unit_view}
use Rattle.c0_meaning.specs.TypedState.{IsTypedState}
use Rattle.cvm_model.specs.Cvm.{System, Running, Cvm, IsCvm}
use Rattle.cvm_model.specs.declared.row.Next.{Next}
use Rattle.layer_contract.specs.declared.boot.Boot.{Boot as Booted}
use Rattle.layer_contract.specs.Boots.{boot_of}
use Rattle.boot_turns.specs.Premises.{StartsFrom}
use Rattle.boot_turns.specs.RunMachines.{RunMachines, MachinesRun}
use Rattle.boot_turns.specs.declared.answers.View.{View}
use Rattle.boot_turns.specs.declared.answers.RunFault.{RunFault}
use Rattle.boot_turns.specs.declared.answers.RunFault.TheVariants.{StepLimit, Disk, Sink}
use Rattle.boot_turns.specs.Runs.{Run, Past, IsPast, cvm_at, steps_made}
use Rattle.boot_turns.specs.StepScript.{step_script, steps_script}
use Rattle.boot_turns.specs.RowScripts.{of_run}
use Rattle.boot_turns.specs.LoopScripts.{SomeMake}
use Rattle.boot_turns.proofs.SomeCalls.{of_both}
use Rattle.boot_turns.proofs.TurnScripts.{steps_join}
use Rattle.boot_run.specs.LoadEnds.{Kept}
use Rattle.boot_run.specs.Pieces.{Bootable, FirstAt, GoRuns}
use Rattle.boot_run.specs.RunCalls.{run_at, begin_script, fault_script, turns_script, InTurns, TellsFrom, TurnsCall, GoCalls}
use Rattle.boot_run.specs.TurnCalls.{Around, run_around, ReadyAt, Broken, TurnsEnd, TurnsRun, KeepsLoad}
use Rattle.boot_run.proofs.TurnToTurn.{Going, Goes, came_on, goes_on, goes_on_to, end_most, no_end, not_before}
use Rattle.boot_run.proofs.LoopOverTurns.{KeepsGoing, machines, turns_end}
use Rattle.boot_run.proofs.InTurns.{in_turns}
use Rattle.boot_run.proofs.ScriptsJoined.{at}
use Rattle.boot_run.proofs.ScriptsOfTurns.{goes_none}
use Rattle.boot_run.specs.Shown.{ended_of}

-- BEFORE ITS END a run's machine is on
is_false : (a : Bool) (o : Option ℕ) → (a || not (not (is_some o))) ≡ false → o ≡ None
is_false true o e = absurd (cc)
is_false false None e = refl
is_false false (Some v) e = absurd (cc)

module _ (counts : TurnLaws) (x : device.Environment) (s : State) (turns steps : ℕ) where
  not_ended : (t : ℕ) → t < end_within x s turns steps → is_end x s turns t ≡ false
  not_ended t lt = by (is_end x s turns (end_within x s turns steps)) refl
    where
      by : (b : Bool) → is_end x s turns (end_within x s turns steps) ≡ b → is_end x s turns t ≡ false
      by true e = (counts.found x s turns steps e).first t lt
      by false e = let h = counts.none x s turns steps e in let last = h.0 in h.1 t (omega (arith, lt, last))

  pub on_before : (t : ℕ) → t < end_within x s turns steps → (run x s t).off ≡ None
  on_before t lt = is_false (complete x s t == turns) (run x s t).off (not_ended t lt)

  pub on_there : is_end x s turns (end_within x s turns steps) ≡ false → (run x s (end_within x s turns steps)).off ≡ None
  on_there e = is_false (complete x s (end_within x s turns steps) == turns) (run x s (end_within x s turns steps)).off e

  -- it ends no sooner than it goes on
  pub no_sooner : (u : ℕ) → u ≤ steps → ((j : ℕ) → j < u → is_end x s turns j ≡ false) → u ≤ end_within x s turns steps
  no_sooner u le goes = ⊎_elim
      (λ (lt : end_within x s turns steps < u).
      let e = (counts.none x s turns steps (goes (end_within x s turns steps) lt)).0 in
      omega (arith, e, le))
      (λ (ge : u ≤ end_within x s turns steps). ge)
      (cases_lt (end_within x s turns steps) u)

-- nor before turns are complete for the first time
pub goes_before : (x : device.Environment) (s : State) (k t turns : ℕ) → FirstAt x s k t → k ≤ turns → (j : ℕ) → j < t → is_end x s turns j ≡ false
goes_before x s k t turns starts le j lt =
    let less = starts.before j lt in
    no_end x s turns j (λ e. omega (arith, less, e, le)) (starts.on j lt)

-- a part of what the abstract machine says
pub tells_part : (r : Run) (p : Past) (a b c d : ℕ) → a ≤ c → d ≤ b → TellsFrom r p a b → TellsFrom r p c d
tells_part r p a b c d low high tells = record { turns = λ j f t. tells.turns j (omega (arith, low, f)) (omega (arith, high, t)); user = λ j f t. tells.user j (omega (arith, low, f)) (omega (arith, high, t)) }

-- turns behind turns
abbrev pub made_script : Run → Past → (k i t n : ℕ) → List Call
made_script r p k zero t n = []
made_script r p k (suc i) t n = turns_script r p k t n

no_begin : (r : Run) (k i : ℕ) → k ≡ suc i → begin_script r k ≡ []
no_begin r k i e = ap (begin_script r) e

seam : (b s f c z g all last : List Call) → f ≡ [] → c ≡ [] → all ≡ s ++ z → g ≡ last → (b ++ s ++ f) ++ (c ++ z ++ g) ≡ b ++ all ++ last
seam b s f c z g all last none_f none_c is same =
    ap₂ (λ (u v : List Call). (b ++ s ++ u) ++ (v ++ z ++ g)) none_f none_c
    ∙ ap (λ (u : List Call). u ++ (z ++ g)) (append-nil (b ++ s))
    ∙ sym (append_assoc (b ++ s) z g)
    ∙ ap₂ (λ (u v : List Call). u ++ v) (append_assoc b s z ∙ ap (λ (u : List Call). b ++ u) (sym is)) same

made_join : (r : Run) (p : Past) (k i j t u n m all : ℕ) → t + n ≡ u → n + m ≡ all → (i ≡ 0 → n ≡ 0) → ((off : Option ℕ) → fault_script r.view r p u off (cvm_at r p u).status ≡ []) →
    made_script r p k i t n ++ turns_script r p (k + i) u m ≡ turns_script r p k t all
made_join r p k zero j t u n m all there sum none quiet =
    let z : n ≡ 0 = none refl in
    let a : k + 0 ≡ k = omega arith in
    let b : u ≡ t = omega (arith, there, z) in
    let c : m ≡ all = omega (arith, sum, z) in
    ap (λ q. turns_script r p q u m) a ∙ ap (λ q. turns_script r p k q m) b ∙ ap (turns_script r p k t) c
made_join r p k (suc i) j t u n m all there sum none quiet =
    let next : k + suc i ≡ suc (k + i) = omega arith in
    let end : u + m ≡ t + all = omega (arith, there, sum) in
    seam (begin_script r k) (steps_script r p t n) (fault_script r.view r p (t + n) (run r.around r.first (t + n)).off (cvm_at r p (t + n)).status) (begin_script r (k + suc i)) (steps_script r p u m)
    (fault_script r.view r p (u + m) (run r.around r.first (u + m)).off (cvm_at r p (u + m)).status) (steps_script r p t all) (fault_script r.view r p (t + all) (run r.around r.first (t + all)).off (cvm_at r p (t + all)).status)
    (ap (λ q. fault_script r.view r p q (run r.around r.first q).off (cvm_at r p q).status) there ∙ quiet (run r.around r.first u).off)
    (no_begin r (k + suc i) (k + i) next)
    (ap (steps_script r p t) (sym sum) ∙ steps_join r p t n m ∙ ap (λ q. steps_script r p t n ++ steps_script r p q m) there)
    (ap (λ q. fault_script r.view r p q (run r.around r.first q).off (cvm_at r p q).status) end)

-- WHAT WAS CALLED in i turns, up to step number `now`, of a run that was found as r
abbrev pub KeepsMade : {L O D : Type 0} → sink_of.Ghosts O → sectors_of.Ghosts D → Kept L → O → D → O → D → (budget i now : ℕ) → Type 0
KeepsMade text told r o d o1 d1 budget i now =
    (y : System) (s : State) (late held : ℕ) (old : List (List ℕ)) (k t steps : ℕ) (c : Cvm) → Bootable r.boot r.machine.rows (told.size d) y s late held old → FirstAt (outside_of r.machine.rows (told.size d)) s k t →
    budget + t ≡ steps → ReadyAt (outside_of r.machine.rows (told.size d)) y s r.view k t c (run_around r (told.sectors d) budget) → c.status ≡ Running → (turns : ℕ) (p : Past) →
    TellsFrom (run_at (outside_of r.machine.rows (told.size d)) y s r.view turns steps) p t now → (shelf : Files) →
    Performs (made_script (run_at (outside_of r.machine.rows (told.size d)) y s r.view turns steps) p k i t (now - t)) (at text told shelf o d) (at text told shelf o1 d1) None

-- the calls of turns of this boot, over these rows and this view and a disk of so many sectors, by whom they blame
abbrev TurnsAt : {L O D : Type 0} → sink_of.Ghosts O → sectors_of.Ghosts D → Kept L → Booted → Rows → View → (size budget : ℕ) → O → D → O → D → (n : ℕ) → Option Who → Type 0
TurnsAt text told r b rows v size budget o d o1 d1 n blamed =
    (u : CUnit) (y : System) (s : State) (late held : ℕ) (k t : ℕ) (c : Cvm) → y.boot ≡ boot_of b → StartsFrom (IsTypedState u) (outside_of rows size) y s late held →
    ReadyAt (outside_of rows size) y s v k t c (run_around r (told.sectors d) budget) → c.status ≡ Running → (turns steps : ℕ) (p : Past) →
    TellsFrom (run_at (outside_of rows size) y s v turns steps) p t (t + n) → (shelf : Files) →
    InTurns (run_at (outside_of rows size) y s v turns steps) p k t n (at text told shelf o d) (at text told shelf o1 d1) blamed

pub made_first : {L O D : Type 0} (text : sink_of.Ghosts O) (told : sectors_of.Ghosts D) (r : Kept L) (o : O) (d : D) (budget i now : ℕ) → i ≡ 0 → KeepsMade text told r o d o d budget i now
made_first text told r o d budget zero now none y s late held old k t steps c p starts sum ready running turns past tells shelf = done (at text told shelf o d)
made_first text told r o d budget (suc i) now none y s late held old k t steps c p starts sum ready running turns past tells shelf = absurd (omega (arith, none))

-- a run of which turns were made, and its next call
module _ {L O D : Type 0} (text : sink_of.Ghosts O) (told : sectors_of.Ghosts D) (r now : Kept L) (o o1 o2 : O) (d d1 d2 : D) (budget left i : ℕ) (kept : KeepsLoad r now) (size : told.size d1 ≡ told.size d)
    (going : KeepsGoing (told.size d) r (run_around r (told.sectors d) budget) i (run_around now (told.sectors d1) left)) (so : KeepsMade text told r o d o1 d1 budget i now.machine.time) where
  abbrev x : device.Environment
  x = outside_of r.machine.rows (told.size d)

  turns_at : (n : ℕ) (blamed : Option Who) → TurnsAt text told now now.boot now.machine.rows now.view (told.size d1) left o1 d1 o2 d2 n blamed → TurnsAt text told now r.boot r.machine.rows r.view (told.size d) left o1 d1 o2 d2 n blamed
  turns_at n blamed h =
      subst (λ (q : ℕ). TurnsAt text told now r.boot r.machine.rows r.view q left o1 d1 o2 d2 n blamed) size
      (subst (λ (v : View). TurnsAt text told now r.boot r.machine.rows v (told.size d1) left o1 d1 o2 d2 n blamed) kept.view_is
      (subst (λ (rows : Rows). TurnsAt text told now r.boot rows now.view (told.size d1) left o1 d1 o2 d2 n blamed) kept.rows_are
      (subst (λ (b : Booted). TurnsAt text told now b now.machine.rows now.view (told.size d1) left o1 d1 o2 d2 n blamed) kept.boot_is h)))

  module _ (law : (u : CUnit) → MachinesRun (IsTypedState u)) (y : System) (s : State) (late held : ℕ) (old : List (List ℕ)) (k t steps : ℕ) (c : Cvm) (p : Bootable r.boot r.machine.rows (told.size d) y s late held old) (starts : FirstAt x s k t) (sum : budget + t ≡ steps)
      (ready : ReadyAt x y s r.view k t c (run_around r (told.sectors d) budget)) (running : c.status ≡ Running) where
    abbrev g : Goes x y s r.view steps (k + i) (run_around now (told.sectors d1) left)
    g = going y s late held old k t steps c p starts sum ready

    -- the run stands no sooner than it was found
    later : t ≤ (going y s late held old k t steps c p starts sum ready).0
    later = ⊎_elim
        (λ (lt : (going y s late held old k t steps c p starts sum ready).0 < t).
        let a = starts.before (going y s late held old k t steps c p starts sum ready).0 lt in
        let b : complete x s (going y s late held old k t steps c p starts sum ready).0 ≡ k + i = (going y s late held old k t steps c p starts sum ready).2.ready.stood.all in
        absurd (omega (arith, a, b)))
        (λ (ge : t ≤ (going y s late held old k t steps c p starts sum ready).0). ge)
        (cases_lt (going y s late held old k t steps c p starts sum ready).0 t)

    -- and there where no turn was made
    no_later : i ≡ 0 → (going y s late held old k t steps c p starts sum ready).0 ≤ t
    no_later none = ⊎_elim
        (λ (lt : t < (going y s late held old k t steps c p starts sum ready).0).
        let a = (going y s late held old k t steps c p starts sum ready).2.came.before t lt in
        let b = ready.stood.all in
        absurd (omega (arith, a, b, none)))
        (λ (ge : (going y s late held old k t steps c p starts sum ready).0 ≤ t). ge)
        (cases_lt t (going y s late held old k t steps c p starts sum ready).0)

    -- so the calls of its next turns, in n steps, are those of all turns from the first on
    next_made : now.ended ≡ None → (n : ℕ) (blamed : Option Who) → TurnsAt text told now now.boot now.machine.rows now.view (told.size d1) left o1 d1 o2 d2 n blamed → (turns : ℕ) (past : Past) (all : ℕ) →
        t + all ≡ now.machine.time + n → TellsFrom (run_at x y s r.view turns steps) past t (t + all) → (shelf : Files) →
        Performs (turns_script (run_at x y s r.view turns steps) past k t all) (at text told shelf o d) (at text told shelf o2 d2) blamed
    next_made on n blamed calls turns past all there tells shelf =
        let m = machines law r.boot r.machine.rows (told.size d) y s late held old p in
        let rn : Run = run_at x y s r.view turns steps in
        let u : ℕ = (going y s late held old k t steps c p starts sum ready).0 in
        let past_c : Cvm = (going y s late held old k t steps c p starts sum ready).1 in
        let stands = (going y s late held old k t steps c p starts sum ready).2.ready in
        let time : now.machine.time ≡ u = stands.steps in
        let low = later in
        let goes : past_c.status ≡ Running = goes_on x y s r.view (k + i) u past_c (run_around now (told.sectors d1) left) stands on in
        let is : cvm_at rn past u ≡ past_c = m.same (complete x s u) (cvm_at rn past u) past_c (tells.turns u low (omega (arith, there, time))) (subst (λ q. IsCvm y (lines_of_turn x s) q past_c) (sym stands.stood.all) stands.stood.cvm) in
        let none : (off : Option ℕ) → fault_script r.view rn past u off (cvm_at rn past u).status ≡ [] = λ off. goes_none r.view rn past u off (cvm_at rn past u).status (ap (λ (q : Cvm). q.status) is ∙ goes) in
        same_script (made_script rn past k i t (now.machine.time - t) ++ turns_script rn past (k + i) u n) (turns_script rn past k t all) (at text told shelf o d) (at text told shelf o2 d2) blamed
        (made_join rn past k i i t u (now.machine.time - t) n all (omega (arith, time, low)) (omega (arith, there, time, low)) (λ z. (let high = no_later z in omega (arith, high, time))) none)
        (both (made_script rn past k i t (now.machine.time - t)) (turns_script rn past (k + i) u n) (at text told shelf o d) (at text told shelf o1 d1) (at text told shelf o2 d2) blamed
        (so y s late held old k t steps c p starts sum ready running turns past (tells_part rn past t (t + all) t now.machine.time (omega arith) (omega (arith, there)) tells) shelf)
        (in_turns rn past (k + i) u n (at text told shelf o1 d1) (at text told shelf o2 d2) blamed
        (turns_at n blamed calls (unit_view r.boot.unit) y s late held (k + i) u past_c p.same p.starts stands goes turns steps past
        (tells_part rn past t (t + all) u (u + n) low (omega (arith, there, time)) tells) shelf)))

  -- SO MANY TURNS MORE
  pub made_next : (law : (u : CUnit) → MachinesRun (IsTypedState u)) (next made : ℕ) → i + made ≡ next → 1 ≤ made → now.ended ≡ None → (n after : ℕ) → after ≡ now.machine.time + n →
      TurnsAt text told now now.boot now.machine.rows now.view (told.size d1) left o1 d1 o2 d2 n None → KeepsMade text told r o d o2 d2 budget next after
  made_next law zero made more some on n after is calls y s late held old k t steps c p starts sum ready running turns past tells shelf = absurd (omega (arith, more, some))
  made_next law (suc next) made more some on n after is calls y s late held old k t steps c p starts sum ready running turns past tells shelf =
      let low = later law y s late held old k t steps c p starts sum ready running in
      let time = (going y s late held old k t steps c p starts sum ready).2.ready.steps in
      let there : t + (after - t) ≡ after = omega (arith, is, low, time) in
      next_made law y s late held old k t steps c p starts sum ready running on n None calls turns past (after - t) (there ∙ is)
      (tells_part (run_at x y s r.view turns steps) past t after t (t + (after - t)) (omega arith) (omega (arith, there)) tells) shelf

-- what a past tells up to the end of its run
up_to : (counts : TurnLaws) (x : device.Environment) (s : State) (t u : ℕ) → t ≤ u → complete x s t ≤ complete x s u
up_to counts x s t zero le = let e : t ≡ 0 = omega (arith, le) in subst (λ (i : ℕ). complete x s i ≤ complete x s 0) (sym e) (omega arith)
up_to counts x s t (suc u) le = ⊎_elim
    (λ (lt : t < suc u). let a = up_to counts x s t u (omega (arith, lt)) in let b = counts.grows x s u in omega (arith, a, b))
    (λ (ge : suc u ≤ t). let e : t ≡ suc u = omega (arith, le, ge) in subst (λ (i : ℕ). complete x s i ≤ complete x s (suc u)) (sym e) (omega arith))
    (cases_lt t (suc u))

pub past_tells : (counts : TurnLaws) (r : Run) (p : Past) (a b : ℕ) → IsPast r p → b ≤ steps_made r → TellsFrom r p a b
past_tells counts r p a b past most = record {
  turns = λ j low high. past.turns (complete r.around r.first j) (up_to counts r.around r.first j (steps_made r) (omega (arith, high, most)));
  user = λ j low high. past.user j (omega (arith, high, most));
}

-- where turns broke off the whole script does
broken_on : (counts : TurnLaws) (x : device.Environment) (y : System) (s : State) (v : View) (turns steps : ℕ) (p : Past) (k t n : ℕ) → t + n ≤ end_within x s turns steps → (old new : Outside) (whom : Who) →
    Performs (turns_script (run_at x y s v turns steps) p k t n) old new (Some whom) → Performs (turns_script (run_at x y s v turns steps) p k t (end_within x s turns steps - t)) old new (Some whom)
broken_on counts x y s v turns steps p k t n le old new whom made = ⊎_elim
    (λ (lt : t + n < end_within x s turns steps).
    let rn : Run = run_at x y s v turns steps in
    let all : ℕ = end_within x s turns steps - t in
    let rest : ℕ = all - n in
    let sum : n + rest ≡ all = omega (arith, lt) in
    let none : fault_script v rn p (t + n) (run x s (t + n)).off (cvm_at rn p (t + n)).status ≡ [] =
    ap (λ (off : Option ℕ). fault_script v rn p (t + n) off (cvm_at rn p (t + n)).status) (on_before counts x s turns steps (t + n) lt) in
    let most : Performs (begin_script rn k ++ steps_script rn p t n) old new (Some whom) =
    same_script (turns_script rn p k t n) (begin_script rn k ++ steps_script rn p t n) old new (Some whom)
    (ap (λ (l : List Call). begin_script rn k ++ steps_script rn p t n ++ l) none ∙ append-nil (begin_script rn k ++ steps_script rn p t n)) made in
    let more : begin_script rn k ++ steps_script rn p t n ++ steps_script rn p (t + n) rest ≡ begin_script rn k ++ steps_script rn p t all =
    append_assoc (begin_script rn k) (steps_script rn p t n) (steps_script rn p (t + n) rest) ∙ ap (λ (l : List Call). begin_script rn k ++ l) (sym (steps_join rn p t n rest) ∙ ap (steps_script rn p t) sum) in
    first (begin_script rn k ++ steps_script rn p t all) (fault_script v rn p (t + all) (run x s (t + all)).off (cvm_at rn p (t + all)).status) old new whom
    (same_script (begin_script rn k ++ steps_script rn p t n ++ steps_script rn p (t + n) rest) (begin_script rn k ++ steps_script rn p t all) old new (Some whom) more
    (first (begin_script rn k ++ steps_script rn p t n) (steps_script rn p (t + n) rest) old new whom most)))
    (λ (ge : end_within x s turns steps ≤ t + n).
    let e : n ≡ end_within x s turns steps - t = omega (arith, le, ge) in
    subst (λ q. Performs (turns_script (run_at x y s v turns steps) p k t q) old new (Some whom)) e made)
    (cases_lt (t + n) (end_within x s turns steps))

-- HOW FAR TURNS CAME THAT FAILED: to no later step than the headline's, and where they are out of steps just to that
module _ (counts : TurnLaws) (x : device.Environment) (y : System) (s : State) (v : View) (turns steps i t : ℕ) (c : Cvm) (most : ℕ) (before after : Around) (room : i + most ≤ turns) (g : Going x y s v steps i t c before) where
  fail_within : (f : RunFault) → Broken x y s t (i + most) before after f → after.steps ≤ end_within x s turns steps
  fail_within f w =
      let spent = g.came.spent in
      let within = w.most in
      no_sooner counts x s turns steps after.steps (omega (arith, spent, within)) (λ j h. ⊎_elim
      (λ (l : j < t). not_before x y s turns steps i t c before.budget (omega (arith, room)) g.came j l)
      (λ (ge : t ≤ j). let e = w.fewer j ge h in no_end x s turns j (λ f. omega (arith, e, f, room)) (w.on j h))
      (cases_lt j t))

  fail_end : (f : RunFault) → TurnsEnd x y s v i t c most before after (Err f) → (of_run f ≡ None → after.steps ≡ end_within x s turns steps) × (after.steps ≤ end_within x s turns steps)
  fail_end StepLimit (n, lt, le, w, fails) =
      let spent = g.came.spent in
      let time : after.steps ≡ t + n + (before.budget - n) = fails.steps in
      let here : t + n + (before.budget - n) ≡ steps = omega (arith, spent, le) in
      let came = came_on x y s steps i t c before.budget g.came n le w in
      let none : (j : ℕ) → j < suc steps → is_end x s turns j ≡ false = λ j h.
      goes_on_to counts x y s turns steps (i + n) (t + n) w.after (record before { budget = before.budget - n }) after (omega (arith, room, lt)) came j (λ ge. fails.between j ge (omega (arith, h, here))) (fails.on j (omega (arith, h, here))) in
      let end : end_within x s turns steps ≡ steps = (counts.none x s turns steps (none (end_within x s turns steps) (let h = end_most x s turns steps in omega (arith, h)))).0 in
      (λ _. omega (arith, time, here, end), omega (arith, time, here, end))
  fail_end Disk w = (λ e. absurd (let h = e in cc), fail_within Disk w)
  fail_end Sink w = (λ e. absurd (let h = e in cc), fail_within Sink w)

-- THE LOOP FAILED
module _ {L O D : Type 0} (text : sink_of.Ghosts O) (told : sectors_of.Ghosts D) (r now new : Kept L) (o o1 o2 : O) (d d1 d2 : D) (budget middle left i turns : ℕ) (kept : KeepsLoad r now) (size : told.size d1 ≡ told.size d) (law : (u : CUnit) → MachinesRun (IsTypedState u)) (counts : TurnLaws)
    (going : KeepsGoing (told.size d) r (run_around r (told.sectors d) budget) i (run_around now (told.sectors d1) middle)) (so : KeepsMade text told r o d o1 d1 budget i now.machine.time)
    (some_made : SomeMake {T = Unit {0}} text told (o, d) (o1, d1) (Ok tt)) (fine : now.fault ≡ None) where
  pub go_broke : {R T : Type 0} (f : RunFault) (most : ℕ) → i + most ≤ turns → now.ended ≡ None → TurnsRun (told.size d1) now most (run_around now (told.sectors d1) middle) (run_around new (told.sectors d2) left) (Err f) →
      (n : ℕ) → new.machine.time ≡ now.machine.time + n → TurnsCall {T = R} text told now middle (o1, d1) (o2, d2) n (Err f) → GoCalls {T = T} text told r turns budget (o, d) (o2, d2) (Err f)
  go_broke {R} {T} f most room on runs n time calls = record {
    exact = λ y s late held old k t wanted steps c p starts some more sum ready running past is shelf.
        let x = outside_of r.machine.rows (told.size d) in
        let g = going y s late held old k t steps c p starts sum ready in
        let u : ℕ = g.0 in
        let stands : now.machine.time ≡ u = g.2.ready.steps in
        let low = later text told r now o o1 o2 d d1 d2 budget middle i kept size going so law y s late held old k t steps c p starts sum ready running in
        let ends = fail_end counts x y s r.view wanted steps (k + i) u g.1 most (run_around now (told.sectors d1) middle) (run_around new (told.sectors d2) left) (omega (arith, room, more)) g.2 f
        (turns_end (told.size d) (told.size d1) r now kept size most (run_around now (told.sectors d1) middle) (run_around new (told.sectors d2) left) (Err f) runs y s late held old (k + i) u g.1 p g.2.ready
        (goes_on x y s r.view (k + i) u g.1 (run_around now (told.sectors d1) middle) g.2.ready on)) in
        let within : new.machine.time ≤ end_within x s wanted steps = ends.1 in
        let all : t + (new.machine.time - t) ≡ now.machine.time + n = omega (arith, time, stands, low) in
        let made = next_made text told r now o o1 o2 d d1 d2 budget middle i kept size going so law y s late held old k t steps c p starts sum ready running on n (of_run f) calls.exact wanted past (new.machine.time - t) all
        (past_tells counts (run_at x y s r.view wanted steps) past t (t + (new.machine.time - t)) is (omega (arith, all, time, within))) shelf in
        by f refl x y s wanted steps (λ e. ends.0 e) past k t (new.machine.time - t) (omega (arith, all, time)) (omega (arith, all, time, within)) shelf made;
    some = (
      some_made.0 ++ (calls.some fine).0,
      of_both some_made.0 (calls.some fine).0 some_made.1 (calls.some fine).1,
      λ shelf. both some_made.0 (calls.some fine).0 (at text told shelf o d) (at text told shelf o1 d1) (at text told shelf o2 d2) (of_run f) (some_made.2 shelf) ((calls.some fine).2 shelf),
    );
  }
    where
      by : (f' : RunFault) → f' ≡ f → (x : device.Environment) (y : System) (s : State) (wanted steps : ℕ) → (of_run f' ≡ None → new.machine.time ≡ end_within x s wanted steps) → (past : Past) (k t n : ℕ) → t + n ≡ new.machine.time → t + n ≤ end_within x s wanted steps → (shelf : Files) →
          Performs (turns_script (run_at x y s r.view wanted steps) past k t n) (at text told shelf o d) (at text told shelf o2 d2) (of_run f') →
          Performs (turns_script (run_at x y s r.view wanted steps) past k t (end_within x s wanted steps - t)) (at text told shelf o d) (at text told shelf o2 d2) (of_run f')
      by StepLimit e x y s wanted steps limit past k t n time within shelf made =
          let last = limit refl in
          let same : n ≡ end_within x s wanted steps - t = omega (arith, time, last) in
          subst (λ q. Performs (turns_script (run_at x y s r.view wanted steps) past k t q) (at text told shelf o d) (at text told shelf o2 d2) None) same made
      by Disk e x y s wanted steps limit past k t n time within shelf made = broken_on counts x y s r.view wanted steps past k t n within (at text told shelf o d) (at text told shelf o2 d2) TheDisk made
      by Sink e x y s wanted steps limit past k t n time within shelf made = broken_on counts x y s r.view wanted steps past k t n within (at text told shelf o d) (at text told shelf o2 d2) TheSink made

-- OR IT CAME TO ITS END
module _ {L O D : Type 0} (text : sink_of.Ghosts O) (told : sectors_of.Ghosts D) (r new : Kept L) (o o1 : O) (d d1 : D) (budget left i turns : ℕ) (law : (u : CUnit) → MachinesRun (IsTypedState u)) (counts : TurnLaws) (so : KeepsMade text told r o d o1 d1 budget i new.machine.time)
    (some_made : SomeMake {T = Unit {0}} text told (o, d) (o1, d1) (Ok tt)) where
  pub go_came : GoRuns (told.size d) r turns (run_around r (told.sectors d) budget) (run_around new (told.sectors d1) left) (Ok tt) → (i ≡ 0 → ((turns ≡ 0) × (new.machine.time ≡ r.machine.time)) ⊎ IsSome r.ended) →
      GoCalls {T = Unit {0}} text told r turns budget (o, d) (o1, d1) (Ok tt)
  go_came gone none = record {
    exact = λ y s late held old k t wanted steps c p starts some more sum ready running past is shelf.
        let x = outside_of r.machine.rows (told.size d) in
        let w = gone y s late held old k t wanted steps c p starts some more sum ready in
        let end : end_within x s wanted steps ≡ w.at = counts.ends x s wanted steps w.at w.end w.within in
        let time : new.machine.time ≡ w.at = w.ready.steps in
        let found : r.machine.time ≡ t = ready.steps in
        let m = machines law r.boot r.machine.rows (told.size d) y s late held old p in
        same_script (made_script (run_at x y s r.view wanted steps) past k i t (new.machine.time - t)) (turns_script (run_at x y s r.view wanted steps) past k t (end_within x s wanted steps - t)) (at text told shelf o d) (at text told shelf o1 d1) None
        (by i (λ z. ⊎_elim (λ (h : (turns ≡ 0) × (new.machine.time ≡ r.machine.time)). h) (λ (h : IsSome r.ended). absurd (no_some r.ended (ready.ended ∙ ap ended_of running) h)) (none z)) x y s late held m wanted steps past k t c ready.stood.cvm ready.stood.all running more some found (λ j low high. (past_tells counts (run_at x y s r.view wanted steps) past t (end_within x s wanted steps) is (omega arith)).turns j low high) (new.machine.time - t) (omega (arith, time, end)) (omega (arith, time, end)))
        (so y s late held old k t steps c p starts sum ready running wanted past (past_tells counts (run_at x y s r.view wanted steps) past t new.machine.time is (omega (arith, time, end))) shelf);
    some = some_made;
  }
    where
      no_some : (e : Option Next) → e ≡ None → IsSome e → ⊥
      no_some None e h = cc
      no_some (Some n) e h = absurd (cc)

      by : (i : ℕ) → (i ≡ 0 → (turns ≡ 0) × (new.machine.time ≡ r.machine.time)) → (x : device.Environment) (y : System) (s : State) (late held : ℕ) → RunMachines x y s late held → (wanted steps : ℕ) (past : Past) (k t : ℕ) (c : Cvm) → IsCvm y (lines_of_turn x s) k c → complete x s t ≡ k → c.status ≡ Running → k + turns ≡ wanted → 1 ≤ wanted → r.machine.time ≡ t →
          ((j : ℕ) → t ≤ j → j ≤ end_within x s wanted steps → IsCvm y (lines_of_turn x s) (complete x s j) (past.cvm (complete x s j))) → (n : ℕ) → n ≡ end_within x s wanted steps - t → end_within x s wanted steps ≡ new.machine.time →
          made_script (run_at x y s r.view wanted steps) past k i t n ≡ turns_script (run_at x y s r.view wanted steps) past k t (end_within x s wanted steps - t)
      by zero h x y s late held m wanted steps past k t c cvm all running more some found tells n is end =
          let rn : Run = run_at x y s r.view wanted steps in
          let z = (h refl).0 in
          let still = (h refl).1 in
          let one : k ≡ suc (k - 1) = omega (arith, z, more, some) in
          let none : end_within x s wanted steps - t ≡ 0 = omega (arith, end, still, found) in
          let here : t + (end_within x s wanted steps - t) ≡ t = omega (arith, none) in
          let same : cvm_at rn past t ≡ c = m.same k (cvm_at rn past t) c (subst (λ q. IsCvm y (lines_of_turn x s) q (cvm_at rn past t)) all (tells t (omega arith) (omega (arith, end, still, found)))) cvm in
          sym (ap₂ (λ (a b : List Call). a ++ b ++ fault_script r.view rn past (t + (end_within x s wanted steps - t)) (run x s (t + (end_within x s wanted steps - t))).off (cvm_at rn past (t + (end_within x s wanted steps - t))).status) (no_begin rn k (k - 1) one)
          (ap (steps_script rn past t) none ∙ scripts-none (λ j. step_script rn past (t + j)))
          ∙ ap (λ q. fault_script r.view rn past q (run x s q).off (cvm_at rn past q).status) here
          ∙ goes_none r.view rn past t (run x s t).off (cvm_at rn past t).status (ap (λ (q : Cvm). q.status) same ∙ running))
      by (suc i) h x y s late held m wanted steps past k t c cvm all running more some found tells n is end = ap (turns_script (run_at x y s r.view wanted steps) past k t) is
