-- A dispatch: from the step that begins it to the moment at which the turn is complete.
use Rattle.std.proofs.Common.{◌*◌, ◌≡◌, ◌≢◌, ℕ, suc, ◌+◌, ◌-◌, ◌<◌, ◌≤◌, Bool, true, false, None, refl, sym, ap, ap₂, ◌∙◌, subst, ⊎_elim, arith}
use Rattle.std.specs.Prelude.{bit_or, ℤ, slice_index}
use Rattle.std.proofs.lemmas.Bool.{cases_lt}
use Rattle.mips_table.specs.Arith.{signed}
use Rattle.mips_table.specs.Device.{Environment, LinesEnd}
use Rattle.mips_table.specs.Machine.{State, latched, run}
use Rattle.mips_table.specs.Turns.{begins_turn, rests, is_on, in_user, turn_of, complete, gathered, lines_of_turn}
use Rattle.c0_meaning.specs.State.{C0State}
use Rattle.layer_contract.specs.declared.registers.TheConstants.{ANSWER}
use Rattle.layer_contract.specs.declared.entry.Entry.TheVariants.{Fault as Exit, Leave}
use Rattle.cvm_model.specs.Kernel.{Core, KernelMeaning, DispatchOutcome, DispatchEnd, Answers, Faults, NotYet, power_of}
use Rattle.cvm_model.specs.declared.kernel_fault.KernelFault.{KernelFault}
use Rattle.cvm_model.specs.declared.kernel_fault.KernelFault.TheVariants.{BadUser}
use Rattle.cvm_model.specs.declared.row.Next.{Next}
use Rattle.cvm_model.specs.declared.row.Next.TheVariants.{Fault}
use Rattle.cvm_model.specs.Cvm.{Status, Running, Halted, Faulted, next_of, status_of, leave_steps, run_steps}
use Rattle.cvm_model.specs.Stands.{Site}
use Rattle.layer_contract.specs.Layer.{Inside, ComesBy, IsAtEntry, IsEntry, DispatchCalled, BusyWithin, Rests, Rested}
use Rattle.layer_contract.specs.Follows.{IsKernelDoor, EndsAs, KernelRuns}
use Rattle.boot_turns.proofs.MasksAndTimes.{both_right, inside_rests, user_rests, off_rests, time_is}
use Rattle.boot_turns.proofs.LinesOfTurns.{or_associates, turn_more, turn_grows, gathers, gathered_none, lines_settled, still, completes_at}
use Rattle.boot_turns.proofs.NoTurnBegins.{later, Stays, user_sectors, way_stays, Arrives, absolute, joins, Passed, through}

-- the mask at the step that begins turn k
pub mask_begins : (x : Environment) (s : State) → LinesEnd x → s.time ≡ 0 → (k m t : ℕ) → Passed x s k m t → (run x s t).off ≡ None → begins_turn x (run x s t) ≡ true →
    (latched x (run x s t)).mask ≡ bit_or m (lines_of_turn x s k)
mask_begins x s ends z k m t w on b =
    let more : turn_of x s (suc t) ≡ suc k = turn_more x s t b ∙ ap suc w.turn in
    let time : x.lines (run x s t).time ≡ x.lines (s.time + t) = ap x.lines (time_is x s z t on) in
    ap₂ bit_or w.mask time ∙ or_associates m (gathered x s k t) (x.lines (s.time + t))
    ∙ ap (bit_or m) (sym (gathers x s k t w.turn) ∙ sym (lines_settled x s ends k (suc t) (omega (arith, more))))

-- nothing is gathered for the next turn when turn k begins
pub none_yet : (x : Environment) (s : State) (k t : ℕ) → turn_of x s t ≡ k → gathered x s (suc k) (suc t) ≡ 0
none_yet x s k t e = gathered_none x s (suc k) (suc t) (λ j l. let g = turn_grows x s j t (omega arith) in omega (arith, g, e))

-- a turn that began before t has ended at u
pub record Closed (x : Environment) (s : State) (y : Site) (c : Core) (next : Next) (k m cost t u : ℕ) : Type 0 where
  pub within : u ≤ t + cost
  pub to : t < u
  pub rested : Rested x y next c (run x s u)
  pub way : Passed x s (suc k) m u
  pub all : complete x s u ≡ suc k
  pub between : (j : ℕ) → t ≤ j → j < u → complete x s j ≡ k
  pub inside : (j : ℕ) → t ≤ j → j < u → Inside (run x s j)
  pub stays : (j : ℕ) → t ≤ j → j < u → Stays x (user_sectors y) s j

status_rests : (b : Status) (s : State) → Rests b s → rests s ≡ true
status_rests Running s r = user_rests s (both_right (is_on s) (in_user s) r)
status_rests Halted s r = off_rests s 0 r
status_rests (Faulted f) s r = off_rests s (power_of f) r

true_false : (b : Bool) → b ≡ true → b ≡ false → ⊥
true_false b e f = cc

closed : (x : Environment) (s : State) → s.time ≡ 0 → (y : Site) (c : Core) (next : Next) (k m cost t u : ℕ) → u ≤ t + cost → 0 < t → Inside (run x s t) → Arrives x (user_sectors y) s t u (Rested x y next c) →
    Passed x s (suc k) m t → complete x s t ≡ k → Closed x s y c next k m cost t u
closed x s z y c next k m cost t u within some i a w all =
    let r : rests (run x s u) ≡ true = status_rests (status_of next) _ a.there.rests in
    let le : t ≤ u = a.from in
    let lt : t < u = ⊎_elim (λ (l : t < u). l) (λ (g : u ≤ t). let e : u ≡ t = omega arith in absurd (true_false _ (subst (λ i. rests (run x s i) ≡ true) e r) (inside_rests _ i))) (cases_lt t u) in
    let w2 = through x s z (suc k) m t u le a.inside w in
    record {
      within = within;
      to = lt;
      rested = a.there;
      way = w2;
      all = completes_at x s u (omega (arith, lt)) r ∙ w2.turn;
      between = λ j l h. still x s t j l (λ o f g. inside_rests _ (a.inside o (omega arith) (omega arith))) ∙ all;
      inside = a.inside;
      stays = a.stays;
    }

sums : (t enter leave cost u v w : ℕ) → u ≤ t + enter → v ≤ u + cost → w ≤ v + leave → w ≤ t + (enter + (leave + cost))
sums t enter leave cost u v w a b c = omega (arith, a, b, c)

-- what is known for every dispatch
pub record Known (x : Environment) (y : Site) (longest : ℕ) (Typed : C0State → Type 0) (e : KernelMeaning) : Type 0 where
  pub laws_leave : (s : State) (c : Core) → IsAtEntry x y Leave c s → ComesBy x y IsEntry leave_steps s (Rested x y (next_of y.map.users (signed (slice_index s.cpu.regs ANSWER))) c)
  pub laws_exit : (s : State) (c : Core) (f : KernelFault) → f ≢ BadUser → IsAtEntry x y (Exit (power_of f)) c s → ComesBy x y IsEntry leave_steps s (Rested x y (Fault f) c)
  pub runs : KernelRuns y Typed e
  pub busy : BusyWithin x longest
  pub proper : (n : ℕ) (c : Core) (cause edata user : ℤ) → (e.dispatch n c cause edata user).end ≢ Faults BadUser

-- a dispatch from step t on, by how it ends within n units
abbrev pub Came : Environment → State → Site → ℕ → (k m t enter n : ℕ) → DispatchOutcome → DispatchEnd → Type 0
Came x s y longest k m t enter n o (Answers a) = (u : ℕ) × Closed x s y o.after (next_of y.map.users a) k m (enter + (leave_steps + run_steps y.map longest o.units o.pages)) t u
Came x s y longest k m t enter n o (Faults f) = (u : ℕ) × Closed x s y o.after (Fault f) k m (enter + (leave_steps + run_steps y.map longest o.units o.pages)) t u
Came x s y longest k m t enter n o NotYet = (j : ℕ) → t ≤ j → 8388608 * j ≤ n → Inside (run x s j) × ((i : ℕ) → t ≤ i → i < j → Stays x (user_sectors y) s i)

pub dispatches : (x : Environment) (s : State) → s.time ≡ 0 → (y : Site) (longest : ℕ) (Typed : C0State → Type 0) (e : KernelMeaning) → Known x y longest Typed e → (k m t enter n : ℕ) (cause edata user : ℤ) (c : Core) →
    0 < t → Inside (run x s t) → Typed c.c0 → ComesBy x y IsEntry enter (run x s t) (DispatchCalled x y c cause edata user) → Passed x s (suc k) m t → complete x s t ≡ k →
    Came x s y longest k m t enter n (e.dispatch n c cause edata user) (e.dispatch n c cause edata user).end
dispatches x s z y longest Typed e known k m t enter n cause edata user c some here typed comes w all =
    let a1 = absolute x y IsEntry s enter t (DispatchCalled x y c cause edata user) comes in
    by a1.0 a1.1 a1.2 (e.dispatch n c cause edata user).end refl
    (known.runs x longest n (run x s a1.0) c cause edata user (record { busy = known.busy; typed = typed; called = a1.1.there }))
  where
    by : (u : ℕ) → Arrives x (user_sectors y) s t u (DispatchCalled x y c cause edata user) → u ≤ t + enter → (end : DispatchEnd) → (e.dispatch n c cause edata user).end ≡ end → EndsAs x longest y n (run x s u) (e.dispatch n c cause edata user) end → Came x s y longest k m t enter n (e.dispatch n c cause edata user) end
    by u a w1 (Answers b) eo r =
        let a2 = absolute x y IsKernelDoor s (run_steps y.map longest (e.dispatch n c cause edata user).units (e.dispatch n c cause edata user).pages) u (λ r. IsAtEntry x y Leave (e.dispatch n c cause edata user).after r × (signed (slice_index r.cpu.regs ANSWER) ≡ b)) r in
        let left = subst (λ i. ComesBy x y IsEntry leave_steps (run x s a2.0) (Rested x y (next_of y.map.users i) (e.dispatch n c cause edata user).after)) a2.1.there.1 (known.laws_leave (run x s a2.0) (e.dispatch n c cause edata user).after a2.1.there.0) in
        let a3 = absolute x y IsEntry s leave_steps a2.0 (Rested x y (next_of y.map.users b) (e.dispatch n c cause edata user).after) left in
        let a4 = joins x (user_sectors y) s t u a2.0 _ _ a a2.1 in
        let a5 = joins x (user_sectors y) s t a2.0 a3.0 _ _ a4 a3.1 in
        (a3.0, closed x s z y (e.dispatch n c cause edata user).after (next_of y.map.users b) k m (enter + (leave_steps + run_steps y.map longest (e.dispatch n c cause edata user).units (e.dispatch n c cause edata user).pages)) t a3.0 (let w2 = a2.2 in let w3 = a3.2 in sums t enter leave_steps (run_steps y.map longest (e.dispatch n c cause edata user).units (e.dispatch n c cause edata user).pages) u a2.0 a3.0 w1 w2 w3) some here a5 w all)
    by u a w1 (Faults f) eo r =
        let a2 = absolute x y IsKernelDoor s (run_steps y.map longest (e.dispatch n c cause edata user).units (e.dispatch n c cause edata user).pages) u (IsAtEntry x y (Exit (power_of f)) (e.dispatch n c cause edata user).after) r in
        let a3 = absolute x y IsEntry s leave_steps a2.0 (Rested x y (Fault f) (e.dispatch n c cause edata user).after) (known.laws_exit (run x s a2.0) (e.dispatch n c cause edata user).after f (λ bad. known.proper n c cause edata user (eo ∙ ap Faults bad)) a2.1.there) in
        let a4 = joins x (user_sectors y) s t u a2.0 _ _ a a2.1 in
        let a5 = joins x (user_sectors y) s t a2.0 a3.0 _ _ a4 a3.1 in
        (a3.0, closed x s z y (e.dispatch n c cause edata user).after (Fault f) k m (enter + (leave_steps + run_steps y.map longest (e.dispatch n c cause edata user).units (e.dispatch n c cause edata user).pages)) t a3.0 (let w2 = a2.2 in let w3 = a3.2 in sums t enter leave_steps (run_steps y.map longest (e.dispatch n c cause edata user).units (e.dispatch n c cause edata user).pages) u a2.0 a3.0 w1 w2 w3) some here a5 w all)
    by u a w1 NotYet eo r = λ j le small. ⊎_elim
        (λ (lt : j < u). (a.inside j le lt, λ i l h. a.stays i l (omega arith)))
        (λ (ge : u ≤ j). let d : u + (j - u) ≡ j = omega arith in let w = r (j - u) (omega arith) in (
          subst Inside (later x s u (j - u) ∙ ap (run x s) d) w.1,
          λ i l h. ⊎_elim (λ (lt : i < u). a.stays i l lt) (λ (up : u ≤ i). way_stays x y IsKernelDoor s (j - u) u (i - u) i (omega arith) (omega arith) w.0) (cases_lt i u),
        ))
        (cases_lt j u)
