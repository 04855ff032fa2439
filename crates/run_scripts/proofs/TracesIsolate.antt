-- What a trace that came to its end shows of a user is its journal, which its machine replays.
use Rattle.std.specs.Prelude.{Some, not, nat_lt, ◌||◌, ◌==◌}
use Rattle.std.proofs.Common.{◌≡◌, ℕ, zero, suc, ◌<◌, ◌≤◌, Bool, true, false, List, [], ◌++◌, length, refl, sym, ap, ◌∙◌, subst, arith, append-nil}
use Rattle.std.proofs.lemmas.Bool.{cond-true, cond-false, le-ltb}
use Rattle.mips_table.specs.Device.{Environment}
use Rattle.mips_table.specs.Machine.{State, run}
use Rattle.mips_table.specs.Turns.{in_user, is_on, rests, turn_of, complete, is_end}
use Rattle.cvm_model.specs.Cvm.{Cvm}
use Rattle.cvm_model.specs.Journal.{Isolated as ReplaysUsers, journal, replay}
use Rattle.cvm_model.specs.Kernel.{JournalEntry}
use Rattle.cvm_model.specs.KernelMeaning.{UnitsReplay}
use Rattle.cvm_model.specs.Primitives.{user_of}
use Rattle.boot_turns.specs.Trace.{Shown, entries_so_far}
use Rattle.boot_turns.specs.declared.answers.View.{View}
use Rattle.boot_turns.specs.Runs.{Run, IsShown, lines_met, steps_made, turns_at}
use Rattle.boot_turns.specs.TurnEnds.{first_user_machine}
use Rattle.boot_run.specs.RunEnds.{SeesUser}
use Rattle.run_scripts.specs.SessionRuns.{run_of}
use Rattle.run_scripts.proofs.PromisesByRuns.{TracesIsolate}
use Rattle.run_scripts.specs.Keys.{LawsOfRuns}
use Rattle.run_scripts.proofs.KeysOfEachRun.{known}
use Rattle.boot_run.proofs.AbstractRuns.{not_ended}
use Rattle.run_scripts.proofs.RowsAlongRuns.{Known}

true_false : (b : Bool) → b ≡ true → b ≡ false → ⊥
true_false b e f = cc

off_rests : (a b : Bool) → (a || b) ≡ false → b ≡ false
off_rests true b e = absurd (cc)
off_rests false b e = e

is_on_still : (s : State) → rests s ≡ false → not (is_on s) ≡ false
unfolding rests
is_on_still s e = off_rests (in_user s) (not (is_on s)) e

left_of : (a b : Bool) → (a || b) ≡ true → b ≡ false → a ≡ true
left_of true b e f = refl
left_of false b e f = absurd (cc)

or_left : (a b : Bool) → a ≡ true → (a || b) ≡ true
or_left true b e = refl
or_left false b e = absurd (cc)

-- at the first end all turns that began are complete
all_there : (x : Environment) (s : State) (k t : ℕ) → is_end x s k t ≡ true → ((j : ℕ) → j < t → is_end x s k j ≡ false) → complete x s t ≡ turn_of x s t
all_there x s k zero e before = refl
all_there x s k (suc t) e before = by (rests (run x s (suc t))) refl
  where
    by : (b : Bool) → rests (run x s (suc t)) ≡ b → complete x s (suc t) ≡ turn_of x s (suc t)
    by true r = cond-true (rests (run x s (suc t))) (turn_of x s (suc t)) (complete x s t) r
    by false r =
        let same : complete x s (suc t) ≡ complete x s t = cond-false (rests (run x s (suc t))) (turn_of x s (suc t)) (complete x s t) r in
        let here : (complete x s (suc t) == k) ≡ true = left_of (complete x s (suc t) == k) (not (is_on (run x s (suc t)))) e (is_on_still (run x s (suc t)) r) in
        let there : (complete x s t == k) ≡ true = ap (λ (n : ℕ). n == k) (sym same) ∙ here in
        absurd (true_false (is_end x s k t) (or_left (complete x s t == k) (not (is_on (run x s t))) there) (before t (omega arith)))

pub traces_isolate : LawsOfRuns → ReplaysUsers → UnitsReplay → TracesIsolate
traces_isolate law isolated replays words session s rows before old u p a v is e =
    let r : Run = run_of session s rows old.disk.size before in
    let k : Known r = known law words _ session s rows before old a in
    let n : ℕ = turns_at r (steps_made r) in
    let see : (1 ≤ u) × (u ≤ length s.users) = subst (λ (w : View). SeesUser w (length s.users)) v a.user in
    let h : Shown r.around r.first r.system u (steps_made r) (p.shown (steps_made r)) = subst (λ (w : View). IsShown w r (steps_made r) (p.shown (steps_made r))) v (is.user (steps_made r) (omega arith)) in
    let same : h.past ≡ p.cvm n = k.machines.same n h.past (p.cvm n) (record { units = h.units; is = h.cvm }) (is.turns n (omega arith)) in
    let all : complete r.around r.first (steps_made r) ≡ turn_of r.around r.first (steps_made r) =
    all_there r.around r.first r.turns (steps_made r) e (λ j lt. not_ended law.count r.around r.first r.turns r.steps j lt) in
    let none : nat_lt (complete r.around r.first (steps_made r)) (turn_of r.around r.first (steps_made r)) ≡ false = le-ltb _ _ (omega (arith, all)) in
    let shown : p.shown (steps_made r) ≡ journal r.system (lines_met r) h.units u n =
    h.is ∙ ap (λ (l : List JournalEntry). journal r.system (lines_met r) h.units u n ++ l)
    (cond-false (nat_lt (complete r.around r.first (steps_made r)) (turn_of r.around r.first (steps_made r))) (entries_so_far r.around r.first r.system h.units u (steps_made r)) [] none)
    ∙ append-nil (journal r.system (lines_met r) h.units u n) in
    record {
      units = h.units;
      turns = n;
      turns_are = refl;
      within = h.cvm ∙ ap (λ (c : Cvm). Some c) same;
      journal_is = shown;
      replayed = ap (replay (first_user_machine r.system u)) shown ∙ isolated r.system (lines_met r) h.units n u h.past (replays s.unit s.params) see.0 see.1 h.cvm
          ∙ ap (λ (c : Cvm). Some (user_of c.core.users u)) same;
    }
