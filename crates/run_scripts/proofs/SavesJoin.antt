-- What a save does before it puts the file, and what a resume of it does, are what the boot does.
use Rattle.std.specs.Prelude.{if◌then◌else◌}
use Rattle.std.proofs.Common.{◌≡◌, ℕ, suc, ◌+◌, ◌-◌, ◌<◌, ◌≤◌, Bool, true, List, [], ◌++◌, length, drop, sym, ap, ap₂, ◌∙◌, subst, arith, append-nil, append_assoc}
use Rattle.mips_table.specs.Turns.{TurnLaws}
use Rattle.mips_machine.specs.Steps.{script_of_step}
use Rattle.cvm_model.specs.Cvm.{Cvm, Status, Running, UnitsDontMatter}
use Rattle.cvm_model.specs.Text.{rows_text}
use Rattle.cvm_outside.specs.Script.{Call}
use Rattle.boot_turns.specs.declared.answers.View.{View}
use Rattle.boot_turns.specs.declared.answers.View.TheVariants.{Boot}
use Rattle.boot_turns.specs.Runs.{Run, Past, IsPast, IsShown, state_at, steps_made, has_ended, cvm_at}
use Rattle.boot_turns.specs.StepScript.{prints, rows_script, step_script, steps_script}
use Rattle.boot_turns.specs.TurnScript.{StepsJoin}
use Rattle.boot_turns.proofs.ShownRows.{scripts-same}
use Rattle.boot_run.specs.Closing.{opening_script, closing_script}
use Rattle.boot_run.specs.RunScript.{rest_script, run_script, leaving_script, save_script}
use Rattle.run_scripts.specs.Saving.{AreJoined, ScriptsJoin}
use Rattle.run_scripts.proofs.KeysOfEachRun.{pasts_agree}
use Rattle.boot_run.proofs.AbstractRuns.{turns_up_to}
use Rattle.run_scripts.proofs.TurnsRise.{no_later}

-- A RUN FOR FEWER TURNS and steps of the same machine
abbrev pub cut : Run → (turns steps : ℕ) → Run
cut r k a = record r { turns = k; steps = a }

module _ (count : TurnLaws) (r : Run) (k a : ℕ) (few : k ≤ r.turns) (less : a ≤ r.steps) (boot : r.view ≡ Boot) (ended : has_ended (cut r k a) ≡ true) where
  pub made_fewer : steps_made (cut r k a) ≤ steps_made r
  made_fewer = no_later count r.around r.first k r.turns a r.steps few less ended

  -- has the same past
  pub past_before : (p : Past) → IsPast r p → IsPast (cut r k a) p
  past_before p is = record {
    turns = λ n le. let up = turns_up_to count r (steps_made (cut r k a)) (steps_made r) made_fewer in is.turns n (omega (arith, le, up));
    user = λ t le. subst (λ (v : View). IsShown v (cut r k a) t (p.shown t)) (sym boot) tt;
  }

  module _ (p o : Past) (same : (t : ℕ) → t ≤ steps_made (cut r k a) → cvm_at (cut r k a) o t ≡ cvm_at r p t) where
    step_same : (t : ℕ) → t < steps_made (cut r k a) → step_script (cut r k a) o t ≡ step_script r p t
    step_same t lt =
        let rows : Cvm → Cvm → List Call = λ c d. script_of_step r.around (state_at r t) ++ prints (rows_text (drop (length c.rows) d.rows)) in
        ap (λ (v : View). script_of_step r.around (state_at r t) ++ rows_script v (cut r k a) o t) boot
        ∙ ap₂ rows (same t (omega (arith, lt))) (same (suc t) (omega (arith, lt)))
        ∙ sym (ap (λ (v : View). script_of_step r.around (state_at r t) ++ rows_script v r p t) boot)

    steps_same : steps_script (cut r k a) o 0 (steps_made (cut r k a)) ≡ steps_script r p 0 (steps_made (cut r k a))
    steps_same = scripts-same (λ i. step_script (cut r k a) o (0 + i)) (λ i. step_script r p (0 + i)) (steps_made (cut r k a))
        (λ i lt. step_same (0 + i) (omega (arith, lt)))

    -- its steps, and what is left of the other
    whole_same : StepsJoin → (load : List Call) →
        (load ++ steps_script (cut r k a) o 0 (steps_made (cut r k a))) ++ rest_script r p (steps_made (cut r k a)) ≡ run_script r load p
    whole_same join load =
        let m : ℕ = steps_made (cut r k a) in
        let n : ℕ = steps_made r in
        let le = made_fewer in
        let end : List Call = if has_ended r then closing_script r p else [] in
        let left : List Call = steps_script r p m (n - m) in
        let all : m + (n - m) ≡ n - 0 = omega (arith, le) in
        let from : 0 + m ≡ m = omega arith in
        let steps : steps_script r p 0 m ++ left ≡ steps_script r p 0 (n - 0) =
        ap (λ (i : ℕ). steps_script r p 0 m ++ steps_script r p i (n - m)) (sym from) ∙ sym (join r p 0 m (n - m)) ∙ ap (λ (i : ℕ). steps_script r p 0 i) all in
        let opened : load ++ opening_script r.view r.system ≡ load = ap (λ (v : View). load ++ opening_script v r.system) boot ∙ append-nil load in
        ap (λ (l : List Call). (load ++ l) ++ (left ++ end)) steps_same
        ∙ append_assoc load (steps_script r p 0 m) (left ++ end)
        ∙ ap (λ (l : List Call). load ++ l) (sym (append_assoc (steps_script r p 0 m) left end) ∙ ap (λ (l : List Call). l ++ end) steps)
        ∙ ap (λ (l : List Call). l ++ (steps_script r p 0 (n - 0) ++ end)) (sym opened)

pub saved_front : (name : List ℕ) (q : Run) (load : List Call) (o : Past) → has_ended q ≡ true → (st : Status) → (cvm_at q o (steps_made q)).status ≡ st →
    save_script name q load o ≡ (load ++ steps_script q o 0 (steps_made q)) ++ leaving_script name q o st
saved_front name q load o e st s =
    let front : List Call = load ++ steps_script q o 0 (steps_made q) in
    ap (λ (b : Bool). front ++ (if b then leaving_script name q o (cvm_at q o (steps_made q)).status else [])) e
    ∙ ap (λ (x : Status). front ++ leaving_script name q o x) s

pub scripts_join : UnitsDontMatter → TurnLaws → StepsJoin → ScriptsJoin
scripts_join one count join name r q load p o laws is few less boot past other ended =
    subst (λ (z : Run). z.turns ≤ r.turns → z.steps ≤ r.steps → IsPast z o → has_ended z ≡ true → AreJoined name r z load p o) (sym is) (joined q.turns q.steps) few less other ended
  where
    joined : (k a : ℕ) → k ≤ r.turns → a ≤ r.steps → IsPast (cut r k a) o → has_ended (cut r k a) ≡ true → AreJoined name r (cut r k a) load p o
    joined k a few less other ended = record {
      front = load ++ steps_script (cut r k a) o 0 (steps_made (cut r k a));
      saved = λ running. saved_front name (cut r k a) load o ended Running running;
      whole = whole_same count r k a few less boot ended p o
          (λ t le. pasts_agree one count (cut r k a) o p laws other (past_before count r k a few less boot ended p past) t le) join load;
    }
