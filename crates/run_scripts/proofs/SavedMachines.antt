-- The machine of a run that is left to be saved is one of the system's run, so its words are taken up.
use Rattle.std.proofs.Common.{◌≡◌, ℕ, suc, ◌-◌, ◌<◌, ◌≤◌, ◌^◌, true, List, None, Ok, refl, sym, ap, ◌∙◌, subst, inl, inr, ◌⊎◌, arith}
use Rattle.std.specs.Prelude.{◌≢◌}
use Rattle.std.specs.List.{flat_map}
use Rattle.cvm_words.specs.Bytes.{word}
use Rattle.mips_table.specs.Device.{Environment}
use Rattle.mips_table.specs.Machine.{State, run}
use Rattle.mips_table.specs.Turns.{in_user, IsTurnEnd}
use Rattle.mips_machine.specs.Saved.{saved}
use Rattle.mips_machine.specs.Steps.{outside_of}
use Rattle.schedule_file.specs.Rows.{Rows}
use Rattle.c0_meaning.specs.TypedState.{IsTypedState}
use Rattle.cvm_model.specs.Cvm.{System, Status, Running, IsCvm}
use Rattle.cvm_model.specs.Stands.{runs_user}
use Rattle.cvm_model.specs.Text.{rows_text}
use Rattle.layer_contract.specs.Layer.{Rests}
use Rattle.layer_contract.specs.Follows.{loaded}
use Rattle.boot_turns.specs.Premises.{StartsFrom}
use Rattle.boot_turns.specs.TurnEnds.{RestsAfter, TurnIsOver}
use Rattle.boot_turns.specs.Runs.{Run, Past, IsPast, state_at, turns_at, steps_made, lines_met, cvm_at}
use Rattle.saved_file.specs.Answer.{answer, SavedIsReadBack}
use Rattle.boot_run.specs.SavedRuns.{SavedAt}
use Rattle.boot_run.proofs.SavedFiles.{MachineLaws, of_system}
use Rattle.boot_run.proofs.SavedTakenUp.{on_of}
use Rattle.kernel_linker.specs.Accept.{ImageSystem}
use Rattle.run_scripts.specs.Boot.{booted}
use Rattle.run_scripts.specs.Plan.{boot_of_image}
use Rattle.boot_run.specs.RunScript.{saved_words, saved_bytes}
use Rattle.boot_run.specs.SavedFiles.{wanted_of}
use Rattle.run_scripts.specs.Faults.{IsLeft}
use Rattle.run_scripts.proofs.RowsAlongRuns.{Known}
use Rattle.run_scripts.proofs.TurnsRise.{steps_within}

-- A RUN THAT IS LEFT stands where its turns are complete, and its machine runs a user
module _ (r : Run) (k : Known r) (p : Past) (is : IsPast r p) (left : IsLeft r p) (few : ℕ) (some : r.turns ≡ suc few) where
  now_is : IsCvm r.system (lines_met r) (turns_at r (steps_made r)) (cvm_at r p (steps_made r))
  now_is = is.turns (turns_at r (steps_made r)) (omega arith)

  over : TurnIsOver r.around r.system r.first r.turns (steps_made r) (cvm_at r p (steps_made r))
  over = k.machines.ends r.turns r.steps (cvm_at r p (steps_made r)) now_is left.0

  pub all_turns : turns_at r (steps_made r) ≡ suc few
  all_turns = by over.over
    where
      by : (turns_at r (steps_made r) ≡ r.turns) ⊎ ((cvm_at r p (steps_made r)).status ≢ Running) → turns_at r (steps_made r) ≡ suc few
      by (inl e) = e ∙ some
      by (inr n) = absurd (n left.1)

  rests : RestsAfter r.around r.system r.first (suc few) (steps_made r) (cvm_at r p (steps_made r))
  rests = subst (λ (i : ℕ). RestsAfter r.around r.system r.first i (steps_made r) (cvm_at r p (steps_made r))) all_turns over.rests

  runs : runs_user (state_at r (steps_made r)) ≡ true
  runs = subst (λ (st : Status). Rests st (state_at r (steps_made r))) left.1 rests.0

  on : (state_at r (steps_made r)).off ≡ None
  on = on_of (state_at r (steps_made r)).off (in_user (state_at r (steps_made r))) runs

  first_end : IsTurnEnd r.around r.first (suc few) (steps_made r)
  first_end = subst (λ (i : ℕ). IsTurnEnd r.around r.first i (steps_made r)) some (k.count.found r.around r.first r.turns r.steps left.0)

  pub saved_at : SavedAt r.around r.system r.first (suc few) r.steps (saved_words r p) (state_at r (steps_made r)).device.sectors (rows_text (cvm_at r p (steps_made r)).rows)
  saved_at = record {
    at = steps_made r;
    past = cvm_at r p (steps_made r);
    end = first_end;
    within = steps_within k.count r.around r.first r.turns r.steps;
    on = on;
    cvm = subst (λ (i : ℕ). IsCvm r.system (lines_met r) i (cvm_at r p (steps_made r))) all_turns now_is;
    words_are = ap (λ (i : ℕ). saved r.system.input (state_at r (steps_made r)) i (cvm_at r p (steps_made r)).core.current) all_turns;
    left_is = refl;
    shown_is = refl;
  }

-- what the laws say of machines, of maps and of files
pub record FileLaws : Type 0 where
  pub machines : MachineLaws
  pub read : SavedIsReadBack answer

module _ (law : FileLaws) (s : ImageSystem) (rows : Rows) (count : ℕ) (old : List (List ℕ)) (late held : ℕ)
    (starts : StartsFrom (IsTypedState s.unit) (outside_of rows count) (booted s rows) (loaded (booted s rows) old) late held) where
  abbrev x : Environment
  x = outside_of rows count

  abbrev y : System
  y = booted s rows

  abbrev s0 : State
  s0 = loaded (booted s rows) old

  -- THE WORDS of what was saved are taken up
  taken_up : (few spent turns : ℕ) (words : List ℕ) (left : List (List ℕ)) (shown : List ℕ) → SavedAt x y s0 (suc few) spent words left shown → suc few ≤ turns → turns < 2 ^ 32 → spent < 2 ^ 64 →
      answer (wanted_of (boot_of_image s) rows.inputs turns) (flat_map word words) ≡ Ok words
  taken_up few spent turns words left shown a more bits limit =
      let of = of_system law.machines s.unit x y old late held starts few spent turns words left shown a more bits limit in
      let back = law.read x (wanted_of (boot_of_image s) rows.inputs turns) (run x s0 a.at) (suc few) a.past.core.current of in
      subst (λ (l : List ℕ). answer (wanted_of (boot_of_image s) rows.inputs turns) (flat_map word l) ≡ Ok l) (sym a.words_are) back.1

  pub file_fits : (r : Run) → r.around ≡ x → r.system ≡ y → r.first ≡ s0 → Known r → (p : Past) → IsPast r p → IsLeft r p → 1 ≤ r.turns → r.steps < 2 ^ 64 →
      (turns : ℕ) → r.turns ≤ turns → turns < 2 ^ 32 → answer (wanted_of (boot_of_image s) rows.inputs turns) (saved_bytes r p) ≡ Ok (saved_words r p)
  file_fits r around system first k p is left some limit turns more bits =
      let few : r.turns ≡ suc (r.turns - 1) = omega (arith, some) in
      let a = saved_at r k p is left (r.turns - 1) few in
      taken_up (r.turns - 1) r.steps turns (saved_words r p) _ _
      (subst (λ (z : State). SavedAt x y z (suc (r.turns - 1)) r.steps (saved_words r p) (state_at r (steps_made r)).device.sectors (rows_text (cvm_at r p (steps_made r)).rows)) first
      (subst (λ (w : System). SavedAt x w r.first (suc (r.turns - 1)) r.steps (saved_words r p) (state_at r (steps_made r)).device.sectors (rows_text (cvm_at r p (steps_made r)).rows)) system
      (subst (λ (o : Environment). SavedAt o r.system r.first (suc (r.turns - 1)) r.steps (saved_words r p) (state_at r (steps_made r)).device.sectors (rows_text (cvm_at r p (steps_made r)).rows)) around a)))
      (omega (arith, some, more)) bits limit
