-- The machines that meet the premises of the laws on runs of code. What word 7 is at the end comes by those laws, and not
-- by computing the machine's own steps.
use Rattle.std.proofs.Common.{◌≡◌, ℕ, zero, suc, ◌^◌, ◌<◌, Some, [], ◌∷◌, length, map, replicate, All, slice_get, slice_index, refl, sym, ap, ◌∙◌, subst, arith}
use Rattle.std.specs.Prelude.{◌==◌}
use Rattle.std.proofs.lemmas.Bool.{cond_both, cond-false, cond-true, ne_eqb, lt-ltb}
use Rattle.std.proofs.lemmas.List.Elements.{All-cons, All-replicate}
use Rattle.mips_table.specs.declared.inst.Inst.{Inst}
use Rattle.mips_table.specs.declared.inst.Inst.TheVariants.{Addiu, Sw}
use Rattle.mips_table.specs.Encoding.{InRange, encoding}
use Rattle.mips_table.specs.Device.{Environment, HasEightLines, LinesEnd}
use Rattle.mips_table.specs.Machine.{power_on, run}
use Rattle.mips_table.specs.Fits.{IsWord, Fits}
use Rattle.mips_table.specs.Code.{World, on_machine, on_flat, Sound, CodeState, act, code_run, MayRun}
use Rattle.mips_table.specs.Simulation.{configuration_of, Quiet, MemoryHolds, DiskServes, Simulates, flat_configuration, FlatFits, SimulatesFlat}
use Rattle.mips_table.specs.Premises.{storing, eight_words, program_at_zero, machine, flat, OnMachine, OnFlat, raising}
use Rattle.mips_table.proofs.StartFits.{zero_fits, start_fits}
use Rattle.mips_table.proofs.MachineSimulates.{follows}
use Rattle.mips_table.proofs.FlatSimulates.{flat_follows}

same_inst : (i j : Inst) → Some i ≡ Some j → i ≡ j
same_inst i j e = cc

same_word : (a b : ℕ) → Some a ≡ Some b → a ≡ b
same_word a b e = cc

range : (n : ℕ) (i : Inst) → slice_get storing n ≡ Some i → InRange i
range zero i e = subst InRange (same_inst (Addiu 1 0 5) i e) (omega arith, omega arith, omega arith)
range (suc zero) i e = subst InRange (same_inst (Sw 1 0 28) i e) (omega arith, omega arith, omega arith)
range (suc (suc n)) i e = absurd (cc)

inside : (n : ℕ) (i : Inst) → slice_get storing n ≡ Some i → n < 8
inside zero i e = omega arith
inside (suc zero) i e = omega arith
inside (suc (suc n)) i e = absurd (cc)

keeps : (n : ℕ) (i : Inst) → slice_get storing n ≡ Some i → slice_get (map encoding storing) n ≡ Some (encoding i)
keeps zero i e = ap (λ j. Some (encoding j)) (same_inst (Addiu 1 0 5) i e)
keeps (suc zero) i e = ap (λ j. Some (encoding j)) (same_inst (Sw 1 0 28) i e)
keeps (suc (suc n)) i e = absurd (cc)

kept : (k v : ℕ) → slice_get (map encoding storing) k ≡ Some v → slice_index eight_words k ≡ v
kept zero v e = same_word (encoding (Addiu 1 0 5)) v e
kept (suc zero) v e = same_word (encoding (Sw 1 0 28)) v e
kept (suc (suc k)) v e = absurd (cc)

words : All IsWord eight_words
words =
    let zeros : All IsWord (replicate 6 0) = All-replicate IsWord 6 0 (omega arith) in
    All-cons IsWord (encoding (Addiu 1 0 5)) (encoding (Sw 1 0 28) ∷ replicate 6 0) (omega arith) (All-cons IsWord (encoding (Sw 1 0 28)) (replicate 6 0) (omega arith) zeros)

-- the code on a machine of eight words
sound_machine : (x : Environment) → Sound (on_machine x program_at_zero)
sound_machine x = record { small = omega arith; range = range; inside = inside; keeps = keeps }

pub on_machine_met : (x : Environment) → x.count ≡ 0 → HasEightLines x → OnMachine x
unfolding act
on_machine_met x count eight =
    let w : World = on_machine x program_at_zero in
    let f : Sound w = sound_machine x in
    let fits : Fits x (power_on eight_words [] []) = start_fits x eight_words [] [] eight words (sym count) (λ k d lt. absurd (omega arith)) (omega arith) (λ k d lt. absurd (omega arith)) in
    let q : Quiet x machine = record {
      fits = record { cpu = fits.cpu; special = fits.special; memory = fits.memory; device = fits.device; console = fits.console; lines = fits.lines; mask = fits.mask; off = fits.off };
      on = refl;
      no_reset = refl;
      sr = refl;
      mode = refl;
      aligned = refl;
    } in
    let h : MemoryHolds w machine.memory = record { size = refl; kept = kept } in
    let v : DiskServes x w machine.device = record { count = omega arith; named = tt } in
    let end : CodeState = code_run w (configuration_of machine) 2 in
    let may : MayRun w 2 (configuration_of machine) = (refl, ((refl, (λ le. refl), refl, (omega arith), λ e. absurd (omega arith)), tt)) in
    let r : Simulates x w 2 machine = follows x program_at_zero f 2 machine q h v may in
    let size : length (run x machine 2).memory ≡ 8 = (r.along 2 (omega arith)).holds.size in
    record {
      sound = f;
      quiet = q;
      holds = h;
      serves = v;
      end = end;
      steps = (may, refl);
      stored = sym (cond-true _ (slice_index (run x machine 2).memory 7) 0 (lt-ltb 7 (length (run x machine 2).memory) (omega arith))) ∙ ap (λ s. s.contents.memory 7) (r.same 2 (omega arith));
    }

pub on_flat_met : OnFlat
unfolding act
on_flat_met =
    let w : World = on_flat program_at_zero in
    let f : Sound w = record { small = omega arith; range = range; inside = inside; keeps = keeps } in
    let fits : FlatFits flat = record { cpu = zero_fits; aligned = refl; words = words } in
    let h : MemoryHolds w flat.words = record { size = refl; kept = kept } in
    let end : CodeState = code_run w (flat_configuration flat) 2 in
    let may : MayRun w 2 (flat_configuration flat) = (refl, ((refl, (λ le. absurd (omega arith)), refl, (omega arith), λ e. absurd (omega arith)), tt)) in
    let r : SimulatesFlat w 2 flat = flat_follows program_at_zero f 2 flat fits h may in
    record {
      sound = f;
      fits = fits;
      holds = h;
      end = end;
      steps = (may, refl);
      stored = ap (λ s. s.contents.memory 7) (r.same 2 (omega arith));
    }

no_more : LinesEnd raising
no_more t lt = cond-false _ 9 0 (ne_eqb t 1 (λ e. absurd (omega arith)))

small : HasEightLines raising
small t = cond_both (t == 1) 9 0 (λ n. n < 2 ^ 8) (λ _. omega arith) (λ _. omega arith)

-- an outside that raises lines
pub raises : (raising.count ≡ 0) × HasEightLines raising × LinesEnd raising × (raising.lines 1 ≡ 9)
raises = (refl, small, no_more, refl)
