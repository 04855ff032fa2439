-- Ways of the machine between entries: blocks of the layer's code hold no entry, stretches join, and a way begins at an entry or behind none.
use Rattle.std.proofs.Common.{◌≡◌, ◌≢◌, ℕ, ◌+◌, ◌-◌, ◌*◌, ◌<◌, ◌≤◌, ◌⊎◌, length, slice_index, sym, ap, ◌∙◌, subst, ⊎_elim, arith}
use Rattle.std.proofs.lemmas.Bool.{cases_lt}
use Rattle.mips_table.specs.Device.{Environment, sector_of}
use Rattle.mips_table.specs.Machine.{State, run}
use Rattle.layer_map.specs.Map.{Map, layer_words}
use Rattle.cvm_model.specs.Stands.{Site}
use Rattle.layer_contract.specs.declared.entry.Entry.{Entry}
use Rattle.layer_contract.specs.declared.entry.Entry.TheVariants.{Dispatch, Primitive, Fault, Leave}
use Rattle.layer_contract.specs.Layer.{layer_entry, IsEntry, Inside, SectorsStay, FramesStay, EndsNamed, Way}
use Rattle.real_layer.specs.Runs.{LayerStretch, StaysBetween}

-- words without an entry: those before the entries, and those between them and the kernel's code
abbrev pub IsApart : (a b : ℕ) → Type 0
IsApart a b = (b ≤ 2048) ⊎ ((2063 ≤ a) × (b ≤ 16384))

pub no_entry : (a b pc : ℕ) → IsApart a b → 4 * a ≤ pc → pc < 4 * b → (e : Entry) → IsEntry e → pc ≢ layer_entry e
no_entry a b pc apart low top Dispatch is same = ⊎_elim (λ h. absurd (omega arith)) (λ h. let h0 = h.0 in let h1 = h.1 in absurd (omega arith)) apart
no_entry a b pc apart low top (Primitive k) is same = ⊎_elim (λ h. absurd (omega arith)) (λ h. let h0 = h.0 in let h1 = h.1 in absurd (omega arith)) apart
no_entry a b pc apart low top (Fault f) is same = let f0 = is.0 in let f1 = is.1 in ⊎_elim (λ h. absurd (omega arith)) (λ h. let h0 = h.0 in let h1 = h.1 in absurd (omega arith)) apart
no_entry a b pc apart low top Leave is same = ⊎_elim (λ h. absurd (omega arith)) (λ h. let h0 = h.0 in let h1 = h.1 in absurd (omega arith)) apart

pub between_of : (x : Environment) (y : Site) (a b n : ℕ) (s : State) → IsApart a b → LayerStretch x y a b n s → StaysBetween x y n s
between_of x y a b n s apart h = record {
  inside = h.inside;
  below = λ j lt. let top = h.to j lt in ⊎_elim (λ e. omega arith) (λ e. let e1 = e.1 in omega arith) apart;
  apart = λ j e lt is. no_entry a b (run x s j).cpu.pc apart (h.from j lt) (h.to j lt) e is;
  sectors = h.sectors;
  frames = h.frames;
  named = h.named;
}

-- where memory is the same, and through two runs
pub frames_same : (m : Map) (s t : State) → t.memory ≡ s.memory → FramesStay m s t
frames_same m s t e = record { size = ap length e; words = λ k le lt. ap (λ w. slice_index w k) e }

frames_on : (m : Map) (s u t : State) → FramesStay m s u → FramesStay m u t → FramesStay m s t
frames_on m s u t a b = record { size = b.size ∙ a.size; words = λ k le lt. b.words k le (subst (λ n. k < n) (sym a.size) lt) ∙ a.words k le lt }

pub no_step : (x : Environment) (y : Site) (s : State) → StaysBetween x y 0 s
no_step x y s = record {
  inside = λ j lt. absurd (omega arith);
  below = λ j lt. absurd (omega arith);
  apart = λ j e lt is. absurd (omega arith);
  sectors = λ j le q past. let z : j ≡ 0 = omega arith in ap (λ n. sector_of (run x s n).device.sectors q) z;
  frames = λ j le. let z : j ≡ 0 = omega arith in frames_same y.map s (run x s j) (ap (λ n. (run x s n).memory) z);
  named = λ j lt. absurd (omega arith);
}

module _ (sum : (x : Environment) (s : State) (m n : ℕ) → run x s (m + n) ≡ run x (run x s m) n) (x : Environment) (y : Site) where
  -- step j of the whole is step j - m of the second part
  later : (m j : ℕ) (s : State) → m ≤ j → run x s j ≡ run x (run x s m) (j - m)
  later m j s le = let e : j ≡ m + (j - m) = omega arith in ap (run x s) e ∙ sum x s m (j - m)

  pub joins : (m n : ℕ) (s : State) → StaysBetween x y m s → StaysBetween x y n (run x s m) → StaysBetween x y (m + n) s
  joins m n s a b = record {
    inside = λ j lt. ⊎_elim (λ first. a.inside j first) (λ second. subst Inside (sym (later m j s second)) (b.inside (j - m) (omega arith))) (cases_lt j m);
    below = λ j lt. ⊎_elim (λ first. a.below j first) (λ second. subst (λ (z : State). z.cpu.pc < 4 * layer_words) (sym (later m j s second)) (b.below (j - m) (omega arith))) (cases_lt j m);
    apart = λ j e lt is. ⊎_elim (λ first. a.apart j e first is) (λ second. subst (λ (z : State). z.cpu.pc ≢ layer_entry e) (sym (later m j s second)) (b.apart (j - m) e (omega arith) is)) (cases_lt j m);
    sectors = λ j le q past. ⊎_elim (λ first. a.sectors j (omega arith) q past)
        (λ second. ap (λ (z : State). sector_of z.device.sectors q) (later m j s second) ∙ b.sectors (j - m) (omega arith) q past ∙ a.sectors m (omega arith) q past) (cases_lt j m);
    frames = λ j le. ⊎_elim (λ first. a.frames j (omega arith))
        (λ second. subst (FramesStay y.map s) (sym (later m j s second)) (frames_on y.map s (run x s m) (run x (run x s m) (j - m)) (a.frames m (omega arith)) (b.frames (j - m) (omega arith)))) (cases_lt j m);
    named = λ j lt. ⊎_elim (λ first. a.named j first) (λ second. subst (EndsNamed x y.map) (sym (later m j s second)) (b.named (j - m) (omega arith))) (cases_lt j m);
  }

  -- a way that begins at no entry
  pub way : (n : ℕ) (s : State) → StaysBetween x y n s → Way x y IsEntry n s
  way n s b = record { inside = b.inside; between = λ j e pos lt is. b.apart j e lt is; sectors = b.sectors; frames = b.frames; named = b.named }

  -- a way that begins with one step
  pub way_from : (n : ℕ) (s : State) → Inside s → SectorsStay y.map s (run x s 1) → FramesStay y.map s (run x s 1) → EndsNamed x y.map s → StaysBetween x y n (run x s 1) → Way x y IsEntry (1 + n) s
  way_from n s here stay same names b = record {
    inside = λ j lt. ⊎_elim (λ first. let z : j ≡ 0 = omega arith in subst (λ k. Inside (run x s k)) (sym z) here) (λ second. subst Inside (sym (later 1 j s second)) (b.inside (j - 1) (omega arith))) (cases_lt j 1);
    between = λ j e pos lt is. subst (λ (z : State). z.cpu.pc ≢ layer_entry e) (sym (later 1 j s pos)) (b.apart (j - 1) e (omega arith) is);
    sectors = λ j le q past. ⊎_elim (λ first. let z : j ≡ 0 = omega arith in ap (λ k. sector_of (run x s k).device.sectors q) z)
        (λ second. ap (λ (z : State). sector_of z.device.sectors q) (later 1 j s second) ∙ b.sectors (j - 1) (omega arith) q past ∙ stay q past) (cases_lt j 1);
    frames = λ j le. ⊎_elim (λ first. let z : j ≡ 0 = omega arith in frames_same y.map s (run x s j) (ap (λ k. (run x s k).memory) z))
        (λ second. subst (FramesStay y.map s) (sym (later 1 j s second)) (frames_on y.map s (run x s 1) (run x (run x s 1) (j - 1)) same (b.frames (j - 1) (omega arith)))) (cases_lt j 1);
    named = λ j lt. ⊎_elim (λ first. let z : j ≡ 0 = omega arith in subst (λ k. EndsNamed x y.map (run x s k)) (sym z) names) (λ second. subst (EndsNamed x y.map) (sym (later 1 j s second)) (b.named (j - 1) (omega arith))) (cases_lt j 1);
  }
