-- What a run of C0's meaning comes to on the machine, and how it passes a primitive and tells of it.
use Rattle.std.specs.Prelude.{slice_get, Some, All, ◌++◌, length}
use Rattle.std.proofs.Common.{◌≡◌, ◌⊎◌, inl, inr, ℕ, zero, suc, ◌+◌, ◌*◌, ◌^◌, ◌<◌, ◌≤◌, List, [], ◌∷◌, refl, sym, ap, subst, arith, length-append}
use Rattle.mips_table.specs.declared.inst.Inst.{Inst}
use Rattle.mips_table.specs.Device.{Environment}
use Rattle.mips_table.specs.Fits.{StaysFitting}
use Rattle.mips_table.specs.Code.{CodeState, on_machine, Sound}
use Rattle.mips_table.specs.Machine.{State, Console}
use Rattle.mips_table.specs.Simulation.{MachineSimulates}
use Rattle.masm.specs.declared.registers.CodeAddresses.{CodeAddresses}
use Rattle.layer_map.specs.Map.{layer_words}
use Rattle.page_model.specs.Laws.{AlikesStand}
use Rattle.c0_tree.specs.Tree.{CUnit}
use Rattle.c0_meaning.specs.Operators.{faulted, stuck}
use Rattle.c0_meaning.specs.World.{Configuration, call_cost, journal_so_far}
use Rattle.c0_meaning.specs.Running.{Work}
use Rattle.c0_meaning.specs.Execution.{Outcome, Done, Failed, NotYet}
use Rattle.c0_meaning.specs.Value.{Values}
use Rattle.c0_tree.specs.Primitives.{CPrimitive, kernel_primitives}
use Rattle.mips_table.specs.Flat.{Flat}
use Rattle.c0_stmt_code.specs.Code.{links_of}
use Rattle.c0_runs.specs.Setup.{Setup, PrimitiveIsCalled}
use Rattle.c0_runs.specs.Standing.{Simulated, Ended, AtExit}
use Rattle.cvm_model.specs.Kernel.{Changes}
use Rattle.cvm_model.specs.KernelMeaning.{Machines, kernel_primitive}
use Rattle.cvm_model.specs.Cvm.{run_steps}
use Rattle.layer_contract.specs.Calls.{EndsCall}
use Rattle.cvm_model.specs.TypedKernel.{RowsAreCalled}
use Rattle.cvm_model.specs.Stands.{Site, UserFits}
use Rattle.unit_runs.specs.Outer.{Outer}
use Rattle.unit_runs.specs.Placed.{program, CodeStands}
use Rattle.unit_runs.specs.Host as host
use Rattle.unit_runs.specs.Host.{CountsCalls, EndsAll}
use Rattle.unit_runs.proofs.RunsComeSoFar.{RunsJoin, Reached}
use Rattle.unit_runs.proofs.SiteStays.{setup}
use Rattle.unit_runs.proofs.PrimitivesPass.{Ground, Passed, passes}

-- more units than a primitive takes
abbrev pub MOST_UNITS : ℕ
MOST_UNITS = 4194305

-- no primitive takes more units, over users of few pages
abbrev pub FewUnits : Type 0
FewUnits = (n : ℕ) (vs : Values) (v : Machines) → v.most ≤ 1024 → All (UserFits v.most) v.users → (call_cost (kernel_primitive n vs v)).primitive ≤ MOST_UNITS

abbrev machines : ℕ → List Flat → Console → Machines
machines most users console = record { most = most; users = users; console = console }

-- an element of a list with one behind it
last_or_before : {A : Type 0} (xs : List A) (last : A) (m : ℕ) (found : A) → slice_get (xs ++ last ∷ []) m ≡ Some found → (slice_get xs m ≡ Some found) ⊎ ((m ≡ length xs) × (last ≡ found))
last_or_before [] last zero found e = inr (refl, some_same e)
  where
    some_same : {A : Type 0} {a b : A} → Some a ≡ Some b → a ≡ b
    some_same q = cc
last_or_before [] last (suc m) found e = absurd (cc)
last_or_before (x ∷ xs) last zero found e = inl e
last_or_before (x ∷ xs) last (suc m) found e = elim (last_or_before xs last m found e) [
  | inl old ↦ inl old
  | inr new ↦ inr (ap suc new.0, new.1)
]

module _ (simulates : MachineSimulates) (joins : RunsJoin) (fitting : StaysFitting) (alikes : AlikesStand) (rows : RowsAreCalled)
    (x : Environment) (y : Site) (u : CUnit) (p : CodeAddresses) (code : List Inst) (words : List ℕ) (longest current : ℕ) (st : CodeStands u p y code) (g : Ground x y words longest) (user_ok : current ≤ y.map.users)
    (small : length words < 2 ^ 26) (sound : Sound (on_machine x (program y.map (layer_words + 1) code words))) (s0 : State) where
  abbrev pub z : Setup Machines Changes (Outer y current)
  z = setup x y u p code words st g.bounds g.big small alikes current

  abbrev pub Here : ℕ → CodeState → Type 0
  Here k c = Reached simulates joins x y code words sound s0 k c

  abbrev pub H : Type 0
  H = Configuration Machines Changes

  abbrev pub Sim : ℕ → List Work → H → CodeState → Type 0
  Sim debt work h s = Simulated Machines Changes (Outer y current) z debt work h s

  abbrev pub AllEnd : List Changes → Type 0
  AllEnd calls = EndsAll x y longest s0 calls

  abbrev pub Tells : ℕ → List Changes → Type 0
  Tells k calls = host.TellsCalls x y longest s0 k calls

  -- what a run comes to on the machine
  abbrev pub RunTo : (base limit : ℕ) → Outcome Machines Changes → Type 0
  RunTo base limit (Done cost h) = (k : ℕ) × (s : CodeState) × Here k s × Ended Machines Changes (Outer y current) z h s
      × (k ≤ base + 30 * cost.own + run_steps y.map longest cost.primitive cost.pages) × (1 ≤ cost.own) × Tells k (journal_so_far h)
  RunTo base limit (Failed cost (faulted f) h) = (k : ℕ) × (s : CodeState) × Here k s × AtExit Machines Changes (Outer y current) z f h s
      × (k ≤ base + 30 * cost.own + run_steps y.map longest cost.primitive cost.pages) × (1 ≤ cost.own) × Tells k (journal_so_far h)
  RunTo base limit (Failed cost stuck h) = ⊥
  RunTo base limit (NotYet cost h) = (k : ℕ) × (s : CodeState) × Here k s × (limit < 8388608 * (k + 1)) × Tells k (journal_so_far h)

  -- a primitive is passed, whatever the world's value is
  pub passed : (k : ℕ) (s : CodeState) (to n : ℕ) (row : CPrimitive) (vs : Values) (v : Machines) → Here k s → slice_get kernel_primitives n ≡ Some row → PrimitiveIsCalled z.w (links_of p) row n vs to s → Outer y current v s.contents s.behind
      → s.contents.memory 1026 ≤ y.map.params.heap → Passed simulates joins fitting alikes rows x y u p code words longest current st g user_ok sound s0 k s to n row vs v
  passed k s to n row vs v here is called outer room =
      let same : ◌≡◌ {A = Machines} (record { most = y.map.params.pages; users = v.users; console = v.console }) v = ap (λ m. machines m v.users v.console) (sym outer.most) in
      subst (λ w. Passed simulates joins fitting alikes rows x y u p code words longest current st g user_ok sound s0 k s to n row vs w) same
      (passes simulates joins fitting alikes rows x y u p code words longest current st g user_ok sound s0 k s to n row vs v.users v.console here is called (subst (λ w. Outer y current w s.contents s.behind) (sym same) outer) room)

  -- one call more has ended
  pub one_told : (k : ℕ) (calls : List Changes) (changes : Changes) → CountsCalls x s0 k (suc (length calls)) → AllEnd calls → EndsCall x y longest s0 (length calls) changes → Tells k (calls ++ changes ∷ [])
  one_told k calls changes counts old_ones last = record {
    counts = let n : suc (length calls) ≡ length (calls ++ changes ∷ []) = let l = length-append calls (changes ∷ []) in omega (arith, l) in subst (CountsCalls x s0 k) n counts;
    ends = λ m found is. elim (last_or_before calls changes m found is) [
      | inl old ↦ old_ones m found old
      | inr new ↦ subst (λ c. EndsCall x y longest s0 m c) new.1 (subst (λ i. EndsCall x y longest s0 i changes) (sym new.0) last)
    ];
  }
