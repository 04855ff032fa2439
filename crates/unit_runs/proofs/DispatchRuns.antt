-- The run of a dispatch from its entry on, put together.
use Rattle.std.specs.Prelude.{slice_get, Some, FitsSigned, ℤ, take}
use Rattle.std.specs.Int.{w32}
use Rattle.std.proofs.Common.{◌≡◌, ℕ, ◌+◌, ◌*◌, ◌^◌, ◌<◌, ◌≤◌, List, [], length, map, refl, subst, arith}
use Rattle.mips_table.specs.declared.inst.Inst.{Inst}
use Rattle.mips_table.specs.Device.{Environment}
use Rattle.mips_table.specs.Machine.{State, run}
use Rattle.mips_table.specs.Fits.{StaysFitting}
use Rattle.mips_table.specs.Code.{World, on_machine, Sound}
use Rattle.mips_table.specs.Simulation.{MachineSimulates}
use Rattle.masm.specs.declared.registers.CodeAddresses.{CodeAddresses}
use Rattle.layer_map.specs.Map.{layer_words, memory_words}
use Rattle.page_model.specs.Laws.{AlikesStand}
use Rattle.c0_tree.specs.Primitives.{kernel_primitives}
use Rattle.c0_tree.specs.Tree.{CFunction, CUnit}
use Rattle.c0_meaning.specs.Ty.{TypesEqualAsWritten}
use Rattle.c0_meaning.specs.Env.{typed_of}
use Rattle.c0_meaning.specs.RunLaws.{HasDispatch}
use Rattle.c0_meaning.specs.Sound.{shapes}
use Rattle.c0_meaning.specs.TypedState.{types_of, IsTypedState}
use Rattle.c0_meaning.specs.Unit.{IsWellFormed}
use Rattle.c0_meaning.specs.Running.{begin}
use Rattle.c0_meaning.specs.Execution as c0_run
use Rattle.c0_runtime.specs.Laws.{EntryRuns}
use Rattle.c0_expr_code.specs.Scope.{scope_of}
use Rattle.c0_expr_runs.specs.Laws.{IsOpened, AreasHold}
use Rattle.c0_expr_runs.specs.Bases.{words_of_all}
use Rattle.layer_contract.specs.Layer.{Inside, Linked, PrimitivesAnswer, Leaves, Exits}
use Rattle.layer_contract.specs.Calls.{entered_before, EndsCall, KernelCalled}
use Rattle.layer_contract.specs.Follows.{EndsAs}
use Rattle.cvm_model.specs.Kernel.{Core, Changes}
use Rattle.cvm_model.specs.KernelMeaning.{Machines, setting_of, machines_of, outcome_of}
use Rattle.cvm_model.specs.Cvm.{Running}
use Rattle.cvm_model.specs.TypedKernel.{RowsAreCalled, UnitsAnswerInts}
use Rattle.cvm_model.specs.Stands.{Site, RunningRelation}
use Rattle.unit_runs.specs.Held.{HeldIsFlat}
use Rattle.unit_runs.specs.Placed.{program, CodeStands}
use Rattle.c0_meaning.specs.CallChain.{dispatch_number}
use Rattle.unit_runs.specs.Host.{MachineFollows}
use Rattle.unit_runs.specs.Runs.{UnitsRunOverLayers, UnitsCallsFollow}
use Rattle.unit_runs.proofs.MapPartsStand.{bounds_of}
use Rattle.unit_runs.proofs.CodeOnMachine.{sound}
use Rattle.unit_runs.proofs.RunsComeSoFar.{RunsJoin}
use Rattle.unit_runs.proofs.PrimitivesPass.{Ground}
use Rattle.unit_runs.proofs.MeaningOnMachine.{RunTo}
use Rattle.unit_runs.proofs.MachineIsHost.{runs}
use Rattle.unit_runs.proofs.DispatchEnds.{ends}
use Rattle.unit_runs.proofs.CallsTold.{all_told, no_others}
use Rattle.unit_runs.proofs.DispatchBegins.{signed_fits, Begun, begun}
use Rattle.unit_runs.proofs.FewUnits.{few_units}

-- in a unit with a function a struct's words are those of its fields
opened_by : AreasHold → (u : CUnit) → IsWellFormed kernel_primitives u → (addresses : CodeAddresses) (w : World) (n : ℕ) (f : CFunction) → slice_get u.functions n ≡ Some f → IsOpened (shapes u)
opened_by areas u well addresses w n f is =
    (areas kernel_primitives u well f n is addresses (record w { words = 1 + words_of_all (shapes u) (types_of (map typed_of u.globals)) + (scope_of u f addresses).frame })
    (record { globals = 1; heap = 1 + words_of_all (shapes u) (types_of (map typed_of u.globals)); frame_end = 1 + words_of_all (shapes u) (types_of (map typed_of u.globals)) + (scope_of u f addresses).frame; objects = [] })
    (record { from = omega arith; heap = omega arith; frame = omega arith; inside = omega arith }) (record { heap_behind = omega arith; frame_behind = omega arith }) (λ i t e. absurd (cc))).opened

module _ (simulates : MachineSimulates) (joins : RunsJoin) (fitting : StaysFitting) (alikes : AlikesStand) (rows : RowsAreCalled) (ints : UnitsAnswerInts) (entries : (w : World) → Sound w → EntryRuns w)
    (follow : MachineFollows)
    (areas : AreasHold) (dispatch : HasDispatch) (types : TypesEqualAsWritten) (flats : HeldIsFlat) where
  -- a dispatch that is called, over the code of a unit
  module _ (u : CUnit) (p : CodeAddresses) (y : Site) (code : List Inst) (sizes : List ℕ) (st : CodeStands u p y code) (variables : Linked y.map sizes (take layer_words y.linked)) (answers : PrimitivesAnswer y)
      (x : Environment) (longest : ℕ) (s : State) (c : Core) (cause edata user : ℤ) (called : KernelCalled x longest y (IsTypedState u) c cause edata user s) where
    abbrev standing : RunningRelation x y s Running c
    standing = called.called.at.stands

    ground : Ground x y s.memory longest
    ground = record { bounds = bounds_of y.map st.range; big = standing.memory; small = standing.small; count = standing.sectors; busy = called.busy; answers = answers }

    small : length s.memory < 2 ^ 26
    small = let sm = standing.small in omega (arith, sm)

    room : layer_words + length code ≤ memory_words y.map
    room =
        let b = bounds_of y.map st.range in let cw = st.code_words in
        let b1 = b.code in let b2 = b.globals in let b3 = b.heap in let b4 = b.stack in let b5 = b.tables in let b6 = b.frame_table in let b7 = b.memory in
        omega (arith, cw, b1, b2, b3, b4, b5, b6, b7)

    is_sound : Sound (on_machine x (program y.map (layer_words + 1) code s.memory))
    is_sound = sound x y.map (layer_words + 1) s.memory code (omega arith) room standing.memory small st.in_range

    all_sound : Sound (on_machine x (program y.map layer_words code s.memory))
    all_sound = sound x y.map layer_words s.memory code (omega arith) room standing.memory small st.in_range

    opened : IsOpened (shapes u)
    opened = let d = dispatch u st.checked in opened_by areas u st.checked.well_formed p (on_machine x (program y.map layer_words code s.memory)) d.0 d.1 d.3

    entry : EntryRuns (on_machine x (program y.map (layer_words + 1) code s.memory))
    entry = entries (on_machine x (program y.map (layer_words + 1) code s.memory)) is_sound

    entry_all : EntryRuns (on_machine x (program y.map layer_words code s.memory))
    entry_all = entries (on_machine x (program y.map layer_words code s.memory)) all_sound

    -- the function `dispatch` is entered
    entered : Begun simulates joins fitting alikes rows x y u p code s.memory longest c st ground standing.whole.current small is_sound all_sound s flats opened dispatch types entry entry_all sizes variables cause edata user called.typed called.called refl
    entered = begun simulates joins fitting alikes rows x y u p code s.memory longest c st ground standing.whole.current small is_sound all_sound s flats opened dispatch types entry entry_all sizes variables cause edata user called.typed called.called refl

    -- what it means within n units
    abbrev outcome : ℕ → c0_run.Outcome Machines Changes
    outcome n = c0_run.dispatch (setting_of u y.map.params) n cause edata user c.c0 (machines_of y.map.params c)

    runs_to : (n : ℕ) → RunTo simulates joins fitting alikes rows x y u p code s.memory longest c.current st ground standing.whole.current small is_sound s entered.base n (outcome n)
    runs_to n =
        runs simulates joins fitting alikes rows x y u p code s.memory longest c.current st ground standing.whole.current small is_sound s few_units
        (follow (record { outside = x; site = y; code = code; words = s.memory; longest = longest; current = c.current; first = s })) entered.base (begin (dispatch_number u) _) [] _ entered.end entered.come (record { counts = entered.counts; ends = λ m changes is. absurd (cc) }) entered.sim n

    ends_as : (n : ℕ) → EndsAs x longest y n s (outcome_of c (outcome n)) (outcome_of c (outcome n)).end
    ends_as n =
        let a0 = called.called.arguments.0 in let a1 = called.called.arguments.1.0 in let a2 = called.called.arguments.1.1.0 in
        ends simulates joins fitting alikes rows x y u p code s.memory longest c st ground standing.whole.current small is_sound s flats opened entered.base n entered.few (outcome n) (runs_to n)
        (ints u y.map n c cause edata user st.checked st.range.params standing.whole (subst (FitsSigned w32) a0 (signed_fits _)) (subst (FitsSigned w32) a1 (signed_fits _)) (subst (FitsSigned w32) a2 (signed_fits _)) called.typed)

    each_ends : (n m : ℕ) (changes : Changes) → slice_get (outcome_of c (outcome n)).calls m ≡ Some changes → EndsCall x y longest s m changes
    each_ends n m changes is =
        all_told simulates joins fitting alikes rows x y u p code s.memory longest c st ground standing.whole.current small is_sound s flats opened entered.base n entered.few (outcome n) (runs_to n) m changes is

    no_more_end : Leaves y → Exits y → (t : ℕ) → ((j : ℕ) → j ≤ t → Inside (run x s j)) → (n : ℕ) × (entered_before x s t ≤ length (outcome_of c (outcome n)).calls)
    no_more_end leaves exits t inside = (
      8388608 * (t + 1),
      no_others simulates joins fitting alikes rows x y u p code s.memory longest c st ground standing.whole.current small is_sound s flats opened entered.base (8388608 * (t + 1)) entered.few
          leaves exits t (omega arith) inside (outcome (8388608 * (t + 1))) (runs_to (8388608 * (t + 1))),
    )

  pub unit_runs : UnitsRunOverLayers
  unit_runs u p y code sizes st variables answers x longest n s c cause edata user called = ends_as u p y code sizes st variables answers x longest s c cause edata user called n

  -- the calls are those that the machine ends
  pub calls_follow : UnitsCallsFollow
  calls_follow u p y code sizes st variables laws = record {
    each = λ x longest n m s c cause edata user changes called is. each_ends u p y code sizes st variables laws.primitives x longest s c cause edata user called n m changes is;
    no_more = λ x longest t s c cause edata user called inside. no_more_end u p y code sizes st variables laws.primitives x longest s c cause edata user called laws.leaves laws.exits t inside;
  }
