-- A user program's code on a flat machine: what is fixed for its run, and how it comes from its first word to `main`.
use Rattle.std.specs.Prelude.{slice_get, map, unwrap_or, ℤ, ◌==◌}
use Rattle.std.proofs.Common.{◌≡◌, ℕ, zero, suc, ◌+◌, ◌≤◌, List, [], ◌∷◌, ◌++◌, length, Some, None, refl, sym, ap, ◌∙◌, subst, arith, append_assoc, length-append, eqb-true}
use Rattle.std.proofs.lemmas.Bool.{and_parts}
use Rattle.mips_table.specs.declared.inst.Inst.{Inst}
use Rattle.mips_table.specs.Code.{Contents, World, at_with, Program, on_flat, CodeAt, RunLaws}
use Rattle.mips_table.specs.Simulation.{nothing_behind}
use Rattle.masm.specs.declared.registers.CodeAddresses.{CodeAddresses}
use Rattle.layer_map.specs.Map.{layer_words, leave_at}
use Rattle.c0_tree.specs.declared.primitive.Program.TheVariants.{User}
use Rattle.c0_tree.specs.Primitives.{CPrimitive, user_primitives}
use Rattle.c0_tree.specs.Tree.{CDecl, CFunction, CUnit}
use Rattle.c0_meaning.specs.Ty.{Ty}
use Rattle.c0_meaning.specs.Env.{Shape, typed_of}
use Rattle.c0_meaning.specs.Limits.{first_number}
use Rattle.c0_meaning.specs.Sound.{shapes}
use Rattle.c0_meaning.specs.RunLaws.{FirstIsTyped, HasFirst}
use Rattle.c0_meaning.specs.State.{first_state}
use Rattle.c0_meaning.specs.TypedState.{StoreTyping, types_of, AllFit, store_typing, IsTypedWith}
use Rattle.c0_meaning.specs.Unit.{IsWellFormed, IsCheckedAs}
use Rattle.c0_meaning.specs.Value.{empty}
use Rattle.c0_runtime.specs.Code.{startup_code, new_routine}
use Rattle.c0_runtime.specs.Laws.{IsEntered, StackIs, EntryRuns}
use Rattle.c0_expr_code.specs.Scope.{scope_of}
use Rattle.c0_expr_runs.specs.Laws.{IsOpened, AreasHold}
use Rattle.c0_expr_runs.specs.Bases.{words_of_all}
use Rattle.c0_stmt_code.specs.Code.{links_of, function_code}
use Rattle.c0_runs.specs.Setup.{Setup}
use Rattle.c0_runs.specs.Standing.{unit_scope, bases, ConfigurationStands, StepsRun}
use Rattle.c0_runs.specs.Zeros.{ZerosAreHeld}
use Rattle.c0_unit.specs.Code.{unit_code}
use Rattle.user_c0.specs.Flat.{Rooms, unit_data, HoldsProgram, IsUnitLoaded, Outer, setting, main_start, FlatRun}
use Rattle.c0_unit.specs.Laws.{AreAddressesOf, StandsIn, UnitStands}

-- the one row has one argument
few_of : (n : ℕ) (row : CPrimitive) → slice_get user_primitives n ≡ Some row → length row.args ≤ 8
few_of zero row e = subst (λ (r : CPrimitive). length r.args ≤ 8) (some_same e) (omega arith)
  where
    some_same : {A : Type 0} {a b : A} → Some a ≡ Some b → a ≡ b
    some_same q = cc
few_of (suc n) row e = absurd (none_some e)
  where
    none_some : {A : Type 0} {a : A} → None ≡ Some a → ⊥
    none_some q = cc

no_params : (structs : List Shape) (layout : StoreTyping) (ds : List CDecl) → length ds ≡ 0 → AllFit structs layout (types_of (map typed_of ds)) empty
no_params structs layout [] e = tt
no_params structs layout (d ∷ ds) e = absurd (omega (arith, e))

-- before any object is made, none has a type
no_objects : (u : CUnit) → FirstIsTyped → IsWellFormed user_primitives u → IsTypedWith u [] (first_state u)
no_objects u first well = by (first user_primitives u well).0 (first user_primitives u well).1
  where
    by : (objects : List Ty) → IsTypedWith u objects (first_state u) → IsTypedWith u [] (first_state u)
    by [] t = t
    by (o ∷ os) t = absurd (t.heap_values)

-- in a unit with a function a struct's words are those of its fields
opened_by : AreasHold → (u : CUnit) → IsWellFormed user_primitives u → (addresses : CodeAddresses) (w : World) (n : ℕ) (f : CFunction) → slice_get u.functions n ≡ Some f → IsOpened (shapes u)
opened_by areas u well addresses w n f is =
    (areas user_primitives u well f n is addresses (record w { words = 1 + words_of_all (shapes u) (types_of (map typed_of u.globals)) + (scope_of u f addresses).frame })
    (record { globals = 1; heap = 1 + words_of_all (shapes u) (types_of (map typed_of u.globals)); frame_end = 1 + words_of_all (shapes u) (types_of (map typed_of u.globals)) + (scope_of u f addresses).frame; objects = [] })
    (record { from = omega arith; heap = omega arith; frame = omega arith; inside = omega arith }) (record { heap_behind = omega arith; frame_behind = omega arith }) (λ i t e. absurd (cc))).opened

get_seam : {A : Type 0} (before : List A) (x : A) (after : List A) → slice_get (before ++ (x ∷ after)) (length before) ≡ Some x
get_seam [] x after = refl
get_seam (y ∷ before) x after = get_seam before x after

-- a piece of code stands in a world in which the whole code does
piece_at : (w : World) (code : List Inst) → ((k : ℕ) (i : Inst) → slice_get code k ≡ Some i → w.code (layer_words + k) ≡ Some i)
    → (piece before after : List Inst) → code ≡ before ++ (piece ++ after) → CodeAt w (layer_words + length before) piece
piece_at w code there [] before after e = tt
piece_at w code there (i ∷ is) before after e =
    let here : slice_get code (length before) ≡ Some i = ap (λ c. slice_get c (length before)) e ∙ get_seam before i (is ++ after) in
    let next : layer_words + length (before ++ i ∷ []) ≡ layer_words + length before + 1 = omega (arith, length-append before (i ∷ [])) in (
      there (length before) i here,
      subst (λ k. CodeAt w k is) next (piece_at w code there is (before ++ i ∷ []) after (e ∙ sym (append_assoc before (i ∷ []) (is ++ after)))),
    )

module _ (u : CUnit) (addresses : CodeAddresses) (checked : IsCheckedAs User u) (are : AreAddressesOf u (first_number User u) addresses) (st : UnitStands u (first_number User u) addresses)
    (r : Rooms) (p : Program) (h : HoldsProgram u r p) where
  stands_at : (k : ℕ) (piece : List Inst) → StandsIn u (first_number User u) k piece → CodeAt (on_flat p) k piece
  stands_at k piece s = subst (λ n. CodeAt (on_flat p) n piece) (sym s.from) (piece_at (on_flat p) (unit_code u (first_number User u)) h.code piece s.before s.after s.is)

  abbrev setup : Setup (List ℤ) ℤ Outer
  setup = record {
    w = on_flat p;
    sound = h.sound;
    table = user_primitives;
    p = setting u r;
    well_formed = checked.well_formed;
    addresses = addresses;
    a = unit_data u r;
    low = omega arith;
    globals_fit = h.globals;
    heap_fits = h.heap;
    stack_fits = h.stack;
    stack_small = h.small;
    ours = h.free;
    globals_at = are.globals_at;
    functions = λ n f is. stands_at ((links_of addresses).function n) (function_code (scope_of u f addresses) (links_of addresses) f) (st.functions n f is);
    new_object = stands_at (links_of addresses).new_object new_routine st.new_object;
    outer_stays = λ v c c' d same special o. tt;
    few_arguments = few_of;
    elsewhere = λ n k e q. let le = h.calls k _ e in let lt = st.below n in absurd (omega (arith, le, lt, q));
  }

  entry_stands : CodeAt (on_flat p) layer_words (startup_code addresses.globals)
  entry_stands =
      subst (λ n. CodeAt (on_flat p) n (startup_code addresses.globals)) (omega arith)
      (piece_at (on_flat p) (unit_code u (first_number User u)) h.code (startup_code addresses.globals) [] st.rest st.entry)

  module _ (runs : RunLaws) (entry : EntryRuns (on_flat p)) (typed : FirstIsTyped) (areas : AreasHold) (zeros : ZerosAreHeld) (main : HasFirst User) (each : StepsRun (List ℤ) ℤ Outer)
      (c : Contents) (loaded : IsUnitLoaded u r c) (answers : List ℤ) where
    stack_is : StackIs (on_flat p) r.stack r.stack_words c
    stack_is = let sf = h.stack in let hf = h.heap in let gf = h.globals in record { first_word = loaded.stack_first; limit_word = loaded.stack_limit; variables = omega (arith, sf, hf, gf); inside = sf }

    main_is : (f : CFunction) × (slice_get u.functions (first_number User u) ≡ Some f) × (length f.params ≡ 0)
    main_is =
        let m = main u checked in
        let number : first_number User u ≡ m.0 = ap (λ o. unwrap_or o 0) m.2 in
        (m.1, subst (λ k. slice_get u.functions k ≡ Some m.1) (sym number) m.3, eqb-true (length m.1.params) 0 (and_parts (length m.1.params == 0) _ (and_parts _ _ m.4).1).0)

    opened : IsOpened (shapes u)
    opened = opened_by areas u checked.well_formed addresses (on_flat p) (first_number User u) main_is.0 main_is.1

    none_typed : IsTypedWith u [] (first_state u)
    none_typed = no_objects u typed checked.well_formed

    stands : (c' : Contents) → IsEntered addresses.globals r.stack r.stack_words c c' → ConfigurationStands (List ℤ) ℤ Outer setup [] (main_start u answers) c' nothing_behind
    stands c' ent = record {
      typed = record { global_values = none_typed.global_values; heap_values = none_typed.heap_values; frames = none_typed.frames };
      declared = λ i t e. absurd (cc);
      used = refl;
      room = omega arith;
      stack_room = omega arith;
      globals = zeros (unit_scope u) (bases (List ℤ) ℤ Outer setup [] []) (store_typing u []) c'.memory (unit_data u r).globals (map typed_of u.globals) opened none_typed.global_values
          (λ k le lt. ap (λ m. m k) ent.memory ∙ loaded.zeros k le lt);
      heap = tt;
      used_word = ap (λ m. m 1026) ent.memory ∙ loaded.used;
      heap_size = ap (λ m. m 1027) ent.memory ∙ loaded.heap_words;
      heap_first = ap (λ m. m 1028) ent.memory ∙ loaded.heap_first;
      stack_first = ap (λ m. m 1029) ent.memory ∙ loaded.stack_first;
      stack_limit = ap (λ m. m 1030) ent.memory ∙ loaded.stack_limit;
      globals_at = ent.globals ∙ are.globals_at;
      stack_end = ent.stack;
      outer = tt;
      idle = refl;
    }

    pub flat_run : FlatRun u r p c answers
    flat_run =
        let f = entry.first layer_words addresses.globals c nothing_behind entry_stands refl in
        let e = entry.enters layer_words addresses.globals r.stack r.stack_words c nothing_behind entry_stands.1 refl stack_is in
        let a = f.within in let b = e.2.within in
        let frame = e.1.frame in
        record {
          z = setup;
          world = refl;
          table = refl;
          meaning = refl;
          trap_at = st.primitives 0 (omega arith);
          exits = st.exits;
          back = refl;
          steps = f.steps + e.2.steps;
          few = omega (arith, a, b);
          entered = at_with (layer_words + 5) e.0 nothing_behind;
          run = runs.joined (on_flat p) f.steps e.2.steps _ _ _ f.run e.2.run;
          stands = record {
            objects = [];
            stands = stands e.0 e.1;
            activations = [];
            waiting = tt;
            frame_at = omega (arith, frame);
            function = main_is.0;
            is = main_is.1;
            at = sym (st.begins main_is.0 main_is.1);
            to = leave_at;
            return_at = e.1.back;
            fits = no_params (shapes u) (store_typing u []) main_is.0.params main_is.2;
            arguments = tt;
            ahead = refl;
          };
          follows = λ debt item work d s sim. each setup debt item work d s sim;
        }
