-- What is fixed in the run of a unit's code on a site: the code's world, and that users and console stay where the unit writes its own words.
use Rattle.std.specs.Prelude.{slice_get, option_map, map}
use Rattle.std.proofs.Common.{◌≡◌, ℕ, zero, suc, ◌+◌, ◌*◌, ◌^◌, ◌<◌, ◌≤◌, ◌≢◌, inl, inr, List, [], ◌∷◌, length, Some, refl, sym, ap, ◌∙◌, subst, arith, true≢false}
use Rattle.std.proofs.lemmas.List.{length-drop, length-map}
use Rattle.mips_table.specs.declared.inst.Inst.{Inst}
use Rattle.mips_table.specs.Encoding.{encoding}
use Rattle.mips_table.specs.Device.{Environment}
use Rattle.mips_table.specs.Code.{Contents, Behind, World, on_machine}
use Rattle.masm.specs.declared.registers.CodeAddresses.{CodeAddresses}
use Rattle.layer_map.specs.Map.{Map, layer_words, hand_at, current_at, block_at, globals_at, heap_at, stack_at, tables_at, memory_words, leave_at}
use Rattle.page_model.specs.Laws.{AlikesStand}
use Rattle.page_model.specs.TableLayout.{page_layout, table_layout, paged_view}
use Rattle.c0_tree.specs.Primitives.{CPrimitive, kernel_primitives}
use Rattle.c0_tree.specs.Tree.{CUnit}
use Rattle.c0_runtime.specs.Code as runtime
use Rattle.c0_expr_code.specs.Scope.{scope_of}
use Rattle.c0_stmt_code.specs.Code.{links_of, function_code}
use Rattle.c0_runs.specs.Setup.{Setup, UnitData, IsOurs}
use Rattle.cvm_model.specs.Kernel.{Changes}
use Rattle.cvm_model.specs.KernelMeaning.{Machines, setting_of}
use Rattle.cvm_model.specs.Paged.{pages_by}
use Rattle.cvm_model.specs.Stands.{Site, is_own}
use Rattle.unit_runs.specs.Placed.{program, CodeStands}
use Rattle.unit_runs.specs.Outer.{Outer}
use Rattle.unit_runs.proofs.MapPartsStand.{Bounds}
use Rattle.unit_runs.proofs.CodeOnMachine.{code_is, no_code, no_low_code, kept_code, stands_at, sound}

-- each row of a table has few arguments
abbrev pub HaveFew : List CPrimitive → Type 0
HaveFew [] = Unit {0}
HaveFew (r ∷ rows) = (length r.args ≤ 8) × HaveFew rows

pub few_of : (rows : List CPrimitive) → HaveFew rows → (n : ℕ) (row : CPrimitive) → slice_get rows n ≡ Some row → length row.args ≤ 8
few_of [] h n row e = cc
few_of (r ∷ rows) h zero row e = let q : r ≡ row = cc in subst (λ y. length y.args ≤ 8) q h.0
few_of (r ∷ rows) h (suc n) row e = few_of rows h.1 n row e

pub kernels_few : HaveFew kernel_primitives
kernels_few = (omega arith, (omega arith, (omega arith, (omega arith, (omega arith, (omega arith, (omega arith, (omega arith, (omega arith, (omega arith, tt))))))))))

-- where the unit's data stand on a map, and the word to which `dispatch` returns: the entry at which the kernel is left
abbrev pub regions_on : Map → UnitData
regions_on m = record { globals = globals_at m; heap = heap_at m; stack = stack_at m; back = leave_at }

module _ (x : Environment) (y : Site) (u : CUnit) (p : CodeAddresses) (code : List Inst) (words : List ℕ) (st : CodeStands u p y code) (b : Bounds y.map)
    (big : memory_words y.map ≤ length words) (small : length words < 2 ^ 26) (alikes : AlikesStand) (current : ℕ) where
  -- the code from behind its first instruction on
  abbrev pub world : World
  world = on_machine x (program y.map (layer_words + 1) code words)

  abbrev pub regions : UnitData
  regions = regions_on y.map

  -- words that aren't the unit's: below its globals, and from the page tables on
  not_low : (k : ℕ) → k < globals_at y.map → k ≢ 1026 → IsOurs regions y.map.params.stack k → ⊥
  not_low k lt ne (inl o) = let le = o.0 in absurd (omega (arith, lt, le))
  not_low k lt ne (inr e) = ne e

  not_high : (k : ℕ) → tables_at y.map ≤ k → IsOurs regions y.map.params.stack k → ⊥
  not_high k le (inl o) = let lt = o.1 in let s = b.stack in absurd (omega (arith, lt, le, s))
  not_high k le (inr e) = let code = b.code in let globals = b.globals in let heap = b.heap in let stack = b.stack in absurd (omega (arith, e, le))

  linked_words : length y.linked ≡ layer_words + length code
  linked_words =
      let drops = length-drop layer_words y.linked in let is = ap length st.linked in let maps : length (map encoding code) ≡ length code = length-map code encoding in let long = st.long in
      omega (arith, drops, is, maps, long)

  pub stays : (v : Machines) (c c' : Contents) (d : Behind) → ((k : ℕ) → (IsOurs regions y.map.params.stack k → ⊥) → c'.memory k ≡ c.memory k) → c'.special ≡ c.special → Outer y current v c d → Outer y current v c' d
  stays v c c' d same special o =
      let code_room = b.code in let globals = b.globals in let heap = b.heap in let stack = b.stack in let tables = b.tables in let frame_table = b.frame_table in let zeros = b.zeros in
      let users : length v.users ≡ y.map.users = o.count in
      let few : y.map.users ≤ 64 = b.users in
      let low : (k : ℕ) → k < layer_words → k ≢ 1026 → c'.memory k ≡ c.memory k = λ k lt ne. same k (not_low k (omega (arith, lt, code_room)) ne) in
      let high : (k : ℕ) → tables_at y.map ≤ k → c'.memory k ≡ c.memory k = λ k le. same k (not_high k le) in
      record {
        most = o.most;
        count = o.count;
        each = o.each;
        sizes = λ u one le. low (block_at u + 32) (omega (arith, le, users, few)) (λ e. absurd (omega (arith, e))) ∙ o.sizes u one le;
        blocks = λ u one le. let h = o.blocks u one le in record {
          pc = low (block_at u) (omega (arith, le, users, few)) (λ e. absurd (omega (arith, e))) ∙ h.pc;
          regs = λ r from lt. low (block_at u + r) (omega (arith, le, users, few, lt)) (λ e. absurd (omega (arith, e))) ∙ h.regs r from lt;
          hi = low (block_at u + 33) (omega (arith, le, users, few)) (λ e. absurd (omega (arith, e))) ∙ h.hi;
          lo = low (block_at u + 34) (omega (arith, le, users, few)) (λ e. absurd (omega (arith, e))) ∙ h.lo;
        };
        user = low current_at (omega arith) (λ e. absurd (omega (arith, e))) ∙ o.user;
        places = λ k from to. low k (omega (arith, to)) (λ e. absurd (omega (arith, e, from))) ∙ o.places k from to;
        linked = λ k lt own. let code_words = st.code_words in same k (not_low k (omega (arith, lt, linked_words, code_words, code_room)) (λ e. absurd (true≢false (sym (ap (is_own y.map) e) ∙ own)))) ∙ o.linked k lt own;
        pages = alikes.stands (page_layout y.map) (pages_by y.map.params.pages v.users) (paged_view (table_layout y.map) c.memory d.sectors) (paged_view (table_layout y.map) c'.memory d.sectors) o.pages (record {
          entries = λ q lt. high (tables_at y.map + q) (omega arith);
          counts = λ f is. high _ (omega (arith, is.0, is.1));
          slots = λ f is k lt. high _ (omega (arith, is.0, is.1, lt));
          frames = λ f is i lt. high (1024 * f + i) (omega (arith, is.0, is.1));
          sectors = λ q lt i in_page. refl;
          hand = ap (λ n. (page_layout y.map).zeros + 1 + n) (low hand_at (omega arith) (λ e. absurd (omega (arith, e))));
        });
        log_room = o.log_room;
        input_few = o.input_few;
        log = o.log;
        input = o.input;
      }

  abbrev pub setup : Setup Machines Changes (Outer y current)
  setup =
      let code_words = st.code_words in let global_words = st.global_words in
      let code_room = b.code in let globals = b.globals in let heap = b.heap in let stack = b.stack in let tables = b.tables in let frame_table = b.frame_table in let memory = b.memory in
      record {
        w = world;
        sound = sound x y.map (layer_words + 1) words code (omega arith) (omega (arith, code_words, code_room, globals, heap, stack, tables, frame_table, memory)) big small st.in_range;
        table = kernel_primitives;
        p = setting_of u y.map.params;
        well_formed = st.checked.well_formed;
        addresses = p;
        a = regions;
        low = omega (arith, code_room);
        globals_fit = omega (arith, globals, global_words);
        heap_fits = heap;
        stack_fits = omega (arith, big);
        stack_small = b.stack_small;
        ours = λ k o. elim o [
          | inl is ↦ kept_code y.map code words k (omega (arith, is.1, stack, tables, frame_table, memory)) ∙ ap (option_map encoding) (no_code layer_words code k (omega (arith, is.0, code_words, code_room)))
          | inr e ↦ kept_code y.map code words k (omega (arith, e, code_room, globals, heap, stack, tables, frame_table, memory)) ∙ ap (option_map encoding) (no_low_code code k (omega (arith, e)))
        ];
        globals_at = st.globals;
        functions = λ n f is. stands_at x y.map words code ((links_of p).function n) (function_code (scope_of u f p) (links_of p) f) (st.functions n f is);
        new_object = stands_at x y.map words code (links_of p).new_object runtime.new_routine st.new_object;
        outer_stays = stays;
        few_arguments = few_of kernel_primitives kernels_few;
        elsewhere = λ n k e q. let c = code_is (layer_words + 1) code k _ e in let le = c.0 in let lt = st.below n in absurd (omega (arith, le, lt, q));
      }
