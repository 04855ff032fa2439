-- A call of a primitive, from its entry to its return.
use Rattle.std.proofs.Common.{◌≡◌, ℕ, ◌+◌, ◌-◌, ◌*◌, ◌/◌, ◌^◌, ◌<◌, ◌≤◌, ℤ, ◌&&◌, not, Some, None, List, [], ◌∷◌, ◌++◌, length, slice_index, All, nat_lt, refl, sym, ap, ◌∙◌, subst, ⊎_elim, inr, true≢false, arith, le-ltb, lt-ltb}
use Rattle.std.specs.Prelude.{if◌then◌else◌}
use Rattle.std.proofs.lemmas.Bool.{cases_lt, cond_both}
use Rattle.std.proofs.lemmas.List.{ext_get_or, get_or_past, length-drop}
use Rattle.std.proofs.lemmas.List.Elements.{All-get_or, All-from_recursion}
use Rattle.std.specs.Int.{cast_unsigned, w32}
use Rattle.std.proofs.lemmas.Int.{of_z-to_z}
use Rattle.mips_table.specs.declared.inst.Inst.{Inst}
use Rattle.mips_table.specs.declared.inst.Inst.TheVariants.{Jr}
use Rattle.mips_table.specs.Arith.{signed}
use Rattle.mips_table.specs.Flat.{Flat}
use Rattle.mips_table.specs.Device.{Idle, Environment}
use Rattle.mips_table.specs.Machine.{LOG_ROOM, State, run, Console, log_has_room}
use Rattle.mips_table.specs.Fits.{IsWord}
use Rattle.mips_table.specs.Code.{Contents, Behind, World, Sound, CodeState, at_with, Reaches}
use Rattle.masm.specs.Laws.{From, ReturnRuns}
use Rattle.layer_map.specs.Map.{Map, layer_words, current_at, hand_at, memory_words}
use Rattle.page_model.specs.Paging.{PagingInvariant}
use Rattle.page_model.specs.TableLayout.{page_layout, table_layout, paged_view}
use Rattle.cvm_model.specs.Kernel.{flat, Core}
use Rattle.cvm_model.specs.Primitives.{KernelCall, ConPut, ConGet, Given, prim, is_good, granted, refused, unchanged, primitive_number, units_of}
use Rattle.cvm_model.specs.Cvm.{Running, run_steps}
use Rattle.cvm_model.specs.Paged.{pages_by}
use Rattle.cvm_model.specs.Stands.{Site, input_room, CoreFits, RunningRelation, is_own}
use Rattle.layer_contract.specs.Layer.{Inside, InCode, given, Returned, ComesBack}
use Rattle.cvm_primitives.specs.Blocks.{BlocksHold}
use Rattle.real_layer.specs.Image.{returning, routine_at, image_site, IsMade}
use Rattle.real_layer.specs.Runs.{Calm, kept_words, block_world}
use Rattle.real_layer.proofs.StandsByFunctions.{IsKernels, Order, order_of, behind, word_is, stood, layer_inside}
use Rattle.real_layer.proofs.EntryToEntry.{way_from}
use Rattle.real_layer.proofs.RunsBetweenEntries.{Below, Arrives, contents}
use Rattle.real_layer.proofs.RoutinesAndExits.{Tools, not_user, Routed, arrives_in}
use Rattle.real_layer.proofs.AfterDispatch.{free_own}
use Rattle.real_layer.proofs.UsersFit.{HasWord, prim_fits}

-- what a call leaves, of either kind of primitive
pub record Came (y : Site) (g : Given) (c0 : Contents) (d0 : Behind) (c : Contents) (d : Behind) : Type 0 where
  pub answer : flat (λ _. 0) g.answer ≡ c.regs 2 ∷ []
  pub pages : PagingInvariant (page_layout y.map) (pages_by y.map.params.pages g.users) (paged_view (table_layout y.map) c.memory d.sectors)
  pub blocks : BlocksHold g.users c.memory
  pub log : d.log ≡ g.console.log
  pub input : d.input ≡ g.console.input
  pub current : c.memory current_at ≡ c0.memory current_at
  pub words : (k : ℕ) → IsKernels y.map k → c.memory k ≡ c0.memory k
  pub special : c.special ≡ c0.special
  pub regs : (r : ℕ) → 28 ≤ r → r ≤ 31 → c.regs r ≡ c0.regs r
  pub idle : d.pending ≡ Idle

-- of a console
input_shrinks : (most : ℕ) (call : KernelCall) (users : List Flat) (o : Console) → length (prim most call users o).console.input ≤ length o.input
input_shrinks most call users o = cond_both (is_good most users call) (granted users o call) (unchanged users o (refused call) 0 0) (λ g. length g.console.input ≤ length o.input) (λ _. by call) (λ _. omega arith)
  where
    by : (call : KernelCall) → length (granted users o call).console.input ≤ length o.input
    by (ConPut w) = cond_both (log_has_room o.log) (record o { log = o.log ++ cast_unsigned w32 w ∷ [] }) o (λ (k : Console). length k.input ≤ length o.input) (λ _. omega arith) (λ _. omega arith)
    by ConGet = omega (arith, length-drop 1 o.input)
    by other = omega arith

-- a word read from a list of words
pub word_read : (ws : List ℕ) (i : ℕ) → All IsWord ws → slice_index ws i < 2 ^ 32
word_read ws i all = ⊎_elim (λ lt. All-get_or IsWord ws i 0 lt all) (λ le. let z : slice_index ws i ≡ 0 = get_or_past ws i 0 le in omega arith) (cases_lt i (length ws))

pub as_word : (v : ℤ) (r : ℕ) → r < 2 ^ 32 → signed r ≡ v → cast_unsigned w32 v < 2 ^ 32
as_word v r lt e = let is : cast_unsigned w32 v ≡ r = ap (cast_unsigned w32) (sym e) ∙ of_z-to_z w32 r lt in omega arith

module _ (m : Map) (sizes code : List ℕ) (made : IsMade m sizes code) where
  abbrev y : Site
  y = image_site m sizes code

  -- words of the map behind the linked ones aren't kept, and no port is
  pub free_past : (memory : List ℕ) (k : ℕ) → length y.linked ≤ k → k < memory_words m → kept_words y memory k ≡ None
  free_past memory k le lt =
      ap (λ b. if b then (if nat_lt k (length y.linked) && not (is_own m k) then Some (slice_index y.linked k) else None) else if nat_lt k (length memory) then Some (slice_index memory k) else None) (lt-ltb k (memory_words m) lt)
      ∙ ap (λ b. if b && not (is_own m k) then Some (slice_index y.linked k) else None) (le-ltb k (length y.linked) le)

  pub free_port : (memory : List ℕ) (k : ℕ) → memory_words m ≤ k → length memory ≤ k → kept_words y memory k ≡ None
  free_port memory k le past =
      ap (λ b. if b then (if nat_lt k (length y.linked) && not (is_own m k) then Some (slice_index y.linked k) else None) else if nat_lt k (length memory) then Some (slice_index memory k) else None) (le-ltb k (memory_words m) le)
      ∙ ap (λ b. if b then Some (slice_index memory k) else None) (le-ltb k (length memory) past)

  pub own_hand : (memory : List ℕ) → kept_words y memory hand_at ≡ None
  own_hand memory = free_own y memory hand_at (let l = layer_inside m (order_of m made.range) in omega arith) refl

  -- THE RETURN: the machine is at the return address, and stands for what the call comes to
  module _ (z : Tools) (x : Environment) (s : State) (c : Core) (call : KernelCall) (st : RunningRelation x y s Running c) (i : Inside s) (word : HasWord call) where
    abbrev g : Given
    g = given y c call

    whole : (t : State) → Calm x y t → t.log ≡ g.console.log → CoreFits m (record c { users = g.users; console = g.console })
    whole t k log =
        let fit = prim_fits m.params.pages c.users c.console st.whole.each call word in
        let room : length t.log ≤ LOG_ROOM = k.quiet.fits.console.room in
        let most : length c.console.input ≤ input_room = st.whole.input in
        record {
          users = fit.0 ∙ st.whole.users;
          each = fit.1;
          globals = st.whole.globals;
          heap = st.whole.heap;
          used = st.whole.used;
          frames = st.whole.frames;
          current = st.whole.current;
          log = subst (λ l. length l ≤ LOG_ROOM) log room;
          input = omega (arith, input_shrinks m.params.pages call c.users c.console);
        }

    pub returned : (t : State) → Calm x y t → length t.memory ≡ length s.memory → t.cpu.pc ≡ slice_index s.cpu.regs 31 → Came y g (contents s) (behind s) (contents t) (behind t) → Returned x y g c s t
    returned t k size pc e =
        let o : Order m = order_of m made.range in
        let globals = o.globals in let heap = o.heap in let stack = o.stack in let tables = o.tables in let counts = o.counts in let zeros = o.zeros in
        let long : memory_words m ≤ length s.memory = st.memory in
        let same : (j : ℕ) → IsKernels m j → j < length s.memory → slice_index t.memory j ≡ slice_index s.memory j = λ j is lt. sym (word_is t j (omega arith)) ∙ e.words j is ∙ word_is s j lt in
        let inside : Inside t = record { on = k.quiet.on; mode = k.quiet.mode; sr = k.quiet.sr; no_reset = k.quiet.no_reset } in
        let nine : length t.special ≡ 9 = k.quiet.fits.special.size in
        let nine' : length s.special ≡ 9 = st.fits.special.size in
        record {
          inside = inside;
          pc = pc;
          answer = e.answer;
          stands = stood z.alikes x y s t Running Running c (record c { users = g.users; console = g.console }) made.range st
              (record {
                fits = k.quiet.fits;
                no_reset = k.quiet.no_reset;
                size = size;
                kernel = λ j is. same j is (⊎_elim (λ h. let h1 = h.1 in omega arith) (λ h. let h1 = h.1 in omega arith) is);
                linked = k.stays;
              }) (whole t k e.log) refl
              (record { blocks = e.blocks; pages = e.pages; log = e.log; input = e.input; idle = e.idle })
              (λ run. sym (word_is t current_at (omega arith)) ∙ e.current ∙ word_is s current_at (omega arith) ∙ st.users.current refl)
              (λ run. absurd (true≢false (sym run ∙ not_user t inside)));
          stack = λ j low top. same j (inr (omega arith, omega arith)) (omega arith);
          special = ext_get_or 0 t.special s.special (omega arith) (λ j lt. ap (λ f. f j) e.special);
          kept = All-from_recursion (λ r. slice_index t.cpu.regs r ≡ slice_index s.cpu.regs r) (28 ∷ 29 ∷ 30 ∷ [])
              (e.regs 28 (omega arith) (omega arith), (e.regs 29 (omega arith) (omega arith), (e.regs 30 (omega arith) (omega arith), tt)));
        }

    -- a routine's run that leaves so much comes back
    pub comes_back : (X : Contents → Type 0) (longest n : ℕ) (body : List Inst) (steps : ℕ) → n < 10 → n ≡ primitive_number call → InCode m (slice_index s.cpu.regs 31) → s.cpu.pc ≡ 4 * (2048 + n) → steps + 2 ≤ run_steps m longest (units_of g) g.pages
        → ((w : World) → Sound w → ReturnRuns w body) → (r : Routed m sizes code made n (returning body) x s)
        → From (block_world x y (run x s 1) (routine_at m n) (returning body)) body steps (contents s) (behind s) (λ c' d'. Came y g (contents s) (behind s) c' d' × X c') → (b : ComesBack x y longest c call s) × X (contents (run x s b.comes.steps))
    comes_back X longest n body steps lt is back pc enough returns r f =
        let b : Below = z.below in
        let s1 : State = run x s 1 in
        let at : ℕ = routine_at m n in
        let w : World = block_world x y s1 at (returning body) in
        let to : ℕ = slice_index s.cpu.regs 31 / 4 in
        let whole = back.whole in let from = back.from in
        let there : slice_index s.cpu.regs 31 ≡ 4 * to = omega arith in
        let got = f.by at (contents s) (behind s) (b.runs.front w at body (Jr 31 ∷ []) r.block) (refl, refl) in
        let e : Came y g (contents s) (behind s) got.0 got.1 = got.2.0 in
        let u : CodeState = at_with to got.0 got.1 in
        let reaches : Reaches w (steps + 1) (at_with at (contents s) (behind s)) u =
        returns w r.sound at steps to (contents s) (behind s) got.0 got.1 r.block got.3 (e.regs 31 (omega arith) (omega arith) ∙ there) e.idle in
        let a : Arrives x y (steps + 1) s1 u = arrives_in m sizes code made z n (returning body) x s r (steps + 1) u e.idle reaches in
        let t : State = run x s1 a.steps in
        let at2 : t.cpu.pc / 4 ≡ to = ap (λ (v : CodeState). v.at) a.there in
        let aligned = a.calm.quiet.aligned in
        let within = a.within in
        let q : Returned x y g c s t = returned t a.calm (a.size ∙ r.enters.size) (omega arith) (subst (λ (v : CodeState). Came y g (contents s) (behind s) v.contents v.behind) (sym a.there) e) in (
          record {
            comes = record {
              steps = 1 + a.steps;
              within = omega arith;
              way = way_from b.sum x y a.steps s r.enters.inside r.enters.sectors r.enters.frames r.enters.named a.between;
              there = subst (Returned x y g c s) (sym (b.sum x s 1 a.steps)) q;
            };
            apart = λ j less same. ⊎_elim
                (λ first. let zero' : j ≡ 0 = omega arith in let p : s.cpu.pc ≡ slice_index s.cpu.regs 31 = ap (λ k. (run x s k).cpu.pc) (sym zero') ∙ same in absurd (omega arith))
                (λ second.
                let e : j ≡ 1 + (j - 1) = omega arith in
                let is : run x s j ≡ run x s1 (j - 1) = ap (run x s) e ∙ b.sum x s 1 (j - 1) in
                let low : (run x s1 (j - 1)).cpu.pc < 4 * layer_words = a.between.below (j - 1) (omega arith) in
                let p : (run x s1 (j - 1)).cpu.pc ≡ slice_index s.cpu.regs 31 = ap (λ (v : State). v.cpu.pc) (sym is) ∙ same in
                absurd (omega arith))
                (cases_lt j 1);
          },
          subst (λ (v : State). X (contents v)) (sym (b.sum x s 1 a.steps)) (subst (λ (v : CodeState). X v.contents) (sym a.there) got.2.1),
        )
