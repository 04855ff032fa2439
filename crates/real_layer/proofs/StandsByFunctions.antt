-- "Stands for" by functions: what words and ports show of users, pages and console, taken from a state that stands and given back to one.
use Rattle.std.proofs.Common.{◌≡◌, ◌≢◌, ℕ, zero, suc, ◌+◌, ◌-◌, ◌*◌, ◌/◌, ◌%◌, ◌<◌, ◌≤◌, ◌⊎◌, Bool, true, false, ◌&&◌, nat_lt, List, ◌∷◌, length, take, drop, slice_index, refl, sym, ap, ◌∙◌, subst, inl, inr, arith, lt-ltb, ne_eqb, eqb-true}
use Rattle.std.specs.Prelude.{◌==◌, if◌then◌else◌}
use Rattle.std.proofs.lemmas.Bool.{cond-true, cond-false, eqb-false}
use Rattle.std.proofs.lemmas.List.{ext_get_or, get_or-take, get_or-drop, length-append, length-take-le, length-drop}
use Rattle.mips_table.specs.Device.{Idle, Environment, BUFFER, SECTOR, is_buffer}
use Rattle.mips_table.specs.Machine.{State}
use Rattle.mips_table.specs.Processor.{Cpu}
use Rattle.mips_table.specs.Flat.{Flat}
use Rattle.mips_table.specs.Fits.{CpuFits, Fits}
use Rattle.mips_table.specs.Code.{Behind}
use Rattle.mips_table.specs.Simulation.{space, sectors_of, behind_of}
use Rattle.layer_map.specs.Map.{Map, MapInRange, layer_words, current_at, hand_at, heap_used_at, stack_limit_at, block_at, globals_at, heap_at, stack_at, tables_at, frame_table_at, zero_frame_at, memory_words}
use Rattle.page_model.specs.Paging.{Pages, PagingInvariant}
use Rattle.page_model.specs.TableLayout.{page_layout, table_layout, paged_view}
use Rattle.page_model.specs.Edits.{Alike}
use Rattle.page_model.specs.Laws.{AlikesStand}
use Rattle.c0_meaning.specs.Value.{Location, Value, int as an_int, bool as a_bool, null, at, group, Values, empty, part}
use Rattle.c0_meaning.specs.RunLaws.{scalars, all_scalars}
use Rattle.cvm_model.specs.Kernel.{flat, flats, Core}
use Rattle.cvm_model.specs.Primitives.{no_flat, user_of, pages_of, register_of}
use Rattle.cvm_model.specs.Cvm.{Status, Running}
use Rattle.cvm_model.specs.Paged.{pages_by}
use Rattle.cvm_model.specs.Stands.{Site, IsUser, address_of, DataStands, CoreFits, UserFits, RunsUser, RunningRelation, block_cpu, is_own, runs_user}
use Rattle.cvm_primitives.specs.Blocks.{BlocksHold, block_word}

-- a value has as many words as it says
mutual
  flat_length : (a : Location → ℕ) (v : Value) → length (flat a v) ≡ scalars v
  flat_length a (an_int n) = refl
  flat_length a (a_bool b) = refl
  flat_length a null = refl
  flat_length a (at p) = refl
  flat_length a (group vs) = flats_length a vs

  flats_length : (a : Location → ℕ) (vs : Values) → length (flats a vs) ≡ all_scalars vs
  flats_length a empty = refl
  flats_length a (part v vs) = length-append (flat a v) (flats a vs) ∙ rw (flat_length a v, flats_length a vs) refl

-- users, pages and console, as words and ports show them
pub record Shown (y : Site) (c : Core) (words : ℕ → ℕ) (d : Behind) : Type 0 where
  pub blocks : BlocksHold c.users words
  pub pages : PagingInvariant (page_layout y.map) (pages_by y.map.params.pages c.users) (paged_view (table_layout y.map) words d.sectors)
  pub log : d.log ≡ c.console.log
  pub input : d.input ≡ c.console.input
  pub idle : d.pending ≡ Idle

-- a word of the kernel's data: of the heap's and the stack's variables, or from the kernel's code on up to the page tables
abbrev pub IsKernels : Map → ℕ → Type 0
IsKernels m k = ((heap_used_at ≤ k) × (k ≤ stack_limit_at)) ⊎ ((layer_words ≤ k) × (k < tables_at m))

-- what the words of a state are in memory
pub space_is : (memory buffer : List ℕ) (sector k : ℕ) → k < length memory → space memory buffer sector k ≡ slice_index memory k
space_is memory buffer sector k lt = cond-true (nat_lt k (length memory)) (slice_index memory k) (if is_buffer k then slice_index buffer (k - BUFFER) else if k == SECTOR then sector else 0) (lt-ltb k (length memory) lt)

abbrev pub words_of : State → ℕ → ℕ
words_of s = space s.memory s.device.buffer s.device.sector

abbrev pub behind : State → Behind
behind s = behind_of s.device s.log s.input

pub word_is : (s : State) (k : ℕ) → k < length s.memory → words_of s k ≡ slice_index s.memory k
word_is s k lt = space_is s.memory s.device.buffer s.device.sector k lt

-- the order and the sizes of the parts
pub record Order (m : Map) : Type 0 where
  pub globals : layer_words + m.code_words ≤ globals_at m
  pub heap : globals_at m + m.global_words ≤ heap_at m
  pub stack : heap_at m + m.params.heap ≤ stack_at m
  pub tables : stack_at m + m.params.stack ≤ tables_at m
  pub counts : tables_at m + m.users * m.params.pages ≤ frame_table_at m
  pub zeros : frame_table_at m + 8 * (m.params.frames + 1) ≤ zero_frame_at m
  pub whole : zero_frame_at m / 1024 * 1024 ≡ zero_frame_at m
  pub most : memory_words m ≤ 65000 * 1024

pub order_of : (m : Map) → MapInRange m → Order m
order_of m r = grind (arith, r, r.params)

-- the layer's words and the kernel's code lie in the map
pub layer_inside : (m : Map) → Order m → layer_words ≤ memory_words m
layer_inside m o = let globals = o.globals in let heap = o.heap in let stack = o.stack in let tables = o.tables in let counts = o.counts in let zeros = o.zeros in omega arith

-- registers as the words behind the first of a control block have them
pub block_reg : (memory : List ℕ) (b r : ℕ) → 1 ≤ r → r ≤ 31 → slice_index (0 ∷ take 31 (drop (b + 1) memory)) r ≡ slice_index memory (b + r)
block_reg memory b (suc r) from to =
    let lt : r < 31 = omega arith in
    let there : b + 1 + r ≡ b + suc r = omega arith in
    get_or-take 31 (drop (b + 1) memory) r 0 lt ∙ get_or-drop (b + 1) memory r 0 ∙ ap (slice_index memory) there
block_reg memory b zero from to = absurd (omega arith)

cpu_parts : (p q h i l m : ℕ) (f g : List ℕ) → p ≡ q → f ≡ g → h ≡ i → l ≡ m → (let a : Cpu = record { pc = p; regs = f; hi = h; lo = l } in let b : Cpu = record { pc = q; regs = g; hi = i; lo = m } in a ≡ b)
cpu_parts p q h i l m f g a b c d = rw (a, b, c, d) refl

pub cpu_is : (a b : Cpu) → a.pc ≡ b.pc → a.regs ≡ b.regs → a.hi ≡ b.hi → a.lo ≡ b.lo → a ≡ b
cpu_is a b p g h l = cpu_parts a.pc b.pc a.hi b.hi a.lo b.lo a.regs b.regs p g h l

-- a user fits
pub user_fits : (m : Map) (c : Core) (u : ℕ) → CoreFits m c → IsUser c u → UserFits m.params.pages (user_of c.users u)
user_fits m c u w is = let from = is.0 in let to = is.1 in w.each (u - 1) no_flat (omega arith)

-- control blocks, as functions and as lists
pub blocks_of : (m : Map) (c : Core) (memory : List ℕ) → CoreFits m c → ((u : ℕ) → IsUser c u → slice_index memory (block_at u + 32) ≡ pages_of (user_of c.users u)) → ((u : ℕ) → IsUser c u → block_cpu memory u ≡ (user_of c.users u).cpu)
    → BlocksHold c.users (slice_index memory)
blocks_of m c memory w sizes cpus = record {
  registers = λ u r is from to. by u r is from to (r == 32) refl;
  sizes = λ u is. sizes u is;
  hi = λ u is. ap (λ (k : Cpu). k.hi) (cpus u is);
  lo = λ u is. ap (λ (k : Cpu). k.lo) (cpus u is);
}
  where
    by : (u r : ℕ) → IsUser c u → 1 ≤ r → r ≤ 32 → (t : Bool) → (r == 32) ≡ t → slice_index memory (block_word u r) ≡ register_of (user_of c.users u) r
    by u r is from to true e =
        let last : r ≡ 32 = eqb-true r 32 e in
        let there : block_at u + r % 32 ≡ block_at u = omega arith in
        ap (slice_index memory) there ∙ ap (λ (k : Cpu). k.pc) (cpus u is) ∙ sym (cond-true (r == 32) (user_of c.users u).cpu.pc (slice_index (user_of c.users u).cpu.regs r) e)
    by u r is from to false e =
        let ne : r ≢ 32 = eqb-false r 32 e in
        let there : block_at u + r % 32 ≡ block_at u + r = omega arith in
        ap (slice_index memory) there ∙ sym (block_reg memory (block_at u) r from (omega arith)) ∙ ap (λ (k : Cpu). slice_index k.regs r) (cpus u is) ∙ sym (cond-false (r == 32) (user_of c.users u).cpu.pc (slice_index (user_of c.users u).cpu.regs r) e)

pub cpu_of_block : (m : Map) (c : Core) (memory : List ℕ) (u : ℕ) → CoreFits m c → BlocksHold c.users (slice_index memory) → IsUser c u → block_at u + 64 ≤ length memory → block_cpu memory u ≡ (user_of c.users u).cpu
cpu_of_block m c memory u w b is long =
    let f : Flat = user_of c.users u in
    let fits : CpuFits f.cpu = (user_fits m c u w is).cpu in
    let size : length (take 31 (drop (block_at u + 1) memory)) ≡ 31 = length-take-le 31 (drop (block_at u + 1) memory) (omega (arith, length-drop {A = ℕ})) in
    let own : length f.cpu.regs ≡ 32 = fits.regs.size in
    let there : block_at u ≡ block_at u + 32 % 32 = omega arith in
    cpu_is (block_cpu memory u) f.cpu (ap (slice_index memory) there ∙ b.registers u 32 is (omega arith) (omega arith))
    (ext_get_or 0 (0 ∷ take 31 (drop (block_at u + 1) memory)) f.cpu.regs (omega arith) (λ i lt. reg fits.regs.none i (omega arith))) (b.hi u is) (b.lo u is)
  where
    reg : slice_index (user_of c.users u).cpu.regs 0 ≡ 0 → (i : ℕ) → i < 32 → slice_index (0 ∷ take 31 (drop (block_at u + 1) memory)) i ≡ slice_index (user_of c.users u).cpu.regs i
    reg none zero lt = sym none
    reg none (suc i) lt =
        let there : block_at u + suc i ≡ block_at u + suc i % 32 = omega arith in
        block_reg memory (block_at u) (suc i) (omega arith) (omega arith) ∙ ap (slice_index memory) there ∙ b.registers u (suc i) is (omega arith) (omega arith)
        ∙ cond-false (suc i == 32) (user_of c.users u).cpu.pc (slice_index (user_of c.users u).cpu.regs (suc i)) (ne_eqb (suc i) 32 (λ e. absurd (omega arith)))

-- control blocks in words that agree
pub blocks_agree : (users : List Flat) (g h : ℕ → ℕ) → length users ≤ 64 → ((k : ℕ) → block_at 1 ≤ k → k < layer_words → h k ≡ g k) → BlocksHold users g → BlocksHold users h
blocks_agree users g h few same b = record {
  registers = λ u r is from to. let low = is.0 in let top = is.1 in same (block_word u r) (omega arith) (omega arith) ∙ b.registers u r is from to;
  sizes = λ u is. let low = is.0 in let top = is.1 in same (block_at u + 32) (omega arith) (omega arith) ∙ b.sizes u is;
  hi = λ u is. let low = is.0 in let top = is.1 in same (block_at u + 33) (omega arith) (omega arith) ∙ b.hi u is;
  lo = λ u is. let low = is.0 in let top = is.1 in same (block_at u + 34) (omega arith) (omega arith) ∙ b.lo u is;
}

-- words that agree from the page tables on, and at the hand, show the same of paging
pub words_alike : (m : Map) (g h : ℕ → ℕ) (a : ℕ → ℕ → ℕ) → Order m → ((k : ℕ) → (k ≡ hand_at) ⊎ (tables_at m ≤ k) → k < memory_words m → h k ≡ g k) → Alike (page_layout m) (paged_view (table_layout m) g a) (paged_view (table_layout m) h a)
words_alike m g h a o same =
    let tables = o.tables in let counts = o.counts in let zeros = o.zeros in let whole = o.whole in
    record {
      entries = λ q lt. same (tables_at m + q) (inr (omega arith)) (omega arith);
      counts = λ f is. let low = is.0 in let top = is.1 in same (frame_table_at m + 8 * (f - (zero_frame_at m / 1024 + 1))) (inr (omega arith)) (omega arith);
      slots = λ f is k lt. let low = is.0 in let top = is.1 in same (frame_table_at m + 8 * (f - (zero_frame_at m / 1024 + 1)) + 1 + k) (inr (omega arith)) (omega arith);
      frames = λ f is i lt. let low = is.0 in let top = is.1 in same (1024 * f + i) (inr (omega arith)) (omega arith);
      sectors = λ q lt i in_page. refl;
      hand = ap (λ n. zero_frame_at m / 1024 + 1 + n) (same hand_at (inl refl) (omega arith));
    }

pub pages_agree : AlikesStand → (m : Map) (v : Pages) (g h : ℕ → ℕ) (a : ℕ → ℕ → ℕ) → Order m → ((k : ℕ) → (k ≡ hand_at) ⊎ (tables_at m ≤ k) → k < memory_words m → h k ≡ g k)
    → PagingInvariant (page_layout m) v (paged_view (table_layout m) g a) → PagingInvariant (page_layout m) v (paged_view (table_layout m) h a)
pages_agree alikes m v g h a o same p = alikes.stands (page_layout m) v (paged_view (table_layout m) g a) (paged_view (table_layout m) h a) p (words_alike m g h a o same)

-- what a state shows that stands and runs no user
pub shown : AlikesStand → (x : Environment) (y : Site) (s : State) (status : Status) (c : Core) → MapInRange y.map → RunningRelation x y s status c → runs_user s ≡ false → Shown y c (words_of s) (behind s)
shown alikes x y s status c range st none =
    let m : Map = y.map in
    let o : Order m = order_of m range in
    let globals = o.globals in let heap = o.heap in let stack = o.stack in let tables = o.tables in let counts = o.counts in let zeros = o.zeros in
    let long : memory_words m ≤ length s.memory = st.memory in
    let few : m.users ≤ 64 = range.users in
    let users : length c.users ≡ m.users = st.whole.users in
    record {
      blocks = blocks_agree c.users (slice_index s.memory) (words_of s) (omega arith) (λ k low top. word_is s k (omega arith))
          (blocks_of m c s.memory st.whole st.users.sizes (λ u is. st.users.blocks u is (ap (λ b. b && (u == c.current)) none)));
      pages = pages_agree alikes m (pages_by m.params.pages c.users) (slice_index s.memory) (words_of s) (sectors_of s.device.sectors) o (λ k why lt. word_is s k (omega arith)) st.pages;
      log = st.log;
      input = st.input;
      idle = st.idle;
    }

-- what is known of a state that is to stand, beside what it shows: it fits, with the kernel's data and the words that stay as in a
-- state s that stands
pub record Follows (x : Environment) (y : Site) (s t : State) : Type 0 where
  pub fits : Fits x t
  pub no_reset : t.reset ≡ false
  pub size : length t.memory ≡ length s.memory
  pub kernel : (k : ℕ) → IsKernels y.map k → slice_index t.memory k ≡ slice_index s.memory k
  pub linked : (k : ℕ) → k < length y.linked → is_own y.map k ≡ false → slice_index t.memory k ≡ slice_index y.linked k

-- the control blocks in memory: sizes, and all processors but that of a user that runs
pub record InBlocks (t : State) (c : Core) : Type 0 where
  pub sizes : (u : ℕ) → IsUser c u → slice_index t.memory (block_at u + 32) ≡ pages_of (user_of c.users u)
  pub blocks : (u : ℕ) → IsUser c u → (runs_user t && u == c.current) ≡ false → block_cpu t.memory u ≡ (user_of c.users u).cpu

-- pages and console, as words and ports show them
pub record ShownPages (y : Site) (c : Core) (words : ℕ → ℕ) (d : Behind) : Type 0 where
  pub pages : PagingInvariant (page_layout y.map) (pages_by y.map.params.pages c.users) (paged_view (table_layout y.map) words d.sectors)
  pub log : d.log ≡ c.console.log
  pub input : d.input ≡ c.console.input
  pub idle : d.pending ≡ Idle

-- a state that follows one that stands, with the same data of the kernel, stands where it shows its users, pages and console
pub stood_with : AlikesStand → (x : Environment) (y : Site) (s t : State) (status after : Status) (c c' : Core) → MapInRange y.map → RunningRelation x y s status c → Follows x y s t → CoreFits y.map c' → c'.c0 ≡ c.c0
    → ShownPages y c' (words_of t) (behind t) → InBlocks t c' → (after ≡ Running → slice_index t.memory current_at ≡ c'.current) → (runs_user t ≡ true → RunsUser y.map t c') → RunningRelation x y t after c'
stood_with alikes x y s t status after c c' range st f whole same sh blocks current runs =
    let m : Map = y.map in
    let o : Order m = order_of m range in
    let globals = o.globals in let heap = o.heap in let stack = o.stack in let tables = o.tables in let counts = o.counts in let zeros = o.zeros in
    let long : memory_words m ≤ length s.memory = st.memory in
    let small : length s.memory ≤ 65000 * 1024 = st.small in
    let size : length t.memory ≡ length s.memory = f.size in
    let few : m.users ≤ 64 = range.users in
    let users : length c'.users ≡ m.users = whole.users in
    record {
      fits = f.fits;
      whole = whole;
      memory = omega arith;
      small = omega arith;
      kernel = subst (DataStands y t.memory) (sym same) (record {
        globals = λ i lt. let n : length (flat (address_of m c.c0) c.c0.global_values) ≡ m.global_words = flat_length (address_of m c.c0) c.c0.global_values ∙ st.whole.globals in
            f.kernel (globals_at m + i) (inr (omega arith, omega arith)) ∙ st.kernel.globals i lt;
        heap = λ i lt. let n : length (flat (address_of m c.c0) c.c0.heap_values) ≡ scalars c.c0.heap_values = flat_length (address_of m c.c0) c.c0.heap_values in
            let most : scalars c.c0.heap_values ≤ m.params.heap = st.whole.heap in
            f.kernel (heap_at m + i) (inr (omega arith, omega arith)) ∙ st.kernel.heap i lt;
        used = f.kernel heap_used_at (inl (omega arith, omega arith)) ∙ st.kernel.used;
        places = λ k le lt. f.kernel k (inl (omega arith, lt)) ∙ st.kernel.places k le lt;
        linked = f.linked;
      });
      users = record {
        sizes = blocks.sizes;
        blocks = blocks.blocks;
        runs = runs;
        current = current;
      };
      pages = pages_agree alikes m (pages_by m.params.pages c'.users) (words_of t) (slice_index t.memory) (sectors_of t.device.sectors) o (λ k why lt. sym (word_is t k (omega arith))) sh.pages;
      sectors = st.sectors;
      no_reset = f.no_reset;
      idle = sh.idle;
      log = sh.log;
      input = sh.input;
    }

-- the same where no user runs
pub stood : AlikesStand → (x : Environment) (y : Site) (s t : State) (status after : Status) (c c' : Core) → MapInRange y.map → RunningRelation x y s status c → Follows x y s t → CoreFits y.map c' → c'.c0 ≡ c.c0
    → Shown y c' (words_of t) (behind t) → (after ≡ Running → slice_index t.memory current_at ≡ c'.current) → (runs_user t ≡ true → RunsUser y.map t c') → RunningRelation x y t after c'
stood alikes x y s t status after c c' range st f whole same sh current runs =
    let m : Map = y.map in
    let o : Order m = order_of m range in
    let globals = o.globals in let heap = o.heap in let stack = o.stack in let tables = o.tables in let counts = o.counts in let zeros = o.zeros in
    let long : memory_words m ≤ length s.memory = st.memory in
    let size : length t.memory ≡ length s.memory = f.size in
    let few : m.users ≤ 64 = range.users in
    let users : length c'.users ≡ m.users = whole.users in
    let blocks : BlocksHold c'.users (slice_index t.memory) = blocks_agree c'.users (words_of t) (slice_index t.memory) (omega arith) (λ k low top. sym (word_is t k (omega arith))) sh.blocks in
    stood_with alikes x y s t status after c c' range st f whole same (record { pages = sh.pages; log = sh.log; input = sh.input; idle = sh.idle })
    (record { sizes = blocks.sizes; blocks = λ u is other. let low = is.0 in let top = is.1 in cpu_of_block m c' t.memory u whole blocks is (omega arith) }) current runs
