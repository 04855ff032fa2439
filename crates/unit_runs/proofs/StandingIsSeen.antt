-- A state that stands is seen as users and console beside the kernel's data; and a state that is seen so stands.
use Rattle.std.specs.Prelude.{slice_index, All, ◌&&◌, ◌==◌}
use Rattle.std.proofs.Common.{◌≡◌, ℕ, ◌+◌, ◌-◌, ◌*◌, ◌<◌, ◌≤◌, Bool, true, false, length, refl, sym, ap, ◌∙◌, arith, true≢false}
use Rattle.mips_table.specs.Device.{Idle, Environment}
use Rattle.mips_table.specs.Code.{Contents, Behind}
use Rattle.mips_table.specs.declared.special.TheConstants.{MODE}
use Rattle.mips_table.specs.Machine.{State}
use Rattle.mips_table.specs.Turns.{is_on}
use Rattle.mips_table.specs.Simulation.{space, contents_of, behind_of, Quiet}
use Rattle.layer_map.specs.Map.{layer_words, hand_at, current_at, heap_used_at, block_at, globals_at, heap_at, tables_at, memory_words}
use Rattle.page_model.specs.Laws.{AlikesStand}
use Rattle.page_model.specs.Edits.{Alike}
use Rattle.page_model.specs.TableLayout.{page_layout, table_layout, paged_view}
use Rattle.c0_meaning.specs.RunLaws.{scalars}
use Rattle.cvm_model.specs.Kernel.{flat, Core}
use Rattle.cvm_model.specs.KernelMeaning.{machines_of}
use Rattle.cvm_model.specs.Primitives.{user_of}
use Rattle.cvm_model.specs.Cvm.{Running}
use Rattle.cvm_model.specs.Paged.{paged_of, pages_by}
use Rattle.cvm_model.specs.Stands.{Site, UserFits, CoreFits, RunningRelation, runs_user, address_of}
use Rattle.unit_runs.specs.Held.{HoldsAt}
use Rattle.unit_runs.specs.Outer.{Outer}
use Rattle.unit_runs.proofs.HeldStandAsWords.{flat_scalars}
use Rattle.unit_runs.proofs.MapPartsStand.{Bounds}
use Rattle.unit_runs.proofs.UsersSeen.{space_is, block_seen, block_again}

-- what is seen of a state
abbrev pub seen : State → Contents
seen s = contents_of s.cpu s.special (space s.memory s.device.buffer s.device.sector)

abbrev pub behind : State → Behind
behind s = behind_of s.device s.log s.input

-- a machine in system mode runs no user
pub no_user : (s : State) → slice_index s.special MODE ≡ 0 → runs_user s ≡ false
no_user s mode = ap (λ n. is_on s && n == 1) mode ∙ by (is_on s)
  where
    by : (b : Bool) → (b && false) ≡ false
    by true = refl
    by false = refl

-- a user of a list that fits
pub user_fits : (y : Site) (c : Core) → All (UserFits y.map.params.pages) c.users → (u : ℕ) → 1 ≤ u → u ≤ length c.users → UserFits y.map.params.pages (user_of c.users u)
user_fits y c each u one le = each (u - 1) _ (omega (arith, one, le))

module _ (alikes : AlikesStand) (x : Environment) (y : Site) (b : Bounds y.map) (whole : length y.linked ≡ layer_words + y.map.code_words) where
  -- the words of paging are seen as they are
  same_pages : (s : State) → memory_words y.map ≤ length s.memory → Alike (page_layout y.map) (paged_of y.map s) (paged_view (table_layout y.map) (seen s).memory (behind s).sectors)
  same_pages s long =
      let code = b.code in let globals = b.globals in let heap = b.heap in let stack = b.stack in let tables = b.tables in let frame_table = b.frame_table in let memory = b.memory in let zeros = b.zeros in
      record {
        entries = λ q lt. space_is s.memory s.device.buffer s.device.sector (tables_at y.map + q) (omega (arith, long, lt));
        counts = λ f u. space_is s.memory s.device.buffer s.device.sector _ (omega (arith, long, u.0, u.1));
        slots = λ f u k lt. space_is s.memory s.device.buffer s.device.sector _ (omega (arith, long, u.0, u.1, lt));
        frames = λ f u i lt. space_is s.memory s.device.buffer s.device.sector (1024 * f + i) (omega (arith, long, u.0, u.1, lt));
        sectors = λ q lt i in_page. refl;
        hand = ap (λ n. (page_layout y.map).zeros + 1 + n) (space_is s.memory s.device.buffer s.device.sector hand_at (omega (arith, long)));
      }

  unlike : (s : State) → memory_words y.map ≤ length s.memory → Alike (page_layout y.map) (paged_view (table_layout y.map) (seen s).memory (behind s).sectors) (paged_of y.map s)
  unlike s long = let a = same_pages s long in record {
    entries = λ q lt. sym (a.entries q lt);
    counts = λ f u. sym (a.counts f u);
    slots = λ f u k lt. sym (a.slots f u k lt);
    frames = λ f u i lt. sym (a.frames f u i lt);
    sectors = λ q lt i in_page. refl;
    hand = sym a.hand;
  }

  -- the layer's words lie in memory
  low : (s : State) → memory_words y.map ≤ length s.memory → (k : ℕ) → k < layer_words + y.map.code_words → (seen s).memory k ≡ slice_index s.memory k
  low s long k lt =
      let code = b.code in let globals = b.globals in let heap = b.heap in let stack = b.stack in let tables = b.tables in let frame_table = b.frame_table in let memory = b.memory in
      space_is s.memory s.device.buffer s.device.sector k (omega (arith, long, lt))

  pub outer_of : (s : State) (c : Core) → RunningRelation x y s Running c → runs_user s ≡ false → Outer y c.current (machines_of y.map.params c) (seen s) (behind s)
  outer_of s c st none =
      let users : length c.users ≡ y.map.users = st.whole.users in
      let few : y.map.users ≤ 64 = b.users in
      record {
        most = refl;
        count = st.whole.users;
        each = st.whole.each;
        sizes = λ u one le. low s st.memory (block_at u + 32) (omega (arith, users, few, le)) ∙ st.users.sizes u (one, le);
        blocks = λ u one le. block_seen s.memory (seen s).memory u (user_of c.users u).cpu (λ k from to. low s st.memory k (omega (arith, users, few, le, to)))
            (st.users.blocks u (one, le) (ap (λ r. r && u == c.current) none));
        user = low s st.memory current_at (omega arith) ∙ st.users.current refl;
        places = λ k from to. low s st.memory k (omega (arith, to)) ∙ st.kernel.places k from to;
        linked = λ k lt own. low s st.memory k (omega (arith, lt, whole)) ∙ st.kernel.linked k lt own;
        pages = alikes.stands (page_layout y.map) (pages_by y.map.params.pages c.users) (paged_of y.map s) (paged_view (table_layout y.map) (seen s).memory (behind s).sectors) st.pages (same_pages s st.memory);
        log_room = st.whole.log;
        input_few = st.whole.input;
        log = st.log;
        input = st.input;
      }

  -- the kernel's data are seen, and all else
  pub record IsSeen (s : State) (c : Core) : Type 0 where
    pub quiet : Quiet x s
    pub idle : s.device.pending ≡ Idle
    pub count : y.map.users * y.map.params.pages ≤ x.count
    pub fits : CoreFits y.map c
    pub long : memory_words y.map ≤ length s.memory
    pub small : length s.memory ≤ 65000 * 1024
    pub outer : Outer y c.current (machines_of y.map.params c) (seen s) (behind s)
    pub globals : HoldsAt (seen s).memory (globals_at y.map) (flat (address_of y.map c.c0) c.c0.global_values)
    pub heap : HoldsAt (seen s).memory (heap_at y.map) (flat (address_of y.map c.c0) c.c0.heap_values)
    pub used : (seen s).memory heap_used_at ≡ c.c0.heap_words

  pub stands_of : (s : State) (c : Core) → IsSeen s c → RunningRelation x y s Running c
  stands_of s c h =
      let users : length c.users ≡ y.map.users = h.fits.users in
      let few : y.map.users ≤ 64 = b.users in
      let globals = b.globals in let heap = b.heap in let stack = b.stack in let tables = b.tables in let frame_table = b.frame_table in let memory = b.memory in
      let global_words : scalars c.c0.global_values ≡ y.map.global_words = h.fits.globals in
      let heap_words : scalars c.c0.heap_values ≤ y.map.params.heap = h.fits.heap in
      let long : memory_words y.map ≤ length s.memory = h.long in
      record {
        fits = h.quiet.fits;
        whole = h.fits;
        memory = h.long;
        small = h.small;
        kernel = record {
          globals = λ i lt. sym (space_is s.memory s.device.buffer s.device.sector (globals_at y.map + i) (omega (arith, lt, long, flat_scalars (address_of y.map c.c0) c.c0.global_values, global_words))) ∙ h.globals i lt;
          heap = λ i lt. sym (space_is s.memory s.device.buffer s.device.sector (heap_at y.map + i) (omega (arith, lt, long, flat_scalars (address_of y.map c.c0) c.c0.heap_values, heap_words))) ∙ h.heap i lt;
          used = sym (low s h.long heap_used_at (omega arith)) ∙ h.used;
          places = λ k from to. sym (low s h.long k (omega (arith, to))) ∙ h.outer.places k from to;
          linked = λ k lt own. sym (low s h.long k (omega (arith, lt, whole))) ∙ h.outer.linked k lt own;
        };
        users = record {
          sizes = λ u is. sym (low s h.long (block_at u + 32) (omega (arith, users, few, is.1))) ∙ h.outer.sizes u is.0 is.1;
          blocks = λ u is not. block_again s.memory (seen s).memory u (user_of c.users u).cpu (user_fits y c h.fits.each u is.0 is.1).cpu (omega (arith, users, few, is.1, long))
              (λ k from to. low s h.long k (omega (arith, users, few, is.1, to))) (h.outer.blocks u is.0 is.1);
          runs = λ r. absurd (true≢false (sym r ∙ no_user s h.quiet.mode));
          current = λ e. sym (low s h.long current_at (omega arith)) ∙ h.outer.user;
        };
        pages = alikes.stands (page_layout y.map) (pages_by y.map.params.pages c.users) (paged_view (table_layout y.map) (seen s).memory (behind s).sectors) (paged_of y.map s) h.outer.pages (unlike s h.long);
        sectors = h.count;
        no_reset = h.quiet.no_reset;
        idle = h.idle;
        log = h.outer.log;
        input = h.outer.input;
      }
