-- The machine after an untrapped step of the current user stands for the state with that user's next machine.
use Rattle.std.proofs.Common.{◌≡◌, ◌≢◌, ℕ, ◌+◌, ◌-◌, ◌*◌, ◌/◌, ◌<◌, ◌≤◌, ◌&&◌, true, List, length, All, slice_index, sym, ap, ap₂, ◌∙◌, subst, ⊎_elim, arith, eq-eqb, true≢false, length-set, get_or-set_same, get_or-set_other}
use Rattle.std.specs.Prelude.{◌==◌}
use Rattle.std.proofs.lemmas.Bool.{cases_eq}
use Rattle.std.proofs.lemmas.List.Elements.{All-set}
use Rattle.mips_table.specs.Device.{Device, Environment}
use Rattle.mips_table.specs.Fits.{IsWord}
use Rattle.mips_table.specs.Flat.{Flat}
use Rattle.mips_table.specs.Machine.{State}
use Rattle.mips_table.specs.Fits.{CpuFits, Fits}
use Rattle.layer_map.specs.Map.{Map, current_at, heap_used_at, block_at, globals_at, heap_at, tables_at, frame_table_at, zero_frame_at, memory_words}
use Rattle.page_model.specs.Paging.{PagingInvariant}
use Rattle.page_model.specs.TableLayout.{page_layout}
use Rattle.c0_meaning.specs.RunLaws.{scalars}
use Rattle.cvm_model.specs.Kernel.{flat, Core}
use Rattle.cvm_model.specs.Primitives.{no_flat, user_of, with_user, pages_of}
use Rattle.cvm_model.specs.Cvm.{Running}
use Rattle.cvm_model.specs.Paged.{paged_of, pages_by}
use Rattle.cvm_model.specs.Stands.{Site, address_of, UserFits, block_cpu, runs_user, RunningRelation}
use Rattle.layer_contract.proofs.ResetStandsForStart.{flat_length}
use Rattle.layer_contract.proofs.AddressesStand.{own, Known, Sizes, sizes_of, user_fits}

-- the state of the CVM with the current user's machine replaced
abbrev pub with_current : Core → Flat → Core
with_current c f = record c { users = with_user c.users c.current f }

-- the machine of the user that was replaced, and of another
pub same_user : (users : List Flat) (w : ℕ) (f : Flat) → 1 ≤ w → w ≤ length users → user_of (with_user users w f) w ≡ f
same_user users w f from to = get_or-set_same users (w - 1) f no_flat (omega arith)

pub other_user : (users : List Flat) (u w : ℕ) (f : Flat) → 1 ≤ u → 1 ≤ w → u ≢ w → user_of (with_user users w f) u ≡ user_of users u
other_user users u w f a b ne = get_or-set_other users (w - 1) (u - 1) f no_flat (λ e. ne (omega arith))

-- a user keeps its number of pages where the replacing machine has as many words
pub same_pages : (users : List Flat) (w : ℕ) (f : Flat) → 1 ≤ w → w ≤ length users → length f.words ≡ length (user_of users w).words → (u : ℕ) → 1 ≤ u → pages_of (user_of (with_user users w f) u) ≡ pages_of (user_of users u)
same_pages users w f from to size u le = ⊎_elim
    (λ e. ap (λ v. pages_of (user_of (with_user users w f) v)) e ∙ ap pages_of (same_user users w f from to) ∙ ap (λ n. n / 1024) size ∙ ap (λ v. pages_of (user_of users v)) (sym e))
    (λ ne. ap pages_of (other_user users u w f le from ne))
    (cases_eq u w)

-- a machine t after s whose memory differs in user frames alone, and a machine f of the user of the same size
pub record After (x : Environment) (y : Site) (s t : State) (c : Core) (f : Flat) : Type 0 where
  pub special : t.special ≡ s.special
  pub off : t.off ≡ s.off
  pub reset : t.reset ≡ s.reset
  pub device : t.device ≡ s.device
  pub log : t.log ≡ s.log
  pub input : t.input ≡ s.input
  pub cpu : t.cpu ≡ f.cpu
  pub size : length f.words ≡ length (own c)
  pub words : All IsWord t.memory → All IsWord f.words
  pub long : length t.memory ≡ length s.memory
  pub low : (j : ℕ) → j < zero_frame_at y.map → slice_index t.memory j ≡ slice_index s.memory j
  pub blocks : (u : ℕ) → 1 ≤ u → u ≤ 64 → block_cpu t.memory u ≡ block_cpu s.memory u
  pub pages : PagingInvariant (page_layout y.map) (pages_by y.map.params.pages (with_user c.users c.current f)) (paged_of y.map t)

module _ (x : Environment) (y : Site) (s t : State) (c : Core) (f : Flat) (k : Known x y s c) (linked : length y.linked ≤ zero_frame_at y.map) (user : runs_user s ≡ true) (a : After x y s t c f) (fits : Fits x t) where
  same_size : (u : ℕ) → 1 ≤ u → pages_of (user_of (with_user c.users c.current f) u) ≡ pages_of (user_of c.users u)
  same_size u from = same_pages c.users c.current f k.runs.user.0 k.runs.user.1 a.size u from

  pub running : runs_user t ≡ true
  running = ap₂ (λ o sp. runs_user (record s { off = o; special = sp })) a.off a.special ∙ user

  fits_user : UserFits y.map.params.pages f
  fits_user =
      let old : UserFits y.map.params.pages (user_of c.users c.current) = user_fits x y s c k in
      let whole : length (own c) ≡ 1024 * pages_of (user_of c.users c.current) = old.whole in
      let most : pages_of (user_of c.users c.current) ≤ y.map.params.pages = old.pages in
      let size : length f.words ≡ length (own c) = a.size in
      record { cpu = subst CpuFits a.cpu fits.cpu; pages = omega arith; whole = omega arith; words = a.words fits.memory }

  pub stands_after : RunningRelation x y t Running (with_current c f)
  stands_after =
      let m : Map = y.map in
      let st : RunningRelation x y s Running c = k.stands in
      let z : Sizes m = sizes_of m k.range in
      let globals : globals_at m + m.global_words ≤ tables_at m = z.globals in
      let heap : heap_at m + m.params.heap ≤ tables_at m = z.heap in
      let tables : tables_at m + m.users * m.params.pages ≤ frame_table_at m = z.tables in
      let table : frame_table_at m + 8 * (m.params.frames + 1) ≤ zero_frame_at m = z.table in
      let layer : 16384 ≤ globals_at m = z.layer in
      let few : m.users ≤ 64 = k.range.users in
      let users : length c.users ≡ m.users = st.whole.users in
      let long : memory_words m ≤ length s.memory = st.memory in
      let small : length s.memory ≤ 65000 * 1024 = st.small in
      let same : length t.memory ≡ length s.memory = a.long in
      let count : length (with_user c.users c.current f) ≡ length c.users = length-set c.users (c.current - 1) f in
      let from : 1 ≤ c.current = k.runs.user.0 in
      let to : c.current ≤ length c.users = k.runs.user.1 in
      record {
        fits = fits;
        whole = record {
          users = count ∙ users;
          each = All-set (UserFits m.params.pages) c.users (c.current - 1) f fits_user st.whole.each;
          globals = st.whole.globals;
          heap = st.whole.heap;
          used = st.whole.used;
          frames = st.whole.frames;
          current = st.whole.current;
          log = st.whole.log;
          input = st.whole.input;
        };
        memory = omega arith;
        small = omega arith;
        kernel = record {
          globals = λ i lt. let n : length (flat (address_of m c.c0) c.c0.global_values) ≡ m.global_words = flat_length (address_of m c.c0) c.c0.global_values ∙ st.whole.globals in
              a.low (globals_at m + i) (omega arith) ∙ st.kernel.globals i lt;
          heap = λ i lt. let n : length (flat (address_of m c.c0) c.c0.heap_values) ≡ scalars c.c0.heap_values = flat_length (address_of m c.c0) c.c0.heap_values in
              let most : scalars c.c0.heap_values ≤ m.params.heap = st.whole.heap in
              a.low (heap_at m + i) (omega arith) ∙ st.kernel.heap i lt;
          used = a.low heap_used_at (omega arith) ∙ st.kernel.used;
          places = λ j le lt. a.low j (omega arith) ∙ st.kernel.places j le lt;
          linked = λ j lt stays. a.low j (omega arith) ∙ st.kernel.linked j lt stays;
        };
        users = record {
          sizes = λ u is. let top : u ≤ length (with_user c.users c.current f) = is.1 in let bottom : 1 ≤ u = is.0 in
              a.low (block_at u + 32) (omega arith) ∙ st.users.sizes u (is.0, omega arith) ∙ sym (same_size u is.0);
          blocks = λ u is other. let top : u ≤ length (with_user c.users c.current f) = is.1 in
              let ne : u ≢ c.current = λ e. true≢false (sym (ap₂ (λ p q. p && q) running (eq-eqb u c.current e)) ∙ other) in
              a.blocks u is.0 (omega arith) ∙ st.users.blocks u (is.0, omega arith) (ap (λ b. b && (u == c.current)) (user ∙ sym running) ∙ other) ∙ ap (λ (g : Flat). g.cpu) (sym (other_user c.users u c.current f is.0 from ne));
          runs = λ run. record {
            user = (from, omega arith);
            cpu = a.cpu ∙ ap (λ (g : Flat). g.cpu) (sym (same_user c.users c.current f from to));
            pto = ap (λ sp. slice_index sp 5) a.special ∙ k.runs.pto;
            ptl = ap (λ sp. slice_index sp 6) a.special ∙ k.runs.ptl ∙ sym (same_size c.current from);
            sr = ap (λ sp. slice_index sp 0) a.special ∙ k.runs.sr;
          };
          current = λ e. a.low current_at (omega arith) ∙ st.users.current e;
        };
        pages = a.pages;
        sectors = st.sectors;
        no_reset = a.reset ∙ st.no_reset;
        idle = ap (λ (d : Device). d.pending) a.device ∙ st.idle;
        log = a.log ∙ st.log;
        input = a.input ∙ st.input;
      }
