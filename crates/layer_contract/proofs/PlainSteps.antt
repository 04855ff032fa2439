-- The two untrapped steps of a user: one that changes the processor alone, and a store.
use Rattle.std.proofs.Common.{◌≡◌, ◌≢◌, ℕ, ◌+◌, ◌-◌, ◌*◌, ◌/◌, ◌%◌, All, ◌<◌, ◌≤◌, nat_lt, List, length, take, drop, slice_index, slice_set, refl, sym, ap, ap₂, ◌∙◌, subst, ⊎_elim, arith, length-set, get_or-set_same, get_or-set_other, div-add-mod'}
use Rattle.std.proofs.lemmas.Bool.{cases_eq}
use Rattle.std.proofs.lemmas.List.{take-set-le, drop-set-add}
use Rattle.std.proofs.lemmas.List.Elements.{All-set}
use Rattle.mips_table.specs.Device.{Device, Environment, sector_of}
use Rattle.mips_table.specs.Fits.{IsWord}
use Rattle.mips_table.specs.Processor.{Cpu}
use Rattle.mips_table.specs.Flat.{Flat}
use Rattle.mips_table.specs.Machine.{State}
use Rattle.layer_map.specs.Map.{hand_at, block_at, globals_at, tables_at, frame_table_at, zero_frame_at}
use Rattle.page_model.specs.Paging.{PageLayout, Protected, MapsTo, Paged, Pages, PagingInvariant}
use Rattle.page_model.specs.TableLayout.{page_layout}
use Rattle.cvm_model.specs.Kernel.{Core}
use Rattle.cvm_model.specs.Primitives.{user_of, with_user}
use Rattle.cvm_model.specs.Paged.{paged_of, pages_by}
use Rattle.cvm_model.specs.Stands.{Site, block_cpu}
use Rattle.layer_contract.specs.Layer.{page_at}
use Rattle.layer_contract.proofs.StoresInPages.{Edit, stored}
use Rattle.layer_contract.proofs.AddressesStand.{own, Known, Sizes, sizes_of, user_fits}
use Rattle.layer_contract.proofs.WordsInFrames.{page_user, page_part, in_table, page_in, frame_word, user_frame, word_is}
use Rattle.layer_contract.proofs.UntrappedSteps.{same_user, other_user, same_pages, After}

-- the words of users where one has the same as before
words_same : (users : List Flat) (w : ℕ) (f : Flat) → 1 ≤ w → w ≤ length users → f.words ≡ (user_of users w).words → (u : ℕ) → 1 ≤ u → (user_of (with_user users w f) u).words ≡ (user_of users u).words
words_same users w f from to same u le = ⊎_elim
    (λ e. ap (λ v. (user_of (with_user users w f) v).words) e ∙ ap (λ (g : Flat). g.words) (same_user users w f from to) ∙ same ∙ ap (λ v. (user_of users v).words) (sym e))
    (λ ne. ap (λ (g : Flat). g.words) (other_user users u w f le from ne))
    (cases_eq u w)

-- pages that show the same
reviewed : (l : PageLayout) (v v' : Pages) (a : Paged) → ((q : ℕ) → v'.live q ≡ v.live q) → ((q i : ℕ) → v'.word q i ≡ v.word q i) → PagingInvariant l v a → PagingInvariant l v' a
reviewed l v v' a lives words s = record {
  pages = λ q lt al i li. s.pages q lt (sym (lives q) ∙ al) i li ∙ sym (words q i);
  dead = λ q lt d. s.dead q lt (sym (lives q) ∙ d);
  named = s.named;
  counts = s.counts;
  lists = s.lists;
  few = s.few;
  shared = s.shared;
  zero = s.zero;
  hand = s.hand;
}

-- a control block lies before a word that is written
block_same : (memory : List ℕ) (k v u : ℕ) → 1 ≤ u → u ≤ 64 → 16384 ≤ k → block_cpu (slice_set memory k v) u ≡ block_cpu memory u
block_same memory k v u from to le =
    let at : (j : ℕ) → j < 16384 → slice_index (slice_set memory k v) j ≡ slice_index memory j = λ j lt. get_or-set_other memory k j v 0 (λ e. absurd (omega arith)) in
    let split : block_at u + 1 + (k - (block_at u + 1)) ≡ k = omega arith in
    let regs : take 31 (drop (block_at u + 1) (slice_set memory k v)) ≡ take 31 (drop (block_at u + 1) memory) =
    ap (λ n. take 31 (drop (block_at u + 1) (slice_set memory n v))) (sym split) ∙ ap (take 31) (drop-set-add (block_at u + 1) memory (k - (block_at u + 1)) v) ∙ take-set-le 31 (drop (block_at u + 1) memory) (k - (block_at u + 1)) v (omega arith) in
    rw (at (block_at u) (omega arith), regs, at (block_at u + 33) (omega arith), at (block_at u + 34) (omega arith)) refl

module _ (x : Environment) (y : Site) (s : State) (c : Core) (k : Known x y s c) (cpu : Cpu) (d : Device) (same_device : d ≡ s.device) (mask time : ℕ) where
  pub ran : After x y s (record s { cpu = cpu; device = d; mask = mask; time = time }) c (record { cpu = cpu; words = own c })
  ran =
      let f : Flat = record { cpu = cpu; words = own c } in
      let from : 1 ≤ c.current = k.runs.user.0 in
      let to : c.current ≤ length c.users = k.runs.user.1 in
      record {
        special = refl;
        off = refl;
        reset = refl;
        device = same_device;
        log = refl;
        input = refl;
        cpu = refl;
        size = refl;
        words = λ all. (user_fits x y s c k).words;
        long = refl;
        low = λ j lt. refl;
        blocks = λ u a b. refl;
        pages = subst (λ d. PagingInvariant (page_layout y.map) (pages_by y.map.params.pages (with_user c.users c.current f)) (paged_of y.map (record s { cpu = cpu; device = d; mask = mask; time = time }))) (sym same_device)
            (reviewed (page_layout y.map) (pages_by y.map.params.pages c.users) (pages_by y.map.params.pages (with_user c.users c.current f)) (paged_of y.map s)
            (λ q. ap (nat_lt (q % y.map.params.pages)) (same_pages c.users c.current f from to refl (q / y.map.params.pages + 1) (omega arith)))
            (λ q i. ap (λ ws. slice_index ws (1024 * (q % y.map.params.pages) + i)) (words_same c.users c.current f from to refl (q / y.map.params.pages + 1) (omega arith)))
            k.stands.pages);
      }

  -- a store to an address that stands in a frame through an unprotected entry
  module _ (address value : ℕ) (lt : address / 4 < length (own c)) (frame at : ℕ) (names : MapsTo ((paged_of y.map s).entry (page_at y.map c address)) frame)
      (free : Protected ((paged_of y.map s).entry (page_at y.map c address)) → ⊥) (there : at / 4 ≡ 1024 * frame + address % 4096 / 4) where
    abbrev after : Flat
    after = record { cpu = cpu; words = slice_set (own c) (address / 4) value }

    abbrev stored_to : State
    stored_to = record s { cpu = cpu; memory = slice_set s.memory (at / 4) value; device = d; mask = mask; time = time }

    high : zero_frame_at y.map + 1024 ≤ at / 4
    high = let u : zero_frame_at y.map + 1024 ≤ 1024 * frame = user_frame x y s c k address lt frame names free in omega arith

    deep : 16384 ≤ zero_frame_at y.map
    deep =
        let z : Sizes y.map = sizes_of y.map k.range in
        let layer : 16384 ≤ globals_at y.map = z.layer in
        let globals : globals_at y.map + y.map.global_words ≤ tables_at y.map = z.globals in
        let tables : tables_at y.map + y.map.users * y.map.params.pages ≤ frame_table_at y.map = z.tables in
        let table : frame_table_at y.map + 8 * (y.map.params.frames + 1) ≤ zero_frame_at y.map = z.table in
        omega arith

    -- what was stored is a word where those of the memory are
    word : All IsWord (slice_set s.memory (at / 4) value) → IsWord value
    word all =
        let inside : at / 4 < length s.memory = (word_is x y s c k address lt frame names at there).0 in
        let same : length (slice_set s.memory (at / 4) value) ≡ length s.memory = length-set s.memory (at / 4) value in
        subst IsWord (get_or-set_same s.memory (at / 4) value 0 inside) (all (at / 4) 0 (omega arith))

    low : (j : ℕ) → j < zero_frame_at y.map → slice_index (slice_set s.memory (at / 4) value) j ≡ slice_index s.memory j
    low j l = get_or-set_other s.memory (at / 4) j value 0 (λ e. let h = high in absurd (omega arith))

    from : 1 ≤ c.current
    from = k.runs.user.0

    to : c.current ≤ length c.users
    to = k.runs.user.1

    -- a page with the user and the part of the address is its page
    only : (q i : ℕ) → i < 1024 → q / y.map.params.pages + 1 ≡ c.current → 1024 * (q % y.map.params.pages) + i ≡ address / 4 → q ≡ page_at y.map c address
    only q i li u e =
        let part : q % y.map.params.pages ≡ address / 4096 = omega arith in
        let whole : q / y.map.params.pages * y.map.params.pages + q % y.map.params.pages ≡ q = div-add-mod' q y.map.params.pages in
        let user : q / y.map.params.pages ≡ c.current - 1 = omega arith in
        sym whole ∙ ap₂ (λ a b. a * y.map.params.pages + b) user part

    new_words : (q i : ℕ) → q ≢ page_at y.map c address → i < 1024 → slice_index (user_of (with_user c.users c.current after) (q / y.map.params.pages + 1)).words (1024 * (q % y.map.params.pages) + i)
        ≡ slice_index (user_of c.users (q / y.map.params.pages + 1)).words (1024 * (q % y.map.params.pages) + i)
    new_words q i ne li = ⊎_elim
        (λ e. ap (λ v. slice_index (user_of (with_user c.users c.current after) v).words (1024 * (q % y.map.params.pages) + i)) e
        ∙ ap (λ (g : Flat). slice_index g.words (1024 * (q % y.map.params.pages) + i)) (same_user c.users c.current after from to)
        ∙ get_or-set_other (own c) (address / 4) (1024 * (q % y.map.params.pages) + i) value 0 (λ same. ne (only q i li e same))
        ∙ ap (λ v. slice_index (user_of c.users v).words (1024 * (q % y.map.params.pages) + i)) (sym e))
        (λ other. ap (λ (g : Flat). slice_index g.words (1024 * (q % y.map.params.pages) + i)) (other_user c.users (q / y.map.params.pages + 1) c.current after (omega arith) from other))
        (cases_eq (q / y.map.params.pages + 1) c.current)

    in_frame : (i : ℕ) → i < 1024 → slice_index (slice_set s.memory (at / 4) value) (1024 * frame + i) ≡ slice_index (slice_set (own c) (address / 4) value) (1024 * (address / 4096) + i)
    in_frame i li = ⊎_elim
        (λ e. let here : 1024 * frame + i ≡ at / 4 = omega arith in
        let there : 1024 * (address / 4096) + i ≡ address / 4 = omega arith in
        let inside : at / 4 < length s.memory = (word_is x y s c k address lt frame names at there').0 in
        ap (slice_index (slice_set s.memory (at / 4) value)) here ∙ get_or-set_same s.memory (at / 4) value 0 inside
        ∙ sym (ap (slice_index (slice_set (own c) (address / 4) value)) there ∙ get_or-set_same (own c) (address / 4) value 0 lt))
        (λ ne. get_or-set_other s.memory (at / 4) (1024 * frame + i) value 0 (λ e. ne (omega arith)) ∙ frame_word x y s c k address lt frame names i li
        ∙ sym (get_or-set_other (own c) (address / 4) (1024 * (address / 4096) + i) value 0 (λ e. ne (omega arith))))
        (cases_eq i (address % 4096 / 4))
      where
        there' : at / 4 ≡ 1024 * frame + address % 4096 / 4
        there' = there

    edit : Edit (page_layout y.map) (pages_by y.map.params.pages c.users) (pages_by y.map.params.pages (with_user c.users c.current after)) (page_at y.map c address) frame
        (λ i. slice_index (slice_set (own c) (address / 4) value) (1024 * (address / 4096) + i)) (paged_of y.map s) (paged_of y.map stored_to)
    edit =
        let z : Sizes y.map = sizes_of y.map k.range in
        let tables : tables_at y.map + y.map.users * y.map.params.pages ≤ frame_table_at y.map = z.tables in
        let table : frame_table_at y.map + 8 * (y.map.params.frames + 1) ≤ zero_frame_at y.map = z.table in
        let layer : 16384 ≤ zero_frame_at y.map = deep in
        let inside : address / 4096 < y.map.params.pages = in_table x y s c k address lt in
        record {
          lives = λ q l. ap (nat_lt (q % y.map.params.pages)) (same_pages c.users c.current after from to (length-set (own c) (address / 4) value) (q / y.map.params.pages + 1) (omega arith));
          word = λ i li. ap₂ (λ p u. slice_index (user_of (with_user c.users c.current after) u).words (1024 * p + i)) (page_part x y s c k address inside) (page_user x y s c k address inside)
              ∙ ap (λ (g : Flat). slice_index g.words (1024 * (address / 4096) + i)) (same_user c.users c.current after from to);
          words = λ q l ne i li. new_words q i ne li;
          entries = λ q l. low (tables_at y.map + q) (omega arith);
          counts = λ g is. let a : zero_frame_at y.map / 1024 < g = is.0 in let b : g ≤ zero_frame_at y.map / 1024 + y.map.params.frames = is.1 in
              low (frame_table_at y.map + 8 * (g - (zero_frame_at y.map / 1024 + 1))) (omega arith);
          slots = λ g is k lt. let a : zero_frame_at y.map / 1024 < g = is.0 in let b : g ≤ zero_frame_at y.map / 1024 + y.map.params.frames = is.1 in
              low (frame_table_at y.map + 8 * (g - (zero_frame_at y.map / 1024 + 1)) + 1 + k) (omega arith);
          frame = in_frame;
          frames = λ g is ne i li. get_or-set_other s.memory (at / 4) (1024 * g + i) value 0 (λ e. ne (omega arith));
          sectors = λ q l i li. ap (λ (d : Device). slice_index (sector_of d.sectors q) i) same_device;
          hand = ap (λ h. zero_frame_at y.map / 1024 + 1 + h) (low hand_at (omega arith));
        }

    pub stores : After x y s stored_to c after
    stores = record {
      special = refl;
      off = refl;
      reset = refl;
      device = same_device;
      log = refl;
      input = refl;
      cpu = refl;
      size = length-set (own c) (address / 4) value;
      words = λ all. All-set IsWord (own c) (address / 4) value (word all) (user_fits x y s c k).words;
      long = length-set s.memory (at / 4) value;
      low = low;
      blocks = λ u a b. block_same s.memory (at / 4) value u a b (let h : zero_frame_at y.map + 1024 ≤ at / 4 = high in let dp : 16384 ≤ zero_frame_at y.map = deep in omega arith);
      pages = stored (page_layout y.map) (pages_by y.map.params.pages c.users) (pages_by y.map.params.pages (with_user c.users c.current after)) (page_at y.map c address) frame
          (λ i. slice_index (slice_set (own c) (address / 4) value) (1024 * (address / 4096) + i)) (paged_of y.map s) (paged_of y.map stored_to)
          k.stands.pages (page_in x y s c k address lt) names free edit;
    }
