-- Where an address of the current user stands: past its memory, in a page that isn't to be had, or in a frame.
use Rattle.std.proofs.Common.{◌≡◌, ℕ, ◌+◌, ◌-◌, ◌*◌, ◌/◌, ◌%◌, ◌^◌, ◌<◌, ◌≤◌, ◌&&◌, Some, None, Bool, true, false, nat_lt, List, length, slice_index, refl, ap, ◌∙◌, sym, arith, lt-ltb, ltb-true, ne_eqb, eq-eqb, eqb-true}
use Rattle.std.proofs.lemmas.Bool.{le-ltb, ltb-false, eqb-false}
use Rattle.mips_table.specs.Device.{Environment}
use Rattle.mips_table.specs.declared.special.TheConstants.{PTO, PTL, MODE}
use Rattle.mips_table.specs.Machine.{in_system, pte_address, is_valid, is_protected, translated}
use Rattle.mips_table.specs.Machine.{State, located}
use Rattle.layer_map.specs.Map.{Map, MapInRange, layer_words, code_at, globals_at, heap_at, stack_at, tables_at, frame_table_at, zero_frame_at, memory_words}
use Rattle.page_model.specs.Paging.{Valid, Protected, MapsTo, IsAccessible}
use Rattle.layer_contract.proofs.MapPartsBounded.{PartsApart}
use Rattle.cvm_model.specs.Kernel.{Core}
use Rattle.cvm_model.specs.Primitives.{no_flat, user_of, pages_of}
use Rattle.cvm_model.specs.Cvm.{Running}
use Rattle.cvm_model.specs.Paged.{paged_of}
use Rattle.cvm_model.specs.Stands.{Site, UserFits, RunningRelation, RunsUser}
use Rattle.layer_contract.specs.Layer.{page_at}
use Rattle.layer_contract.proofs.MapPartsBounded.{apart_of}
use Rattle.layer_contract.proofs.StoresInPages.{names_own}

-- a page in a user's own terms
pub page_number : (per p u : ℕ) → p < per → ((u * per + p) / per ≡ u) × ((u * per + p) % per ≡ p)
page_number per p u lt = (grind arith, grind arith)

pub page_below : (per p u users : ℕ) → p < per → u < users → u * per + p < users * per
page_below per p u users lt le = grind arith

-- where the entry stands
entry_at : (pto t b p : ℕ) → pto ≡ 4 * (t + b) → t + (b + p) < 2 ^ 26 → (pto + 4 * p) % 2 ^ 32 / 4 ≡ t + (b + p)
entry_at pto t b p e lt = omega arith

-- translation, by the tests
refuses_past : (address ptl : ℕ) (store : Bool) (e : ℕ) → nat_lt (address / 4096) ptl ≡ false → translated address ptl store e ≡ None
refuses_past address ptl store e h = rw h refl

refuses_invalid : (address ptl : ℕ) (store : Bool) (e : ℕ) → nat_lt (address / 4096) ptl ≡ true → is_valid e ≡ false → translated address ptl store e ≡ None
refuses_invalid address ptl store e h v = rw (h, v) refl

refuses_store : (address ptl : ℕ) (e : ℕ) → nat_lt (address / 4096) ptl ≡ true → is_valid e ≡ true → is_protected e ≡ true → translated address ptl true e ≡ None
refuses_store address ptl e h v p = rw (h, v, p) refl

translates : (address ptl : ℕ) (store : Bool) (e : ℕ) → nat_lt (address / 4096) ptl ≡ true → is_valid e ≡ true → (store && is_protected e) ≡ false → translated address ptl store e ≡ Some (e / 4096 * 4096 + address % 4096)
translates address ptl store e h v p = rw (h, v, p) refl

-- the words of the current user
abbrev pub own : Core → List ℕ
own c = (user_of c.users c.current).words

-- where an address stands
pub data Place (m : Map) (s : State) (c : Core) (store : Bool) (address : ℕ) : Type 0 where
  Past : nat_lt (address / 4) (length (own c)) ≡ false → located s store address ≡ None → Place m s c store address
  Faults : nat_lt (address / 4) (length (own c)) ≡ true → nat_lt (address / 4096) (slice_index s.special PTL) ≡ true → located s store address ≡ None → Place m s c store address
  There : nat_lt (address / 4) (length (own c)) ≡ true → (at frame : ℕ) → located s store address ≡ Some at → MapsTo ((paged_of m s).entry (page_at m c address)) frame
      → (store ≡ true → Protected ((paged_of m s).entry (page_at m c address)) → ⊥) → at / 4 ≡ 1024 * frame + address % 4096 / 4 → Place m s c store address

-- what is known of a machine that runs a user
pub record Known (x : Environment) (y : Site) (s : State) (c : Core) : Type 0 where
  pub range : MapInRange y.map
  pub mode : slice_index s.special MODE ≡ 1
  pub runs : RunsUser y.map s c
  pub stands : RunningRelation x y s Running c

-- the numbers of the map that matter here
pub record Sizes (m : Map) : Type 0 where
  pub layer : 16384 ≤ globals_at m
  pub globals : globals_at m + m.global_words ≤ tables_at m
  pub heap : heap_at m + m.params.heap ≤ tables_at m
  pub low : 16384 ≤ heap_at m
  pub tables : tables_at m + m.users * m.params.pages ≤ frame_table_at m
  pub table : frame_table_at m + 8 * (m.params.frames + 1) ≤ zero_frame_at m
  pub zeros : 1024 * (zero_frame_at m / 1024) ≡ zero_frame_at m
  pub end : memory_words m ≤ 65000 * 1024
  pub code : layer_words + m.code_words ≤ globals_at m

pub sizes_of : (m : Map) → MapInRange m → Sizes m
sizes_of m range =
    let apart : PartsApart m = apart_of m range in
    let code : code_at m + m.code_words ≤ globals_at m = apart.code in
    let globals : globals_at m + m.global_words ≤ heap_at m = apart.globals in
    let heap : heap_at m + m.params.heap ≤ stack_at m = apart.heap in
    let stack : stack_at m + m.params.stack ≤ tables_at m = apart.stack in
    let whole : zero_frame_at m % 1024 ≡ 0 = apart.whole_zeros in
    record { layer = omega arith; globals = omega arith; heap = omega arith; low = omega arith; tables = apart.tables; table = apart.frame_table; zeros = omega arith; end = apart.memory; code = code }

module _ (x : Environment) (y : Site) (s : State) (c : Core) (k : Known x y s c) where
  pub user_fits : UserFits y.map.params.pages (user_of c.users c.current)
  user_fits = let from : 1 ≤ c.current = k.runs.user.0 in let to : c.current ≤ length c.users = k.runs.user.1 in
      k.stands.whole.each (c.current - 1) no_flat (omega arith)

  pub is_user : (1 ≤ c.current) × (c.current ≤ y.map.users)
  is_user = let to : c.current ≤ length c.users = k.runs.user.1 in let n : length c.users ≡ y.map.users = k.stands.whole.users in (k.runs.user.0, omega arith)

  -- a word of the user's memory is in a page below ptl
  pub below : (address : ℕ) → address / 4 < length (own c) → address / 4096 < pages_of (user_of c.users c.current)
  below address lt = let w : length (own c) ≡ 1024 * pages_of (user_of c.users c.current) = user_fits.whole in omega arith

  pub above : (address : ℕ) → length (own c) ≤ address / 4 → pages_of (user_of c.users c.current) ≤ address / 4096
  above address le = omega arith

  -- the number of a page
  pub number_below : (p : ℕ) → p < y.map.params.pages → (c.current - 1) * y.map.params.pages + p < y.map.users * y.map.params.pages
  number_below p lt = let from : 1 ≤ c.current = is_user.0 in let to : c.current ≤ y.map.users = is_user.1 in page_below y.map.params.pages p (c.current - 1) y.map.users lt (omega arith)

  entry_is : (address : ℕ) → address / 4096 < y.map.params.pages →
      slice_index s.memory (pte_address address (slice_index s.special PTO) / 4) ≡ (paged_of y.map s).entry (page_at y.map c address)
  entry_is address lt =
      let z : Sizes y.map = sizes_of y.map k.range in
      let n = number_below (address / 4096) lt in
      let tables : tables_at y.map + y.map.users * y.map.params.pages ≤ frame_table_at y.map = z.tables in
      let table : frame_table_at y.map + 8 * (y.map.params.frames + 1) ≤ zero_frame_at y.map = z.table in
      let end : memory_words y.map ≤ 65000 * 1024 = z.end in
      ap (slice_index s.memory) (entry_at (slice_index s.special PTO) (tables_at y.map) ((c.current - 1) * y.map.params.pages) (address / 4096) k.runs.pto (omega arith))

  found : (store : Bool) (address : ℕ) → located s store address ≡ translated address (slice_index s.special PTL) store (slice_index s.memory (pte_address address (slice_index s.special PTO) / 4))
  found store address = let user : in_system s.special ≡ false = ne_eqb _ _ (λ e. absurd (omega (arith, k.mode, e))) in rw user refl

  abbrev ptl : ℕ
  ptl = slice_index s.special PTL

  abbrev entry : ℕ → ℕ
  entry address = (paged_of y.map s).entry (page_at y.map c address)

  -- a page below ptl, by its entry
  module _ (address : ℕ) (own_word : nat_lt (address / 4) (length (own c)) ≡ true) (inside : nat_lt (address / 4096) (slice_index s.special PTL) ≡ true) where
    goes : (store : Bool) → Valid (entry address) → (store ≡ true → Protected (entry address) → ⊥) → located s store address ≡ Some (entry address / 4096 * 4096 + address % 4096) → Place y.map s c store address
    goes store v free is =
        let n : MapsTo (entry address) (entry address / 4096) = names_own _ v in
        let at : (entry address / 4096 * 4096 + address % 4096) / 4 ≡ 1024 * (entry address / 4096) + address % 4096 / 4 = omega arith in
        There own_word (entry address / 4096 * 4096 + address % 4096) (entry address / 4096) is n free at

    by_protected : (store p : Bool) → is_protected (entry address) ≡ p → is_valid (entry address) ≡ true → located s store address ≡ translated address ptl store (entry address) → Place y.map s c store address
    by_protected true true p v is = Faults own_word inside (is ∙ refuses_store address ptl (entry address) inside v p)
    by_protected true false p v is = goes true (eqb-true _ _ v) (λ _ pr. eqb-false _ _ p pr) (is ∙ translates address ptl true (entry address) inside v p)
    by_protected false b p v is = goes false (eqb-true _ _ v) (λ e. absurd (cc)) (is ∙ translates address ptl false (entry address) inside v refl)

    by_valid : (store b : Bool) → is_valid (entry address) ≡ b → located s store address ≡ translated address ptl store (entry address) → Place y.map s c store address
    by_valid store true v is = by_protected store (is_protected (entry address)) refl v is
    by_valid store false v is = Faults own_word inside (is ∙ refuses_invalid address ptl store (entry address) inside v)

  -- where it stands
  pub place : (store : Bool) (address : ℕ) → Place y.map s c store address
  place store address = by_end (nat_lt (address / 4) (length (own c))) refl
    where
      by_end : (b : Bool) → nat_lt (address / 4) (length (own c)) ≡ b → Place y.map s c store address
      by_end false e =
          let past : pages_of (user_of c.users c.current) ≤ address / 4096 = above address (ltb-false _ _ e) in
          let size : ptl ≡ pages_of (user_of c.users c.current) = k.runs.ptl in
          Past e (found store address ∙ refuses_past address ptl store _ (le-ltb _ _ (omega arith)))
      by_end true e =
          let lt : address / 4096 < pages_of (user_of c.users c.current) = below address (ltb-true _ _ e) in
          let size : ptl ≡ pages_of (user_of c.users c.current) = k.runs.ptl in
          let most : pages_of (user_of c.users c.current) ≤ y.map.params.pages = user_fits.pages in
          let inside : nat_lt (address / 4096) ptl ≡ true = lt-ltb _ _ (omega arith) in
          by_valid address e inside store (is_valid (entry address)) refl (found store address ∙ ap (translated address ptl store) (entry_is address (omega arith)))

  -- a page of the user's memory that is refused isn't to be had, and one that is found is
  pub refused_page : (store : Bool) (address : ℕ) → nat_lt (address / 4) (length (own c)) ≡ true → located s store address ≡ None → IsAccessible (paged_of y.map s) (page_at y.map c address) store → ⊥
  refused_page store address e is p =
      let lt : address / 4096 < pages_of (user_of c.users c.current) = below address (ltb-true _ _ e) in
      let size : ptl ≡ pages_of (user_of c.users c.current) = k.runs.ptl in
      let most : pages_of (user_of c.users c.current) ≤ y.map.params.pages = user_fits.pages in
      let inside : nat_lt (address / 4096) ptl ≡ true = lt-ltb _ _ (omega arith) in
      let to : located s store address ≡ translated address ptl store (entry address) = found store address ∙ ap (translated address ptl store) (entry_is address (omega arith)) in
      let free : (store && is_protected (entry address)) ≡ false = by store (is_protected (entry address)) refl p.unprotected in
      let there : None ≡ Some (entry address / 4096 * 4096 + address % 4096) = sym is ∙ to ∙ translates address ptl store (entry address) inside (eq-eqb _ _ p.valid) free in
      absurd (cc)
    where
      by : (store b : Bool) → is_protected (entry address) ≡ b → (store ≡ true → Protected (entry address) → ⊥) → (store && b) ≡ false
      by false b e h = refl
      by true false e h = refl
      by true true e h = absurd (h refl (eqb-true _ _ e))
