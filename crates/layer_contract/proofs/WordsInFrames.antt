-- The word at an address of the current user, as memory has it.
use Rattle.std.proofs.Common.{◌≡◌, ◌≢◌, ℕ, ◌+◌, ◌-◌, ◌*◌, ◌/◌, ◌%◌, ◌<◌, ◌≤◌, true, nat_lt, length, slice_index, sym, ap, ap₂, ◌∙◌, inl, arith, lt-ltb}
use Rattle.mips_table.specs.Device.{Environment}
use Rattle.mips_table.specs.Machine.{State}
use Rattle.layer_map.specs.Map.{zero_frame_at, memory_words}
use Rattle.page_model.specs.Paging.{IsFrame, Protected, MapsTo}
use Rattle.page_model.specs.TableLayout.{page_layout}
use Rattle.cvm_model.specs.Kernel.{Core}
use Rattle.cvm_model.specs.Primitives.{user_of, pages_of}
use Rattle.cvm_model.specs.Paged.{paged_of, pages_by}
use Rattle.cvm_model.specs.Stands.{Site}
use Rattle.layer_contract.specs.Layer.{page_at}
use Rattle.layer_contract.proofs.StoresInPages.{shown_valid}
use Rattle.layer_contract.proofs.AddressesStand.{page_number, own, Known, Sizes, sizes_of, user_fits, is_user, below, number_below}

module _ (x : Environment) (y : Site) (s : State) (c : Core) (k : Known x y s c) where
  -- the page of an address: its user, and its number there
  pub page_user : (address : ℕ) → address / 4096 < y.map.params.pages → page_at y.map c address / y.map.params.pages + 1 ≡ c.current
  page_user address lt = let from : 1 ≤ c.current = (is_user x y s c k).0 in let n = (page_number y.map.params.pages (address / 4096) (c.current - 1) lt).0 in omega arith

  pub page_part : (address : ℕ) → address / 4096 < y.map.params.pages → page_at y.map c address % y.map.params.pages ≡ address / 4096
  page_part address lt = (page_number y.map.params.pages (address / 4096) (c.current - 1) lt).1

  module _ (address : ℕ) (lt : address / 4 < length (own c)) where
    pub in_table : address / 4096 < y.map.params.pages
    in_table = let b : address / 4096 < pages_of (user_of c.users c.current) = below x y s c k address lt in
        let most : pages_of (user_of c.users c.current) ≤ y.map.params.pages = (user_fits x y s c k).pages in omega arith

    pub page_in : page_at y.map c address < y.map.users * y.map.params.pages
    page_in = number_below x y s c k (address / 4096) in_table

    pub live : (pages_by y.map.params.pages c.users).live (page_at y.map c address) ≡ true
    live = ap₂ (λ p u. nat_lt p (pages_of (user_of c.users u))) (page_part address in_table) (page_user address in_table) ∙ lt-ltb _ _ (below x y s c k address lt)

    -- a word of that page
    pub own_word : (i : ℕ) → (pages_by y.map.params.pages c.users).word (page_at y.map c address) i ≡ slice_index (own c) (1024 * (address / 4096) + i)
    own_word i = ap₂ (λ p u. slice_index (user_of c.users u).words (1024 * p + i)) (page_part address in_table) (page_user address in_table)

    module _ (frame : ℕ) (names : MapsTo ((paged_of y.map s).entry (page_at y.map c address)) frame) where
      pub is_frame : IsFrame (page_layout y.map) frame
      is_frame = k.stands.pages.named (page_at y.map c address) frame page_in names

      -- a word of its frame
      pub frame_word : (i : ℕ) → i < 1024 → slice_index s.memory (1024 * frame + i) ≡ slice_index (own c) (1024 * (address / 4096) + i)
      frame_word i li = sym (shown_valid (paged_of y.map s) (page_at y.map c address) frame i names) ∙ k.stands.pages.pages (page_at y.map c address) page_in live i li ∙ own_word i

      pub in_memory : (i : ℕ) → i < 1024 → 1024 * frame + i < length s.memory
      in_memory i li =
          let z : Sizes y.map = sizes_of y.map k.range in
          let zeros : 1024 * (zero_frame_at y.map / 1024) ≡ zero_frame_at y.map = z.zeros in
          let long : memory_words y.map ≤ length s.memory = k.stands.memory in
          let to : frame ≤ zero_frame_at y.map / 1024 + y.map.params.frames = is_frame.1 in
          omega arith

      -- an unprotected page's frame is a user frame
      pub user_frame : (Protected ((paged_of y.map s).entry (page_at y.map c address)) → ⊥) → zero_frame_at y.map + 1024 ≤ 1024 * frame
      user_frame free =
          let z : Sizes y.map = sizes_of y.map k.range in
          let zeros : 1024 * (zero_frame_at y.map / 1024) ≡ zero_frame_at y.map = z.zeros in
          let from : zero_frame_at y.map / 1024 ≤ frame = is_frame.0 in
          let ne : frame ≢ zero_frame_at y.map / 1024 = λ e. free (k.stands.pages.shared (page_at y.map c address) frame page_in names (inl e)) in
          omega arith

      pub word_is : (at : ℕ) → at / 4 ≡ 1024 * frame + address % 4096 / 4 → (at / 4 < length s.memory) × (slice_index s.memory (at / 4) ≡ slice_index (own c) (address / 4))
      word_is at e =
          let li : address % 4096 / 4 < 1024 = omega arith in
          let inside : 1024 * frame + address % 4096 / 4 < length s.memory = in_memory (address % 4096 / 4) li in
          (omega arith, ap (slice_index s.memory) e ∙ frame_word (address % 4096 / 4) li ∙ ap (slice_index (own c)) (omega arith))
