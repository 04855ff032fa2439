-- The primitives on memory, as the abstract machine has them.
use Rattle.std.proofs.Common.{◌≡◌, ◌≢◌, ℕ, zero, suc, ◌+◌, ◌-◌, ◌*◌, ◌/◌, ◌%◌, ◌^◌, ◌<◌, ◌≤◌, ◌⊎◌, ◌&&◌, ◌||◌, Bool, true, false, not, cond, nat_eq, nat_lt, nat_abs, ℤ, List, [], ◌∷◌, ◌++◌, length, take, drop, replicate, slice_index, slice_set, refl, sym, ap, ap₂, ◌∙◌, subst, ⊎_elim, inl, inr, arith, eq-eqb, ne_eqb, get_or-set_same, get_or-set_other, true≢false}
use Rattle.std.proofs.lemmas.Bool.{cases_eq, cases_lt, cond-true, cond-false}
use Rattle.std.proofs.lemmas.List.{length-set, length-take-le, length-take, length-drop, length-replicate, length-append}
use Rattle.std.specs.Int.{cast_unsigned, w32}
use Rattle.mips_table.specs.Arith.{signed}
use Rattle.mips_table.specs.Flat.{Flat}
use Rattle.mips_table.specs.Code.{put, Contents, Behind, World, Sound}
use Rattle.masm.specs.Laws.{From}
use Rattle.layer_map.specs.Map.{block_at, hand_at}
use Rattle.page_model.specs.Paging.{PageLayout, Pages}
use Rattle.page_model.specs.TableLayout.{TableLayout, paged_view}
use Rattle.cvm_model.specs.Kernel.{flat}
use Rattle.cvm_model.specs.Primitives.{KernelCall, Given, user_of, with_user, pages_of, is_good, granted, refused, unchanged}
use Rattle.cvm_model.specs.Paged.{pages_by}
use Rattle.cvm_primitives.specs.Blocks.{block_word, IsOneOf, BlocksHold, console_of}
use Rattle.cvm_primitives.proofs.UserMemories.{flat_of, replaced, sized, put_words, Same, InLists}
use Rattle.cvm_primitives.specs.View.{entry_state, PagesHeld, WordGood, CopyArgs, ResizeGood, number_of_word, size_at, steps_of_page}
use Rattle.std.proofs.lemmas.List.Elements.{All-get_or}
use Rattle.mips_table.specs.declared.inst.Inst.{Inst}
use Rattle.mips_table.specs.Fits.{IsWord}
use Rattle.page_fault.specs.Code.{handle_page_code}
use Rattle.cvm_model.specs.Kernel.{Put, Size}
use Rattle.cvm_model.specs.Primitives.{VmCopy as MakeCopy, changed, is_address, is_within, copy_pieces as pieces_at, with_word as with_byte, with_words, resized as resized_flat, put_entries, ranges_overlap}
use Rattle.cvm_primitives.specs.Copy.{Apart, piece_count, with_page_word, copied, pages_after_resize}
use Rattle.cvm_primitives.specs.Code.{vm_word_code, vm_put_code, vm_copy_code, vm_resize_code}
use Rattle.cvm_primitives.specs.Routines.{RoutineLaws}
use Rattle.cvm_primitives.specs.Laws.{EnteredOnPages, VmWord, VmPut, VmCopy, VmResize}
use Rattle.cvm_primitives.specs.Calls.{CallEntered, CallLeft, call_steps, AnswersOnPages, word_call, put_call, copy_call, resize_call, call_given, Grown}
use Rattle.cvm_primitives.proofs.BlocksFromOneState.{from_later}
use Rattle.cvm_primitives.proofs.ArgumentNumbers.{within_is, place_is, overlap_is, signed_pos, signed_neg, as_word, and_false}
use Rattle.cvm_primitives.proofs.UserLists.{in_lists, stands_same}

same_all : (l : PageLayout) (v : Pages) → Same l v v
same_all l v = record { live = λ q lq. refl; word = λ q i lq a li. refl }

same_on : (l : PageLayout) (a b c : Pages) → Same l a b → Same l b c → Same l a c
same_on l a b c x y = record { live = λ q lq. y.live q lq ∙ x.live q lq; word = λ q i lq al li. y.word q i lq al li ∙ x.word q i lq (sym (y.live q lq) ∙ al) li }

-- the user of a page
user_of_page : (n per q : ℕ) → 0 < per → q < n * per → q / per + 1 ≤ n
user_of_page n per q some lt = ⊎_elim (λ le. le) (λ gt. let e : n * per ≤ q / per * per = product_le n (q / per) per (omega arith) in let d : q / per * per ≤ q = below q per some in absurd (omega arith)) (le_or (q / per + 1) n)
  where
    le_or : (a b : ℕ) → (a ≤ b) ⊎ (b < a)
    le_or a b = ⊎_elim (λ lt. inr lt) (λ le. inl le) (cases_lt b a)

    product_le : (a b per : ℕ) → a ≤ b → a * per ≤ b * per
    product_le a b per le = let e : b * per ≡ (a + (b - a)) * per = ap (λ z. z * per) (omega arith) in omega arith

    below : (q per : ℕ) → 0 < per → q / per * per ≤ q
    below q per some = grind arith

-- another user is as before, and this one is the new machine
changed_same : (users : List Flat) (u : ℕ) (g : Flat) → IsOneOf users u → user_of (with_user users u g) u ≡ g
changed_same users u g o = let o0 = o.0 in let o1 = o.1 in get_or-set_same users (u - 1) g _ (omega arith)

changed_other : (users : List Flat) (u v : ℕ) (g : Flat) → 1 ≤ u → 1 ≤ v → v ≢ u → user_of (with_user users u g) v ≡ user_of users v
changed_other users u v g a b ne = get_or-set_other users (u - 1) (v - 1) g _ (omega arith)

-- the users' lists, with one changed, by page
users_same : (l : PageLayout) (users : List Flat) (per u : ℕ) (g : Flat) (size : ℕ → ℕ) (memory : ℕ → List ℕ) → 0 < per → l.pages ≡ length users * per → IsOneOf users u → size u ≡ pages_of g → memory u ≡ g.words
    → ((v : ℕ) → v ≢ u → size v ≡ pages_of (user_of users v)) → ((v : ℕ) → v ≢ u → memory v ≡ (user_of users v).words) → Same l (flat_of per size memory) (pages_by per (with_user users u g))
users_same l users per u g size memory some shape o su mu sv mv =
    let o0 = o.0 in
    let one : (q : ℕ) → q < l.pages → q / per + 1 ≤ length users = λ q lq. user_of_page (length users) per q some (omega arith) in record {
      live = λ q lq. ap (λ n. nat_lt (q % per) n) (⊎_elim
          (λ e. subst (λ v. pages_of (user_of (with_user users u g) v) ≡ size v) (sym e) (ap pages_of (changed_same users u g o) ∙ sym su))
          (λ ne. ap pages_of (changed_other users u (q / per + 1) g o0 (omega arith) ne) ∙ sym (sv (q / per + 1) ne))
          (cases_eq (q / per + 1) u));
      word = λ q i lq al li. ap (λ ws. slice_index ws (1024 * (q % per) + i)) (⊎_elim
          (λ e. subst (λ v. (user_of (with_user users u g) v).words ≡ memory v) (sym e) (ap (λ g. g.words) (changed_same users u g o) ∙ sym mu))
          (λ ne. ap (λ g. g.words) (changed_other users u (q / per + 1) g o0 (omega arith) ne) ∙ sym (mv (q / per + 1) ne))
          (cases_eq (q / per + 1) u));
    }

-- the blocks of a machine whose registers stay
blocks_changed : (users : List Flat) (m m' : ℕ → ℕ) (u : ℕ) (g : Flat) → IsOneOf users u → g.cpu ≡ (user_of users u).cpu → m' (block_at u + 32) ≡ pages_of g → ((x : ℕ) → block_at 1 ≤ x → x < 16384 → x ≢ block_at u + 32 → m' x ≡ m x) → length users ≤ 64 → BlocksHold users m → BlocksHold (with_user users u g) m'
blocks_changed users m m' u g o cpu size others few h =
    let o0 = o.0 in let o1 = o.1 in
    let count = length-set users (u - 1) g in
    let one : (v : ℕ) → IsOneOf (with_user users u g) v → IsOneOf users v = λ v p. let p1 = p.1 in (p.0, omega arith) in
    let cpus : (v : ℕ) → IsOneOf (with_user users u g) v → (user_of users v).cpu ≡ (user_of (with_user users u g) v).cpu = λ v p. let p0 = p.0 in ⊎_elim
    (λ e. subst (λ v. (user_of users v).cpu ≡ (user_of (with_user users u g) v).cpu) (sym e) (sym cpu ∙ ap (λ g. g.cpu) (sym (changed_same users u g o))))
    (λ ne. ap (λ g. g.cpu) (sym (changed_other users u v g o0 p0 ne)))
    (cases_eq v u) in
    record {
      registers = λ v r p a b. let p0 = p.0 in let p1 = p.1 in others (block_word v r) (omega arith) (omega arith) (omega arith) ∙ h.registers v r (one v p) a b ∙ ap (λ c. cond (nat_eq r 32) c.pc (slice_index c.regs r)) (cpus v p);
      sizes = λ v p. let p0 = p.0 in let p1 = p.1 in ⊎_elim
          (λ e. subst (λ v. m' (block_at v + 32) ≡ pages_of (user_of (with_user users u g) v)) (sym e) (size ∙ ap pages_of (sym (changed_same users u g o))))
          (λ ne. others (block_at v + 32) (omega arith) (omega arith) (omega arith) ∙ h.sizes v (one v p) ∙ ap pages_of (sym (changed_other users u v g o0 p0 ne)))
          (cases_eq v u);
      hi = λ v p. let p0 = p.0 in let p1 = p.1 in others (block_at v + 33) (omega arith) (omega arith) (omega arith) ∙ h.hi v (one v p) ∙ ap (λ c. c.hi) (cpus v p);
      lo = λ v p. let p0 = p.0 in let p1 = p.1 in others (block_at v + 34) (omega arith) (omega arith) (omega arith) ∙ h.lo v (one v p) ∙ ap (λ c. c.lo) (cpus v p);
    }

blocks_kept : (users : List Flat) (m m' : ℕ → ℕ) → ((x : ℕ) → block_at 1 ≤ x → x < 16384 → m' x ≡ m x) → length users ≤ 64 → BlocksHold users m → BlocksHold users m'
blocks_kept users m m' same few h = record {
  registers = λ v r p a b. let p0 = p.0 in let p1 = p.1 in same (block_word v r) (omega arith) (omega arith) ∙ h.registers v r p a b;
  sizes = λ v p. let p0 = p.0 in let p1 = p.1 in same (block_at v + 32) (omega arith) (omega arith) ∙ h.sizes v p;
  hi = λ v p. let p0 = p.0 in let p1 = p.1 in same (block_at v + 33) (omega arith) (omega arith) ∙ h.hi v p;
  lo = λ v p. let p0 = p.0 in let p1 = p.1 in same (block_at v + 34) (omega arith) (omega arith) ∙ h.lo v p;
}

sized_length : (ws : List ℕ) (n : ℕ) → length (take (1024 * n) ws ++ replicate (1024 * n - length ws) 0) ≡ 1024 * n
sized_length ws n = length-append (take (1024 * n) ws) (replicate (1024 * n - length ws) 0) ∙ ap₂ (λ x y. x + y) (length-take (1024 * n) ws) (length-replicate (1024 * n - length ws) 0) ∙ omega arith

pasted_length : (to new : List ℕ) (b : ℕ) → b + length new ≤ length to → length (take b to ++ (new ++ drop (b + length new) to)) ≡ length to
pasted_length to new b le =
    length-append (take b to) (new ++ drop (b + length new) to) ∙ ap₂ (λ x y. x + y) (length-take-le b to (omega arith)) (length-append new (drop (b + length new) to) ∙ ap (λ y. length new + y) (length-drop (b + length new) to)) ∙ omega arith

taken_length : (ws : List ℕ) (a n b l : ℕ) → a + n ≤ length ws → b + n ≤ l → b + length (take n (drop a ws)) ≤ l
taken_length ws a n b l le lt =
    let d = length-drop a ws in
    let t = length-take-le n (drop a ws) (omega arith) in omega arith

steps_enough : (x y n q : ℕ) → x ≡ y → 598 + 600 * n + x ≤ 598 + 600 * (n + q) + y
steps_enough x y n q e = omega arith

-- five conditions
abbrev chain : (x y z v q : Bool) → Bool
chain x y z v q = x && y && z && v && q

chain_true : (x y z v q : Bool) → x ≡ true → y ≡ true → z ≡ true → v ≡ true → q ≡ true → chain x y z v q ≡ true
chain_true true true true true true a b c d e = refl
chain_true false y z v q a b c d e = absurd (cc)
chain_true true false z v q a b c d e = absurd (cc)
chain_true true true false v q a b c d e = absurd (cc)
chain_true true true true false q a b c d e = absurd (cc)
chain_true true true true true false a b c d e = absurd (cc)

chain_1 : (x y z v q : Bool) → x ≡ false → chain x y z v q ≡ false
chain_1 x y z v q h = ap (λ x. chain x y z v q) h

chain_2 : (x y z v q : Bool) → y ≡ false → chain x y z v q ≡ false
chain_2 x y z v q h = ap (λ b. b && z && v && q) (ap (λ y. x && y) h ∙ and_false x)

chain_3 : (x y z v q : Bool) → z ≡ false → chain x y z v q ≡ false
chain_3 x y z v q h = ap (λ b. b && v && q) (ap (λ z. (x && y) && z) h ∙ and_false (x && y))

chain_4 : (x y z v q : Bool) → v ≡ false → chain x y z v q ≡ false
chain_4 x y z v q h = ap (λ b. b && q) (ap (λ v. ((x && y) && z) && v) h ∙ and_false ((x && y) && z))

chain_5 : (x y z v q : Bool) → q ≡ false → chain x y z v q ≡ false
chain_5 x y z v q h = ap (λ q. (((x && y) && z) && v) && q) h ∙ and_false (((x && y) && z) && v)

-- cvm_model counts a copy's pieces by addresses, and the law by words
or_if : (x y z : Bool) → ◌≡◌ {A = ℕ} (cond ((x || y) || z) 1 0) (cond x 1 (cond y 1 (cond z 1 0)))
or_if true y z = refl
or_if false true z = refl
or_if false false true = refl
or_if false false false = refl

pieces_are : (a b n : ℕ) → pieces_at a b n ≡ piece_count (a / 4) (b / 4) n
pieces_are a b zero = refl
pieces_are a b (suc n) = ap₂ (λ x y. x + y) (pieces_are a b n) (or_if (nat_eq n 0) (nat_eq ((a / 4 + n) % 1024) 0) (nat_eq ((b / 4 + n) % 1024) 0))

module _ (w : World) (f : Sound w) (r : RoutineLaws w) (p : TableLayout) (b most : ℕ) (users : List Flat) (c : Contents) (d : Behind) (e : CallEntered w p b most users c d) where
  abbrev sizes_of : ℕ → ℕ
  sizes_of u = pages_of (user_of users u)

  abbrev words_of : ℕ → List ℕ
  words_of u = (user_of users u).words

  lists : InLists p.layout (length users) most sizes_of words_of
  lists = in_lists p.layout (length users) most sizes_of words_of (record { some = e.some; lengths = λ u u0 u1. (e.each u (u0, u1)).whole; fit = λ u u0 u1. (e.each u (u0, u1)).pages })

  entered : EnteredOnPages w p b (length users) most sizes_of (pages_by most users) c d
  entered = record {
    sound = f;
    sited = e.sited;
    ported = e.ported;
    held = e.held;
    sizes = record {
      few = e.few;
      most = e.limit;
      shape = e.shape;
      sizes = λ u u0 u1. ap c.memory (omega arith) ∙ e.blocks.sizes u (u0, u1);
      fit = λ u u0 u1. (e.each u (u0, u1)).pages;
      live = lists.live;
    };
    blocks = λ k lt. ap w.kept (omega arith) ∙ e.free (k + 1) (omega arith, omega arith);
    regs = e.regs;
  }

  -- registers 28 to 31
  four : (c1 : Contents) → c1.regs 28 ≡ c.regs 28 → c1.regs 29 ≡ c.regs 29 → c1.regs 30 ≡ c.regs 30 → c1.regs 31 ≡ c.regs 31 → (x : ℕ) → 28 ≤ x → x ≤ 31 → c1.regs x ≡ c.regs x
  four c1 e28 e29 e30 e31 x lo hi = ⊎_elim (λ q. subst (λ x. c1.regs x ≡ c.regs x) (sym q) e28) (λ a. ⊎_elim (λ q. subst (λ x. c1.regs x ≡ c.regs x) (sym q) e29) (λ b. ⊎_elim (λ q. subst (λ x. c1.regs x ≡ c.regs x) (sym q) e30)
      (λ k. let q : x ≡ 31 = omega arith in subst (λ x. c1.regs x ≡ c.regs x) (sym q) e31) (cases_eq x 30)) (cases_eq x 29)) (cases_eq x 28)

  -- where no control block was written
  left_of : (g : Given) (v : Pages) (c1 : Contents) (d1 : Behind) → PagesHeld p v (entry_state c d) c1 d1 → Same p.layout v (pages_by most g.users) → BlocksHold g.users c1.memory → g.console ≡ console_of d → flat (λ _. 0) g.answer ≡ c1.regs 2 ∷ [] → CallLeft p most users g c d c1 d1
  left_of g v c1 d1 h same blocks console answer = record {
    answer = answer;
    stands = stands_same p.layout v (pages_by most g.users) (paged_view p c1.memory d1.sectors) same h.stands;
    blocks = blocks;
    log = h.behind.log ∙ ap (λ o. o.log) (sym console);
    input = h.behind.input ∙ ap (λ o. o.input) (sym console);
    words = λ x lx nx no. h.low x lx nx;
    above = h.above;
    small = h.small;
    special = h.special;
    regs = four c1 h.r28 h.r29 h.r30 h.r31;
    past = h.behind.past;
    idle = h.idle;
  }

  -- the blocks are as before
  kept : (v : Pages) (c1 : Contents) (d1 : Behind) → PagesHeld p v (entry_state c d) c1 d1 → (x : ℕ) → block_at 1 ≤ x → x < 16384 → c1.memory x ≡ c.memory x
  kept v c1 d1 h x lo hi = let low = e.sited.low in h.low x (omega arith) (omega arith)

  refused_left : (call : KernelCall) (c1 : Contents) (d1 : Behind) → PagesHeld p (pages_by most users) (entry_state c d) c1 d1 → flat (λ _. 0) (refused call) ≡ c1.regs 2 ∷ [] → CallLeft p most users (unchanged users (console_of d) (refused call) 0 0) c d c1 d1
  refused_left call c1 d1 h a = left_of (unchanged users (console_of d) (refused call) 0 0) (pages_by most users) c1 d1 h (same_all p.layout (pages_by most users)) (blocks_kept users c.memory c1.memory (kept (pages_by most users) c1 d1 h) e.few e.blocks) refl a

  granting : (code : List Inst) (call : KernelCall) → is_good most users call ≡ true → From w code (call_steps p b (granted users (console_of d) call)) c d (CallLeft p most users (granted users (console_of d) call) c d) → AnswersOnPages w code call p b most users c d
  granting code call good h = subst (λ g. From w code (call_steps p b g) c d (CallLeft p most users g c d)) (sym (cond-true (is_good most users call) (granted users (console_of d) call) (unchanged users (console_of d) (refused call) 0 0) good)) h

  refusing : (code : List Inst) (call : KernelCall) (v : ℕ) → is_good most users call ≡ false → flat (λ _. 0) (refused call) ≡ v ∷ [] → From w code 598 c d (λ c' d'. PagesHeld p (pages_by most users) (entry_state c d) c' d' × (c'.regs 2 ≡ v)) → AnswersOnPages w code call p b most users c d
  refusing code call v bad a h = subst (λ g. From w code (call_steps p b g) c d (CallLeft p most users g c d)) (sym (cond-false (is_good most users call) (granted users (console_of d) call) (unchanged users (console_of d) (refused call) 0 0) bad))
      (from_later w r code 598 _ c d _ _ (omega arith) (λ c1 d1 k. refused_left call c1 d1 k.0 (a ∙ ap (λ z. z ∷ []) (sym k.1))) h)

  -- the user in a register is one, or not
  small_user : (u : ℕ) → IsOneOf users u → pages_of (user_of users u) ≤ 1024
  small_user u o = let fit = (e.each u o).pages in let limit = e.limit in omega arith

  word_good : (n : ℕ) (z : ℤ) (u : ℕ) → nat_abs z ≡ u → (y : ℤ) → is_address (user_of users (nat_abs z)) y n ≡ is_address (user_of users u) y n
  word_good n z u eu y = ap (λ u. is_address (user_of users u) y n) eu

  -- VM_WORD
  pub words : VmWord → AnswersOnPages w (vm_word_code p (length users) most (handle_page_code p)) (word_call c) p b most users c d
  words law =
      let few = e.few in let k = law w p b (length users) most sizes_of (pages_by most users) c d entered in
      ⊎_elim
      (λ u. ⊎_elim
      (λ a. let u0 = u.0 in let u1 = u.1 in let a1 = a.1 in
      let good : WordGood (length users) sizes_of (c.regs 20) (c.regs 21) = (u.0, u.1, a.0, omega arith) in
      let ws = (e.each (c.regs 20) (u.0, u.1)).whole in
      granting _ (word_call c) (ap₂ (λ x y. x && y) u.2 (word_good 1 (signed (c.regs 20)) (c.regs 20) u.3 (signed (c.regs 21)) ∙ a.2))
      (from_later w r _ (600 * 2 + steps_of_page p.layout.pages b) _ c d _ _ (omega arith)
      (λ c1 d1 h. left_of (granted users (console_of d) (word_call c)) (pages_by most users) c1 d1 h.0 (same_all p.layout (pages_by most users)) (blocks_kept users c.memory c1.memory (kept (pages_by most users) c1 d1 h.0) e.few e.blocks) refl
      (ap₂ (λ x y. cast_unsigned w32 (signed (slice_index (user_of users x).words (y / 4))) ∷ []) u.3 a.3 ∙ ap (λ z. z ∷ [])
      (as_word (slice_index (words_of (c.regs 20)) (c.regs 21 / 4)) (All-get_or IsWord (words_of (c.regs 20)) (c.regs 21 / 4) 0 (omega arith) (e.each (c.regs 20) (u.0, u.1)).words) ∙ sym (h.1 ∙ lists.word (c.regs 20) (c.regs 21) good))))
      (k.good good)))
      (λ a. refusing _ (word_call c) (2 ^ 32 - 1) (ap₂ (λ x y. x && y) u.2 (word_good 1 (signed (c.regs 20)) (c.regs 20) u.3 (signed (c.regs 21)) ∙ a.1)) refl (k.bad (λ g. let g3 = g.3 in a.0 g.2 (omega arith))))
      (place_is (user_of users (c.regs 20)) (c.regs 21) 1 (small_user (c.regs 20) (u.0, u.1)) (e.regs 21)))
      (λ u. refusing _ (word_call c) (2 ^ 32 - 1) (ap (λ x. x && is_address (user_of users (nat_abs (signed (c.regs 20)))) (signed (c.regs 21)) 1) u.1) refl (k.bad (λ g. u.0 g.0 g.1)))
      (within_is 1 (length users) (c.regs 20) (omega arith) (e.regs 20))

  -- what a store gives
  abbrev put_given : ℕ → ℕ → ℕ → Given
  put_given u a x = changed users (console_of d) u (with_byte (user_of users u) a x) (Put a x ∷ []) 1 1

  put_left : (u a x : ℕ) → WordGood (length users) sizes_of u a → (c1 : Contents) (d1 : Behind) → PagesHeld p (with_page_word (pages_by most users) (number_of_word most u a) x) (entry_state c d) c1 d1 → c1.regs 2 ≡ 1 → CallLeft p most users (put_given u a x) c d c1 d1
  put_left u a x good c1 d1 h r2 =
      let o : IsOneOf users u = (good.0, good.1) in
      let g : Flat = with_byte (user_of users u) a x in
      let n : pages_of (with_byte (user_of users u) a x) ≡ pages_of (user_of users u) = ap (λ n. n / 1024) (length-set (user_of users u).words (a / 4) x) in
      let same = kept (with_page_word (pages_by most users) (number_of_word most u a) x) c1 d1 h in
      let at = e.few in let o0 = good.0 in let o1 = good.1 in
      left_of (put_given u a x) (with_page_word (pages_by most users) (number_of_word most u a) x) c1 d1 h
      (same_on p.layout _ (flat_of most sizes_of (replaced words_of u (slice_set (words_of u) (a / 4) x))) (pages_by most (with_user users u (with_byte (user_of users u) a x)))
      (lists.put u a x good)
      (users_same p.layout users most u (with_byte (user_of users u) a x) sizes_of (replaced words_of u (slice_set (words_of u) (a / 4) x)) e.some e.shape o (sym n) (cond-true (nat_eq u u) _ (words_of u) (eq-eqb u u refl)) (λ v ne. refl) (λ v ne. cond-false (nat_eq v u) _ (words_of v) (ne_eqb v u ne))))
      (blocks_changed users c.memory c1.memory u (with_byte (user_of users u) a x) o refl (same (block_at u + 32) (omega arith) (omega arith) ∙ e.blocks.sizes u o ∙ sym n) (λ z lo hi ne. same z lo hi) e.few e.blocks)
      refl (ap (λ z. z ∷ []) (sym r2))

  -- VM_PUT
  pub stores : VmPut → AnswersOnPages w (vm_put_code p (length users) most (handle_page_code p)) (put_call c) p b most users c d
  stores law =
      let few = e.few in let k = law w p b (length users) most sizes_of (pages_by most users) c d entered in
      ⊎_elim
      (λ u. ⊎_elim
      (λ a. let u0 = u.0 in let u1 = u.1 in let a1 = a.1 in
      let good : WordGood (length users) sizes_of (c.regs 20) (c.regs 21) = (u.0, u.1, a.0, omega arith) in
      granting _ (put_call c) (ap₂ (λ x y. x && y) u.2 (word_good 1 (signed (c.regs 20)) (c.regs 20) u.3 (signed (c.regs 21)) ∙ a.2))
      (subst (λ u. From w (vm_put_code p (length users) most (handle_page_code p)) (call_steps p b (put_given u (nat_abs (signed (c.regs 21))) (cast_unsigned w32 (signed (c.regs 22))))) c d (CallLeft p most users (put_given u (nat_abs (signed (c.regs 21))) (cast_unsigned w32 (signed (c.regs 22)))) c d)) (sym u.3)
      (subst (λ a. From w (vm_put_code p (length users) most (handle_page_code p)) (call_steps p b (put_given (c.regs 20) a (cast_unsigned w32 (signed (c.regs 22))))) c d (CallLeft p most users (put_given (c.regs 20) a (cast_unsigned w32 (signed (c.regs 22)))) c d)) (sym a.3)
      (subst (λ x. From w (vm_put_code p (length users) most (handle_page_code p)) (call_steps p b (put_given (c.regs 20) (c.regs 21) x)) c d (CallLeft p most users (put_given (c.regs 20) (c.regs 21) x) c d)) (sym (as_word (c.regs 22) (e.regs 22)))
      (from_later w r _ (600 * 2 + steps_of_page p.layout.pages b) _ c d _ _ (omega arith) (λ c1 d1 h. put_left (c.regs 20) (c.regs 21) (c.regs 22) good c1 d1 h.0 h.1) (k.good good))))))
      (λ a. refusing _ (put_call c) 0 (ap₂ (λ x y. x && y) u.2 (word_good 1 (signed (c.regs 20)) (c.regs 20) u.3 (signed (c.regs 21)) ∙ a.1)) refl (k.bad (λ g. let g3 = g.3 in a.0 g.2 (omega arith))))
      (place_is (user_of users (c.regs 20)) (c.regs 21) 1 (small_user (c.regs 20) (u.0, u.1)) (e.regs 21)))
      (λ u. refusing _ (put_call c) 0 (ap (λ x. x && is_address (user_of users (nat_abs (signed (c.regs 20)))) (signed (c.regs 21)) 1) u.1) refl (k.bad (λ g. u.0 g.0 g.1)))
      (within_is 1 (length users) (c.regs 20) (omega arith) (e.regs 20))

  -- what a resize gives
  abbrev size_given : ℕ → ℕ → Given
  size_given u n = changed users (console_of d) u (resized_flat (user_of users u) n) (Size n ∷ []) 0 ((n - pages_of (user_of users u)) + (pages_of (user_of users u) - n))

  resized_pages : (u n : ℕ) → pages_of (resized_flat (user_of users u) n) ≡ n
  resized_pages u n = ap (λ n. n / 1024) (sized_length (words_of u) n) ∙ omega arith

  size_left : (u n : ℕ) → ResizeGood (length users) most u n → (c1 : Contents) (d1 : Behind) → PagesHeld p (pages_after_resize (pages_by most users) ((u - 1) * most) (pages_of (user_of users u)) n) (entry_state (record c { memory = put c.memory (size_at u) n }) d) c1 d1 → c1.regs 2 ≡ 1 → CallLeft p most users (size_given u n) c d c1 d1
  size_left u n good c1 d1 h r2 =
      let o : IsOneOf users u = (good.0, good.1) in
      let o0 = good.0 in let o1 = good.1 in let few = e.few in let low = e.sited.low in
      let pages = resized_pages u n in
      let wrote : (x : ℕ) → x < p.tables → x ≢ hand_at → x ≢ block_at u + 32 → c1.memory x ≡ c.memory x = λ x lx nx ne. h.low x lx nx ∙ cond-false (nat_eq x (size_at u)) n (c.memory x) (ne_eqb x (size_at u) (omega arith)) in
      record {
        answer = ap (λ z. z ∷ []) (sym r2);
        stands = stands_same p.layout (pages_after_resize (pages_by most users) ((u - 1) * most) (pages_of (user_of users u)) n) (pages_by most (with_user users u (resized_flat (user_of users u) n))) (paged_view p c1.memory d1.sectors)
            (same_on p.layout _ (flat_of most (replaced sizes_of u n) (replaced words_of u (sized (words_of u) n))) (pages_by most (with_user users u (resized_flat (user_of users u) n)))
            (lists.resize u n good)
            (users_same p.layout users most u (resized_flat (user_of users u) n) (replaced sizes_of u n) (replaced words_of u (sized (words_of u) n)) e.some e.shape o (cond-true (nat_eq u u) n (sizes_of u) (eq-eqb u u refl) ∙ sym pages) (cond-true (nat_eq u u) _ (words_of u) (eq-eqb u u refl))
            (λ v ne. cond-false (nat_eq v u) n (sizes_of v) (ne_eqb v u ne)) (λ v ne. cond-false (nat_eq v u) _ (words_of v) (ne_eqb v u ne))))
            h.stands;
        blocks = blocks_changed users c.memory c1.memory u (resized_flat (user_of users u) n) o refl (h.low (block_at u + 32) (omega arith) (omega arith) ∙ cond-true (nat_eq (block_at u + 32) (size_at u)) n (c.memory (block_at u + 32)) (eq-eqb (block_at u + 32) (size_at u) (omega arith)) ∙ sym pages)
            (λ z lo hi ne. wrote z (omega arith) (omega arith) ne) e.few e.blocks;
        log = h.behind.log;
        input = h.behind.input;
        words = λ x lx nx no. wrote x lx nx (no u o);
        above = λ x le lx. let first = e.sited.first in let second = e.sited.second in h.above x le lx ∙ cond-false (nat_eq x (size_at u)) n (c.memory x) (ne_eqb x (size_at u) (omega arith));
        small = h.small;
        special = h.special;
        regs = four c1 h.r28 h.r29 h.r30 h.r31;
        past = h.behind.past;
        idle = h.idle;
      }

  -- a resize that is refused
  keeps : is_good most users (resize_call c) ≡ false → From w (vm_resize_code p (length users) most) 598 c d (λ c' d'. PagesHeld p (pages_by most users) (entry_state c d) c' d' × (c'.regs 2 ≡ 0))
      → From w (vm_resize_code p (length users) most) (call_steps p b (call_given most users d (resize_call c))) c d (λ c' d'. CallLeft p most users (call_given most users d (resize_call c)) c d c' d' × Grown p most users c c')
  keeps bad h = from_later w r (vm_resize_code p (length users) most) (call_steps p b (call_given most users d (resize_call c))) (call_steps p b (call_given most users d (resize_call c))) c d _ _ (omega arith)
      (λ c' d' k. (k, λ g. absurd (true≢false (sym g ∙ bad)))) (refusing (vm_resize_code p (length users) most) (resize_call c) 0 bad refl h)

  -- VM_RESIZE
  pub resizes : VmResize → From w (vm_resize_code p (length users) most) (call_steps p b (call_given most users d (resize_call c))) c d (λ c' d'. CallLeft p most users (call_given most users d (resize_call c)) c d c' d' × Grown p most users c c')
  resizes law =
      let few = e.few in let limit = e.limit in let k = law w p b (length users) most sizes_of (pages_by most users) c d entered in
      ⊎_elim
      (λ u. ⊎_elim
      (λ a.
      let good : ResizeGood (length users) most (c.regs 20) (c.regs 21) = (u.0, u.1, a.1) in
      let turned : steps_of_page p.layout.pages b * ((sizes_of (c.regs 20) - c.regs 21) + (c.regs 21 - sizes_of (c.regs 20))) ≡ steps_of_page p.layout.pages b * ((c.regs 21 - sizes_of (c.regs 20)) + (sizes_of (c.regs 20) - c.regs 21)) = ap (λ z. steps_of_page p.layout.pages b * z) (omega arith) in
      subst (λ g. From w (vm_resize_code p (length users) most) (call_steps p b g) c d (λ c' d'. CallLeft p most users g c d c' d' × Grown p most users c c'))
      (sym (cond-true (is_good most users (resize_call c)) (granted users (console_of d) (resize_call c)) (unchanged users (console_of d) (refused (resize_call c)) 0 0) (ap₂ (λ x y. x && y) u.2 a.2)))
      (subst (λ u. From w (vm_resize_code p (length users) most) (call_steps p b (size_given u (nat_abs (signed (c.regs 21))))) c d (λ c' d'. CallLeft p most users (size_given u (nat_abs (signed (c.regs 21)))) c d c' d' × Grown p most users c c')) (sym u.3)
      (subst (λ n. From w (vm_resize_code p (length users) most) (call_steps p b (size_given (c.regs 20) n)) c d (λ c' d'. CallLeft p most users (size_given (c.regs 20) n) c d c' d' × Grown p most users c c')) (sym a.3)
      (from_later w r _ (598 + steps_of_page p.layout.pages b * ((sizes_of (c.regs 20) - c.regs 21) + (c.regs 21 - sizes_of (c.regs 20)))) _ c d _ _ (omega arith) (λ c1 d1 h. (size_left (c.regs 20) (c.regs 21) good c1 d1 h.0.0 h.0.1, λ g. h.1)) (k.good good)))))
      (λ a. keeps (ap₂ (λ x y. x && y) u.2 a.1) (k.bad (λ g. a.0 (omega arith) g.2)))
      (within_is 0 most (c.regs 21) (omega arith) (e.regs 21)))
      (λ u. keeps (ap (λ x. x && is_within 0 most (signed (c.regs 21))) u.1) (k.bad (λ g. u.0 g.0 g.1)))
      (within_is 1 (length users) (c.regs 20) (omega arith) (e.regs 20))

  -- what a copy gives
  abbrev copy_given : (u a t s n : ℕ) → Given
  copy_given u a t s n = changed users (console_of d) t (with_words (user_of users t) s (take n (drop (a / 4) (user_of users u).words))) (put_entries s (take n (drop (a / 4) (user_of users u).words))) n (3 * pieces_at a s n)

  -- the words after it
  pasted_is : (u a t s n : ℕ) → a / 4 + n ≤ length (words_of u) → put_words (words_of t) (s / 4) (words_of u) (a / 4) n ≡ take (s / 4) (words_of t) ++ (take n (drop (a / 4) (words_of u)) ++ drop (s / 4 + length (take n (drop (a / 4) (words_of u)))) (words_of t))
  pasted_is u a t s n le =
      let l : length (drop (a / 4) (words_of u)) ≡ length (words_of u) - a / 4 = length-drop (a / 4) (words_of u) in
      ap (λ k. take (s / 4) (words_of t) ++ (take n (drop (a / 4) (words_of u)) ++ drop (s / 4 + k) (words_of t))) (sym (length-take-le n (drop (a / 4) (words_of u)) (omega arith)))

  copy_left : (u a t s n : ℕ) → CopyArgs (length users) sizes_of u a t s n → (c1 : Contents) (d1 : Behind) → PagesHeld p (copied (pages_by most users) (number_of_word most u a) (number_of_word most t s) n) (entry_state c d) c1 d1 → c1.regs 2 ≡ 1 → CallLeft p most users (copy_given u a t s n) c d c1 d1
  copy_left u a t s n good c1 d1 h r2 =
      let ou : IsOneOf users u = (good.source.0, good.source.1) in
      let o : IsOneOf users t = (good.target.0, good.target.1) in
      let o0 = good.target.0 in let o1 = good.target.1 in let u3 = good.source.3 in let t3 = good.target.3 in
      let wu = (e.each u ou).whole in let wt = (e.each t o).whole in let few = e.few in
      let g : Flat = with_words (user_of users t) s (take n (drop (a / 4) (words_of u))) in
      let ws = pasted_is u a t s n (omega arith) in
      let pages : pages_of (with_words (user_of users t) s (take n (drop (a / 4) (words_of u)))) ≡ pages_of (user_of users t) = ap (λ n. n / 1024) (pasted_length (words_of t) (take n (drop (a / 4) (words_of u))) (s / 4) (taken_length (words_of u) (a / 4) n (s / 4) (length (words_of t)) (omega arith) (omega arith))) in
      let same = kept (copied (pages_by most users) (number_of_word most u a) (number_of_word most t s) n) c1 d1 h in
      left_of (copy_given u a t s n) (copied (pages_by most users) (number_of_word most u a) (number_of_word most t s) n) c1 d1 h
      (same_on p.layout _ (flat_of most sizes_of (replaced words_of t (put_words (words_of t) (s / 4) (words_of u) (a / 4) n))) (pages_by most (with_user users t (with_words (user_of users t) s (take n (drop (a / 4) (words_of u))))))
      (lists.copy u a t s n good)
      (users_same p.layout users most t (with_words (user_of users t) s (take n (drop (a / 4) (words_of u)))) sizes_of (replaced words_of t (put_words (words_of t) (s / 4) (words_of u) (a / 4) n)) e.some e.shape o (sym pages) (cond-true (nat_eq t t) _ (words_of t) (eq-eqb t t refl) ∙ ws) (λ v ne. refl) (λ v ne. cond-false (nat_eq v t) _ (words_of v) (ne_eqb v t ne))))
      (blocks_changed users c.memory c1.memory t (with_words (user_of users t) s (take n (drop (a / 4) (words_of u)))) o refl (same (block_at t + 32) (omega arith) (omega arith) ∙ e.blocks.sizes t o ∙ sym pages) (λ z lo hi ne. same z lo hi) e.few e.blocks)
      refl (ap (λ z. z ∷ []) (sym r2))

  copy_steps : (u a t s n : ℕ) → 598 + 600 * n + steps_of_page p.layout.pages b * (3 * piece_count (number_of_word most u a) (number_of_word most t s) n) ≤ call_steps p b (copy_given u a t s n)
  copy_steps u a t s n =
      let e1 : steps_of_page p.layout.pages b * (3 * piece_count (number_of_word most u a) (number_of_word most t s) n) ≡ steps_of_page p.layout.pages b * (3 * pieces_at a s n) = ap (λ z. steps_of_page p.layout.pages b * (3 * z)) (lists.pieces u a t s n ∙ sym (pieces_are a s n)) in
      steps_enough (steps_of_page p.layout.pages b * (3 * piece_count (number_of_word most u a) (number_of_word most t s) n)) (steps_of_page p.layout.pages b * (3 * pieces_at a s n)) n (3 * pieces_at a s n) e1

  -- the call's good conditions, one after the other
  abbrev good_copy : (u a t s : ℤ) → ℕ → Bool
  good_copy u a t s n = is_within 1 (length users) u && is_within 1 (length users) t && is_address (user_of users (nat_abs u)) a n && is_address (user_of users (nat_abs t)) s n && not (nat_eq (nat_abs u) (nat_abs t) && ranges_overlap (nat_abs a) (nat_abs s) n)

  abbrev user_bit : ℕ → Bool
  user_bit u = is_within 1 (length users) (signed u)

  abbrev place_bit : (u a n : ℕ) → Bool
  place_bit u a n = is_address (user_of users (nat_abs (signed u))) (signed a) n

  abbrev apart_bit : (u a t s n : ℕ) → Bool
  apart_bit u a t s n = not (nat_eq (nat_abs (signed u)) (nat_abs (signed t)) && ranges_overlap (nat_abs (signed a)) (nat_abs (signed s)) n)

  -- whether the arguments are good is decided
  decided : (u a t s n : ℕ) → u < 2 ^ 32 → a < 2 ^ 32 → t < 2 ^ 32 → s < 2 ^ 32 → n < 2 ^ 31
      → (CopyArgs (length users) sizes_of u a t s n × (good_copy (signed u) (signed a) (signed t) (signed s) n ≡ true) × ((nat_abs (signed u) ≡ u) × (nat_abs (signed a) ≡ a) × (nat_abs (signed t) ≡ t) × (nat_abs (signed s) ≡ s))) ⊎ ((CopyArgs (length users) sizes_of u a t s n → ⊥) × (good_copy (signed u) (signed a) (signed t) (signed s) n ≡ false))
  decided u a t s n su sa st ss sn =
      let few = e.few in
      ⊎_elim
      (λ x. ⊎_elim
      (λ y. let pu = word_good n (signed u) u x.3 (signed a) in let pt = word_good n (signed t) t y.3 (signed s) in
      ⊎_elim
      (λ z. ⊎_elim
      (λ v. ⊎_elim
      (λ q. inl (record { source = (x.0, x.1, z.0, z.1); target = (y.0, y.1, v.0, v.1); apart = λ same. ⊎_elim (λ h. absurd (h.0 same)) (λ h. h.0) q }, chain_true (user_bit u) (user_bit t) (place_bit u a n) (place_bit t s n) (apart_bit u a t s n) x.2 y.2 (pu ∙ z.2) (pt ∙ v.2) (shared x.3 z.3 y.3 v.3 ∙ ⊎_elim (λ h. ap (λ b. not (b && ranges_overlap a s n)) (ne_eqb u t h.0)) (λ h. ap (λ b. not (nat_eq u t && b)) h.1 ∙ ap not (and_false (nat_eq u t))) q), (x.3, z.3, y.3, v.3)))
      (λ q. inr (λ g. q.1 (g.apart q.0), chain_5 (user_bit u) (user_bit t) (place_bit u a n) (place_bit t s n) (apart_bit u a t s n) (shared x.3 z.3 y.3 v.3 ∙ ap₂ (λ b k. not (b && k)) (eq-eqb u t q.0) q.2)))
      (overlapping u a t s n z.0 v.0))
      (λ v. inr (λ g. v.0 g.target.2 g.target.3, chain_4 (user_bit u) (user_bit t) (place_bit u a n) (place_bit t s n) (apart_bit u a t s n) (pt ∙ v.1)))
      (place_is (user_of users t) s n (small_user t (y.0, y.1)) ss))
      (λ z. inr (λ g. z.0 g.source.2 g.source.3, chain_3 (user_bit u) (user_bit t) (place_bit u a n) (place_bit t s n) (apart_bit u a t s n) (pu ∙ z.1)))
      (place_is (user_of users u) a n (small_user u (x.0, x.1)) sa))
      (λ y. inr (λ g. y.0 g.target.0 g.target.1, chain_2 (user_bit u) (user_bit t) (place_bit u a n) (place_bit t s n) (apart_bit u a t s n) y.1))
      (within_is 1 (length users) t (omega arith) st))
      (λ x. inr (λ g. x.0 g.source.0 g.source.1, chain_1 (user_bit u) (user_bit t) (place_bit u a n) (place_bit t s n) (apart_bit u a t s n) x.1))
      (within_is 1 (length users) u (omega arith) su)
    where
      shared : nat_abs (signed u) ≡ u → nat_abs (signed a) ≡ a → nat_abs (signed t) ≡ t → nat_abs (signed s) ≡ s → not (nat_eq (nat_abs (signed u)) (nat_abs (signed t)) && ranges_overlap (nat_abs (signed a)) (nat_abs (signed s)) n) ≡ not (nat_eq u t && ranges_overlap a s n)
      shared eu ea et es = ap₂ (λ u t. not (nat_eq u t && ranges_overlap (nat_abs (signed a)) (nat_abs (signed s)) n)) eu et ∙ ap₂ (λ a s. not (nat_eq u t && ranges_overlap a s n)) ea es

      overlapping : (u a t s n : ℕ) → a % 4 ≡ 0 → s % 4 ≡ 0 → ((u ≢ t × Unit {0}) ⊎ (Apart (a / 4) (s / 4) n × (ranges_overlap a s n ≡ false))) ⊎ ((u ≡ t) × (Apart (a / 4) (s / 4) n → ⊥) × (ranges_overlap a s n ≡ true))
      overlapping u a t s n za zs = ⊎_elim (λ same. ⊎_elim (λ h. inl (inr h)) (λ h. inr (same, h.0, h.1)) (overlap_is a s n za zs)) (λ ne. inl (inl (ne, tt))) (cases_eq u t)

  -- vm_copy's code comes to this
  abbrev Is : Given → Type 0
  Is g = From w (vm_copy_code p (length users) most (handle_page_code p)) (call_steps p b g) c d (CallLeft p most users g c d)

  -- VM_COPY
  pub copies : VmCopy → AnswersOnPages w (vm_copy_code p (length users) most (handle_page_code p)) (copy_call c) p b most users c d
  copies law =
      let k = law w p b (length users) most sizes_of (pages_by most users) c d entered in
      ⊎_elim
      (λ lt. let en = signed_pos (c.regs 24) lt in
      ⊎_elim
      (λ g. granting _ (copy_call c) (ap (λ n. is_good most users (MakeCopy (signed (c.regs 20)) (signed (c.regs 21)) (signed (c.regs 22)) (signed (c.regs 23)) n)) en ∙ g.1)
      (named (nat_abs (signed (c.regs 20))) (nat_abs (signed (c.regs 21))) (nat_abs (signed (c.regs 22))) (nat_abs (signed (c.regs 23))) (nat_abs (signed (c.regs 24))) g.2.0 g.2.1 g.2.2 g.2.3 (ap nat_abs en)
      (from_later w r _ (598 + 600 * c.regs 24 + steps_of_page p.layout.pages b * (3 * piece_count (number_of_word most (c.regs 20) (c.regs 21)) (number_of_word most (c.regs 22) (c.regs 23)) (c.regs 24))) _ c d _ _ (copy_steps (c.regs 20) (c.regs 21) (c.regs 22) (c.regs 23) (c.regs 24)) (λ c1 d1 h. copy_left (c.regs 20) (c.regs 21) (c.regs 22) (c.regs 23) (c.regs 24) g.0 c1 d1 h.0 h.1) (k.good g.0))))
      (λ g. refusing _ (copy_call c) 0 (ap (λ n. is_good most users (MakeCopy (signed (c.regs 20)) (signed (c.regs 21)) (signed (c.regs 22)) (signed (c.regs 23)) n)) en ∙ g.1) refl (k.bad g.0))
      (decided (c.regs 20) (c.regs 21) (c.regs 22) (c.regs 23) (c.regs 24) (e.regs 20) (e.regs 21) (e.regs 22) (e.regs 23) lt))
      (λ ge. refusing _ (copy_call c) 0 (ap (λ n. is_good most users (MakeCopy (signed (c.regs 20)) (signed (c.regs 21)) (signed (c.regs 22)) (signed (c.regs 23)) n)) (signed_neg (c.regs 24) ge (e.regs 24))) refl
      (k.bad (λ g. let u3 = g.source.3 in let few = small_user (c.regs 20) (g.source.0, g.source.1) in absurd (omega arith))))
      (cases_lt (c.regs 24) (2 ^ 31))
    where
      named : (u a t s n : ℕ) → u ≡ c.regs 20 → a ≡ c.regs 21 → t ≡ c.regs 22 → s ≡ c.regs 23 → n ≡ c.regs 24 → Is (copy_given (c.regs 20) (c.regs 21) (c.regs 22) (c.regs 23) (c.regs 24)) → Is (copy_given u a t s n)
      named u a t s n eu ea et es en h =
          subst (λ u. Is (copy_given u a t s n)) (sym eu) (subst (λ a. Is (copy_given (c.regs 20) a t s n)) (sym ea) (subst (λ t. Is (copy_given (c.regs 20) (c.regs 21) t s n)) (sym et)
          (subst (λ s. Is (copy_given (c.regs 20) (c.regs 21) (c.regs 22) s n)) (sym es) (subst (λ n. Is (copy_given (c.regs 20) (c.regs 21) (c.regs 22) (c.regs 23) n)) (sym en) h))))
