-- vm_copy on the machine: from its entry by the head of its loop with the last page left, and to its return.
use Rattle.std.proofs.Common.{◌≡◌, ◌≢◌, ℕ, zero, suc, ◌+◌, ◌-◌, ◌*◌, ◌/◌, ◌%◌, ◌^◌, ◌<◌, ◌≤◌, ◌⊎◌, ℤ, pos, negsuc, Bool, true, not, ◌&&◌, None, List, [], ◌∷◌, length, slice_index, refl, sym, ap, ap₂, ◌∙◌, subst, ⊎_elim, inl, inr, nat_eq, true≢false, arith, eq-eqb, eqb-true}
use Rattle.std.specs.Prelude.{nat_abs, if◌then◌else◌, ◌==◌, nat_le}
use Rattle.std.proofs.lemmas.Bool.{and_parts, cases_lt, leb-true}
use Rattle.mips_table.specs.declared.inst.Inst.{Inst}
use Rattle.mips_table.specs.declared.inst.Inst.TheVariants.{Jr}
use Rattle.mips_table.specs.Arith.{signed}
use Rattle.mips_table.specs.Flat.{Flat}
use Rattle.mips_table.specs.Device.{Environment}
use Rattle.mips_table.specs.Machine.{State, run}
use Rattle.mips_table.specs.Code.{Contents, Behind, World, Sound, CodeState, at_with, Reaches}
use Rattle.mips_table.specs.Simulation.{sectors_of, configuration_of}
use Rattle.masm.specs.Laws.{ReturnRuns}
use Rattle.layer_map.specs.Map.{Map, layer_words, block_at, tables_at, memory_words}
use Rattle.page_model.specs.Laws.{AlikesStand}
use Rattle.page_model.specs.Paging.{IsUserFrame, MapsTo, Pages, PagingInvariant, counted_entries, naming}
use Rattle.page_model.specs.TableLayout.{TableLayout, page_layout, table_layout, paged_view}
use Rattle.page_fault.specs.Code.{handle_page_code}
use Rattle.page_fault.specs.Asked.{MapsAreSited}
use Rattle.cvm_model.specs.Kernel.{Core}
use Rattle.cvm_model.specs.Primitives.{VmCopy, user_of, pages_of, is_within, is_address, is_good, ranges_overlap}
use Rattle.cvm_model.specs.Cvm.{Running}
use Rattle.cvm_model.specs.Paged.{paged_of, pages_by}
use Rattle.cvm_model.specs.Stands.{Site, UserFits, RunningRelation}
use Rattle.layer_contract.specs.Layer.{Inside, BusyWithin, InCode, PrimitiveCalled, ComesBack, PrimitivesAnswer}
use Rattle.cvm_primitives.specs.Blocks.{IsOneOf}
use Rattle.cvm_primitives.specs.Copy.{Apart, copied}
use Rattle.cvm_primitives.specs.View.{CopyArgs, UsersIn, number_of_word, SharesFrame, FourOthers}
use Rattle.cvm_primitives.specs.Code.{vm_copy_code}
use Rattle.cvm_primitives.specs.Laws.{EnteredOnPages, GoodCopy, first_word, second_word, copy_steps}
use Rattle.cvm_primitives.specs.Sharing.{EndsWhole, LastShared, last_page}
use Rattle.cvm_primitives.proofs.UserMemories.{InLists}
use Rattle.cvm_primitives.proofs.ArgumentNumbers.{overlap_is}
use Rattle.cvm_primitives.proofs.UserLists.{in_lists}
use Rattle.cvm_primitives.proofs.CopyFromArguments.{range_below}
use Rattle.real_layer.specs.Image.{returning, routine_at, image_site, IsMade}
use Rattle.real_layer.specs.Runs.{block_world, StaysBetween}
use Rattle.real_layer.proofs.StandsByFunctions.{Shown, Order, order_of, words_of, behind, word_is, user_fits, pages_agree, shown}
use Rattle.real_layer.proofs.PartsPlaced.{listed, linked_length}
use Rattle.real_layer.proofs.RunsBetweenEntries.{Arrives, contents}
use Rattle.real_layer.proofs.RoutinesAndExits.{Tools, not_user, Routed, routed, arrives_in}
use Rattle.real_layer.proofs.AfterDispatch.{signed_pos, signed_neg}
use Rattle.real_layer.proofs.FromUser.{free_block}
use Rattle.real_layer.proofs.UsersFit.{within}
use Rattle.real_layer.proofs.PrimitiveCalls.{free_past, free_port, own_hand, word_read}
use Rattle.layer_sharing.specs.Passing.{CopyPassed, CopyPasses}
use Rattle.layer_sharing.specs.Sharing.{word_number, LastPage, CopiesShare}

-- entries that are the same are counted the same
counted_same : (f g : ℕ → ℕ) (k n : ℕ) → ((i : ℕ) → i < n → f i ≡ g i) → counted_entries f k n ≡ counted_entries g k n
counted_same f g k zero h = refl
counted_same f g k (suc n) h = ap₂ (λ a e. a + naming e k) (counted_same f g k n (λ i lt. h i (omega arith))) (h n (omega arith))

-- with entries that are the same, pages name the same frames
shares_same : (p : TableLayout) (a b : ℕ) (f g : ℕ → ℕ) → f (p.tables + a) ≡ g (p.tables + a) → f (p.tables + b) ≡ g (p.tables + b) → SharesFrame p a b f → SharesFrame p a b g
shares_same p a b f g ea eb h = record {
  source = subst (λ e. MapsTo e (e / 4096)) ea h.source;
  target = subst (λ e. MapsTo e (g (p.tables + a) / 4096)) eb (subst (λ e. MapsTo (f (p.tables + b)) (e / 4096)) ea h.target);
}

four_same : (p : TableLayout) (a b : ℕ) (f g : ℕ → ℕ) → a < p.layout.pages → ((i : ℕ) → i < p.layout.pages → f (p.tables + i) ≡ g (p.tables + i)) → FourOthers p a b f → FourOthers p a b g
four_same p a b f g lt same h =
    let many : counted_entries (λ z. if nat_eq z b then 0 else f (p.tables + z)) (f (p.tables + a) / 4096) p.layout.pages ≡ counted_entries (λ z. if nat_eq z b then 0 else g (p.tables + z)) (g (p.tables + a) / 4096) p.layout.pages =
    counted_same (λ z. if nat_eq z b then 0 else f (p.tables + z)) (λ z. if nat_eq z b then 0 else g (p.tables + z)) (f (p.tables + a) / 4096) p.layout.pages (λ i li. ap (λ e. if nat_eq i b then 0 else e) (same i li))
    ∙ ap (λ e. counted_entries (λ z. if nat_eq z b then 0 else g (p.tables + z)) (e / 4096) p.layout.pages) (same a lt) in
    record {
      names = subst (λ e. MapsTo e (e / 4096)) (same a lt) h.names;
      user = subst (λ e. IsUserFrame p.layout (e / 4096)) (same a lt) h.user;
      four = subst (λ k. 4 ≤ k) many h.four;
    }

-- what is so of five numbers is so of five that are equal to them
five_same : (P : (u a v b n : ℕ) → Type 0) (u a v b n u' a' v' b' n' : ℕ) → u ≡ u' → a ≡ a' → v ≡ v' → b ≡ b' → n ≡ n' → P u a v b n → P u' a' v' b' n'
five_same P u a v b n u' a' v' b' n' eu ea ev eb en h = subst (λ u. P u a' v' b' n') eu (subst (λ a. P u a v' b' n') ea (subst (λ v. P u a v b' n') ev (subst (λ b. P u a v b n') eb (subst (λ n. P u a v b n) en h))))

five : (p q r s t : Bool) → (p && q && r && s && t) ≡ true → (p ≡ true) × (q ≡ true) × (r ≡ true) × (s ≡ true) × (t ≡ true)
five p q r s t e =
    let a = and_parts (p && q && r && s) t e in let b = and_parts (p && q && r) s a.0 in let c = and_parts (p && q) r b.0 in let d = and_parts p q c.0 in
    (d.0, d.1, c.1, b.1, a.1)

-- a number that is one of these isn't negative
is_pos : (low high : ℕ) (z : ℤ) → is_within low high z ≡ true → z ≡ pos (nat_abs z)
is_pos low high (pos n) e = refl
is_pos low high (negsuc n) e = absurd (cc)

-- neither is the address of a place
place : (f : Flat) (z : ℤ) (n : ℕ) → is_address f z n ≡ true → (z ≡ pos (nat_abs z)) × (nat_abs z % 4 ≡ 0) × (nat_abs z + 4 * n ≤ 4096 * pages_of f)
place f (pos a) n e = let p = and_parts (a % 4 == 0) (nat_le (a + 4 * n) (4096 * pages_of f)) e in (refl, eqb-true (a % 4) 0 p.0, leb-true (a + 4 * n) (4096 * pages_of f) p.1)
place f (negsuc a) n e = absurd (cc)

-- a register that holds an int that isn't negative
reg_is : (r : ℕ) (z : ℤ) → r < 2 ^ 32 → signed r ≡ z → z ≡ pos (nat_abs z) → r ≡ nat_abs z
reg_is r (pos a) lt e h = ⊎_elim
    (λ less. let q : pos r ≡ pos a = sym (signed_pos r less) ∙ e in cc)
    (λ more. let q : negsuc (2 ^ 32 - suc r) ≡ pos a = sym (signed_neg r more lt) ∙ e in absurd (cc))
    (cases_lt r (2 ^ 31))
reg_is r (negsuc a) lt e h = absurd (cc)

disjoint : (u v a b n : ℕ) → a % 4 ≡ 0 → b % 4 ≡ 0 → not (u == v && ranges_overlap a b n) ≡ true → u ≡ v → Apart (a / 4) (b / 4) n
disjoint u v a b n za zb h e = ⊎_elim (λ o. o.0) (λ o. absurd (true≢false (sym h ∙ ap₂ (λ x y. not (x && y)) (eq-eqb u v e) o.1))) (overlap_is a b n za zb)

-- good arguments of a copy, as numbers
record Args (users : List Flat) (u a v b n : ℤ) : Type 0 where
  good : CopyArgs (length users) (λ u. pages_of (user_of users u)) (nat_abs u) (nat_abs a) (nat_abs v) (nat_abs b) (nat_abs n)
  u_pos : u ≡ pos (nat_abs u)
  a_pos : a ≡ pos (nat_abs a)
  v_pos : v ≡ pos (nat_abs v)
  b_pos : b ≡ pos (nat_abs b)
  n_pos : n ≡ pos (nat_abs n)

args : (most : ℕ) (users : List Flat) (u a v b n : ℤ) → is_good most users (VmCopy u a v b n) ≡ true → Args users u a v b n
args most users u a v b (negsuc n) e = absurd (cc)
args most users u a v b (pos n) e =
    let p = five (is_within 1 (length users) u) (is_within 1 (length users) v) (is_address (user_of users (nat_abs u)) a n) (is_address (user_of users (nat_abs v)) b n) (not (nat_abs u == nat_abs v && ranges_overlap (nat_abs a) (nat_abs b) n)) e in
    let f = within 1 (length users) u p.0 in let f0 = f.0 in
    let g = within 1 (length users) v p.1 in let g0 = g.0 in
    let h = place (user_of users (nat_abs u)) a n p.2 in
    let k = place (user_of users (nat_abs v)) b n p.3 in
    record {
      good = record { source = (omega arith, f.1, h.1, h.2); target = (omega arith, g.1, k.1, k.2); apart = disjoint (nat_abs u) (nat_abs v) (nat_abs a) (nat_abs b) n h.1 k.1 p.4 };
      u_pos = is_pos 1 (length users) u p.0;
      a_pos = h.0;
      v_pos = is_pos 1 (length users) v p.1;
      b_pos = k.0;
      n_pos = refl;
    }

-- what the proofs take from the crates below
pub record Needs : Type 0 where
  pub tools : Tools
  pub returns : (w : World) → Sound w → (body : List Inst) → ReturnRuns w body
  pub sited : MapsAreSited
  pub passes : (w : World) → Sound w → CopyPasses w

-- a run that is below the kernel's code for so many steps isn't back before them
not_before : ((x : Environment) (s : State) (i j : ℕ) → run x s (i + j) ≡ run x (run x s i) j) → (x : Environment) (y : Site) (s : State) (n steps to : ℕ) → StaysBetween x y n (run x s 1) → s.cpu.pc < 4 * layer_words → 4 * layer_words ≤ to → (run x s steps).cpu.pc ≡ to → 1 + n ≤ steps
not_before sum x y s n steps to b low high back = ⊎_elim
    (λ lt. ⊎_elim
    (λ none. let z : steps ≡ 0 = omega arith in let pc : s.cpu.pc ≡ to = ap (λ k. (run x s k).cpu.pc) (sym z) ∙ back in absurd (omega arith))
    (λ some. let e : steps ≡ 1 + (steps - 1) = omega arith in
    let is : run x s steps ≡ run x (run x s 1) (steps - 1) = ap (run x s) e ∙ sum x s 1 (steps - 1) in
    let below : (run x (run x s 1) (steps - 1)).cpu.pc < 4 * layer_words = b.below (steps - 1) (omega arith) in
    let pc : (run x (run x s 1) (steps - 1)).cpu.pc ≡ to = ap (λ (v : State). v.cpu.pc) (sym is) ∙ back in absurd (omega arith))
    (cases_lt steps 1))
    (λ le. le)
    (cases_lt steps (1 + n))

-- the same time: back, and back for the first time
same_time : ((x : Environment) (s : State) (i j : ℕ) → run x s (i + j) ≡ run x (run x s i) j) → (x : Environment) (y : Site) (s : State) (n back to pc : ℕ) → StaysBetween x y n (run x s 1) → s.cpu.pc < 4 * layer_words → 4 * layer_words ≤ pc → (run x s back).cpu.pc ≡ pc
    → ((j : ℕ) → j < back → (run x s j).cpu.pc ≢ pc) → pc ≡ 4 * to → (run x (run x s 1) n).cpu.pc / 4 ≡ to → (run x (run x s 1) n).cpu.pc % 4 ≡ 0 → 1 + n ≡ back
same_time sum x y s n back to pc all low high home apart there at aligned =
    let late : 1 + n ≤ back = not_before sum x y s n back pc all low high home in
    let here : (run x (run x s 1) n).cpu.pc ≡ pc = omega arith in
    ⊎_elim (λ lt. absurd (apart (1 + n) lt (ap (λ (v : State). v.cpu.pc) (sum x s 1 n) ∙ here))) (λ le. omega arith) (cases_lt (1 + n) back)

-- what the state at the moment stands for
stands_at : AlikesStand → (m : Map) → Order m → (v : Pages) (t : State) (u : CodeState) → memory_words m ≤ length t.memory → configuration_of t ≡ u → PagingInvariant (page_layout m) v (paged_view (table_layout m) u.contents.memory u.behind.sectors) → PagingInvariant (page_layout m) v (paged_of m t)
stands_at alikes m o v t u long there h =
    pages_agree alikes m v (words_of t) (slice_index t.memory) (sectors_of t.device.sectors) o (λ k why lt. sym (word_is t k (omega arith)))
    (subst (λ (e : CodeState). PagingInvariant (page_layout m) v (paged_view (table_layout m) e.contents.memory e.behind.sectors)) (sym there) h)

-- what it and the state at the end name
shares_at : (m : Map) → Order m → (p q n : ℕ) (t t' : State) (u u' : CodeState) → memory_words m ≤ length t.memory → memory_words m ≤ length t'.memory → last_page p n < m.users * m.params.pages → last_page q n < m.users * m.params.pages
    → configuration_of t ≡ u → configuration_of t' ≡ u' → LastShared (table_layout m) p q n u'.contents u.contents.memory
    → (SharesFrame (table_layout m) (last_page p n) (last_page q n) (slice_index t'.memory)) ⊎ (FourOthers (table_layout m) (last_page p n) (last_page q n) (slice_index t.memory))
shares_at m o p q n t t' u u' long long' lp lq there there' h = by (last_page p n) (last_page q n) lp lq h
  where
    by : (a b : ℕ) → a < m.users * m.params.pages → b < m.users * m.params.pages → (SharesFrame (table_layout m) a b u'.contents.memory) ⊎ (FourOthers (table_layout m) a b u.contents.memory)
        → (SharesFrame (table_layout m) a b (slice_index t'.memory)) ⊎ (FourOthers (table_layout m) a b (slice_index t.memory))
    by a b la lb h =
        let counts = o.counts in let zeros = o.zeros in
        ⊎_elim
        (λ k. inl (shares_same (table_layout m) a b (words_of t') (slice_index t'.memory) (word_is t' (tables_at m + a) (omega arith)) (word_is t' (tables_at m + b) (omega arith)) (subst (λ (e : CodeState). SharesFrame (table_layout m) a b e.contents.memory) (sym there') k)))
        (λ k. inr (four_same (table_layout m) a b (words_of t) (slice_index t.memory) la (λ i lt. word_is t (tables_at m + i) (omega arith)) (subst (λ (e : CodeState). FourOthers (table_layout m) a b e.contents.memory) (sym there) k)))
        h

-- the words that both show are the same
words_same : (m : Map) (s t : State) (u : CodeState) → memory_words m ≤ length s.memory → memory_words m ≤ length t.memory → configuration_of t ≡ u → u.contents.memory ≡ words_of s → (k : ℕ) → k < memory_words m → slice_index t.memory k ≡ slice_index s.memory k
words_same m s t u long long' there same k lt = sym (word_is t k (omega arith)) ∙ ap (λ (e : CodeState). e.contents.memory k) there ∙ ap (λ g. g k) same ∙ word_is s k (omega arith)

-- all of it, by the run's steps
last_of : (x : Environment) (m : Map) (c : Core) (p q n : ℕ) (s : State) (back moment : ℕ) (t t' : State) → run x s moment ≡ t → run x s back ≡ t' → moment ≤ back → PagingInvariant (page_layout m) (copied (pages_by m.params.pages c.users) p q (n - 1024)) (paged_of m t)
    → (SharesFrame (table_layout m) (last_page p n) (last_page q n) (slice_index t'.memory)) ⊎ (FourOthers (table_layout m) (last_page p n) (last_page q n) (slice_index t.memory))
    → (n ≡ 1024 → (k : ℕ) → k < memory_words m → slice_index t.memory k ≡ slice_index s.memory k) → LastPage x m c p q n s back
last_of x m c p q n s back moment t t' is is' le h k first = record {
  moment = moment;
  within = le;
  stands = subst (λ (v : State). PagingInvariant (page_layout m) (copied (pages_by m.params.pages c.users) p q (n - 1024)) (paged_of m v)) (sym is) h;
  first = λ one k lt. ap (λ (v : State). slice_index v.memory k) is ∙ first one k lt;
  shared = ⊎_elim
      (λ a. inl (subst (λ (v : State). SharesFrame (table_layout m) (last_page p n) (last_page q n) (slice_index v.memory)) (sym is') a))
      (λ a. inr (subst (λ (v : State). FourOthers (table_layout m) (last_page p n) (last_page q n) (slice_index v.memory)) (sym is) a))
      k;
}

module _ (m : Map) (sizes code : List ℕ) (made : IsMade m sizes code) where
  abbrev y : Site
  y = image_site m sizes code

  module _ (z : Needs) (x : Environment) (longest : ℕ) (s : State) (c : Core) (busy : BusyWithin x longest) (st : RunningRelation x y s Running c) (i : Inside s) where
    abbrev users : List Flat
    users = c.users

    abbrev size_of : ℕ → ℕ
    size_of u = pages_of (user_of users u)

    abbrev per : ℕ
    per = m.params.pages

    abbrev body : List Inst
    body = vm_copy_code (table_layout m) (length users) per (handle_page_code (table_layout m))

    sh : Shown y c (words_of s) (behind s)
    sh = shown z.tools.alikes x y s Running c made.range st (not_user s i)

    regs : (r : ℕ) → slice_index s.cpu.regs r < 2 ^ 32
    regs r = word_read s.cpu.regs r st.fits.cpu.regs.each

    o : Order m
    o = order_of m made.range

    whole : (u : ℕ) → IsOneOf users u → UserFits per (user_of users u)
    whole u is = user_fits m c u st.whole is

    count : length users ≡ m.users
    count = st.whole.users

    lists : InLists (page_layout m) (length users) per size_of (λ u. (user_of users u).words)
    lists = in_lists (page_layout m) (length users) per size_of (λ u. (user_of users u).words) (record { some = made.range.params.a_page; lengths = λ u u0 u1. (whole u (u0, u1)).whole; fit = λ u u0 u1. (whole u (u0, u1)).pages })

    users_in : UsersIn (table_layout m) (length users) per size_of (pages_by per users) (contents s)
    users_in =
        let few : m.users ≤ 64 = made.range.users in let number : length users ≡ m.users = count in record {
          few = omega arith;
          most = made.range.params.pages;
          shape = ap (λ n. n * per) (sym count);
          sizes = λ u u0 u1. ap (words_of s) (omega arith) ∙ sh.blocks.sizes u (u0, u1);
          fit = λ u u0 u1. (whole u (u0, u1)).pages;
          live = lists.live;
        }

    module _ (r : Routed m sizes code made 6 (returning body) x s) where
      abbrev w : World
      w = block_world x y (run x s 1) (routine_at m 6) (returning body)

      long : memory_words m ≤ w.words
      long = let size = r.enters.size in let all = st.memory in omega arith

      free : (u : ℕ) → IsOneOf users u → w.kept (block_at u + 32) ≡ None
      free u is = let few : m.users ≤ 64 = made.range.users in let number : length users ≡ m.users = count in let from = is.0 in let to = is.1 in free_block m sizes code made (run x s 1).memory u 32 from (omega arith) (omega arith)

      entered : EnteredOnPages w (table_layout m) longest (length users) per size_of (pages_by per users) (contents s) (behind s)
      entered =
          let globals = o.globals in let heap = o.heap in let stack = o.stack in let tables = o.tables in let counts = o.counts in let zeros = o.zeros in let most = o.most in
          let few : m.users ≤ 64 = made.range.users in
          let number : length users ≡ m.users = count in
          let mem = st.memory in
          let all = long in
          record {
            sound = r.sound;
            sited = z.sited m w made.range long (λ q from to. free_past m sizes code made (run x s 1).memory q (omega (arith, linked_length m sizes code made)) to);
            ported = record {
              disk = record { system = refl; free = λ q from to. let small = r.calm.small in free_port m sizes code made (run x s 1).memory q (omega arith) (omega arith); busy = busy };
              hand = own_hand m sizes code made (run x s 1).memory;
              sectors = omega arith;
            };
            held = record {
              stands = sh.pages;
              small = λ q lt. let here = word_is s (tables_at m + q) (omega arith) in let v = word_read s.memory (tables_at m + q) st.fits.memory in omega arith;
              low = λ q lt ne. refl;
              above = λ q le lt. refl;
              special = refl;
              r28 = refl;
              r29 = refl;
              r30 = refl;
              r31 = refl;
              behind = record { log = refl; input = refl; past = λ q j le. refl };
              idle = st.idle;
            };
            sizes = users_in;
            blocks = λ k lt. ap w.kept (omega arith) ∙ free (k + 1) (omega arith, omega arith);
            regs = regs;
          }

    -- the page of a copy's last words is one of all
    last_inside : (u a n : ℕ) → 1024 ≤ n → number_of_word per u a + n ≤ 1024 * (m.users * per) → last_page (number_of_word per u a) n < m.users * per
    last_inside u a n some le = omega arith

    abbrev p : ℕ
    p = first_word per (contents s)

    abbrev q : ℕ
    q = second_word per (contents s)

    abbrev n : ℕ
    n = slice_index s.cpu.regs 24

    abbrev steps : ℕ
    steps = copy_steps (table_layout m) longest per (contents s)

    -- the machine's states on the way: at the loop's head with the last page left, and back
    record Points (u u' : CodeState) : Type 0 where
      first : ℕ
      last : ℕ
      before : StaysBetween x y first (run x s 1)
      all : StaysBetween x y last (run x s 1)
      there : configuration_of (run x (run x s 1) first) ≡ u
      home : configuration_of (run x (run x s 1) last) ≡ u'
      size : length (run x (run x s 1) first).memory ≡ length s.memory
      home_size : length (run x (run x s 1) last).memory ≡ length s.memory
      aligned : (run x (run x s 1) last).cpu.pc % 4 ≡ 0

    points : (r : Routed m sizes code made 6 (returning body) x s) (to : ℕ) (u : CodeState) (c' : Contents) (d' : Behind) → CopyPassed (table_layout m) (pages_by per users) p q n (contents s) (behind s) u c' d' → slice_index s.cpu.regs 31 ≡ 4 * to
        → Reaches (w r) steps (at_with (routine_at m 6) (contents s) (behind s)) u → Reaches (w r) steps (at_with (routine_at m 6) (contents s) (behind s)) (at_with (routine_at m 6 + length body) c' d') → Points u (at_with to c' d')
    points r to u c' d' e there one whole =
        let a1 : Arrives x y steps (run x s 1) u = arrives_in m sizes code made z.tools 6 (returning body) x s r steps u e.held.idle one in
        let a2 : Arrives x y (steps + 1) (run x s 1) (at_with to c' d') = arrives_in m sizes code made z.tools 6 (returning body) x s r (steps + 1) (at_with to c' d') e.idle
        (z.returns (w r) r.sound body (routine_at m 6) steps to (contents s) (behind s) c' d' r.block whole (e.r31 ∙ there) e.idle) in
        record {
          first = a1.steps;
          last = a2.steps;
          before = a1.between;
          all = a2.between;
          there = a1.there;
          home = a2.there;
          size = a1.size ∙ r.enters.size;
          home_size = a2.size ∙ r.enters.size;
          aligned = a2.calm.quiet.aligned;
        }

    -- wherever the machine is back first
    by_points : (to : ℕ) (u : CodeState) (c' : Contents) (d' : Behind) → CopyPassed (table_layout m) (pages_by per users) p q n (contents s) (behind s) u c' d' → Points u (at_with to c' d') → last_page p n < m.users * per → last_page q n < m.users * per
        → slice_index s.cpu.regs 31 ≡ 4 * to → s.cpu.pc < 4 * layer_words → 4 * layer_words ≤ slice_index s.cpu.regs 31 → (back : ℕ) → (run x s back).cpu.pc ≡ slice_index s.cpu.regs 31 → ((j : ℕ) → j < back → (run x s j).cpu.pc ≢ slice_index s.cpu.regs 31)
        → LastPage x m c p q n s back
    by_points to u c' d' e h lp lq there low high back home apart =
        let sum = z.tools.below.sum in
        let mem = st.memory in let size1 = h.size in let size2 = h.home_size in
        let same : 1 + h.last ≡ back = same_time sum x y s h.last back to (slice_index s.cpu.regs 31) h.all low high home apart there (ap (λ (v : CodeState). v.at) h.home) h.aligned in
        last_of x m c p q n s back (1 + h.first) (run x (run x s 1) h.first) (run x (run x s 1) h.last) (sum x s 1 h.first) (ap (run x s) (sym same) ∙ sum x s 1 h.last)
        (not_before sum x y s h.first back (slice_index s.cpu.regs 31) h.before low high home)
        (stands_at z.tools.alikes m o (copied (pages_by per users) p q (n - 1024)) (run x (run x s 1) h.first) u (omega arith) h.there e.held.stands)
        (shares_at m o p q n (run x (run x s 1) h.first) (run x (run x s 1) h.last) u (at_with to c' d') (omega arith) (omega arith) lp lq h.there h.home e.shared)
        (λ one. words_same m s (run x (run x s 1) h.first) u (omega arith) (omega arith) h.there (e.first one))

    -- by the registers
    by_registers : GoodCopy (length users) size_of (contents s) → EndsWhole p q n → s.cpu.pc ≡ 4 * (2048 + 6) → InCode m (slice_index s.cpu.regs 31) → (back : ℕ) → (run x s back).cpu.pc ≡ slice_index s.cpu.regs 31
        → ((j : ℕ) → j < back → (run x s j).cpu.pc ≢ slice_index s.cpu.regs 31) → LastPage x m c p q n s back
    by_registers good ends pc in_code back home apart =
        let r : Routed m sizes code made 6 (returning body) x s = routed m sizes code made z.tools 6 (returning body) x s c (omega arith) ((listed m).copy ∙ ap (λ n. returning (vm_copy_code (table_layout m) n per (handle_page_code (table_layout m)))) (sym count)) st i pc in
        let four = in_code.whole in let from = in_code.from in let some = ends.0 in
        let source = range_below (table_layout m) (length users) per size_of (pages_by per users) (contents s) (slice_index s.cpu.regs 20) (slice_index s.cpu.regs 21) n users_in good.source in
        let target = range_below (table_layout m) (length users) per size_of (pages_by per users) (contents s) (slice_index s.cpu.regs 22) (slice_index s.cpu.regs 23) n users_in good.target in
        from_run r (slice_index s.cpu.regs 31 / 4) (omega arith) (omega arith) (omega arith)
        (last_inside (slice_index s.cpu.regs 20) (slice_index s.cpu.regs 21) n some source) (last_inside (slice_index s.cpu.regs 22) (slice_index s.cpu.regs 23) n some target) back home apart
        ((z.passes (w r) r.sound (table_layout m) longest (length users) per size_of (pages_by per users) (contents s) (behind s) (entered r) good ends).by (routine_at m 6) (contents s) (behind s) (z.tools.below.runs.front (w r) (routine_at m 6) body (Jr 31 ∷ []) r.block) (refl, refl))
      where
        from_run : (r : Routed m sizes code made 6 (returning body) x s) (to : ℕ) → slice_index s.cpu.regs 31 ≡ 4 * to → s.cpu.pc < 4 * layer_words → 4 * layer_words ≤ slice_index s.cpu.regs 31 → last_page p n < m.users * per → last_page q n < m.users * per
            → (back : ℕ) → (run x s back).cpu.pc ≡ slice_index s.cpu.regs 31 → ((j : ℕ) → j < back → (run x s j).cpu.pc ≢ slice_index s.cpu.regs 31)
            → ((u : CodeState) × (c' : Contents) × (d' : Behind) × CopyPassed (table_layout m) (pages_by per users) p q n (contents s) (behind s) u c' d' × Reaches (w r) steps (at_with (routine_at m 6) (contents s) (behind s)) u
            × Reaches (w r) steps (at_with (routine_at m 6) (contents s) (behind s)) (at_with (routine_at m 6 + length body) c' d'))
            → LastPage x m c p q n s back
        from_run r to there low high lp lq back home apart got =
            by_points to got.0 got.1 got.2 got.3 (points r to got.0 got.1 got.2 got.3 there got.4 got.5) lp lq there low high back home apart

    -- by the call's arguments
    copies : (u a v b k : ℤ) → PrimitiveCalled x y c (VmCopy u a v b k) s → is_good per users (VmCopy u a v b k) ≡ true → EndsWhole (word_number m u a) (word_number m v b) (nat_abs k)
        → (back : ComesBack x y longest c (VmCopy u a v b k) s) → LastPage x m c (word_number m u a) (word_number m v b) (nat_abs k) s back.comes.steps
    copies u a v b k call good ends back =
        let g : Args users u a v b k = args per users u a v b k good in
        let eu : slice_index s.cpu.regs 20 ≡ nat_abs u = reg_is (slice_index s.cpu.regs 20) u (regs 20) call.arguments.0 g.u_pos in
        let ea : slice_index s.cpu.regs 21 ≡ nat_abs a = reg_is (slice_index s.cpu.regs 21) a (regs 21) call.arguments.1.0 g.a_pos in
        let ev : slice_index s.cpu.regs 22 ≡ nat_abs v = reg_is (slice_index s.cpu.regs 22) v (regs 22) call.arguments.1.1.0 g.v_pos in
        let eb : slice_index s.cpu.regs 23 ≡ nat_abs b = reg_is (slice_index s.cpu.regs 23) b (regs 23) call.arguments.1.1.1.0 g.b_pos in
        let ek : slice_index s.cpu.regs 24 ≡ nat_abs k = reg_is (slice_index s.cpu.regs 24) k (regs 24) call.arguments.1.1.1.1.0 g.n_pos in
        five_same (λ u a v b n. LastPage x m c (number_of_word per u a) (number_of_word per v b) n s back.comes.steps) (slice_index s.cpu.regs 20) (slice_index s.cpu.regs 21) (slice_index s.cpu.regs 22) (slice_index s.cpu.regs 23) (slice_index s.cpu.regs 24) (nat_abs u) (nat_abs a) (nat_abs v) (nat_abs b) (nat_abs k) eu ea ev eb ek
        (by_registers
        (five_same (λ u a v b n. CopyArgs (length users) size_of u a v b n) (nat_abs u) (nat_abs a) (nat_abs v) (nat_abs b) (nat_abs k) (slice_index s.cpu.regs 20) (slice_index s.cpu.regs 21) (slice_index s.cpu.regs 22) (slice_index s.cpu.regs 23) (slice_index s.cpu.regs 24) (sym eu) (sym ea) (sym ev) (sym eb) (sym ek) g.good)
        (five_same (λ u a v b n. EndsWhole (number_of_word per u a) (number_of_word per v b) n) (nat_abs u) (nat_abs a) (nat_abs v) (nat_abs b) (nat_abs k) (slice_index s.cpu.regs 20) (slice_index s.cpu.regs 21) (slice_index s.cpu.regs 22) (slice_index s.cpu.regs 23) (slice_index s.cpu.regs 24) (sym eu) (sym ea) (sym ev) (sym eb) (sym ek) ends)
        call.at.pc call.back back.comes.steps back.comes.there.pc back.apart)

  pub copies_share : Needs → PrimitivesAnswer y → CopiesShare y
  copies_share z answer x longest s c u a v b n busy call good ends =
      let back = answer x longest s c (VmCopy u a v b n) busy call in
      (back, copies z x longest s c busy call.at.stands call.at.inside u a v b n call good ends back)
