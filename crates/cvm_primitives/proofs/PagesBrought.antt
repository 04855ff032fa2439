-- Pages are brought in by the page-fault block; two at once for vm_copy.
use Rattle.std.proofs.Common.{◌≡◌, ◌≢◌, ℕ, ◌+◌, ◌-◌, ◌*◌, ◌/◌, ◌%◌, ◌^◌, ◌<◌, ◌≤◌, ◌⊎◌, Bool, true, false, nat_lt, List, [], ◌∷◌, refl, sym, ap, ◌∙◌, subst, ⊎_elim, inl, inr, arith, cond, nat_eq, eq-eqb, ne_eqb}
use Rattle.std.proofs.lemmas.Bool.{cases_eq, cond-true, cond-false}
use Rattle.mips_table.specs.declared.inst.Inst.{Inst}
use Rattle.mips_table.specs.declared.inst.Inst.TheVariants.{Srl, Addiu, Subu, Sltiu}
use Rattle.mips_table.specs.Arith.{flag}
use Rattle.page_model.specs.Paging.{PageLayout, IsUserFrame, MapsTo, Paged, Pages, PagingInvariant, IsAccessible, counted_entries}
use Rattle.page_model.specs.Faults.{InPlace, Brought}
use Rattle.mips_table.specs.Code.{Contents, Behind, World}
use Rattle.cvm_primitives.specs.Routines.{RoutineLaws}
use Rattle.masm.specs.Says.{Gives}
use Rattle.masm.specs.Laws.{From}
use Rattle.cvm_primitives.proofs.BlocksFromOneState.{from_straight, from_then, from_later}
use Rattle.page_model.specs.TableLayout.{TableLayout, paged_view}
use Rattle.frame_table.specs.View.{Sited}
use Rattle.page_fault.specs.Asked.{PageAsked, PageDone, PageBlock, swap_steps, fault_steps, idle_steps}
use Rattle.cvm_primitives.specs.View.{PagesHeld, FourOthers, EntryState}
use Rattle.cvm_primitives.proofs.PartStates.{Keeps, Came, BothIn}
use Rattle.cvm_primitives.specs.Code.{page_in_both_code}
use Rattle.cvm_primitives.proofs.SharedByRoutines.{flag_of}

-- two pages: q can be read, r is brought in to store, and q again: to store where it is r
pub both_pass : (w : World) (f : RoutineLaws w) (l : PageLayout) (q r : ℕ) (s : Bool) (b c d : Paged) → 2 ≤ l.frames → q < l.pages → r < l.pages → IsUserFrame l b.hand → IsAccessible b q false → Brought l r true b c → (q ≡ r → s ≡ true) → (q ≢ r → s ≡ false) → Brought l q s c d → IsAccessible d q false × IsAccessible d r true
both_pass w f l q r s b c d two lq lr u x y same other z = ⊎_elim
    (λ e. let k : IsAccessible d q true = subst (λ t. IsAccessible d q t) (same e) (f.handled.passes l q s c d z.handled) in
    (record { valid = k.valid; unprotected = λ t. absurd (cc) }, subst (λ y. IsAccessible d y true) e k))
    (λ ne. let k = f.handled.passes l q s c d z.handled in (
      record { valid = k.valid; unprotected = λ t. absurd (cc) },
      ⊎_elim
          (λ i. let pc : IsAccessible c q false = f.handled.stays b c q false (i.entries q lq ne) x in
          let z' : Brought l q false c d = subst (λ t. Brought l q t c d) (other ne) z in
          f.handled.stays c d r true ((z'.idle pc).entries r lr (λ e. ne (sym e))) i.passes)
          (λ fi. f.handled.kept l r q s c d lr (λ e. ne (sym e)) (f.handled.last l r b c two u fi) z.handled true)
          y.handled,
    ))
    (cases_eq q r)

-- what may be asked for: page X to be read, or page Y to be stored to
abbrev pub IsAsked : (X Y q : ℕ) → Bool → Type 0
IsAsked X Y q store = ((q ≡ X) × (store ≡ false)) ⊎ ((q ≡ Y) × (store ≡ true))

-- Each of these pages comes in within n steps from a state of which R holds, and R goes on to hold. It is of no registers.
pub record Looks (w : World) (p : TableLayout) (code : List Inst) (n X Y : ℕ) (R : Contents → Behind → Type 0) : Type 0 where
  pub does : (u : Pages) (q : ℕ) (store : Bool) (c : Contents) (d : Behind) → R c d → IsAsked X Y q store → PageAsked p u q store c d → From w code n c d (PageDone p u q store c d)
  pub kept : (u : Pages) (q : ℕ) (store : Bool) (c : Contents) (d : Behind) (c' : Contents) (d' : Behind) → R c d → IsAsked X Y q store → PageDone p u q store c d c' d' → R c' d'
  pub same : (c c' : Contents) (d d' : Behind) → c'.memory ≡ c.memory → d' ≡ d → R c d → R c' d'

-- from any state, within the most steps of a fault
pub any_looks : (w : World) (f : RoutineLaws w) (p : TableLayout) (b : ℕ) (page : PageBlock w p b) (X Y : ℕ) → Looks w p page.code (fault_steps b) X Y (λ c d. Unit {0})
any_looks w f p b page X Y = record {
  does = λ u q store c d r is asked. let k = page.does u q store c d asked in from_later w f page.code (swap_steps p b c.memory) (fault_steps b) c d _ _ k.within (λ c' d' h. h) k.swaps;
  kept = λ u q store c d c' d' r is k. tt;
  same = λ c c' d d' m e r. tt;
}

-- both pages pass
abbrev pub Resident : TableLayout → (X Y : ℕ) → Contents → Behind → Type 0
Resident p X Y c d = IsAccessible (paged_view p c.memory d.sectors) X false × IsAccessible (paged_view p c.memory d.sectors) Y true

-- then each is looked at, and no more
pub resident_looks : (w : World) (f : RoutineLaws w) (p : TableLayout) (b : ℕ) (page : PageBlock w p b) (X Y : ℕ) → X < p.layout.pages → Y < p.layout.pages → Looks w p page.code idle_steps X Y (Resident p X Y)
resident_looks w f p b page X Y lx ly = record {
  does = λ u q store c d r is asked. (page.does u q store c d asked).idle (passes c d q store r is);
  kept = λ u q store c d c' d' r is k.
      let i : InPlace p.layout q store (paged_view p c.memory d.sectors) (paged_view p c'.memory d'.sectors) = k.brought.idle (passes c d q store r is) in
      let entry : (z : ℕ) → z < p.layout.pages → c'.memory (p.tables + z) ≡ c.memory (p.tables + z) = λ z lz.
      ⊎_elim (λ e. ap (λ z. c'.memory (p.tables + z)) e ∙ k.stays (passes c d q store r is) ∙ ap (λ z. c.memory (p.tables + z)) (sym e)) (λ ne. i.entries z lz ne) (cases_eq z q) in (
        f.handled.stays (paged_view p c.memory d.sectors) (paged_view p c'.memory d'.sectors) X false (entry X lx) r.0,
        f.handled.stays (paged_view p c.memory d.sectors) (paged_view p c'.memory d'.sectors) Y true (entry Y ly) r.1,
      );
  same = λ c c' d d' m e r. (
    f.handled.stays (paged_view p c.memory d.sectors) (paged_view p c'.memory d'.sectors) X false (ap (λ m. m (p.tables + X)) m) r.0,
    f.handled.stays (paged_view p c.memory d.sectors) (paged_view p c'.memory d'.sectors) Y true (ap (λ m. m (p.tables + Y)) m) r.1,
  );
}
  where
    passes : (c : Contents) (d : Behind) (q : ℕ) (store : Bool) → Resident p X Y c d → IsAsked X Y q store → IsAccessible (paged_view p c.memory d.sectors) q store
    passes c d q store r is = ⊎_elim
        (λ a. subst (λ q. IsAccessible (paged_view p c.memory d.sectors) q store) (sym a.0) (subst (λ s. IsAccessible (paged_view p c.memory d.sectors) X s) (sym a.1) r.0))
        (λ a. subst (λ q. IsAccessible (paged_view p c.memory d.sectors) q store) (sym a.0) (subst (λ s. IsAccessible (paged_view p c.memory d.sectors) Y s) (sym a.1) r.1))
        is

module _ (w : World) (f : RoutineLaws w) (p : TableLayout) (b : ℕ) (si : Sited p w) (page : PageBlock w p b) (n X Y : ℕ) (R : Contents → Behind → Type 0) (looks : Looks w p page.code n X Y R) (g : EntryState) where
  pub brings : (u : Pages) (q : ℕ) (store : Bool) (c : Contents) (d : Behind) → PagesHeld p u g c d → R c d → IsAsked X Y q store → c.regs 16 ≡ q → q < p.layout.pages → u.live q ≡ true → (store ≡ false → c.regs 15 ≡ 0) → (store ≡ true → c.regs 15 ≢ 0)
      → From w page.code n c d (λ c' d'. Came p u g q store c d c' d' × R c' d')
  brings u q store c d h r is at lt live load save =
      from_later w f page.code n n c d _ _ (omega arith)
      (λ c' d' k. (
        record {
          held = record {
            stands = k.stands;
            small = k.small;
            low = λ x lx ne. k.low x lx ne ∙ h.low x lx ne;
            above = λ x le lx. k.above x le lx ∙ h.above x le lx;
            special = k.besides.special ∙ h.special;
            r28 = k.regs 28 (inr (omega arith)) ∙ h.r28;
            r29 = k.regs 29 (inr (omega arith)) ∙ h.r29;
            r30 = k.regs 30 (inr (omega arith)) ∙ h.r30;
            r31 = k.regs 31 (inr (omega arith)) ∙ h.r31;
            behind = record { log = k.besides.log ∙ h.behind.log; input = k.besides.input ∙ h.behind.input; past = λ x i le. k.beyond x i le ∙ h.behind.past x i le };
            idle = k.besides.idle;
          };
          brought = k.brought;
          stays = k.stays;
          keeps = record { r13 = k.regs 13 (inl (omega arith, omega arith)); r14 = k.regs 14 (inl (omega arith, omega arith)); r15 = k.regs 15 (inl (omega arith, omega arith)); r16 = k.regs 16 (inl (omega arith, omega arith)); r26 = k.regs 26 (inr (omega arith)); r27 = k.regs 27 (inr (omega arith)); r28 = k.regs 28 (inr (omega arith)); r29 = k.regs 29 (inr (omega arith)); r30 = k.regs 30 (inr (omega arith)); r31 = k.regs 31 (inr (omega arith)); special = k.besides.special };
        },
        looks.kept u q store c d c' d' r is k,
      ))
      (looks.does u q store c d r is (record { page = at; inside = lt; live = live; stands = h.stands; small = h.small; idle = h.idle; load = load; save = save }))

  -- a core that differs in registers that aren't in hand
  pub held_regs : (u : Pages) (c c' : Contents) (d : Behind) → c'.memory ≡ c.memory → Keeps c c' → PagesHeld p u g c d → PagesHeld p u g c' d
  held_regs u c c' d m k h = record {
    stands = subst (λ m. PagingInvariant p.layout u (paged_view p m d.sectors)) (sym m) h.stands;
    small = λ x lx. subst (λ m. m (p.tables + x) < 2 ^ 32) (sym m) (h.small x lx);
    low = λ x lx ne. ap (λ m. m x) m ∙ h.low x lx ne;
    above = λ x le lx. ap (λ m. m x) m ∙ h.above x le lx;
    special = k.special ∙ h.special;
    r28 = k.r28 ∙ h.r28;
    r29 = k.r29 ∙ h.r29;
    r30 = k.r30 ∙ h.r30;
    r31 = k.r31 ∙ h.r31;
    behind = h.behind;
    idle = h.idle;
  }

  -- the state before the first page is asked for, and before the second
  record Asks1 (u : Pages) (y : ℕ) (c0 : Contents) (d0 : Behind) (c : Contents) (d : Behind) : Type 0 where
    held : PagesHeld p u g c d
    number : c.regs 16 ≡ y / 1024
    store : c.regs 15 ≡ 1
    same : c.memory ≡ c0.memory
    r13 : c.regs 13 ≡ c0.regs 13
    r26 : c.regs 26 ≡ c0.regs 26
    r27 : c.regs 27 ≡ c0.regs 27
    r14 : c.regs 14 ≡ c0.regs 14
    disk : d ≡ d0
    ready : R c d

  record Asks2 (u : Pages) (x y : ℕ) (c0 : Contents) (d0 : Behind) (c : Contents) (d : Behind) : Type 0 where
    held : PagesHeld p u g c d
    number : c.regs 16 ≡ x / 1024
    store : c.regs 15 ≡ flag (nat_lt ((x / 1024 + (2 ^ 32 - y / 1024)) % 2 ^ 32) 1)
    brought : Brought p.layout (y / 1024) true (paged_view p c0.memory d0.sectors) (paged_view p c.memory d.sectors)
    r13 : c.regs 13 ≡ c0.regs 13
    r26 : c.regs 26 ≡ c0.regs 26
    r27 : c.regs 27 ≡ c0.regs 27
    r14 : c.regs 14 ≡ c0.regs 14
    ready : R c d

  pub both_from : (u : Pages) (x y : ℕ) (c : Contents) (d : Behind) → PagesHeld p u g c d → c.regs 26 ≡ x → c.regs 27 ≡ y → x < 1024 * p.layout.pages → y < 1024 * p.layout.pages → u.live (x / 1024) ≡ true → u.live (y / 1024) ≡ true
      → IsAccessible (paged_view p c.memory d.sectors) (x / 1024) false
      → x / 1024 ≡ X → y / 1024 ≡ Y → R c d → From w (page_in_both_code page.code) (2 + (n + (4 + n))) c d (BothIn p u g x y c)
  both_from u x y c d h from to lx ly ax ay pass ex ey r =
      let pages = si.pages in
      from_then w f (Srl 16 27 10 ∷ Addiu 15 0 1 ∷ []) _ 2 (n + (4 + n)) c d (Asks1 u y c d) (BothIn p u g x y c)
      (from_straight w f (Srl 16 27 10 ∷ Addiu 15 0 1 ∷ []) (Gives (y / 1024) ∷ Gives 1 ∷ []) c d (Asks1 u y c d) refl h.idle
      (λ m. ((ap (λ z. z / 2 ^ 10) to, (refl, tt)), record { held = record { stands = h.stands; small = h.small; low = h.low; above = h.above; special = h.special; r28 = h.r28; r29 = h.r29; r30 = h.r30; r31 = h.r31; behind = h.behind; idle = h.idle }; number = refl; store = refl; same = refl; r13 = refl; r26 = refl; r27 = refl; r14 = refl; disk = refl; ready = looks.same c _ d d refl refl r })))
      (λ c1 d1 a. let store1 = a.store in
      from_then w f page.code _ n (4 + n) c1 d1 (λ c' d'. Came p u g (y / 1024) true c1 d1 c' d' × R c' d') (BothIn p u g x y c)
      (brings u (y / 1024) true c1 d1 a.held a.ready (inr (ey, refl)) a.number (omega arith) ay (λ e. absurd (cc)) (λ e. omega arith))
      (λ c2 d2 kk. let k = kk.0 in from_then w f (Addiu 9 16 0 ∷ Srl 16 26 10 ∷ Subu 15 16 9 ∷ Sltiu 15 15 1 ∷ []) page.code 4 n c2 d2 (Asks2 u x y c d) (BothIn p u g x y c)
      (from_straight w f (Addiu 9 16 0 ∷ Srl 16 26 10 ∷ Subu 15 16 9 ∷ Sltiu 15 15 1 ∷ []) (Gives (y / 1024) ∷ Gives (x / 1024) ∷ Gives ((x / 1024 + (2 ^ 32 - y / 1024)) % 2 ^ 32) ∷ Gives (flag (nat_lt ((x / 1024 + (2 ^ 32 - y / 1024)) % 2 ^ 32) 1)) ∷ []) c2 d2 (Asks2 u x y c d) refl k.held.idle
      (λ m. let r16 = k.keeps.r16 in let page1 = a.number in (
        (omega arith, (ap (λ z. z / 2 ^ 10) (k.keeps.r26 ∙ a.r26 ∙ from), (refl, (refl, tt)))),
        record {
          held = record { stands = k.held.stands; small = k.held.small; low = k.held.low; above = k.held.above; special = k.held.special; r28 = k.held.r28; r29 = k.held.r29; r30 = k.held.r30; r31 = k.held.r31; behind = k.held.behind; idle = k.held.idle };
          number = refl;
          store = refl;
          brought = subst (λ m. Brought p.layout (y / 1024) true (paged_view p m d.sectors) (paged_view p c2.memory d2.sectors)) a.same (subst (λ t. Brought p.layout (y / 1024) true (paged_view p c1.memory t.sectors) (paged_view p c2.memory d2.sectors)) a.disk k.brought);
          r13 = k.keeps.r13 ∙ a.r13;
          r26 = k.keeps.r26 ∙ a.r26;
          r27 = k.keeps.r27 ∙ a.r27;
          r14 = k.keeps.r14 ∙ a.r14;
          ready = looks.same c2 _ d2 d2 refl refl kk.1;
        },
      )))
      (λ c3 d3 t. last u x y c d c3 d3 h lx ly ax ay pass ex ey t)))
    where
      end : (u : Pages) (x y : ℕ) (c : Contents) (d : Behind) (c3 : Contents) (d3 : Behind) (s : Bool) → PagesHeld p u g c d → x < 1024 * p.layout.pages → y < 1024 * p.layout.pages → IsAccessible (paged_view p c.memory d.sectors) (x / 1024) false → Asks2 u x y c d c3 d3 → (x / 1024 ≡ y / 1024 → s ≡ true) → (x / 1024 ≢ y / 1024 → s ≡ false)
          → (c4 : Contents) (d4 : Behind) → Came p u g (x / 1024) s c3 d3 c4 d4 → BothIn p u g x y c c4 d4
      end u x y c d c3 d3 s h lx ly pass t same other c4 d4 k =
          let b = both_pass w f p.layout (x / 1024) (y / 1024) s (paged_view p c.memory d.sectors) (paged_view p c3.memory d3.sectors) (paged_view p c4.memory d4.sectors) si.frames (omega arith) (omega arith) h.stands.hand pass t.brought same other k.brought in
          record { held = k.held; source = b.0; target = b.1; r13 = k.keeps.r13 ∙ t.r13; r26 = k.keeps.r26 ∙ t.r26; r27 = k.keeps.r27 ∙ t.r27; r14 = k.keeps.r14 ∙ t.r14 }

      last : (u : Pages) (x y : ℕ) (c : Contents) (d : Behind) (c3 : Contents) (d3 : Behind) → PagesHeld p u g c d → x < 1024 * p.layout.pages → y < 1024 * p.layout.pages → u.live (x / 1024) ≡ true → u.live (y / 1024) ≡ true → IsAccessible (paged_view p c.memory d.sectors) (x / 1024) false → x / 1024 ≡ X → y / 1024 ≡ Y → Asks2 u x y c d c3 d3 → From w page.code n c3 d3 (BothIn p u g x y c)
      last u x y c d c3 d3 h lx ly ax ay pass ex ey t =
          let pages = si.pages in let store = t.store in
          ⊎_elim
          (λ one. let v = one.0 in let lt = one.1 in let same : x / 1024 ≡ y / 1024 = omega arith in
          from_later w f page.code n n c3 d3 _ _ (omega arith) (λ c4 d4 k. end u x y c d c3 d3 true h lx ly pass t (λ e. refl) (λ ne. absurd (ne same)) c4 d4 k.0)
          (brings u (x / 1024) true c3 d3 t.held t.ready (inr (same ∙ ey, refl)) t.number (omega arith) ax (λ e. absurd (cc)) (λ e. omega arith)))
          (λ zero_. let v = zero_.0 in let le = zero_.1 in
          from_later w f page.code n n c3 d3 _ _ (omega arith) (λ c4 d4 k. end u x y c d c3 d3 false h lx ly pass t (λ e. absurd (omega arith)) (λ ne. refl) c4 d4 k.0)
          (brings u (x / 1024) false c3 d3 t.held t.ready (inl (ex, refl)) t.number (omega arith) ax (λ e. omega arith) (λ e. absurd (cc))))
          (flag_of ((x / 1024 + (2 ^ 32 - y / 1024)) % 2 ^ 32) 1)

-- one page, from any state
pub brings_one : (w : World) (f : RoutineLaws w) (p : TableLayout) (b : ℕ) (si : Sited p w) (page : PageBlock w p b) (g : EntryState) (u : Pages) (q : ℕ) (store : Bool) (c : Contents) (d : Behind) → PagesHeld p u g c d → c.regs 16 ≡ q → q < p.layout.pages → u.live q ≡ true → (store ≡ false → c.regs 15 ≡ 0) → (store ≡ true → c.regs 15 ≢ 0)
    → From w page.code (fault_steps b) c d (Came p u g q store c d)
brings_one w f p b si page g u q store c d h at lt live load save =
    from_later w f page.code (fault_steps b) (fault_steps b) c d _ _ (omega arith) (λ c' d' k. k.0)
    (brings w f p b si page (fault_steps b) q q (λ c d. Unit {0}) (any_looks w f p b page q q) g u q store c d h tt (either store) at lt live load save)
  where
    either : (s : Bool) → IsAsked q q q s
    either true = inr (refl, refl)
    either false = inl (refl, refl)

-- where four others name the frame after the source was brought in to be read, they did so before
pub others_back : (w : World) (f : RoutineLaws w) (p : TableLayout) (u : Pages) (g : EntryState) (q y : ℕ) (c0 : Contents) (d0 : Behind) (c : Contents) (d : Behind) → q < p.layout.pages → Came p u g q false c0 d0 c d → FourOthers p q y c.memory → FourOthers p q y c0.memory
others_back w f p u g q y c0 d0 c d lq k h = ⊎_elim
    (λ i. let same : c.memory (p.tables + q) ≡ c0.memory (p.tables + q) = k.stays (record { valid = i.was; unprotected = λ s. absurd (cc) }) in
    let all : (z : ℕ) → z < p.layout.pages → c.memory (p.tables + z) ≡ c0.memory (p.tables + z) = λ z lz. ⊎_elim (λ e. ap (λ z. c.memory (p.tables + z)) e ∙ same ∙ ap (λ z. c0.memory (p.tables + z)) (sym e)) (λ ne. i.entries z lz ne) (cases_eq z q) in
    let fr : c.memory (p.tables + q) / 4096 ≡ c0.memory (p.tables + q) / 4096 = ap (λ e. e / 4096) same in
    record {
      names = subst (λ e. MapsTo e (e / 4096)) same h.names;
      user = subst (IsUserFrame p.layout) fr h.user;
      four = subst (λ a. 4 ≤ counted_entries (λ z. cond (nat_eq z y) 0 (c0.memory (p.tables + z))) a p.layout.pages) fr (subst (λ n. 4 ≤ n) (f.counts.same (λ z. cond (nat_eq z y) 0 (c0.memory (p.tables + z))) (λ z. cond (nat_eq z y) 0 (c.memory (p.tables + z))) (c.memory (p.tables + q) / 4096) p.layout.pages (λ z lz. ap (λ e. cond (nat_eq z y) 0 e) (all z lz))) h.four);
    })
    (λ b. let entry = b.entry in let fr : ℕ = c.memory (p.tables + q) / 4096 in
    let hand : c.memory (p.tables + q) / 4096 ≡ (paged_view p c0.memory d0.sectors).hand = omega arith in
    let away : (z : ℕ) → z < p.layout.pages → z ≢ q → MapsTo (c.memory (p.tables + z)) (c.memory (p.tables + q) / 4096) → ⊥ = λ z lz ne n.
    let nh : MapsTo (c.memory (p.tables + z)) (paged_view p c0.memory d0.sectors).hand = n ∙ ap (λ f. 2 * f + 1) hand in
    ⊎_elim (λ old. let gone = b.evicted z lz ne old in absurd (omega arith)) (λ no. no (ap (λ e. e / 2048) (sym (b.entries z lz ne no)) ∙ nh)) (f.shows.either (c0.memory (p.tables + z)) (paged_view p c0.memory d0.sectors).hand) in
    let one = few (λ z. cond (nat_eq z y) 0 (c.memory (p.tables + z))) q (c.memory (p.tables + q) / 4096) p.layout.pages lq (λ z lz ne n. ⊎_elim
    (λ e. let zero_ : cond (nat_eq z y) 0 (c.memory (p.tables + z)) ≡ 0 = cond-true _ 0 (c.memory (p.tables + z)) (eq-eqb z y e) in absurd (omega arith))
    (λ nz. away z lz ne (ap (λ e. e / 2048) (sym (cond-false _ 0 (c.memory (p.tables + z)) (ne_eqb z y nz))) ∙ n))
    (cases_eq z y)) in
    let four = h.four in absurd (omega arith))
    k.brought.handled
  where
    -- a frame that one page alone may name has a count of one at most
    few : (e : ℕ → ℕ) (q h n : ℕ) → q < n → ((z : ℕ) → z < n → z ≢ q → MapsTo (e z) h → ⊥) → counted_entries e h n ≤ 1
    few e q h n lq nay =
        let c = f.counts.edit (λ z. cond (nat_eq z q) 0 (e z)) e h q n lq (λ z lz ne. sym (cond-false _ 0 (e z) (ne_eqb z q ne))) in
        let none = f.counts.none (λ z. cond (nat_eq z q) 0 (e z)) h n (λ z lz m. ⊎_elim
        (λ eq. let v : cond (nat_eq z q) 0 (e z) ≡ 0 = cond-true _ 0 (e z) (eq-eqb z q eq) in absurd (omega arith))
        (λ ne. nay z lz ne (ap (λ e. e / 2048) (sym (cond-false _ 0 (e z) (ne_eqb z q ne))) ∙ m))
        (cases_eq z q)) in
        ⊎_elim (λ m. let h1 = f.shows.names (e q) h m in omega arith) (λ m. let h0 = f.shows.misses (e q) h m in omega arith) (f.shows.either (e q) h)
