-- A page's entry is found, and dropped.
use Rattle.std.proofs.Common.{◌≡◌, ◌≢◌, ℕ, ◌+◌, ◌-◌, ◌*◌, ◌/◌, ◌%◌, ◌^◌, ◌<◌, ◌≤◌, ◌⊎◌, [], ◌∷◌, ◌++◌, refl, sym, ap, ◌∙◌, subst, ⊎_elim, inl, inr, arith}
use Rattle.std.proofs.lemmas.Bool.{cases_eq}
use Rattle.mips_table.specs.declared.inst.Inst.TheVariants.{Sw}
use Rattle.page_model.specs.Paging.{IsUserFrame, IsFrame, MapsTo, Paged}
use Rattle.page_model.specs.Edits.{Parted, ListFollows, Retargeted}
use Rattle.mips_table.specs.Device.{Idle}
use Rattle.mips_table.specs.Code.{Contents, Behind, World}
use Rattle.mips_table.proofs.PutsChangeOneWord.{put_same, put_other}
use Rattle.mips_table.proofs.NumbersInHalves.{const_is}
use Rattle.cvm_primitives.specs.Routines.{RoutineLaws}
use Rattle.masm.specs.Says.{Gives, Reads, Writes}
use Rattle.masm.specs.Blocks.{when_code}
use Rattle.masm.specs.Laws.{From}
use Rattle.cvm_primitives.proofs.BlocksFromOneState.{from_straight, from_then, from_when, from_later}
use Rattle.page_model.specs.TableLayout.{TableLayout, count_at, paged_view}
use Rattle.frame_table.specs.View.{Sited, Relisted}
use Rattle.cvm_primitives.proofs.PartStates.{Keeps, Found, DropAsked, DropDone}
use Rattle.frame_table.specs.Code.{walk_page_table_code, user_frame_number_code, remove_mapping_code}
use Rattle.cvm_primitives.specs.Code.{drop_page_code}
use Rattle.cvm_primitives.proofs.SharedByRoutines.{kept_on, edit_is}
use Rattle.page_model.specs.Rows.{SameRow}
use Rattle.cvm_primitives.proofs.FrameLists.{rows_apart, lists_none, lists_parted}

module _ (w : World) (f : RoutineLaws w) (p : TableLayout) (b : ℕ) (si : Sited p w) where
  pub find_from : (q : ℕ) (c : Contents) (d : Behind) → c.regs 16 ≡ q → q < p.layout.pages → c.memory (p.tables + q) < 2 ^ 32 → d.pending ≡ Idle → From w (walk_page_table_code p) 9 c d (Found p q c d)
  find_from q c d page lt small idle =
      let low = si.low in let first = si.first in let second = si.second in let third = si.third in let words = f.small in
      let e : ℕ = c.memory (p.tables + q) in
      from_straight w f (walk_page_table_code p) (Gives (4 * p.tables / 65536 * 2 ^ 16) ∷ Gives (4 * p.tables) ∷ Gives (4 * q) ∷ Gives (4 * (p.tables + q)) ∷ Reads (p.tables + q) (c.memory (p.tables + q)) ∷ Gives (c.memory (p.tables + q) / 4096) ∷ Gives (c.memory (p.tables + q) / 2048) ∷ Gives (c.memory (p.tables + q) / 2048 * 2 ^ 31 % 2 ^ 32) ∷ Gives (c.memory (p.tables + q) / 2048 % 2) ∷ []) c d _ refl idle
      (λ n. (
        (refl, (const_is (4 * p.tables), (omega arith, (omega arith, ((omega arith, omega arith, refl), (refl, (refl, (refl, (omega arith, tt))))))))),
        record {
          entry = refl;
          named = refl;
          valid = refl;
          keeps = record { r13 = refl; r14 = refl; r15 = refl; r16 = refl; r26 = refl; r27 = refl; r28 = refl; r29 = refl; r30 = refl; r31 = refl; special = refl };
          memory = refl;
          disk = refl;
        },
      ))

  -- what the parts of drop come to
  abbrev e_of : Contents → ℕ → ℕ
  e_of c q = c.memory (p.tables + q)

  dropped : (q e2 : ℕ) (c : Contents) (d : Behind) (c' : Contents) (d' : Behind) → DropAsked p q c d → e2 / 2048 % 2 ≡ 0 → e2 < 2 ^ 32 → c'.memory (p.tables + q) ≡ e2
      → ((x : ℕ) → x ≢ p.tables + q → (x < p.counts) ⊎ (p.counts + 8 * p.layout.frames ≤ x) → c'.memory x ≡ c.memory x)
      → ((g : ℕ) → IsUserFrame p.layout g → ListFollows q e2 g (paged_view p c.memory d.sectors) (paged_view p c'.memory d.sectors))
      → Keeps c c' → d' ≡ d → DropDone p q c d c' d'
  dropped q e2 c d c' d' a z small here others lists keeps disk =
      let low = si.low in let first = si.first in let second = si.second in let lt = a.inside in
      let r : Retargeted p.layout q e2 (paged_view p c.memory d.sectors) (paged_view p c'.memory d.sectors) = edit_is p w b si q e2 c.memory c'.memory d.sectors a.inside here others lists in record {
        gone = ap (λ e. e / 2048 % 2) here ∙ z;
        edit = subst (λ e. Retargeted p.layout q e (paged_view p c.memory d.sectors) (paged_view p c'.memory d'.sectors)) (sym here) (subst (λ t. Retargeted p.layout q e2 (paged_view p c.memory d.sectors) (paged_view p c'.memory t.sectors)) (sym disk) r);
        low = λ x lx. others x (omega arith) (inl (omega arith));
        above = λ x le lx. others x (omega arith) (inr (omega arith));
        small = λ x lx. ⊎_elim (λ eq. subst (λ y. c'.memory (p.tables + y) < 2 ^ 32) (sym eq) (subst (λ y. y < 2 ^ 32) (sym here) small)) (λ ne. subst (λ y. y < 2 ^ 32) (sym (others (p.tables + x) (omega arith) (inl (omega arith)))) (a.small x lx)) (cases_eq x q);
        keeps = keeps;
        disk = disk;
      }

  -- the entry is cleared, and register 8 tells the user frame that it named
  record Cleared (q : ℕ) (c : Contents) (d : Behind) (c' : Contents) (d' : Behind) : Type 0 where
    excess : c'.regs 8 ≡ e_of c q / 4096 - p.layout.zeros
    here : c'.memory (p.tables + q) ≡ 0
    others : (x : ℕ) → x ≢ p.tables + q → c'.memory x ≡ c.memory x
    keeps : Keeps c c'
    disk : d' ≡ d

  clears : (q : ℕ) (c : Contents) (d : Behind) (c1 : Contents) (d1 : Behind) → DropAsked p q c d → Found p q c d c1 d1 → IsFrame p.layout (e_of c q / 4096) → From w (Sw 0 20 0 ∷ user_frame_number_code p) 4 c1 d1 (Cleared q c d)
  clears q c d c1 d1 a h fr =
      let low = si.low in let first = si.first in let second = si.second in let third = si.third in let words = f.small in let lt = a.inside in
      let entry = h.entry in let named = h.named in let fr0 = fr.0 in let fr1 = fr.1 in
      let z9 = const_is p.layout.zeros in
      from_straight w f (Sw 0 20 0 ∷ user_frame_number_code p) (Writes (p.tables + q) 0 ∷ Gives (p.layout.zeros / 65536 * 2 ^ 16) ∷ Gives p.layout.zeros ∷ Gives (e_of c q / 4096 - p.layout.zeros) ∷ []) c1 d1 (Cleared q c d) refl (ap (λ d. d.pending) h.disk ∙ a.idle)
      (λ n. (
        ((omega arith, omega arith, si.free _ (omega arith) (omega arith), refl), (refl, (z9, (omega arith, tt)))),
        record {
          excess = refl;
          here = put_same c1.memory _ 0 _ refl;
          others = λ x ne. put_other c1.memory _ 0 x ne ∙ ap (λ m. m x) h.memory;
          keeps = kept_on c c1 _ h.keeps (record { r13 = refl; r14 = refl; r15 = refl; r16 = refl; r26 = refl; r27 = refl; r28 = refl; r29 = refl; r30 = refl; r31 = refl; special = refl });
          disk = h.disk;
        },
      ))

  -- what the law of a frame's list keeps
  pub keeps_of : (q y : ℕ) (Moved : Paged → Paged → Type 0) (c : Contents) (d : Behind) (c' : Contents) (d' : Behind) → Relisted p y Moved c d c' d' → Keeps c c'
  keeps_of q y Moved c d c' d' r = record {
    r13 = r.regs 13 (omega arith) (omega arith) (omega arith);
    r14 = r.regs 14 (omega arith) (omega arith) (omega arith);
    r15 = r.regs 15 (omega arith) (omega arith) (omega arith);
    r16 = r.regs 16 (omega arith) (omega arith) (omega arith);
    r26 = r.regs 26 (omega arith) (omega arith) (omega arith);
    r27 = r.regs 27 (omega arith) (omega arith) (omega arith);
    r28 = r.regs 28 (omega arith) (omega arith) (omega arith);
    r29 = r.regs 29 (omega arith) (omega arith) (omega arith);
    r30 = r.regs 30 (omega arith) (omega arith) (omega arith);
    r31 = r.regs 31 (omega arith) (omega arith) (omega arith);
    special = r.special;
  }

  leaves_list : (q : ℕ) (c : Contents) (d : Behind) (c2 : Contents) (d2 : Behind) → DropAsked p q c d → Cleared q c d c2 d2 → MapsTo (e_of c q) (e_of c q / 4096) → IsUserFrame p.layout (e_of c q / 4096) → From w (remove_mapping_code p) 23 c2 d2 (DropDone p q c d)
  leaves_list q c d c2 d2 a h n u =
      let first = si.first in let second = si.second in let u0 = u.0 in let u1 = u.1 in let lt = a.inside in
      let y : ℕ = e_of c q / 4096 in
      let k = a.list (e_of c q / 4096) u n in
      let same : (g : ℕ) → SameRow p g c.memory c2.memory = λ g x lo hi. h.others x (omega arith) in
      from_later w f (remove_mapping_code p) 23 23 c2 d2 (Relisted p (e_of c q / 4096) (Parted q (e_of c q / 4096)) c2 d2) _ (omega arith)
      (λ c' d' r. dropped q 0 c d c' d' a refl (omega arith) (r.memory (p.tables + q) (inl (omega arith)) ∙ h.here)
      (λ x ne o. r.memory x (⊎_elim (λ o. inl (omega arith)) (λ o. inr (omega arith)) o) ∙ h.others x ne)
      (lists_parted f.shows p q 0 (e_of c q / 4096) c.memory c'.memory d.sectors d.sectors u n (λ g z. omega arith)
      (f.rows.parted p q (e_of c q / 4096) c2.memory c'.memory c.memory c'.memory d2.sectors d'.sectors d.sectors d.sectors (let few = a.few (e_of c q / 4096) u in let z = same (e_of c q / 4096) (count_at p (e_of c q / 4096)) (omega arith) (omega arith) in omega arith) (λ x lo hi. sym (same (e_of c q / 4096) x lo hi)) (λ x lo hi. refl) r.list)
      (λ g ug ne x lo hi. r.memory x (rows_apart p (e_of c q / 4096) g u ug ne x lo hi) ∙ same g x lo hi) a.few)
      (kept_on c c2 c' h.keeps (keeps_of q (e_of c q / 4096) (Parted q (e_of c q / 4096)) c2 d2 c' d' r))
      (r.behind ∙ h.disk))
      (f.leaves_list p q (e_of c q / 4096) k.0 c2 d2 si u h.excess (h.keeps.r16 ∙ a.page) (f.rows.listed p q (e_of c q / 4096) k.0 c.memory c2.memory (same (e_of c q / 4096)) k.1) (ap (λ d. d.pending) h.disk ∙ a.idle))

  pub drop_from : (q : ℕ) (c : Contents) (d : Behind) → DropAsked p q c d → From w (drop_page_code p) 38 c d (DropDone p q c d)
  drop_from q c d a =
      from_then w f (walk_page_table_code p) _ 9 29 c d (Found p q c d) (DropDone p q c d) (find_from q c d a.page a.inside (a.small q a.inside) a.idle)
      (λ c1 d1 h. from_when w f 24 (Sw 0 20 0 ∷ (user_frame_number_code p ++ when_code 8 (remove_mapping_code p))) 28 c1 d1 (DropDone p q c d) (omega arith) (ap (λ d. d.pending) h.disk ∙ a.idle)
      (λ z. let valid = h.valid in
      let n : MapsTo (e_of c q) (e_of c q / 4096) = omega arith in
      let fr = a.named (e_of c q / 4096) n in let fr0 = fr.0 in
      from_then w f (Sw 0 20 0 ∷ user_frame_number_code p) (when_code 8 (remove_mapping_code p)) 4 24 c1 d1 (Cleared q c d) (DropDone p q c d) (clears q c d c1 d1 a h fr)
      (λ c2 d2 k. let excess = k.excess in
      from_when w f 8 (remove_mapping_code p) 23 c2 d2 (DropDone p q c d) (omega arith) (ap (λ d. d.pending) k.disk ∙ a.idle)
      (λ z8. leaves_list q c d c2 d2 a k n (omega arith, fr.1))
      (λ z8. dropped q 0 c d c2 d2 a refl (omega arith) k.here (λ x ne o. k.others x ne)
      (lists_none f.shows p q 0 c.memory c2.memory d.sectors d.sectors (λ x le. let first = si.first in let lt = a.inside in k.others x (omega arith)) (λ g ug. let g0 = ug.0 in f.shows.misses (e_of c q) g (λ m. omega arith) ∙ sym (f.shows.misses 0 g (λ m. omega arith)))) k.keeps k.disk)))
      (λ z. let valid = h.valid in
      let m : (x : ℕ) → c1.memory x ≡ c.memory x = λ x. ap (λ m. m x) h.memory in
      dropped q (e_of c q) c d c1 d1 a (omega arith) (a.small q a.inside) (m (p.tables + q)) (λ x ne o. m x) (lists_none f.shows p q (e_of c q) c.memory c1.memory d.sectors d.sectors (λ x le. m x) (λ g ug. refl)) h.keeps h.disk))
