-- What the scripts of a report print, where the sectors are told and valid entries of page tables name frames of the memory.
use Rattle.std.proofs.Common.{◌≡◌, ℕ, zero, suc, ◌+◌, ◌-◌, ◌*◌, ◌/◌, ◌%◌, ◌<◌, ◌≤◌, Bool, true, false, List, [], ◌∷◌, ◌++◌, Option, Some, refl, sym, ap, ◌∙◌, arith, append-nil, lt-ltb}
use Rattle.std.specs.Prelude.{◌==◌, ◌&&◌, nat_lt, if◌then◌else◌}
use Rattle.std.specs.Option.{option_map}
use Rattle.std.proofs.lemmas.Bool.{eqb-true}
use Rattle.std.proofs.Math.Nat.{mul-le-mul_right}
use Rattle.mips_machine.specs.Machine.{Held, state_of}
use Rattle.layer_map.specs.Map.{Map, memory_frames}
use Rattle.page_model.specs.Paging.{Paged, shown_word}
use Rattle.cvm_model.specs.Paged.{paged_of}
use Rattle.cvm_outside.specs.Script.{Call, Printed, Read, scripts, spoken}
use Rattle.cvm_outside.proofs.RowsPut.{scripts-none, scripts-suc}
use Rattle.cvm_outside.proofs.ScriptsTell.{speaks_both}
use Rattle.boot_report.specs.Resident.{page_entry, is_resident, shown}
use Rattle.boot_report.specs.Texts.{texts, page_text, processor_rows, pages_in, shown_cpu, EntriesFit}
use Rattle.boot_report.specs.Scripts.{page_script, user_script}
use Rattle.boot_report.proofs.TextsInTurn.{texts-none, texts-suc}

-- the rows of so many pages of a user, the first of which has number q of all pages, as the machine shows them
abbrev pub pages_rows : Paged → ℕ → ℕ → List ℕ
pages_rows a q pages = texts (λ p. page_text p (shown_word a (q + p))) pages

pub speaks_scripts : (f : ℕ → List Call) (g : ℕ → List ℕ) (n : ℕ) → ((i : ℕ) → i < n → spoken (f i) ≡ Some (g i)) → spoken (scripts f n) ≡ Some (texts g n)
speaks_scripts f g zero h = ap spoken (scripts-none f) ∙ ap (λ l. Some l) (sym (texts-none g))
speaks_scripts f g (suc n) h =
    ap spoken (scripts-suc f n) ∙ speaks_both (scripts f n) (f n) (texts g n) (g n) (speaks_scripts f g n (λ i l. h i (omega arith))) (h n (omega arith)) ∙ ap (λ l. Some l) (sym (texts-suc g n))

module _ (m : Map) (held : Held) (ss : List (List ℕ)) (fit : EntriesFit m (state_of held ss)) where
  -- what is shown of a page is what the machine shows by pages
  pub shown_is : {X : Type 0} (F : (ℕ → ℕ) → X) (q : ℕ) → q < m.users * m.params.pages → option_map F (shown m (state_of held []) (Some ss) q) ≡ Some (F (shown_word (paged_of m (state_of held ss)) q))
  shown_is F q lt = by (page_entry m (state_of held []) q / 2048 % 2 == 1) (nat_lt (page_entry m (state_of held []) q / 4096) (memory_frames m)) (λ v. lt-ltb _ _ (fit q lt (eqb-true _ _ v)))
    where
      by : (v l : Bool) → (v ≡ true → l ≡ true) → option_map F (if v && l then Some ((paged_of m (state_of held ss)).frame (page_entry m (state_of held []) q / 4096)) else Some ((paged_of m (state_of held ss)).sector q))
          ≡ Some (F (λ i. if v then (paged_of m (state_of held ss)).frame (page_entry m (state_of held []) q / 4096) i else (paged_of m (state_of held ss)).sector q i))
      by true true h = refl
      by true false h = let e : false ≡ true = h refl in absurd (cc)
      by false l h = refl

  page_spoken : (q p : ℕ) → q < m.users * m.params.pages → spoken (page_script m (state_of held []) (Some ss) q p) ≡ Some (page_text p (shown_word (paged_of m (state_of held ss)) q))
  page_spoken q p lt =
      by (is_resident m (state_of held []) q) (option_map (page_text p) (shown m (state_of held []) (Some ss) q)) (shown_is (page_text p) q lt)
    where
      by : (b : Bool) (text : Option (List ℕ)) → text ≡ Some (page_text p (shown_word (paged_of m (state_of held ss)) q)) → spoken ((if b then [] else Read q ∷ []) ++ Printed text ∷ []) ≡ Some (page_text p (shown_word (paged_of m (state_of held ss)) q))
      by true text e = ap (λ (t : Option (List ℕ)). spoken (Printed t ∷ [])) e ∙ ap (λ l. Some l) (append-nil _)
      by false text e = ap (λ (t : Option (List ℕ)). spoken (Printed t ∷ [])) e ∙ ap (λ l. Some l) (append-nil _)

  pub user_spoken : (runs : Bool) (u : ℕ) → 1 ≤ u → u ≤ m.users → spoken (user_script m held (Some ss) runs u)
      ≡ Some (processor_rows u (pages_in m held.hardware.memory u) (shown_cpu held runs u) ++ pages_rows (paged_of m (state_of held ss)) ((u - 1) * m.params.pages) (pages_in m held.hardware.memory u))
  user_spoken runs u some most =
      ap (option_map (λ more. processor_rows u (pages_in m held.hardware.memory u) (shown_cpu held runs u) ++ more))
      (speaks_scripts _ (λ p. page_text p (shown_word (paged_of m (state_of held ss)) ((u - 1) * m.params.pages + p))) (pages_in m held.hardware.memory u) (λ p l.
      let rows = mul-le-mul_right {m = suc (u - 1)} {n = m.users} m.params.pages (omega arith) in
      page_spoken ((u - 1) * m.params.pages + p) p (omega (arith, rows, l))))
