-- The scripts by which a report is printed are those of the abstract machine's report, where the machine stands for its state.
use Rattle.std.proofs.Common.{◌≡◌, ℕ, suc, ◌+◌, ◌-◌, ◌*◌, ◌<◌, ◌≤◌, List, [], ◌∷◌, ◌++◌, length, get_or, take, drop, Option, Some, codes, refl, sym, ap, ap₂, ◌∙◌, arith, get_or-drop, get_or-take, length-drop}
use Rattle.std.specs.Prelude.{◌==◌}
use Rattle.std.proofs.lemmas.List.{length-take-le}
use Rattle.std.proofs.Math.Nat.{mul-le-mul_right}
use Rattle.cvm_outside.specs.Script.{Call, Printed, scripts}
use Rattle.mips_table.specs.Processor.{Cpu}
use Rattle.mips_table.specs.Flat.{Flat}
use Rattle.mips_machine.specs.Machine.{Held, state_of}
use Rattle.layer_map.specs.Map.{Map}
use Rattle.page_model.specs.Paging.{shown_word}
use Rattle.cvm_model.specs.Kernel.{Core}
use Rattle.cvm_model.specs.Primitives.{user_of, pages_of}
use Rattle.cvm_model.specs.Paged.{paged_of}
use Rattle.cvm_model.specs.Text.{nonzero_row, memory_text, user_head}
use Rattle.boot_report.specs.Texts.{texts, memory_row, processor_rows, page_text, EntriesFit}
use Rattle.boot_report.specs.Told.{UserIsTold}
use Rattle.boot_report.specs.Resident.{page_reads}
use Rattle.boot_report.specs.Scripts as reported
use Rattle.boot_report.proofs.ReportScripts.{shown_is}
use Rattle.boot_report.proofs.UsersTell.{from_front, registers_told}
use Rattle.boot_report.proofs.TextsInTurn.{texts-same}
use Rattle.boot_turns.specs.StepScript as steps
use Rattle.boot_turns.proofs.ShownRows.{scripts-same}
use Rattle.boot_run.specs.Closing as closing

-- the rows of one page of a user's words
page_is : (words : List ℕ) (word : ℕ → ℕ) (p : ℕ) → 1024 * p + 1024 ≤ length words → ((i : ℕ) → i < 1024 → word i ≡ get_or words (1024 * p + i) 0) → page_text p word ≡ memory_text (1024 * p) (take 1024 (drop (1024 * p) words))
page_is words word p room h =
    let part : List ℕ = take 1024 (drop (1024 * p) words) in
    let many : length (take 1024 (drop (1024 * p) words)) ≡ 1024 = (let a = length-drop (1024 * p) words in let b = length-take-le 1024 (drop (1024 * p) words) (omega (arith, a, room)) in omega (arith, b)) in
    texts-same _ _ 1024 (λ i l. ap (memory_row (1024 * p + i)) (h i l ∙ sym (get_or-drop (1024 * p) words i 0) ∙ sym (get_or-take 1024 (drop (1024 * p) words) i 0 l)))
    ∙ ap (texts (λ i. memory_row (1024 * p + i) (get_or part i 0))) (sym many)
    ∙ sym (from_front 0 memory_text memory_row (λ k. refl) (λ k w rest. refl) (1024 * p) (take 1024 (drop (1024 * p) words)))

module _ (m : Map) (held : Held) (ss : List (List ℕ)) (c : Core) (running : ℕ) (entries : EntriesFit m (state_of held ss)) where
  -- page p of a user that is told
  module _ (u : ℕ) (some : 1 ≤ u) (most : u ≤ m.users) (t : UserIsTold m held ss c running u) where
    abbrev f : Flat
    f = user_of c.users u

    page_script_is : (p : ℕ) → p < pages_of (user_of c.users u) → reported.page_script m (state_of held []) (Some ss) ((u - 1) * m.params.pages + p) p ≡ closing.page_report_script m (state_of held ss) u (user_of c.users u) p
    page_script_is p small =
        let whole = t.whole in
        let few = t.most in
        let rows = mul-le-mul_right {m = suc (u - 1)} {n = m.users} m.params.pages (omega (arith, some, most)) in
        let inside : (u - 1) * m.params.pages + p < m.users * m.params.pages = omega (arith, rows, small, few) in
        ap (λ (l : Option (List ℕ)). page_reads m (state_of held ss) ((u - 1) * m.params.pages + p) ++ Printed l ∷ [])
        (shown_is m held ss entries (page_text p) ((u - 1) * m.params.pages + p) inside
        ∙ ap (λ l. Some l) (page_is (user_of c.users u).words (shown_word (paged_of m (state_of held ss)) ((u - 1) * m.params.pages + p)) p (omega (arith, whole, small)) (λ i l. t.word p i small l)))

    pub user_script_is : reported.user_script m held (Some ss) (u == running) u ≡ closing.user_report_script m (state_of held ss) u (user_of c.users u)
    user_script_is =
        ap₂ (λ n (cpu : Cpu). Printed (Some (processor_rows u n cpu)) ∷ reported.pages_script m (state_of held []) (Some ss) ((u - 1) * m.params.pages) n) t.pages t.cpu
        ∙ ap₂ (λ (r : List ℕ) (l : List Call). Printed (Some (user_head u (pages_of f) f.cpu.pc ++ r ++ nonzero_row (codes "hi") f.cpu.hi ++ nonzero_row (codes "lo") f.cpu.lo)) ∷ l)
        (registers_told f.cpu.regs f.cpu refl t.registers)
        (scripts-same (λ p. reported.page_script m (state_of held []) (Some ss) ((u - 1) * m.params.pages + p) p) (closing.page_report_script m (state_of held ss) u f) (pages_of f) (λ p l. page_script_is p l))

  pub users_script_is : ((u : ℕ) → 1 ≤ u → u ≤ m.users → UserIsTold m held ss c running u) → length c.users ≡ m.users →
      reported.users_script m held (Some ss) running m.users ≡ scripts (λ i. closing.user_report_script m (state_of held ss) (i + 1) (user_of c.users (i + 1))) (length c.users)
  users_script_is told count =
      scripts-same (λ i. reported.user_script m held (Some ss) (i + 1 == running) (i + 1)) (λ i. closing.user_report_script m (state_of held ss) (i + 1) (user_of c.users (i + 1))) m.users
      (λ i l. user_script_is (i + 1) (omega arith) (omega (arith, l)) (told (i + 1) (omega arith) (omega (arith, l))))
      ∙ ap (scripts (λ i. closing.user_report_script m (state_of held ss) (i + 1) (user_of c.users (i + 1)))) (sym count)
