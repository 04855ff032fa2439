-- A page line by line, and the script of a page.
use Rattle.std.proofs.Common.{◌≡◌, ℕ, ◌+◌, ◌*◌, ◌<◌, List, take, drop, Bool, true, false, Option, Some, None, ap, ap₂, ◌∙◌, arith}
use Rattle.std.specs.Prelude.{slice_index, IfSome, if◌then◌else◌, [], ◌∷◌}
use Rattle.std.specs.Option.{option_map}
use Rattle.std.proofs.lemmas.List.{get_or-take, get_or-drop}
use Rattle.mips_table.specs.Machine.{State}
use Rattle.mips_machine.specs.Machine.{Held, state_of}
use Rattle.layer_map.specs.Map.{Map}
use Rattle.cvm_outside.specs.Outside.{Files, Output, Drive}
use Rattle.cvm_outside.specs.Script.{Read, Who, Puts, Performs, WritesNoSector}
use Rattle.cvm_outside.proofs.ScriptsFollow.{both}
use Rattle.cvm_outside.proofs.RowsPut.{performed}
use Rattle.boot_report.specs.Texts.{texts, memory_row, page_text, page_word}
use Rattle.boot_report.specs.Resident.{is_resident, shown, page_reads}
use Rattle.boot_report.specs.Scripts.{page_script}
use Rattle.boot_report.proofs.TextsInTurn.{texts-same}

-- a line of 64 words of a page has the rows of their numbers
pub line_is : (page i n : ℕ) (words : List ℕ) → n ≡ 64 →
    texts (λ j. memory_row (1024 * page + 64 * i + j) (slice_index (take n (drop (64 * i) words)) j)) 64 ≡ texts (λ j. memory_row (1024 * page + (64 * i + j)) (slice_index words (64 * i + j))) 64
line_is page i n words e = texts-same _ _ 64 (λ j l.
    let place : 1024 * page + 64 * i + j ≡ 1024 * page + (64 * i + j) = omega arith in
    let inside : j < n = omega (arith, e, l) in
    ap₂ memory_row place (get_or-take n (drop (64 * i) words) j 0 inside ∙ get_or-drop (64 * i) words j 0))

-- reading a page writes no sector
pub reads_quiet : (m : Map) (s : State) (q : ℕ) → WritesNoSector (page_reads m s q)
reads_quiet m s q = by (is_resident m s q)
  where
    by : (b : Bool) → WritesNoSector (if b then [] else Read q ∷ [])
    by true = tt
    by false = tt

-- a page is read, and its rows are put
pub page_performs : (m : Map) (held : Held) (told : Option (List (List ℕ))) (q p : ℕ) (read words : List ℕ) (o : Option ℕ) (shelf : Files) (sink resink : Output) (disk redisk : Drive) (blamed : Option Who) →
    Performs (page_reads m (state_of held []) q) (record { shelf = shelf; sink = sink; disk = disk }) (record { shelf = shelf; sink = sink; disk = redisk }) None → IfSome (shown m (state_of held []) told q) (λ word. (i : ℕ) → page_word held read o i ≡ word i) →
    ((i : ℕ) → i < 1024 → slice_index words i ≡ page_word held read o i) → Puts (page_text p (slice_index words)) sink resink blamed →
    Performs (page_script m (state_of held []) told q p) (record { shelf = shelf; sink = sink; disk = disk }) (record { shelf = shelf; sink = resink; disk = redisk }) blamed
page_performs m held told q p read words o shelf sink resink disk redisk blamed asks is inside puts = both _ _ _ _ _ blamed asks (performed _ _ shelf redisk sink resink blamed (rows (shown m (state_of held []) told q) is) puts)
  where
    rows : (word : Option (ℕ → ℕ)) → IfSome word (λ w. (i : ℕ) → page_word held read o i ≡ w i) → IfSome (option_map (page_text p) word) (λ text. page_text p (slice_index words) ≡ text)
    rows None h = tt
    rows (Some w) h = texts-same _ _ 1024 (λ i l. ap (memory_row (1024 * p + i)) (inside i l ∙ h i))
