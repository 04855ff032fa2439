-- A word of a user that is read: what the machine's pages show, where they are told; and the disk is as it was but for its counts.
use Rattle.std.proofs.Common.{◌≡◌, ℕ, suc, ◌-◌, ◌*◌, ◌%◌, ◌<◌, List, [], Option, Some, Result, ap, ◌∙◌, subst, arith}
use Rattle.std.specs.Prelude.{IfSome}
use Rattle.std.proofs.Math.Nat.{mul-le-mul_right}
use Rattle.cvm_outside.specs.Outside.{Outside, no_files, no_output, drive}
use Rattle.cvm_outside.specs.Script.{Asks, blame, of_disk}
use Rattle.cvm_outside.specs.declared.sectors.Sectors as sectors_of
use Rattle.cvm_outside.specs.declared.sectors.DiskFault.{DiskFault}
use Rattle.cvm_outside.proofs.RowsPut.{unwritten, same_size}
use Rattle.mips_table.specs.Machine.{State}
use Rattle.mips_machine.specs.Machine.{Held, state_of}
use Rattle.layer_map.specs.Map.{Map}
use Rattle.cvm_model.specs.Paged.{paged_of}
use Rattle.boot_report.specs.Resident.{page_of_word, word_reads, word_told}
use Rattle.boot_report.specs.Stand.{WordStands}
use Rattle.boot_report.specs.Texts.{EntriesFit}
use Rattle.boot_report.specs.Told.{user_word}
use Rattle.boot_report.proofs.PagesByLines.{reads_quiet}
use Rattle.boot_report.proofs.ReportScripts.{shown_is}

word_inside : (m : Map) (u k : ℕ) → WordStands m u k → page_of_word m u k < m.users * m.params.pages
word_inside m u k stands =
    let some = stands.some in
    let most = stands.most in
    let word = stands.word in
    let rows = mul-le-mul_right {m = suc (u - 1)} {n = m.users} m.params.pages (omega (arith, some, most)) in
    omega (arith, rows, word)

pub word_is : (m : Map) (held : Held) (told : Option (List (List ℕ))) (u k word : ℕ) → WordStands m u k → IfSome (word_told m (state_of held []) told u k) (λ v. word ≡ v) →
    (ss : List (List ℕ)) → told ≡ Some ss → EntriesFit m (state_of held ss) → word ≡ user_word m (paged_of m (state_of held ss)) u k
word_is m held told u k word stands shows ss e fit =
    subst (λ (o : Option ℕ). IfSome o (λ v. word ≡ v))
    (ap (λ (t : Option (List (List ℕ))). word_told m (state_of held []) t u k) e ∙ shown_is m held ss fit (λ word. word (k % 1024)) (page_of_word m u k) (word_inside m u k stands)) shows

module _ {D T : Type 0} (told : sectors_of.Ghosts D) (disk redisk : D) (r : Result T DiskFault) (m : Map) (s : State) (u k : ℕ) (asks : Asks told disk redisk (word_reads m s u k) r) where
  abbrev before : Outside
  before = record { shelf = no_files; sink = no_output; disk = drive told disk }

  abbrev after : Outside
  after = record { shelf = no_files; sink = no_output; disk = drive told redisk }

  pub still_told : told.sectors redisk ≡ told.sectors disk
  still_told = unwritten (word_reads m s u k) before after (blame of_disk r) (reads_quiet m s (page_of_word m u k)) (asks no_files no_output)

  pub as_large : told.size redisk ≡ told.size disk
  as_large = same_size (word_reads m s u k) before after (blame of_disk r) (asks no_files no_output)
