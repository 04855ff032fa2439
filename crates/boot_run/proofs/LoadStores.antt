-- What the script of a load leaves on the disk: the sectors of the start.
use Rattle.std.specs.Prelude.{nat_lt, slice_index, slice_set, not, ◌&&◌, if◌then◌else◌}
use Rattle.std.specs.Option.{option_map}
use Rattle.std.specs.List.{range_with_len}
use Rattle.std.proofs.Common.{◌≡◌, ℕ, zero, suc, ◌+◌, ◌-◌, ◌*◌, ◌/◌, ◌<◌, ◌≤◌, Bool, true, false, cond, List, [], ◌∷◌, ◌++◌, map, length, Ok, refl, sym, ap, ap₂, ◌∙◌, ⊎_elim, arith, lt-ltb, le-ltb}
use Rattle.std.proofs.Math.Nat.{le-div_iff_mul-le}
use Rattle.std.proofs.lemmas.Bool.{cases_lt, cond-true, cond-false}
use Rattle.cvm_outside.specs.Outside.{Outside, no_files, no_output, drive}
use Rattle.cvm_outside.specs.declared.sectors.Sectors as sectors_of
use Rattle.cvm_outside.specs.Script.{Call, Printed, Read, Wrote, Got, Stored, scripts, sectors_after}
use Rattle.cvm_outside.proofs.WhoseFaultsRise.{store}
use Rattle.cvm_outside.proofs.RowsPut.{scripts-none, scripts-suc}
use Rattle.mips_table.specs.Device.{sector_of}
use Rattle.page_model.specs.Paging.{Pages}
use Rattle.cvm_model.specs.Cvm.{System}
use Rattle.layer_contract.specs.Follows.{loaded, loaded_sector}
use Rattle.boot_turns.specs.Rom.{filled_page, rom_loaded, rom_sector, rom_sectors}
use Rattle.boot_run.specs.Loading.{words_of_page}
use Rattle.boot_run.specs.LoadedPages.{disk_pages, first_pages, rom_pages, user_pages}
use Rattle.boot_run.specs.LoadScript.{load_script, page_write_script}
use Rattle.boot_run.specs.RunCalls.{LoadCalls}
use Rattle.boot_run.proofs.PagesWritten.{page_or, pages_written, with_page, written_is}
use Rattle.boot_run.proofs.PagesAtStart.{dead_past}

-- SCRIPTS one after another
pub stored-append : (a b : List Call) (ss : List (List ℕ)) → sectors_after (a ++ b) ss ≡ sectors_after b (sectors_after a ss)
stored-append [] b ss = refl
stored-append (Printed t ∷ a) b ss = stored-append a b ss
stored-append (Read q ∷ a) b ss = stored-append a b ss
stored-append (Wrote q ws ∷ a) b ss = stored-append a b (slice_set ss q ws)
stored-append (Got n ∷ a) b ss = stored-append a b ss
stored-append (Stored n bs ∷ a) b ss = stored-append a b ss

-- THE PAGES that a load writes
page_stores : (p : Pages) (q : ℕ) (ss : List (List ℕ)) → sectors_after (page_write_script p q) ss ≡ with_page p ss q
page_stores p q ss = by (p.live q)
  where
    by : (b : Bool) → sectors_after (if b then Wrote q (words_of_page p q) ∷ [] else []) ss ≡ (if b then slice_set ss q (words_of_page p q) else ss)
    by true = refl
    by false = refl

load_stores : (p : Pages) (n : ℕ) (ss : List (List ℕ)) → sectors_after (load_script p n) ss ≡ pages_written p n ss
load_stores p zero ss = ap (λ (l : List Call). sectors_after l ss) (scripts-none (page_write_script p))
load_stores p (suc n) ss =
    ap (λ (l : List Call). sectors_after l ss) (scripts-suc (page_write_script p) n) ∙ stored-append (scripts (page_write_script p) n) (page_write_script p n) ss
    ∙ ap (sectors_after (page_write_script p n)) (load_stores p n ss) ∙ page_stores p n (pages_written p n ss)

-- A LOAD that is done: the sectors are those that its script leaves
module _ {D : Type 0} (told : sectors_of.Ghosts D) (d d1 : D) (script : List Call) where
  abbrev seen : D → Outside
  seen disk = record { shelf = no_files; sink = no_output; disk = drive told disk }

  pub load_leaves : {T : Type 0} {r : T} → LoadCalls {T = T} told d d1 script (Ok r) → told.sectors d1 ≡ option_map (sectors_after script) (told.sectors d)
  load_leaves calls = store script (seen d) (seen d1) (calls.made refl no_files no_output)

-- THE SECTORS OF THE START, of a system whose users have pages
module _ (y : System) (some : 1 ≤ y.boot.params.pages) where
  abbrev per : ℕ
  per = y.boot.params.pages

  abbrev users : List (List ℕ)
  users = y.boot.users

  abbrev first : ℕ
  first = length users * per

  abbrev many : ℕ
  many = rom_sectors y

  -- no number behind the users' pages is one of a user
  dead : (q : ℕ) → first ≤ q → (first_pages per users).live q ≡ false
  dead q h =
      let up : length users ≤ q / per = (le-div_iff_mul-le {k = per} {x = length users} {y = q} some).1 h in
      dead_past per users q up

  -- what a sector holds once it is written, by whether it is a user's
  abbrev page_if : List ℕ → List (List ℕ) → ℕ → Bool → List ℕ
  page_if behind old q below =
      cond (cond below ((first_pages per users).live q) (nat_lt (1024 * (q - first)) (length behind)))
      (map (λ i. cond below ((first_pages per users).word q i) (slice_index behind (1024 * (q - first) + i))) (range_with_len 0 1024))
      (sector_of old q)

  page_below : (behind : List ℕ) (old : List (List ℕ)) (q : ℕ) → q < first → page_or (disk_pages per users behind) old q ≡ loaded_sector y old q
  page_below behind old q lt = ap (page_if behind old q) (lt-ltb q first lt)

  page_behind : (behind : List ℕ) (old : List (List ℕ)) (q : ℕ) → first ≤ q → page_or (disk_pages per users behind) old q ≡ page_if behind old q false
  page_behind behind old q ge = ap (page_if behind old q) (le-ltb q first ge)

  kept_behind : (old : List (List ℕ)) (q : ℕ) → first ≤ q → sector_of old q ≡ loaded_sector y old q
  kept_behind old q ge = sym (cond-false ((first_pages per users).live q) _ _ (dead q ge))

  pub loaded_are : (old : List (List ℕ)) → first ≤ length old → sectors_after (load_script (user_pages y) first) old ≡ (loaded y old).device.sectors
  loaded_are old le = load_stores (user_pages y) first old ∙ written_is (user_pages y) first old (loaded_sector y old) le (λ q lt. page_below [] old q lt) (λ q ge. kept_behind old q ge)

  -- a sector of the disk with a ROM's words, by whether its number is below these, and below all
  abbrev sector_if : List (List ℕ) → ℕ → Bool → Bool → List ℕ
  sector_if old q low all = cond (not low && all) (filled_page y.boot.words (q - first)) (loaded_sector y old q)

  of_user : (old : List (List ℕ)) (q : ℕ) → q < first → loaded_sector y old q ≡ rom_sector y old q
  of_user old q lt = sym (ap (λ low. sector_if old q low (nat_lt q many)) (lt-ltb q first lt))

  of_words : (old : List (List ℕ)) (q : ℕ) → first ≤ q → q < many → page_if y.boot.words old q false ≡ rom_sector y old q
  of_words old q ge lt =
      let in_words : 1024 * (q - first) < length y.boot.words = omega (arith, ge, lt) in
      cond-true (nat_lt (1024 * (q - first)) (length y.boot.words)) _ _ (lt-ltb (1024 * (q - first)) (length y.boot.words) in_words)
      ∙ sym (ap₂ (λ low all. sector_if old q low all) (le-ltb q first ge) (lt-ltb q many lt))

  of_disk : (old : List (List ℕ)) (q : ℕ) → many ≤ q → sector_of old q ≡ rom_sector y old q
  of_disk old q ge =
      let above : first ≤ q = omega (arith, ge) in
      kept_behind old q above ∙ sym (ap₂ (λ low all. sector_if old q low all) (le-ltb q first above) (le-ltb q many ge))

  pub rom_are : (rom : List ℕ) (old : List (List ℕ)) → many ≤ length old → sectors_after (load_script (rom_pages y) many) old ≡ (rom_loaded y rom old).device.sectors
  rom_are rom old le = load_stores (rom_pages y) many old ∙ written_is (rom_pages y) many old (rom_sector y old) le
      (λ q lt. ⊎_elim
      (λ (l : q < first). page_below y.boot.words old q l ∙ of_user old q l)
      (λ (ge : first ≤ q). page_behind y.boot.words old q ge ∙ of_words old q ge lt)
      (cases_lt q first))
      (λ q ge. of_disk old q ge)
