-- What a journal's changes hold: a register is set to a word.
use Rattle.std.specs.Prelude.{◌≡◌, ℕ, ◌≤◌, ◌^◌, Bool, true, nat_lt, length, IsTrue}
use Rattle.std.specs.List.{list_all}
use Rattle.c0_tree.specs.Tree.{CUnit}
use Rattle.c0_meaning.specs.Unit.{IsChecked}
use Rattle.cvm_model.specs.Kernel.{JournalEntry, Set}
use Rattle.cvm_model.specs.KernelMeaning.{kernel_meaning}
use Rattle.cvm_model.specs.Cvm.{System}
use Rattle.cvm_model.specs.Invariant.{HasRoom}
use Rattle.cvm_model.specs.Journal.{journal}

-- whether what an entry sets is a word
abbrev pub holds_word : JournalEntry → Bool
holds_word (Set register value) = nat_lt value (2 ^ 32)
holds_word other = true

-- a system whose kernel is a checked unit, with parameters in range, few users, and room for users and input: so is each that is booted
pub record IsOrdinary (y : System) (u : CUnit) : Type 0 where
  pub meaning : y.boot.meaning ≡ kernel_meaning u y.boot.params
  pub checked : IsChecked u
  pub pages : y.boot.params.pages ≤ 1024
  pub few : length y.boot.users ≤ 64
  pub room : HasRoom y

-- A LAW: in each user's journal registers are set to words alone
abbrev pub JournalsHoldWords : Type 0
JournalsHoldWords = (y : System) (u : CUnit) → IsOrdinary y u → (lines : ℕ → ℕ) (n k user : ℕ) → IsTrue (list_all holds_word (journal y lines n user k))
