-- What the machine shows of the users is what the abstract machine has of them, where it stands for its state.
use Rattle.std.specs.Prelude.{◌≡◌, ℕ, ◌+◌, ◌-◌, ◌*◌, ◌%◌, ◌<◌, ◌≤◌, ◌==◌, true, false, List, length, slice_index}
use Rattle.mips_table.specs.Device.{Environment}
use Rattle.mips_machine.specs.Machine.{Held, state_of}
use Rattle.mips_table.specs.Machine.{State}
use Rattle.layer_map.specs.Map.{Map, MapInRange}
use Rattle.page_model.specs.Paging.{Paged, shown_word}
use Rattle.cvm_model.specs.Kernel.{Core}
use Rattle.cvm_model.specs.Primitives.{user_of, pages_of}
use Rattle.cvm_model.specs.Cvm.{Status}
use Rattle.cvm_model.specs.Paged.{paged_of}
use Rattle.cvm_model.specs.Stands.{Site, RunningRelation, IsUser, runs_user}
use Rattle.cvm_model.specs.Text.{log_text}
use Rattle.boot_report.specs.Resident.{page_of_word}
use Rattle.boot_report.specs.Texts.{log_rows, shown_cpu, pages_in, EntriesFit}

-- the user whom the machine runs has this number, and where it runs none the number is 0
pub record IsRunning (held : Held) (ss : List (List ℕ)) (c : Core) (running : ℕ) : Type 0 where
  pub one : runs_user (state_of held ss) ≡ true → running ≡ c.current
  pub none : runs_user (state_of held ss) ≡ false → running ≡ 0

-- the rows of the log, and the entries of the page tables
pub record RowsAreTold (m : Map) (held : Held) (ss : List (List ℕ)) (c : Core) : Type 0 where
  pub entries : EntriesFit m (state_of held ss)
  pub log : log_rows held.hardware.console.log ≡ log_text c.console.log

-- of every machine that stands for a state
abbrev pub RowsTell : Type 0
RowsTell = (x : Environment) (y : Site) (held : Held) (ss : List (List ℕ)) (status : Status) (c : Core) →
    RunningRelation x y (state_of held ss) status c → RowsAreTold y.map held ss c

-- the processor of user u, where one of all may run, its size in pages, and the words of these
pub record UserIsTold (m : Map) (held : Held) (ss : List (List ℕ)) (c : Core) (running u : ℕ) : Type 0 where
  pub cpu : shown_cpu held (u == running) u ≡ (user_of c.users u).cpu
  pub registers : length (user_of c.users u).cpu.regs ≡ 32
  pub pages : pages_in m held.hardware.memory u ≡ pages_of (user_of c.users u)
  pub most : pages_of (user_of c.users u) ≤ m.params.pages
  pub whole : length (user_of c.users u).words ≡ 1024 * pages_of (user_of c.users u)
  pub word : (p i : ℕ) → p < pages_of (user_of c.users u) → i < 1024 →
      shown_word (paged_of m (state_of held ss)) ((u - 1) * m.params.pages + p) i ≡ slice_index (user_of c.users u).words (1024 * p + i)

-- of every machine that stands for a state
abbrev pub UserTells : Type 0
UserTells = (x : Environment) (y : Site) (held : Held) (ss : List (List ℕ)) (status : Status) (c : Core) (running u : ℕ) →
    RunningRelation x y (state_of held ss) status c → IsRunning held ss c running → IsUser c u → UserIsTold y.map held ss c running u

-- word k of user u, as the machine shows it by pages
abbrev pub user_word : Map → Paged → (u k : ℕ) → ℕ
user_word m a u k = shown_word a (page_of_word m u k) (k % 1024)

-- the words of user u
pub record WordsAreTold (m : Map) (s : State) (u : ℕ) (words : List ℕ) : Type 0 where
  pub entries : EntriesFit m s
  pub room : length words ≤ 1024 * m.params.pages
  pub word : (k : ℕ) → k < length words → user_word m (paged_of m s) u k ≡ slice_index words k

-- of every machine that stands for a state
abbrev pub WordsTell : Type 0
WordsTell = (x : Environment) (y : Site) (held : Held) (ss : List (List ℕ)) (status : Status) (c : Core) (u : ℕ) →
    MapInRange y.map → RunningRelation x y (state_of held ss) status c → IsUser c u → WordsAreTold y.map (state_of held ss) u (user_of c.users u).words
