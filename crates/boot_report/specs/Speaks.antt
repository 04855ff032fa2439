-- What the scripts of a report print is what the abstract machine's text says, where the machine stands for its state.
use Rattle.std.specs.Prelude.{◌≡◌, ℕ, ◌*◌, ◌<◌, ◌≤◌, ◌==◌, Option, Some, List, length, slice_index}
use Rattle.mips_table.specs.Device.{Environment}
use Rattle.mips_table.specs.Machine.{State}
use Rattle.mips_machine.specs.Machine.{Held, state_of}
use Rattle.layer_map.specs.Map.{Map, MapInRange}
use Rattle.cvm_model.specs.Kernel.{Core}
use Rattle.cvm_model.specs.Primitives.{user_of}
use Rattle.cvm_model.specs.Cvm.{Status}
use Rattle.cvm_model.specs.Stands.{Site, RunningRelation, IsUser}
use Rattle.cvm_model.specs.Text.{user_text, users_text}
use Rattle.cvm_outside.specs.Script.{spoken}
use Rattle.boot_report.specs.Resident.{word_told}
use Rattle.boot_report.specs.Scripts.{user_script, users_script}
use Rattle.boot_report.specs.Told.{IsRunning}

-- of every machine that stands for a state the rows of all users
abbrev pub UsersSpeak : Type 0
UsersSpeak = (x : Environment) (y : Site) (held : Held) (ss : List (List ℕ)) (status : Status) (c : Core) (running : ℕ) →
    RunningRelation x y (state_of held ss) status c → IsRunning held ss c running →
    spoken (users_script y.map held (Some ss) running y.map.users) ≡ Some (users_text 1 c.users)

-- of every machine that stands for a state the rows of user u alone
abbrev pub UserSpeaks : Type 0
UserSpeaks = (x : Environment) (y : Site) (held : Held) (ss : List (List ℕ)) (status : Status) (c : Core) (running u : ℕ) →
    RunningRelation x y (state_of held ss) status c → IsRunning held ss c running → IsUser c u →
    spoken (user_script y.map held (Some ss) (u == running) u) ≡ Some (user_text u (user_of c.users u))

-- the words of user u
pub record ShowsWords (m : Map) (s : State) (told : Option (List (List ℕ))) (u : ℕ) (words : List ℕ) : Type 0 where
  pub room : length words ≤ 1024 * m.params.pages
  pub word : (k : ℕ) → k < length words → word_told m s told u k ≡ Some (slice_index words k)

-- of every machine that stands for a state
abbrev pub WordsShow : Type 0
WordsShow = (x : Environment) (y : Site) (held : Held) (ss : List (List ℕ)) (status : Status) (c : Core) (u : ℕ) →
    MapInRange y.map → RunningRelation x y (state_of held ss) status c → IsUser c u → ShowsWords y.map (state_of held ss) (Some ss) u (user_of c.users u).words
