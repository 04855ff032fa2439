-- The end of a step, loads and stores, on lists as the machine has them and on functions as a run of code sees them.
use Rattle.std.proofs.Common.{◌≡◌, ℕ, zero, suc, ◌-◌, ◌^◌, ◌<◌, ◌≤◌, Bool, true, false, not, ◌&&◌, cond, nat_eq, nat_lt, List, ◌++◌, ◌∷◌, [], drop, length, refl, ap, ◌∙◌, arith}
use Rattle.std.specs.Prelude.{◌==◌, if◌then◌else◌}
use mathlib.Core.Path.{fun_ext}
use Rattle.std.proofs.lemmas.Bool.Decides.{nat_tests}
use Rattle.mips_table.specs.Processor.{Cpu}
use Rattle.mips_table.specs.Device.{Device, Pending, Idle, Reading, Writing, BUFFER, SECTOR, COMMAND, is_buffer, sector_of, settled}
use Rattle.mips_table.specs.Machine.{State}
use Rattle.mips_table.specs.Fits.{NamesSector}
use Rattle.mips_table.specs.Code.{Behind, CodeState, at_with, settling}
use Rattle.mips_table.specs.Simulation.{space, contents_of, sectors_of, behind_of}
use Rattle.mips_table.proofs.ReadableWords.{space_filled, space_read, sectors_set}

-- the end of a step
pub settles : (q : Pending) (n : ℕ) (c : Cpu) (special m b : List ℕ) (s k : ℕ) (t : List (List ℕ)) (log input : List ℕ) → length m < 2 ^ 26 → length b ≡ 1024 → NamesSector (length t) q
    → (let d : Device = record { buffer = b; sector = s; pending = q; commands = k; sectors = t } in at_with n (contents_of c special (space m (settled q d).buffer (settled q d).sector)) (behind_of (settled q d) log input))
    ≡ settling q n (contents_of c special (space m b s)) (record { pending = q; commands = k; sectors = sectors_of t; log = log; input = input })
settles Idle n c special m b s k t log input small size names = refl
settles (Reading zero i) n c special m b s k t log input small size names =
    ap (λ g. at_with n (contents_of c special g) (record { pending = Idle; commands = k; sectors = sectors_of t; log = log; input = input })) (space_filled m b (sector_of t i) s small)
settles (Reading (suc j) i) n c special m b s k t log input small size names = refl
settles (Writing zero i) n c special m b s k t log input small size names =
    ap (λ g. at_with n (contents_of c special (space m b s)) (record { pending = Idle; commands = k; sectors = g; log = log; input = input })) (sectors_set t i b names)
    ∙ ap (λ g. at_with n (contents_of c special (space m b s)) (record { pending = Idle; commands = k; sectors = λ h. if h == i then g else sectors_of t h; log = log; input = input })) (fun_ext (space_read m b s small size))
settles (Writing (suc j) i) n c special m b s k t log input small size names = refl

-- what is seen of a device after a write to a port, by the tests of the write
pub by_port : (F : Device → CodeState) (b1 b2 b3 b4 : Bool) (d begins fills names : Device) (starts writes : CodeState) → (b1 ≡ false → b2 ≡ true → F begins ≡ starts) → (b3 ≡ true → F fills ≡ writes) → (b4 ≡ true → F names ≡ writes)
    → F (if b1 then d else if b2 then begins else if b3 then fills else if b4 then names else d) ≡ (if b1 then F d else if b2 then starts else if b3 then writes else if b4 then writes else F d)
by_port F true b2 b3 b4 d begins fills names starts writes e1 e2 e3 = refl
by_port F false true b3 b4 d begins fills names starts writes e1 e2 e3 = e1 refl refl
by_port F false false true b4 d begins fills names starts writes e1 e2 e3 = e2 refl
by_port F false false false true d begins fills names starts writes e1 e2 e3 = e3 refl
by_port F false false false false d begins fills names starts writes e1 e2 e3 = refl

-- and of one in which a command begins
pub by_command : (F : Device → CodeState) (G : Behind → CodeState) (log input : List ℕ) (b1 b2 b3 : Bool) (d r v : Device) → F d ≡ G (behind_of d log input) → F r ≡ G (behind_of r log input) → F v ≡ G (behind_of v log input)
    → F (if not b1 then d else if b2 then r else if b3 then v else d) ≡ G (if not b1 then behind_of d log input else if b2 then behind_of r log input else if b3 then behind_of v log input else behind_of d log input)
by_command F G log input false b2 b3 d r v e1 e2 e3 = e1
by_command F G log input true true b3 d r v e1 e2 e3 = e2
by_command F G log input true false true d r v e1 e2 e3 = e3
by_command F G log input true false false d r v e1 e2 e3 = e1

-- what a port gives that is none of the console
pub same_port : (busy : Bool) (m b : ℕ → ℕ) (len sector k : ℕ) → len ≤ k
    → cond (nat_eq k COMMAND) (cond busy 1 0) (cond (is_buffer k) (cond busy 0 (b (k - BUFFER))) (cond (nat_eq k SECTOR) sector 0))
    ≡ (let all = cond (nat_lt k len) (m k) (cond (is_buffer k) (b (k - BUFFER)) (cond (nat_eq k SECTOR) sector 0)) in cond (nat_eq k COMMAND) (cond busy 1 0) (cond (is_buffer k && busy) 0 all))
same_port true m b len sector k e = grind (arith, nat_tests)
same_port false m b len sector k e = grind (arith, nat_tests)

-- the input that a load leaves, by the tests of the load
abbrev pub input_left : Bool → Bool → List ℕ → List ℕ
input_left inside is_input input = if inside then input else if is_input then drop 1 input else input

pub input_of_state : (s : State) (a b : Bool) → (if a then s else if b then record s { input = drop 1 s.input } else s) ≡ record s { input = input_left a b s.input }
input_of_state s true b = refl
input_of_state s false true = refl
input_of_state s false false = refl

pub input_behind : (d : Behind) (a b : Bool) → (if a then d else if b then record d { input = drop 1 d.input } else d) ≡ record d { input = input_left a b d.input }
input_behind d true b = refl
input_behind d false true = refl
input_behind d false false = refl

-- the log that a store to it leaves, by the test of its room
abbrev pub log_left : Bool → List ℕ → ℕ → List ℕ
log_left has_room log value = if has_room then log ++ value ∷ [] else log

pub log_of_state : (s : State) (a : Bool) (v : ℕ) → (if a then record s { log = s.log ++ v ∷ [] } else s) ≡ record s { log = log_left a s.log v }
log_of_state s true v = refl
log_of_state s false v = refl

pub log_behind : (d : Behind) (a : Bool) (v : ℕ) → (if a then record d { log = d.log ++ v ∷ [] } else d) ≡ record d { log = log_left a d.log v }
log_behind d true v = refl
log_behind d false v = refl
