-- What the files of a save and of a resume come to, by what those of their boot come to: one plan, and no other.
use Rattle.std.proofs.Common.{◌≡◌, ◌≢◌, Bool, true, false, ℕ, ◌*◌, ◌<◌, ◌≤◌, List, refl, sym, ap, ◌∙◌, subst, arith, Ok, Err}
use Rattle.std.specs.Prelude.{Option, ⊤, nat_lt, if◌then◌else◌}
use Rattle.std.proofs.lemmas.Bool.Decides.{nat_tests}
use Rattle.layer_map.specs.Map.{Map}
use Rattle.saved_file.specs.declared.fault.SaveFault.{SaveFault}
use Rattle.saved_file.specs.declared.fault.SaveFault.TheVariants as saving
use Rattle.machine_save.specs.Room.{Filled, IsRoom}
use Rattle.boot_run.specs.SaveRoom.{most_words, FILE_ROOM}
use Rattle.schedule_file.specs.Rows.{Rows}
use Rattle.kernel_linker.specs.Accept.{ImageSystem}
use Rattle.run_scripts.specs.declared.session.Session.{Session}
use Rattle.cvm_shell.specs.declared.boot.Stop.{Stop}
use Rattle.cvm_shell.specs.declared.boot.Stop.TheVariants.{Refused, Shelf, Memory}
use Rattle.cvm_shell.specs.declared.refusal.Refusal.{Refusal as ByCode}
use Rattle.cvm_shell.specs.declared.refusal.Refusal.TheVariants as by
use Rattle.run_scripts.specs.Command.{Save, save, save_session}
use Rattle.run_scripts.specs.Refusal.{bad_save}
use Rattle.run_scripts.proofs.PlansAreAsked.{short_plan}
use Rattle.run_scripts.specs.Plan.{Plan, refuses, boots, saves, frames_of, most_bytes, saved_plan, take_up_plan, AfterFiles, AfterThree, IsPlan}
use Rattle.cvm_shell.specs.Stages.{save_stop, HasNoSaveRoom, IsBootPlan, FilesPlan}
use Rattle.cvm_shell.specs.Views.{refusal_view, IfRefused}

abbrev Layers : Type 0
Layers = Map → List ℕ → List ℕ

abbrev Told : Type 0
Told = List ℕ → Option (List ℕ)

-- A SAVE
pub saved_comes : (layer : Layers) (file : Told) (c : Save) (q : Plan) → IsBootPlan layer file c.boot (save_session c) q → FilesPlan layer file (save c) (saved_plan c.file q)
saved_comes layer file c q is = record { comes = (q, is.comes, refl); only = λ told p other. other.2 ∙ ap (saved_plan c.file) (is.only told other.0 other.1) }

-- what stops its boot stops it
pub save_stopped : (layer : Layers) (file : Told) (c : Save) (s : Stop) → IfRefused (IsBootPlan layer file c.boot (save_session c)) s → IfRefused (FilesPlan layer file (save c)) s
save_stopped layer file c (Refused r) h = saved_comes layer file c (refuses (refusal_view r)) h
save_stopped layer file c Shelf h = tt
save_stopped layer file c Memory h = tt

below : (n m : ℕ) → n < m → nat_lt n m ≡ true
below n m h = grind (arith, nat_tests)

chosen_first : (b : Bool) (p q : Plan) → b ≡ true → (if b then p else q) ≡ p
chosen_first true p q e = refl
chosen_first false p q e = absurd cc

-- there is room
pub save_short : (layer : Layers) (file : Told) (c : Save) (s : ImageSystem) (rows : Rows) → IsBootPlan layer file c.boot (save_session c) (boots (save_session c) s rows) → most_bytes s ≤ FILE_ROOM
    → FilesPlan layer file (save c) (saves (save_session c) s rows c.file)
save_short layer file c s rows is few =
    subst (FilesPlan layer file (save c)) (short_plan (save_session c) s rows c.file few)
    (saved_comes layer file c (boots (save_session c) s rows) is)

-- there is none
pub save_no_room : (layer : Layers) (file : Told) (c : Save) (s : ImageSystem) (rows : Rows) (t : Stop) → IsBootPlan layer file c.boot (save_session c) (boots (save_session c) s rows) → HasNoSaveRoom s t
    → IfRefused (FilesPlan layer file (save c)) t
save_no_room layer file c s rows (Refused r) is (e, many) =
    subst (λ (x : ByCode). FilesPlan layer file (save c) (refuses (refusal_view x))) (sym e)
    (subst (FilesPlan layer file (save c)) (chosen_first (nat_lt FILE_ROOM (most_bytes s)) (refuses (bad_save (saving.SaveTooLarge (most_bytes s)))) (saves (save_session c) s rows c.file) (below FILE_ROOM (most_bytes s) many))
    (saved_comes layer file c (boots (save_session c) s rows) is))
save_no_room layer file c s rows Shelf is h = absurd h
save_no_room layer file c s rows Memory is h = tt

-- A RESUME

-- what comes after its files is what comes after those of its boot
pub three_come : (layer : Layers) (session : Session) (image schedule bytes : List ℕ) (q : Plan) → IsPlan ⊤ (AfterFiles layer session image schedule) q
    → IsPlan ⊤ (AfterThree layer session image schedule bytes) (take_up_plan bytes q)
three_come layer session image schedule bytes q is =
    record { comes = (q, is.comes, refl); only = λ told p other. other.2 ∙ ap (take_up_plan bytes) (is.only told other.0 other.1) }

-- what stops its boot there stops it
pub three_stopped : (layer : Layers) (session : Session) (image schedule bytes : List ℕ) (t : Stop) → IfRefused (IsPlan ⊤ (AfterFiles layer session image schedule)) t
    → IfRefused (IsPlan ⊤ (AfterThree layer session image schedule bytes)) t
three_stopped layer session image schedule bytes (Refused r) h = three_come layer session image schedule bytes (refuses (refusal_view r)) h
three_stopped layer session image schedule bytes Shelf h = tt
three_stopped layer session image schedule bytes Memory h = tt

-- no room for a machine of so many frames
pub room_fault : (frames : ℕ) (s : ImageSystem) (f : SaveFault) → frames ≡ frames_of s → IsRoom frames (Err f) → HasNoSaveRoom s (save_stop f)
room_fault frames s (saving.SaveTooLarge bytes) e (is, many) =
    let same : bytes ≡ most_bytes s = is ∙ ap (λ (n : ℕ). 4 * most_words n) e in
    (ap (λ (n : ℕ). by.BadSave (saving.SaveTooLarge n)) same, subst (λ (n : ℕ). FILE_ROOM < n) same many)
room_fault frames s saving.Memory e h = tt
room_fault frames s saving.Magic e h = absurd h
room_fault frames s (saving.Truncated at) e h = absurd h
room_fault frames s (saving.Trailing at) e h = absurd h
room_fault frames s (saving.Field place value) e h = absurd h
room_fault frames s (saving.ForgedWord place stored made) e h = absurd h
room_fault frames s (saving.SizeTooLarge user pages) e h = absurd h
room_fault frames s (saving.TurnsDone done wanted) e h = absurd h

-- there is room for one
pub room_short : (frames : ℕ) (s : ImageSystem) (room : Filled) → frames ≡ frames_of s → IsRoom frames (Ok room) → most_bytes s ≤ FILE_ROOM
room_short frames s room e (few, words, file) = subst (λ (n : ℕ). 4 * most_words n ≤ FILE_ROOM) e few

pub room_words : (frames : ℕ) (s : ImageSystem) (room : Filled) → frames ≡ frames_of s → IsRoom frames (Ok room) → room.words ≡ most_words (frames_of s)
room_words frames s room e (few, words, file) = words ∙ ap most_words e

-- want of room is no fault of the shelf, and no file is too long
pub no_room_stops : (s : ImageSystem) (stop : Stop) → HasNoSaveRoom s stop → (stop ≢ Shelf) × (stop ≢ Refused by.TooLong)
no_room_stops s (Refused r) h = (λ e. cc, λ e. let d = h.0 in cc)
no_room_stops s Shelf h = absurd h
no_room_stops s Memory h = (λ e. cc, λ e. cc)
