-- WHERE NO CALL FAILS: a file that the shelf surely gives is got. And the files that a command gets, with the one that it may put.
-- That an object counted no fault is said as "not one more": a command counts one at most.
use Rattle.std.specs.Prelude.{◌≡◌, ◌⊎◌, ℕ, ⊤, Bool, true, List, [], ◌∷◌, map, Option, Some, None}
use Rattle.run_scripts.specs.Command.{Command, boot, trace, save, resume, compile_user, compile_kernel}
use Rattle.run_scripts.specs.Command.{compile_program, link, migrate, sample, check, IsCommand}
use Rattle.cvm_outside.specs.Script.{Call, Got}
use Rattle.cvm_outside.specs.Causes.{NoneCounted}
use Rattle.cvm_outside.specs.Outside.{Outside}

-- THE FILES that a command gets, in order
abbrev pub files_of : Command → List (List ℕ)
files_of (boot b) = b.image ∷ b.schedule ∷ []
files_of (trace t) = t.boot.image ∷ t.boot.schedule ∷ []
files_of (save c) = c.boot.image ∷ c.boot.schedule ∷ []
files_of (resume c) = c.boot.image ∷ c.boot.schedule ∷ c.file ∷ []
files_of (compile_user c) = c.text ∷ []
files_of (compile_kernel c) = c.source ∷ []
files_of (compile_program c) = c.source ∷ []
files_of (link l) = l.object ∷ l.params ∷ l.users
files_of (migrate m) = m.old ∷ []
files_of (sample x) = []
files_of (check c) = c.object ∷ []

abbrev pub gets : List (List ℕ) → List Call
gets names = map Got names

-- the file that a command may put
abbrev pub file_put : Command → Option (List ℕ)
file_put (save c) = Some c.file
file_put (compile_user c) = Some c.image
file_put (compile_kernel c) = Some c.object
file_put (compile_program c) = Some c.image
file_put (link l) = Some l.image
file_put (migrate m) = Some m.image
file_put other = None

-- the shelf surely gives these files
abbrev pub AreSurelyGiven : (gives : List ℕ → Bool) → List (List ℕ) → Type 0
AreSurelyGiven gives [] = ⊤
AreSurelyGiven gives (name ∷ rest) = (gives name ≡ true) × AreSurelyGiven gives rest

-- NO CALL FAILED: neither shelf nor sink nor disk counted one fault more
pub record Unfailed (old new : Outside) : Type 0 where
  pub shelf : NoneCounted old.shelf.faults new.shelf.faults
  pub sink : NoneCounted old.sink.faults new.sink.faults
  pub disk : NoneCounted old.disk.faults new.disk.faults

-- NO CALL FAILS of a command that gets these files and puts none: the shelf surely gives them, or counted no fault more; nor did sink and disk
pub record NoCallFails (names : List (List ℕ)) (old new : Outside) : Type 0 where
  pub shelf : AreSurelyGiven old.shelf.gives names ⊎ NoneCounted old.shelf.faults new.shelf.faults
  pub sink : NoneCounted old.sink.faults new.sink.faults
  pub disk : NoneCounted old.disk.faults new.disk.faults

-- the shelf surely gives the files that a command gets, which puts none; or it counted no fault more
abbrev pub ShelfServes : Command → (old new : Outside) → Type 0
ShelfServes c old new = (AreSurelyGiven old.shelf.gives (files_of c) × (file_put c ≡ None)) ⊎ NoneCounted old.shelf.faults new.shelf.faults

-- so it is of the command that the words are
abbrev pub ServesWords : List (List ℕ) → (old new : Outside) → Type 0
ServesWords words old new = (c : Command) → IsCommand words c → ShelfServes c old new

-- NO CALL FAILED of the command that the words are: the shelf serves it, and neither sink nor disk counted one fault more
pub record NoneFailed (words : List (List ℕ)) (old new : Outside) : Type 0 where
  pub shelf : ServesWords words old new
  pub sink : NoneCounted old.sink.faults new.sink.faults
  pub disk : NoneCounted old.disk.faults new.disk.faults
