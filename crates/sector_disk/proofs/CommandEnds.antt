-- The end of a step, by the command that was under way: which sectors the disk is said to have had.
use Rattle.std.proofs.Common.{◌≡◌, ℕ, zero, suc, ◌-◌, ◌<◌, false, subst, sub-one, List, [], length, get_or, set, replicate, refl, sym, ap, ◌∙◌, arith, get_or-set_same, Some, None}
use Rattle.std.specs.Prelude.{Option, IfSome, Result, Ok, Err, OnOk}
use Rattle.std.proofs.lemmas.List.{length-replicate, length-set}
use Rattle.cvm_outside.specs.Told.{Tells, told_sector, with_sector}
use Rattle.mips_table.specs.Device.{Pending, Idle, Reading, Writing, is_busy, disk_counted}
use Rattle.mips_table.specs.Fits.{NamesSector}
use Rattle.sector_disk.specs.Ports.{Ports, device_of, EndsStep, transfer_script}

-- where no sector moves, any sectors will do
pub nothing_moves : (size : ℕ) (old new : Ports) (buffer after : List ℕ) (told retold : Option (List (List ℕ))) → IfSome told (λ ss. length ss ≡ size) → ((sectors : List (List ℕ)) → disk_counted (device_of old buffer sectors) ≡ device_of new after sectors) → retold ≡ told → EndsStep size old new buffer after told retold
nothing_moves size old new buffer after None retold sized counts same =
    let e = counts (replicate size []) in
    record { sectors = replicate size []; many = length-replicate size []; given = tt; device = rw e refl; left = same }
nothing_moves size old new buffer after (Some ss) retold sized counts same =
    let e = counts ss in
    record { sectors = ss; many = sized; given = refl; device = rw e refl; left = rw e same }

-- no command is under way
pub idle_stays : (size : ℕ) (old : Ports) (buffer : List ℕ) (told : Option (List (List ℕ))) → IfSome told (λ ss. length ss ≡ size) → old.pending ≡ Idle → EndsStep size old old buffer buffer told told
idle_stays size old buffer told sized e = nothing_moves size old old buffer buffer told told sized (λ sectors. rw e refl) refl

-- a command with nothing that makes it busy is none
pub not_busy : (p : Pending) → is_busy p ≡ false → p ≡ Idle
not_busy Idle e = refl
not_busy (Reading left sector) e = cc
not_busy (Writing left sector) e = cc

-- a read that is not due
pub reading_later : (size : ℕ) (old new : Ports) (left sector : ℕ) (buffer : List ℕ) (told : Option (List (List ℕ))) → IfSome told (λ ss. length ss ≡ size) → 0 < left → old.pending ≡ Reading left sector → new ≡ record { sector = old.sector; pending = Reading (left - 1) sector; commands = old.commands } → EndsStep size old new buffer buffer told told
reading_later size old new zero sector buffer told sized low e f = absurd (omega arith)
reading_later size old new (suc left) sector buffer told sized low e f =
    nothing_moves size old new buffer buffer told told sized (λ sectors. rw (e, f) (rw sub-one refl)) refl

-- a write that is not due
pub writing_later : (size : ℕ) (old new : Ports) (left sector : ℕ) (buffer : List ℕ) (told : Option (List (List ℕ))) → IfSome told (λ ss. length ss ≡ size) → 0 < left → old.pending ≡ Writing left sector → new ≡ record { sector = old.sector; pending = Writing (left - 1) sector; commands = old.commands } → EndsStep size old new buffer buffer told told
writing_later size old new zero sector buffer told sized low e f = absurd (omega arith)
writing_later size old new (suc left) sector buffer told sized low e f =
    nothing_moves size old new buffer buffer told told sized (λ sectors. rw (e, f) (rw sub-one refl)) refl

-- a sector that was read: where none is told, one with the words that came
pub sector_is_read : (size register sector commands : ℕ) (buffer after : List ℕ) (told retold : Option (List (List ℕ))) → sector < size → IfSome told (λ ss. length ss ≡ size) → Tells (told_sector told sector) after → retold ≡ told → EndsStep size (record { sector = register; pending = Reading 0 sector; commands = commands }) (record { sector = register; pending = Idle; commands = commands }) buffer after told retold
sector_is_read size register sector commands buffer after None retold low sized tells same =
    let some : List (List ℕ) = replicate size [] in
    let e : get_or (set some sector after) sector [] ≡ after = get_or-set_same some sector after [] (rw length-replicate low) in
    record { sectors = set some sector after; many = rw (length-set, length-replicate) refl; given = tt; device = ap (λ (words : List ℕ). device_of (record { sector = register; pending = Idle; commands = commands }) words (set some sector after)) (sym e); left = same }
sector_is_read size register sector commands buffer after (Some ss) retold low sized tells same =
    record { sectors = ss; many = sized; given = refl; device = ap (λ (words : List ℕ). device_of (record { sector = register; pending = Idle; commands = commands }) words ss) tells; left = same }

-- a sector that was written
pub sector_is_written : (size register sector commands : ℕ) (buffer : List ℕ) (told retold : Option (List (List ℕ))) → IfSome told (λ ss. length ss ≡ size) → retold ≡ with_sector told sector buffer → EndsStep size (record { sector = register; pending = Writing 0 sector; commands = commands }) (record { sector = register; pending = Idle; commands = commands }) buffer buffer told retold
sector_is_written size register sector commands buffer None retold sized written =
    record { sectors = replicate size []; many = length-replicate size []; given = tt; device = refl; left = written }
sector_is_written size register sector commands buffer (Some ss) retold sized written =
    record { sectors = ss; many = sized; given = refl; device = refl; left = written }

-- the ports before a transfer, by the command that is under way
before : (old : Ports) (p : Pending) → old.pending ≡ p → old ≡ record { sector = old.sector; pending = p; commands = old.commands }
before old p e = ap (λ (q : Pending). let r : Ports = record { sector = old.sector; pending = q; commands = old.commands } in r) e

-- a read that is due
pub reading_now : {E : Type 0} (result : Result (Unit {0}) E) (size : ℕ) (old new : Ports) (left sector : ℕ) (buffer after : List ℕ) (told retold : Option (List (List ℕ))) → IfSome told (λ ss. length ss ≡ size) → NamesSector size old.pending → left ≡ 0 → old.pending ≡ Reading left sector → new ≡ record { sector = old.sector; pending = Idle; commands = old.commands } → OnOk result (Tells (told_sector told sector) after) → retold ≡ told → OnOk result (EndsStep size old new buffer after told retold)
reading_now (Err fault) size old new left sector buffer after told retold sized named due e f tells same = tt
reading_now (Ok done) size old new left sector buffer after told retold sized named due e f tells same =
    let low : sector < size = subst (NamesSector size) e named in
    let a = sector_is_read size old.sector sector old.commands buffer after told retold low sized tells same in
    let P : Ports → Type 0 = λ p. EndsStep size p new buffer after told retold in
    let Q : Ports → Type 0 = λ p. EndsStep size (record { sector = old.sector; pending = Reading 0 sector; commands = old.commands }) p buffer after told retold in
    subst P (sym (before old (Reading 0 sector) (e ∙ ap (λ (n : ℕ). Reading n sector) due))) (subst Q (sym f) a)

-- a write that is due
pub writing_now : {E : Type 0} (result : Result (Unit {0}) E) (size : ℕ) (old new : Ports) (left sector : ℕ) (buffer : List ℕ) (told retold : Option (List (List ℕ))) → IfSome told (λ ss. length ss ≡ size) → left ≡ 0 → old.pending ≡ Writing left sector → new ≡ record { sector = old.sector; pending = Idle; commands = old.commands } → OnOk result (retold ≡ with_sector told sector buffer) → OnOk result (EndsStep size old new buffer buffer told retold)
writing_now (Err fault) size old new left sector buffer told retold sized due e f written = tt
writing_now (Ok done) size old new left sector buffer told retold sized due e f written =
    let a = sector_is_written size old.sector sector old.commands buffer told retold sized written in
    let P : Ports → Type 0 = λ p. EndsStep size p new buffer buffer told retold in
    let Q : Ports → Type 0 = λ p. EndsStep size (record { sector = old.sector; pending = Writing 0 sector; commands = old.commands }) p buffer buffer told retold in
    subst P (sym (before old (Writing 0 sector) (e ∙ ap (λ (n : ℕ). Writing n sector) due))) (subst Q (sym f) a)

-- a transfer that isn't due calls nothing
pub no_read : (left sector : ℕ) (buffer : List ℕ) → 0 < left → transfer_script (Reading left sector) buffer ≡ []
no_read zero sector buffer some = absurd (omega (arith, some))
no_read (suc left) sector buffer some = refl

pub no_write : (left sector : ℕ) (buffer : List ℕ) → 0 < left → transfer_script (Writing left sector) buffer ≡ []
no_write zero sector buffer some = absurd (omega (arith, some))
no_write (suc left) sector buffer some = refl
