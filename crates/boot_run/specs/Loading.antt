-- What a call of `load` writes: the linked words into memory, and the users' pages to their sectors.
use Rattle.std.specs.Prelude.{ℕ, ◌+◌, ◌*◌, List, Vec, [], ◌∷◌, ◌++◌, map, take, drop, length}
use Rattle.std.specs.List.{range_with_len}
use Rattle.page_model.specs.Paging.{Pages}
use Rattle.schedule_file.specs.Rows.{Rows, longest}
use Rattle.cvm_model.specs.Cvm.{System}
use Rattle.mips_table.specs.Encoding.{encoding}
use Rattle.mips_table.specs.declared.inst.Inst.TheVariants.{J}
use Rattle.mips_machine.specs.Machine.{Held, started}
use Rattle.layer_contract.specs.declared.boot.Boot.{Boot as Booted}
use Rattle.layer_contract.specs.Boots.{boot_of}
use Rattle.boot_run.specs.LoadedPages.{disk_pages}

-- the system of what is booted, under a schedule
abbrev pub system_of : Booted → Rows → System
system_of b rows = record { boot = boot_of b; input = rows.inputs; longest = longest rows }

-- of users with these vectors of words
abbrev pub pages_of_users : {A : Type 0} → ℕ → List (Vec ℕ A) → (behind : List ℕ) → Pages
pages_of_users per users behind = disk_pages per (map (λ words. words.items) users) behind

-- the words of a page
abbrev pub words_of_page : Pages → ℕ → List ℕ
words_of_page p q = map (p.word q) (range_with_len 0 1024)

-- a machine whose memory has these words from a place on, and else is as before
abbrev pub holding_words : Held → (at : ℕ) → List ℕ → Held
holding_words held at words =
    record held { hardware = record held.hardware { memory = take at held.hardware.memory ++ (words ++ drop (at + length words) held.hardware.memory) } }

-- the machine with a ROM of these words in the frame behind so many, and at word 0 the jump to it, at its start
abbrev pub with_rom : (frames : ℕ) → (rom : List ℕ) → Rows → Held
with_rom frames rom rows = holding_words (holding_words (started (frames + 1) rows) 0 (encoding (J (1024 * frames)) ∷ [])) (1024 * frames) rom
