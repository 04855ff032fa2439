-- Which pages of users are read from the disk: those that are in no frame; and what each shows.
use Rattle.std.specs.Prelude.{ℕ, ◌+◌, ◌-◌, ◌*◌, ◌/◌, ◌%◌, ◌==◌, ◌&&◌, nat_lt, if◌then◌else◌, Bool, List, [], ◌∷◌, Option, Some, slice_index, slice_index_or}
use Rattle.std.specs.Option.{option_map}
use Rattle.mips_table.specs.Machine.{State}
use Rattle.mips_table.specs.declared.special.TheConstants.{IS_VALID}
use Rattle.layer_map.specs.Map.{Map, memory_frames}
use Rattle.cvm_model.specs.Paged.{paged_of}
use Rattle.cvm_outside.specs.Script.{Call, Read}

-- the entry of page q of all
abbrev pub page_entry : Map → State → (q : ℕ) → ℕ
page_entry m s q = (paged_of m s).entry q

-- it is in a frame of the memory
abbrev pub is_resident : Map → State → (q : ℕ) → Bool
is_resident m s q = page_entry m s q / IS_VALID % 2 == 1 && nat_lt (page_entry m s q / 4096) (memory_frames m)

-- its words, by their numbers: those of its frame, or where it is in none of its sector, if that is told
abbrev pub shown : Map → State → (told : Option (List (List ℕ))) → (q : ℕ) → Option (ℕ → ℕ)
shown m s told q =
    if is_resident m s q then Some (λ i. slice_index s.memory (1024 * (page_entry m s q / 4096) + i))
    else option_map (λ ss i. slice_index (slice_index_or ss q []) i) told

-- the script of reading it
abbrev pub page_reads : Map → State → (q : ℕ) → List Call
page_reads m s q = if is_resident m s q then [] else Read q ∷ []

-- the page of word k of user u, by its number of all
abbrev pub page_of_word : Map → (u k : ℕ) → ℕ
page_of_word m u k = (u - 1) * m.params.pages + k / 1024

-- the script of reading that word
abbrev pub word_reads : Map → State → (u k : ℕ) → List Call
word_reads m s u k = page_reads m s (page_of_word m u k)

-- and what it is, if it is told
abbrev pub word_told : Map → State → (told : Option (List (List ℕ))) → (u k : ℕ) → Option ℕ
word_told m s told u k = option_map (λ word. word (k % 1024)) (shown m s told (page_of_word m u k))
