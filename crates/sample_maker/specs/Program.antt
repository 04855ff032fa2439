-- The program of user 1. From its last page down it puts a word into each page, one more each time; then it adds the words of all
-- pages up and clears them, and traps.
use Rattle.std.specs.Prelude.{ℕ, List, [], ◌∷◌, ◌++◌, codes}
use Rattle.std.specs.List.{flat_map}

-- a text of lines, each ended by LF
abbrev pub text_of : List (List ℕ) → List ℕ
text_of lines = flat_map (λ line. line ++ 10 ∷ []) lines

-- the program's text
unfoldable pub program_text : List ℕ
program_text = text_of (
    codes "ori r2, r0, 61440" ∷
    codes "fill: sw r1, 0(r2)" ∷
    codes "addiu r1, r1, 1" ∷
    codes "addiu r2, r2, -4096" ∷
    codes "bgtz r2, fill" ∷
    codes "ori r2, r0, 61440" ∷
    codes "add: lw r3, 0(r2)" ∷
    codes "addu r4, r4, r3" ∷
    codes "sw r0, 0(r2)" ∷
    codes "addiu r2, r2, -4096" ∷
    codes "bgtz r2, add" ∷
    codes "syscall" ∷
    [])

-- its words
abbrev pub sample_words : List ℕ
sample_words =
    0x3402f000 ∷ 0xac410000 ∷ 0x24210001 ∷ 0x2442f000 ∷ 0x1c40fffc ∷ 0x3402f000 ∷
    0x8c430000 ∷ 0x00832021 ∷ 0xac400000 ∷ 0x2442f000 ∷ 0x1c40fffb ∷ 0x0000000c ∷ []
