-- Small systems and machines whose runs are computed, as checks of the definitions.
use Rattle.std.specs.Prelude.{ℕ, ◌+◌, ◌-◌, List, [], ◌∷◌, ◌++◌, length, replicate}
use Rattle.mips_table.specs.Machine.{Console}
use Rattle.mips_table.specs.Flat.{Flat}
use Rattle.layer_map.specs.declared.params.Params.{Params}
use Rattle.layer_map.specs.Map.{Map}
use Rattle.layer_map.specs.Samples.{small_params}
use Rattle.c0_tree.specs.Tree.{CUnit}
use Rattle.worked_rows.specs.Kernels.{counting_kernel}
use Rattle.cvm_model.specs.Cvm.{System, first_flat}
use Rattle.cvm_model.specs.KernelMeaning.{kernel_meaning}

-- the map of one user, 100 words of code and two of globals
abbrev pub a_map : Map
a_map = record { params = small_params; users = 1; code_words = 100; global_words = 2 }

-- the console at the start, with two input words
abbrev pub console : Console
console = record { log = []; input = 7 ∷ 35 ∷ [] }

-- a machine of one page, with these words first
abbrev pub a_page : List ℕ → Flat
a_page words = record { cpu = record { pc = 0; regs = replicate 32 0; hi = 0; lo = 0 }; words = words ++ replicate (1024 - length words) 0 }

-- a machine of no pages
abbrev pub no_page : Flat
no_page = record { cpu = record { pc = 0; regs = replicate 32 0; hi = 0; lo = 0 }; words = [] }

-- a kernel and its users' words, with these parameters
abbrev pub system_with : Params → CUnit → List (List ℕ) → System
system_with p u users = record { boot = record { params = p; meaning = kernel_meaning u p; words = replicate 16384 0; users = users }; input = []; longest = 0 }

abbrev pub system_for : CUnit → List (List ℕ) → System
system_for u users = system_with small_params u users

-- with two frames
abbrev pub two_frames_with : CUnit → List ℕ → System
two_frames_with u words = system_with (record small_params { frames = 2 }) u (words ∷ [])

-- one user of no words under a kernel that counts its page faults, and halts at the second
abbrev pub counting_system : System
counting_system = system_for counting_kernel ([] ∷ [])

-- a user that stores to two pages for ever: sw r1, 4096(r0); sw r2, 8192(r0); j 0
abbrev pub storing_user : List ℕ
storing_user = 0xac011000 ∷ 0xac022000 ∷ 0x08000000 ∷ []

-- one that stores to a copy of its page: ori r1, r0, 5; sw r1, 4096(r0); syscall
abbrev pub splitting : List ℕ
splitting = 0x34010005 ∷ 0xac011000 ∷ 0x0000000c ∷ []

-- one that reads two pages and stores to a third: lw r1, 4096(r0); lw r2, 8192(r0); sw r2, 12288(r0); syscall
abbrev pub paging : List ℕ
paging = 0x8c011000 ∷ 0x8c022000 ∷ 0xac023000 ∷ 0x0000000c ∷ replicate 1020 0 ++ 11 ∷ replicate 1023 0 ++ 12 ∷ []

-- the numbers from n down to 1 are added: ori r1, r0, n; addu r4, r4, r1; addiu r1, r1, -1; bne r1, r0, -3; syscall
abbrev pub adding : ℕ → List ℕ
adding n = (0x34010000 + n) ∷ 0x00812021 ∷ 0x2421ffff ∷ 0x1420fffd ∷ 0x0000000c ∷ []

-- two words that come from elsewhere are awaited and added: lw r1, 64(r0); beq r1, r0, -2; lw r3, 68(r0); beq r3, r0, -4; addu r4, r1, r3; syscall
abbrev pub awaiting : List ℕ
awaiting = 0x8c010040 ∷ 0x1020fffe ∷ 0x8c030044 ∷ 0x1060fffc ∷ 0x00232021 ∷ 0x0000000c ∷ []

-- three users under a kernel that schedules them: two add and send the sum to the third
abbrev pub three_users_under : CUnit → System
three_users_under u = system_for u (adding 10 ∷ adding 20 ∷ awaiting ∷ [])

-- syscall, 1,021 zeros, 11, 12, 13, 14; and syscall
abbrev pub sending_user : List ℕ
sending_user = 12 ∷ replicate 1021 0 ++ 11 ∷ 12 ∷ 13 ∷ 14 ∷ []

abbrev pub sending : List Flat
sending = first_flat sending_user ∷ first_flat (12 ∷ []) ∷ []

-- one user: syscall
abbrev pub asking_user : List ℕ
asking_user = 0x0000000c ∷ []

-- a user that runs past the end of its page: ori r1, r0, 7; sw r1, 4092(r0); j 1023
abbrev pub running_past : List ℕ
running_past = 0x34010007 ∷ 0xac010ffc ∷ 0x080003ff ∷ []

-- ori r1, r0, 7; addiu r2, r0, -3; mult r1, r2; mflo r3; div r1, r2; div r1, r0; syscall
abbrev pub multiplies : List ℕ
multiplies = 0x34010007 ∷ 0x2402fffd ∷ 0x00220018 ∷ 0x00001812 ∷ 0x0022001a ∷ 0x0020001a ∷ 0x0000000c ∷ []
