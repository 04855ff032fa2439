-- Worked rows: what the map's functions, primitives, journals and small systems come to.
use Rattle.std.specs.Prelude.{◌≡◌, ℕ, ◌+◌, ◌*◌, ◌%◌, pos, negsuc, true, false, ◌&&◌, ◌==◌, nat_lt, if◌then◌else◌, List}
use Rattle.std.specs.Prelude.{[], ◌∷◌, ◌++◌, length, map, replicate, take, drop, codes, Option, Some, None, option_map}
use Rattle.c0_tree.specs.declared.tree.UnaryOp.TheVariants.{Negate}
use Rattle.c0_tree.specs.Tree.{CUnit, unary}
use Rattle.worked_rows.specs.Kernels.{z, number, divisions, by_zero, small_heap, recursion, bounds, null_use, nexts, scheduler}
use Rattle.worked_rows.specs.SystemKernels.{returning_kernel, copies, copies_twice, probes, resizes, divides, waiting_kernel}
use Rattle.worked_rows.specs.SystemKernels.{console_kernel as talking}
use Rattle.worked_rows.specs.SystemKernels as systems
use Rattle.c0_meaning.specs.Value.{int, bool}
use Rattle.mips_table.specs.Flat.{Flat}
use Rattle.mips_table.specs.Samples.{overflowing}
use Rattle.layer_map.specs.Samples.{small_params}
use Rattle.layer_map.specs.Map.{Map, code_at, globals_at, heap_at, stack_at, tables_at, frame_table_at, zero_frame_at, user_frames_at, memory_frames, block_at}
use Rattle.cvm_model.specs.Kernel.{JournalEntry, Stepped, Trapped, Set, Size, Put}
use Rattle.cvm_model.specs.Primitives.{KernelCall, VmGet, VmSet, VmSize, VmResize, VmWord, VmPut, VmCopy}
use Rattle.cvm_model.specs.Primitives.{ConPut, ConGet, ConLeft, Given, is_good, prim, user_of}
use Rattle.cvm_model.specs.Cvm.{System, Halted, Cvm, cvm, page_steps, reset_steps, turn_steps}
use Rattle.cvm_model.specs.Journal.{replay, journal}
use Rattle.cvm_model.specs.Text.{boot_text, trace_text, user_text, journal_rows, open_journal_rows}
use Rattle.worked_rows.specs.Systems.{a_map, console, a_page, no_page, system_with, system_for, two_frames_with, counting_system, storing_user}
use Rattle.worked_rows.specs.Systems.{splitting, paging, three_users_under, sending_user, sending, asking_user, running_past, multiplies}

-- the first address of each part: code, globals, heap, stack, page tables, frame table, zero frame, user frames; and the frames of memory
abbrev pub firsts : Map → List ℕ
firsts m =
    map (λ at. 4 * at) (code_at m ∷ globals_at m ∷ heap_at m ∷ stack_at m ∷ tables_at m ∷ frame_table_at m ∷ zero_frame_at m ∷ user_frames_at m ∷ [])
    ++ memory_frames m ∷ []

-- a map of two user frames
abbrev pub of_two_frames : Map
of_two_frames = record a_map { params = record small_params { frames = 2 } }

-- where parts and control blocks stand, and the bound's steps of a page, of a turn and of the reset
pub record AreMapsRight : Type 0 where
  pub parts : firsts a_map ≡ 0x10000 ∷ 0x11000 ∷ 0x12000 ∷ 0x13000 ∷ 0x14000 ∷ 0x15000 ∷ 0x16000 ∷ 0x17000 ∷ 31 ∷ []
  pub blocks : 4 * block_at 1 ∷ 4 * block_at 64 ∷ [] ≡ 0xc000 ∷ 0xff00 ∷ []
  pub steps : page_steps of_two_frames 0 ∷ turn_steps of_two_frames 0 ∷ reset_steps of_two_frames ∷ [] ≡ 200128 ∷ 400257 ∷ 20384 ∷ []

-- Each primitive with each kind of bad argument: with one user of one page, and at most four pages. The user or the register is none.
abbrev pub bad_registers : List KernelCall
bad_registers =
    VmGet (pos 0) (pos 1) ∷ VmGet (pos 2) (pos 1) ∷ VmGet (negsuc 0) (pos 1)
    ∷ VmGet (pos 1) (pos 0) ∷ VmGet (pos 1) (pos 33) ∷ VmGet (pos 1) (negsuc 0)
    ∷ VmSet (pos 0) (pos 1) (pos 5) ∷ VmSet (pos 2) (pos 1) (pos 5) ∷ VmSet (pos 1) (pos 0) (pos 5) ∷ VmSet (pos 1) (pos 33) (pos 5) ∷ []

-- the user is none, or the pages are too many or below 0
abbrev pub bad_sizes : List KernelCall
bad_sizes =
    VmSize (pos 0) ∷ VmSize (pos 2) ∷ VmSize (negsuc 0)
    ∷ VmResize (pos 0) (pos 1) ∷ VmResize (pos 2) (pos 1) ∷ VmResize (pos 1) (pos 5) ∷ VmResize (pos 1) (negsuc 0) ∷ []

-- the user is none, or the address is below 0, misaligned or past the end
abbrev pub bad_words : List KernelCall
bad_words =
    VmWord (pos 2) (pos 0) ∷ VmWord (pos 1) (negsuc 3) ∷ VmWord (pos 1) (pos 2) ∷ VmWord (pos 1) (pos 4096)
    ∷ VmPut (pos 0) (pos 0) (pos 1) ∷ VmPut (pos 1) (negsuc 3) (pos 1) ∷ VmPut (pos 1) (pos 4093) (pos 1) ∷ VmPut (pos 1) (pos 4096) (pos 1) ∷ []

-- a user is none, an address or the count isn't one, or the ranges share a word
abbrev pub bad_copies : List KernelCall
bad_copies =
    VmCopy (pos 2) (pos 0) (pos 1) (pos 8) (pos 1) ∷ VmCopy (pos 1) (pos 0) (pos 2) (pos 8) (pos 1)
    ∷ VmCopy (pos 1) (negsuc 3) (pos 1) (pos 8) (pos 1) ∷ VmCopy (pos 1) (pos 0) (pos 1) (negsuc 3) (pos 1)
    ∷ VmCopy (pos 1) (pos 2) (pos 1) (pos 8) (pos 1) ∷ VmCopy (pos 1) (pos 0) (pos 1) (pos 9) (pos 1)
    ∷ VmCopy (pos 1) (pos 0) (pos 1) (pos 8) (negsuc 0) ∷ VmCopy (pos 1) (pos 4092) (pos 1) (pos 8) (pos 2)
    ∷ VmCopy (pos 1) (pos 0) (pos 1) (pos 4092) (pos 2) ∷ VmCopy (pos 1) (pos 0) (pos 1) (pos 4) (pos 2)
    ∷ VmCopy (pos 1) (pos 4) (pos 1) (pos 0) (pos 2) ∷ []

-- and calls at the very end of each range, which are good
abbrev pub good_calls : List KernelCall
good_calls =
    VmGet (pos 1) (pos 1) ∷ VmGet (pos 1) (pos 32) ∷ VmSet (pos 1) (pos 32) (negsuc 0) ∷ VmResize (pos 1) (pos 0) ∷ VmResize (pos 1) (pos 4)
    ∷ VmWord (pos 1) (pos 4092) ∷ VmPut (pos 1) (pos 4092) (pos 1) ∷ VmCopy (pos 1) (pos 4096) (pos 1) (pos 4096) (pos 0)
    ∷ VmCopy (pos 1) (pos 0) (pos 1) (pos 4) (pos 1) ∷ VmCopy (pos 1) (pos 0) (pos 1) (pos 2048) (pos 512) ∷ []

-- which calls are good
pub record AreArgumentsJudged : Type 0 where
  pub registers : map (is_good 4 (a_page [] ∷ [])) bad_registers ≡ replicate 10 false
  pub sizes : map (is_good 4 (a_page [] ∷ [])) bad_sizes ≡ replicate 7 false
  pub words : map (is_good 4 (a_page [] ∷ [])) bad_words ≡ replicate 8 false
  pub copies : map (is_good 4 (a_page [] ∷ [])) bad_copies ≡ replicate 11 false
  pub good : map (is_good 4 (a_page [] ∷ [])) good_calls ≡ replicate 10 true

-- what a call comes to, over these users and the console above
abbrev pub row_given : List Flat → KernelCall → Given
row_given users call = prim 4 call users console

-- the words of user u, the pages used and the words touched
abbrev pub given_cost : Given → ℕ → List ℕ
given_cost g u = length (user_of g.users u).words ∷ g.pages ∷ g.words ∷ []

-- user 1 has two pages of which the second begins with 13, 14; four words across its border go to user 2
abbrev pub two_pages : Flat
two_pages = record (a_page []) { words = (a_page []).words ++ (a_page (13 ∷ 14 ∷ [])).words }

abbrev pub copied_given : Given
copied_given = row_given (two_pages ∷ a_page [] ∷ []) (VmCopy (pos 1) (pos 4088) (pos 2) (pos 0) (pos 4))

-- words that are sent to another user
abbrev pub sent_given : Given
sent_given = row_given sending (VmCopy (pos 1) (pos 4088) (pos 2) (pos 0) (pos 4))

-- what primitives answer, change, use and touch
pub record ArePrimitivesRight : Type 0 where
  pub no_user : (row_given (no_page ∷ []) (VmGet (pos 9) (pos 1))).answer ≡ int (negsuc 0)
  pub no_word : (row_given (a_page [] ∷ []) (VmWord (pos 1) (pos 2))).answer ≡ int (negsuc 0)
  pub no_register : (row_given (no_page ∷ []) (VmSet (pos 1) (pos 0) (pos 5))).answer ≡ bool false
  pub too_many_pages : (row_given (no_page ∷ []) (VmResize (pos 1) (pos 5))).answer ≡ bool false
  pub past_the_end : (row_given (a_page [] ∷ []) (VmCopy (pos 1) (pos 4088) (pos 1) (pos 4092) (pos 2))).answer ≡ bool false
  pub shared_word : (row_given sending (VmCopy (pos 1) (pos 4088) (pos 1) (pos 4096) (pos 4))).answer ≡ bool false
  pub pc_is_set : (row_given (no_page ∷ []) (VmSet (pos 1) (pos 32) (negsuc 3))).changes ≡ record { user = 1; entries = Set 32 0xfffffffc ∷ [] }
  pub grows : given_cost (row_given (no_page ∷ []) (VmResize (pos 1) (pos 3))) 1 ≡ 3072 ∷ 3 ∷ 0 ∷ []
  pub two_pieces : given_cost copied_given 2 ≡ 1024 ∷ 6 ∷ 4 ∷ []
  pub four_entries : copied_given.changes ≡ record { user = 2; entries = Put 0 0 ∷ Put 4 0 ∷ Put 8 13 ∷ Put 12 14 ∷ [] }
  pub input_is_taken : (row_given [] ConGet).answer ≡ int (pos 7)
  pub input_is_left : (row_given [] ConLeft).answer ≡ int (pos 2)
  pub put : (row_given [] (ConPut (negsuc 0))).answer ≡ bool true
  pub is_logged : (row_given [] (ConPut (negsuc 0))).console.log ≡ 0xffffffff ∷ []

-- where pc, registers, hi and lo stand after a replay: pc, hi, lo, and registers 1 to 3
abbrev pub after_replay : List ℕ → List JournalEntry → Option (List ℕ)
after_replay words j = option_map (λ f. f.cpu.pc ∷ f.cpu.hi ∷ f.cpu.lo ∷ take 3 (drop 1 f.cpu.regs)) (replay (a_page words) j)

-- no line is raised
abbrev pub no_lines : ℕ → ℕ
no_lines k = 0

-- replays of journals, and journals of small systems: an overflow, products and quotients, and a journal that isn't the machine's
pub record AreJournalsRight : Type 0 where
  pub overflow : after_replay overflowing (Stepped ∷ Stepped ∷ Trapped 5 0x20220001 ∷ []) ≡ Some (12 ∷ 0 ∷ 0 ∷ 0x7fffffff ∷ 0 ∷ 0 ∷ [])
  pub other : after_replay overflowing (Stepped ∷ Trapped 5 0x20220001 ∷ []) ≡ None
  pub products : after_replay multiplies (replicate 6 Stepped ++ Trapped 6 12 ∷ []) ≡ Some (0x1c ∷ 1 ∷ 0xfffffffe ∷ 7 ∷ 0xfffffffd ∷ 0xffffffeb ∷ [])
  pub traps : journal counting_system no_lines 100 1 5 ≡ Trapped 3 0 ∷ Trapped 3 0 ∷ []
  pub asked : journal_rows (journal (system_for systems.overflow (overflowing ∷ [])) no_lines 100 1 1000) ≡ codes "steps 2\ntrap 5 20220001\n"
  pub sizes : journal_rows (journal (system_for probes (asking_user ∷ [])) no_lines 100 1 3) ≡ codes "size 0\nsize 1\n"
  pub third : journal_rows (journal (three_users_under scheduler) no_lines 200 3 101)
      ≡ codes "put 00000040 00000037\nput 00000044 000000d2\nsteps 5\ntrap 6 0000000c\n"
  pub first : journal_rows (journal (three_users_under scheduler) no_lines 200 1 101) ≡ codes "steps 31\ntrap 6 0000000c\n"

-- rows of a journal, with and without the last row of steps, and the report of a user
pub record AreTextsRight : Type 0 where
  pub whole : journal_rows (Stepped ∷ Stepped ∷ Trapped 5 0x20220001 ∷ Stepped ∷ []) ≡ codes "steps 2\ntrap 5 20220001\nsteps 1\n"
  pub without_last_steps : open_journal_rows (Set 32 8 ∷ Size 0 ∷ Put 64 55 ∷ Stepped ∷ []) ≡ codes "set 32 00000008\nsize 0\nput 00000040 00000037\n"
  pub user : user_text 1 (record { cpu = record { pc = 12; regs = 0 ∷ 0x7fffffff ∷ 0 ∷ []; hi = 1; lo = 0 }; words = 0 ∷ 9 ∷ [] })
      ≡ codes "user 1 pages 0 pc 0000000c\nreg 1 7fffffff\nhi 00000001\nmem 00000004 00000009\n"
  pub trace : trace_text 2 (user_of sending 2) sent_given.changes.entries (user_of sent_given.users 2) Halted
      ≡ codes "start 2 pages 1\nput 00000000 0000000b\nput 00000004 0000000c\nput 00000008 0000000d\nput 0000000c 0000000e\nhalted\n"
      ++ codes "user 2 pages 1 pc 00000000\nmem 00000000 0000000b\nmem 00000004 0000000c\nmem 00000008 0000000d\nmem 0000000c 0000000e\n"

-- what is printed of a system after so many turns with these lines, each dispatch with so many units
abbrev pub printed : System → (ℕ → ℕ) → (units turns : ℕ) → Option (List ℕ)
printed y lines units turns = option_map (boot_text y) (cvm y lines units turns)

-- with no line, and units enough for these systems
abbrev pub comes_to : System → ℕ → Option (List ℕ)
comes_to y turns = printed y no_lines 2000 turns

-- a system of a kernel alone
abbrev pub kernel_alone : CUnit → System
kernel_alone u = system_for u []

-- KERNELS alone: divisions, faults, answers that are no user, a heap and a stack that are just enough, and the console
pub record AreKernelsPrinted : Type 0 where
  pub truncates : comes_to (kernel_alone divisions) 3
      ≡ Some (codes "turn 0 cause 0 data 00000000 user 0 next 0\nhalted\nglobal a -2147483648\nglobal b 0\nglobal c -3\nglobal d -1\n")
  pub division_by_zero : comes_to (kernel_alone by_zero) 3 ≡ Some (codes "turn 0 cause 0 data 00000000 user 0 fault DivZero\n")
  pub no_such_user : comes_to (system_for (returning_kernel (number 5)) (asking_user ∷ [])) 3
      ≡ Some (codes "turn 0 cause 0 data 00000000 user 0 fault BadUser\n")
  pub below_all_users : comes_to (system_for (returning_kernel (unary z Negate (number 1))) (asking_user ∷ [])) 3
      ≡ Some (codes "turn 0 cause 0 data 00000000 user 0 fault BadUser\n")
  pub heap_is_full : comes_to (system_with (record small_params { heap = 3 }) small_heap []) 3
      ≡ Some (codes "turn 0 cause 0 data 00000000 user 0 next 0\nhalted\nglobal p set\nglobal q set\nglobal r null\n")
  pub stack_is_enough : comes_to (system_with (record small_params { stack = 66 }) recursion []) 3
      ≡ Some (codes "turn 0 cause 0 data 00000000 user 0 next 0\nhalted\nglobal x 0\n")
  pub stack_is_out : comes_to (system_with (record small_params { stack = 65 }) recursion []) 3
      ≡ Some (codes "turn 0 cause 0 data 00000000 user 0 fault StackOut\n")
  pub index_is_out : comes_to (kernel_alone bounds) 3 ≡ Some (codes "turn 0 cause 0 data 00000000 user 0 fault Bounds\n")
  pub null_is_used : comes_to (kernel_alone null_use) 3 ≡ Some (codes "turn 0 cause 0 data 00000000 user 0 fault NullUse\n")
  pub console_is_used : comes_to (record (kernel_alone talking) { input = 7 ∷ 35 ∷ [] }) 3
      ≡ Some (codes "turn 0 cause 0 data 00000000 user 0 next 0\nhalted\nglobal s 42\nglobal b true\ncon 0000002a\ncon ffffffff\n")

-- what is printed of the three users once both sums are added: from the end row on
abbrev pub summed : List ℕ
summed =
    codes "halted\nglobal total 265\nuser 1 pages 1 pc 00000014\nreg 4 00000037\nmem 00000000 3401000a\nmem 00000004 00812021\n"
    ++ codes "mem 00000008 2421ffff\nmem 0000000c 1420fffd\nmem 00000010 0000000c\nuser 2 pages 1 pc 00000014\nreg 4 000000d2\n"
    ++ codes "mem 00000000 34010014\nmem 00000004 00812021\nmem 00000008 2421ffff\nmem 0000000c 1420fffd\nmem 00000010 0000000c\n"
    ++ codes "user 3 pages 1 pc 00000018\nreg 1 00000037\nreg 3 000000d2\nreg 4 00000109\nmem 00000000 8c010040\nmem 00000004 1020fffe\n"
    ++ codes "mem 00000008 8c030044\nmem 0000000c 1060fffc\nmem 00000010 00232021\nmem 00000014 0000000c\nmem 00000040 00000037\n"
    ++ codes "mem 00000044 000000d2\n"

-- SYSTEMS with users: page faults, overflow, copies and refusals, pages that share frames, and the scheduler of three users
pub record AreSystemsPrinted : Type 0 where
  pub page_faults : comes_to counting_system 5
      ≡ Some (codes "turn 0 cause 0 data 00000000 user 0 next 1\nturn 1 cause 3 data 00000000 user 1 next 1\n"
      ++ codes "turn 2 cause 3 data 00000000 user 1 next 0\nhalted\nglobal n 2\nuser 1 pages 0 pc 00000000\n")
  pub overflow : comes_to (system_for systems.overflow (overflowing ∷ [])) 1000
      ≡ Some (codes "turn 0 cause 0 data 00000000 user 0 next 1\nturn 3 cause 5 data 20220001 user 1 next 0\nhalted\nglobal c 12\nglobal w 0\n"
      ++ codes "user 1 pages 1 pc 0000000c\nreg 1 7fffffff\nmem 00000000 3c017fff\nmem 00000004 3421ffff\nmem 00000008 20220001\n")
  pub past_the_end : comes_to (system_for nexts (running_past ∷ [])) 9
      ≡ Some (codes "turn 0 cause 0 data 00000000 user 0 next 1\nturn 5 cause 3 data 00001000 user 1 next 0\nhalted\nuser 1 pages 1 pc 00001000\n"
      ++ codes "reg 1 00000007\nmem 00000000 34010007\nmem 00000004 ac010ffc\nmem 00000008 080003ff\nmem 00000ffc 00000007\n")
  pub copies_between_users : comes_to (system_for copies_twice (sending_user ∷ asking_user ∷ [])) 3
      ≡ Some (codes "turn 0 cause 0 data 00000000 user 0 next 0\nhalted\nglobal b true\nglobal c false\nuser 1 pages 2 pc 00000000\n"
      ++ codes "mem 00000000 0000000c\nmem 00000ff8 0000000b\nmem 00000ffc 0000000c\nmem 00001000 0000000d\nmem 00001004 0000000e\n"
      ++ codes "user 2 pages 1 pc 00000000\nmem 00000000 0000000b\nmem 00000004 0000000c\nmem 00000008 0000000d\nmem 0000000c 0000000e\n")
  pub bad_arguments : comes_to (system_for probes (asking_user ∷ [])) 3
      ≡ Some (codes "turn 0 cause 0 data 00000000 user 0 next 0\nhalted\nglobal g -1\nglobal w -1\nglobal s false\nglobal t true\n"
      ++ codes "user 1 pages 1 pc 00000000\n")
  pub products : comes_to (system_for divides (multiplies ∷ [])) 12
      ≡ Some (codes "turn 0 cause 0 data 00000000 user 0 next 1\nturn 7 cause 6 data 0000000c user 1 next 0\nhalted\nglobal x 11\n"
      ++ codes "user 1 pages 1 pc 0000001c\nreg 1 00000007\nreg 2 fffffffd\nreg 3 ffffffeb\nhi 00000001\nlo fffffffe\nmem 00000000 34010007\n"
      ++ codes "mem 00000004 2402fffd\nmem 00000008 00220018\nmem 0000000c 00001812\nmem 00000010 0022001a\nmem 00000014 0020001a\n"
      ++ codes "mem 00000018 0000000c\n")
  pub copy_is_changed : comes_to (two_frames_with copies splitting) 10
      ≡ Some (codes "turn 0 cause 0 data 00000000 user 0 next 1\nturn 3 cause 6 data 0000000c user 1 next 0\nhalted\nglobal b true\n"
      ++ codes "user 1 pages 2 pc 0000000c\nreg 1 00000005\nmem 00000000 34010005\nmem 00000004 ac011000\nmem 00000008 0000000c\n"
      ++ codes "mem 00001000 00000005\nmem 00001004 ac011000\nmem 00001008 0000000c\n")
  pub four_pages : comes_to (two_frames_with (resizes 4) paging) 9
      ≡ Some (codes "turn 0 cause 0 data 00000000 user 0 next 1\nturn 4 cause 6 data 0000000c user 1 next 0\nhalted\nglobal b true\n"
      ++ codes "user 1 pages 4 pc 00000010\nreg 1 0000000b\nreg 2 0000000c\nmem 00000000 8c011000\nmem 00000004 8c022000\nmem 00000008 ac023000\n"
      ++ codes "mem 0000000c 0000000c\nmem 00001000 0000000b\nmem 00002000 0000000c\nmem 00003000 0000000c\n")
  pub three_pages : printed (two_frames_with (resizes 3) storing_user) no_lines 100 301
      ≡ Some (codes "turn 0 cause 0 data 00000000 user 0 next 1\nstopped\nglobal b true\nuser 1 pages 3 pc 00000000\nmem 00000000 ac011000\n"
      ++ codes "mem 00000004 ac022000\nmem 00000008 08000000\n")
  pub bound : option_map (λ (c : Cvm). c.bound) (cvm (two_frames_with (resizes 3) storing_user) no_lines 100 301)
      ≡ Some (20384 + 301 * 400257 + 2000 + 2 * 200128 + 600 * 17)
  pub stopped : printed (three_users_under scheduler) no_lines 200 100
      ≡ Some (codes "turn 0 cause 0 data 00000000 user 0 next 1\nturn 32 cause 6 data 0000000c user 1 next 2\n"
      ++ codes "turn 94 cause 6 data 0000000c user 2 next 3\nstopped\nglobal total 0\nuser 1 pages 1 pc 00000014\nreg 4 00000037\n"
      ++ codes "mem 00000000 3401000a\nmem 00000004 00812021\nmem 00000008 2421ffff\nmem 0000000c 1420fffd\nmem 00000010 0000000c\n"
      ++ codes "user 2 pages 1 pc 00000014\nreg 4 000000d2\nmem 00000000 34010014\nmem 00000004 00812021\nmem 00000008 2421ffff\n"
      ++ codes "mem 0000000c 1420fffd\nmem 00000010 0000000c\nuser 3 pages 1 pc 00000014\nreg 1 00000037\nreg 3 000000d2\nreg 4 00000109\n"
      ++ codes "mem 00000000 8c010040\nmem 00000004 1020fffe\nmem 00000008 8c030044\nmem 0000000c 1060fffc\nmem 00000010 00232021\n"
      ++ codes "mem 00000014 0000000c\nmem 00000040 00000037\nmem 00000044 000000d2\n")
  pub scheduled : printed (three_users_under scheduler) no_lines 200 101
      ≡ Some (codes "turn 0 cause 0 data 00000000 user 0 next 1\nturn 32 cause 6 data 0000000c user 1 next 2\n"
      ++ codes "turn 94 cause 6 data 0000000c user 2 next 3\nturn 100 cause 6 data 0000000c user 3 next 0\n" ++ summed)

-- these lines at turn t alone
abbrev pub at_turn : (t lines : ℕ) → ℕ → ℕ
at_turn t lines k = if k == t then lines else 0

-- line 0 in each third turn from turn 1 to turn 118: forty times
abbrev pub forty_lines : ℕ → ℕ
forty_lines k = if k % 3 == 1 && nat_lt k 119 then 1 else 0

-- what is printed of the dispatches of the three users under forty lines; user 3 runs only once both others have sent their sums
abbrev pub forty_rows : List ℕ
forty_rows =
    codes "turn 0 cause 0 data 00000000 user 0 next 1\nturn 1 cause 1 data 00000001 user 1 next 2\n"
    ++ codes "turn 4 cause 1 data 00000001 user 2 next 1\nturn 7 cause 1 data 00000001 user 1 next 2\n"
    ++ codes "turn 10 cause 1 data 00000001 user 2 next 1\nturn 13 cause 1 data 00000001 user 1 next 2\n"
    ++ codes "turn 16 cause 1 data 00000001 user 2 next 1\nturn 19 cause 1 data 00000001 user 1 next 2\n"
    ++ codes "turn 22 cause 1 data 00000001 user 2 next 1\nturn 25 cause 1 data 00000001 user 1 next 2\n"
    ++ codes "turn 28 cause 1 data 00000001 user 2 next 1\nturn 31 cause 1 data 00000001 user 1 next 2\n"
    ++ codes "turn 34 cause 1 data 00000001 user 2 next 1\nturn 37 cause 1 data 00000001 user 1 next 2\n"
    ++ codes "turn 40 cause 1 data 00000001 user 2 next 1\nturn 43 cause 1 data 00000001 user 1 next 2\n"
    ++ codes "turn 46 cause 1 data 00000001 user 2 next 1\nturn 49 cause 1 data 00000001 user 1 next 2\n"
    ++ codes "turn 52 cause 1 data 00000001 user 2 next 1\nturn 55 cause 1 data 00000001 user 1 next 2\n"
    ++ codes "turn 58 cause 1 data 00000001 user 2 next 1\nturn 61 cause 1 data 00000001 user 1 next 2\n"
    ++ codes "turn 64 cause 1 data 00000001 user 2 next 1\nturn 67 cause 1 data 00000001 user 1 next 2\n"
    ++ codes "turn 70 cause 1 data 00000001 user 2 next 1\nturn 73 cause 1 data 00000001 user 1 next 2\n"
    ++ codes "turn 76 cause 1 data 00000001 user 2 next 1\nturn 79 cause 1 data 00000001 user 1 next 2\n"
    ++ codes "turn 82 cause 1 data 00000001 user 2 next 1\nturn 85 cause 1 data 00000001 user 1 next 2\n"
    ++ codes "turn 88 cause 1 data 00000001 user 2 next 1\nturn 91 cause 1 data 00000001 user 1 next 2\n"
    ++ codes "turn 94 cause 1 data 00000001 user 2 next 1\nturn 96 cause 6 data 0000000c user 1 next 2\n"
    ++ codes "turn 97 cause 1 data 00000001 user 2 next 2\nturn 100 cause 1 data 00000001 user 2 next 2\n"
    ++ codes "turn 103 cause 1 data 00000001 user 2 next 2\nturn 106 cause 1 data 00000001 user 2 next 2\n"
    ++ codes "turn 109 cause 1 data 00000001 user 2 next 2\nturn 112 cause 1 data 00000001 user 2 next 2\n"
    ++ codes "turn 115 cause 1 data 00000001 user 2 next 2\nturn 118 cause 1 data 00000001 user 2 next 2\n"
    ++ codes "turn 134 cause 6 data 0000000c user 2 next 3\nturn 140 cause 6 data 0000000c user 3 next 0\n"

-- LINES: each belongs to a turn, one of turn 0 stays pending for turn 1, and forty lines change no sum
pub record AreLinesTaken : Type 0 where
  pub of_turn_1 : printed (system_for nexts (asking_user ∷ [])) (at_turn 1 8) 100 9
      ≡ Some (codes "turn 0 cause 0 data 00000000 user 0 next 1\nturn 1 cause 1 data 00000008 user 1 next 0\nhalted\nuser 1 pages 1 pc 00000000\n"
      ++ codes "mem 00000000 0000000c\n")
  pub of_turn_0 : printed (system_for nexts (asking_user ∷ [])) (at_turn 0 8) 100 9
      ≡ Some (codes "turn 0 cause 0 data 00000000 user 0 next 1\nturn 1 cause 1 data 00000008 user 1 next 0\nhalted\nuser 1 pages 1 pc 00000000\n"
      ++ codes "mem 00000000 0000000c\n")
  pub of_two_turns : printed (system_for systems.line_kernel (asking_user ∷ [])) (λ k. if k == 1 then 2 else at_turn 2 4 k) 100 9
      ≡ Some (codes "turn 0 cause 0 data 00000000 user 0 next 1\nturn 1 cause 1 data 00000002 user 1 next 1\n"
      ++ codes "turn 2 cause 1 data 00000004 user 1 next 0\nhalted\nglobal n 2\nglobal m 20\nuser 1 pages 1 pc 00000000\nmem 00000000 0000000c\n")
  pub forty : printed (three_users_under waiting_kernel) forty_lines 400 200 ≡ Some (forty_rows ++ summed)
