-- One store of frames as memory, buffer and viewed words: what a write of a word of memory and a new store do to the three.
use Rattle.std.proofs.Common.{◌≡◌, ℕ, zero, suc, ◌+◌, ◌*◌, ◌/◌, ◌-◌, ◌<◌, ◌≤◌, List, [], ◌∷◌, length, replicate, take, drop, slice_set, Option, Some, None, refl, sym, ap, ◌∙◌, subst, arith, zero-add, lt-ltb}
use Rattle.std.specs.Prelude.{nat_lt}
use Rattle.std.proofs.lemmas.Bool.{cond-true}
use Rattle.std.proofs.lemmas.List.{drop-set-lt, length-take-le, take-replicate}
use Rattle.frame_store.specs.Words.{frame_of}
use Rattle.sector_disk.specs.Ports.{Ports, idle}
use Rattle.mips_machine.specs.declared.board.PortWrite.{PortWrite}
use Rattle.mips_machine.specs.Console.{ConsoleDevice}
use Rattle.mips_machine.specs.Board.{Board, stored_at}

-- a prefix of a list in which one element is set
pub take-set_any : {X : Type 0} (n : ℕ) (l : List X) (i : ℕ) (a : X) → take n (slice_set l i a) ≡ slice_set (take n l) i a
take-set_any zero l i a = refl
take-set_any (suc n) [] i a = refl
take-set_any (suc n) (x ∷ xs) zero a = refl
take-set_any (suc n) (x ∷ xs) (suc i) a = ap (λ ys. x ∷ ys) (take-set_any n xs i a)

-- a word before a frame is set
pub frame_of-set : (words : List ℕ) (frame i value : ℕ) → i < 1024 * frame → frame_of (slice_set words i value) frame ≡ frame_of words frame
frame_of-set words frame i value lt = ap (take 1024) (drop-set-lt (1024 * frame) words i value lt)

-- part of a list of zeros
pub drop-replicate : (k n : ℕ) → drop {A = ℕ} k (replicate (k + n) 0) ≡ replicate n 0
drop-replicate zero n = ap (λ m. replicate {A = ℕ} m 0) (zero-add n)
drop-replicate (suc k) n =
    let e : suc k + n ≡ suc (k + n) = omega arith in
    ap (λ m. drop {A = ℕ} (suc k) (replicate {A = ℕ} m 0)) e ∙ drop-replicate k n

pub frame_of-replicate : (frame n : ℕ) → 1024 * frame + 1024 < n + 1 → frame_of (replicate n 0) frame ≡ replicate 1024 0
frame_of-replicate frame n le =
    let e : n ≡ 1024 * frame + (n - 1024 * frame) = omega arith in
    let h : 1024 ≤ n - 1024 * frame = omega arith in
    ap (λ m. frame_of (replicate {A = ℕ} m 0) frame) e ∙ ap (take 1024) (drop-replicate (1024 * frame) (n - 1024 * frame)) ∙ take-replicate 1024 (n - 1024 * frame) 0 h

-- the board of a store of frames
abbrev pub board_in : List ℕ → List ℕ → ℕ → Ports → ConsoleDevice → Option PortWrite → Board
board_in special frames words ports console kept = record { special = special; memory = take words frames; ports = ports; buffer = frame_of frames (words / 1024); viewed = frame_of frames (words / 1024 + 1); console = console; kept = kept }

module _ (special frames : List ℕ) (words : ℕ) (ports : Ports) (console : ConsoleDevice) (kept : Option PortWrite) (whole : words ≡ 1024 * (words / 1024)) (size : length frames ≡ words + 2048) where
  -- a word of memory is set
  pub memory_set : (k value : ℕ) → k < words → board_in special (slice_set frames k value) words ports console kept ≡ record (board_in special frames words ports console kept) { memory = slice_set (take words frames) k value }
  memory_set k value lt =
      let buffer : frame_of (slice_set frames k value) (words / 1024) ≡ frame_of frames (words / 1024) = frame_of-set frames (words / 1024) k value (omega arith) in
      let viewed : frame_of (slice_set frames k value) (words / 1024 + 1) ≡ frame_of frames (words / 1024 + 1) = frame_of-set frames (words / 1024 + 1) k value (omega arith) in
      rw (take-set_any words frames k value, buffer, viewed) refl

  -- so is it by a store to its address
  pub memory_stored : (address value : ℕ) → address / 4 < words → board_in special (slice_set frames (address / 4) value) words ports console kept ≡ stored_at (board_in special frames words ports console kept) (Some address) value
  memory_stored address value lt =
      let b : Board = board_in special frames words ports console kept in
      let waiting : Board = record b { kept = Some (record { address = address; value = value }) } in
      let done : Board = record b { memory = slice_set (take words frames) (address / 4) value } in
      let n : length (take words frames) ≡ words = length-take-le words frames (omega arith) in
      memory_set (address / 4) value lt ∙ sym (cond-true (nat_lt (address / 4) (length (take words frames))) done waiting (lt-ltb (address / 4) (length (take words frames)) (subst (λ m. address / 4 < m) (sym n) lt)))

-- a board of zeros
pub started : (frames : ℕ) (console : ConsoleDevice) → board_in (replicate 9 0) (replicate (1024 * (frames + 2)) 0) (1024 * frames) idle console None
    ≡ record { special = replicate 9 0; memory = replicate (1024 * frames) 0; ports = idle; buffer = replicate 1024 0; viewed = replicate 1024 0; console = console; kept = None }
started frames console =
    let words : ℕ = 1024 * (frames + 2) in
    let memory : take {A = ℕ} (1024 * frames) (replicate words 0) ≡ replicate (1024 * frames) 0 = take-replicate (1024 * frames) words 0 (omega arith) in
    let buffer : frame_of (replicate words 0) (1024 * frames / 1024) ≡ replicate 1024 0 = frame_of-replicate (1024 * frames / 1024) words (omega arith) in
    let viewed : frame_of (replicate words 0) (1024 * frames / 1024 + 1) ≡ replicate 1024 0 = frame_of-replicate (1024 * frames / 1024 + 1) words (omega arith) in
    rw (memory, buffer, viewed) refl
