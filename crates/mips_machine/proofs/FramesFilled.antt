-- Frames of memory that are filled one after another.
use Rattle.std.proofs.Common.{◌≡◌, ℕ, zero, suc, ◌+◌, ◌*◌, ◌-◌, ◌/◌, ◌<◌, ◌≤◌, List, [], ◌∷◌, ◌++◌, length, take, drop, Option, refl, sym, ap, ap₂, ◌∙◌, append_assoc, arith}
use Rattle.std.proofs.lemmas.List.{length-take-le, length-drop, length-append, drop-drop, take_all, drop_all, append-nil, take-append-le, drop-append-le}
use Rattle.frame_store.specs.Words.{frame_of, with_frame}
use Rattle.sector_disk.specs.Ports.{Ports}
use Rattle.mips_machine.specs.declared.board.PortWrite.{PortWrite}
use Rattle.mips_machine.specs.Console.{ConsoleDevice}
use Rattle.mips_machine.specs.Board.{Board}
use Rattle.mips_machine.proofs.BoardWrites.{board_in}
use Rattle.mips_machine.proofs.PartsPut.{take_sum}

-- a beginning of a list whose front was changed
front_taken : (ws l : List ℕ) (n : ℕ) → length ws ≤ n → take n (ws ++ drop (length ws) l) ≡ ws ++ drop (length ws) (take n l)
front_taken [] l n le = refl
front_taken (w ∷ ws) l zero le = absurd (omega (arith, le))
front_taken (w ∷ ws) [] (suc n) le = ap (λ (r : List ℕ). w ∷ r) (none n ws (omega (arith, le)))
  where
    none : (n : ℕ) (ws : List ℕ) → length ws ≤ n → take n (ws ++ []) ≡ ws ++ []
    none n [] le = no n
      where
        no : (n : ℕ) → ◌≡◌ {A = List ℕ} (take n []) []
        no zero = refl
        no (suc n) = refl
    none zero (w ∷ ws) le = absurd (omega (arith, le))
    none (suc n) (w ∷ ws) le = ap (λ (r : List ℕ). w ∷ r) (none n ws (omega (arith, le)))
front_taken (w ∷ ws) (x ∷ l) (suc n) le = ap (λ (r : List ℕ). w ∷ r) (front_taken ws l n (omega (arith, le)))

-- so where a part further behind was
part_taken : (a : ℕ) (ws l : List ℕ) (n : ℕ) → a + length ws ≤ n → a ≤ length l → take n (take a l ++ (ws ++ drop (length ws) (drop a l))) ≡ take a (take n l) ++ (ws ++ drop (length ws) (drop a (take n l)))
part_taken zero ws l n le m = front_taken ws l n (omega (arith, le))
part_taken (suc a) ws [] n le m = absurd (omega (arith, m))
part_taken (suc a) ws (x ∷ l) zero le m = absurd (omega (arith, le))
part_taken (suc a) ws (x ∷ l) (suc n) le m = ap (λ (r : List ℕ). x ∷ r) (part_taken a ws l n (omega (arith, le)) (omega (arith, m)))

-- a frame of memory is filled
module _ (special frames : List ℕ) (words : ℕ) (ports : Ports) (console : ConsoleDevice) (kept : Option PortWrite) (whole : words ≡ 1024 * (words / 1024)) (size : length frames ≡ words + 2048) where
  pub frame_filled : (frame : ℕ) (page : List ℕ) → length page ≡ 1024 → 1024 * frame + 1024 ≤ words →
      ((other : ℕ) → frame < other → 1024 * other + 1024 ≤ length frames → frame_of (with_frame frames frame page) other ≡ frame_of frames other) →
      board_in special (with_frame frames frame page) words ports console kept ≡ record (board_in special frames words ports console kept) { memory = with_frame (take words frames) frame page }
  frame_filled frame page n inside others =
      let memory : take words (with_frame frames frame page) ≡ with_frame (take words frames) frame page =
      ap (λ k. take words (take (1024 * frame) frames ++ (page ++ drop k (drop (1024 * frame) frames)))) (sym n)
      ∙ part_taken (1024 * frame) page frames words (omega (arith, n, inside)) (omega (arith, inside, size))
      ∙ ap (λ k. take (1024 * frame) (take words frames) ++ (page ++ drop k (drop (1024 * frame) (take words frames)))) n in
      let buffer = others (words / 1024) (omega (arith, inside, whole)) (omega (arith, whole, size)) in
      let viewed = others (words / 1024 + 1) (omega (arith, inside, whole)) (omega (arith, whole, size)) in
      rw (memory, buffer, viewed) refl

-- the frames before a place are filled
pub filled : (old words : List ℕ) (frame : ℕ) → List ℕ
filled old words frame = take (1024 * frame) words ++ drop (1024 * frame) old

pub none_filled : (old words : List ℕ) → filled old words 0 ≡ old
unfolding filled
none_filled old words = refl

pub all_filled : (old words : List ℕ) (count : ℕ) → length words ≡ 1024 * count → length old ≡ 1024 * count → filled old words count ≡ words
unfolding filled
all_filled old words count n m =
    let e : take (1024 * count) words ≡ words = take_all (1024 * count) words (omega (arith, n)) in
    let d : drop (1024 * count) old ≡ [] = drop_all (1024 * count) old (omega (arith, m)) in
    ap₂ (λ (a b : List ℕ). a ++ b) e d ∙ append-nil words

pub filled_length : (old words : List ℕ) (frame : ℕ) → 1024 * frame ≤ length words → length old ≡ length words → length (filled old words frame) ≡ length words
unfolding filled
filled_length old words frame le same =
    let a = length-append (take (1024 * frame) words) (drop (1024 * frame) old) in
    let t = length-take-le (1024 * frame) words le in
    let d = length-drop (1024 * frame) old in
    omega (arith, a, t, d, le, same)

pub one_filled : (old words : List ℕ) (frame : ℕ) → 1024 * frame + 1024 ≤ length words → length old ≡ length words →
    with_frame (filled old words frame) frame (take 1024 (drop (1024 * frame) words)) ≡ filled old words (frame + 1)
unfolding filled
one_filled old words frame le same =
    let e : 1024 * frame + 1024 ≡ 1024 * (frame + 1) = omega arith in
    let z : length (take (1024 * frame) words) ≡ 1024 * frame = length-take-le (1024 * frame) words (omega (arith, le)) in
    let t : take (1024 * frame) (take (1024 * frame) words ++ drop (1024 * frame) old) ≡ take (1024 * frame) words =
    take-append-le (1024 * frame) (take (1024 * frame) words) (drop (1024 * frame) old) (omega (arith, z)) ∙ take_all (1024 * frame) (take (1024 * frame) words) (omega (arith, z)) in
    let d : drop 1024 (drop (1024 * frame) (take (1024 * frame) words ++ drop (1024 * frame) old)) ≡ drop (1024 * (frame + 1)) old =
    ap (drop 1024) (drop-append-le (1024 * frame) (take (1024 * frame) words) (drop (1024 * frame) old) (omega (arith, z))
    ∙ ap (λ (a : List ℕ). a ++ drop (1024 * frame) old) (drop_all (1024 * frame) (take (1024 * frame) words) (omega (arith, z))))
    ∙ drop-drop 1024 (1024 * frame) old ∙ ap (λ k. drop k old) e in
    ap₂ (λ (a r : List ℕ). a ++ (take 1024 (drop (1024 * frame) words) ++ r)) t d
    ∙ sym (append_assoc (take (1024 * frame) words) (take 1024 (drop (1024 * frame) words)) (drop (1024 * (frame + 1)) old))
    ∙ ap (λ (a : List ℕ). a ++ drop (1024 * (frame + 1)) old) (sym (take_sum (1024 * frame) 1024 words) ∙ ap (λ k. take k words) e)

-- a board by its parts
pub board_same : (special buffer viewed memory : List ℕ) (ports : Ports) (console : ConsoleDevice) (kept : Option PortWrite) (special2 buffer2 viewed2 memory2 : List ℕ) (ports2 : Ports) (console2 : ConsoleDevice) (kept2 : Option PortWrite) →
    special ≡ special2 → memory ≡ memory2 → ports ≡ ports2 → buffer ≡ buffer2 → viewed ≡ viewed2 → console ≡ console2 → kept ≡ kept2 →
    ◌≡◌ {A = Board} (record { special = special; memory = memory; ports = ports; buffer = buffer; viewed = viewed; console = console; kept = kept })
    (record { special = special2; memory = memory2; ports = ports2; buffer = buffer2; viewed = viewed2; console = console2; kept = kept2 })
board_same special buffer viewed memory ports console kept special2 buffer2 viewed2 memory2 ports2 console2 kept2 s m p b v c k = rw (s, m, p, b, v, c, k) refl

pub less : (a n : ℕ) → (a + n) - a ≡ n
less a n = omega arith
