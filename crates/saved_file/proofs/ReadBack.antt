-- The words of a saved machine can be taken up: each that is looked at stands where the machine put it. So its bytes are read back.
use Rattle.std.proofs.Common.{◌≡◌, ℕ, zero, suc, ◌+◌, ◌-◌, ◌/◌, ◌%◌, ◌^◌, ◌≤◌, ◌<◌, List, [], ◌∷◌, ◌++◌, All, length, drop, slice_index, refl, sym, ap, subst, ◌∙◌, arith}
use Rattle.std.proofs.lemmas.List.{length-append, length-drop}
use Rattle.std.proofs.lemmas.List.Elements.{All-nil, All-cons, All-append, All-drop}
use Rattle.mips_table.specs.Device.{Environment}
use Rattle.mips_table.specs.Fits.{IsWord}
use Rattle.mips_table.specs.Machine.{State}
use Rattle.mips_machine.specs.Saved.{MARK, two_words, head, saved, CanBeSaved, AreSaved, SavedIsAccepted}
use Rattle.saved_file.specs.Resumable.{Wanted, CanBeResumed, memory_word, saved_size_at}
use Rattle.saved_file.specs.Answer.{answer, IsOfRun, SavedIsReadBack}
use Rattle.saved_file.proofs.AllTestsPass.{resumables}

-- a word behind a part
behind : (a b : List ℕ) (n i k : ℕ) → length a ≡ n → k ≡ n + i → slice_index (a ++ b) k ≡ slice_index b i
behind [] b n i k l e = ap (slice_index b) (omega (arith, l, e))
behind (x ∷ a) b zero i k l e = absurd (omega (arith, l))
behind (x ∷ a) b (suc n) i zero l e = absurd (omega (arith, e))
behind (x ∷ a) b (suc n) i (suc k) l e = behind a b n i k (omega (arith, l)) (omega (arith, e))

-- the words from the disk's sector on
abbrev five : List ℕ → State → List ℕ
five inputs s = s.device.sector ∷ s.device.commands % 2 ^ 32 ∷ s.device.commands / 2 ^ 32 ∷ (length inputs - length s.input) ∷ length s.log ∷ []

head_length : (inputs : List ℕ) (s : State) (turns user : ℕ) → CanBeSaved inputs s → length (head inputs s turns user) ≡ 56
head_length inputs s turns user c =
    let r = length-drop 1 s.cpu.regs in
    let m = c.regs in
    let n = c.special in
    let e = length-append (drop 1 s.cpu.regs) (s.cpu.hi ∷ s.cpu.lo ∷ (s.special ++ five inputs s)) in
    let f = length-append s.special (five inputs s) in
    omega (arith, r, m, n, e, f)

module _ (inputs : List ℕ) (s : State) (turns user : ℕ) (c : CanBeSaved inputs s) (a : AreSaved (length s.memory) inputs (saved inputs s turns user)) where
  -- the word that tells the length of the log
  log_at : slice_index (saved inputs s turns user) 55 ≡ length s.log
  log_at =
      let all = a.whole in
      let buffer = c.buffer in
      let front = head_length inputs s turns user c in
      let e = length-append (head inputs s turns user) (s.log ++ (s.device.buffer ++ s.memory)) in
      let f = length-append s.log (s.device.buffer ++ s.memory) in
      let g = length-append s.device.buffer s.memory in
      omega (arith, all, buffer, front, e, f, g)

  -- memory stands behind the buffer
  pub memory_at : (position : ℕ) → memory_word (saved inputs s turns user) position ≡ slice_index s.memory position
  memory_at position =
      let n = log_at in
      behind (head inputs s turns user) (s.log ++ (s.device.buffer ++ s.memory)) 56 (length s.log + (1024 + position)) (1080 + slice_index (saved inputs s turns user) 55 + position) (head_length inputs s turns user c) (omega (arith, n))
      ∙ behind s.log (s.device.buffer ++ s.memory) (length s.log) (1024 + position) (length s.log + (1024 + position)) refl refl
      ∙ behind s.device.buffer s.memory 1024 position (1024 + position) c.buffer refl

-- a list of words
record Are (l : List ℕ) : Type 0 where
  all : All IsWord l

none : Are []
none = record { all = All-nil IsWord }

first : {x : ℕ} {xs : List ℕ} → x < 2 ^ 32 → Are xs → Are (x ∷ xs)
first {x = x} {xs = xs} small a = record { all = All-cons IsWord x xs small a.all }

join : {xs ys : List ℕ} → Are xs → Are ys → Are (xs ++ ys)
join {xs = xs} {ys = ys} a b = record { all = All-append IsWord xs ys a.all b.all }

list : (xs : List ℕ) → All IsWord xs → Are xs
list xs a = record { all = a }

two : (n : ℕ) → n < 2 ^ 64 → Are (two_words n)
two n small = first (omega arith) (first (omega (arith, small)) none)

-- the words are words
bits : (x : Environment) (w : Wanted) (s : State) (turns user : ℕ) → IsOfRun x w s turns user → Are (saved w.inputs s turns user)
bits x w s turns user r =
    let f = r.fits in
    let time = r.time in
    let commands = r.steady.commands in
    let inputs = r.inputs in
    let room = f.console.room in
    let mask = f.mask in
    let frames = r.frames in
    let few = r.few in
    let mark : Are (MARK ∷ 1 ∷ length s.memory / 1024 ∷ []) = first (omega arith) (first (omega arith) (first (omega (arith, frames, few)) none)) in
    let numbers : Are (turns ∷ user ∷ s.mask ∷ s.cpu.pc ∷ []) = first r.bits (first r.users (first (omega (arith, mask)) (first f.cpu.pc none))) in
    let products : Are (s.cpu.hi ∷ s.cpu.lo ∷ []) = first f.cpu.hi (first f.cpu.lo none) in
    let sector : Are (s.device.sector ∷ []) = first f.device.sector none in
    let counts : Are ((length w.inputs - length s.input) ∷ length s.log ∷ []) = first (omega (arith, inputs)) (first (omega (arith, room)) none) in
    join (join mark (join (two s.time time) (join numbers (join (list (drop 1 s.cpu.regs) (All-drop IsWord 1 s.cpu.regs f.cpu.regs.each)) (join products (join (list s.special f.special.each)
    (join sector (join (two s.device.commands (omega (arith, time, commands))) counts))))))))
    (join (list s.log f.console.logged) (join (list s.device.buffer f.device.buffer.each) (list s.memory f.memory)))

can_resume : SavedIsAccepted → (x : Environment) (w : Wanted) (s : State) (turns user : ℕ) → IsOfRun x w s turns user → CanBeResumed w (saved w.inputs s turns user)
can_resume accepted x w s turns user r =
    let a : AreSaved (length s.memory) w.inputs (saved w.inputs s turns user) = accepted x w.inputs s turns user r.fits r.steady r.can r.mode in
    let at = memory_at w.inputs s turns user r.can a in
    record {
      saved = subst (λ (m : ℕ). AreSaved m w.inputs (saved w.inputs s turns user)) r.frames a;
      a_turn = r.a_turn;
      a_user = r.a_user;
      user = r.of_users;
      unforged = λ position lt kept. at position ∙ r.linked position lt kept;
      sizes = λ u some few. subst (λ (n : ℕ). n ≤ w.pages) (sym (at (saved_size_at u))) (r.sizes u some few);
      turns = r.enough;
    }

pub read_back : SavedIsAccepted → SavedIsReadBack answer
read_back accepted x w s turns user r =
    let can = can_resume accepted x w s turns user r in
    (can, resumables w (saved w.inputs s turns user) (bits x w s turns user r).all can)
