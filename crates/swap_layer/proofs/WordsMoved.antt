-- Words are moved, eight a turn, within memory or from and to the disk's buffer.
use Rattle.std.proofs.Common.{◌≡◌, ℕ, zero, suc, ◌+◌, ◌-◌, ◌*◌, ◌<◌, ◌≤◌, ◌⊎◌, nat_lt, List, [], ◌∷◌, ◌++◌, refl, sym, ap, ◌∙◌, subst, ⊎_elim, inl, inr, arith, le-ltb}
use Rattle.std.proofs.lemmas.Bool.{cases_eq}
use Rattle.mips_table.specs.declared.inst.Inst.{Inst}
use Rattle.mips_table.specs.declared.inst.Inst.TheVariants.{Addiu, Lw, Sw}
use Rattle.mips_table.specs.Device.{Idle, SECTOR}
use Rattle.mips_table.specs.Code.{put, with_reg, Contents, Behind, World, Sound, Does}
use Rattle.mips_table.proofs.PutsChangeOneWord.{put_same, put_other}
use Rattle.mips_table.proofs.NumbersInHalves.{small_is}
use Rattle.masm.specs.Says.{Says, Gives, Reads, Writes, ReadsDisk, WritesDisk}
use Rattle.masm.specs.Laws.{From}
use Rattle.masm.specs.Stays.{RegistersStay}
use Rattle.masm.proofs.RulesForRoutines.{from_straight, does_from, from_does, follows, weaker, loop_goes}
use Rattle.swap_layer.specs.Code.{move_words_code}
use Rattle.swap_layer.specs.Laws.{MoveAsked, WordsMoved, MovesRun}
use Rattle.swap_layer.proofs.WordsOfTheBuffer.{disk_is, place_top}

-- m words, the o-th and on, from the address in register 1 to that in register 2: what a turn is made of
abbrev pairs_code : (m o : ℕ) → List Inst
pairs_code zero o = []
pairs_code (suc m) o = Lw 4 1 (4 * o) ∷ Sw 4 2 (4 * o) ∷ pairs_code m (o + 1)

-- both addresses go on by eight words, and the count of turns in register 3 falls
abbrev bumps_code : List Inst
bumps_code = Addiu 1 1 32 ∷ Addiu 2 2 32 ∷ Addiu 3 3 65535 ∷ []

module _ (w : World) (f : Sound w) (spared : RegistersStay) (a b : ℕ) (c0 : Contents) (d0 : Behind) (asked : MoveAsked w a b c0 d0) where
  -- i turns and o words are moved
  record Left (i o : ℕ) (c : Contents) (d : Behind) : Type 0 where
    most : i ≤ 128
    from : c.regs 1 ≡ 4 * (a + 8 * i)
    to : c.regs 2 ≡ 4 * (b + 8 * i)
    count : c.regs 3 ≡ 128 - i
    words : (j : ℕ) → j < 8 * i + o → c.memory (b + j) ≡ c0.memory (a + j)
    others : (x : ℕ) → (x < b) ⊎ (b + (8 * i + o) ≤ x) → c.memory x ≡ c0.memory x
    regs : (x : ℕ) → 4 < x → c.regs x ≡ c0.regs x
    special : c.special ≡ c0.special
    hi : c.hi ≡ c0.hi
    lo : c.lo ≡ c0.lo
    same : d ≡ d0

  top_a : a + 1023 < SECTOR
  top_a = place_top w f a asked.source

  top_b : b + 1023 < SECTOR
  top_b = place_top w f b asked.target

  idle : (i o : ℕ) (c : Contents) (d : Behind) → Left i o c d → d.pending ≡ Idle
  idle i o c d l = ap (λ d. d.pending) l.same ∙ asked.idle

  -- one word more stands at its place
  one_more : (i o : ℕ) (c : Contents) (d : Behind) → i < 128 → o < 8 → Left i o c d → Left i (o + 1) (record (with_reg c 4 (c0.memory (a + (8 * i + o)))) { memory = put c.memory (b + (8 * i + o)) (c0.memory (a + (8 * i + o))) }) d
  one_more i o c d li lo l = record {
    most = l.most;
    from = l.from;
    to = l.to;
    count = l.count;
    words = λ j lj. ⊎_elim
        (λ e. put_same c.memory _ _ _ (omega arith) ∙ ap (λ i. c0.memory (a + i)) (sym e))
        (λ ne. put_other c.memory _ _ _ (omega arith) ∙ l.words j (omega arith))
        (cases_eq j (8 * i + o));
    others = λ x o. put_other c.memory _ _ x (⊎_elim (λ h. omega arith) (λ h. omega arith) o) ∙ l.others x (⊎_elim (λ h. inl h) (λ h. inr (omega arith)) o);
    regs = λ x lt. put_other c.regs 4 _ x (omega arith) ∙ l.regs x lt;
    special = l.special;
    hi = l.hi;
    lo = l.lo;
    same = l.same;
  }

  -- the word isn't written yet
  still : (i o : ℕ) (c : Contents) (d : Behind) → i < 128 → o < 8 → Left i o c d → c.memory (a + (8 * i + o)) ≡ c0.memory (a + (8 * i + o))
  still i o c d li lo l = l.others (a + (8 * i + o)) (⊎_elim (λ h. inl (omega arith)) (λ h. inr (omega arith)) asked.apart)

  pair : (i o : ℕ) → i < 128 → o < 8 → Does w (Lw 4 1 (4 * o) ∷ Sw 4 2 (4 * o) ∷ []) 2 (Left i o) (Left i (o + 1))
  pair i o li lo = does_from w _ 2 (Left i o) (Left i (o + 1)) (λ c d l.
      let from = l.from in let to = l.to in let ta = top_a in let tb = top_b in
      let e = small_is (4 * o) (omega arith) in
      let v = still i o c d li lo l in
      let free = asked.free (b + (8 * i + o)) (omega arith) (omega arith) in
      let go : (h k : Says) → _ = λ h k. from_straight w f (Lw 4 1 (4 * o) ∷ Sw 4 2 (4 * o) ∷ []) (h ∷ k ∷ []) c d (Left i (o + 1)) refl (idle i o c d l) in
      let p = a + (8 * i + o) in
      let q = b + (8 * i + o) in
      let u = c0.memory p in
      let made = one_more i o c d li lo l in
      let id = idle i o c d l in
      ⊎_elim
      (λ s. ⊎_elim
      (λ t. go (Reads p u) (Writes q u) (λ m. (((omega arith, omega arith, v), ((omega arith, omega arith, free, refl), tt)), made)))
      (λ t. go (Reads p u) (WritesDisk q u) (λ m. (((omega arith, omega arith, v), ((omega arith, (disk_is q (omega arith) (omega arith), asked.system, id), free, refl), tt)), made)))
      asked.target)
      (λ s. ⊎_elim
      (λ t. go (ReadsDisk p u) (Writes q u) (λ m. (((omega arith, (disk_is p (omega arith) (omega arith), asked.system, id), v), ((omega arith, omega arith, free, refl), tt)), made)))
      (λ t. absurd (⊎_elim (λ h. omega arith) (λ h. omega arith) asked.apart))
      asked.target)
      asked.source)

  pairs : (m i o : ℕ) → i < 128 → o + m ≤ 8 → Does w (pairs_code m o) (2 * m) (Left i o) (Left i (o + m))
  pairs zero i o li le = does_from w [] 0 _ _ (λ c d l. from_straight w f [] [] c d _ refl (idle i o c d l) (λ n. (tt, subst (λ k. Left i k c d) (let e : o ≡ o + 0 = omega arith in e) l)))
  pairs (suc m) i o li le =
      weaker w (pairs_code (suc m) o) (2 + 2 * m) (2 * suc m) _ _ _ _ (omega arith) (λ c d l. l) (λ c d l. subst (λ k. Left i k c d) (let e : o + 1 + m ≡ o + suc m = omega arith in e) l)
      (follows w (Lw 4 1 (4 * o) ∷ Sw 4 2 (4 * o) ∷ []) (pairs_code m (o + 1)) 2 (2 * m) _ _ _ (pair i o li (omega arith)) (pairs m i (o + 1) li (omega arith)))

  turn : (i : ℕ) → i < 128 → Does w (pairs_code 8 0 ++ bumps_code) 19 (Left i 0) (Left (suc i) 0)
  turn i li = follows w (pairs_code 8 0) bumps_code 16 3 _ _ _ (pairs 8 i 0 li (omega arith))
      (does_from w _ 3 _ _ (λ c d l.
      let from = l.from in let to = l.to in let count = l.count in let ta = top_a in let tb = top_b in
      from_straight w f bumps_code (Gives (4 * (a + 8 * suc i)) ∷ Gives (4 * (b + 8 * suc i)) ∷ Gives (128 - suc i) ∷ []) c d (Left (suc i) 0) refl (idle i 8 c d l)
      (λ n. (
        (omega arith, (omega arith, (omega arith, tt))),
        record {
          most = omega arith;
          from = refl;
          to = refl;
          count = refl;
          words = λ j lj. l.words j (omega arith);
          others = λ x o. l.others x (⊎_elim (λ h. inl h) (λ h. inr (omega arith)) o);
          regs = λ x lt. spared (λ r. nat_lt r 5) x (le-ltb x 5 lt) bumps_code (Gives (4 * (a + 8 * suc i)) ∷ Gives (4 * (b + 8 * suc i)) ∷ Gives (128 - suc i) ∷ []) n c refl refl ∙ l.regs x lt;
          special = l.special;
          hi = l.hi;
          lo = l.lo;
          same = l.same;
        },
      ))))

  moves : From w move_words_code 2689 c0 d0 (WordsMoved a b c0 d0)
  moves =
      let from = asked.from in let to = asked.to in let count = asked.count in
      from_does w move_words_code _ c0 d0 (Left 0 0) (WordsMoved a b c0 d0)
      (record { most = omega arith; from = omega arith; to = omega arith; count = omega arith; words = λ j lt. absurd (omega arith); others = λ x o. refl; regs = λ x lt. refl; special = refl; hi = refl; lo = refl; same = refl })
      (loop_goes w f (pairs_code 8 0 ++ bumps_code) 3 (λ i. Left i 0) (λ i. i < 128) (λ i. 21 * (128 - i)) (λ i. 19) suc (WordsMoved a b c0 d0) (omega arith)
      (λ i c d l. idle i 0 c d l)
      (λ i lt. omega arith)
      turn
      (λ i c d l z. let count = l.count in omega arith)
      (λ i c d l z. let count = l.count in let most = l.most in record { words = λ j lt. l.words j (omega arith); others = λ x o. l.others x (⊎_elim (λ h. inl h) (λ h. inr (omega arith)) o); regs = l.regs; special = l.special; hi = l.hi; lo = l.lo; behind = l.same })
      0)

pub moves_run : (w : World) → Sound w → RegistersStay → MovesRun w
moves_run w f spared a b c d asked = moves w f spared a b c d asked
