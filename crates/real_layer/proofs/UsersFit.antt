-- What a primitive leaves of the users fits as they did.
use Rattle.std.proofs.Common.{◌≡◌, ℕ, ◌+◌, ◌-◌, ◌*◌, ◌/◌, ◌%◌, ◌≤◌, ℤ, pos, negsuc, nat_abs, ◌&&◌, Bool, true, false, not, List, ◌++◌, length, take, drop, replicate, slice_set, All, refl, ◌∙◌, arith, length-set, get_or-set_other, ◌<◌}
use Rattle.std.specs.Prelude.{◌==◌, nat_le}
use Rattle.std.specs.Int.{cast_unsigned, w32}
use Rattle.std.proofs.lemmas.Bool.{cond_both, and_parts, leb-true}
use Rattle.std.proofs.lemmas.List.{length-append, length-take, length-drop, length-replicate}
use Rattle.std.proofs.lemmas.List.Elements.{All-set, All-append, All-replicate, All-take, All-drop}
use Rattle.mips_table.specs.Machine.{Console}
use Rattle.mips_table.specs.Flat.{Flat}
use Rattle.mips_table.specs.Fits.{IsWord, CpuFits}
use Rattle.cvm_model.specs.Primitives.{KernelCall, VmGet, VmSet, VmSize, VmResize, VmWord, VmPut, VmCopy, ConPut, ConGet, ConLeft, Given, no_flat, user_of, with_user, pages_of, with_register, resized, with_word, with_words, is_within, is_address, ranges_overlap, is_good, granted, unchanged, refused, prim}
use Rattle.cvm_model.specs.Stands.{UserFits}

-- the value of a call is a word
abbrev pub HasWord : KernelCall → Type 0
HasWord (VmSet u r v) = IsWord (cast_unsigned w32 v)
HasWord (VmPut u a v) = IsWord (cast_unsigned w32 v)
HasWord other = Unit {0}

-- as many users, which fit
abbrev Fit : ℕ → List Flat → Given → Type 0
Fit most users g = (length g.users ≡ length users) × All (UserFits most) g.users

-- a page of a user lies among all pages
pub page_below : (per p u users : ℕ) → p < per → u < users → u * per + p < users * per
page_below per p u users lt le = grind arith

pub within : (low high : ℕ) (z : ℤ) → is_within low high z ≡ true → (low ≤ nat_abs z) × (nat_abs z ≤ high)
within low high (pos n) e = let p = and_parts (nat_le low n) (nat_le n high) e in (leb-true low n p.0, leb-true n high p.1)
within low high (negsuc n) e = absurd (cc)

tail : (b c : Bool) → (b && c) ≡ true → c ≡ true
tail true c e = e
tail false c e = absurd (cc)

placed : (f : Flat) (z : ℤ) (n : ℕ) → is_address f z n ≡ true → nat_abs z + 4 * n ≤ 4096 * pages_of f
placed f (pos a) n e = leb-true (a + 4 * n) (4096 * pages_of f) (tail (a % 4 == 0) (nat_le (a + 4 * n) (4096 * pages_of f)) e)
placed f (negsuc a) n e = absurd (cc)

one_fits : (most : ℕ) (users : List Flat) (u : ℕ) → All (UserFits most) users → 1 ≤ u → u ≤ length users → UserFits most (user_of users u)
one_fits most users u all from to = all (u - 1) no_flat (omega arith)

replaces : (most : ℕ) (users : List Flat) (u : ℕ) (f : Flat) → All (UserFits most) users → UserFits most f → (length (with_user users u f) ≡ length users) × All (UserFits most) (with_user users u f)
replaces most users u f all fits = (length-set users (u - 1) f, All-set (UserFits most) users (u - 1) f fits all)

register_fits : (most : ℕ) (f : Flat) (r v : ℕ) → UserFits most f → 1 ≤ r → IsWord v → UserFits most (with_register f r v)
register_fits most f r v fits from word = record {
  cpu = cond_both (r == 32) (record f.cpu { pc = v }) (record f.cpu { regs = slice_set f.cpu.regs r v }) CpuFits
      (λ _. record { pc = word; regs = fits.cpu.regs; hi = fits.cpu.hi; lo = fits.cpu.lo })
      (λ _. record {
        pc = fits.cpu.pc;
        regs = record { size = length-set f.cpu.regs r v ∙ fits.cpu.regs.size; each = All-set IsWord f.cpu.regs r v word fits.cpu.regs.each; none = get_or-set_other f.cpu.regs r 0 v 0 (λ e. absurd (omega arith)) ∙ fits.cpu.regs.none };
        hi = fits.cpu.hi;
        lo = fits.cpu.lo;
      });
  pages = fits.pages;
  whole = fits.whole;
  words = fits.words;
}

resized_fits : (most : ℕ) (f : Flat) (p : ℕ) → UserFits most f → p ≤ most → UserFits most (resized f p)
resized_fits most f p fits le =
    let size : length (resized f p).words ≡ 1024 * p = length-append (take (1024 * p) f.words) (replicate (1024 * p - length f.words) 0) ∙ omega (arith, length-take (1024 * p) f.words, length-replicate {A = ℕ} (1024 * p - length f.words) 0) in
    record {
      cpu = fits.cpu;
      pages = omega arith;
      whole = omega arith;
      words = All-append IsWord (take (1024 * p) f.words) (replicate (1024 * p - length f.words) 0) (All-take IsWord (1024 * p) f.words fits.words) (All-replicate IsWord (1024 * p - length f.words) 0 (omega arith));
    }

sized_fits : (most : ℕ) (f : Flat) (words : List ℕ) → UserFits most f → length words ≡ length f.words → All IsWord words → UserFits most (record f { words = words })
sized_fits most f words fits size all = let pages = fits.pages in let whole = fits.whole in record { cpu = fits.cpu; pages = omega arith; whole = omega arith; words = all }

word_fits : (most : ℕ) (f : Flat) (a v : ℕ) → UserFits most f → IsWord v → UserFits most (with_word f a v)
word_fits most f a v fits word = sized_fits most f (slice_set f.words (a / 4) v) fits (length-set f.words (a / 4) v) (All-set IsWord f.words (a / 4) v word fits.words)

words_fit : (most : ℕ) (f : Flat) (a : ℕ) (new : List ℕ) → UserFits most f → a / 4 + length new ≤ length f.words → All IsWord new → UserFits most (with_words f a new)
words_fit most f a new fits le all = sized_fits most f (take (a / 4) f.words ++ (new ++ drop (a / 4 + length new) f.words)) fits
    (length-append (take (a / 4) f.words) (new ++ drop (a / 4 + length new) f.words) ∙ omega (arith, length-append new (drop (a / 4 + length new) f.words), length-take (a / 4) f.words, length-drop (a / 4 + length new) f.words))
    (All-append IsWord (take (a / 4) f.words) (new ++ drop (a / 4 + length new) f.words) (All-take IsWord (a / 4) f.words fits.words)
    (All-append IsWord new (drop (a / 4 + length new) f.words) all (All-drop IsWord (a / 4 + length new) f.words fits.words)))

-- five tests, of which all but the last are told
five : (a b c d e : Bool) → (a && b && c && d && e) ≡ true → (a ≡ true) × (b ≡ true) × (c ≡ true) × (d ≡ true)
five true true true true e h = (refl, refl, refl, refl)
five true true true false e h = absurd (cc)
five true true false d e h = absurd (cc)
five true false c d e h = absurd (cc)
five false b c d e h = absurd (cc)

module _ (most : ℕ) (users : List Flat) (o : Console) (all : All (UserFits most) users) where
  granted_fits : (call : KernelCall) → HasWord call → is_good most users call ≡ true → Fit most users (granted users o call)
  granted_fits (VmGet u r) w e = (refl, all)
  granted_fits (VmSet u r v) w e =
      let p = and_parts (is_within 1 (length users) u) (is_within 1 32 r) e in
      let a = within 1 (length users) u p.0 in let b = within 1 32 r p.1 in
      replaces most users (nat_abs u) (with_register (user_of users (nat_abs u)) (nat_abs r) (cast_unsigned w32 v)) all
      (register_fits most (user_of users (nat_abs u)) (nat_abs r) (cast_unsigned w32 v) (one_fits most users (nat_abs u) all a.0 a.1) b.0 w)
  granted_fits (VmSize u) w e = (refl, all)
  granted_fits (VmResize u pages) w e =
      let p = and_parts (is_within 1 (length users) u) (is_within 0 most pages) e in
      let a = within 1 (length users) u p.0 in let b = within 0 most pages p.1 in
      replaces most users (nat_abs u) (resized (user_of users (nat_abs u)) (nat_abs pages)) all (resized_fits most (user_of users (nat_abs u)) (nat_abs pages) (one_fits most users (nat_abs u) all a.0 a.1) b.1)
  granted_fits (VmWord u a) w e = (refl, all)
  granted_fits (VmPut u a v) w e =
      let p = and_parts (is_within 1 (length users) u) (is_address (user_of users (nat_abs u)) a 1) e in
      let q = within 1 (length users) u p.0 in
      replaces most users (nat_abs u) (with_word (user_of users (nat_abs u)) (nat_abs a) (cast_unsigned w32 v)) all
      (word_fits most (user_of users (nat_abs u)) (nat_abs a) (cast_unsigned w32 v) (one_fits most users (nat_abs u) all q.0 q.1) w)
  granted_fits (VmCopy u a v b (pos n)) w e =
      let f : Flat = user_of users (nat_abs v) in
      let p = five (is_within 1 (length users) u) (is_within 1 (length users) v) (is_address (user_of users (nat_abs u)) a n) (is_address f b n) (not (nat_abs u == nat_abs v && ranges_overlap (nat_abs a) (nat_abs b) n)) e in
      let r = within 1 (length users) u p.0 in let q = within 1 (length users) v p.1 in
      let place = placed f b n p.3 in
      let fits : UserFits most f = one_fits most users (nat_abs v) all q.0 q.1 in
      let whole = fits.whole in
      let source : UserFits most (user_of users (nat_abs u)) = one_fits most users (nat_abs u) all r.0 r.1 in
      let new : List ℕ = take n (drop (nat_abs a / 4) (user_of users (nat_abs u)).words) in
      replaces most users (nat_abs v) (with_words f (nat_abs b) new) all
      (words_fit most f (nat_abs b) new fits (omega (arith, length-take n (drop (nat_abs a / 4) (user_of users (nat_abs u)).words)))
      (All-take IsWord n (drop (nat_abs a / 4) (user_of users (nat_abs u)).words) (All-drop IsWord (nat_abs a / 4) (user_of users (nat_abs u)).words source.words)))
  granted_fits (VmCopy u a v b (negsuc n)) w e = absurd (cc)
  granted_fits (ConPut w') w e = (refl, all)
  granted_fits ConGet w e = (refl, all)
  granted_fits ConLeft w e = (refl, all)

  pub prim_fits : (call : KernelCall) → HasWord call → Fit most users (prim most call users o)
  prim_fits call w = cond_both (is_good most users call) (granted users o call) (unchanged users o (refused call) 0 0) (Fit most users) (λ e. granted_fits call w e) (λ _. (refl, all))
