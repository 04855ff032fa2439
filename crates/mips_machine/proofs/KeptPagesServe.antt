-- A page that is kept serves each of its addresses: it does so where one of them was found in memory, and still does after a store to
-- any word but its entry.
use Rattle.std.proofs.Common.{◌≡◌, ◌≢◌, ℕ, ◌+◌, ◌*◌, ◌/◌, ◌%◌, ◌-◌, ◌<◌, ◌^◌, Bool, true, false, cond, length, length-set, get_or-set_other, slice_set, Option, Some, None, refl, sym, ap, ◌∙◌, subst, arith, lt-ltb}
use Rattle.std.specs.Prelude.{nat_lt, if◌then◌else◌, not, ◌&&◌, slice_index}
use Rattle.std.proofs.lemmas.Bool.{ltb-true, cond-true}
use Rattle.mips_table.specs.Processor.{is_aligned}
use Rattle.mips_table.specs.declared.special.TheConstants.{PTO, PTL}
use Rattle.mips_table.specs.Machine.{State, in_system, pte_address, is_valid, is_protected, located}
use Rattle.mips_machine.specs.declared.board.Page.{Page}
use Rattle.mips_machine.specs.Board.{Board, around}
use Rattle.mips_machine.specs.Stretch.{in_memory, place, KeepsPage}

-- where an address is, by the mode, by whether its entry serves, and by the entry's frame
abbrev spot : Bool → Bool → ℕ → ℕ → Option ℕ
spot sys test frame a = if sys then Some a else (if test then Some (frame * 4096 + a % 4096) else None)

in_range : (words p k : ℕ) → in_memory words (Some p) ≡ Some k → (p / 4 < words) × (p / 4 ≡ k)
in_range words p k e = by (nat_lt (p / 4) words) refl e
  where
    by : (b : Bool) → nat_lt (p / 4) words ≡ b → cond b (Some (p / 4)) None ≡ Some k → (p / 4 < words) × (p / 4 ≡ k)
    by true lt e = (ltb-true (p / 4) words lt, cc)
    by false lt e = cc

ranged : (words p k : ℕ) → p / 4 < words → p / 4 ≡ k → in_memory words (Some p) ≡ Some k
ranged words p k lt e = cond-true (nat_lt (p / 4) words) (Some (p / 4)) None (lt-ltb (p / 4) words lt) ∙ ap Some e

-- one address of a page that is in memory tells where the others are
spread : (sys test : Bool) (frame a b words n k : ℕ) → words ≡ 1024 * n → a / 4096 ≡ b / 4096 →
    in_memory words (spot sys test frame a) ≡ Some k → in_memory words (spot sys test frame b) ≡ Some (k / 1024 * 1024 + b % 4096 / 4)
spread true test frame a b words n k whole same e =
    let at = in_range words a k e in
    let lt = at.0 in
    let is = at.1 in
    ranged words b (k / 1024 * 1024 + b % 4096 / 4) (omega (arith, lt, whole, same)) (omega (arith, is, same))
spread false true frame a b words n k whole same e =
    let at = in_range words (frame * 4096 + a % 4096) k e in
    let lt = at.0 in
    let is = at.1 in
    ranged words (frame * 4096 + b % 4096) (k / 1024 * 1024 + b % 4096 / 4) (omega (arith, lt, whole, same)) (omega (arith, is, same))
spread false false frame a b words n k whole same e = cc

-- an aligned address that is in memory
aligned_place : (aligned : Bool) (o : Option ℕ) (words k : ℕ) → cond aligned (in_memory words o) None ≡ Some k → in_memory words o ≡ Some k
aligned_place true o words k e = e
aligned_place false o words k e = cc

-- what an access is to lies in memory
in_words : (words k : ℕ) (o : Option ℕ) → in_memory words o ≡ Some k → k < words
in_words words k None e = cc
in_words words k (Some p) e = let at = in_range words p k e in subst (λ m. m < words) at.1 at.0

pub lies_inside : (s : State) (address k : ℕ) → place s false address ≡ Some k → k < length s.memory
lies_inside s address k e = in_words (length s.memory) k (located s false address) (aligned_place (is_aligned address) (located s false address) (length s.memory) k e)

-- no address has the number of no page
pub none_serves : (b : Board) → KeepsPage (around b) (record { page = 2 ^ 32 - 1; first = 0; entry = 0 })
none_serves b = record {
  places = λ address low is _. absurd (omega (arith, low, is));
  entries = λ address low is. absurd (omega (arith, low, is));
  whole = omega arith;
}

module _ (b : Board) where
  abbrev sys : Bool
  sys = in_system b.special

  abbrev entry_of : ℕ → ℕ
  entry_of address = pte_address address (slice_index b.special PTO) / 4

  -- whether an entry serves a load from a page with this number
  abbrev serves_load : ℕ → ℕ → Bool
  serves_load number entry = nat_lt number (slice_index b.special PTL) && is_valid entry && not (false && is_protected entry)

  -- a page is kept where one of its addresses was found
  pub found_serves : (address word n : ℕ) → length b.memory ≡ 1024 * n → word < 2 ^ 32 → place (around b) false address ≡ Some word →
      KeepsPage (around b) (record { page = address / 4096; first = word / 1024 * 1024; entry = entry_of address })
  found_serves address word n whole low found =
      let at = aligned_place (is_aligned address) (located (around b) false address) (length b.memory) word found in
      record {
        places = λ other below same fits. (
            cond-true (is_aligned other) (in_memory (length b.memory) (located (around b) false other)) None fits
            ∙ ap (λ q. in_memory (length b.memory) (spot sys (serves_load q (entry_at q)) (entry_at q / 4096) other)) same
            ∙ spread sys (serves_load (address / 4096) (entry_at (address / 4096))) (entry_at (address / 4096) / 4096) address other (length b.memory) n word whole (sym same) at
            );
        entries = λ other below same. ap (λ q. (slice_index b.special PTO + 4 * q) % 2 ^ 32 / 4) same;
        whole = omega (arith, low);
      }
    where
      entry_at : ℕ → ℕ
      entry_at q = slice_index b.memory ((slice_index b.special PTO + 4 * q) % 2 ^ 32 / 4)

  -- a page is kept over a store to any word but its entry
  pub still_serves : (kept : Page) (k value : ℕ) → KeepsPage (around b) kept → kept.entry ≢ k → KeepsPage (around (record b { memory = slice_set b.memory k value })) kept
  still_serves kept k value serves apart = record {
    places = λ address low is fits. (
        let same : slice_index (slice_set b.memory k value) (entry_of address) ≡ slice_index b.memory (entry_of address) =
        get_or-set_other b.memory k (entry_of address) value 0 (subst (λ e. e ≢ k) (sym (serves.entries address low is)) apart) in
        ap (λ words. cond (is_aligned address) (in_memory words (located (around (record b { memory = slice_set b.memory k value })) false address)) None) (length-set b.memory k value)
        ∙ ap (λ e. cond (is_aligned address) (in_memory (length b.memory) (spot sys (serves_load (address / 4096) e) (e / 4096) address)) None) same
        ∙ serves.places address low is fits
        );
    entries = serves.entries;
    whole = serves.whole;
  }
