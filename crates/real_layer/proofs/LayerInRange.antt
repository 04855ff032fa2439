-- The instructions of the layer's code are in range: one test over a list, which computes but for the numbers of the map.
use Rattle.std.proofs.Common.{◌≡◌, ℕ, ◌+◌, ◌*◌, ◌/◌, ◌%◌, ◌<◌, ◌≤◌, Bool, true, false, ◌&&◌, nat_lt, List, [], ◌∷◌, All, arith, lt-ltb, ltb-true}
use Rattle.std.proofs.lemmas.Bool.{and_parts}
use Rattle.std.proofs.lemmas.List.Elements.{All-nil, All-cons}
use Rattle.mips_table.specs.declared.inst.Inst.{Inst}
use Rattle.mips_table.specs.declared.inst.Inst.TheVariants.{Sll, Srl, Jr, Addu, Subu, Sltu, J, Beq, Bne, Addiu, Sltiu, Ori, Lui, Mfc0, Mtc0, Eret, Lw, Sw, Multu, Mfhi, Mthi, Mflo, Mtlo}
use Rattle.mips_table.specs.Encoding.{InRange}
use Rattle.layer_map.specs.Map.{Map, MapInRange}
use Rattle.page_model.specs.TableLayout.{TableLayout, table_layout}
use Rattle.real_layer.specs.Image.{interrupt_code, routines, code_joined}
use Rattle.real_layer.proofs.StandsByFunctions.{Order, order_of}

abbrev three : ℕ → ℕ → ℕ → Bool
three a b c = nat_lt a 32 && (nat_lt b 32 && nat_lt c 32)

abbrev offset : ℕ → ℕ → ℕ → Bool
offset a b n = nat_lt a 32 && (nat_lt b 32 && nat_lt n 65536)

-- the instructions that the layer uses, in range
abbrev pub fits : Inst → Bool
fits (Sll rd rt sa) = three rd rt sa
fits (Srl rd rt sa) = three rd rt sa
fits (Jr rs) = nat_lt rs 32
fits (Addu rd rs rt) = three rd rs rt
fits (Subu rd rs rt) = three rd rs rt
fits (Sltu rd rs rt) = three rd rs rt
fits (J index) = nat_lt index 67108864
fits (Beq rs rt imm) = offset rs rt imm
fits (Bne rs rt imm) = offset rs rt imm
fits (Addiu rt rs imm) = offset rt rs imm
fits (Sltiu rt rs imm) = offset rt rs imm
fits (Ori rt rs imm) = offset rt rs imm
fits (Lui rt imm) = nat_lt rt 32 && nat_lt imm 65536
fits (Mfc0 rt special) = nat_lt rt 32 && nat_lt special 9
fits (Mtc0 rt special) = nat_lt rt 32 && nat_lt special 9
fits Eret = true
fits (Lw rt rs imm) = offset rt rs imm
fits (Sw rt rs imm) = offset rt rs imm
fits (Multu rs rt) = nat_lt rs 32 && nat_lt rt 32
fits (Mfhi rd) = nat_lt rd 32
fits (Mthi rs) = nat_lt rs 32
fits (Mflo rd) = nat_lt rd 32
fits (Mtlo rs) = nat_lt rs 32
fits other = false

two_in : (a b n m : ℕ) → (nat_lt a n && nat_lt b m) ≡ true → (a < n) × (b < m)
two_in a b n m e = let p = and_parts (nat_lt a n) (nat_lt b m) e in (ltb-true a n p.0, ltb-true b m p.1)

three_in : (a b c n : ℕ) → (nat_lt a 32 && (nat_lt b 32 && nat_lt c n)) ≡ true → (a < 32) × (b < 32) × (c < n)
three_in a b c n e = let p = and_parts (nat_lt a 32) (nat_lt b 32 && nat_lt c n) e in let q = two_in b c 32 n p.1 in (ltb-true a 32 p.0, q.0, q.1)

special_in : (a b : ℕ) → (nat_lt a 32 && nat_lt b 9) ≡ true → (a < 32) × (b ≤ 8)
special_in a b e = let p = two_in a b 32 9 e in let q = p.1 in (p.0, omega arith)

pub fits_in : (i : Inst) → fits i ≡ true → InRange i
fits_in (Sll rd rt sa) e = three_in rd rt sa 32 e
fits_in (Srl rd rt sa) e = three_in rd rt sa 32 e
fits_in (Jr rs) e = ltb-true rs 32 e
fits_in (Addu rd rs rt) e = three_in rd rs rt 32 e
fits_in (Subu rd rs rt) e = three_in rd rs rt 32 e
fits_in (Sltu rd rs rt) e = three_in rd rs rt 32 e
fits_in (J index) e = ltb-true index 67108864 e
fits_in (Beq rs rt imm) e = three_in rs rt imm 65536 e
fits_in (Bne rs rt imm) e = three_in rs rt imm 65536 e
fits_in (Addiu rt rs imm) e = three_in rt rs imm 65536 e
fits_in (Sltiu rt rs imm) e = three_in rt rs imm 65536 e
fits_in (Ori rt rs imm) e = three_in rt rs imm 65536 e
fits_in (Lui rt imm) e = two_in rt imm 32 65536 e
fits_in (Mfc0 rt special) e = special_in rt special e
fits_in (Mtc0 rt special) e = special_in rt special e
fits_in Eret e = tt
fits_in (Lw rt rs imm) e = three_in rt rs imm 65536 e
fits_in (Sw rt rs imm) e = three_in rt rs imm 65536 e
fits_in (Multu rs rt) e = two_in rs rt 32 32 e
fits_in (Mfhi rd) e = ltb-true rd 32 e
fits_in (Mthi rs) e = ltb-true rs 32 e
fits_in (Mflo rd) e = ltb-true rd 32 e
fits_in (Mtlo rs) e = ltb-true rs 32 e
fits_in other e = absurd (cc)

-- all of a list are
abbrev pub all_fit : List Inst → Bool
all_fit [] = true
all_fit (i ∷ is) = fits i && all_fit is

pub all_in : (is : List Inst) → all_fit is ≡ true → All InRange is
all_in [] e = All-nil InRange
all_in (i ∷ is) e = let p = and_parts (fits i) (all_fit is) e in All-cons InRange i is (fits_in i p.0) (all_in is p.1)

-- the numbers of a map that instructions hold fit
pub record Fields (p : TableLayout) (users per : ℕ) : Type 0 where
  pub tables_high : nat_lt (4 * p.tables / 65536) 65536 ≡ true
  pub tables_low : nat_lt (4 * p.tables % 65536) 65536 ≡ true
  pub end_high : nat_lt (4 * (p.tables + p.layout.pages) / 65536) 65536 ≡ true
  pub end_low : nat_lt (4 * (p.tables + p.layout.pages) % 65536) 65536 ≡ true
  pub counts_high : nat_lt (4 * p.counts / 65536) 65536 ≡ true
  pub counts_low : nat_lt (4 * p.counts % 65536) 65536 ≡ true
  pub zeros_high : nat_lt (p.layout.zeros / 65536) 65536 ≡ true
  pub zeros_low : nat_lt (p.layout.zeros % 65536) 65536 ≡ true
  pub first_high : nat_lt (4096 * (p.layout.zeros + 1) / 65536) 65536 ≡ true
  pub first_low : nat_lt (4096 * (p.layout.zeros + 1) % 65536) 65536 ≡ true
  pub fresh_high : nat_lt ((4096 * p.layout.zeros + 3072) / 65536) 65536 ≡ true
  pub fresh_low : nat_lt ((4096 * p.layout.zeros + 3072) % 65536) 65536 ≡ true
  pub frames : nat_lt p.layout.frames 65536 ≡ true
  pub user_count : nat_lt users 65536 ≡ true
  pub page_count : nat_lt per 65536 ≡ true
  pub more : nat_lt (per + 1) 65536 ≡ true

pub fields_of : (m : Map) → MapInRange m → Fields (table_layout m) m.users m.params.pages
fields_of m r =
    let o : Order m = order_of m r in
    let globals = o.globals in let heap = o.heap in let stack = o.stack in let tables = o.tables in let counts = o.counts in let zeros = o.zeros in let most = o.most in let whole = o.whole in
    let frames = r.params.frames in let users = r.users in let per = r.params.pages in
    record {
      tables_high = lt-ltb _ _ (omega arith);
      tables_low = lt-ltb _ _ (omega arith);
      end_high = lt-ltb _ _ (omega arith);
      end_low = lt-ltb _ _ (omega arith);
      counts_high = lt-ltb _ _ (omega arith);
      counts_low = lt-ltb _ _ (omega arith);
      zeros_high = lt-ltb _ _ (omega arith);
      zeros_low = lt-ltb _ _ (omega arith);
      first_high = lt-ltb _ _ (omega arith);
      first_low = lt-ltb _ _ (omega arith);
      fresh_high = lt-ltb _ _ (omega arith);
      fresh_low = lt-ltb _ _ (omega arith);
      frames = lt-ltb _ _ (omega arith);
      user_count = lt-ltb _ _ (omega arith);
      page_count = lt-ltb _ _ (omega arith);
      more = lt-ltb _ _ (omega arith);
    }

pub handler_fits : (m : Map) → MapInRange m → all_fit (interrupt_code m) ≡ true
unfolding interrupt_code
handler_fits m r = let h : Fields (table_layout m) m.users m.params.pages = fields_of m r in simp (h.tables_high, h.tables_low, h.end_high, h.end_low, h.counts_high, h.counts_low, h.zeros_high, h.zeros_low, h.first_high, h.first_low, h.frames)

pub routines_fit : (m : Map) → MapInRange m → all_fit (code_joined (routines m)) ≡ true
unfolding routines
routines_fit m r = let h : Fields (table_layout m) m.users m.params.pages = fields_of m r in
    simp (h.tables_high, h.tables_low, h.end_high, h.end_low, h.counts_high, h.counts_low, h.zeros_high, h.zeros_low, h.first_high, h.first_low, h.fresh_high, h.fresh_low, h.frames, h.user_count, h.page_count, h.more)
