-- No primitive takes more than 4,194,305 units, over users of at most 1,024 pages.
use Rattle.std.specs.Prelude.{ℤ, pos, negsuc, nat_abs, nat_le, ◌&&◌, ◌||◌, ◌==◌, not, if◌then◌else◌, All, Option, Some, None, option_and_then}
use Rattle.std.proofs.Common.{◌≡◌, inl, inr, ℕ, zero, suc, ◌+◌, ◌-◌, ◌*◌, ◌/◌, ◌%◌, ◌≤◌, Bool, true, false, List, length, refl, sym, subst, arith, true≢false}
use Rattle.std.proofs.lemmas.Bool.{and_parts, cases_lt, leb-true}
use Rattle.std.proofs.lemmas.List.{get_or_past}
use Rattle.mips_table.specs.Machine.{Console}
use Rattle.mips_table.specs.Flat.{Flat}
use Rattle.c0_meaning.specs.World.{call_cost}
use Rattle.cvm_model.specs.KernelMeaning.{Machines, ints_of, call_numbered, primitive_called}
use Rattle.cvm_model.specs.Primitives.{KernelCall, VmGet, VmSet, VmSize, VmResize, VmWord, VmPut, VmCopy, ConPut, ConGet, ConLeft, no_flat, user_of, pages_of, copy_pieces, is_within, is_address, ranges_overlap, is_good, refused, unchanged, granted, prim}
use Rattle.cvm_model.specs.Stands.{UserFits}
use Rattle.unit_runs.proofs.MeaningOnMachine.{MOST_UNITS, FewUnits}

-- a user's pages are few, and so are those of no user
pages_few : (most : ℕ) (users : List Flat) (i : ℕ) → All (UserFits most) users → pages_of (user_of users i) ≤ most
pages_few most users i fit = elim (cases_lt (i - 1) (length users)) as (λ c. pages_of (user_of users i) ≤ most) [
  | inl lt ↦ (fit (i - 1) no_flat lt).pages
  | inr ge ↦ let e : user_of users i ≡ no_flat = get_or_past users (i - 1) no_flat ge in subst (λ f. pages_of f ≤ most) (sym e) (omega arith)
]

pieces_few : (a b n : ℕ) → copy_pieces a b n ≤ n
pieces_few a b zero = omega arith
pieces_few a b (suc n) = let r = pieces_few a b n in by (n == 0 || (a / 4 + n) % 1024 == 0 || (b / 4 + n) % 1024 == 0) r
  where
    by : (c : Bool) → copy_pieces a b n ≤ n → copy_pieces a b n + (if c then 1 else 0) ≤ suc n
    by true r = omega (arith, r)
    by false r = omega (arith, r)

within_most : (most : ℕ) (p : ℤ) → is_within 0 most p ≡ true → nat_abs p ≤ most
within_most most (pos n) e = leb-true n most (and_parts (nat_le 0 n) (nat_le n most) e).1
within_most most (negsuc n) e = absurd (true≢false (sym e))

place_most : (f : Flat) (a : ℤ) (n : ℕ) → is_address f a n ≡ true → 4 * n ≤ 4096 * pages_of f
place_most f (pos a) n e = let h = leb-true (a + 4 * n) (4096 * pages_of f) (and_parts (a % 4 == 0) (nat_le (a + 4 * n) (4096 * pages_of f)) e).1 in omega (arith, h)
place_most f (negsuc a) n e = absurd (true≢false (sym e))

module _ (most : ℕ) (users : List Flat) (o : Console) (small : most ≤ 1024) (fit : All (UserFits most) users) where
  granted_few : (c : KernelCall) → is_good most users c ≡ true → (granted users o c).words + (granted users o c).pages ≤ 4194304
  granted_few (VmGet u r) e = omega arith
  granted_few (VmSet u r v) e = omega arith
  granted_few (VmSize u) e = omega arith
  granted_few (VmResize u p) e =
      let a = within_most most p (and_parts (is_within 1 (length users) u) (is_within 0 most p) e).1 in
      let b = pages_few most users (nat_abs u) fit in
      omega (arith, a, b, small)
  granted_few (VmWord u a) e = omega arith
  granted_few (VmPut u a v) e = omega arith
  granted_few (VmCopy u a v b (pos n)) e =
      let d = (and_parts _ (not (nat_abs u == nat_abs v && ranges_overlap (nat_abs a) (nat_abs b) n)) e).0 in
      let c = (and_parts _ (is_address (user_of users (nat_abs v)) b n) d).0 in
      let h = place_most (user_of users (nat_abs u)) a n (and_parts (is_within 1 (length users) u && is_within 1 (length users) v) (is_address (user_of users (nat_abs u)) a n) c).1 in
      let k = pages_few most users (nat_abs u) fit in
      let l = pieces_few (nat_abs a) (nat_abs b) n in
      omega (arith, h, k, l, small)
  granted_few (VmCopy u a v b (negsuc n)) e = absurd (true≢false (sym e))
  granted_few (ConPut w) e = omega arith
  granted_few ConGet e = omega arith
  granted_few ConLeft e = omega arith

  prim_few : (c : KernelCall) → (prim most c users o).words + (prim most c users o).pages ≤ 4194304
  prim_few c = by (is_good most users c) refl
    where
      by : (b : Bool) → is_good most users c ≡ b → (if b then granted users o c else unchanged users o (refused c) 0 0).words + (if b then granted users o c else unchanged users o (refused c) 0 0).pages ≤ 4194304
      by true e = granted_few c e
      by false e = omega arith

called_few : (v : Machines) (c : Option KernelCall) → v.most ≤ 1024 → All (UserFits v.most) v.users → (call_cost (primitive_called v c)).primitive ≤ MOST_UNITS
called_few v (Some c) small fit = let p = prim_few v.most v.users v.console small fit c in omega (arith, p)
called_few v None small fit = omega arith

pub few_units : FewUnits
few_units n vs v small fit = called_few v (option_and_then (call_numbered n) (ints_of vs)) small fit
