-- The loaded machine is a start, and the sectors past the users' pages are loaded as they were.
use Rattle.std.proofs.Common.{◌≡◌, ◌≢◌, ℕ, ◌+◌, ◌-◌, ◌/◌, ◌%◌, ◌<◌, ◌≤◌, false, List, [], map, length, refl, sym, ap, ◌∙◌, subst, ⊎_elim, arith, le-ltb}
use Rattle.std.specs.Prelude.{nat_lt}
use Rattle.std.specs.List.{range_with_len}
use Rattle.std.proofs.lemmas.Bool.{cases_eq, cases_lt, cond-false}
use Rattle.std.proofs.lemmas.List.{get_or_past, length-map}
use Rattle.std.proofs.lemmas.List.FromFn.{get_or-map-range_with_len, length-map-range_with_len}
use Rattle.std.proofs.Math.Nat.{le-div_iff_mul-le}
use Rattle.mips_table.specs.Device.{sector_of}
use Rattle.mips_table.specs.Flat.{Flat}
use Rattle.mips_table.specs.Machine.{step, run}
use Rattle.mips_table.specs.Fits.{NamesSector}
use Rattle.cvm_model.specs.Primitives.{user_of, pages_of, no_flat}
use Rattle.cvm_model.specs.Cvm.{first_core, first_flat}
use Rattle.cvm_model.specs.Paged.{pages_by}
use Rattle.layer_contract.specs.declared.entry.Entry.{Entry}
use Rattle.layer_contract.specs.declared.entry.Entry.TheVariants.{Dispatch, Primitive, Fault, Leave}
use Rattle.layer_contract.specs.Layer.{layer_entry, Inside, command_due}
use Rattle.layer_contract.specs.Follows.{LoadedResets, loaded, loaded_sector}
use Rattle.layer_contract.specs.Starts.{user_sectors, LoadedStarts, LoadedKeeps}

-- no entry is at address 0
pub none_at_zero : (e : Entry) (pc : ℕ) → pc ≡ 0 → pc ≢ layer_entry e
none_at_zero Dispatch pc z h = absurd (omega arith)
none_at_zero (Primitive k) pc z h = absurd (omega arith)
none_at_zero (Fault f) pc z h = absurd (omega arith)
none_at_zero Leave pc z h = absurd (omega arith)

pub loaded_starts : LoadedResets → LoadedStarts
unfolding step command_due
loaded_starts resets x y old fits =
    let there = resets x y old fits in
    record {
      on = refl;
      reset = refl;
      mode = refl;
      time = refl;
      mask = refl;
      some = omega arith;
      inside = λ j from to. let e : 1 ≡ j = omega arith in subst (λ j. Inside (run x (loaded y old) j)) e there.inside;
      apart = λ j e lt is. let z : 0 ≡ j = omega arith in subst (λ j. (run x (loaded y old) j).cpu.pc ≢ layer_entry e) z (none_at_zero e 0 refl);
      named = λ j lt. let z : 0 ≡ j = omega arith in subst (λ j. NamesSector (user_sectors y) (command_due x (run x (loaded y old) j))) z tt;
      sectors = λ j le q from. ⊎_elim
          (λ z. ap (λ j. sector_of (run x (loaded y old) j).device.sectors q) z)
          (λ some. let e : j ≡ 1 = omega (arith, le, some) in ap (λ j. sector_of (run x (loaded y old) j).device.sectors q) e)
          (cases_eq j 0);
      users = omega arith;
      there = there;
    }

-- a number past all users is no page
dead : (per : ℕ) (users : List Flat) (q : ℕ) → length users ≤ q / per → (pages_by per users).live q ≡ false
dead per users q h =
    let none : user_of users (q / per + 1) ≡ no_flat = get_or_past users (q / per + 1 - 1) no_flat (omega (arith, h)) in
    ap (λ f. nat_lt (q % per) (pages_of f)) none ∙ le-ltb (q % per) 0 (omega arith)

pub loaded_keeps : LoadedKeeps
loaded_keeps x y old fits q le =
    let some : 1 ≤ y.boot.params.pages = fits.range.params.a_page in
    let per : ℕ = y.boot.params.pages in
    let many = length-map y.boot.users first_flat in
    let up : length y.boot.users ≤ q / y.boot.params.pages = (le-div_iff_mul-le {k = y.boot.params.pages} {x = length y.boot.users} {y = q} some).1 le in
    let past : (pages_by y.boot.params.pages (first_core y).users).live q ≡ false = dead y.boot.params.pages (first_core y).users q (omega (arith, many, up)) in
    ⊎_elim
    (λ (lt : q < length old). get_or-map-range_with_len (loaded_sector y old) 0 (length old) q q [] lt (omega arith) ∙ cond-false ((pages_by y.boot.params.pages (first_core y).users).live q) _ _ past)
    (λ (ge : length old ≤ q). let n = length-map-range_with_len (loaded_sector y old) 0 (length old) in
    get_or_past (map (loaded_sector y old) (range_with_len 0 (length old))) q [] (omega (arith, n, ge)) ∙ sym (get_or_past old q [] ge))
    (cases_lt q (length old))
