-- Open code of typed tests is put together: a last branch, tests side by side, and a test that goes over another.
use Rattle.std.specs.Prelude.{map, All, OnOk, Result, Ok, Err}
use Rattle.std.proofs.Common.{◌≡◌, ℕ, ◌+◌, ◌-◌, ◌%◌, ◌^◌, ◌<◌, Bool, None, List, [], ◌∷◌, ◌++◌, length, sym, ap, ap₂, ◌∙◌, arith, length-append, subst}
use Rattle.mips_table.specs.declared.inst.Inst.{Inst}
use Rattle.mips_table.specs.Encoding.{encoding}
use Rattle.c0_tree.specs.declared.tree.BinaryOp.TheVariants.{Eq}
use Rattle.c0_typed.specs.declared.sorted.Order.{Order}
use Rattle.c0_typed.specs.Sorted.{order_of}
use Rattle.c0_expr_code.specs.Code.{Made}
use Rattle.c0_expr_code.specs.EmitTest.{StandsUnpatched}
use Rattle.c0_expr_code.specs.Jumps.{Unpatched, behind_unpatched, last_unpatched, joined_unpatched, patched}
use Rattle.c0_expr_code.specs.Test.{compare_test, immediate_test_of, plain_test}
use Rattle.c0_expr_code.proofs.PatchedIsTestCode.{AimsAt, EndsIn, assoc, compared, compared_order, eq, map_append, map_length, plain_ends, shifted, test_of}

on_ok : {A E : Type 0} (r : Result A E) (P Q : Type 0) → (P → Q) → OnOk r P → OnOk r Q
on_ok (Ok a) P Q f h = f h
on_ok (Err a) P Q f h = h

-- code that ends in a branch is some
some : (f : ℕ → List Inst) → EndsIn f → 0 < length (f 0)
some f h = let e = ap length (h.is 0) ∙ length-append h.before (h.branch 0 ∷ []) in omega (arith, e)

pub some_plain : (m : Made) (s : Bool) (r : ℕ) → 0 < length (plain_test m s 0 r)
some_plain m s r = some (λ far. plain_test m s far r) (plain_ends m s r)

pub some_order : (o : Order) (a b : Made) (s : Bool) (r : ℕ) → 0 < length (compare_test (immediate_test_of (order_of o) b.known) (order_of o) a b s 0 r)
some_order o a b s r =
    some (λ far. compare_test (immediate_test_of (order_of o) b.known) (order_of o) a b s far r)
    (compared (immediate_test_of (order_of o) b.known) (order_of o) a b s r (test_of (order_of o) b.known) (compared_order o))

pub some_equality : (a b : Made) (s : Bool) (r : ℕ) → 0 < length (compare_test None Eq a b s 0 r)
some_equality a b s r = some (λ far. compare_test None Eq a b s far r) (compared None Eq a b s r tt eq)

-- so many words stand then
pub count : (old new : List ℕ) (is : List Inst) → new ≡ old ++ map encoding is → length new ≡ length old + length is
count old new is e = ap length e ∙ length-append old (map encoding is) ∙ ap (λ n. length old + n) (map_length encoding is)

pub not_none : (old new seen : List ℕ) (is : List Inst) → 0 < length is → new ≡ old ++ map encoding is → seen ≡ new → 0 < length seen
not_none old new seen is h e v = let n = ap length v ∙ count old new is e in omega (arith, n, h)

-- the last word is noted
pub last : {A E : Type 0} (r : Result A E) (old new seen marked marks : List ℕ) (is : List Inst) → 0 < length is → new ≡ old ++ map encoding is → seen ≡ new
    → OnOk r (marks ≡ marked ++ (length seen - 1) ∷ []) → OnOk r (StandsUnpatched old new marked marks (last_unpatched is))
last r old new seen marked marks is h e v =
    let n = ap length v ∙ count old new is e in
    let p : length seen - 1 ≡ length old + (length is - 1) = omega (arith, n, h) in
    on_ok r _ _ (λ w. record { words = e; places = w ∙ ap (λ k. marked ++ k ∷ []) p })

-- two stand side by side
pub joined : (old mid new marked marks all : List ℕ) (x y : Unpatched) → StandsUnpatched old mid marked marks x → StandsUnpatched mid new marks all y → StandsUnpatched old new marked all (joined_unpatched x y)
joined old mid new marked marks all x y h k = record {
  words = k.words ∙ ap (λ l. l ++ map encoding y.code) h.words ∙ assoc old (map encoding x.code) (map encoding y.code) ∙ ap (λ l. old ++ l) (sym (map_append encoding x.code y.code));
  places =
      let n = count old mid x.code h.words in
      let there : map (λ j. length mid + j) y.jumps ≡ map (λ j. length old + j) (map (λ j. length x.code + j) y.jumps) = ap (λ m. map (λ j. m + j) y.jumps) n ∙ sym (shifted (length old) (length x.code) y.jumps) in
      k.places ∙ ap₂ (λ l m. l ++ m) h.places there ∙ assoc marked _ _ ∙ ap (λ l. marked ++ l) (sym (map_append (λ j. length old + j) x.jumps (map (λ j. length x.code + j) y.jumps)));
}

-- where the second of two stands, the result being that of both
pub then : {A E : Type 0} (r : Result A E) (old mid new marked marks all : List ℕ) (x y : Unpatched) → StandsUnpatched old mid marked marks x → OnOk r (StandsUnpatched mid new marks all y)
    → OnOk r (StandsUnpatched old new marked all (joined_unpatched x y))
then r old mid new marked marks all x y h = on_ok r _ _ (λ k. joined old mid new marked marks all x y h k)

module _ (x y : Unpatched) (f : ℕ → List Inst) (aims : AimsAt x f) (old mid new none over marked marks seen : List ℕ) (at_first : none ≡ [])
    (first : StandsUnpatched old mid none over x) (second : StandsUnpatched mid new marked marks y) (same : seen ≡ over) where
  -- the first test's branches
  aside : seen ≡ map (λ j. length old + j) x.jumps
  aside = same ∙ first.places ∙ ap (λ l. l ++ map (λ j. length old + j) x.jumps) at_first

  -- stand in the code
  pub there : All (λ j. j < length new) seen
  there =
      let n = count old mid x.code first.words in
      let m = count mid new y.code second.words in
      subst (All (λ j. j < length new)) (sym aside) (aims.within (length old) (length new) (omega (arith, n, m)))

  -- and, patched, they go over the second test
  pub over_it : (final : List ℕ) (end : ℕ) → end ≡ length new → end < 2 ^ 64 → final ≡ patched end seen new
      → StandsUnpatched old final marked marks (behind_unpatched (f (length y.code % 2 ^ 16)) y)
  over_it final end e short p =
      let far = length y.code % 2 ^ 16 in
      let n = count old mid x.code first.words in
      let m = count mid new y.code second.words in
      let whole : new ≡ old ++ (map encoding x.code ++ map encoding y.code) = second.words ∙ ap (λ l. l ++ map encoding y.code) first.words ∙ assoc old (map encoding x.code) (map encoding y.code) in
      let aim = aims.law far end old (map encoding y.code) (omega arith) (omega (arith, n, m, e, short)) (omega (arith, n, m, e)) in
      let many = aims.same far in
      record {
        words = p ∙ ap₂ (λ js ws. patched end js ws) aside whole ∙ aim ∙ ap (λ l. old ++ l) (sym (map_append encoding (f far) y.code));
        places =
            let k : length mid ≡ length old + length (f far) = n ∙ ap (λ i. length old + i) (sym many) in
            second.places ∙ ap (λ l. marked ++ l) (ap (λ i. map (λ j. i + j) y.jumps) k ∙ sym (shifted (length old) (length (f far)) y.jumps));
      }
