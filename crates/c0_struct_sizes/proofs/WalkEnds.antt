-- Where a walk begins and ends: it begins with nothing met, and at its end all numbers are done.
use Rattle.std.proofs.Common.{◌≡◌, inl, inr, ℕ, zero, suc, ◌+◌, ◌<◌, ◌≤◌, false, List, [], ◌∷◌, length, replicate, refl, subst, arith}
use Rattle.std.proofs.lemmas.Bool.{cases_lt}
use Rattle.std.proofs.lemmas.List.{length-replicate, nil_from_length}
use Rattle.c0_struct_sizes.specs.declared.walk.Mark.{Mark}
use Rattle.c0_struct_sizes.specs.declared.walk.Mark.TheVariants.{Unseen, Open, Done}
use Rattle.c0_struct_sizes.specs.Graph.{IsIn, IsOrder}
use Rattle.c0_struct_sizes.specs.Walk.{WalkState, mark_of, IsWalk, mark_work, unseen_work, numbers_below, walk_start}
use Rattle.c0_struct_sizes.proofs.WaysThroughGraphs.{seen_below, in_left, in_right, in_parts, replicate_at}

below_in : (n v : ℕ) → v < n → IsIn (numbers_below n) v
below_in zero v lt = absurd (omega arith)
below_in (suc n) v lt =
    elim (cases_lt v n) [
      | inl below ↦ in_left (numbers_below n) (n ∷ []) v (below_in n v below)
      | inr above ↦ let same : n ≡ v = omega arith in in_right (numbers_below n) (n ∷ []) v (inl same)
    ]

in_below : (n v : ℕ) → IsIn (numbers_below n) v → v < n
in_below zero v h = absurd h
in_below (suc n) v h =
    elim (in_parts (numbers_below n) (n ∷ []) v h) [
      | inl before ↦ let lt : v < n = in_below n v before in omega arith
      | inr last ↦ elim last [ inl same ↦ omega (arith, same) | inr none ↦ absurd none ]
    ]

-- no more numbers are unseen than there are
unseen_few : (marks : List Mark) (k : ℕ) → unseen_work (λ x. 1) k marks ≤ length marks
unseen_few [] k = omega arith
unseen_few (m ∷ ms) k = let rest : unseen_work (λ x. 1) (suc k) ms ≤ length ms = unseen_few ms (suc k) in let one : mark_work m 1 ≤ 1 = at_most m in omega arith
  where
    at_most : (m : Mark) → mark_work m 1 ≤ 1
    at_most Unseen = omega arith
    at_most (Open q) = omega arith
    at_most Done = omega arith

pub first_is_walk : (edges : ℕ → List ℕ) (count : ℕ) → IsWalk edges count (walk_start count)
first_is_walk edges count =
    let unseen : (v : ℕ) → mark_of (replicate count Unseen) v ≡ Unseen = λ v. replicate_at Unseen count v in
    let len : length (replicate count Unseen) ≡ count = length-replicate count Unseen in
    let few : unseen_work (λ x. 1) 0 (replicate count Unseen) ≤ length (replicate count Unseen) = unseen_few (replicate count Unseen) 0 in
    record {
      marks = len;
      flags = length-replicate count false;
      few = omega arith;
      path = record {
        opened = λ i h. absurd (omega arith);
        placed = λ v q e. let f : mark_of (replicate count Unseen) v ≡ Unseen = unseen v in absurd cc;
        leads = λ i j lt h. absurd (omega arith);
      };
      done = record {
        closed = λ v w e h. let f : mark_of (replicate count Unseen) v ≡ Unseen = unseen v in absurd cc;
        turns = λ v e. let f : mark_of (replicate count Unseen) v ≡ Unseen = unseen v in absurd cc;
        all = λ v. ((λ e. let f : mark_of (replicate count Unseen) v ≡ Unseen = unseen v in absurd cc), (λ i. absurd i));
        first = λ i w h flag e. absurd (omega arith);
      };
      groups = λ k h. absurd (omega arith);
      order = λ k l lt h. absurd (omega arith);
      back = λ i h. absurd (omega arith);
      within = λ v h. in_below count v h;
      waiting = λ v lt e. below_in count v lt;
    }

-- where nothing is left all numbers are done
pub walk_ended : (edges : ℕ → List ℕ) (count : ℕ) (s : WalkState) → IsWalk edges count s → length s.todo + length s.groups ≡ 0 → IsOrder edges count s.listed s.turning
walk_ended edges count s w over = record {
  flags = w.flags;
  turns = λ v lt. w.done.turns v (done v lt);
  few = let le : length s.listed + length s.path + unseen_work (λ x. 1) 0 s.marks ≤ count = w.few in omega arith;
  all = λ v lt. (w.done.all v).0 (done v lt);
  within = λ v i. let low : v < length s.marks = seen_below s.marks Unseen v Done ((w.done.all v).1 i) (λ f. cc) in let len : length s.marks ≡ count = w.marks in omega arith;
  first = w.done.first;
}
  where
    by_mark : (v : ℕ) → v < count → (m : Mark) → mark_of s.marks v ≡ m → mark_of s.marks v ≡ Done
    by_mark v lt Unseen e = absurd (subst (λ (l : List ℕ). IsIn l v) (nil_from_length s.todo (omega arith)) (w.waiting v lt e))
    by_mark v lt (Open q) e =
        let p = w.path.placed v q e in
        let b = w.back q p.0 in
        let a : b.group < length s.groups = b.among in
        absurd (omega arith)
    by_mark v lt Done e = e

    done : (v : ℕ) → v < count → mark_of s.marks v ≡ Done
    done v lt = by_mark v lt (mark_of s.marks v) refl
