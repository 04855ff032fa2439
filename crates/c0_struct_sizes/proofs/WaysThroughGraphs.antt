-- Numbers in lists, values set at many places, and ways through a graph.
use Rattle.std.proofs.Common.{◌≡◌, ◌≢◌, ◌⊎◌, inl, inr, ℕ, zero, suc, ◌+◌, ◌-◌, ◌<◌, ◌≤◌, Bool, List, [], ◌∷◌, ◌++◌, length, drop, take, replicate, get_or, refl, sym, ap, ◌∙◌, subst, arith}
use Rattle.std.proofs.Math.ListN.{set, length-set}
use Rattle.std.proofs.Math.Seq.{take-length}
use Rattle.std.proofs.lemmas.Bool.{cases_lt}
use Rattle.std.proofs.lemmas.List.{take_more, get_or-set_same, get_or-set_other, get_or-replicate, get_or_past, length-replicate}
use Rattle.c0_struct_sizes.specs.Graph.{IsIn, Leads, by_edge, by_way, EdgesLead, edges_in, AreInside, IsOrder, IsOrderOf}
use Rattle.c0_struct_sizes.specs.Walk.{set_all}

pub equal : (m n : ℕ) → ((m ≡ n) ⊎ (m ≢ n))
equal m n =
    elim (cases_lt m n) [
      | inl below ↦ inr (λ e. absurd (omega (arith, e)))
      | inr above ↦ elim (cases_lt n m) [ inl over ↦ inr (λ e. absurd (omega (arith, e))) | inr under ↦ inl (omega arith) ]
    ]

pub in_left : (xs ys : List ℕ) (w : ℕ) → IsIn xs w → IsIn (xs ++ ys) w
in_left [] ys w h = absurd h
in_left (x ∷ xs) ys w h = elim h [ inl e ↦ inl e | inr r ↦ inr (in_left xs ys w r) ]

pub in_right : (xs ys : List ℕ) (w : ℕ) → IsIn ys w → IsIn (xs ++ ys) w
in_right [] ys w h = h
in_right (x ∷ xs) ys w h = inr (in_right xs ys w h)

pub in_parts : (xs ys : List ℕ) (w : ℕ) → IsIn (xs ++ ys) w → (IsIn xs w ⊎ IsIn ys w)
in_parts [] ys w h = inr h
in_parts (x ∷ xs) ys w h =
    elim h [
      | inl e ↦ inl (inl e)
      | inr r ↦ elim (in_parts xs ys w r) [ inl a ↦ inl (inr a) | inr b ↦ inr b ]
    ]

-- where a number stands in a list, from a place on
pub record PlaceOf (xs : List ℕ) (start v : ℕ) : Type 0 where
  pub place : ℕ
  pub from : start ≤ place
  pub below : place < length xs
  pub at : get_or xs place 0 ≡ v

place_in : (xs : List ℕ) (v : ℕ) → IsIn xs v → PlaceOf xs 0 v
place_in [] v h = absurd h
place_in (x ∷ xs) v h =
    elim h [
      | inl e ↦ record { place = 0; from = omega arith; below = omega arith; at = e }
      | inr r ↦ let p = place_in xs v r in record { place = suc p.place; from = omega arith; below = omega arith; at = p.at }
    ]

pub place_of : (xs : List ℕ) (start v : ℕ) → IsIn (drop start xs) v → PlaceOf xs start v
place_of xs zero v h = place_in xs v h
place_of [] (suc s) v h = absurd h
place_of (x ∷ xs) (suc s) v h = let p = place_of xs s v h in record { place = suc p.place; from = omega arith; below = omega arith; at = p.at }

pub in_at : (xs : List ℕ) (i : ℕ) → i < length xs → IsIn xs (get_or xs i 0)
in_at [] i h = absurd (omega arith)
in_at (x ∷ xs) zero h = inl refl
in_at (x ∷ xs) (suc i) h = inr (in_at xs i (omega arith))

pub in_drop : (xs : List ℕ) (start i : ℕ) → start ≤ i → i < length xs → IsIn (drop start xs) (get_or xs i 0)
in_drop xs zero i le h = in_at xs i h
in_drop [] (suc s) i le h = absurd (omega arith)
in_drop (x ∷ xs) (suc s) zero le h = absurd (omega arith)
in_drop (x ∷ xs) (suc s) (suc i) le h = in_drop xs s i (omega arith) (omega arith)

-- what isn't the default stands in the list
pub seen_below : {A : Type 0} (xs : List A) (d : A) (v : ℕ) (k : A) → get_or xs v d ≡ k → (k ≡ d → ⊥) → v < length xs
seen_below xs d v k e seen = elim (cases_lt v (length xs)) [ inl below ↦ below | inr above ↦ absurd (seen (sym e ∙ get_or_past xs v d above)) ]

-- each of many the same is the same
pub replicate_at : {A : Type 0} (x : A) (n v : ℕ) → get_or (replicate n x) v x ≡ x
replicate_at x n v =
    let len : length (replicate n x) ≡ n = length-replicate n x in
    elim (cases_lt v n) [ inl below ↦ get_or-replicate n v x x below | inr above ↦ get_or_past (replicate n x) v x (omega arith) ]

-- a list that isn't empty is all but its last element, and that
pub last_split : (xs : List ℕ) → 0 < length xs → xs ≡ take (length xs - 1) xs ++ get_or xs (length xs - 1) 0 ∷ []
last_split xs h =
    let e : length xs ≡ (length xs - 1) + 1 = omega arith in
    sym (take-length xs) ∙ (ap (λ (n : ℕ). take n xs) e ∙ take_more xs (length xs - 1) 0 (omega arith))

pub length-set_all : {A : Type 0} (xs : List A) (is : List ℕ) (a : A) → length (set_all xs is a) ≡ length xs
length-set_all xs [] a = refl
length-set_all xs (i ∷ is) a = length-set_all (set xs i a) is a ∙ length-set xs i a

-- a value that was set at many places stands at these, and the others have what they had
pub set_all_cases : {A : Type 0} (xs : List A) (is : List ℕ) (a d : A) (v : ℕ) → v < length xs →
    ((IsIn is v × (get_or (set_all xs is a) v d ≡ a)) ⊎ ((IsIn is v → ⊥) × (get_or (set_all xs is a) v d ≡ get_or xs v d)))
set_all_cases xs [] a d v lt = inr ((λ h. h), refl)
set_all_cases xs (i ∷ is) a d v lt =
    let len : length (set xs i a) ≡ length xs = length-set xs i a in
    elim (set_all_cases (set xs i a) is a d v (omega arith)) [
      | inl p ↦ inl (inr p.0, p.1)
      | inr p ↦
          elim (equal i v) [
            | inl e ↦ inl (inl e, p.1 ∙ subst (λ (k : ℕ). get_or (set xs k a) v d ≡ a) (sym e) (get_or-set_same xs v a d lt))
            | inr ne ↦ inr ((λ h. elim h [ inl e ↦ ne e | inr r ↦ p.0 r ]), p.1 ∙ get_or-set_other xs i v a d (λ e. ne (sym e)))
          ]
    ]

module _ (edges : ℕ → List ℕ) where
  pub leads_on : {a b c : ℕ} → Leads edges a b → Leads edges b c → Leads edges a c
  leads_on (by_edge h) k = by_way h k
  leads_on (by_way h rest) k = by_way h (leads_on rest k)

  pub reaches_leads : (a b c : ℕ) → EdgesLead edges a b → Leads edges b c → Leads edges a c
  reaches_leads a b c h k = elim h [ inl e ↦ subst (λ (x : ℕ). Leads edges x c) (sym e) k | inr l ↦ leads_on l k ]

  pub leads_reaches : (a b c : ℕ) → Leads edges a b → EdgesLead edges b c → Leads edges a c
  leads_reaches a b c k h = elim h [ inl e ↦ subst (λ (x : ℕ). Leads edges a x) e k | inr l ↦ leads_on k l ]

  pub leads_edge : (a b c : ℕ) → Leads edges a b → IsIn (edges b) c → Leads edges a c
  leads_edge a b c k h = leads_on k (by_edge h)

-- what is known of listed edges is known of a graph that they are
module _ (edges : ℕ → List ℕ) (count : ℕ) (lists : List (List ℕ)) (same : (v : ℕ) → edges_in lists v ≡ edges v) (long : length lists ≡ count) where
  pub listed_inside : ((v w : ℕ) → IsIn (edges v) w → w < count) → AreInside lists
  listed_inside inside v w h = let lt : w < count = inside v w (subst (λ (ns : List ℕ). IsIn ns w) (same v) h) in omega arith

  pub listed_order : (nodes : List ℕ) (turning : List Bool) → IsOrderOf lists nodes turning → IsOrder edges count nodes turning
  listed_order nodes turning order =
      subst (λ (n : ℕ). IsOrder edges n nodes turning) long (subst (λ (e : ℕ → List ℕ). IsOrder e (length lists) nodes turning) (λ j v. same v j) order)
