-- The test whether a struct holds another is the relation.
use Rattle.std.proofs.Common.{◌≡◌, ◌⊎◌, inl, inr, ℕ, suc, Bool, true, false, ◌&&◌, cond, List, [], ◌∷◌, map, Some, refl, sym, subst}
use Rattle.std.proofs.lemmas.Bool.{or_cases, or_left, or_right, and_parts, and_from, false≢true}
use Rattle.std.proofs.lemmas.Slice.Eq.{bytes_eq-Decides}
use Rattle.std.specs.Str.{bytes_eq}
use Rattle.c0_meaning.specs.Env.{Shape, first_named, fields_of}
use Rattle.c0_meaning.specs.Words.{have_field, has_field_of, StructHolds, by_field, by_part, holds_through, holds, HoldsAsTested}

-- what a held struct holds is held
pub holds_both : {structs : List Shape} {a b c : List ℕ} → StructHolds structs a b → StructHolds structs b c → StructHolds structs a c
holds_both (by_field h) k = by_part h k
holds_both (by_part h rest) k = by_part h (holds_both rest k)

-- what the test finds is held
found_held : (structs : List Shape) (parts : List (List ℕ)) (a b : List ℕ) → holds_through structs parts a b ≡ true → StructHolds structs a b
found_held structs [] a b h = by_field h
found_held structs (m ∷ ms) a b h =
    elim (or_cases (holds_through structs ms a b) (holds_through structs ms a m && holds_through structs ms m b) h) [
      | inl here ↦ found_held structs ms a b here
      | inr there ↦
          let p = and_parts (holds_through structs ms a m) (holds_through structs ms m b) there in
          holds_both (found_held structs ms a m p.0) (found_held structs ms m b p.1)
    ]

-- a text is one of a list
abbrev pub Among : List (List ℕ) → List ℕ → Type 0
Among [] x = ⊥
Among (t ∷ ts) x = (t ≡ x) ⊎ Among ts x

-- what is held by a field is found
field_found : (structs : List Shape) (parts : List (List ℕ)) (a b : List ℕ) → has_field_of structs a b ≡ true → holds_through structs parts a b ≡ true
field_found structs [] a b h = h
field_found structs (m ∷ ms) a b h = or_left _ _ (field_found structs ms a b h)

-- one step further through the head of the list
by_way : (structs : List Shape) (m : List ℕ) (ms : List (List ℕ)) (a b : List ℕ) → holds_through structs ms a m ≡ true → holds_through structs ms m b ≡ true → holds_through structs (m ∷ ms) a b ≡ true
by_way structs m ms a b p q = or_right _ _ (and_from _ _ p q)

-- to the head of the list nothing is gained by it
to_head : (structs : List Shape) (m : List ℕ) (ms : List (List ℕ)) (a : List ℕ) → holds_through structs (m ∷ ms) a m ≡ true → holds_through structs ms a m ≡ true
to_head structs m ms a h =
    elim (or_cases (holds_through structs ms a m) (holds_through structs ms a m && holds_through structs ms m m) h) [
      | inl here ↦ here
      | inr there ↦ (and_parts (holds_through structs ms a m) (holds_through structs ms m m) there).0
    ]

-- from the head of the list nothing is gained by it
from_head : (structs : List Shape) (m : List ℕ) (ms : List (List ℕ)) (b : List ℕ) → holds_through structs (m ∷ ms) m b ≡ true → holds_through structs ms m b ≡ true
from_head structs m ms b h =
    elim (or_cases (holds_through structs ms m b) (holds_through structs ms m m && holds_through structs ms m b) h) [
      | inl here ↦ here
      | inr there ↦ (and_parts (holds_through structs ms m m) (holds_through structs ms m b) there).1
    ]

-- the test goes through each text of the list
goes_through : (structs : List Shape) (parts : List (List ℕ)) (a c b : List ℕ) → Among parts c → holds_through structs parts a c ≡ true → holds_through structs parts c b ≡ true → holds_through structs parts a b ≡ true
goes_through structs [] a c b among p q = absurd among
goes_through structs (m ∷ ms) a c b among p q =
    elim among [
      | inl same ↦
          by_way structs m ms a b
          (to_head structs m ms a (subst (λ (x : List ℕ). holds_through structs (m ∷ ms) a x ≡ true) (sym same) p))
          (from_head structs m ms b (subst (λ (x : List ℕ). holds_through structs (m ∷ ms) x b ≡ true) (sym same) q))
      | inr later ↦
          elim (or_cases (holds_through structs ms a c) (holds_through structs ms a m && holds_through structs ms m c) p) [
            | inl ac ↦
                elim (or_cases (holds_through structs ms c b) (holds_through structs ms c m && holds_through structs ms m b) q) [
                  | inl cb ↦ or_left _ _ (goes_through structs ms a c b later ac cb)
                  | inr cmb ↦
                      let w = and_parts (holds_through structs ms c m) (holds_through structs ms m b) cmb in
                      by_way structs m ms a b (goes_through structs ms a c m later ac w.0) w.1
                ]
            | inr amc ↦
                let v = and_parts (holds_through structs ms a m) (holds_through structs ms m c) amc in
                elim (or_cases (holds_through structs ms c b) (holds_through structs ms c m && holds_through structs ms m b) q) [
                  | inl cb ↦ by_way structs m ms a b v.0 (goes_through structs ms m c b later v.1 cb)
                  | inr cmb ↦
                      let w = and_parts (holds_through structs ms c m) (holds_through structs ms m b) cmb in
                      by_way structs m ms a b v.0 w.1
                ]
          ]
    ]

-- the search for a name finds only what is there
named_among : (structs : List Shape) (a x : List ℕ) (k : ℕ) → have_field (fields_of (first_named (λ s. s.text) a k structs)) x ≡ true → Among (map (λ s. s.text) structs) a
named_among [] a x k h = absurd (false≢true h)
named_among (s ∷ rest) a x k h =
    elim (bytes_eq s.text a) as (λ t. bytes_eq s.text a ≡ t → Among (map (λ s. s.text) (s ∷ rest)) a) [
      | true ↦ λ e. inl ((bytes_eq-Decides s.text a).0 e)
      | false ↦ λ e. inr (named_among rest a x (suc k)
          (subst (λ (t : Bool). have_field (fields_of (cond t (Some (k, s)) (first_named (λ s. s.text) a (suc k) rest))) x ≡ true) e h))
    ] refl

-- a struct that holds another is defined
pub holder_among : {structs : List Shape} {a b : List ℕ} → StructHolds structs a b → Among (map (λ s. s.text) structs) a
holder_among {structs} {a} (by_field {owner} {x} h) = named_among structs a x 0 h
holder_among {structs} {a} (by_part {owner} {part} {x} h rest) = named_among structs a part 0 h

-- what is held is found
held_found : {structs : List Shape} {a b : List ℕ} → StructHolds structs a b → holds_through structs (map (λ s. s.text) structs) a b ≡ true
held_found {structs} {a} {b} (by_field h) = field_found structs (map (λ s. s.text) structs) a b h
held_found {structs} {a} {b} (by_part {owner} {part} {x} h rest) =
    goes_through structs (map (λ s. s.text) structs) a part b (holder_among rest) (field_found structs (map (λ s. s.text) structs) a part h) (held_found rest)

pub holds_as_tested : HoldsAsTested
unfolding holds
holds_as_tested structs a b = (found_held structs (map (λ s. s.text) structs) a b, held_found)
