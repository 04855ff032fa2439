-- The size of a type that is written out is its words.
use Rattle.std.proofs.Common.{◌≡◌, inl, inr, ℕ, zero, suc, ◌*◌, List, [], ◌∷◌, length, map, refl, sym, ap, ◌∙◌, subst, arith}
use Rattle.std.specs.List.{All}
use Rattle.std.proofs.lemmas.List.Elements.{All-head, All-tail}
use Rattle.c0_tree.specs.Tree.{CStruct, CUnit}
use Rattle.c0_tree.specs.Primitives.{CPrimitive}
use Rattle.std.proofs.lemmas.Bool.{cond-false, false_from_ne_true}
use Rattle.c0_meaning.specs.Ty.{Ty, int, bool, pointer, named, array}
use Rattle.c0_meaning.specs.Env.{Typed, Shape, shape_of}
use Rattle.c0_meaning.specs.Words.{StructHolds, shape_fields, holds, words_with, all_words_with, words_within, struct_words, words}
use Rattle.c0_meaning.specs.OpenTy.{OpenTy, opened_with, all_opened_with, opened_within, opened, size, all_sizes, SizeIsWords}
use Rattle.c0_meaning.specs.Sound.{shapes}
use Rattle.c0_meaning.specs.Typed.{IsTypedStruct}
use Rattle.c0_meaning.specs.Unit.{IsWellFormed}
use Rattle.c0_meaning.proofs.StructHolding.{Among, holder_among, holds_as_tested}
use Rattle.c0_meaning.proofs.WellTypedUnits.{units_are_faultless}

module _ (made : List ℕ → OpenTy) (count : List ℕ → ℕ) (same : (x : List ℕ) → size (made x) ≡ count x) where
  size_with : (t : Ty) → size (opened_with made t) ≡ words_with count t
  size_with int = refl
  size_with bool = refl
  size_with (pointer t) = refl
  size_with (named x) = same x
  size_with (array t n) = ap (λ (k : ℕ). n * k) (size_with t)

  sizes_with : (ds : List Typed) → all_sizes (all_opened_with made ds) ≡ all_words_with count ds
  sizes_with [] = refl
  sizes_with (d ∷ rest) = let a = size_with d.ty in let b = sizes_with rest in omega arith

module _ (structs : List Shape) (loose : (x : List ℕ) → StructHolds structs x x → ⊥) where
  size_within : (depth : ℕ) (x : List ℕ) → size (opened_within depth structs x) ≡ words_within depth structs x
  size_within zero x = refl
  size_within (suc depth) x =
      sizes_with (opened_within depth structs) (words_within depth structs) (size_within depth) (shape_fields structs x)
      ∙ sym (cond-false (holds structs x x) 0 (all_words_with (words_within depth structs) (shape_fields structs x)) (false_from_ne_true (holds structs x x) (λ h. loose x ((holds_as_tested structs x x).0 h))))

-- a struct of a typed unit doesn't hold itself
loose_among : (structs : List Shape) (x : List ℕ) (all : List CStruct) → All (IsTypedStruct structs) all → Among (map (λ s. s.text) (map shape_of all)) x → StructHolds structs x x → ⊥
loose_among structs x [] h among = absurd among
loose_among structs x (s ∷ rest) h among =
    elim among [
      | inl same ↦ λ held. (All-head (IsTypedStruct structs) s rest h).loose (subst (λ (y : List ℕ). StructHolds structs y y) (sym same) held)
      | inr later ↦ loose_among structs x rest (All-tail (IsTypedStruct structs) s rest h) later
    ]

-- no struct of a well formed unit does
pub well_formed_loose : (primitives : List CPrimitive) (u : CUnit) → IsWellFormed primitives u → (x : List ℕ) → StructHolds (shapes u) x x → ⊥
well_formed_loose primitives u w x held =
    loose_among (shapes u) x u.structs ((units_are_faultless primitives u).1 w.typed).structs (holder_among held) held

loose_size : (structs : List Shape) → ((x : List ℕ) → StructHolds structs x x → ⊥) → (t : Ty) → size (opened structs t) ≡ words structs t
unfolding struct_words
loose_size structs loose t = size_with (opened_within (length structs) structs) (words_within (length structs) structs) (size_within structs loose (length structs)) t

pub size_is_words : SizeIsWords
size_is_words = record { loose = loose_size; well_formed = λ primitives u w. loose_size (shapes u) (well_formed_loose primitives u w) }
