-- What the words in an order and the numbers that lead to themselves tell of structs.
use Rattle.std.proofs.Common.{◌≡◌, inl, inr, ℕ, zero, suc, ◌+◌, ◌<◌, Bool, true, false, min, if◌then◌else◌, List, [], ◌∷◌, map, length, take, get_or, Option, None, Some, refl, sym, ap, ◌∙◌, subst, arith}
use Rattle.std.proofs.Math.ListN.{set}
use Rattle.std.proofs.lemmas.Bool.{false_from_ne_true, false≢true}
use Rattle.std.proofs.lemmas.List.{get_or-set_same, get_or-set_other, take_more}
use Rattle.c0_tree.specs.Tree.{CStruct}
use Rattle.c0_meaning.specs.Ty as ty
use Rattle.c0_meaning.specs.Env.{shape_of}
use Rattle.c0_meaning.specs.Words.{holds, HoldsAsTested, WordsAreThose, words}
use Rattle.c0_meaning.specs.Sizes.{WORDS_CAP, struct_sizes}
use Rattle.c0_name_check.specs.Structs.{listed_words}
use Rattle.c0_struct_sizes.specs.Graph.{IsIn}
use Rattle.c0_struct_sizes.specs.Parts.{fields_at, all_capped, AreWordsOf, AreWordsAmong, words_by_parts, TellsFirst, IsOrderOver, listed_turning}
use Rattle.c0_struct_sizes.proofs.WaysThroughGraphs.{equal, in_at, in_parts}
use Rattle.c0_struct_sizes.proofs.NumbersTellNames.{text_at, named_text, named_below, unnamed_fields, unnamed_words, nothing_held, held_leads, leads_held, loose_words, cyclic_words}

by_flag : (P : ℕ → Type 0) (b : Bool) (x y : ℕ) → (b ≡ true → P x) → (b ≡ false → P y) → P (if b then x else y)
by_flag P true x y f g = f refl
by_flag P false x y f g = g refl

mapped_same : {B : Type 0} (f g : List ℕ → B) (structs : List CStruct) → ((text : List ℕ) → f text ≡ g text) → map (λ x. f x.name.text) structs ≡ map (λ x. g x.name.text) structs
mapped_same f g [] h = refl
mapped_same {B} f g (s ∷ rest) h = ap (λ (b : B). b ∷ map (λ x. f x.name.text) rest) (h s.name.text) ∙ ap (λ (l : List B). g s.name.text ∷ l) (mapped_same f g rest h)

-- what is told of the texts of structs is told of their shapes
mapped_shapes : {B : Type 0} (f : List ℕ → B) (structs : List CStruct) → map (λ x. f x.name.text) structs ≡ map (λ s. f s.text) (map shape_of structs)
mapped_shapes f [] = refl
mapped_shapes {B} f (s ∷ rest) = ap (λ (l : List B). f s.name.text ∷ l) (mapped_shapes f rest)

mapped_at : (f : List ℕ → ℕ) (structs : List CStruct) (n : ℕ) → n < length structs → get_or (map (λ x. f x.name.text) structs) n 0 ≡ f (text_at structs n)
mapped_at f [] n h = absurd (omega arith)
mapped_at f (s ∷ rest) zero h = refl
mapped_at f (s ∷ rest) (suc n) h = mapped_at f rest n (omega arith)

module _ (number : List ℕ → Option ℕ) (structs : List CStruct) (told : TellsFirst number structs) (nodes : List ℕ) (turning : List Bool) (order : IsOrderOver number structs nodes turning) where
  -- the words of the next struct of the order are right where those before it are
  pub words_right : WordsAreThose → (sizes : List ℕ) (i : ℕ) → i < length nodes → AreWordsAmong number structs (take i nodes) sizes → AreWordsOf number structs (get_or nodes i 0) (words_by_parts number structs turning sizes (get_or nodes i 0))
  words_right laws sizes i lt right =
      let v : ℕ = get_or nodes i 0 in
      let low : v < length structs = order.within v (in_at nodes i lt) in
      by_flag (AreWordsOf number structs v) (get_or turning v false) 0 (min (all_capped number sizes (fields_at structs v)) WORDS_CAP)
      (λ e. cyclic_words number structs told laws v ((order.turns v low).0 e))
      (λ e. loose_words number structs told laws sizes v (λ l. false≢true (sym e ∙ (order.turns v low).1 l)) (λ j h. right j (order.first i j lt e h)))

  -- and so they are when they are set
  pub words_more : (sizes : List ℕ) (i count : ℕ) → length sizes ≡ length structs → i < length nodes → AreWordsOf number structs (get_or nodes i 0) count → AreWordsAmong number structs (take i nodes) sizes
      → AreWordsAmong number structs (take (i + 1) nodes) (set sizes (get_or nodes i 0) count)
  words_more sizes i count len lt here right v h =
      let u : ℕ = get_or nodes i 0 in
      let low : u < length structs = order.within u (in_at nodes i lt) in
      elim (equal v u) [
        | inl same ↦ subst (λ (x : ℕ). AreWordsOf number structs x (get_or (set sizes u count) x 0)) (sym same) (subst (AreWordsOf number structs u) (sym (get_or-set_same sizes u count 0 (omega arith))) here)
        | inr ne ↦
            subst (AreWordsOf number structs v) (sym (get_or-set_other sizes u v count 0 ne))
            (right v (elim (in_parts (take i nodes) (u ∷ []) v (subst (λ (l : List ℕ). IsIn l v) (take_more nodes i 0 lt) h)) [
              | inl before ↦ before
              | inr last ↦ elim last [ inl e ↦ absurd (ne (sym e)) | inr none ↦ absurd none ]
            ]))
      ]

  pub held_told : HoldsAsTested → (text : List ℕ) → listed_turning turning (number text) ≡ holds (map shape_of structs) text text
  held_told law text = by_number (number text) refl
    where
      by_flag_of : (v : ℕ) → number text ≡ Some v → (b : Bool) → get_or turning v false ≡ b → b ≡ holds (map shape_of structs) text text
      by_flag_of v e true m = sym ((law (map shape_of structs) text text).1 (leads_held number structs told ((order.turns v (named_below number structs told text v e)).0 m) text text e e))
      by_flag_of v e false m =
          sym (false_from_ne_true (holds (map shape_of structs) text text)
          (λ h. false≢true (sym m ∙ (order.turns v (named_below number structs told text v e)).1 (held_leads number structs told ((law (map shape_of structs) text text).0 h) v v e e))))

      by_number : (o : Option ℕ) → number text ≡ o → listed_turning turning (number text) ≡ holds (map shape_of structs) text text
      by_number None e =
          ap (listed_turning turning) e
          ∙ sym (false_from_ne_true (holds (map shape_of structs) text text) (λ h. nothing_held ((law (map shape_of structs) text text).0 h) (unnamed_fields number structs told text e)))
      by_number (Some v) e = ap (listed_turning turning) e ∙ by_flag_of v e (get_or turning v false) refl

  pub all_held_told : HoldsAsTested → map (λ x. listed_turning turning (number x.name.text)) structs ≡ map (λ x. holds (map shape_of structs) x.name.text x.name.text) structs
  all_held_told law = mapped_same (λ t. listed_turning turning (number t)) (λ t. holds (map shape_of structs) t t) structs (held_told law)

  module _ (sizes : List ℕ) (right : AreWordsAmong number structs nodes sizes) where
    words_of_named : (text : List ℕ) (n : ℕ) → number text ≡ Some n → listed_words sizes (number text) ≡ min (words (map shape_of structs) (ty.named text)) WORDS_CAP
    words_of_named text n e = ap (listed_words sizes) e ∙ right n (order.all n (named_below number structs told text n e)) text e

    pub words_told : (text : List ℕ) (n : ℕ) → number text ≡ Some n → get_or (map (λ x. listed_words sizes (number x.name.text)) structs) n 0 ≡ min (words (map shape_of structs) (ty.named text)) WORDS_CAP
    words_told text n e =
        mapped_at (λ t. listed_words sizes (number t)) structs n (named_below number structs told text n e)
        ∙ (ap (λ (t : List ℕ). listed_words sizes (number t)) (named_text number structs told text n e) ∙ words_of_named text n e)

    -- the list of words is the table
    pub table_told : WordsAreThose → map (λ x. listed_words sizes (number x.name.text)) structs ≡ struct_sizes (map shape_of structs)
    table_told laws =
        mapped_same (λ t. listed_words sizes (number t)) (λ t. min (words (map shape_of structs) (ty.named t)) WORDS_CAP) structs (λ text. by_number text (number text) refl)
        ∙ mapped_shapes (λ t. min (words (map shape_of structs) (ty.named t)) WORDS_CAP) structs
      where
        by_number : (text : List ℕ) (o : Option ℕ) → number text ≡ o → listed_words sizes (number text) ≡ min (words (map shape_of structs) (ty.named text)) WORDS_CAP
        by_number text None e = ap (listed_words sizes) e ∙ sym (unnamed_words number structs told laws text e)
        by_number text (Some n) e = words_of_named text n e
