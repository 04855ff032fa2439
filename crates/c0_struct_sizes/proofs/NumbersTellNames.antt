-- What is told by numbers is told by names: one struct leads to another by numbers exactly where it holds it, and the words of its fields
-- by numbers are its words.
use Rattle.std.proofs.Common.{◌≡◌, inl, inr, ℕ, zero, suc, ◌+◌, ◌*◌, ◌<◌, Bool, true, min, cond, List, [], ◌∷◌, map, length, get_or, Option, None, Some, refl, sym, ap, ◌∙◌, subst, arith}
use Rattle.std.specs.Option.{option_to_list, option_map}
use Rattle.std.specs.Str.{bytes_eq}
use Rattle.std.proofs.lemmas.Bool.{or_cases, or_left, or_right, cases_Bool, cond-true, cond-false, false≢true}
use Rattle.std.proofs.lemmas.Slice.Eq.{bytes_eq-Decides}
use Rattle.c0_tree.specs.declared.tree.StructDef.{StructDef}
use Rattle.c0_tree.specs.View.{decl_view, struct_view}
use Rattle.c0_tree.specs.Tree.{CTy, int, bool, pointer, named, array, CDecl, CStruct}
use Rattle.c0_meaning.specs.Ty as ty
use Rattle.c0_meaning.specs.Ty.{ty_of}
use Rattle.c0_meaning.specs.Env.{Shape, Typed, shape_of, typed_of, first_named, fields_of}
use Rattle.c0_meaning.specs.Words.{is_made_of, shape_fields, have_field, has_field_of, StructHolds, by_field, by_part, words, all_words, WordsAreThose}
use Rattle.c0_meaning.proofs.CappedProducts.{capped_product}
use Rattle.c0_name_check.specs.Names.{number_named}
use Rattle.c0_meaning.specs.Sizes.{WORDS_CAP}
use Rattle.c0_name_check.specs.Structs.{listed_words, capped_words}
use Rattle.c0_struct_sizes.specs.Graph.{IsIn, Leads, by_edge, by_way, edges_in}
use Rattle.c0_struct_sizes.specs.Parts.{struct_number, parts, all_capped, fields_at, edges, AreWordsOf, TellsFirst}
use Rattle.c0_struct_sizes.proofs.WaysThroughGraphs.{in_left, in_right, in_parts}

-- the fields of a struct at its place
pub fields_there : (items : List StructDef) (v : ℕ) (d : StructDef) → v < length items → fields_at (map struct_view items) v ≡ map decl_view (get_or items v d).fields.items
fields_there [] v d h = absurd (omega arith)
fields_there (s ∷ rest) zero d h = refl
fields_there (s ∷ rest) (suc v) d h = fields_there rest v d (omega arith)

-- the parts of a struct by the list of those of all
pub parts_there : (number : List ℕ → Option ℕ) (structs : List CStruct) (v : ℕ) → edges_in (map (λ s. parts number s.fields) structs) v ≡ edges number structs v
parts_there number [] v = refl
parts_there number (s ∷ rest) zero = refl
parts_there number (s ∷ rest) (suc v) = parts_there number rest v

-- the name of the struct of a number
abbrev pub text_at : List CStruct → ℕ → List ℕ
text_at [] v = []
text_at (s ∷ rest) zero = s.name.text
text_at (s ∷ rest) (suc v) = text_at rest v

-- where the search for a name ends
record FoundAt (structs : List CStruct) (text : List ℕ) (k n : ℕ) : Type 0 where
  place : ℕ
  at : n ≡ k + place
  below : place < length structs
  same : text_at structs place ≡ text
  fields : fields_of (first_named (λ s. s.text) text k (map shape_of structs)) ≡ map typed_of (fields_at structs place)

found_at : (structs : List CStruct) (text : List ℕ) (k n : ℕ) → number_named (λ s. s.text) text k (map shape_of structs) ≡ Some n → FoundAt structs text k n
found_at [] text k n h = absurd cc
found_at (s ∷ rest) text k n h =
    let here : Option (ℕ × Shape) = Some (k, shape_of s) in
    let later : Option (ℕ × Shape) = first_named (λ s. s.text) text (suc k) (map shape_of rest) in
    elim (cases_Bool (bytes_eq s.name.text text)) [
      | inl e ↦
          let v : cond (bytes_eq s.name.text text) here later ≡ here = cond-true (bytes_eq s.name.text text) here later e in
          let w : ◌≡◌ {A = Option ℕ} (Some k) (Some n) = sym (ap (λ (o : Option (ℕ × Shape)). option_map (λ found. found.0) o) v) ∙ h in
          let q : k ≡ n = cc in
          record { place = 0; at = omega arith; below = omega arith; same = (bytes_eq-Decides s.name.text text).0 e; fields = ap fields_of v }
      | inr e ↦
          let v : cond (bytes_eq s.name.text text) here later ≡ later = cond-false (bytes_eq s.name.text text) here later e in
          let f = found_at rest text (suc k) n (sym (ap (λ (o : Option (ℕ × Shape)). option_map (λ found. found.0) o) v) ∙ h) in
          record { place = suc f.place; at = omega arith; below = omega arith; same = f.same; fields = ap fields_of v ∙ f.fields }
    ]

no_fields : (o : Option (ℕ × Shape)) → option_map (λ found. found.0) o ≡ None → fields_of o ≡ []
no_fields None h = refl
no_fields (Some p) h = absurd cc

in_option : (o : Option ℕ) (j : ℕ) → IsIn (option_to_list o) j → o ≡ Some j
in_option None j h = absurd h
in_option (Some i) j h = elim h [ inl e ↦ ap (λ (x : ℕ). Some x) e | inr none ↦ absurd none ]

-- the part of a field, by its number and by its name
part_number : (number : List ℕ → Option ℕ) (t : CTy) (x : List ℕ) (j : ℕ) → is_made_of x (ty_of t) ≡ true → number x ≡ Some j → struct_number number t ≡ Some j
part_number number int x j h e = absurd (false≢true h)
part_number number bool x j h e = absurd (false≢true h)
part_number number (pointer t) x j h e = absurd (false≢true h)
part_number number (named y) x j h e = subst (λ (z : List ℕ). number z ≡ Some j) (sym ((bytes_eq-Decides y.text x).0 h)) e
part_number number (array t n) x j h e = part_number number t x j h e

parts_number : (number : List ℕ → Option ℕ) (ds : List CDecl) (x : List ℕ) (j : ℕ) → have_field (map typed_of ds) x ≡ true → number x ≡ Some j → IsIn (parts number ds) j
parts_number number [] x j h e = absurd (false≢true h)
parts_number number (d ∷ rest) x j h e =
    elim (or_cases (is_made_of x (ty_of d.ty)) (have_field (map typed_of rest) x) h) [
      | inl here ↦
          in_left (option_to_list (struct_number number d.ty)) (parts number rest) j
          (subst (λ (o : Option ℕ). IsIn (option_to_list o) j) (sym (part_number number d.ty x j here e)) (inl refl))
      | inr later ↦ in_right (option_to_list (struct_number number d.ty)) (parts number rest) j (parts_number number rest x j later e)
    ]

-- a name that a number stands for
abbrev NamedPart : (List ℕ → Option ℕ) → ℕ → (List ℕ → Bool) → Type 0
NamedPart number j test = (x : List ℕ) × ((test x ≡ true) × (number x ≡ Some j))

part_name : (number : List ℕ → Option ℕ) (t : CTy) (j : ℕ) → struct_number number t ≡ Some j → NamedPart number j (λ x. is_made_of x (ty_of t))
part_name number int j h = absurd cc
part_name number bool j h = absurd cc
part_name number (pointer t) j h = absurd cc
part_name number (named y) j h = (y.text, ((bytes_eq-Decides y.text y.text).1 refl, h))
part_name number (array t n) j h = part_name number t j h

parts_name : (number : List ℕ → Option ℕ) (ds : List CDecl) (j : ℕ) → IsIn (parts number ds) j → NamedPart number j (λ x. have_field (map typed_of ds) x)
parts_name number [] j h = absurd h
parts_name number (d ∷ rest) j h =
    elim (in_parts (option_to_list (struct_number number d.ty)) (parts number rest) j h) [
      | inl here ↦
          let p = part_name number d.ty j (in_option (struct_number number d.ty) j here) in
          (p.0, (or_left (is_made_of p.0 (ty_of d.ty)) (have_field (map typed_of rest) p.0) p.1.0, p.1.1))
      | inr later ↦
          let p = parts_name number rest j later in
          (p.0, (or_right (is_made_of p.0 (ty_of d.ty)) (have_field (map typed_of rest) p.0) p.1.0, p.1.1))
    ]

-- what has no fields holds nothing
pub nothing_held : {shapes : List Shape} {a b : List ℕ} → StructHolds shapes a b → shape_fields shapes a ≡ [] → ⊥
nothing_held (by_field {owner} {x} h) none = false≢true (subst (λ (fs : List Typed). have_field fs x ≡ true) none h)
nothing_held (by_part {owner} {part} {x} h rest) none = false≢true (subst (λ (fs : List Typed). have_field fs part ≡ true) none h)

cap_sum : (a w x y c : ℕ) → a ≡ min w c → min x c ≡ min y c → min (a + x) c ≡ min (w + y) c
cap_sum a w x y c e f = omega arith

module _ (number : List ℕ → Option ℕ) (structs : List CStruct) (told : TellsFirst number structs) where
  found : (text : List ℕ) (v : ℕ) → number text ≡ Some v → FoundAt structs text 0 v
  found text v e = found_at structs text 0 v (sym (told text) ∙ e)

  pub named_fields : (text : List ℕ) (v : ℕ) → number text ≡ Some v → shape_fields (map shape_of structs) text ≡ map typed_of (fields_at structs v)
  named_fields text v e =
      let f = found text v e in
      let same : f.place ≡ v = omega arith in
      f.fields ∙ ap (λ (k : ℕ). map typed_of (fields_at structs k)) same

  pub named_text : (text : List ℕ) (v : ℕ) → number text ≡ Some v → text_at structs v ≡ text
  named_text text v e =
      let f = found text v e in
      let same : f.place ≡ v = omega arith in
      subst (λ (k : ℕ). text_at structs k ≡ text) same f.same

  pub named_below : (text : List ℕ) (v : ℕ) → number text ≡ Some v → v < length structs
  named_below text v e = let f = found text v e in omega arith

  pub unnamed_fields : (text : List ℕ) → number text ≡ None → shape_fields (map shape_of structs) text ≡ []
  unnamed_fields text e = no_fields (first_named (λ s. s.text) text 0 (map shape_of structs)) (sym (told text) ∙ e)

  -- edges lead to structs
  pub edge_below : (v u : ℕ) → IsIn (edges number structs v) u → u < length structs
  edge_below v u h = let p = parts_name number (fields_at structs v) u h in named_below p.0 u p.1.1

  -- a struct leads to each that it holds
  pub held_leads : {x y : List ℕ} → StructHolds (map shape_of structs) x y → (i j : ℕ) → number x ≡ Some i → number y ≡ Some j → Leads (edges number structs) i j
  held_leads (by_field {owner} {x} h) i j e f =
      by_edge (parts_number number (fields_at structs i) x j (subst (λ (fs : List Typed). have_field fs x ≡ true) (named_fields owner i e) h) f)
  held_leads (by_part {owner} {part} {x} h rest) i j e f = by_number (number part) refl (λ m g. held_leads rest m j g f)
    where
      by_number : (o : Option ℕ) → number part ≡ o → ((m : ℕ) → number part ≡ Some m → Leads (edges number structs) m j) → Leads (edges number structs) i j
      by_number None g on = absurd (nothing_held rest (unnamed_fields part g))
      by_number (Some m) g on = by_way (parts_number number (fields_at structs i) part m (subst (λ (fs : List Typed). have_field fs part ≡ true) (named_fields owner i e) h) g) (on m g)

  -- a struct holds each to which it leads
  pub leads_held : {i j : ℕ} → Leads (edges number structs) i j → (x y : List ℕ) → number x ≡ Some i → number y ≡ Some j → StructHolds (map shape_of structs) x y
  leads_held (by_edge {v} {w} h) x y e f =
      let p = parts_name number (fields_at structs v) w h in
      let same : p.0 ≡ y = sym (named_text p.0 w p.1.1) ∙ named_text y w f in
      by_field (subst (λ (z : List ℕ). has_field_of (map shape_of structs) x z ≡ true) same
      (subst (λ (fs : List Typed). have_field fs p.0 ≡ true) (sym (named_fields x v e)) p.1.0))
  leads_held (by_way {v} {u} {w} h rest) x y e f =
      let p = parts_name number (fields_at structs v) u h in
      by_part {part = p.0} (subst (λ (fs : List Typed). have_field fs p.0 ≡ true) (sym (named_fields x v e)) p.1.0) (leads_held rest p.0 y p.1.1 f)

  -- a name without a number has no words
  pub unnamed_words : WordsAreThose → (text : List ℕ) → number text ≡ None → min (words (map shape_of structs) (ty.named text)) WORDS_CAP ≡ 0
  unnamed_words laws text e =
      ap (λ (k : ℕ). min k WORDS_CAP)
      (laws.fields (map shape_of structs) text (λ held. nothing_held held (unnamed_fields text e)) ∙ ap (all_words (map shape_of structs)) (unnamed_fields text e))

  -- the words of a type by the words of its struct
  pub capped_right : WordsAreThose → (sizes : List ℕ) (t : CTy) → ((j : ℕ) → struct_number number t ≡ Some j → AreWordsOf number structs j (get_or sizes j 0)) → capped_words number sizes t ≡ min (words (map shape_of structs) (ty_of t)) WORDS_CAP
  capped_right laws sizes int h = refl
  capped_right laws sizes bool h = refl
  capped_right laws sizes (pointer t) h = refl
  capped_right laws sizes (named x) h = by_number (number x.text) refl
    where
      by_number : (o : Option ℕ) → number x.text ≡ o → listed_words sizes (number x.text) ≡ min (words (map shape_of structs) (ty.named x.text)) WORDS_CAP
      by_number None e = ap (listed_words sizes) e ∙ sym (unnamed_words laws x.text e)
      by_number (Some n) e = ap (listed_words sizes) e ∙ h n e x.text e
  capped_right laws sizes (array t n) h =
      ap (λ (k : ℕ). min (k * n) WORDS_CAP) (capped_right laws sizes t h) ∙ capped_product (words (map shape_of structs) (ty_of t)) n WORDS_CAP

  pub all_capped_right : WordsAreThose → (sizes : List ℕ) (ds : List CDecl) → ((j : ℕ) → IsIn (parts number ds) j → AreWordsOf number structs j (get_or sizes j 0)) → min (all_capped number sizes ds) WORDS_CAP ≡ min (all_words (map shape_of structs) (map typed_of ds)) WORDS_CAP
  all_capped_right laws sizes [] h = refl
  all_capped_right laws sizes (d ∷ rest) h =
      cap_sum (capped_words number sizes d.ty) (words (map shape_of structs) (ty_of d.ty)) (all_capped number sizes rest) (all_words (map shape_of structs) (map typed_of rest)) WORDS_CAP
      (capped_right laws sizes d.ty
      (λ j e. h j (in_left (option_to_list (struct_number number d.ty)) (parts number rest) j (subst (λ (o : Option ℕ). IsIn (option_to_list o) j) (sym e) (inl refl)))))
      (all_capped_right laws sizes rest (λ j i. h j (in_right (option_to_list (struct_number number d.ty)) (parts number rest) j i)))

  -- the words of a struct that doesn't lead to itself are those of its fields
  pub loose_words : WordsAreThose → (sizes : List ℕ) (v : ℕ) → (Leads (edges number structs) v v → ⊥) → ((j : ℕ) → IsIn (edges number structs v) j → AreWordsOf number structs j (get_or sizes j 0)) → AreWordsOf number structs v (min (all_capped number sizes (fields_at structs v)) WORDS_CAP)
  loose_words laws sizes v loose right text e =
      all_capped_right laws sizes (fields_at structs v) right
      ∙ ap (λ (k : ℕ). min k WORDS_CAP)
      (sym (laws.fields (map shape_of structs) text (λ held. loose (held_leads held v v e e)) ∙ ap (all_words (map shape_of structs)) (named_fields text v e)))

  -- a struct that leads to itself has none
  pub cyclic_words : WordsAreThose → (v : ℕ) → Leads (edges number structs) v v → AreWordsOf number structs v 0
  cyclic_words laws v leads text e = sym (ap (λ (k : ℕ). min k WORDS_CAP) (laws.cycle (map shape_of structs) text (leads_held leads text text e e)))
