-- A text that is read as parameters spells them.
use Rattle.std.proofs.Common.{◌≡◌, ℕ, ◌<◌, ◌≤◌, ◌^◌, ◌||◌, inl, inr, Bool, true, false, cond, nat_lt, List, [], ◌∷◌, ◌++◌, length, take, drop, Option, Some, None, Result, Ok, Err, refl, sym, ap, ◌∙◌, subst, append-nil, arith}
use Rattle.std.specs.Prelude.{codes, decimal}
use Rattle.std.specs.Str.{bytes_eq}
use Rattle.std.specs.List.{join_with_byte}
use Rattle.std.proofs.lemmas.Bool.Decides.{nat_tests}
use Rattle.std.proofs.lemmas.List.{take-append-drop}
use Rattle.std.proofs.lemmas.Slice.Eq.{bytes_eq-Decides}
use Rattle.cvm_text.specs.Lines.{lines_of, number_spelled}
use Rattle.layer_map.specs.declared.params.Params.{Params}
use Rattle.system_files.specs.declared.fault.FileFault.{FileFault}
use Rattle.system_files.specs.declared.fault.FileFault.TheVariants.{Parameter}
use Rattle.system_files.specs.declared.params.Numbers.{Numbers}
use Rattle.cvm_words.specs.Reading.{◌>>=◌}
use Rattle.system_files.specs.Params.{number_in, number_on_line, next_number, at_the_end, numbers_of, ranged, params_in, params_of, AreInRange, Spells, spelling}
use Rattle.system_files.proofs.LinesOfTexts.{text_is}

-- a step that went well, and the one behind it
pub went : {A B : Type 0} (r : Result A FileFault) (f : A → Result B FileFault) (y : B) → r >>= f ≡ Ok y → (x : A) × (r ≡ Ok x) × (f x ≡ Ok y)
went (Ok x) f y e = (x, refl, e)
went (Err x) f y e = cc

-- a choice that went well was not taken
ranged_is : (b : Bool) (e : FileFault) (value x : ℕ) → cond b (Err e) (Ok value) ≡ Ok x → (b ≡ false) × (value ≡ x)
ranged_is true e value x h = cc
ranged_is false e value x h = (refl, cc)

-- a number in its range is that number
pub in_its_range : (which least most value x : ℕ) → ranged which least most value ≡ Ok x → (value ≡ x) × (least ≤ x) × (x ≤ most)
unfolding ranged
in_its_range which least most value x h =
    let r = ranged_is (nat_lt value least || nat_lt most value) (Parameter which value) value x h in
    let b = bounds value x r.1 r.0 in
    (r.1, b.0, b.1)
  where
    bounds : (value x : ℕ) → value ≡ x → (nat_lt value least || nat_lt most value) ≡ false → (least ≤ x) × (x ≤ most)
    bounds value x e h = (grind (arith, nat_tests), grind (arith, nat_tests))

-- the line of a number that was read
pub counted_is : (line : ℕ) (rest : List (List ℕ)) (o : Option ℕ) (x : ℕ × List (List ℕ)) → number_on_line line rest o ≡ Ok x → (o ≡ Some x.0) × (rest ≡ x.1)
counted_is line rest (Some n) x e = (cc, cc)
counted_is line rest None x e = cc

pub next_is : (line : ℕ) (beginning : List ℕ) (lines : List (List ℕ)) (x : ℕ × List (List ℕ)) → next_number line beginning lines ≡ Ok x
    → (text : List ℕ) × (lines ≡ text ∷ x.1) × (number_in beginning text ≡ Some x.0)
next_is line beginning [] x e = cc
next_is line beginning (text ∷ rest) x e = let c = counted_is line rest (number_in beginning text) x e in (text, ap (λ r. text ∷ r) c.1, c.0)

pub end_is : (lines : List (List ℕ)) (n m : Numbers) → at_the_end lines n ≡ Ok m → (lines ≡ []) × (n ≡ m)
end_is [] n m e = (refl, cc)
end_is (text ∷ rest) n m e = cc

taken : {X : Type 0} (b : Bool) (o : Option X) (y : X) → cond b o None ≡ Some y → (b ≡ true) × (o ≡ Some y)
taken true o y e = (refl, e)
taken false o y e = cc

-- the four lines of parameters
abbrev pub lines_for : Params → List (List ℕ)
lines_for p = (codes "pages " ++ decimal p.pages) ∷ (codes "frames " ++ decimal p.frames) ∷ (codes "heap " ++ decimal p.heap) ∷ (codes "stack " ++ decimal p.stack) ∷ []

-- a text with the four lines of parameters spells these
pub spells_of : (text : List ℕ) (p : Params) → lines_of text ≡ lines_for p → Spells text p
spells_of text p lines =
    elim (text_is text (lines_for p) lines) [
      | inl is ↦ inl (is ∙ no_end p)
      | inr is ↦ inr (is ∙ one_end p)
    ]
  where
    no_end : (p : Params) → join_with_byte 10 (lines_for p) ≡ spelling p []
    no_end p = ap (λ d. codes "pages " ++ (decimal p.pages ++ 10 ∷ (codes "frames " ++ (decimal p.frames ++ 10 ∷ (codes "heap " ++ (decimal p.heap ++ 10 ∷ (codes "stack " ++ d))))))) (sym (append-nil (decimal p.stack)))

    one_end : (p : Params) → join_with_byte 10 (lines_for p ++ [] ∷ []) ≡ spelling p (10 ∷ [])
    one_end p = refl

module _ (law : (word : List ℕ) (n : ℕ) → number_spelled word ≡ Some n → (n < 2 ^ 64) × (word ≡ decimal n)) where
  -- a line whose number was read
  pub line_is : (beginning text : List ℕ) (n : ℕ) → number_in beginning text ≡ Some n → (n < 2 ^ 64) × (text ≡ beginning ++ decimal n)
  unfolding number_in
  line_is beginning text n e =
      let t = taken (bytes_eq (take (length beginning) text) beginning) (number_spelled (drop (length beginning) text)) n e in
      let front = (bytes_eq-Decides (take (length beginning) text) beginning).0 t.0 in
      let back = law (drop (length beginning) text) n t.1 in
      (back.0, sym (take-append-drop (length beginning) text) ∙ ap (λ f. f ++ drop (length beginning) text) front ∙ ap (λ b. beginning ++ b) back.1)

  pub lines_are : (lines : List (List ℕ)) (n : Numbers) → numbers_of lines ≡ Ok n
      → lines ≡ lines_for (record { pages = n.pages; frames = n.frames; heap = n.heap; stack = n.stack })
  unfolding numbers_of
  lines_are lines n e =
      let a = went (next_number 1 (codes "pages ") lines) _ n e in
      let b = went (next_number 2 (codes "frames ") a.0.1) _ n a.2 in
      let c = went (next_number 3 (codes "heap ") b.0.1) _ n b.2 in
      let d = went (next_number 4 (codes "stack ") c.0.1) _ n c.2 in
      let end = end_is d.0.1 (record { pages = a.0.0; frames = b.0.0; heap = c.0.0; stack = d.0.0 }) n d.2 in
      let l1 = next_is 1 (codes "pages ") lines a.0 a.1 in
      let l2 = next_is 2 (codes "frames ") a.0.1 b.0 b.1 in
      let l3 = next_is 3 (codes "heap ") b.0.1 c.0 c.1 in
      let l4 = next_is 4 (codes "stack ") c.0.1 d.0 d.1 in
      l1.1 ∙ ap (λ x. x ∷ a.0.1) (line_is (codes "pages ") l1.0 a.0.0 l1.2).1
      ∙ ap (λ r. (codes "pages " ++ decimal a.0.0) ∷ r) (l2.1 ∙ ap (λ x. x ∷ b.0.1) (line_is (codes "frames ") l2.0 b.0.0 l2.2).1
      ∙ ap (λ r. (codes "frames " ++ decimal b.0.0) ∷ r) (l3.1 ∙ ap (λ x. x ∷ c.0.1) (line_is (codes "heap ") l3.0 c.0.0 l3.2).1
      ∙ ap (λ r. (codes "heap " ++ decimal c.0.0) ∷ r) (l4.1 ∙ ap (λ x. x ∷ d.0.1) (line_is (codes "stack ") l4.0 d.0.0 l4.2).1
      ∙ ap (λ r. (codes "stack " ++ decimal d.0.0) ∷ r) end.0)))
      ∙ ap (λ (m : Numbers). lines_for (record { pages = m.pages; frames = m.frames; heap = m.heap; stack = m.stack })) end.1

  -- the parameters of numbers in their ranges
  pub ranges_are : (n : Numbers) (p : Params) → params_in n ≡ Ok p → (record { pages = n.pages; frames = n.frames; heap = n.heap; stack = n.stack } ≡ p) × AreInRange p
  unfolding params_in
  ranges_are n p e =
      let a = went (ranged 1 1 1024 n.pages) _ p e in
      let b = went (ranged 2 2 16384 n.frames) _ p a.2 in
      let c = went (ranged 3 0 1048576 n.heap) _ p b.2 in
      let d = went (ranged 4 64 262144 n.stack) _ p c.2 in
      let x = in_its_range 1 1 1024 n.pages a.0 a.1 in
      let y = in_its_range 2 2 16384 n.frames b.0 b.1 in
      let z = in_its_range 3 0 1048576 n.heap c.0 c.1 in
      let w = in_its_range 4 64 262144 n.stack d.0 d.1 in
      let q : Params = record { pages = a.0; frames = b.0; heap = c.0; stack = d.0 } in
      let same : q ≡ p = all_same q p d.2 in
      let range : AreInRange q = record { least_pages = x.1; most_pages = x.2; least_frames = y.1; most_frames = y.2; most_heap = z.2; least_stack = w.1; most_stack = w.2 } in
      (fields n a.0 b.0 c.0 d.0 x.0 y.0 z.0 w.0 ∙ same, subst AreInRange same range)
    where
      all_same : (q p : Params) → (let r : Result Params FileFault = Ok q in r ≡ Ok p) → q ≡ p
      all_same q p e = cc

      fields : (n : Numbers) (a b c d : ℕ) → n.pages ≡ a → n.frames ≡ b → n.heap ≡ c → n.stack ≡ d
          → (let q : Params = record { pages = n.pages; frames = n.frames; heap = n.heap; stack = n.stack } in let r : Params = record { pages = a; frames = b; heap = c; stack = d } in q ≡ r)
      fields n a b c d e f g h = cc

  pub spelled : (text : List ℕ) (p : Params) → params_of text ≡ Ok p → Spells text p × AreInRange p
  spelled text p e =
      let n = went (numbers_of (lines_of text)) params_in p e in
      let r = ranges_are n.0 p n.2 in
      let lines : lines_of text ≡ lines_for p = lines_are (lines_of text) n.0 n.1 ∙ ap lines_for r.0 in (spells_of text p lines, r.1)
