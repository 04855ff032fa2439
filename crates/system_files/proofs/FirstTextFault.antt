-- A text whose lines or numbers aren't as they are to be is answered by the fault of the first that isn't, and each fault that is
-- answered is so of the text.
use Rattle.std.proofs.Common.{◌≡◌, ◌≢◌, ℕ, zero, suc, ◌<◌, ◌≤◌, ◌^◌, ◌||◌, ◌⊎◌, inl, inr, nat_lt, List, [], ◌∷◌, ◌++◌, length, get_or, take, drop, Option, Some, None, Result, Ok, Err, refl, sym, ap, ◌∙◌, subst, arith}
use Rattle.std.specs.Prelude.{codes, decimal}
use Rattle.std.specs.List.{AllByRecursion}
use Rattle.std.proofs.lemmas.Bool.{lt-ltb, cond-true, cases_lt, or_left, or_right}
use Rattle.std.proofs.lemmas.List.{take-append-drop, length-take, take_all}
use Rattle.std.proofs.lemmas.List.Elements.{All-from_recursion, recursion_from_All}
use Rattle.cvm_text.specs.Lines.{lines_of, number_spelled}
use Rattle.layer_map.specs.declared.params.Params.{Params}
use Rattle.system_files.specs.declared.fault.FileFault.{FileFault}
use Rattle.system_files.specs.declared.fault.FileFault.TheVariants.{Parameter, Memory, UserTorn, BadParams}
use Rattle.system_files.specs.declared.params.Numbers.{Numbers}
use Rattle.cvm_words.specs.Reading.{◌>>=◌}
use Rattle.system_files.specs.Params.{number_in, number_on_line, next_number, at_the_end, numbers_of, ranged, params_in, params_of, AreInRange, Spells}
use Rattle.system_files.specs.Answer.{names, lines_with, numbers_in, IsParamsAnswer}
use Rattle.system_files.proofs.ReadIsSpelled.{went, lines_for, lines_are, next_is, end_is, line_is, in_its_range, spells_of, spelled}
use Rattle.system_files.proofs.SpelledIsRead.{Small, line_read, next_read, numbers_read, lines_read, ranged_read, read}

-- a step that stopped, or one that went on to one that did
record Went (A B : Type 0) (r : Result A FileFault) (f : A → Result B FileFault) (e : FileFault) : Type 0 where
  x : A
  is : r ≡ Ok x
  next : f x ≡ Err e

same_fault : {A : Type 0} (d e : FileFault) → (let r : Result A FileFault = Err d in r ≡ Err e) → d ≡ e
same_fault d e h = cc

no_fault : {A : Type 0} (P : Type 0) (x : A) (e : FileFault) → (let r : Result A FileFault = Ok x in r ≡ Err e) → P
no_fault P x e h = absurd cc

stopped : {A B : Type 0} (r : Result A FileFault) (f : A → Result B FileFault) (e : FileFault) → r >>= f ≡ Err e → (r ≡ Err e) ⊎ Went A B r f e
stopped (Ok x) f e h = inr (record { x = x; is = refl; next = h })
stopped (Err d) f e h = inl (ap (λ (k : FileFault). Err k) (same_fault d e h))

step : {A B : Type 0} {r : Result A FileFault} {x : A} (f : A → Result B FileFault) {y : Result B FileFault} → r ≡ Ok x → f x ≡ y → r >>= f ≡ y
step f is next = ap (λ s. s >>= f) is ∙ next

stop : {A B : Type 0} {r : Result A FileFault} {e : FileFault} (f : A → Result B FileFault) → r ≡ Err e → r >>= f ≡ Err e
stop f is = ap (λ s. s >>= f) is

-- ---- the numbers of parameters

abbrev numbers : Params → Numbers
numbers p = record { pages = p.pages; frames = p.frames; heap = p.heap; stack = p.stack }

out_of : (which least most value : ℕ) → (least ≤ value → value ≤ most → ⊥) → ranged which least most value ≡ Err (Parameter which value)
unfolding ranged
out_of which least most value out =
    elim (cases_lt value least) [
      | inl under ↦ cond-true (nat_lt value least || nat_lt most value) _ _ (or_left (nat_lt value least) (nat_lt most value) (lt-ltb value least under))
      | inr low ↦
          elim (cases_lt most value) [
            | inl over ↦ cond-true (nat_lt value least || nat_lt most value) _ _ (or_right (nat_lt value least) (nat_lt most value) (lt-ltb most value over))
            | inr high ↦ absurd (out low high)
          ]
    ]

-- why a number isn't in its range
record Outside (which least most value : ℕ) (e : FileFault) : Type 0 where
  fault : e ≡ Parameter which value
  out : least ≤ value → value ≤ most → ⊥

module _ (law : (n : ℕ) → n < 2 ^ 64 → number_spelled (decimal n) ≡ Some n) (spells : (word : List ℕ) (n : ℕ) → number_spelled word ≡ Some n → (n < 2 ^ 64) × (word ≡ decimal n)) where
  ranged_stopped : (which least most value : ℕ) (e : FileFault) → ranged which least most value ≡ Err e → Outside which least most value e
  ranged_stopped which least most value e h = record {
    fault =
        elim (cases_lt value least) [
          | inl under ↦ sym (same_fault _ e (sym (out_of which least most value (λ low high. omega (arith, under, low))) ∙ h))
          | inr low ↦
              elim (cases_lt most value) [
                | inl over ↦ sym (same_fault _ e (sym (out_of which least most value (λ low high. omega (arith, over, high))) ∙ h))
                | inr high ↦ no_fault _ value e (sym (ranged_read law which least most value low high) ∙ h)
              ]
        ];
    out = λ low high. no_fault ⊥ value e (sym (ranged_read law which least most value low high) ∙ h);
  }

  -- ---- a line

  next_bad : (line : ℕ) (beginning : List ℕ) (lines : List (List ℕ)) → ((n : ℕ) → n < 2 ^ 64 → take 1 lines ≢ (beginning ++ decimal n) ∷ []) → next_number line beginning lines ≡ Err (BadParams line)
  next_bad line beginning [] wrong = refl
  next_bad line beginning (text ∷ rest) wrong = by_number (number_in beginning text) refl
    where
      by_number : (o : Option ℕ) → number_in beginning text ≡ o → number_on_line line rest (number_in beginning text) ≡ Err (BadParams line)
      by_number None is = ap (number_on_line line rest) is
      by_number (Some n) is = let t = line_is spells beginning text n is in absurd (wrong n t.0 (ap (λ (l : List ℕ). l ∷ []) t.1))

  -- why no number of a line is read
  record NoLine (line : ℕ) (beginning : List ℕ) (lines : List (List ℕ)) (e : FileFault) : Type 0 where
    fault : e ≡ BadParams line
    wrong : (n : ℕ) → n < 2 ^ 64 → take 1 lines ≢ (beginning ++ decimal n) ∷ []

  next_stopped : (line : ℕ) (beginning : List ℕ) (lines : List (List ℕ)) (e : FileFault) → next_number line beginning lines ≡ Err e → NoLine line beginning lines e
  next_stopped line beginning [] e h = record { fault = sym (same_fault _ e h); wrong = λ n small is. absurd cc }
  next_stopped line beginning (text ∷ rest) e h = by_number (number_in beginning text) refl
    where
      same_line : (a b : List ℕ) → (let x : List (List ℕ) = a ∷ [] in let y : List (List ℕ) = b ∷ [] in x ≡ y) → a ≡ b
      same_line a b is = cc

      not_both : (o : Option ℕ) (n : ℕ) → o ≡ None → o ≡ Some n → ⊥
      not_both o n a b = absurd cc

      by_number : (o : Option ℕ) → number_in beginning text ≡ o → NoLine line beginning (text ∷ rest) e
      by_number None is = record {
        fault = sym (same_fault _ e (sym (ap (number_on_line line rest) is) ∙ h));
        wrong = λ n small same. not_both (number_in beginning text) n is (ap (number_in beginning) (same_line text (beginning ++ decimal n) same) ∙ line_read law beginning n small);
      }
      by_number (Some n) is = no_fault _ (n, rest) e (sym (ap (number_on_line line rest) is) ∙ h)

  -- ---- the lines

  module _ (lines rest : List (List ℕ)) where
    bad_pages : ((n : ℕ) → n < 2 ^ 64 → take 1 lines ≢ (codes "pages " ++ decimal n) ∷ []) → numbers_of lines ≡ Err (BadParams 1)
    unfolding numbers_of
    bad_pages wrong = stop _ (next_bad 1 (codes "pages ") lines wrong)

    bad_frames : (a : ℕ) → a < 2 ^ 64 → ((n : ℕ) → n < 2 ^ 64 → take 1 rest ≢ (codes "frames " ++ decimal n) ∷ []) → numbers_of (lines_with names (a ∷ []) ++ rest) ≡ Err (BadParams 2)
    unfolding numbers_of
    bad_frames a sa wrong = step _ (next_read law 1 (codes "pages ") a rest sa) (stop _ (next_bad 2 (codes "frames ") rest wrong))

    bad_heap : (a b : ℕ) → a < 2 ^ 64 → b < 2 ^ 64 → ((n : ℕ) → n < 2 ^ 64 → take 1 rest ≢ (codes "heap " ++ decimal n) ∷ []) → numbers_of (lines_with names (a ∷ b ∷ []) ++ rest) ≡ Err (BadParams 3)
    unfolding numbers_of
    bad_heap a b sa sb wrong =
        step _ (next_read law 1 (codes "pages ") a _ sa) (step _ (next_read law 2 (codes "frames ") b rest sb) (stop _ (next_bad 3 (codes "heap ") rest wrong)))

    bad_stack : (a b c : ℕ) → a < 2 ^ 64 → b < 2 ^ 64 → c < 2 ^ 64 → ((n : ℕ) → n < 2 ^ 64 → take 1 rest ≢ (codes "stack " ++ decimal n) ∷ []) → numbers_of (lines_with names (a ∷ b ∷ c ∷ []) ++ rest) ≡ Err (BadParams 4)
    unfolding numbers_of
    bad_stack a b c sa sb sc wrong =
        step _ (next_read law 1 (codes "pages ") a _ sa)
        (step _ (next_read law 2 (codes "frames ") b _ sb) (step _ (next_read law 3 (codes "heap ") c rest sc) (stop _ (next_bad 4 (codes "stack ") rest wrong))))

  bad_fifth : (a b c d : ℕ) (text : List ℕ) (rest : List (List ℕ)) → a < 2 ^ 64 → b < 2 ^ 64 → c < 2 ^ 64 → d < 2 ^ 64 → numbers_of (lines_with names (a ∷ b ∷ c ∷ d ∷ []) ++ (text ∷ rest)) ≡ Err (BadParams 5)
  unfolding numbers_of
  bad_fifth a b c d text rest sa sb sc sd =
      step _ (next_read law 1 (codes "pages ") a _ sa)
      (step _ (next_read law 2 (codes "frames ") b _ sb) (step _ (next_read law 3 (codes "heap ") c _ sc) (step _ (next_read law 4 (codes "stack ") d (text ∷ rest) sd) refl)))

  -- lines that begin with these
  begins : (lines front : List (List ℕ)) (k : ℕ) → take k lines ≡ front → lines ≡ front ++ drop k lines
  begins lines front k is = sym (take-append-drop k lines) ∙ ap (λ (l : List (List ℕ)). l ++ drop k lines) is

  numbers_bad : (lines : List (List ℕ)) (ns : List ℕ) → AllByRecursion (λ n. n < 2 ^ 64) ns → take (length ns) lines ≡ lines_with names ns → ((n : ℕ) → n < 2 ^ 64 → take (suc (length ns)) lines ≢ lines_with names (ns ++ n ∷ [])) → numbers_of lines ≡ Err (BadParams (suc (length ns)))
  numbers_bad lines [] s right wrong = bad_pages lines [] wrong
  numbers_bad lines (a ∷ []) s right wrong =
      let front : List (List ℕ) = lines_with names (a ∷ []) in
      let is : lines ≡ front ++ drop 1 lines = begins lines front 1 right in
      ap numbers_of is ∙ bad_frames lines (drop 1 lines) a s.0 (λ n small same. wrong n small (ap (take 2) is ∙ ap (λ (l : List (List ℕ)). front ++ l) same))
  numbers_bad lines (a ∷ b ∷ []) s right wrong =
      let front : List (List ℕ) = lines_with names (a ∷ b ∷ []) in
      let is : lines ≡ front ++ drop 2 lines = begins lines front 2 right in
      ap numbers_of is ∙ bad_heap lines (drop 2 lines) a b s.0 s.1.0 (λ n small same. wrong n small (ap (take 3) is ∙ ap (λ (l : List (List ℕ)). front ++ l) same))
  numbers_bad lines (a ∷ b ∷ c ∷ []) s right wrong =
      let front : List (List ℕ) = lines_with names (a ∷ b ∷ c ∷ []) in
      let is : lines ≡ front ++ drop 3 lines = begins lines front 3 right in
      ap numbers_of is ∙ bad_stack lines (drop 3 lines) a b c s.0 s.1.0 s.1.1.0 (λ n small same. wrong n small (ap (take 4) is ∙ ap (λ (l : List (List ℕ)). front ++ l) same))
  numbers_bad lines (a ∷ b ∷ c ∷ d ∷ []) s right wrong = ap numbers_of is ∙ by_rest (drop 4 lines) refl
    where
      front : List (List ℕ)
      front = lines_with names (a ∷ b ∷ c ∷ d ∷ [])

      is : lines ≡ lines_with names (a ∷ b ∷ c ∷ d ∷ []) ++ drop 4 lines
      is = begins lines (lines_with names (a ∷ b ∷ c ∷ d ∷ [])) 4 right

      by_rest : (rest : List (List ℕ)) → drop 4 lines ≡ rest → numbers_of (lines_with names (a ∷ b ∷ c ∷ d ∷ []) ++ drop 4 lines) ≡ Err (BadParams 5)
      by_rest [] none = absurd (wrong 0 (omega arith) (ap (take 5) is ∙ ap (λ (l : List (List ℕ)). take 5 (lines_with names (a ∷ b ∷ c ∷ d ∷ []) ++ l)) none))
      by_rest (text ∷ rest) some =
          ap (λ (l : List (List ℕ)). numbers_of (lines_with names (a ∷ b ∷ c ∷ d ∷ []) ++ l)) some ∙ bad_fifth a b c d text rest s.0 s.1.0 s.1.1.0 s.1.1.1.0
  numbers_bad lines (a ∷ b ∷ c ∷ d ∷ x ∷ ns) s right wrong =
      let k : ℕ = suc (suc (suc (suc (suc (length ns))))) in
      let four : length (take k lines) ≡ 4 = ap length right in
      let few : length lines ≤ k = omega (arith, four, length-take k lines) in
      absurd (wrong 0 (omega arith) (take_all (suc k) lines (omega (arith, few)) ∙ sym (take_all k lines few) ∙ right))

  -- lines of which the first are those of numbers, and the next one isn't
  record Bad (lines : List (List ℕ)) (e : FileFault) : Type 0 where
    numbers : List ℕ
    bits : AllByRecursion (λ n. n < 2 ^ 64) numbers
    right : take (length numbers) lines ≡ lines_with names numbers
    wrong : (n : ℕ) → n < 2 ^ 64 → take (suc (length numbers)) lines ≢ lines_with names (numbers ++ n ∷ [])
    fault : e ≡ BadParams (suc (length numbers))

  -- a line whose number is read, and the others
  record Line (beginning : List ℕ) (lines : List (List ℕ)) (n : ℕ) (rest : List (List ℕ)) : Type 0 where
    is : lines ≡ (beginning ++ decimal n) ∷ rest
    small : n < 2 ^ 64

  line_went : (line : ℕ) (beginning : List ℕ) (lines : List (List ℕ)) (x : ℕ × List (List ℕ)) → next_number line beginning lines ≡ Ok x → Line beginning lines x.0 x.1
  line_went line beginning lines x h =
      let n = next_is line beginning lines x h in
      let t = line_is spells beginning n.0 x.0 n.2 in
      record { is = n.1 ∙ ap (λ (l : List ℕ). l ∷ x.1) t.1; small = t.0 }

  numbers_stopped : (lines : List (List ℕ)) (e : FileFault) → numbers_of lines ≡ Err e → Bad lines e
  unfolding numbers_of
  numbers_stopped lines e h =
      elim (stopped (next_number 1 (codes "pages ") lines) _ e h) [
        | inl s ↦ let b = next_stopped 1 (codes "pages ") lines e s in record { numbers = []; bits = tt; right = refl; wrong = b.wrong; fault = b.fault }
        | inr w ↦
            let a : Line (codes "pages ") lines w.x.0 w.x.1 = line_went 1 (codes "pages ") lines w.x w.is in
            elim (stopped (next_number 2 (codes "frames ") w.x.1) _ e w.next) [
              | inl s ↦
                  let b = next_stopped 2 (codes "frames ") w.x.1 e s in
                  record { numbers = w.x.0 ∷ []; bits = (a.small, tt); right = ap (take 1) a.is; wrong = λ n small same. b.wrong n small (ap (drop 1) (sym (ap (take 2) a.is) ∙ same)); fault = b.fault }
              | inr v ↦
                  let f : Line (codes "frames ") w.x.1 v.x.0 v.x.1 = line_went 2 (codes "frames ") w.x.1 v.x v.is in
                  let two : lines ≡ lines_with names (w.x.0 ∷ v.x.0 ∷ []) ++ v.x.1 = a.is ∙ ap (λ (l : List (List ℕ)). (codes "pages " ++ decimal w.x.0) ∷ l) f.is in
                  elim (stopped (next_number 3 (codes "heap ") v.x.1) _ e v.next) [
                    | inl s ↦
                        let b = next_stopped 3 (codes "heap ") v.x.1 e s in
                        record { numbers = w.x.0 ∷ v.x.0 ∷ []; bits = (a.small, (f.small, tt)); right = ap (take 2) two; wrong = λ n small same. b.wrong n small (ap (drop 2) (sym (ap (take 3) two) ∙ same)); fault = b.fault }
                    | inr u ↦
                        let g : Line (codes "heap ") v.x.1 u.x.0 u.x.1 = line_went 3 (codes "heap ") v.x.1 u.x u.is in
                        let three : lines ≡ lines_with names (w.x.0 ∷ v.x.0 ∷ u.x.0 ∷ []) ++ u.x.1 = two ∙ ap (λ (l : List (List ℕ)). lines_with names (w.x.0 ∷ v.x.0 ∷ []) ++ l) g.is in
                        elim (stopped (next_number 4 (codes "stack ") u.x.1) _ e u.next) [
                          | inl s ↦
                              let b = next_stopped 4 (codes "stack ") u.x.1 e s in
                              record { numbers = w.x.0 ∷ v.x.0 ∷ u.x.0 ∷ []; bits = (a.small, (f.small, (g.small, tt))); right = ap (take 3) three; wrong = λ n small same. b.wrong n small (ap (drop 3) (sym (ap (take 4) three) ∙ same)); fault = b.fault }
                          | inr t ↦
                              let k : Line (codes "stack ") u.x.1 t.x.0 t.x.1 = line_went 4 (codes "stack ") u.x.1 t.x t.is in
                              at_end w.x.0 v.x.0 u.x.0 t.x.0 t.x.1 _ (a.small, (f.small, (g.small, (k.small, tt)))) (three ∙ ap (λ (l : List (List ℕ)). lines_with names (w.x.0 ∷ v.x.0 ∷ u.x.0 ∷ []) ++ l) k.is) t.next
                        ]
                  ]
            ]
      ]
    where
      no_more : (l : List (List ℕ)) (x : List ℕ) → (let y : List (List ℕ) = x ∷ [] in let z : List (List ℕ) = [] in y ≡ z) → ⊥
      no_more l x is = absurd cc

      at_end : (a b c d : ℕ) (rest : List (List ℕ)) (m : Numbers) → AllByRecursion (λ n. n < 2 ^ 64) (a ∷ b ∷ c ∷ d ∷ []) → lines ≡ lines_with names (a ∷ b ∷ c ∷ d ∷ []) ++ rest → at_the_end rest m ≡ Err e → Bad lines e
      at_end a b c d [] m small four h = no_fault _ m e h
      at_end a b c d (text ∷ rest) m small four h = record {
        numbers = a ∷ b ∷ c ∷ d ∷ [];
        bits = small;
        right = ap (take 4) four;
        wrong = λ n bits same. no_more rest text (ap (drop 4) (sym (ap (take 5) four) ∙ same));
        fault = sym (same_fault _ e h);
      }

  -- ---- the ranges

  range : (pages frames heap stack : ℕ) → 1 ≤ pages → pages ≤ 1024 → 2 ≤ frames → frames ≤ 16384 → heap ≤ 1048576 → 64 ≤ stack → stack ≤ 262144 → AreInRange (record { pages = pages; frames = frames; heap = heap; stack = stack })
  range pages frames heap stack a b c d h x y = record { least_pages = a; most_pages = b; least_frames = c; most_frames = d; most_heap = h; least_stack = x; most_stack = y }

  params_wrong : (given fit : Params) → AreInRange fit → (before : ℕ) → take before (numbers_in fit) ≡ take before (numbers_in given) → ((other : Params) → AreInRange other → take (suc before) (numbers_in other) ≢ take (suc before) (numbers_in given)) → params_in (numbers given) ≡ Err (Parameter (suc before) (get_or (numbers_in given) before 0))
  unfolding params_in
  params_wrong g f r zero right wrong =
      stop _ (out_of 1 1 1024 g.pages (λ low high. wrong (record { pages = g.pages; frames = 2; heap = 0; stack = 64 }) (range g.pages 2 0 64 low high (omega arith) (omega arith) (omega arith) (omega arith) (omega arith)) refl))
  params_wrong g f r (suc zero) right wrong =
      let p : f.pages ≡ g.pages = ap (λ (l : List ℕ). get_or l 0 0) right in
      let a : 1 ≤ g.pages = omega (arith, p, r.least_pages) in
      let b : g.pages ≤ 1024 = omega (arith, p, r.most_pages) in
      step _ (ranged_read law 1 1 1024 g.pages a b)
      (stop _ (out_of 2 2 16384 g.frames (λ low high. wrong (record { pages = g.pages; frames = g.frames; heap = 0; stack = 64 }) (range g.pages g.frames 0 64 a b low high (omega arith) (omega arith) (omega arith)) refl)))
  params_wrong g f r (suc (suc zero)) right wrong =
      let p : f.pages ≡ g.pages = ap (λ (l : List ℕ). get_or l 0 0) right in
      let q : f.frames ≡ g.frames = ap (λ (l : List ℕ). get_or l 1 0) right in
      let a : 1 ≤ g.pages = omega (arith, p, r.least_pages) in
      let b : g.pages ≤ 1024 = omega (arith, p, r.most_pages) in
      let c : 2 ≤ g.frames = omega (arith, q, r.least_frames) in
      let d : g.frames ≤ 16384 = omega (arith, q, r.most_frames) in
      step _ (ranged_read law 1 1 1024 g.pages a b)
      (step _ (ranged_read law 2 2 16384 g.frames c d)
      (stop _ (out_of 3 0 1048576 g.heap (λ low high. wrong (record { pages = g.pages; frames = g.frames; heap = g.heap; stack = 64 }) (range g.pages g.frames g.heap 64 a b c d high (omega arith) (omega arith)) refl))))
  params_wrong g f r (suc (suc (suc zero))) right wrong =
      let p : f.pages ≡ g.pages = ap (λ (l : List ℕ). get_or l 0 0) right in
      let q : f.frames ≡ g.frames = ap (λ (l : List ℕ). get_or l 1 0) right in
      let s : f.heap ≡ g.heap = ap (λ (l : List ℕ). get_or l 2 0) right in
      let a : 1 ≤ g.pages = omega (arith, p, r.least_pages) in
      let b : g.pages ≤ 1024 = omega (arith, p, r.most_pages) in
      let c : 2 ≤ g.frames = omega (arith, q, r.least_frames) in
      let d : g.frames ≤ 16384 = omega (arith, q, r.most_frames) in
      let h : g.heap ≤ 1048576 = omega (arith, s, r.most_heap) in
      step _ (ranged_read law 1 1 1024 g.pages a b)
      (step _ (ranged_read law 2 2 16384 g.frames c d)
      (step _ (ranged_read law 3 0 1048576 g.heap (omega arith) h)
      (stop _ (out_of 4 64 262144 g.stack (λ low high. wrong g (range g.pages g.frames g.heap g.stack a b c d h low high) refl)))))
  params_wrong g f r (suc (suc (suc (suc more)))) right wrong =
      let k : ℕ = suc (suc (suc (suc more))) in
      let all : (p : Params) → take (suc k) (numbers_in p) ≡ take k (numbers_in p) = λ p. take_all (suc k) (numbers_in p) (omega arith) ∙ sym (take_all k (numbers_in p) (omega arith)) in
      absurd (wrong f r (all f ∙ right ∙ sym (all g)))

  -- numbers of which the first are those of parameters in range, and with the next one they aren't
  record Over (given : Params) (e : FileFault) : Type 0 where
    fit : Params
    in_range : AreInRange fit
    before : ℕ
    right : take before (numbers_in fit) ≡ take before (numbers_in given)
    wrong : (other : Params) → AreInRange other → take (suc before) (numbers_in other) ≢ take (suc before) (numbers_in given)
    fault : e ≡ Parameter (suc before) (get_or (numbers_in given) before 0)

  params_stopped : (g : Params) (e : FileFault) → params_in (numbers g) ≡ Err e → Over g e
  unfolding params_in
  params_stopped g e h =
      elim (stopped (ranged 1 1 1024 g.pages) _ e h) [
        | inl s ↦
            let o = ranged_stopped 1 1 1024 g.pages e s in
            record {
              fit = record { pages = 1; frames = 2; heap = 0; stack = 64 };
              in_range = range 1 2 0 64 (omega arith) (omega arith) (omega arith) (omega arith) (omega arith) (omega arith) (omega arith);
              before = 0;
              right = refl;
              wrong = λ other r same. let x : other.pages ≡ g.pages = ap (λ (l : List ℕ). get_or l 0 0) same in o.out (omega (arith, x, r.least_pages)) (omega (arith, x, r.most_pages));
              fault = o.fault;
            }
        | inr w ↦
            let p = in_its_range 1 1 1024 g.pages w.x w.is in
            let a : 1 ≤ g.pages = omega (arith, p.0, p.1) in
            let b : g.pages ≤ 1024 = omega (arith, p.0, p.2) in
            elim (stopped (ranged 2 2 16384 g.frames) _ e w.next) [
              | inl s ↦
                  let o = ranged_stopped 2 2 16384 g.frames e s in
                  record {
                    fit = record { pages = g.pages; frames = 2; heap = 0; stack = 64 };
                    in_range = range g.pages 2 0 64 a b (omega arith) (omega arith) (omega arith) (omega arith) (omega arith);
                    before = 1;
                    right = refl;
                    wrong = λ other r same. let x : other.frames ≡ g.frames = ap (λ (l : List ℕ). get_or l 1 0) same in o.out (omega (arith, x, r.least_frames)) (omega (arith, x, r.most_frames));
                    fault = o.fault;
                  }
              | inr v ↦
                  let q = in_its_range 2 2 16384 g.frames v.x v.is in
                  let c : 2 ≤ g.frames = omega (arith, q.0, q.1) in
                  let d : g.frames ≤ 16384 = omega (arith, q.0, q.2) in
                  elim (stopped (ranged 3 0 1048576 g.heap) _ e v.next) [
                    | inl s ↦
                        let o = ranged_stopped 3 0 1048576 g.heap e s in
                        record {
                          fit = record { pages = g.pages; frames = g.frames; heap = 0; stack = 64 };
                          in_range = range g.pages g.frames 0 64 a b c d (omega arith) (omega arith) (omega arith);
                          before = 2;
                          right = refl;
                          wrong = λ other r same. let x : other.heap ≡ g.heap = ap (λ (l : List ℕ). get_or l 2 0) same in o.out (omega arith) (omega (arith, x, r.most_heap));
                          fault = o.fault;
                        }
                    | inr u ↦
                        let y = in_its_range 3 0 1048576 g.heap u.x u.is in
                        elim (stopped (ranged 4 64 262144 g.stack) _ e u.next) [
                          | inl s ↦
                              let o = ranged_stopped 4 64 262144 g.stack e s in
                              record {
                                fit = record { pages = g.pages; frames = g.frames; heap = g.heap; stack = 64 };
                                in_range = range g.pages g.frames g.heap 64 a b c d (omega (arith, y.0, y.2)) (omega arith) (omega arith);
                                before = 3;
                                right = refl;
                                wrong = λ other r same. let x : other.stack ≡ g.stack = ap (λ (l : List ℕ). get_or l 3 0) same in o.out (omega (arith, x, r.least_stack)) (omega (arith, x, r.most_stack));
                                fault = o.fault;
                              }
                          | inr t ↦ no_fault _ _ e t.next
                        ]
                  ]
            ]
      ]

  -- ---- what is answered

  text_lines : (text : List ℕ) (p : Params) → Spells text p → Small p → lines_of text ≡ lines_for p
  text_lines text p (inl is) small = ap lines_of is ∙ lines_read law p small [] (inl refl)
  text_lines text p (inr is) small = ap lines_of is ∙ lines_read law p small (10 ∷ []) (inr refl)

  -- what is so of a text is answered
  pub answer_only : (text : List ℕ) (r : Result Params FileFault) → IsParamsAnswer text r → params_of text ≡ r
  answer_only text (Ok p) is = read law text p is.0 is.1
  answer_only text (Err (BadParams line)) is =
      stop params_in (numbers_bad (lines_of text) is.numbers (recursion_from_All (λ n. n < 2 ^ 64) is.numbers is.bits) is.right is.wrong) ∙ ap (λ (n : ℕ). Err (BadParams n)) (sym is.place)
  answer_only text (Err (Parameter which value)) is =
      let g : Params = is.given in
      let b : AllByRecursion (λ n. n < 2 ^ 64) (numbers_in g) = recursion_from_All (λ n. n < 2 ^ 64) (numbers_in g) is.bits in
      let small : Small g = record { pages = b.0; frames = b.1.0; heap = b.1.1.0; stack = b.1.1.1.0 } in
      step params_in (ap numbers_of (text_lines text g is.spelled small) ∙ numbers_read law g small) (params_wrong g is.fit is.range is.before is.right is.wrong)
      ∙ ap (λ (n : ℕ). Err (Parameter n (get_or (numbers_in g) is.before 0))) (sym is.place) ∙ ap (λ (v : ℕ). Err (Parameter which v)) (sym is.is)
  answer_only text (Err Memory) is = absurd is
  answer_only text (Err (UserTorn user bytes)) is = absurd is

  bad_so : (text : List ℕ) (e : FileFault) → Bad (lines_of text) e → IsParamsAnswer text (Err e)
  bad_so text e b =
      subst (λ (k : FileFault). IsParamsAnswer text (Err k)) (sym b.fault)
      (record { numbers = b.numbers; bits = All-from_recursion (λ n. n < 2 ^ 64) b.numbers b.bits; right = b.right; wrong = b.wrong; place = refl })

  -- the numbers of four lines, each of 64 bits
  record Given (text : List ℕ) (n : Numbers) : Type 0 where
    given : Params
    are : n ≡ numbers given
    bits : AllByRecursion (λ n. n < 2 ^ 64) (numbers_in given)
    spelled : Spells text given

  over_so : (text : List ℕ) (n : Numbers) (e : FileFault) → Given text n → params_in n ≡ Err e → IsParamsAnswer text (Err e)
  over_so text n e g h =
      let o : Over g.given e = params_stopped g.given e (ap params_in (sym g.are) ∙ h) in
      subst (λ (k : FileFault). IsParamsAnswer text (Err k)) (sym o.fault)
      (record { given = g.given; bits = All-from_recursion (λ n. n < 2 ^ 64) (numbers_in g.given) g.bits; spelled = g.spelled; fit = o.fit; range = o.in_range; before = o.before; right = o.right; wrong = o.wrong; is = refl; place = refl })

  numbers_small : (lines : List (List ℕ)) (n : Numbers) → numbers_of lines ≡ Ok n → AllByRecursion (λ x. x < 2 ^ 64) (n.pages ∷ n.frames ∷ n.heap ∷ n.stack ∷ [])
  unfolding numbers_of
  numbers_small lines n h =
      let a = went (next_number 1 (codes "pages ") lines) _ n h in
      let b = went (next_number 2 (codes "frames ") a.0.1) _ n a.2 in
      let c = went (next_number 3 (codes "heap ") b.0.1) _ n b.2 in
      let d = went (next_number 4 (codes "stack ") c.0.1) _ n c.2 in
      let end = end_is d.0.1 (record { pages = a.0.0; frames = b.0.0; heap = c.0.0; stack = d.0.0 }) n d.2 in
      let p : Line (codes "pages ") lines a.0.0 a.0.1 = line_went 1 (codes "pages ") lines a.0 a.1 in
      let f : Line (codes "frames ") a.0.1 b.0.0 b.0.1 = line_went 2 (codes "frames ") a.0.1 b.0 b.1 in
      let g : Line (codes "heap ") b.0.1 c.0.0 c.0.1 = line_went 3 (codes "heap ") b.0.1 c.0 c.1 in
      let k : Line (codes "stack ") c.0.1 d.0.0 d.0.1 = line_went 4 (codes "stack ") c.0.1 d.0 d.1 in
      subst (λ (m : Numbers). AllByRecursion (λ x. x < 2 ^ 64) (m.pages ∷ m.frames ∷ m.heap ∷ m.stack ∷ [])) end.1 (p.small, (f.small, (g.small, (k.small, tt))))

  numbers_given : (text : List ℕ) (n : Numbers) → numbers_of (lines_of text) ≡ Ok n → Given text n
  numbers_given text n h =
      let p : Params = record { pages = n.pages; frames = n.frames; heap = n.heap; stack = n.stack } in
      record { given = p; are = refl; bits = numbers_small (lines_of text) n h; spelled = spells_of text p (lines_are spells (lines_of text) n h) }

  fault_so : (text : List ℕ) (e : FileFault) → params_of text ≡ Err e → IsParamsAnswer text (Err e)
  fault_so text e h =
      elim (stopped (numbers_of (lines_of text)) params_in e h) [
        | inl s ↦ bad_so text e (numbers_stopped (lines_of text) e s)
        | inr w ↦ over_so text w.x e (numbers_given text w.x w.is) w.next
      ]

  answered_so : (text : List ℕ) (r : Result Params FileFault) → params_of text ≡ r → IsParamsAnswer text r
  answered_so text (Ok p) is = spelled spells text p is
  answered_so text (Err e) is = fault_so text e is

  -- what is answered is so of the text
  pub answer_so : (text : List ℕ) → IsParamsAnswer text (params_of text)
  answer_so text = answered_so text (params_of text) refl
