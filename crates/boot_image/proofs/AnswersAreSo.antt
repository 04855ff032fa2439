-- What is answered is so of the bytes: an image whose first fields or parts they have stands in for those that they lack.
use Rattle.std.proofs.Common.{◌≡◌, ◌≢◌, ℕ, suc, ◌+◌, ◌*◌, ◌<◌, ◌≤◌, true, ltb, List, [], ◌∷◌, ◌++◌, length, take, map, Result, Ok, Err, inl, inr, refl, sym, ap, subst, ◌∙◌, append_assoc, arith}
use Rattle.std.specs.Prelude.{◌⊎◌, codes, nat_eq, if◌then◌else◌}
use Rattle.std.specs.Str.{bytes_eq}
use Rattle.std.specs.List.{concat, flat_map, AllByRecursion}
use Rattle.std.proofs.lemmas.Bool.{lt-ltb, le-ltb, cond-true, cond-false, cases_lt, cases_Bool, both_ways}
use Rattle.std.proofs.lemmas.Bool.Decides.{nat_tests}
use Rattle.std.proofs.lemmas.List.{length-append, length-map, take_at}
use Rattle.std.proofs.lemmas.List.Elements.{All-from_recursion}
use Rattle.std.proofs.lemmas.Slice.Eq.{bytes_eq-Decides}
use Rattle.layer_map.specs.declared.params.Params.{Params}
use Rattle.boot_image.specs.declared.fault.ImageFault.{ImageFault}
use Rattle.boot_image.specs.declared.fault.ImageFault.TheVariants.{Magic, Truncated, Parameter}
use Rattle.boot_image.specs.declared.reading.Header.{Header}
use Rattle.boot_image.specs.Parts.{ImageParts}
use Rattle.boot_image.specs.Format.{fields, bare_params, most_user_words, IsOldSystem, IsInRange, IsOldInRange}
use Rattle.boot_image.specs.Answer.{IsImageAnswer, EndsWithin}
use Rattle.boot_image.specs.Reading.{mark_at, number_at, form_at, bare_at, system_at, header_of, old_header_of, parts_of, answer, old_answer}
use Rattle.cvm_words.specs.Bytes.{word}
use Rattle.cvm_words.proofs.BytesOfWords.{length-words, IsBytes}
use Rattle.boot_image.proofs.SpellingIsAnswered.{words-onto, bare, bare_same, system, system_same, Fits}
use Rattle.boot_image.proofs.AnsweredIsSpelling.{mark_is, FormIs, form_is, NumberIs, number_is, BareIs, SystemIs, header_is, old_header_is, sizes_back, nil_of_none, answer_spelled, old_answer_spelled}
use Rattle.boot_image.proofs.PiecesSpellImages.{parts, parts_spell, fields_front, field_piece, parts_front, part_piece}
use Rattle.boot_image.proofs.FieldsInRange.{least_behind, most_behind, MayFollow, Right, right_take, right_last, seven, behind_form, fields_system, fits_right, Begun, Limits, begun}
use Rattle.boot_image.proofs.StopsAtFault.{behind}
use Rattle.boot_image.proofs.OneAnswer.{NoneHas, marked}
use Rattle.boot_image.proofs.TwoReadings.{bare_fit, limits, old_limits}
use Rattle.boot_image.proofs.WhereItStopped.{same_fault, no_fault, stopped, Cause, cause_of, Outside, number_cause, Stop, system_stopped, StopsIn, PartsStop, parts_stopped}

-- ---- a piece that isn't as it is to be

module _ (IsFit : ImageParts → Type 0) (image : ImageParts) (fit : IsFit image) (bytes : List ℕ) (e : ImageFault) where
  -- the first fields are these of an image, and the next one isn't read
  field_so : (first rest left : List ℕ) (which : ℕ) → fields image ≡ first ++ rest → 0 < length rest → bytes ≡ marked first left → which ≡ suc (length first) → Cause which left e (NoneHas IsFit first) → IsImageAnswer IsFit bytes (Err e)
  field_so first rest left which is some at position cause =
      let taken : take (length first) (fields image) ≡ first = ap (take (length first)) is ∙ take_at first rest (length first) refl in
      let lt : length first < length (fields image) = omega (arith, ap length is, length-append first rest, some) in
      let front : concat (take (length first) (map word (fields image) ++ parts image)) ≡ flat_map word first =
      fields_front (fields image) (parts image) (length first) (omega (arith, lt)) ∙ ap (λ (l : List ℕ). flat_map word l) taken in
      let spelled : bytes ≡ codes "CVMI" ++ (flat_map word first ++ left) = at ∙ ap (λ (l : List ℕ). codes "CVMI" ++ l) (sym (words-onto first left)) in
      elim cause [
        | inl short ↦
            subst (λ (k : ImageFault). IsImageAnswer IsFit bytes (Err k)) (sym short.1)
            (record {
              image = image;
              fit = fit;
              whole = suc (length first);
              left = left;
              spelled = spelled ∙ ap (λ (l : List ℕ). codes "CVMI" ++ (l ++ left)) (sym front);
              short = omega (arith, short.0, field_piece (fields image) (parts image) (length first) lt);
              position = omega (arith, position, ap length front, length-words first);
            })
        | inr w ↦
            subst (λ (k : ImageFault). IsImageAnswer IsFit bytes (Err k)) (sym w.fault)
            (record {
              image = image;
              fit = fit;
              before = length first;
              field = lt;
              left = w.rest;
              spelled = spelled ∙ ap (λ (l : List ℕ). codes "CVMI" ++ (flat_map word first ++ l)) w.is ∙ ap (λ (l : List ℕ). codes "CVMI" ++ (flat_map word l ++ (word w.value ++ w.rest))) (sym taken);
              bits = w.small;
              wrong = λ other fits same. w.out other fits (same ∙ ap (λ (l : List ℕ). l ++ w.value ∷ []) taken);
              position = position;
            })
      ]

  -- the fields are those of an image, and so are the first parts
  part_so : (rest : List ℕ) (at : ℕ) → bytes ≡ marked (fields image) rest → at ≡ 4 * suc (length (fields image)) → StopsIn (parts image) at rest e → IsImageAnswer IsFit bytes (Err e)
  part_so rest at is position (inl c) =
      let fs : List ℕ = fields image in
      let m : ℕ = length fs + c.whole in
      let last : List ℕ = concat (take c.whole (parts image)) in
      let front : concat (take m (map word fs ++ parts image)) ≡ flat_map word fs ++ last = parts_front fs (parts image) c.whole m refl in
      subst (λ (k : ImageFault). IsImageAnswer IsFit bytes (Err k)) (sym c.fault)
      (record {
        image = image;
        fit = fit;
        whole = suc m;
        left = c.left;
        spelled =
            is
            ∙ ap (λ (l : List ℕ). codes "CVMI" ++ l) (sym (words-onto fs rest) ∙ ap (λ (l : List ℕ). flat_map word fs ++ l) c.is ∙ sym (append_assoc (flat_map word fs) last c.left) ∙ ap (λ (l : List ℕ). l ++ c.left) (sym front));
        short = omega (arith, c.short, ap length (part_piece fs (parts image) c.whole m refl));
        position = omega (arith, position, ap length front, length-append (flat_map word fs) last, length-words fs);
      })
  part_so rest at is position (inr g) =
      let fs : List ℕ = fields image in
      subst (λ (k : ImageFault). IsImageAnswer IsFit bytes (Err k)) (sym g.fault)
      (record {
        image = image;
        fit = fit;
        left = g.left;
        spelled =
            is
            ∙ ap (λ (l : List ℕ). codes "CVMI" ++ l) (sym (words-onto fs rest) ∙ ap (λ (l : List ℕ). flat_map word fs ++ l) (g.is ∙ ap (λ (l : List ℕ). l ++ g.left) (parts_spell image)) ∙ sym (append_assoc (flat_map word fs) (behind image) g.left));
        more = g.more;
        position = omega (arith, position, ap length (parts_spell image), length-append (flat_map word fs) (behind image), length-words fs);
      })

  mark_so : mark_at bytes ≡ Err e → IsImageAnswer IsFit bytes (Err e)
  unfolding mark_at
  mark_so h =
      elim (cases_lt (length bytes) 4) [
        | inl short ↦
            subst (λ (k : ImageFault). IsImageAnswer IsFit bytes (Err k)) (same_fault _ e (sym (cond-true (ltb (length bytes) 4) _ _ (lt-ltb (length bytes) 4 short)) ∙ h))
            (ends (record { image = image; fit = fit; whole = 0; left = bytes; spelled = refl; short = short; position = refl }))
        | inr long ↦
            let behind_it = sym (cond-false (ltb (length bytes) 4) _ _ (le-ltb (length bytes) 4 long)) ∙ h in
            elim (cases_Bool (bytes_eq (take 4 bytes) (codes "CVMI"))) [
              | inl same ↦ no_fault _ _ e (sym (cond-true (bytes_eq (take 4 bytes) (codes "CVMI")) _ _ same) ∙ behind_it)
              | inr apart ↦
                  subst (λ (k : ImageFault). IsImageAnswer IsFit bytes (Err k)) (same_fault _ e (sym (cond-false (bytes_eq (take 4 bytes) (codes "CVMI")) _ _ apart) ∙ behind_it))
                  (magic (long, λ same. both_ways (bytes_eq (take 4 bytes) (codes "CVMI")) apart ((bytes_eq-Decides (take 4 bytes) (codes "CVMI")).1 same)))
            ]
      ]
    where
      ends : EndsWithin IsFit bytes 0 → IsImageAnswer IsFit bytes (Err (Truncated 0))
      ends h = h

      magic : (4 ≤ length bytes) × (take 4 bytes ≢ codes "CVMI") → IsImageAnswer IsFit bytes (Err Magic)
      magic h = h

-- ---- a system

module _ (IsFit : ImageParts → Type 0) (form mu mp : ℕ) (l : Limits IsFit form mu mp) (others : (other : ImageParts) → IsFit other → (ns : List ℕ) → take (suc (length ns)) (fields other) ≡ form ∷ ns → Right mu mp [] ns) where
  outside_none : (first : List ℕ) (v : ℕ) → Outside (least_behind first) (most_behind mu mp first) v → NoneHas IsFit (form ∷ first) v
  outside_none first v out other fit is =
      let ns : List ℕ = first ++ v ∷ [] in
      let size : length ns ≡ suc (length first) = omega (arith, length-append first (v ∷ [])) in
      let may : MayFollow mu mp first v = right_last mu mp [] first v (others other fit ns (ap (λ (n : ℕ). take (suc n) (fields other)) size ∙ is)) in
      elim out [ inl under ↦ omega (arith, under, may.0) | inr over ↦ omega (arith, over, may.1) ]

  system_fields_so : (bytes rest : List ℕ) (e : ImageFault) → IsBytes rest → bytes ≡ codes "CVMI" ++ (word form ++ rest) → system_at form mu mp rest ≡ Err e → IsImageAnswer IsFit bytes (Err e)
  system_fields_so bytes rest e fits is h =
      let s : Stop mu mp [] rest e = system_stopped form mu mp rest e l.pages fits h in
      let b : Begun IsFit form s.first = begun IsFit form mu mp l s.first s.right (omega (arith, s.stops.room)) in
      let cause : Cause (2 + length s.first) s.left e (Outside (least_behind s.first) (most_behind mu mp s.first)) = number_cause (2 + length s.first) (least_behind s.first) (most_behind mu mp s.first) s.left e s.fits s.stops.is in
      field_so IsFit b.example.image b.example.fit bytes e (form ∷ s.first) b.rest s.left (2 + length s.first) b.example.is (omega (arith, b.many, s.stops.room, length-append s.first b.rest)) (is ∙ ap (λ (r : List ℕ). codes "CVMI" ++ (word form ++ r)) s.is) (omega arith)
      (cause_of (2 + length s.first) s.left e (Outside (least_behind s.first) (most_behind mu mp s.first)) (NoneHas IsFit (form ∷ s.first)) (outside_none s.first) cause)

  system_parts_so : (bytes : List ℕ) (x : Header × (List ℕ × List ℕ)) (e : ImageFault) → SystemIs form mu mp bytes x → parts_of x.0 x.1.0 x.1.1 ≡ Err e → IsImageAnswer IsFit bytes (Err e)
  system_parts_so bytes x e b h =
      let header : Header = record { form = form; params = b.params; source_length = b.n; word_count = b.k; parts_at = 36 + 4 * b.users } in
      let read : parts_of header b.counts b.rest ≡ Err e = sym (ap (λ (z : Header × (List ℕ × List ℕ)). parts_of z.0 z.1.0 z.1.1) b.found) ∙ h in
      let q : PartsStop header b.counts b.rest e = parts_stopped header b.counts b.rest e b.fits read in
      let p : Params = b.params in
      let many : length q.users ≡ b.users = sym (length-map q.users length) ∙ ap length q.users_many ∙ b.many in
      let sizes : AllByRecursion (λ u. length u ≤ most_user_words p.pages) q.users = sizes_back (most_user_words p.pages) q.users (subst (AllByRecursion (λ n. n ≤ most_user_words p.pages)) (sym q.users_many) b.sizes) in
      let fits : Fits mu mp p q.source q.words q.users = record {
        params = b.range;
        pages = b.pages;
        least = omega (arith, q.words_many, b.least);
        most = omega (arith, q.words_many, b.most);
        few = omega (arith, many, b.few_users);
        sizes = All-from_recursion (λ (u : List ℕ). length u ≤ most_user_words p.pages) q.users sizes;
        source = omega (arith, q.source_many, b.few);
        bits = q.bits;
        user_bits = q.user_bits;
      } in
      let image : ImageParts = system form p q.source q.words q.users in
      let are : fields image ≡ form ∷ seven p b.users b.n b.k b.counts =
      fields_system form p q.source q.words q.users l.other ∙ ap (λ (u : ℕ). form ∷ seven p u (length q.source) (length q.words) (map length q.users)) many
      ∙ ap (λ (a : ℕ). form ∷ seven p b.users a (length q.words) (map length q.users)) q.source_many
      ∙ ap (λ (a : ℕ). form ∷ seven p b.users b.n a (map length q.users)) q.words_many
      ∙ ap (λ (c : List ℕ). form ∷ seven p b.users b.n b.k c) q.users_many in
      part_so IsFit image (l.fit p q.source q.words q.users fits) bytes e b.rest (36 + 4 * b.users) (b.is ∙ ap (λ (ns : List ℕ). marked ns b.rest) (sym are)) (omega (arith, ap length are, b.many)) q.stops

-- ---- the fields of an image in range

bare_fields : (i : ImageParts) → IsInRange i → (n : ℕ) (ns : List ℕ) (k : ℕ) → take (suc k) (fields i) ≡ n ∷ ns → (n ≡ 1) ⊎ (n ≡ 3)
bare_fields i fits n ns k is =
    elim fits.spelled.form [
      | inl b ↦ inl (let h : take (suc k) (fields (bare i.source)) ≡ n ∷ ns = ap (λ (j : ImageParts). take (suc k) (fields j)) (sym (bare_same i b)) ∙ is in cc)
      | inr s ↦ inr (let h : take (suc k) (fields (system 3 i.params i.source i.words i.users)) ≡ n ∷ ns = ap (λ (j : ImageParts). take (suc k) (fields j)) (sym (system_same 3 i s.form)) ∙ is in cc)
    ]

one_three : (P : Type 0) (xs ys : List ℕ) → (let l : List ℕ = 1 ∷ xs in let m : List ℕ = 3 ∷ ys in l ≡ m) → P
one_three P xs ys h = absurd cc

tails : (n : ℕ) (xs ys : List ℕ) → n ∷ xs ≡ n ∷ ys → xs ≡ ys
tails n xs ys h = cc

three_others : (i : ImageParts) → IsInRange i → (ns : List ℕ) → take (suc (length ns)) (fields i) ≡ 3 ∷ ns → Right 64 1024 [] ns
three_others i fits ns is =
    elim fits.spelled.form [
      | inl b ↦ one_three _ _ _ (ap (λ (j : ImageParts). take (suc (length ns)) (fields j)) (sym (bare_same i b)) ∙ is)
      | inr s ↦
          let all : Fits 64 1024 i.params i.source i.words i.users = record { params = s.params; pages = s.params.pages; least = s.least; most = s.most; few = s.users; sizes = s.sizes; source = fits.spelled.source; bits = fits.bits; user_bits = fits.user_bits } in
          let tail : List ℕ = behind_form i.params i.source i.words i.users in
          let same : take (length ns) tail ≡ ns = tails 3 _ _ (ap (λ (j : ImageParts). take (suc (length ns)) (fields j)) (sym (system_same 3 i s.form)) ∙ is) in
          subst (Right 64 1024 []) same (right_take 64 1024 [] tail (length ns) (fits_right 64 1024 i.params i.source i.words i.users all))
    ]

two_others : (i : ImageParts) → IsOldInRange i → (ns : List ℕ) → take (suc (length ns)) (fields i) ≡ 2 ∷ ns → Right 16 256 [] ns
two_others i fits ns is =
    let s : IsOldSystem i = fits.spelled.system in
    let all : Fits 16 256 i.params i.source i.words i.users = record { params = s.params; pages = s.pages; least = s.least; most = s.most; few = s.users; sizes = s.sizes; source = fits.spelled.source; bits = fits.bits; user_bits = fits.user_bits } in
    let tail : List ℕ = behind_form i.params i.source i.words i.users in
    let same : take (length ns) tail ≡ ns = tails 2 _ _ (ap (λ (j : ImageParts). take (suc (length ns)) (fields j)) (sym (system_same 2 i s.form)) ∙ is) in
    subst (Right 16 256 []) same (right_take 16 256 [] tail (length ns) (fits_right 16 256 i.params i.source i.words i.users all))

text_none : (v : ℕ) → Outside 0 1048576 v → NoneHas IsInRange (1 ∷ []) v
text_none v out i fits is =
    elim fits.spelled.form [
      | inl b ↦
          let h : 1 ∷ length i.source ∷ [] ≡ 1 ∷ v ∷ [] = ap (λ (j : ImageParts). take 2 (fields j)) (sym (bare_same i b)) ∙ is in
          let same : length i.source ≡ v = cc in
          elim out [ inl under ↦ omega (arith, under) | inr over ↦ omega (arith, over, same, fits.spelled.source) ]
      | inr s ↦ one_three ⊥ _ _ (sym is ∙ ap (λ (j : ImageParts). take 2 (fields j)) (system_same 3 i s.form))
    ]

-- ---- form 1

bare_field_so : (bytes rest : List ℕ) (e : ImageFault) → IsBytes rest → bytes ≡ codes "CVMI" ++ (word 1 ++ rest) → bare_at rest ≡ Err e → IsImageAnswer IsInRange bytes (Err e)
unfolding bare_at
bare_field_so bytes rest e fits is h =
    elim (stopped (number_at 2 0 1048576 rest) _ e h) [
      | inl s ↦
          field_so IsInRange (bare []) (bare_fit [] (omega arith)) bytes e (1 ∷ []) (0 ∷ []) rest 2 refl (omega arith) is refl
          (cause_of 2 rest e (Outside 0 1048576) (NoneHas IsInRange (1 ∷ [])) text_none (number_cause 2 0 1048576 rest e fits s))
      | inr w ↦ no_fault _ _ e w.next
    ]

bare_parts_so : (bytes : List ℕ) (x : Header × (List ℕ × List ℕ)) (e : ImageFault) → BareIs bytes x → parts_of x.0 x.1.0 x.1.1 ≡ Err e → IsImageAnswer IsInRange bytes (Err e)
bare_parts_so bytes x e b h =
    let header : Header = record { form = 1; params = bare_params; source_length = b.n; word_count = 0; parts_at = 12 } in
    let read : parts_of header [] b.rest ≡ Err e = sym (ap (λ (z : Header × (List ℕ × List ℕ)). parts_of z.0 z.1.0 z.1.1) b.found) ∙ h in
    let q : PartsStop header [] b.rest e = parts_stopped header [] b.rest e b.fits read in
    let none : q.words ≡ [] = nil_of_none q.words q.words_many in
    let alone : q.users ≡ [] = nil_of_none q.users (sym (length-map q.users length) ∙ ap length q.users_many) in
    let stops : StopsIn (q.source ∷ [] ∷ []) 12 b.rest e =
    subst (λ (us : List (List ℕ)). StopsIn (q.source ∷ [] ∷ map (flat_map word) us) 12 b.rest e) alone
    (subst (λ (ws : List ℕ). StopsIn (q.source ∷ flat_map word ws ∷ map (flat_map word) q.users) 12 b.rest e) none q.stops) in
    part_so IsInRange (bare q.source) (bare_fit q.source (omega (arith, q.source_many, b.few))) bytes e b.rest 12 (b.is ∙ ap (λ (n : ℕ). marked (1 ∷ n ∷ []) b.rest) (sym q.source_many)) refl stops

-- ---- the form

is_two : (n : ℕ) → nat_eq n 2 ≡ true → n ≡ 2
is_two n h = grind (arith, nat_tests)

form_cause : (left : List ℕ) (e : ImageFault) → IsBytes left → form_at left ≡ Err e → Cause 1 left e (λ v. (v ≢ 1) × (v ≢ 3))
unfolding form_at
form_cause left e fits h =
    elim (stopped (number_at 1 1 3 left) _ e h) [
      | inl s ↦ cause_of 1 left e (Outside 1 3) (λ v. (v ≢ 1) × (v ≢ 3)) outside (number_cause 1 1 3 left e fits s)
      | inr w ↦
          elim (cases_Bool (nat_eq w.x.0 2)) [
            | inl two ↦
                let n : NumberIs 1 3 left w.x = number_is 1 1 3 left w.x fits w.is in
                let same : w.x.0 ≡ 2 = is_two w.x.0 two in
                let fault : e ≡ Parameter 1 2 = sym (same_fault _ e (sym (cond-true (nat_eq w.x.0 2) _ _ two) ∙ w.next)) in
                inr (record {
                  value = 2;
                  rest = w.x.1;
                  is = n.is ∙ ap (λ (k : ℕ). word k ++ w.x.1) same;
                  small = omega arith;
                  out = ((λ is. omega arith), (λ is. omega arith));
                  fault = fault;
                })
            | inr other ↦ no_fault _ _ e (sym (cond-false (nat_eq w.x.0 2) _ _ other) ∙ w.next)
          ]
    ]
  where
    outside : (v : ℕ) → Outside 1 3 v → (v ≢ 1) × (v ≢ 3)
    outside v (inl under) = ((λ is. omega (arith, is, under)), (λ is. omega (arith, is, under)))
    outside v (inr over) = ((λ is. omega (arith, is, over)), (λ is. omega (arith, is, over)))

no_form : (v : ℕ) → (v ≢ 1) × (v ≢ 3) → NoneHas IsInRange [] v
no_form v out i fits is = elim (bare_fields i fits v [] 0 is) [ inl one ↦ out.0 one | inr three ↦ out.1 three ]

header_so : (bytes : List ℕ) (e : ImageFault) → IsBytes bytes → header_of bytes ≡ Err e → IsImageAnswer IsInRange bytes (Err e)
unfolding header_of
header_so bytes e fits h =
    elim (stopped (mark_at bytes) _ e h) [
      | inl s ↦ mark_so IsInRange (bare []) (bare_fit [] (omega arith)) bytes e s
      | inr a ↦
          let m : (bytes ≡ codes "CVMI" ++ a.x) × IsBytes a.x = mark_is bytes a.x a.is fits in
          elim (stopped (form_at a.x) _ e a.next) [
            | inl s ↦
                field_so IsInRange (bare []) (bare_fit [] (omega arith)) bytes e [] (1 ∷ 0 ∷ []) a.x 1 refl (omega arith) m.0 refl
                (cause_of 1 a.x e (λ v. (v ≢ 1) × (v ≢ 3)) (NoneHas IsInRange []) no_form (form_cause a.x e m.1 s))
            | inr b ↦
                let f : FormIs a.x b.x = form_is a.x b.x b.is m.1 in
                let goes_on : ℕ → Type 0 = λ n. (if nat_eq n 1 then bare_at b.x.1 else system_at 3 64 1024 b.x.1) ≡ Err e in
                let begins : (n : ℕ) → b.x.0 ≡ n → bytes ≡ codes "CVMI" ++ (word n ++ b.x.1) = λ n is. m.0 ∙ ap (λ (l : List ℕ). codes "CVMI" ++ l) f.is ∙ ap (λ (k : ℕ). codes "CVMI" ++ (word k ++ b.x.1)) is in
                elim f.form [
                  | inl one ↦ bare_field_so bytes b.x.1 e f.fits (begins 1 one) (subst goes_on one b.next)
                  | inr three ↦ system_fields_so IsInRange 3 64 1024 limits three_others bytes b.x.1 e f.fits (begins 3 three) (subst goes_on three b.next)
                ]
          ]
    ]

two_only : (v : ℕ) → Outside 2 2 v → NoneHas IsOldInRange [] v
two_only v out i fits is =
    let h : 2 ∷ [] ≡ v ∷ [] = ap (λ (j : ImageParts). take 1 (fields j)) (sym (system_same 2 i fits.spelled.system.form)) ∙ is in
    let same : 2 ≡ v = cc in
    elim out [ inl under ↦ omega (arith, under, same) | inr over ↦ omega (arith, over, same) ]

old_header_so : (bytes : List ℕ) (e : ImageFault) → IsBytes bytes → old_header_of bytes ≡ Err e → IsImageAnswer IsOldInRange bytes (Err e)
unfolding old_header_of
old_header_so bytes e fits h =
    let some : Begun IsOldInRange 2 [] = begun IsOldInRange 2 16 256 old_limits [] tt (omega arith) in
    elim (stopped (mark_at bytes) _ e h) [
      | inl s ↦ mark_so IsOldInRange some.example.image some.example.fit bytes e s
      | inr a ↦
          let m : (bytes ≡ codes "CVMI" ++ a.x) × IsBytes a.x = mark_is bytes a.x a.is fits in
          elim (stopped (number_at 1 2 2 a.x) _ e a.next) [
            | inl s ↦
                field_so IsOldInRange some.example.image some.example.fit bytes e [] (2 ∷ some.rest) a.x 1 some.example.is (omega arith) m.0 refl
                (cause_of 1 a.x e (Outside 2 2) (NoneHas IsOldInRange []) two_only (number_cause 1 2 2 a.x e m.1 s))
            | inr b ↦
                let n : NumberIs 2 2 a.x b.x = number_is 1 2 2 a.x b.x m.1 b.is in
                let two : b.x.0 ≡ 2 = omega (arith, n.low, n.high) in
                let begins : bytes ≡ codes "CVMI" ++ (word 2 ++ b.x.1) = m.0 ∙ ap (λ (l : List ℕ). codes "CVMI" ++ l) n.is ∙ ap (λ (k : ℕ). codes "CVMI" ++ (word k ++ b.x.1)) two in
                system_fields_so IsOldInRange 2 16 256 old_limits two_others bytes b.x.1 e n.fits begins b.next
          ]
    ]

-- ---- all answers

fault_so : (bytes : List ℕ) (e : ImageFault) → IsBytes bytes → answer bytes ≡ Err e → IsImageAnswer IsInRange bytes (Err e)
unfolding answer
fault_so bytes e fits h =
    elim (stopped (header_of bytes) _ e h) [
      | inl s ↦ header_so bytes e fits s
      | inr a ↦
          elim (stopped (parts_of a.x.0 a.x.1.0 a.x.1.1) _ e a.next) [
            | inl s ↦
                elim (header_is bytes a.x a.is fits) [
                  | inl b ↦ bare_parts_so bytes a.x e b s
                  | inr b ↦ system_parts_so IsInRange 3 64 1024 limits three_others bytes a.x e b s
                ]
            | inr b ↦ no_fault _ _ e b.next
          ]
    ]

old_fault_so : (bytes : List ℕ) (e : ImageFault) → IsBytes bytes → old_answer bytes ≡ Err e → IsImageAnswer IsOldInRange bytes (Err e)
unfolding old_answer
old_fault_so bytes e fits h =
    elim (stopped (old_header_of bytes) _ e h) [
      | inl s ↦ old_header_so bytes e fits s
      | inr a ↦
          elim (stopped (parts_of a.x.0 a.x.1.0 a.x.1.1) _ e a.next) [
            | inl s ↦ system_parts_so IsOldInRange 2 16 256 old_limits two_others bytes a.x e (old_header_is bytes a.x a.is fits) s
            | inr b ↦ no_fault _ _ e b.next
          ]
    ]

answered_so : (bytes : List ℕ) (r : Result ImageParts ImageFault) → IsBytes bytes → answer bytes ≡ r → IsImageAnswer IsInRange bytes r
answered_so bytes (Ok i) fits is = answer_spelled bytes fits i is
answered_so bytes (Err e) fits is = fault_so bytes e fits is

old_answered_so : (bytes : List ℕ) (r : Result ImageParts ImageFault) → IsBytes bytes → old_answer bytes ≡ r → IsImageAnswer IsOldInRange bytes r
old_answered_so bytes (Ok i) fits is = old_answer_spelled bytes fits i is
old_answered_so bytes (Err e) fits is = old_fault_so bytes e fits is

pub answer_so : (bytes : List ℕ) → IsBytes bytes → IsImageAnswer IsInRange bytes (answer bytes)
answer_so bytes fits = answered_so bytes (answer bytes) fits refl

pub old_answer_so : (bytes : List ℕ) → IsBytes bytes → IsImageAnswer IsOldInRange bytes (old_answer bytes)
old_answer_so bytes fits = old_answered_so bytes (old_answer bytes) fits refl
