-- The entries of a primitive that has returned, by its arguments and its answer as words.
-- It serves `traces_grow` alone.
use Rattle.std.proofs.Common.{◌≡◌, ℕ, zero, suc, ◌+◌, ◌-◌, ◌*◌, ◌/◌, ◌%◌, ◌^◌, ◌<◌, ◌≤◌, ◌&&◌, Bool, true, false, cond, List, [], ◌∷◌, ◌++◌, length, take, drop, refl, sym, ap, ap₂, ◌∙◌, subst, ⊎_elim, arith, eqb-true, append-nil}
use Rattle.std.specs.Prelude.{◌==◌, ℤ, pos, negsuc, nat_abs, slice_index, slice_index_or, slice_set}
use Rattle.std.specs.Int.{cast_unsigned, w32}
use Rattle.std.proofs.lemmas.Bool.{cases_lt, cond_both, leb-true}
use Rattle.std.proofs.lemmas.Int.{of_z-to_z, to_z_pos}
use Rattle.std.proofs.Math.Facts.{to_z-neg}
use Rattle.std.proofs.lemmas.List.{length-append, length-take, length-take-le, take_at}
use Rattle.mips_table.specs.Machine.{Console}
use Rattle.mips_table.specs.Arith.{signed}
use Rattle.mips_table.specs.Flat.{Flat}
use Rattle.c0_meaning.specs.Value.{bool}
use Rattle.cvm_model.specs.Kernel.{flat, JournalEntry, Set, Size, Put}
use Rattle.cvm_model.specs.Primitives.{KernelCall, VmGet, VmSet, VmSize, VmResize, VmWord, VmPut, VmCopy, ConPut, ConGet, ConLeft, primitive_number, arguments_of, user_of, with_user, with_words, put_entries, is_within, is_address, is_good, refused, unchanged, granted, prim, Given, no_flat}
use Rattle.cvm_model.specs.Journal.{changes_of}
use Rattle.layer_contract.specs.Layer.{AreArguments}
use Rattle.boot_turns.specs.declared.tracer.Entered.{Entered}
use Rattle.boot_turns.specs.Entries.{call_ends}

both_left : (a b : Bool) → (a && b) ≡ true → a ≡ true
both_left true b h = refl
both_left false b h = absurd (cc)

both_right : (a b : Bool) → (a && b) ≡ true → b ≡ true
both_right true b h = h
both_right false b h = absurd (cc)

signed_pos : (x : ℕ) → x < 2 ^ 31 → signed x ≡ pos x
signed_pos x lt = to_z_pos w32 x lt

signed_neg : (x : ℕ) → 2 ^ 31 ≤ x → x < 2 ^ 32 → signed x ≡ negsuc (2 ^ 32 - suc x)
signed_neg x le lt = let e : x ≡ 2 ^ 32 - suc (2 ^ 32 - suc x) = omega arith in ap signed e ∙ to_z-neg w32 (2 ^ 32 - suc x) (omega arith)

-- the word of an int, and of one that isn't below 0
word_is : (w : ℕ) (z : ℤ) → w < 2 ^ 32 → signed w ≡ z → cast_unsigned w32 z ≡ w
word_is w z lt e = ap (cast_unsigned w32) (sym e) ∙ of_z-to_z w32 w lt

abs_is : (w : ℕ) (z : ℤ) → w < 2 ^ 32 → signed w ≡ z → (n : ℕ) × (z ≡ pos n) → nat_abs z ≡ w
abs_is w z lt e (n, p) = ⊎_elim
    (λ (small : w < 2 ^ 31). ap nat_abs (sym e ∙ signed_pos w small))
    (λ (large : 2 ^ 31 ≤ w). absurd (apart (sym (signed_neg w large lt) ∙ e ∙ p)))
    (cases_lt w (2 ^ 31))
  where
    apart : {m : ℕ} → negsuc m ≡ pos n → ⊥
    apart h = cc

within_pos : (low high : ℕ) (z : ℤ) → is_within low high z ≡ true → (n : ℕ) × (z ≡ pos n)
within_pos low high (pos n) h = (n, refl)
within_pos low high (negsuc n) h = absurd (cc)

place_pos : (f : Flat) (z : ℤ) (n : ℕ) → is_address f z n ≡ true → (m : ℕ) × (z ≡ pos m)
place_pos f (pos m) n h = (m, refl)
place_pos f (negsuc m) n h = absurd (cc)

-- words of a range that is good lie in the memory
place_is : (f : Flat) (z : ℤ) (n : ℕ) → is_address f z n ≡ true → nat_abs z / 4 + n ≤ length f.words
place_is f (pos a) n h =
    let aligned : a % 4 ≡ 0 = eqb-true (a % 4) 0 (both_left _ _ h) in
    let inside : a + 4 * n ≤ 4096 * (length f.words / 1024) = leb-true _ _ (both_right _ _ h) in
    omega arith
place_is f (negsuc a) n h = absurd (cc)

one_value : (a b : ℕ) → a ∷ [] ≡ b ∷ [] → a ≡ b
one_value a b h = cc

no_change : (u : ℕ) → changes_of u (record { number = 0; arguments = []; user = 0; entries = [] } ∷ []) ≡ []
no_change u = by (0 == u)
  where
    by : (b : Bool) → ◌≡◌ {A = List JournalEntry} (cond b [] [] ++ []) []
    by true = refl
    by false = refl

nothing : (b : Bool) → ◌≡◌ {A = List JournalEntry} [] (cond b [] [])
nothing true = refl
nothing false = refl

-- the words that were put are the user's then
put_words : (ws new : List ℕ) (b n : ℕ) → b + n ≤ length ws → length new ≡ n → take n (drop b (take b ws ++ (new ++ drop (b + length new) ws))) ≡ new
put_words ws new b n le e =
    ap (take n) (drop_front (take b ws) (new ++ drop (b + length new) ws) b (length-take-le b ws (omega (arith, le)))) ∙ take_at new (drop (b + length new) ws) n e
  where
    drop_front : (p q : List ℕ) (n : ℕ) → length p ≡ n → drop n (p ++ q) ≡ q
    drop_front [] q zero e = refl
    drop_front [] q (suc n) e = absurd (omega (arith, e))
    drop_front (x ∷ p) q zero e = absurd (omega (arith, e))
    drop_front (x ∷ p) q (suc n) e = drop_front p q n (omega (arith, e))

user_set : (users : List Flat) (u : ℕ) (f : Flat) → 1 ≤ u → u ≤ length users → user_of (with_user users u f) u ≡ f
user_set users u f low high = at users (u - 1) (omega (arith, low, high))
  where
    at : (xs : List Flat) (i : ℕ) → i < length xs → slice_index_or (slice_set xs i f) i no_flat ≡ f
    at [] i lt = absurd (omega (arith, lt))
    at (x ∷ xs) zero lt = refl
    at (x ∷ xs) (suc i) lt = at xs i (omega (arith, lt))

length_dropped : (n : ℕ) (xs : List ℕ) → length (drop n xs) ≡ length xs - n
length_dropped zero xs = omega arith
length_dropped (suc n) [] = omega arith
length_dropped (suc n) (x ∷ xs) = length_dropped n xs ∙ omega arith

-- words that are replaced are as many
put_length : (ws new : List ℕ) (b : ℕ) → b + length new ≤ length ws → length (take b ws ++ (new ++ drop (b + length new) ws)) ≡ length ws
put_length ws new b le =
    let p = length-append (take b ws) (new ++ drop (b + length new) ws) in
    let q = length-append new (drop (b + length new) ws) in
    let r = length-take-le b ws (omega (arith, le)) in
    let s = length_dropped (b + length new) ws in
    omega (arith, p, q, r, s, le)

module _ (regs : List ℕ) (fits : (r : ℕ) → slice_index regs r < 2 ^ 32) (u back answer : ℕ) where
  -- what is noted of it
  abbrev pub called : ℕ → Entered
  called k = record { primitive = k; back = back; arguments = slice_index regs 20 ∷ slice_index regs 21 ∷ slice_index regs 22 ∷ slice_index regs 23 ∷ slice_index regs 24 ∷ [] }

  -- the entries of what a call comes to are those of the note
  abbrev Agrees : ℕ → Given → Type 0
  Agrees k g = flat (λ _. 0) g.answer ≡ answer ∷ [] → changes_of u (record { number = 0; arguments = []; user = g.changes.user; entries = g.changes.entries } ∷ []) ≡ call_ends u (called k) answer (user_of g.users u).words

  no_call : (k : ℕ) (words : List ℕ) → answer ≡ 0 → [] ≡ call_ends u (called k) answer words
  no_call k words e = sym (ap (λ a. call_ends u (called k) a words) e)

  refuses : (users : List Flat) (o : Console) (k : ℕ) → Agrees k (unchanged users o (bool false) 0 0)
  refuses users o k h = no_change u ∙ no_call k (user_of users u).words (sym (one_value _ _ h))

  refused_agrees : (users : List Flat) (o : Console) (call : KernelCall) → Agrees (primitive_number call) (unchanged users o (refused call) 0 0)
  refused_agrees users o (VmGet v r) h = no_change u ∙ nothing (answer == 1)
  refused_agrees users o (VmSet v r w) h = refuses users o 1 h
  refused_agrees users o (VmSize v) h = no_change u ∙ nothing (answer == 1)
  refused_agrees users o (VmResize v pages) h = refuses users o 3 h
  refused_agrees users o (VmWord v a) h = no_change u ∙ nothing (answer == 1)
  refused_agrees users o (VmPut v a w) h = refuses users o 5 h
  refused_agrees users o (VmCopy v a w b n) h = refuses users o 6 h
  refused_agrees users o (ConPut w) h = no_change u ∙ nothing (answer == 1)
  refused_agrees users o ConGet h = no_change u ∙ nothing (answer == 1)
  refused_agrees users o ConLeft h = no_change u ∙ nothing (answer == 1)

  -- one entry, of user w
  one_entry : (w v : ℕ) (e f : JournalEntry) → w ≡ v → e ≡ f → cond (w == u) (e ∷ []) [] ++ [] ≡ cond (v == u) (f ∷ []) []
  one_entry w v e f p q = append-nil _ ∙ ap₂ (λ (w : ℕ) (e : JournalEntry). cond (w == u) (e ∷ []) []) p q

  true_answer : (k : ℕ) (words : List ℕ) → 1 ∷ [] ≡ answer ∷ [] → call_ends u (called k) 1 words ≡ call_ends u (called k) answer words
  true_answer k words h = ap (λ a. call_ends u (called k) a words) (one_value 1 answer h)

  word_of : (r : ℕ) (z : ℤ) → signed (slice_index regs r) ≡ z → cast_unsigned w32 z ≡ slice_index regs r
  word_of r z e = word_is (slice_index regs r) z (fits r) e

  abs_of : (r : ℕ) (z : ℤ) → signed (slice_index regs r) ≡ z → (n : ℕ) × (z ≡ pos n) → nat_abs z ≡ slice_index regs r
  abs_of r z e p = abs_is (slice_index regs r) z (fits r) e p

  module _ (most : ℕ) (users : List Flat) (o : Console) (low : 1 ≤ u) (high : u ≤ length users) where
    abbrev call_copy : (user at count : ℕ) → List ℕ → List JournalEntry
    call_copy user at count words = cond (user == u) (put_entries at (take count (drop (at / 4) words))) []

    copied : (a b v w : ℤ) (n : ℕ) → is_good most users (VmCopy v a w b (pos n)) ≡ true → AreArguments regs 20 (arguments_of (VmCopy v a w b (pos n))) → Agrees 6 (granted users o (VmCopy v a w b (pos n)))
    copied a b v w n good args h =
        let h4 = both_left _ _ good in
        let h3 = both_left _ _ h4 in
        let h2 = both_left _ _ h3 in
        let target : is_within 1 (length users) w ≡ true = both_right _ _ h2 in
        let from : is_address (user_of users (nat_abs v)) a n ≡ true = both_right _ _ h3 in
        let to : is_address (user_of users (nat_abs w)) b n ≡ true = both_right _ _ h4 in
        let ew : nat_abs w ≡ slice_index regs 22 = abs_of 22 w args.1.1.0 (within_pos 1 (length users) w target) in
        let eb : nat_abs b ≡ slice_index regs 23 = abs_of 23 b args.1.1.1.0 (place_pos (user_of users (nat_abs w)) b n to) in
        let en : n ≡ slice_index regs 24 = abs_of 24 (pos n) args.1.1.1.1.0 (n, refl) in
        let source : List ℕ = (user_of users (nat_abs v)).words in
        let room = place_is (user_of users (nat_abs v)) a n from in
        let size : length (take n (drop (nat_abs a / 4) (user_of users (nat_abs v)).words)) ≡ n =
        length-take-le n (drop (nat_abs a / 4) (user_of users (nat_abs v)).words) (let l = length_dropped (nat_abs a / 4) (user_of users (nat_abs v)).words in omega (arith, l, room)) in
        append-nil _ ∙ by (take n (drop (nat_abs a / 4) (user_of users (nat_abs v)).words)) (nat_abs w == u) refl size (place_is (user_of users (nat_abs w)) b n to)
        ∙ ap (λ (q : ℕ). call_copy q (nat_abs b) n (user_of (with_user users (nat_abs w) (with_words (user_of users (nat_abs w)) (nat_abs b) (take n (drop (nat_abs a / 4) (user_of users (nat_abs v)).words)))) u).words) ew
        ∙ ap₂ (λ (q i : ℕ). call_copy (slice_index regs 22) q i (user_of (with_user users (nat_abs w) (with_words (user_of users (nat_abs w)) (nat_abs b) (take n (drop (nat_abs a / 4) (user_of users (nat_abs v)).words)))) u).words) eb en
        ∙ true_answer 6 _ h
      where
        by : (new : List ℕ) (c : Bool) → (nat_abs w == u) ≡ c → length new ≡ n → nat_abs b / 4 + n ≤ length (user_of users (nat_abs w)).words →
            cond c (put_entries (nat_abs b) new) [] ≡ cond c (put_entries (nat_abs b) (take n (drop (nat_abs b / 4) (user_of (with_user users (nat_abs w) (with_words (user_of users (nat_abs w)) (nat_abs b) new)) u).words))) []
        by new false e size room = refl
        by new true e size room =
            let same : nat_abs w ≡ u = eqb-true (nat_abs w) u e in
            let there : user_of (with_user users (nat_abs w) (with_words (user_of users (nat_abs w)) (nat_abs b) new)) u ≡ with_words (user_of users (nat_abs w)) (nat_abs b) new =
            subst (λ i. user_of (with_user users i (with_words (user_of users (nat_abs w)) (nat_abs b) new)) u ≡ with_words (user_of users (nat_abs w)) (nat_abs b) new) (sym same)
            (user_set users u (with_words (user_of users (nat_abs w)) (nat_abs b) new) low high) in
            ap (put_entries (nat_abs b))
            (sym (ap (λ (f : Flat). take n (drop (nat_abs b / 4) f.words)) there ∙ put_words (user_of users (nat_abs w)).words new (nat_abs b / 4) n room size))

    granted_agrees : (call : KernelCall) → is_good most users call ≡ true → AreArguments regs 20 (arguments_of call) → Agrees (primitive_number call) (granted users o call)
    granted_agrees (VmGet v r) good args h = no_change u ∙ nothing (answer == 1)
    granted_agrees (VmSet v r w) good args h =
        let ev = abs_of 20 v args.0 (within_pos 1 (length users) v (both_left _ _ good)) in
        let er = abs_of 21 r args.1.0 (within_pos 1 32 r (both_right _ _ good)) in
        one_entry (nat_abs v) (slice_index regs 20) (Set (nat_abs r) (cast_unsigned w32 w)) (Set (slice_index regs 21) (slice_index regs 22)) ev (ap₂ Set er (word_of 22 w args.1.1.0))
        ∙ true_answer 1 [] h
    granted_agrees (VmSize v) good args h = no_change u ∙ nothing (answer == 1)
    granted_agrees (VmResize v pages) good args h =
        let ev = abs_of 20 v args.0 (within_pos 1 (length users) v (both_left _ _ good)) in
        let ep = abs_of 21 pages args.1.0 (within_pos 0 most pages (both_right _ _ good)) in
        one_entry (nat_abs v) (slice_index regs 20) (Size (nat_abs pages)) (Size (slice_index regs 21)) ev (ap Size ep) ∙ true_answer 3 [] h
    granted_agrees (VmWord v a) good args h = no_change u ∙ nothing (answer == 1)
    granted_agrees (VmPut v a w) good args h =
        let ev = abs_of 20 v args.0 (within_pos 1 (length users) v (both_left _ _ good)) in
        let ea = abs_of 21 a args.1.0 (place_pos (user_of users (nat_abs v)) a 1 (both_right _ _ good)) in
        one_entry (nat_abs v) (slice_index regs 20) (Put (nat_abs a) (cast_unsigned w32 w)) (Put (slice_index regs 21) (slice_index regs 22)) ev (ap₂ Put ea (word_of 22 w args.1.1.0))
        ∙ true_answer 5 [] h
    granted_agrees (VmCopy v a w b (negsuc n)) good args h = absurd (cc)
    granted_agrees (VmCopy v a w b (pos n)) good args h = copied a b v w n good args h
    granted_agrees (ConPut w) good args h = no_change u ∙ nothing (answer == 1)
    granted_agrees ConGet good args h = no_change u ∙ nothing (answer == 1)
    granted_agrees ConLeft good args h = no_change u ∙ nothing (answer == 1)

    -- THE ENTRIES of user u of what a primitive changed are those by its note
    pub call_agrees : (call : KernelCall) → AreArguments regs 20 (arguments_of call) → Agrees (primitive_number call) (prim most call users o)
    call_agrees call args = cond_both (is_good most users call) (granted users o call) (unchanged users o (refused call) 0 0) (Agrees (primitive_number call)) (λ good. granted_agrees call good args) (λ _. refused_agrees users o call)

    -- the words that were copied lie in the user's memory
    copied_placed : (a b v w : ℤ) (n : ℕ) → is_good most users (VmCopy v a w b (pos n)) ≡ true → AreArguments regs 20 (arguments_of (VmCopy v a w b (pos n))) → slice_index regs 22 ≡ u →
        slice_index regs 23 / 4 + slice_index regs 24 ≤ length (user_of (granted users o (VmCopy v a w b (pos n))).users u).words
    copied_placed a b v w n good args same =
        let h4 = both_left _ _ good in
        let h3 = both_left _ _ h4 in
        let h2 = both_left _ _ h3 in
        let target : is_within 1 (length users) w ≡ true = both_right _ _ h2 in
        let from : is_address (user_of users (nat_abs v)) a n ≡ true = both_right _ _ h3 in
        let to : is_address (user_of users (nat_abs w)) b n ≡ true = both_right _ _ h4 in
        let ew : nat_abs w ≡ u = abs_of 22 w args.1.1.0 (within_pos 1 (length users) w target) ∙ same in
        let eb : nat_abs b ≡ slice_index regs 23 = abs_of 23 b args.1.1.1.0 (place_pos (user_of users (nat_abs w)) b n to) in
        let en : n ≡ slice_index regs 24 = abs_of 24 (pos n) args.1.1.1.1.0 (n, refl) in
        let few = length-take n (drop (nat_abs a / 4) (user_of users (nat_abs v)).words) in
        let room = place_is (user_of users (nat_abs w)) b n to in
        let size : length (with_words (user_of users (nat_abs w)) (nat_abs b) (take n (drop (nat_abs a / 4) (user_of users (nat_abs v)).words))).words ≡ length (user_of users (nat_abs w)).words =
        put_length (user_of users (nat_abs w)).words (take n (drop (nat_abs a / 4) (user_of users (nat_abs v)).words)) (nat_abs b / 4) (omega (arith, few, room)) in
        let there : user_of (with_user users (nat_abs w) (with_words (user_of users (nat_abs w)) (nat_abs b) (take n (drop (nat_abs a / 4) (user_of users (nat_abs v)).words)))) u
        ≡ with_words (user_of users (nat_abs w)) (nat_abs b) (take n (drop (nat_abs a / 4) (user_of users (nat_abs v)).words)) =
        subst (λ i. user_of (with_user users i (with_words (user_of users (nat_abs w)) (nat_abs b) (take n (drop (nat_abs a / 4) (user_of users (nat_abs v)).words)))) u
        ≡ with_words (user_of users (nat_abs w)) (nat_abs b) (take n (drop (nat_abs a / 4) (user_of users (nat_abs v)).words))) (sym ew)
        (user_set users u (with_words (user_of users (nat_abs w)) (nat_abs b) (take n (drop (nat_abs a / 4) (user_of users (nat_abs v)).words))) low high) in
        let same_length = ap (λ (f : Flat). length f.words) there in
        let bound : nat_abs b / 4 + n ≤ length (user_of (with_user users (nat_abs w) (with_words (user_of users (nat_abs w)) (nat_abs b) (take n (drop (nat_abs a / 4) (user_of users (nat_abs v)).words)))) u).words =
        omega (arith, room, size, same_length) in
        subst (λ i. i / 4 + slice_index regs 24 ≤ length (user_of (granted users o (VmCopy v a w b (pos n))).users u).words) eb
        (subst (λ i. nat_abs b / 4 + i ≤ length (user_of (granted users o (VmCopy v a w b (pos n))).users u).words) en bound)

    abbrev Placed : KernelCall → Given → Type 0
    Placed call g = flat (λ _. 0) g.answer ≡ answer ∷ [] → answer ≡ 1 → primitive_number call ≡ 6 → slice_index regs 22 ≡ u → slice_index regs 23 / 4 + slice_index regs 24 ≤ length (user_of g.users u).words

    not_one : (a : ℕ) → 0 ∷ [] ≡ a ∷ [] → a ≡ 1 → ⊥
    not_one a h one = let z = one_value 0 a h in omega (arith, z, one)

    other_call : (k : ℕ) → k ≡ 6 → k < 6 → ⊥
    other_call k e lt = omega (arith, e, lt)

    later_call : (k : ℕ) → k ≡ 6 → 6 < k → ⊥
    later_call k e lt = omega (arith, e, lt)

    pub call_placed : (call : KernelCall) → AreArguments regs 20 (arguments_of call) → Placed call (prim most call users o)
    call_placed (VmGet v r) args h one six same = absurd (other_call 0 six (omega arith))
    call_placed (VmSet v r w) args h one six same = absurd (other_call 1 six (omega arith))
    call_placed (VmSize v) args h one six same = absurd (other_call 2 six (omega arith))
    call_placed (VmResize v pages) args h one six same = absurd (other_call 3 six (omega arith))
    call_placed (VmWord v a) args h one six same = absurd (other_call 4 six (omega arith))
    call_placed (VmPut v a w) args h one six same = absurd (other_call 5 six (omega arith))
    call_placed (VmCopy v a w b (negsuc n)) args h one six same = absurd (not_one answer h one)
    call_placed (VmCopy v a w b (pos n)) args h one six same =
        cond_both (is_good most users (VmCopy v a w b (pos n))) (granted users o (VmCopy v a w b (pos n))) (unchanged users o (bool false) 0 0) (Placed (VmCopy v a w b (pos n)))
        (λ good h one six same. copied_placed a b v w n good args same) (λ bad h one six same. absurd (not_one answer h one)) h one six same
    call_placed (ConPut w) args h one six same = absurd (later_call 7 six (omega arith))
    call_placed ConGet args h one six same = absurd (later_call 8 six (omega arith))
    call_placed ConLeft args h one six same = absurd (later_call 9 six (omega arith))
