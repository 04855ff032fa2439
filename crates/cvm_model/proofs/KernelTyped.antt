-- A checked unit's data stays typed in its dispatches: the answers of the kernel's primitives have their types.
use Rattle.std.proofs.Common.{◌≡◌, ℕ, zero, suc, ◌+◌, ◌-◌, ◌*◌, ◌/◌, ◌^◌, ◌≤◌, ◌&&◌, Bool, true, false, cond, nat_lt, List, [], ◌∷◌, ◌++◌, length, replicate, take, drop, slice_index_or, slice_set, All, Option, Some, refl, sym, ap, ap₂, ◌∙◌, subst, arith, length-set, ltb-true, ltb-false, le-leb, leb-true}
use Rattle.std.specs.Prelude.{ℤ, pos, negsuc, nat_abs, nat_le, FitsSigned, option_map, option_and_then, slice_get}
use Rattle.std.specs.List.{list_all}
use Rattle.std.specs.Int.{cast_unsigned, w32}
use Rattle.std.proofs.lemmas.List.{length-append, length-take, length-drop, length-replicate}
use Rattle.std.proofs.lemmas.List.Elements.{All-nil, All-head, All-tail}
use Rattle.mips_table.specs.Machine.{Console}
use Rattle.mips_table.specs.Arith.{signed}
use Rattle.c0_tree.specs.declared.primitive.Scalar.{Scalar}
use Rattle.c0_tree.specs.declared.primitive.Scalar.TheVariants.{Int, Bool as Boolean}
use Rattle.c0_tree.specs.Primitives.{CPrimitive, kernel_primitives}
use Rattle.c0_tree.specs.Tree.{CUnit}
use Rattle.c0_meaning.specs.Ty as ty
use Rattle.c0_meaning.specs.Value.{int, bool, null, at, group, Values, empty, part}
use Rattle.c0_meaning.specs.State.{C0State}
use Rattle.c0_meaning.specs.Operators.{faulted, stuck}
use Rattle.c0_meaning.specs.Execution as c0_run
use Rattle.c0_meaning.specs.TypedState.{StoreTyping, AllFit, IsTypedState, IsTypedFrame, store_typing, IsScalar, AreScalars, AnswersFit, RunIsSafe}
use Rattle.c0_meaning.specs.RunLaws.{FirstIsTyped, DispatchesAreSafe, DispatchesAnswer, AnswersAnInt}
use Rattle.c0_meaning.specs.World.{Cost, Configuration}
use Rattle.mips_table.specs.Flat.{Flat}
use Rattle.layer_map.specs.Map.{Map, ParamsInRange}
use Rattle.cvm_model.specs.Kernel.{Core, Changes, Answers, NotYet}
use Rattle.cvm_model.specs.Primitives.{KernelCall, VmGet, VmSet, VmSize, VmResize, VmWord, VmPut, VmCopy, ConPut, ConGet, ConLeft, Given, primitive_number, arguments_of, is_good, is_within, granted, refused, unchanged, prim, no_flat, user_of, pages_of, with_register, resized, with_word, with_words}
use Rattle.cvm_model.specs.KernelMeaning.{Machines, ints_of, call_numbered, primitive_called, kernel_primitive, setting_of, machines_of, answer_end, outcome_of}
use Rattle.cvm_model.specs.Stands.{CoreFits, UserFits, input_room}
use Rattle.cvm_model.specs.TypedKernel.{RowsAreCalled, UnitsAnswerInts, UnitsStayTyped, UnitsWantUnits}
use Rattle.cvm_model.proofs.PrimitiveReplays.{and_left, and_right, place_is}

-- a machine of at most 1,024 pages, and machines with few input words
abbrev pub is_small : Flat → Bool
is_small f = nat_le (pages_of f) 1024

abbrev pub are_small : Machines → Bool
are_small m = (nat_le m.most 1024 && nat_le (length m.console.input) input_room) && list_all is_small m.users

set_all : (fs : List Flat) (i : ℕ) (f : Flat) → list_all is_small fs ≡ true → is_small f ≡ true → list_all is_small (slice_set fs i f) ≡ true
set_all [] i f h s = refl
set_all (g ∷ fs) zero f h s = ap₂ (λ a b. a && b) s (and_right _ _ h)
set_all (g ∷ fs) (suc i) f h s = ap₂ (λ a b. a && b) (and_left _ _ h) (set_all fs i f (and_right _ _ h) s)

index_all : (fs : List Flat) (i : ℕ) → list_all is_small fs ≡ true → is_small (slice_index_or fs i no_flat) ≡ true
index_all [] i h = refl
index_all (g ∷ fs) zero h = and_left _ _ h
index_all (g ∷ fs) (suc i) h = index_all fs i (and_right _ _ h)

-- a machine whose memory is as long
as_long : (f g : Flat) → length g.words ≡ length f.words → is_small f ≡ true → is_small g ≡ true
as_long f g e s = ap (λ n. nat_le (n / 1024) 1024) e ∙ s

-- what a call leaves: small machines and few input words
record Small (most : ℕ) (g : Given) : Type 0 where
  users : list_all is_small g.users ≡ true
  input : length g.console.input ≤ input_room

put_input : (b : Bool) (o p : Console) → length o.input ≤ input_room → length p.input ≤ input_room → length (cond b o p).input ≤ input_room
put_input true o p h i = h
put_input false o p h i = i

within_pages : (most : ℕ) (p : ℤ) → is_within 0 most p ≡ true → nat_abs p ≤ most
within_pages most (pos n) h = leb-true n most (and_right _ _ h)
within_pages most (negsuc n) h = absurd (cc)

granted_small : (most : ℕ) (c : KernelCall) (users : List Flat) (o : Console) → most ≤ 1024 → list_all is_small users ≡ true → length o.input ≤ input_room → is_good most users c ≡ true → Small most (granted users o c)
granted_small most (VmGet u r) users o k h i g = record { users = h; input = i }
granted_small most (VmSet u r v) users o k h i g =
    let f : Flat = user_of users (nat_abs u) in
    record { users = set_all users (nat_abs u - 1) (with_register f (nat_abs r) (cast_unsigned w32 v)) h (index_all users (nat_abs u - 1) h); input = i }
granted_small most (VmSize u) users o k h i g = record { users = h; input = i }
granted_small most (VmResize u p) users o k h i g =
    let f : Flat = user_of users (nat_abs u) in
    let few : nat_abs p ≤ most = within_pages most p (and_right _ _ g) in
    let size : length (resized f (nat_abs p)).words ≡ 1024 * nat_abs p =
    length-append (take (1024 * nat_abs p) f.words) (replicate (1024 * nat_abs p - length f.words) 0) ∙ omega (arith, length-take (1024 * nat_abs p) f.words, length-replicate {A = ℕ} (1024 * nat_abs p - length f.words) 0) in
    let fits : pages_of (resized f (nat_abs p)) ≤ 1024 = omega (arith, size, few, k) in
    record { users = set_all users (nat_abs u - 1) (resized f (nat_abs p)) h (le-leb (pages_of (resized f (nat_abs p))) 1024 fits); input = i }
granted_small most (VmWord u a) users o k h i g = record { users = h; input = i }
granted_small most (VmPut u a v) users o k h i g =
    let f : Flat = user_of users (nat_abs u) in
    let new : Flat = with_word f (nat_abs a) (cast_unsigned w32 v) in
    record { users = set_all users (nat_abs u - 1) new h (as_long f new (length-set f.words (nat_abs a / 4) (cast_unsigned w32 v)) (index_all users (nat_abs u - 1) h)); input = i }
granted_small most (VmCopy u a v b (negsuc n)) users o k h i g = absurd (cc)
granted_small most (VmCopy u a v b (pos n)) users o k h i g =
    let f : Flat = user_of users (nat_abs v) in
    let words : List ℕ = take n (drop (nat_abs a / 4) (user_of users (nat_abs u)).words) in
    let some : length words ≤ n = omega (arith, length-take n (drop (nat_abs a / 4) (user_of users (nat_abs u)).words)) in
    let inside : nat_abs b / 4 + n ≤ length f.words = place_is f b n (and_right _ _ (and_left _ _ g)) in
    let size : length (with_words f (nat_abs b) words).words ≡ length f.words =
    length-append (take (nat_abs b / 4) f.words) (words ++ drop (nat_abs b / 4 + length words) f.words)
    ∙ omega (arith, length-take (nat_abs b / 4) f.words, length-append words (drop (nat_abs b / 4 + length words) f.words), length-drop (nat_abs b / 4 + length words) f.words) in
    record { users = set_all users (nat_abs v - 1) (with_words f (nat_abs b) words) h (as_long f (with_words f (nat_abs b) words) size (index_all users (nat_abs v - 1) h)); input = i }
granted_small most (ConPut w) users o k h i g = record { users = h; input = put_input _ (record o { log = _ }) o i i }
granted_small most ConGet users o k h i g = record { users = h; input = omega (arith, length-drop 1 o.input) }
granted_small most ConLeft users o k h i g = record { users = h; input = i }

prim_small : (most : ℕ) (c : KernelCall) (users : List Flat) (o : Console) → most ≤ 1024 → list_all is_small users ≡ true → length o.input ≤ input_room → Small most (prim most c users o)
prim_small most c users o k h i = by (is_good most users c) refl
  where
    by : (b : Bool) → is_good most users c ≡ b → Small most (cond b (granted users o c) (unchanged users o (refused c) 0 0))
    by true e = granted_small most c users o k h i e
    by false e = record { users = h; input = i }

-- THE ANSWERS
abbrev pub scalar_of : KernelCall → Scalar
scalar_of (VmSet u r v) = Boolean
scalar_of (VmResize u p) = Boolean
scalar_of (VmPut u a v) = Boolean
scalar_of (VmCopy u a v b n) = Boolean
scalar_of (ConPut w) = Boolean
scalar_of other = Int

pub signed_fits : (n : ℕ) → FitsSigned w32 (signed n)
signed_fits n = by_test (nat_lt n (2 ^ 31)) refl
  where
    by_test : (b : Bool) → nat_lt n (2 ^ 31) ≡ b → FitsSigned w32 (signed n)
    by_test true e = rw e (record { sfits = let h = ltb-true n (2 ^ 31) e in omega (arith, h) })
    by_test false e = rw e (record { sfits = let h = ltb-false n (2 ^ 31) e in omega (arith, h) })

minus_one : FitsSigned w32 (negsuc 0)
minus_one = record { sfits = omega arith }

pub small_fits : (n : ℕ) → n ≤ 4096 → FitsSigned w32 (pos n)
small_fits n h = record { sfits = omega (arith, h) }

refused_fits : (c : KernelCall) → IsScalar (scalar_of c) (refused c)
refused_fits (VmGet u r) = minus_one
refused_fits (VmSet u r v) = tt
refused_fits (VmSize u) = minus_one
refused_fits (VmResize u p) = tt
refused_fits (VmWord u a) = minus_one
refused_fits (VmPut u a v) = tt
refused_fits (VmCopy u a v b n) = tt
refused_fits (ConPut w) = tt
refused_fits ConGet = minus_one
refused_fits ConLeft = minus_one

granted_fits : (users : List Flat) (o : Console) (c : KernelCall) → list_all is_small users ≡ true → length o.input ≤ input_room → IsScalar (scalar_of c) (granted users o c).answer
granted_fits users o (VmGet u r) h i = signed_fits _
granted_fits users o (VmSet u r v) h i = tt
granted_fits users o (VmSize u) h i = small_fits _ (let s : pages_of (user_of users (nat_abs u)) ≤ 1024 = leb-true _ 1024 (index_all users (nat_abs u - 1) h) in omega (arith, s))
granted_fits users o (VmResize u p) h i = tt
granted_fits users o (VmWord u a) h i = signed_fits _
granted_fits users o (VmPut u a v) h i = tt
granted_fits users o (VmCopy u a v b n) h i = tt
granted_fits users o (ConPut w) h i = tt
granted_fits users o ConGet h i = signed_fits _
granted_fits users o ConLeft h i = small_fits _ i

prim_fits : (most : ℕ) (c : KernelCall) (users : List Flat) (o : Console) → list_all is_small users ≡ true → length o.input ≤ input_room → IsScalar (scalar_of c) (prim most c users o).answer
prim_fits most c users o h i = by (is_good most users c)
  where
    by : (b : Bool) → IsScalar (scalar_of c) (cond b (granted users o c) (unchanged users o (refused c) 0 0)).answer
    by true = granted_fits users o c h i
    by false = refused_fits c

-- arguments that are ints
record Ints (k : ℕ) (args : Values) : Type 0 where
  list : List ℤ
  size : length list ≡ k
  is : ints_of args ≡ Some list

abbrev nowhere : StoreTyping
nowhere = record { globals = []; objects = [] }

ints : (k : ℕ) (args : Values) → AllFit [] nowhere (replicate k ty.int) args → Ints k args
ints zero empty h = record { list = []; size = refl; is = refl }
ints zero (part v vs) h = absurd h
ints (suc k) empty h = absurd h
ints (suc k) (part (int a) vs) h = let r : Ints k vs = ints k vs h.1 in record { list = a ∷ r.list; size = ap suc r.size; is = ap (option_map (λ rest. a ∷ rest)) r.is }
ints (suc k) (part (bool b) vs) h = absurd h.0
ints (suc k) (part null vs) h = absurd h.0
ints (suc k) (part (at l) vs) h = absurd h.0
ints (suc k) (part (group ws) vs) h = absurd h.0

-- the call of a row of the table
pub record Told (n : ℕ) (row : CPrimitive) (args : Values) : Type 0 where
  pub call : KernelCall
  pub is : option_and_then (call_numbered n) (ints_of args) ≡ Some call
  pub scalar : scalar_of call ≡ row.answer
  pub number : primitive_number call ≡ n
  pub arguments : ints_of args ≡ Some (arguments_of call)

row_told : (n k : ℕ) (row : CPrimitive) (args : Values) → AllFit [] nowhere (replicate k ty.int) args →
    ((xs : List ℤ) → length xs ≡ k → (c : KernelCall) × (call_numbered n xs ≡ Some c) × (scalar_of c ≡ row.answer) × (primitive_number c ≡ n) × (arguments_of c ≡ xs)) → Told n row args
row_told n k row args h f =
    let r : Ints k args = ints k args h in
    let c = f r.list r.size in
    record { call = c.0; is = ap (option_and_then (call_numbered n)) r.is ∙ c.1; scalar = c.2; number = c.3; arguments = r.is ∙ ap (λ xs. Some xs) (sym c.4) }

no_ints : (n : ℕ) (s : Scalar) (c : KernelCall) → call_numbered n [] ≡ Some c → scalar_of c ≡ s → primitive_number c ≡ n → arguments_of c ≡ [] → (xs : List ℤ) → length xs ≡ 0 → (c : KernelCall) × (call_numbered n xs ≡ Some c) × (scalar_of c ≡ s) × (primitive_number c ≡ n) × (arguments_of c ≡ xs)
no_ints n s c e t m r [] h = (c, e, t, m, r)
no_ints n s c e t m r (a ∷ xs) h = absurd (omega (arith, h))

one_int : (n : ℕ) (s : Scalar) (f : ℤ → KernelCall) → ((a : ℤ) → call_numbered n (a ∷ []) ≡ Some (f a)) → ((a : ℤ) → scalar_of (f a) ≡ s) → ((a : ℤ) → primitive_number (f a) ≡ n) → ((a : ℤ) → arguments_of (f a) ≡ a ∷ []) → (xs : List ℤ) → length xs ≡ 1 →
    (c : KernelCall) × (call_numbered n xs ≡ Some c) × (scalar_of c ≡ s) × (primitive_number c ≡ n) × (arguments_of c ≡ xs)
one_int n s f e t m r [] h = absurd (omega (arith, h))
one_int n s f e t m r (a ∷ []) h = (f a, e a, t a, m a, r a)
one_int n s f e t m r (a ∷ b ∷ xs) h = absurd (omega (arith, h))

two_ints : (n : ℕ) (s : Scalar) (f : ℤ → ℤ → KernelCall) → ((a b : ℤ) → call_numbered n (a ∷ b ∷ []) ≡ Some (f a b)) → ((a b : ℤ) → scalar_of (f a b) ≡ s) → ((a b : ℤ) → primitive_number (f a b) ≡ n) → ((a b : ℤ) → arguments_of (f a b) ≡ a ∷ b ∷ []) → (xs : List ℤ) → length xs ≡ 2 →
    (c : KernelCall) × (call_numbered n xs ≡ Some c) × (scalar_of c ≡ s) × (primitive_number c ≡ n) × (arguments_of c ≡ xs)
two_ints n s f e t m r [] h = absurd (omega (arith, h))
two_ints n s f e t m r (a ∷ []) h = absurd (omega (arith, h))
two_ints n s f e t m r (a ∷ b ∷ []) h = (f a b, e a b, t a b, m a b, r a b)
two_ints n s f e t m r (a ∷ b ∷ c ∷ xs) h = absurd (omega (arith, h))

three_ints : (n : ℕ) (s : Scalar) (f : ℤ → ℤ → ℤ → KernelCall) → ((a b c : ℤ) → call_numbered n (a ∷ b ∷ c ∷ []) ≡ Some (f a b c)) → ((a b c : ℤ) → scalar_of (f a b c) ≡ s) → ((a b c : ℤ) → primitive_number (f a b c) ≡ n) → ((a b c : ℤ) → arguments_of (f a b c) ≡ a ∷ b ∷ c ∷ []) → (xs : List ℤ) → length xs ≡ 3 →
    (c : KernelCall) × (call_numbered n xs ≡ Some c) × (scalar_of c ≡ s) × (primitive_number c ≡ n) × (arguments_of c ≡ xs)
three_ints n s f e t m r [] h = absurd (omega (arith, h))
three_ints n s f e t m r (a ∷ []) h = absurd (omega (arith, h))
three_ints n s f e t m r (a ∷ b ∷ []) h = absurd (omega (arith, h))
three_ints n s f e t m r (a ∷ b ∷ c ∷ []) h = (f a b c, e a b c, t a b c, m a b c, r a b c)
three_ints n s f e t m r (a ∷ b ∷ c ∷ d ∷ xs) h = absurd (omega (arith, h))

five_ints : (xs : List ℤ) → length xs ≡ 5 → (c : KernelCall) × (call_numbered 6 xs ≡ Some c) × (scalar_of c ≡ Boolean) × (primitive_number c ≡ 6) × (arguments_of c ≡ xs)
five_ints [] h = absurd (omega (arith, h))
five_ints (a ∷ []) h = absurd (omega (arith, h))
five_ints (a ∷ b ∷ []) h = absurd (omega (arith, h))
five_ints (a ∷ b ∷ c ∷ []) h = absurd (omega (arith, h))
five_ints (a ∷ b ∷ c ∷ d ∷ []) h = absurd (omega (arith, h))
five_ints (a ∷ b ∷ c ∷ d ∷ e ∷ []) h = (VmCopy a b c d e, refl, refl, refl, refl)
five_ints (a ∷ b ∷ c ∷ d ∷ e ∷ f ∷ xs) h = absurd (omega (arith, h))

-- the row that is found
found : (a row : CPrimitive) (n : ℕ) (args : Values) → ◌≡◌ {A = Option CPrimitive} (Some a) (Some row) → AreScalars row.args args → (AreScalars a.args args → Told n a args) → Told n row args
found a row n args e h f = let q : a ≡ row = cc in subst (λ r. Told n r args) q (f (subst (λ r. AreScalars r.args args) (sym q) h))

pub told : (n : ℕ) (row : CPrimitive) (args : Values) → slice_get kernel_primitives n ≡ Some row → AreScalars row.args args → Told n row args
told zero row args e h = found _ row 0 args e h (λ h. row_told 0 2 _ args h (two_ints 0 Int VmGet (λ a b. refl) (λ a b. refl) (λ a b. refl) (λ a b. refl)))
told (suc zero) row args e h = found _ row 1 args e h (λ h. row_told 1 3 _ args h (three_ints 1 Boolean VmSet (λ a b c. refl) (λ a b c. refl) (λ a b c. refl) (λ a b c. refl)))
told (suc (suc zero)) row args e h = found _ row 2 args e h (λ h. row_told 2 1 _ args h (one_int 2 Int VmSize (λ a. refl) (λ a. refl) (λ a. refl) (λ a. refl)))
told (suc (suc (suc zero))) row args e h = found _ row 3 args e h (λ h. row_told 3 2 _ args h (two_ints 3 Boolean VmResize (λ a b. refl) (λ a b. refl) (λ a b. refl) (λ a b. refl)))
told (suc (suc (suc (suc zero)))) row args e h = found _ row 4 args e h (λ h. row_told 4 2 _ args h (two_ints 4 Int VmWord (λ a b. refl) (λ a b. refl) (λ a b. refl) (λ a b. refl)))
told (suc (suc (suc (suc (suc zero))))) row args e h = found _ row 5 args e h (λ h. row_told 5 3 _ args h (three_ints 5 Boolean VmPut (λ a b c. refl) (λ a b c. refl) (λ a b c. refl) (λ a b c. refl)))
told (suc (suc (suc (suc (suc (suc zero)))))) row args e h = found _ row 6 args e h (λ h. row_told 6 5 _ args h five_ints)
told (suc (suc (suc (suc (suc (suc (suc zero))))))) row args e h = found _ row 7 args e h (λ h. row_told 7 1 _ args h (one_int 7 Boolean ConPut (λ a. refl) (λ a. refl) (λ a. refl) (λ a. refl)))
told (suc (suc (suc (suc (suc (suc (suc (suc zero)))))))) row args e h = found _ row 8 args e h (λ h. row_told 8 0 _ args h (no_ints 8 Int ConGet refl refl refl refl))
told (suc (suc (suc (suc (suc (suc (suc (suc (suc zero))))))))) row args e h = found _ row 9 args e h (λ h. row_told 9 0 _ args h (no_ints 9 Int ConLeft refl refl refl refl))
told (suc (suc (suc (suc (suc (suc (suc (suc (suc (suc n)))))))))) row args e h = absurd (cc)

-- the parts of the test
most_of : (m : Machines) → are_small m ≡ true → m.most ≤ 1024
most_of m h = leb-true m.most 1024 (and_left _ _ (and_left _ _ h))

input_of : (m : Machines) → are_small m ≡ true → length m.console.input ≤ input_room
input_of m h = leb-true (length m.console.input) input_room (and_right _ _ (and_left _ _ h))

users_of : (m : Machines) → are_small m ≡ true → list_all is_small m.users ≡ true
users_of m h = and_right _ _ h

pub answers_fit : AnswersFit are_small kernel_primitives kernel_primitive
answers_fit = record {
  answer = λ n row args m e h r.
      let t : Told n row args = told n row args e h in
      subst (λ o. IsScalar row.answer (primitive_called m o).answer) (sym t.is) (subst (λ s. IsScalar s (primitive_called m (Some t.call)).answer) t.scalar (prim_fits m.most t.call m.users m.console (users_of m r) (input_of m r)));
  world = λ n row args m e h r.
      let t : Told n row args = told n row args e h in
      let s : Small m.most (prim m.most t.call m.users m.console) = prim_small m.most t.call m.users m.console (most_of m r) (users_of m r) (input_of m r) in
      subst (λ o. are_small (primitive_called m o).world ≡ true) (sym t.is)
      (ap₂ (λ a b. a && b) (ap₂ (λ a b. a && b) (le-leb m.most 1024 (most_of m r)) (le-leb (length (prim m.most t.call m.users m.console).console.input) input_room s.input)) s.users);
}

-- without its frames a typed state is typed
no_frames : (u : CUnit) (s : C0State) → IsTypedState u s → IsTypedState u (record s { frames = [] })
no_frames u s t = (t.0, record { global_values = t.1.global_values; heap_values = t.1.heap_values; frames = All-nil (IsTypedFrame u (store_typing u t.0)) }, t.2)

pub safe_typed : (u : CUnit) (c : Core) (o : c0_run.Outcome Machines Changes) → RunIsSafe are_small u o → IsTypedState u (outcome_of c o).after.c0
safe_typed u c (c0_run.Done k d) h = no_frames u d.state h.0
safe_typed u c (c0_run.Failed k (faulted f) d) h = no_frames u d.state h.0
safe_typed u c (c0_run.Failed k stuck d) h = absurd h
safe_typed u c (c0_run.NotYet k d) h = no_frames u d.state h.0

all_small : (most : ℕ) (fs : List Flat) → most ≤ 1024 → All (UserFits most) fs → list_all is_small fs ≡ true
all_small most [] k h = refl
all_small most (f ∷ fs) k h =
    let p : pages_of f ≤ most = (All-head (UserFits most) f fs h).pages in
    ap₂ (λ a b. a && b) (le-leb (pages_of f) 1024 (omega (arith, p, k))) (all_small most fs k (All-tail (UserFits most) f fs h))

-- a state of the map has small machines
state_small : (m : Map) (c : Core) → ParamsInRange m.params → CoreFits m c → are_small (machines_of m.params c) ≡ true
state_small m c range fits =
    let most : m.params.pages ≤ 1024 = range.pages in
    ap₂ (λ a b. a && b) (ap₂ (λ a b. a && b) (le-leb m.params.pages 1024 most) (le-leb (length c.console.input) input_room fits.input)) (all_small m.params.pages c.users most fits.each)

pub units_stay_typed : FirstIsTyped → DispatchesAreSafe Machines Changes → UnitsStayTyped
units_stay_typed first safe u m checked range = record {
  starts = first kernel_primitives u checked.well_formed;
  stays = λ n c cause edata user fits a b d typed.
      safe_typed u c (c0_run.dispatch (setting_of u m.params) n cause edata user c.c0 (machines_of m.params c))
      (safe are_small (setting_of u m.params) n cause edata user c.c0 (machines_of m.params c) checked answers_fit typed a b d (state_small m c range fits));
}

-- a run that is not over wants units
wanting : (u : CUnit) (c : Core) (o : c0_run.Outcome Machines Changes) → RunIsSafe are_small u o → AnswersAnInt o → (outcome_of c o).end ≡ NotYet →
    (used : Cost) × (d : Configuration Machines Changes) × (o ≡ c0_run.NotYet used d)
wanting u c (c0_run.Done k d) h a e = let is : answer_end d.answer ≡ Answers a.0 = ap answer_end a.1 in absurd (cc)
wanting u c (c0_run.Failed k (faulted f) d) h a e = absurd (cc)
wanting u c (c0_run.Failed k stuck d) h a e = absurd h
wanting u c (c0_run.NotYet k d) h a e = (k, d, refl)

pub units_answer_ints : DispatchesAnswer Machines Changes → UnitsAnswerInts
units_answer_ints answer u m n c cause edata user checked range fits p q r typed =
    answer are_small (setting_of u m.params) n cause edata user c.c0 (machines_of m.params c) checked answers_fit typed p q r (state_small m c range fits)

pub units_want_units : DispatchesAreSafe Machines Changes → DispatchesAnswer Machines Changes → UnitsWantUnits
units_want_units safe answer u m n c cause edata user checked range fits p q r typed e =
    wanting u c (c0_run.dispatch (setting_of u m.params) n cause edata user c.c0 (machines_of m.params c))
    (safe are_small (setting_of u m.params) n cause edata user c.c0 (machines_of m.params c) checked answers_fit typed p q r (state_small m c range fits))
    (answer are_small (setting_of u m.params) n cause edata user c.c0 (machines_of m.params c) checked answers_fit typed p q r (state_small m c range fits)) e

pub rows_are_called : RowsAreCalled
rows_are_called = record {
  call = λ n row args e h. let t : Told n row args = told n row args e h in (t.call, record { is = t.is; number = t.number; arguments = t.arguments });
  answer = λ n row args v e h most each input. answers_fit.answer n row args v e h
      (ap₂ (λ a b. a && b) (ap₂ (λ a b. a && b) (le-leb v.most 1024 most) (le-leb (length v.console.input) input_room input)) (all_small v.most v.users most each));
}
