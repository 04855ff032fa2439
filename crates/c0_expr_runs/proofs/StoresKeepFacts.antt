-- What is known of variables holds on where a scalar is stored, but for that of the variable that it is.
use Rattle.std.specs.Prelude.{get_or, slice_set, slice_get, unwrap_or, option_and_then, nat_lt}
use Rattle.std.proofs.Common.{◌≡◌, ◌≢◌, inl, inr, ◌⊎◌, ℕ, zero, suc, ◌+◌, ◌-◌, ◌<◌, ◌≤◌, Bool, true, false, cond, ◌&&◌, Option, Some, None, List, [], ◌∷◌, refl, sym, ap, ◌∙◌, subst, arith}
use Rattle.std.proofs.lemmas.Bool.{cases_eq, cond-false}
use Rattle.std.proofs.lemmas.List.{get_or-set_other}
use Rattle.mips_table.specs.Code.{Contents, World}
use Rattle.c0_meaning.specs.Ty.{Ty, is_scalar}
use Rattle.c0_meaning.specs.Ty as ty
use Rattle.c0_meaning.specs.Env.{Shape}
use Rattle.c0_meaning.specs.Words.{words}
use Rattle.c0_meaning.specs.Sizes.{words_before}
use Rattle.c0_meaning.specs.Addresses.{words_to}
use Rattle.c0_meaning.specs.Value.{Region, globals, heap, locals, Location, Value, Values, int, bool, null, at, group, empty, part, nth, change_nth, get, value_with as put_value}
use Rattle.c0_meaning.specs.State.{Frame, C0State, variables_of, with_variables, write}
use Rattle.c0_meaning.specs.TypedState.{types_of, PathLeads, LeadsFrom}
use Rattle.c0_expr_code.specs.declared.facts.Facts.{Facts}
use Rattle.c0_expr_code.specs.Facts.{holds_answer, holds_param, stored_in, SureHold}
use Rattle.c0_expr_code.specs.Scope.{Scope}
use Rattle.c0_expr_runs.specs.Bases.{Bases, types_in, locals_start, location_word}
use Rattle.c0_expr_runs.specs.Relation.{Area, HasWordOf, RegistersHold, FactsHold}
use Rattle.c0_expr_runs.specs.Laws.{RegionsApart, memory_with}
use Rattle.c0_expr_runs.proofs.LiveLocals.{put_other}
use Rattle.c0_expr_runs.proofs.PartsAtOffsets.{one_word, room as part_room, room_from}

-- nothing is known of what was assigned to
cleared : (l : List Bool) (i : ℕ) → get_or (slice_set l i false) i false ≡ false
cleared [] i = refl
cleared (b ∷ l) zero = refl
cleared (b ∷ l) (suc i) = cleared l i

-- a bit that is set is another's, and was set before
still : (l : List Bool) (m n : ℕ) → get_or (slice_set l m false) n false ≡ true → (m ≢ n) × (get_or l n false ≡ true)
still l m n h = elim (cases_eq n m) [
  | inl e ↦ let z : false ≡ true = sym (cleared l m) ∙ ap (λ (k : ℕ). get_or (slice_set l m false) k false) (sym e) ∙ h in absurd (cc)
  | inr ne ↦ ((λ e. ne (sym e)), sym (get_or-set_other l m n false false ne) ∙ h)
]

second_of : (a b : Bool) → (a && b) ≡ true → (a ≡ true) × (b ≡ true)
second_of true b h = (refl, h)
second_of false b h = absurd (cc)

both_of : (a b : Bool) → a ≡ true → b ≡ true → (a && b) ≡ true
both_of true b h g = g
both_of false b h g = absurd (cc)

-- the variable of a number isn't stored to
abbrev IsElsewhere : Region → List ℕ → ℕ → Type 0
IsElsewhere locals (m ∷ []) n = m ≢ n
IsElsewhere _ _ n = Unit {0}

known_param : (g : Region) (path : List ℕ) (f : Facts) (n : ℕ) → holds_param (stored_in g path f) n ≡ true → IsElsewhere g path n × (holds_param f n ≡ true)
known_param locals (m ∷ []) f n h =
    let a = second_of (nat_lt n 8) (get_or (slice_set f.params m false) n false) h in
    let b = still f.params m n a.1 in
    (b.0, both_of (nat_lt n 8) (get_or f.params n false) a.0 b.1)
known_param locals [] f n h = (tt, h)
known_param locals (m ∷ i ∷ path) f n h = (tt, h)
known_param globals path f n h = (tt, h)
known_param heap path f n h = (tt, h)

known_answer : (g : Region) (path : List ℕ) (f : Facts) (n : ℕ) → holds_answer (stored_in g path f).answer n ≡ true → IsElsewhere g path n × (holds_answer f.answer n ≡ true)
known_answer locals (m ∷ []) f n h = by (holds_answer f.answer m) refl h
  where
    by : (b : Bool) → holds_answer f.answer m ≡ b → holds_answer (cond b None f.answer) n ≡ true → (m ≢ n) × (holds_answer f.answer n ≡ true)
    by true e h = absurd (cc)
    by false e h = ((λ q. let z : false ≡ true = sym e ∙ ap (λ (k : ℕ). holds_answer f.answer k) q ∙ h in absurd (cc)), h)
known_answer locals [] f n h = (tt, h)
known_answer locals (m ∷ i ∷ path) f n h = (tt, h)
known_answer globals path f n h = (tt, h)
known_answer heap path f n h = (tt, h)

-- values of variables
nth_other : (vs : Values) (m n : ℕ) (g : Value → Value) → m ≢ n → nth (change_nth vs m g) n ≡ nth vs n
nth_other empty m n g ne = refl
nth_other (part v vs) zero zero g ne = absurd (ne refl)
nth_other (part v vs) zero (suc n) g ne = refl
nth_other (part v vs) (suc m) zero g ne = refl
nth_other (part v vs) (suc m) (suc n) g ne = nth_other vs m n g (λ e. ne (ap suc e))

get_other : (v : Value) (m n : ℕ) (path : List ℕ) (x : Value) → m ≢ n → get (put_value v (m ∷ path) x) (n ∷ []) ≡ get v (n ∷ [])
get_other (group vs) m n path x ne = ap (λ (o : Option Value). option_and_then (λ w. get w []) o) (nth_other vs m n (λ w. put_value w path x) ne)
get_other (int z) m n path x ne = refl
get_other (bool z) m n path x ne = refl
get_other null m n path x ne = refl
get_other (at l) m n path x ne = refl

-- a part of a variable that isn't null is stored to
part_not_null : (w : Value) (i : ℕ) (path : List ℕ) (x : Value) → put_value w (i ∷ path) x ≡ null → w ≡ null
part_not_null null i path x e = refl
part_not_null (group vs) i path x e = absurd (cc)
part_not_null (int z) i path x e = absurd (cc)
part_not_null (bool z) i path x e = absurd (cc)
part_not_null (at l) i path x e = absurd (cc)

some_is : (a b : Value) → ◌≡◌ {A = Option Value} (Some a) (Some b) → a ≡ b
some_is a b e = cc

nth_null : (vs : Values) (m i : ℕ) (path : List ℕ) (x : Value) → nth (change_nth vs m (λ w. put_value w (i ∷ path) x)) m ≡ Some null → nth vs m ≡ Some null
nth_null empty m i path x e = e
nth_null (part v vs) zero i path x e = ap Some (part_not_null v i path x (some_is _ null e))
nth_null (part v vs) (suc m) i path x e = nth_null vs m i path x e

got : (o : Option Value) → option_and_then (λ w. get w []) o ≡ o
got (Some w) = refl
got None = refl

get_null : (v : Value) (m i : ℕ) (path : List ℕ) (x : Value) → get (put_value v (m ∷ i ∷ path) x) (m ∷ []) ≡ Some null → get v (m ∷ []) ≡ Some null
get_null (group vs) m i path x e = got (nth vs m) ∙ nth_null vs m i path x (sym (got (nth (change_nth vs m (λ w. put_value w (i ∷ path) x)) m)) ∙ e)
get_null (int z) m i path x e = e
get_null (bool z) m i path x e = e
get_null null m i path x e = e
get_null (at l) m i path x e = e

-- those that aren't null
put_sure : (path : List ℕ) (types : List Ty) (structs : List Shape) (t : Ty) (f : Facts) (v x : Value) → LeadsFrom structs types path t → SureHold f v
    → SureHold (stored_in locals path f) (put_value v path x)
put_sure [] types structs t f v x l h n sure = absurd l
put_sure (m ∷ []) types structs t f v x l h n sure =
    let a = still f.sure m n sure in
    λ e. h n a.1 (sym (get_other v m n [] x a.0) ∙ e)
put_sure (m ∷ i ∷ path) types structs t f v x l h n sure = elim (cases_eq m n) [
  | inl q ↦ λ e. h n sure (ap (λ (k : ℕ). get v (k ∷ [])) (sym q) ∙ get_null v m i path x (ap (λ (k : ℕ). get (put_value v (m ∷ i ∷ path) x) (k ∷ [])) q ∙ e))
  | inr ne ↦ λ e. h n sure (sym (get_other v m n (i ∷ path) x ne) ∙ e)
]

no_frame : (f : Facts) → SureHold f (group empty)
no_frame f n sure e = absurd (cc)

frames_sure : (path : List ℕ) (types : List Ty) (structs : List Shape) (t : Ty) (f : Facts) (frames : List Frame) (x : Value) → LeadsFrom structs types path t
    → SureHold f (variables_of frames) → SureHold (stored_in locals path f) (variables_of (with_variables frames (put_value (variables_of frames) path x)))
frames_sure path types structs t f [] x l h = no_frame (stored_in locals path f)
frames_sure path types structs t f (frame ∷ rest) x l h = put_sure path types structs t f frame.variables x l h

written_in : (g : Region) (path : List ℕ) (types : List Ty) (structs : List Shape) (t : Ty) (f : Facts) (s : C0State) (x : Value) → LeadsFrom structs types path t
    → SureHold f (variables_of s.frames) → SureHold (stored_in g path f) (variables_of (write s (record { region = g; path = path }) x).frames)
written_in globals path types structs t f s x l h = h
written_in heap path types structs t f s x l h = h
written_in locals path types structs t f s x l h = frames_sure path types structs t f s.frames x l h

pub sure_written : (f : Facts) (s : C0State) (l : Location) (x : Value) (structs : List Shape) (types : List Ty) (t : Ty) → LeadsFrom structs types l.path t
    → SureHold f (variables_of s.frames) → SureHold (stored_in l.region l.path f) (variables_of (write s l x).frames)
sure_written f s l x structs types t leads h = written_in l.region l.path types structs t f s x leads h

-- variables are one behind the other
ahead : (structs : List Shape) (ts : List Ty) (m n : ℕ) (t : Ty) → slice_get ts m ≡ Some t → m < n → words_before structs ts m + words structs t ≤ words_before structs ts n
ahead structs [] m n t e h = absurd (cc)
ahead structs (u ∷ ts) zero (suc n) t e h = let q : u ≡ t = cc in let z = ap (words structs) q in omega (arith, z)
ahead structs (u ∷ ts) (suc m) (suc n) t e h = let a = ahead structs ts m n t e (omega (arith, h)) in omega (arith, a)
ahead structs (u ∷ ts) m zero t e h = absurd (omega (arith, h))

no_path : (structs : List Shape) (t : Ty) (i : ℕ) (path : List ℕ) (u : Ty) → is_scalar t ≡ true → PathLeads structs t (i ∷ path) u → ⊥
no_path structs ty.int i path u s l = absurd l
no_path structs ty.bool i path u s l = absurd l
no_path structs (ty.pointer t) i path u s l = absurd l
no_path structs (ty.named x) i path u s l = absurd (cc)
no_path structs (ty.array t n) i path u s l = absurd (cc)

same_type : (o : Option Ty) (a b : Ty) → o ≡ Some a → o ≡ Some b → a ≡ b
same_type o a b e q = cc

less_or : (m n : ℕ) → (m ≡ n) ⊎ ((m < n) ⊎ (n < m))
less_or zero zero = inl refl
less_or zero (suc n) = inr (inl (omega arith))
less_or (suc m) zero = inr (inr (omega arith))
less_or (suc m) (suc n) = elim (less_or m n) [
  | inl e ↦ inl (ap suc e)
  | inr s ↦ elim s [ inl h ↦ inr (inl (omega (arith, h))) | inr h ↦ inr (inr (omega (arith, h))) ]
]

module _ (w : World) (sc : Scope) (p : Bases) (area : Area w sc p) (spread : RegionsApart sc p) (form : sc.in_registers ≡ false) where
  -- the word of a scalar variable
  abbrev word : ℕ → ℕ
  word n = locals_start sc p + words_before sc.env.structs (types_of sc.env.locals) n

  word_is : (n : ℕ) → word n ≡ p.frame_end - sc.frame + 3 + words_before sc.env.structs (types_of sc.env.locals) n
  word_is n = ap (λ (y : ℕ). y + words_before sc.env.structs (types_of sc.env.locals) n) (cond-false sc.in_registers 20 (p.frame_end - sc.frame + 3) form)

  -- isn't the word that is stored to
  apart : (g : Region) (path : List ℕ) (t : Ty) (n : ℕ) (u : Ty) → LeadsFrom sc.env.structs (types_in sc p g) path t → is_scalar t ≡ true → IsElsewhere g path n
      → slice_get (types_of sc.env.locals) n ≡ Some u → is_scalar u ≡ true → word n ≢ location_word sc p (record { region = g; path = path })
  apart globals path t n u l scalar else there single e =
      let a = word_is n in
      let r = room_from sc.env.structs area.opened (types_of sc.env.globals) path t l in
      let o = one_word sc.env.structs t scalar in
      let g1 = spread.heap_behind in
      let g2 = spread.frame_behind in
      absurd (omega (arith, a, r, o, g1, g2, e))
  apart heap path t n u l scalar else there single e =
      let a = word_is n in
      let r = room_from sc.env.structs area.opened p.objects path t l in
      let o = one_word sc.env.structs t scalar in
      let g2 = spread.frame_behind in
      absurd (omega (arith, a, r, o, g2, e))
  apart locals [] t n u l scalar else there single e = absurd l
  apart locals (m ∷ path) t n u l scalar else there single e = by path l.2 else e (less_or m n)
    where
      by : (path : List ℕ) → PathLeads sc.env.structs l.0 path t → IsElsewhere locals (m ∷ path) n → word n ≡ location_word sc p (record { region = locals; path = m ∷ path })
          → (m ≡ n) ⊎ ((m < n) ⊎ (n < m)) → ⊥
      by [] leads else e (inl q) = absurd (else q)
      by (i ∷ path) leads else e (inl q) =
          let same : l.0 ≡ u = same_type (slice_get (types_of sc.env.locals) n) l.0 u (ap (λ (k : ℕ). slice_get (types_of sc.env.locals) k) (sym q) ∙ l.1) there in
          absurd (no_path sc.env.structs u i path t single (subst (λ (y : Ty). PathLeads sc.env.structs y (i ∷ path) t) same leads))
      by path leads else e (inr (inl less)) =
          let c : words_to sc.env.structs (unwrap_or (slice_get (types_of sc.env.locals) m) ty.int) path ≡ words_to sc.env.structs l.0 path = ap (λ o. words_to sc.env.structs (unwrap_or o ty.int) path) l.1 in
          let r = part_room sc.env.structs area.opened l.0 path t leads in
          let o = one_word sc.env.structs t scalar in
          let b = ahead sc.env.structs (types_of sc.env.locals) m n l.0 l.1 less in
          absurd (omega (arith, c, r, o, b, e))
      by path leads else e (inr (inr less)) =
          let o = one_word sc.env.structs u single in
          let b = ahead sc.env.structs (types_of sc.env.locals) n m u there less in
          absurd (omega (arith, o, b, e))

  kept : (c : Contents) (g : Region) (path : List ℕ) (t : Ty) (v q n : ℕ) → LeadsFrom sc.env.structs (types_in sc p g) path t → is_scalar t ≡ true → IsElsewhere g path n
      → HasWordOf sc p c q n → HasWordOf sc p (memory_with c (location_word sc p (record { region = g; path = path })) v) q n
  kept c g path t v q n l scalar else h u there single =
      h u there single ∙ sym (put_other c.memory (location_word sc p (record { region = g; path = path })) v (word n) (apart g path t n u l scalar else there single))

  registers_stored : (fs : Facts) (c : Contents) (g : Region) (path : List ℕ) (t : Ty) (v : ℕ) → LeadsFrom sc.env.structs (types_in sc p g) path t → is_scalar t ≡ true
      → RegistersHold sc p fs c → RegistersHold sc p (stored_in g path fs) (memory_with c (location_word sc p (record { region = g; path = path })) v)
  registers_stored fs c g path t v l scalar h = record {
    params = λ n holds. let a = known_param g path fs n holds in kept c g path t v (20 + n) n l scalar a.0 (h.params n a.1);
    answer = λ n holds. let a = known_answer g path fs n holds in kept c g path t v 2 n l scalar a.0 (h.answer n a.1);
  }

pub facts_stored : (w : World) (sc : Scope) (p : Bases) (fs : Facts) (s : C0State) (c : Contents) → Area w sc p → RegionsApart sc p → FactsHold sc p fs s c
    → (l : Location) (t : Ty) (x : Value) (v : ℕ) → LeadsFrom sc.env.structs (types_in sc p l.region) l.path t → is_scalar t ≡ true
    → FactsHold sc p (stored_in l.region l.path fs) (write s l x) (memory_with c (location_word sc p l) v)
facts_stored w sc p fs s c area spread h l t x v leads scalar = record {
  registers = λ form. registers_stored w sc p area spread form fs c l.region l.path t v leads scalar (h.registers form);
  sure = sure_written fs s l x sc.env.structs (types_in sc p l.region) t leads h.sure;
}
