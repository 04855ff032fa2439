-- In a typed state an expression that is typed comes to a value of its type, or to a fault of the kernel; and a place to a location of
-- its type.
use Rattle.std.proofs.Common.{◌≡◌, ℕ, zero, suc, ◌<◌, Bool, true, false, nat_lt, List, [], ◌∷◌, ◌++◌, map, Option, Some, None, refl, sym, ap, ◌∙◌, subst, arith}
use Rattle.std.specs.Prelude.{ℤ, pos, negsuc, FitsSigned, IsTrue, if◌then◌else◌, slice_get, Result, Ok, Err, ok_or, unsigned_abs, int_div}
use Rattle.std.specs.List.{list_all}
use Rattle.std.specs.Option.{option_or, option_map}
use Rattle.std.specs.Int.{w32}
use Rattle.std.proofs.lemmas.Int.{SFits-int_wrap}
use Rattle.std.proofs.lemmas.Bool.{and_parts, ltb-true, false≢true}
use Rattle.c0_tree.specs.declared.tree.Span.{Span}
use Rattle.c0_tree.specs.declared.tree.Kind.{Kind}
use Rattle.c0_tree.specs.declared.tree.Kind.TheVariants.{Global, Local}
use Rattle.c0_tree.specs.declared.tree.UnaryOp.TheVariants.{Negate, Not}
use Rattle.c0_tree.specs.declared.tree.BinaryOp.{BinaryOp}
use Rattle.c0_tree.specs.declared.tree.BinaryOp.TheVariants.{Add, Sub, Mul, Div, Rem, Lt, Le, Gt, Ge, Eq, Ne}
use Rattle.c0_tree.specs.Tree.{CName, CExpr, var, field, arrow}
use Rattle.c0_tree.specs.Plain.{is_plain_expr}
use Rattle.c0_meaning.proofs.SearchByName.{found_there, got_mapped}
use Rattle.c0_meaning.specs.Ty.{Ty}
use Rattle.c0_meaning.specs.Ty as ty
use Rattle.c0_meaning.specs.Env.{Env, Typed, Variable, variable_of, variable_named, field_named, first_named}
use Rattle.c0_meaning.specs.Words.{shape_fields}
use Rattle.c0_meaning.specs.Expression.{is_lvalue, is_local, is_local_kind, type_of, member, target, resolved, numbered_variable, numbered_field}
use Rattle.c0_meaning.specs.Judgement.{IsArithmetic, add, sub, mul, div, rem, IsOrdering, lt, le, gt, ge, IsEquality, eq, ne, IsLogical, and, or, HasType, a_number, a_true, a_false, a_variable, a_field, a_target_field, an_element, a_target, an_address, a_negative, a_negation, arithmetic, order, logic, equality, null_left, null_right, IsGiven, a_value, a_null}
use Rattle.c0_meaning.specs.Rules.{AreGiven, none, more}
use Rattle.c0_meaning.proofs.TypedIsFaultless.{typed_is_faultless}
use Rattle.cvm_words.specs.Words.{quotient, remainder, word_of}
use Rattle.c0_meaning.specs.Value.{Region, globals, heap, locals, Location, Value, int, bool, null, at, group, Values, count, below}
use Rattle.c0_meaning.specs.State.{C0State, variables_of, read}
use Rattle.c0_meaning.specs.Operators.{Failure, Bounds, faulted, stuck, on_unary, on_binary, divided}
use Rattle.c0_meaning.specs.Evaluation.{Costed, costs, at_no_cost, paying, ◌>>=◌, bool_of, variable_location, pointed_to, element_of, truth, both_sides, load_from, indexed, field_of, pointed, value_of, place_of, values_of}
use Rattle.c0_meaning.specs.TypedState.{StoreTyping, types_of, PathLeads, LeadsFrom, PointsTo, Fits, AllFit, AreParts}
use Rattle.c0_meaning.proofs.PartsFit.{Has, get_parts, leads_from_on, points_on, length_fits}
use Rattle.c0_meaning.proofs.OperatorsInRange.{small, int_of_fits, remainder_fits}

-- an evaluation comes to what a rule says of it, or to a fault of the kernel
abbrev pub Good : {A : Type 0} → (A → Type 0) → Costed A → Type 0
Good P (costs n (Ok x)) = P x
Good P (costs n (Err (faulted f))) = Unit {0}
Good P (costs n (Err stuck)) = ⊥

pub pays : {A : Type 0} (P : A → Type 0) (k : ℕ) (e : Costed A) → Good P e → Good P (paying k e)
pays P k (costs n (Ok x)) h = h
pays P k (costs n (Err (faulted f))) h = tt
pays P k (costs n (Err stuck)) h = absurd h

pub binds : {A B : Type 0} (P : A → Type 0) (Q : B → Type 0) (e : Costed A) (f : A → Costed B) → Good P e → ((x : A) → P x → Good Q (f x)) → Good Q (e >>= f)
binds P Q (costs n (Ok x)) f h g = pays Q n (f x) (g x h)
binds P Q (costs n (Err (faulted x))) f h g = tt
binds P Q (costs n (Err stuck)) f h g = absurd h

-- a variable is a local or a global, and its number is that of its type
data IsStanding (env : Env) (v : Variable) : Type 0 where
  in_frame : v.kind ≡ Local → slice_get (types_of env.locals) v.number ≡ Some v.ty → IsStanding env v
  in_globals : v.kind ≡ Global → slice_get (types_of env.globals) v.number ≡ Some v.ty → IsStanding env v

standing_in : (env : Env) (v : Variable) (a b : Option (ℕ × Typed)) → ((found : ℕ × Typed) → a ≡ Some found → slice_get env.locals found.0 ≡ Some found.1) → ((found : ℕ × Typed) → b ≡ Some found → slice_get env.globals found.0 ≡ Some found.1)
    → option_or (option_map (variable_of Local) a) (option_map (variable_of Global) b) ≡ Some v → IsStanding env v
standing_in env v (Some found) b f g e =
    let q : variable_of Local found ≡ v = cc in
    in_frame (sym (ap (λ w. w.kind) q)) (subst (λ w. slice_get (types_of env.locals) w.number ≡ Some w.ty) q (got_mapped (λ d. d.ty) env.locals found.0 found.1 (f found refl)))
standing_in env v None (Some found) f g e =
    let q : variable_of Global found ≡ v = cc in
    in_globals (sym (ap (λ w. w.kind) q)) (subst (λ w. slice_get (types_of env.globals) w.number ≡ Some w.ty) q (got_mapped (λ d. d.ty) env.globals found.0 found.1 (g found refl)))
standing_in env v None None f g e = cc

standing : (env : Env) (text : List ℕ) (v : Variable) → variable_named env text ≡ Some v → IsStanding env v
standing env text v e =
    standing_in env v (first_named (λ v. v.text) text 0 env.locals) (first_named (λ v. v.text) text 0 env.globals)
    (λ found q. found_there (λ v. v.text) env.locals text found.0 found.1 q) (λ found q. found_there (λ v. v.text) env.globals text found.0 found.1 q) e

-- the number of a name that is resolved
variable_is : (x : CName) (o : Option Variable) (v : Variable) → o ≡ Some v → numbered_variable x o ≡ x → (x.kind ≡ v.kind) × (x.number ≡ v.number)
variable_is x o v e q =
    let r = sym (ap (numbered_variable x) e) ∙ q in
    (sym (ap (λ n. n.kind) r), sym (ap (λ n. n.number) r))

field_is : (f : CName) (o : Option (ℕ × Typed)) (found : ℕ × Typed) → o ≡ Some found → numbered_field f o ≡ f → f.number ≡ found.0
field_is f o found e q = sym (ap (λ n. n.number) (sym (ap (numbered_field f) e) ∙ q))

-- a state in which a function with this environment runs
pub record SafeState (env : Env) (layout : StoreTyping) (s : C0State) : Type 0 where
  pub globals_are : layout.globals ≡ types_of env.globals
  pub global_values : AreParts env.structs layout layout.globals s.global_values
  pub heap_values : AreParts env.structs layout layout.objects s.heap_values
  pub local_values : AreParts env.structs layout (types_of env.locals) (variables_of s.frames)

-- a location of a type
abbrev pub Stands : Env → StoreTyping → Region → List ℕ → Ty → Type 0
Stands env layout globals path t = LeadsFrom env.structs layout.globals path t
Stands env layout heap path t = LeadsFrom env.structs layout.objects path t
Stands env layout locals path t = LeadsFrom env.structs (types_of env.locals) path t

-- a location of a type, where a pointer may lead unless it is local
pub record IsAt (env : Env) (layout : StoreTyping) (local : Bool) (t : Ty) (l : Location) : Type 0 where
  pub stands : Stands env layout l.region l.path t
  pub away : local ≡ false → PointsTo env.structs layout l.region l.path t

pub pointed_stands : (env : Env) (layout : StoreTyping) (r : Region) (path : List ℕ) (t : Ty) → PointsTo env.structs layout r path t → Stands env layout r path t
pointed_stands env layout globals path t h = h
pointed_stands env layout heap path t h = h
pointed_stands env layout locals path t h = absurd h

stands_on : (env : Env) (layout : StoreTyping) (r : Region) (path : List ℕ) (u : Ty) (i : ℕ) (w : Ty) → Stands env layout r path u → PathLeads env.structs u (i ∷ []) w → Stands env layout r (path ++ i ∷ []) w
stands_on env layout globals path u i w h g = leads_from_on env.structs layout.globals path u i w h g
stands_on env layout heap path u i w h g = leads_from_on env.structs layout.objects path u i w h g
stands_on env layout locals path u i w h g = leads_from_on env.structs (types_of env.locals) path u i w h g

below_is : (env : Env) (layout : StoreTyping) (local : Bool) (u : Ty) (l : Location) (i : ℕ) (w : Ty) → IsAt env layout local u l → PathLeads env.structs u (i ∷ []) w → IsAt env layout local w (below l i)
below_is env layout local u l i w h g = record { stands = stands_on env layout l.region l.path u i w h.stands g; away = λ e. points_on env.structs layout l.region l.path u i w (h.away e) g }

module _ (env : Env) (layout : StoreTyping) (s : C0State) (scene : SafeState env layout s) where
  abbrev ValueOf : Ty → Value → Type 0
  ValueOf t v = Fits env.structs layout t v

  read_at : (r : Region) (path : List ℕ) (t : Ty) → Stands env layout r path t → Has env.structs layout (read s (record { region = r; path = path })) t
  read_at globals path t h = get_parts env.structs layout layout.globals path t s.global_values h scene.global_values
  read_at heap path t h = get_parts env.structs layout layout.objects path t s.heap_values h scene.heap_values
  read_at locals path t h = get_parts env.structs layout (types_of env.locals) path t (variables_of s.frames) h scene.local_values

  found_good : (t : Ty) (o : Option Value) → Has env.structs layout o t → Good (ValueOf t) (at_no_cost (ok_or o stuck))
  found_good t o h = subst (λ p. Good (ValueOf t) (at_no_cost (ok_or p stuck))) (sym h.is) h.fits

  loads : (local : Bool) (t : Ty) (e : Costed Location) → Good (IsAt env layout local t) e → Good (ValueOf t) (load_from s e)
  loads local t e h = binds (IsAt env layout local t) (ValueOf t) e _ h (λ l g. found_good t (read s l) (read_at l.region l.path t g.stands))

  by_kind : (k : Kind) (n : ℕ) (t : Ty) (local : Bool) → (kind : Kind) → k ≡ kind → Good (IsAt env layout local t) (at_no_cost (variable_location kind n)) → Good (IsAt env layout local t) (at_no_cost (variable_location k n))
  by_kind k n t local kind e h = subst (λ j. Good (IsAt env layout local t) (at_no_cost (variable_location j n))) (sym e) h

  local_of : (o : Option Variable) (v : Variable) → o ≡ Some v → v.kind ≡ Local → is_local_kind o ≡ true
  local_of o v e k = ap is_local_kind e ∙ ap (λ j. is_local_kind (Some (record { kind = j; number = v.number; ty = v.ty }))) k

  variable_good : (x : CName) (v : Variable) → variable_named env x.text ≡ Some v → numbered_variable x (variable_named env x.text) ≡ x → Good (IsAt env layout (is_local env (var x)) v.ty) (at_no_cost (variable_location x.kind x.number))
  variable_good x v e q =
      let p = variable_is x (variable_named env x.text) v e q in
      elim (standing env x.text v e) [
        | in_frame k h ↦ by_kind x.kind x.number v.ty (is_local env (var x)) Local (p.0 ∙ k) (record {
          stands = (v.ty, subst (λ n. slice_get (types_of env.locals) n ≡ Some v.ty) (sym p.1) h, refl);
          away = λ no. absurd (false≢true (sym no ∙ local_of (variable_named env x.text) v e k));
        })
        | in_globals k h ↦
            let g : slice_get layout.globals x.number ≡ Some v.ty = ap (λ ts. slice_get ts x.number) scene.globals_are ∙ subst (λ n. slice_get (types_of env.globals) n ≡ Some v.ty) (sym p.1) h in
            by_kind x.kind x.number v.ty (is_local env (var x)) Global (p.0 ∙ k) (record { stands = (v.ty, g, refl); away = λ no. (v.ty, g, refl) })
      ]

  field_good : (local : Bool) (x : List ℕ) (f : CName) (found : ℕ × Typed) (o : Option (ℕ × Typed)) (e : Costed Location) → Good (IsAt env layout local (ty.named x)) e → field_named env x f.text ≡ Some found → o ≡ field_named env x f.text → numbered_field f o ≡ f → Good (IsAt env layout local found.1.ty) (field_of f e)
  field_good local x f found o e h q r n =
      let number = field_is f o found (r ∙ q) n in
      let there = got_mapped (λ d. d.ty) (shape_fields env.structs x) found.0 found.1 (found_there (λ d. d.text) (shape_fields env.structs x) f.text found.0 found.1 q) in
      binds (IsAt env layout local (ty.named x)) (IsAt env layout local found.1.ty) e _ h
      (λ l g. below_is env layout local (ty.named x) l f.number found.1.ty g (found.1.ty, subst (λ i. slice_get (types_of (shape_fields env.structs x)) i ≡ Some found.1.ty) (sym number) there, refl))

  pointed_good : (t : Ty) (e : Costed Value) → Good (ValueOf (ty.pointer t)) e → Good (IsAt env layout false t) (pointed e)
  pointed_good t e h = binds (ValueOf (ty.pointer t)) (IsAt env layout false t) e _ h by_value
    where
      by_value : (v : Value) → ValueOf (ty.pointer t) v → Good (IsAt env layout false t) (at_no_cost (pointed_to v))
      by_value null g = tt
      by_value (at l) g = record { stands = pointed_stands env layout l.region l.path t g; away = λ e. g }
      by_value (int z) g = absurd g
      by_value (bool b) g = absurd g
      by_value (group vs) g = absurd g

  within_good : (local : Bool) (t : Ty) (n i : ℕ) (vs : Values) (l : Location) → IsAt env layout local (ty.array t n) l → count vs ≡ n → (b : Bool) → nat_lt i (count vs) ≡ b → Good (IsAt env layout local t) (at_no_cost (if b then Ok (below l i) else Err (faulted Bounds)))
  within_good local t n i vs l h c true e = below_is env layout local (ty.array t n) l i t h (let g = ltb-true i (count vs) e in omega (arith, g, c), refl)
  within_good local t n i vs l h c false e = tt

  element_good : (local : Bool) (t : Ty) (n : ℕ) (l : Location) (w v : Value) → IsAt env layout local (ty.array t n) l → ValueOf (ty.array t n) w → ValueOf ty.int v → Good (IsAt env layout local t) (at_no_cost (element_of l (Some w) v))
  element_good local t n l (group vs) (int (pos i)) h g k = within_good local t n i vs l h (length_fits env.structs layout n t vs g) (nat_lt i (count vs)) refl
  element_good local t n l (group vs) (int (negsuc i)) h g k = tt
  element_good local t n l (group vs) (bool b) h g k = absurd k
  element_good local t n l (group vs) null h g k = absurd k
  element_good local t n l (group vs) (at m) h g k = absurd k
  element_good local t n l (group vs) (group us) h g k = absurd k
  element_good local t n l (int z) v h g k = absurd g
  element_good local t n l (bool z) v h g k = absurd g
  element_good local t n l null v h g k = absurd g
  element_good local t n l (at m) v h g k = absurd g

  indexed_good : (local : Bool) (t : Ty) (n : ℕ) (e : Costed Location) (i : Costed Value) → Good (IsAt env layout local (ty.array t n)) e → Good (ValueOf ty.int) i → Good (IsAt env layout local t) (indexed s e i)
  indexed_good local t n e i h g =
      binds (IsAt env layout local (ty.array t n)) (IsAt env layout local t) e _ h
      (λ l k. binds (ValueOf ty.int) (IsAt env layout local t) i _ g
      (λ v j.
      let r = read_at l.region l.path (ty.array t n) k.stands in
      subst (λ o. Good (IsAt env layout local t) (at_no_cost (element_of l o v))) (sym r.is) (element_good local t n l r.value v k r.fits j)))

  -- two sides that are both evaluated
  two_good : (t u w : Ty) (f : Value → Value → Result Value Failure) (l r : Costed Value) → Good (ValueOf t) l → Good (ValueOf u) r → ((x y : Value) → ValueOf t x → ValueOf u y → Good (ValueOf w) (at_no_cost (f x y))) → Good (ValueOf w) (l >>= λ x. r >>= λ y. at_no_cost (f x y))
  two_good t u w f l r h g k = binds (ValueOf t) (ValueOf w) l _ h (λ x hx. binds (ValueOf u) (ValueOf w) r _ g (λ y hy. k x y hx hy))

  ints_good : (w : Ty) (f : Value → Value → Result Value Failure) → ((a b : ℤ) → FitsSigned w32 a → FitsSigned w32 b → Good (ValueOf w) (at_no_cost (f (int a) (int b)))) → (x y : Value) → ValueOf ty.int x → ValueOf ty.int y → Good (ValueOf w) (at_no_cost (f x y))
  ints_good w f k (int a) (int b) h g = k a b h g
  ints_good w f k (int a) (bool b) h g = absurd g
  ints_good w f k (int a) null h g = absurd g
  ints_good w f k (int a) (at l) h g = absurd g
  ints_good w f k (int a) (group vs) h g = absurd g
  ints_good w f k (bool a) y h g = absurd h
  ints_good w f k null y h g = absurd h
  ints_good w f k (at l) y h g = absurd h
  ints_good w f k (group vs) y h g = absurd h

  divided_good : (division : ℤ → ℤ → ℤ) → ((a b : ℤ) → FitsSigned w32 b → 0 < unsigned_abs b → FitsSigned w32 (division a b)) → (a b : ℤ) → FitsSigned w32 b → Good (ValueOf ty.int) (at_no_cost (divided division a b))
  divided_good division k a (pos zero) g = tt
  divided_good division k a (pos (suc n)) g = k a (pos (suc n)) g (omega arith)
  divided_good division k a (negsuc n) g = k a (negsuc n) g (omega arith)

  any_good : (t : Ty) (f : Value → Value → Bool) (x y : Value) → Good (ValueOf ty.bool) (at_no_cost (Ok (bool (f x y))))
  any_good t f x y = tt

  pub bool_good : (e : Costed Value) → Good (ValueOf ty.bool) e → Good (λ b. Unit {0}) (truth e)
  bool_good e h = binds (ValueOf ty.bool) (λ b. Unit {0}) e _ h by_value
    where
      by_value : (v : Value) → ValueOf ty.bool v → Good (λ b. Unit {0}) (at_no_cost (bool_of v))
      by_value (bool b) g = tt
      by_value (int z) g = absurd g
      by_value null g = absurd g
      by_value (at l) g = absurd g
      by_value (group vs) g = absurd g

  either_good : (b : Bool) (x y : Costed Value) → Good (ValueOf ty.bool) x → Good (ValueOf ty.bool) y → Good (ValueOf ty.bool) (if b then x else y)
  either_good true x y h g = h
  either_good false x y h g = g

  arithmetic_good : (o : BinaryOp) → IsArithmetic o → (l r : Costed Value) → Good (ValueOf ty.int) l → Good (ValueOf ty.int) r → Good (ValueOf ty.int) (both_sides o l r)
  arithmetic_good _ add l r h g = two_good ty.int ty.int ty.int (on_binary Add) l r h g (ints_good ty.int (on_binary Add) (λ a b p q. SFits-int_wrap w32 _))
  arithmetic_good _ sub l r h g = two_good ty.int ty.int ty.int (on_binary Sub) l r h g (ints_good ty.int (on_binary Sub) (λ a b p q. SFits-int_wrap w32 _))
  arithmetic_good _ mul l r h g = two_good ty.int ty.int ty.int (on_binary Mul) l r h g (ints_good ty.int (on_binary Mul) (λ a b p q. SFits-int_wrap w32 _))
  arithmetic_good _ div l r h g = two_good ty.int ty.int ty.int (on_binary Div) l r h g (ints_good ty.int (on_binary Div) (λ a b p q. divided_good quotient (λ a b f k. int_of_fits (word_of (int_div a b))) a b q))
  arithmetic_good _ rem l r h g = two_good ty.int ty.int ty.int (on_binary Rem) l r h g (ints_good ty.int (on_binary Rem) (λ a b p q. divided_good remainder (λ a b f k. remainder_fits a b f k) a b q))

  order_good : (o : BinaryOp) → IsOrdering o → (l r : Costed Value) → Good (ValueOf ty.int) l → Good (ValueOf ty.int) r → Good (ValueOf ty.bool) (both_sides o l r)
  order_good _ lt l r h g = two_good ty.int ty.int ty.bool (on_binary Lt) l r h g (ints_good ty.bool (on_binary Lt) (λ a b p q. tt))
  order_good _ le l r h g = two_good ty.int ty.int ty.bool (on_binary Le) l r h g (ints_good ty.bool (on_binary Le) (λ a b p q. tt))
  order_good _ gt l r h g = two_good ty.int ty.int ty.bool (on_binary Gt) l r h g (ints_good ty.bool (on_binary Gt) (λ a b p q. tt))
  order_good _ ge l r h g = two_good ty.int ty.int ty.bool (on_binary Ge) l r h g (ints_good ty.bool (on_binary Ge) (λ a b p q. tt))

  equality_good : (o : BinaryOp) → IsEquality o → (t u : Ty) (l r : Costed Value) → Good (ValueOf t) l → Good (ValueOf u) r → Good (ValueOf ty.bool) (both_sides o l r)
  equality_good _ eq t u l r h g = two_good t u ty.bool (on_binary Eq) l r h g (λ x y p q. tt)
  equality_good _ ne t u l r h g = two_good t u ty.bool (on_binary Ne) l r h g (λ x y p q. tt)

  logic_good : (o : BinaryOp) → IsLogical o → (l r : Costed Value) → Good (ValueOf ty.bool) l → Good (ValueOf ty.bool) r → Good (ValueOf ty.bool) (both_sides o l r)
  logic_good _ and l r h g = binds (λ b. Unit {0}) (ValueOf ty.bool) (truth l) _ (bool_good l h) (λ b k. either_good b r (at_no_cost (Ok (bool false))) g tt)
  logic_good _ or l r h g = binds (λ b. Unit {0}) (ValueOf ty.bool) (truth l) _ (bool_good l h) (λ b k. either_good b (at_no_cost (Ok (bool true))) r tt g)

  negative_good : (v : Value) → ValueOf ty.int v → Good (ValueOf ty.int) (at_no_cost (on_unary Negate v))
  negative_good (int z) h = SFits-int_wrap w32 _
  negative_good (bool b) h = absurd h
  negative_good null h = absurd h
  negative_good (at l) h = absurd h
  negative_good (group vs) h = absurd h

  negation_good : (v : Value) → ValueOf ty.bool v → Good (ValueOf ty.bool) (at_no_cost (on_unary Not v))
  negation_good (bool b) h = tt
  negation_good (int z) h = absurd h
  negation_good null h = absurd h
  negation_good (at l) h = absurd h
  negation_good (group vs) h = absurd h

  part_good : (span : Span) (e : CExpr) (f : CName) (x : List ℕ) (found : ℕ × Typed) → HasType env e (ty.named x) → field_named env x f.text ≡ Some found → resolved env (field span e f) ≡ field span e f → Good (IsAt env layout (is_local env e) (ty.named x)) (place_of e s) → Good (IsAt env layout (is_local env e) found.1.ty) (field_of f (place_of e s))
  part_good span e f x found h n q g =
      let w : numbered_field f (member env (type_of env e) f.text) ≡ f = cc in
      field_good (is_local env e) x f found (member env (type_of env e) f.text) (place_of e s) g n (ap (λ t. member env t f.text) (typed_is_faultless env e (ty.named x) h).1) w

  target_good : (span : Span) (e : CExpr) (f : CName) (x : List ℕ) (found : ℕ × Typed) → HasType env e (ty.pointer (ty.named x)) → field_named env x f.text ≡ Some found → resolved env (arrow span e f) ≡ arrow span e f → Good (ValueOf (ty.pointer (ty.named x))) (value_of e s) → Good (IsAt env layout false found.1.ty) (field_of f (pointed (value_of e s)))
  target_good span e f x found h n q g =
      let w : numbered_field f (member env (target (type_of env e)) f.text) ≡ f = cc in
      field_good false x f found (member env (target (type_of env e)) f.text) (pointed (value_of e s)) (pointed_good (ty.named x) (value_of e s) g) n
      (ap (λ t. member env (target t) f.text) (typed_is_faultless env e (ty.pointer (ty.named x)) h).1) w

  mutual
    pub value_good : (e : CExpr) (t : Ty) → HasType env e t → resolved env e ≡ e → is_plain_expr e ≡ true → Good (ValueOf t) (value_of e s)
    value_good _ _ (a_number {n = n}) q p = small n p
    value_good _ _ a_true q p = tt
    value_good _ _ a_false q p = tt
    value_good _ _ (a_variable {x = x} {v = v} h) q p =
        let r : numbered_variable x (variable_named env x.text) ≡ x = cc in
        pays (ValueOf v.ty) 1 (load_from s (at_no_cost (variable_location x.kind x.number))) (loads (is_local env (var x)) v.ty (at_no_cost (variable_location x.kind x.number)) (variable_good x v h r))
    value_good _ _ (a_field {e = e} {f = f} {x = x} {found = found} pl h n) q p =
        pays (ValueOf found.1.ty) 1 (load_from s (field_of f (place_of e s))) (loads (is_local env e) found.1.ty (field_of f (place_of e s)) (let r : resolved env e ≡ e = cc in part_good _ e f x found h n q (place_good e (ty.named x) h pl r p)))
    value_good _ _ (a_target_field {e = e} {f = f} {x = x} {found = found} h n) q p =
        pays (ValueOf found.1.ty) 1 (load_from s (field_of f (pointed (value_of e s)))) (loads false found.1.ty (field_of f (pointed (value_of e s))) (let r : resolved env e ≡ e = cc in target_good _ e f x found h n q (value_good e (ty.pointer (ty.named x)) h r p)))
    value_good _ _ (an_element {e = e} {i = i} {t = t} {n = n} pl h g) q p =
        pays (ValueOf t) 1 (load_from s (indexed s (place_of e s) (value_of i s))) (loads (is_local env e) t (indexed s (place_of e s) (value_of i s)) (let r : resolved env e ≡ e = cc in
        let w : resolved env i ≡ i = cc in
        let c = and_parts (is_plain_expr e) (is_plain_expr i) p in
        indexed_good (is_local env e) t n (place_of e s) (value_of i s) (place_good e (ty.array t n) h pl r c.0) (value_good i ty.int g w c.1)))
    value_good _ _ (a_target {e = e} {t = t} h) q p =
        let r : resolved env e ≡ e = cc in
        pays (ValueOf t) 1 (load_from s (pointed (value_of e s))) (loads false t (pointed (value_of e s)) (pointed_good t (value_of e s) (value_good e (ty.pointer t) h r p)))
    value_good _ _ (an_address {e = e} {t = t} pl away h) q p =
        let r : resolved env e ≡ e = cc in
        pays (ValueOf (ty.pointer t)) 1 (place_of e s >>= λ l. at_no_cost (Ok (at l)))
        (binds (IsAt env layout (is_local env e) t) (ValueOf (ty.pointer t)) (place_of e s) _ (place_good e t h pl r p) (λ l g. g.away away))
    value_good _ _ (a_negative {e = e} h) q p =
        let r : resolved env e ≡ e = cc in
        pays (ValueOf ty.int) 1 (value_of e s >>= λ v. at_no_cost (on_unary Negate v)) (binds (ValueOf ty.int) (ValueOf ty.int) (value_of e s) _ (value_good e ty.int h r p) (λ v g. negative_good v g))
    value_good _ _ (a_negation {e = e} h) q p =
        let r : resolved env e ≡ e = cc in
        pays (ValueOf ty.bool) 1 (value_of e s >>= λ v. at_no_cost (on_unary Not v)) (binds (ValueOf ty.bool) (ValueOf ty.bool) (value_of e s) _ (value_good e ty.bool h r p) (λ v g. negation_good v g))
    value_good _ _ (arithmetic {o = o} {a = a} {b = b} k h g) q p =
        let r : resolved env a ≡ a = cc in
        let w : resolved env b ≡ b = cc in
        let c = and_parts (is_plain_expr a) (is_plain_expr b) p in
        pays (ValueOf ty.int) 1 (both_sides o (value_of a s) (value_of b s)) (arithmetic_good o k (value_of a s) (value_of b s) (value_good a ty.int h r c.0) (value_good b ty.int g w c.1))
    value_good _ _ (order {o = o} {a = a} {b = b} k h g) q p =
        let r : resolved env a ≡ a = cc in
        let w : resolved env b ≡ b = cc in
        let c = and_parts (is_plain_expr a) (is_plain_expr b) p in
        pays (ValueOf ty.bool) 1 (both_sides o (value_of a s) (value_of b s)) (order_good o k (value_of a s) (value_of b s) (value_good a ty.int h r c.0) (value_good b ty.int g w c.1))
    value_good _ _ (logic {o = o} {a = a} {b = b} k h g) q p =
        let r : resolved env a ≡ a = cc in
        let w : resolved env b ≡ b = cc in
        let c = and_parts (is_plain_expr a) (is_plain_expr b) p in
        pays (ValueOf ty.bool) 1 (both_sides o (value_of a s) (value_of b s)) (logic_good o k (value_of a s) (value_of b s) (value_good a ty.bool h r c.0) (value_good b ty.bool g w c.1))
    value_good _ _ (equality {o = o} {a = a} {b = b} {t = t} k scalar h g) q p =
        let r : resolved env a ≡ a = cc in
        let w : resolved env b ≡ b = cc in
        let c = and_parts (is_plain_expr a) (is_plain_expr b) p in
        pays (ValueOf ty.bool) 1 (both_sides o (value_of a s) (value_of b s)) (equality_good o k t t (value_of a s) (value_of b s) (value_good a t h r c.0) (value_good b t g w c.1))
    value_good _ _ (null_left {o = o} {b = b} {t = t} k g) q p =
        let w : resolved env b ≡ b = cc in
        pays (ValueOf ty.bool) 1 (both_sides o (costs 1 (Ok null)) (value_of b s)) (equality_good o k (ty.pointer t) (ty.pointer t) (costs 1 (Ok null)) (value_of b s) tt (value_good b (ty.pointer t) g w p))
    value_good _ _ (null_right {o = o} {a = a} {t = t} k h) q p =
        let r : resolved env a ≡ a = cc in
        let c = and_parts (is_plain_expr a) true p in
        pays (ValueOf ty.bool) 1 (both_sides o (value_of a s) (costs 1 (Ok null))) (equality_good o k (ty.pointer t) (ty.pointer t) (value_of a s) (costs 1 (Ok null)) (value_good a (ty.pointer t) h r c.0) tt)

    pub place_good : (e : CExpr) (t : Ty) → HasType env e t → IsTrue (is_lvalue e) → resolved env e ≡ e → is_plain_expr e ≡ true → Good (IsAt env layout (is_local env e) t) (place_of e s)
    place_good _ _ (a_variable {x = x} {v = v} h) there q p =
        let r : numbered_variable x (variable_named env x.text) ≡ x = cc in
        pays (IsAt env layout (is_local env (var x)) v.ty) 1 (at_no_cost (variable_location x.kind x.number)) (variable_good x v h r)
    place_good _ _ (a_field {e = e} {f = f} {x = x} {found = found} pl h n) there q p =
        pays (IsAt env layout (is_local env e) found.1.ty) 1 (field_of f (place_of e s)) (let r : resolved env e ≡ e = cc in part_good _ e f x found h n q (place_good e (ty.named x) h pl r p))
    place_good _ _ (a_target_field {e = e} {f = f} {x = x} {found = found} h n) there q p =
        pays (IsAt env layout false found.1.ty) 1 (field_of f (pointed (value_of e s))) (let r : resolved env e ≡ e = cc in target_good _ e f x found h n q (value_good e (ty.pointer (ty.named x)) h r p))
    place_good _ _ (an_element {e = e} {i = i} {t = t} {n = n} pl h g) there q p =
        pays (IsAt env layout (is_local env e) t) 1 (indexed s (place_of e s) (value_of i s)) (let r : resolved env e ≡ e = cc in
        let w : resolved env i ≡ i = cc in
        let c = and_parts (is_plain_expr e) (is_plain_expr i) p in
        indexed_good (is_local env e) t n (place_of e s) (value_of i s) (place_good e (ty.array t n) h pl r c.0) (value_good i ty.int g w c.1))
    place_good _ _ (a_target {e = e} {t = t} h) there q p =
        let r : resolved env e ≡ e = cc in
        pays (IsAt env layout false t) 1 (pointed (value_of e s)) (pointed_good t (value_of e s) (value_good e (ty.pointer t) h r p))
    place_good _ _ a_number there q p = absurd (false≢true there)
    place_good _ _ a_true there q p = absurd (false≢true there)
    place_good _ _ a_false there q p = absurd (false≢true there)
    place_good _ _ (an_address pl away h) there q p = absurd (false≢true there)
    place_good _ _ (a_negative h) there q p = absurd (false≢true there)
    place_good _ _ (a_negation h) there q p = absurd (false≢true there)
    place_good _ _ (arithmetic k h g) there q p = absurd (false≢true there)
    place_good _ _ (order k h g) there q p = absurd (false≢true there)
    place_good _ _ (logic k h g) there q p = absurd (false≢true there)
    place_good _ _ (equality k scalar h g) there q p = absurd (false≢true there)
    place_good _ _ (null_left k g) there q p = absurd (false≢true there)
    place_good _ _ (null_right k h) there q p = absurd (false≢true there)

  pub given_good : (e : CExpr) (t : Ty) → IsGiven env e t → resolved env e ≡ e → is_plain_expr e ≡ true → Good (ValueOf t) (value_of e s)
  given_good e t (a_value h) q p = value_good e t h q p
  given_good _ _ a_null q p = tt

  pub values_good : (es : List CExpr) (ts : List Ty) → AreGiven env es ts → map (resolved env) es ≡ es → list_all is_plain_expr es ≡ true → Good (AllFit env.structs layout ts) (values_of es s)
  values_good _ _ none q p = tt
  values_good _ _ (more {e = e} {es = es} {t = t} {ts = ts} h hs) q p =
      let r : resolved env e ≡ e = cc in
      let w : map (resolved env) es ≡ es = cc in
      let c = and_parts (is_plain_expr e) (list_all is_plain_expr es) p in
      binds (ValueOf t) (AllFit env.structs layout (t ∷ ts)) (value_of e s) _ (given_good e t h r c.0)
      (λ v g. binds (AllFit env.structs layout ts) (AllFit env.structs layout (t ∷ ts)) (values_of es s) _ (values_good es ts hs w c.1) (λ vs k. (g, k)))
