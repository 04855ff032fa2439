-- What the crates below say, as the proofs here take it.
use Rattle.std.specs.Prelude.{map, slice_get, slice_index_or, IsTrue, Some, unwrap_or}
use Rattle.std.specs.List.{All}
use Rattle.std.proofs.lemmas.List.Elements.{All-cons, All-head, All-tail}
use Rattle.std.proofs.lemmas.List.{map-append}
use Rattle.std.proofs.Common.{◌≡◌, ◌≢◌, ℕ, zero, suc, ◌+◌, ◌*◌, ◌<◌, ◌≤◌, List, [], ◌∷◌, ◌++◌, refl, sym, ap, ◌∙◌, subst, arith}
use Rattle.c0_tree.specs.Tree.{CTy, CDecl, CExpr, CStmts, code, CFunction, CUnit}
use Rattle.c0_meaning.specs.Ty.{Ty, ty_of, is_scalar}
use Rattle.c0_meaning.specs.Ty as ty
use Rattle.c0_meaning.specs.Env.{Shape, typed_of}
use Rattle.c0_meaning.specs.Limits.{locals_of}
use Rattle.c0_meaning.specs.Typed.{IsDeclarable}
use Rattle.c0_meaning.specs.Words.{shape_fields, words}
use Rattle.c0_meaning.specs.Sizes.{words_before}
use Rattle.c0_meaning.specs.Addresses.{nth_type, words_to, words_to_part}
use Rattle.c0_meaning.specs.Sound.{shapes}
use Rattle.c0_meaning.specs.Value.{Region, globals, heap, locals, Location, Value, int, bool, null, at, Values, empty, part, group, followed_by, with_part, zero_of, zeros_of, value_with}
use Rattle.c0_meaning.specs.State.{Frame, C0State, write}
use Rattle.c0_meaning.specs.TypedState.{types_of, PathLeads, LeadsFrom, Fits, AllFit, AreParts, variable_types, IsTypedFrame, store_typing, IsTypedWith}
use Rattle.c0_expr_code.specs.Scope.{Scope}
use Rattle.c0_expr_runs.specs.Bases.{Bases, words_of_all, word_of_scalar, RegionHeld}
use Rattle.c0_expr_runs.specs.Laws as below
use Rattle.c0_runs.proofs.PremisesFromBelow.{HeldStays, TypedStays, types_for}

-- where parts lie
module _ (structs : List Shape) (opened : below.IsOpened structs) where
  before_room : (types : List Ty) (i : ℕ) (t : Ty) → slice_get types i ≡ Some t → words_before structs types i + words structs t ≤ words_of_all structs types
  before_room [] i t e = absurd (cc)
  before_room (u ∷ types) zero t e = let q : u ≡ t = cc in let w = ap (words structs) q in omega (arith, w)
  before_room (u ∷ types) (suc i) t e = let r = before_room types i t e in omega (arith, r)

  times : (n i w : ℕ) → i < n → i * w + w ≤ n * w
  times zero i w lt = absurd (omega (arith, lt))
  times (suc n) zero w lt = omega arith
  times (suc n) (suc i) w lt = let r = times n i w (omega (arith, lt)) in omega (arith, r)

  at_number : (types : List Ty) (i : ℕ) (t : Ty) → slice_get types i ≡ Some t → nth_type types i ≡ t
  at_number types i t e = ap (λ o. unwrap_or o ty.int) e

  room : (t : Ty) (path : List ℕ) (u : Ty) → PathLeads structs t path u → words_to structs t path + words structs u ≤ words structs t
  room t [] u l = let w = ap (words structs) l in omega (arith, w)
  room (ty.named x) (i ∷ path) u l =
      let r = room l.0 path u l.2 in
      let b = before_room (types_of (shape_fields structs x)) i l.0 l.1 in
      let o = opened x in
      let s = ap (λ v. words_to structs v path) (at_number (types_of (shape_fields structs x)) i l.0 l.1) in
      omega (arith, r, b, o, s)
  room (ty.array t n) (i ∷ path) u l = let r = room t path u l.1 in let b = times n i (words structs t) l.0 in omega (arith, r, b)
  room ty.int (i ∷ path) u l = absurd l
  room ty.bool (i ∷ path) u l = absurd l
  room (ty.pointer t) (i ∷ path) u l = absurd l

  -- a part lies within its region
  pub room_from : (types : List Ty) (path : List ℕ) (u : Ty) → LeadsFrom structs types path u → words_to_part structs types path + words structs u ≤ words_of_all structs types
  room_from types [] u l = absurd l
  room_from types (i ∷ path) u l =
      let r = room l.0 path u l.2 in
      let b = before_room types i l.0 l.1 in
      let s = ap (λ v. words_to structs v path) (at_number types i l.0 l.1) in
      omega (arith, r, b, s)

  one_word : (t : Ty) → IsTrue (is_scalar t) → words structs t ≡ 1
  one_word ty.int s = refl
  one_word ty.bool s = refl
  one_word (ty.pointer t) s = refl
  one_word (ty.named x) s = absurd (cc)
  one_word (ty.array t n) s = absurd (cc)

  pub held_stays : below.HeldStays → HeldStays structs
  held_stays h = record {
    same = λ sc p m m' a types v e same held. h.same sc p (subst below.IsOpened (sym e) opened) m m' a types v (λ k le lt. same k le (subst (λ q. k < a + words_of_all q types) e lt)) held;
    stored = λ sc p m m' a types path t v x e l s held here others. by_structs h sc p m m' a types path t v x e l s held here others;
    same_locals = λ sc p live m m' a types v e same held. h.same_locals sc p (subst below.IsOpened (sym e) opened) live m m' a types v (λ k le lt. same k le (subst (λ q. k < a + words_of_all q types) e lt)) held;
    stored_local = λ sc p live later m m' a types path t v x e l s held here others grows.
        h.written_local sc p (subst below.IsOpened (sym e) opened) live later m m' a (a + words_to_part structs types path) types path t v x (subst (λ q. LeadsFrom q types path t) (sym e) l) s (ap (λ q. a + words_to_part q types path) (sym e)) here others grows held;
    inside = λ types path t l s. let r = room_from types path t l in let w = one_word t s in omega (arith, r, w);
  }
    where
      by_structs : below.HeldStays → (sc : Scope) (p : Bases) (m m' : ℕ → ℕ) (a : ℕ) (types : List Ty) (path : List ℕ) (t : Ty) (v x : Value) → sc.env.structs ≡ structs → LeadsFrom structs types path t → IsTrue (is_scalar t) → RegionHeld sc p m a types v
          → m' (a + words_to_part structs types path) ≡ word_of_scalar sc p x → ((y : ℕ) → y ≢ a + words_to_part structs types path → m' y ≡ m y) → RegionHeld sc p m' a types (value_with v path x)
      by_structs h sc p m m' a types path t v x e l s held here others =
          h.written sc p (subst below.IsOpened (sym e) opened) m m' a (a + words_to_part structs types path) types path t v x (subst (λ q. LeadsFrom q types path t) (sym e) l) s (ap (λ q. a + words_to_part q types path) (sym e)) here others held

-- typed states
module _ (u : CUnit) (fit : below.PartsFit) (zero_fits : (objects : List Ty) (t : CTy) → IsDeclarable (shapes u) t → Fits (shapes u) (store_typing u objects) (ty_of t) (zero_of (shapes u) (ty_of t)))
    (declared : (n : ℕ) (f : CFunction) → slice_get u.functions n ≡ Some f → All (λ d. IsDeclarable (shapes u) d.ty) (locals_of f.body)) where
  -- locals at their start have their types
  zeros_all : (objects : List Ty) (ds : List CDecl) → All (λ d. IsDeclarable (shapes u) d.ty) ds → AllFit (shapes u) (store_typing u objects) (types_of (map typed_of ds)) (zeros_of (shapes u) (map typed_of ds))
  zeros_all objects [] all = tt
  zeros_all objects (d ∷ ds) all = (zero_fits objects d.ty (All-head (λ d. IsDeclarable (shapes u) d.ty) d ds all), zeros_all objects ds (All-tail (λ d. IsDeclarable (shapes u) d.ty) d ds all))

  zeros_fit : (objects : List Ty) (n : ℕ) (f : CFunction) (ls : List CDecl) (stmts : CStmts) (answer : CExpr) → slice_get u.functions n ≡ Some f → f.body ≡ code ls stmts answer → AllFit (shapes u) (store_typing u objects) (types_of (map typed_of ls)) (zeros_of (shapes u) (map typed_of ls))
  zeros_fit objects n f ls stmts answer is e = zeros_all objects ls (subst (λ b. All (λ d. IsDeclarable (shapes u) d.ty) (locals_of b)) e (declared n f is))

  same_function : (g : Frame) (f h : CFunction) → slice_get u.functions g.function ≡ Some f → slice_get u.functions g.function ≡ Some h → h ≡ f
  same_function g f h a b = let e = sym b ∙ a in some_same e
    where
      some_same : {x y : CFunction} → Some x ≡ Some y → x ≡ y
      some_same q = cc

  writes : (objects : List Ty) (gv hv : Value) (hw : ℕ) (g : Frame) (fs : List Frame) (f : CFunction) (r : Region) (path : List ℕ) (t : Ty) (v : Value) → slice_get u.functions g.function ≡ Some f
      → IsTypedWith u objects (record { global_values = gv; heap_values = hv; heap_words = hw; frames = g ∷ fs }) → LeadsFrom (shapes u) (types_for u objects f r) path t → Fits (shapes u) (store_typing u objects) t v
      → IsTypedWith u objects (write (record { global_values = gv; heap_values = hv; heap_words = hw; frames = g ∷ fs }) (record { region = r; path = path }) v)
  writes objects gv hv hw g fs f globals path t v is typed l k = record { global_values = fit.changed (shapes u) (store_typing u objects) (types_of (map typed_of u.globals)) path t gv v l typed.global_values k; heap_values = typed.heap_values; frames = typed.frames }
  writes objects gv hv hw g fs f heap path t v is typed l k = record { global_values = typed.global_values; heap_values = fit.changed (shapes u) (store_typing u objects) objects path t hv v l typed.heap_values k; frames = typed.frames }
  writes objects gv hv hw g fs f locals path t v is typed l k =
      let top = All-head (IsTypedFrame u (store_typing u objects)) g fs typed.frames in
      let same = same_function g f top.function is top.is in
      record {
        global_values = typed.global_values;
        heap_values = typed.heap_values;
        frames = All-cons (IsTypedFrame u (store_typing u objects)) (record { function = g.function; variables = value_with g.variables path v }) fs
            (record { function = f; is = is; variables = fit.changed (shapes u) (store_typing u objects) (variable_types f) path t g.variables v l (subst (λ h. AreParts (shapes u) (store_typing u objects) (variable_types h) g.variables) same top.variables) k })
            (All-tail (IsTypedFrame u (store_typing u objects)) g fs typed.frames);
      }

  joined_fit : (objects : List Ty) (ts us : List Ty) (vs ws : Values) → AllFit (shapes u) (store_typing u objects) ts vs → AllFit (shapes u) (store_typing u objects) us ws → AllFit (shapes u) (store_typing u objects) (ts ++ us) (followed_by vs ws)
  joined_fit objects [] us empty ws h g = g
  joined_fit objects (t ∷ ts) us (part v vs) ws h g = (h.0, joined_fit objects ts us vs ws h.1 g)
  joined_fit objects [] us (part v vs) ws h g = absurd h
  joined_fit objects (t ∷ ts) us empty ws h g = absurd h

  -- an object more
  heap_grown : (objects : List Ty) (hv : Value) (t : Ty) (v : Value) → AreParts (shapes u) (store_typing u objects) objects hv → Fits (shapes u) (store_typing u (objects ++ t ∷ [])) t v → AreParts (shapes u) (store_typing u (objects ++ t ∷ [])) (objects ++ t ∷ []) (with_part hv v)
  heap_grown objects (group vs) t v h k = joined_fit (objects ++ t ∷ []) objects (t ∷ []) vs (part v empty) (fit.more (shapes u) (store_typing u objects) (t ∷ []) objects (group vs) h) (k, tt)
  heap_grown objects (int z) t v h k = absurd h
  heap_grown objects (bool b) t v h k = absurd h
  heap_grown objects null t v h k = absurd h
  heap_grown objects (at l) t v h k = absurd h

  frame_grown : (objects more : List Ty) (g : Frame) → IsTypedFrame u (store_typing u objects) g → IsTypedFrame u (store_typing u (objects ++ more)) g
  frame_grown objects more g h = record { function = h.function; is = h.is; variables = fit.more (shapes u) (store_typing u objects) more (variable_types h.function) g.variables h.variables }

  pub typed_stays : TypedStays u
  typed_stays = record {
    written = λ objects s g fs f l t v e is typed leads k. by_frames objects s.frames s g fs f l t v e refl is typed leads k;
    popped = λ objects s g fs e typed. record { global_values = typed.global_values; heap_values = typed.heap_values; frames = All-tail (IsTypedFrame u (store_typing u objects)) g fs (subst (All (IsTypedFrame u (store_typing u objects))) e typed.frames) };
    zeros = zeros_fit;
    zero = zero_fits;
    grown = λ objects gv hv hw n frames t v typed k. record {
      global_values = fit.more (shapes u) (store_typing u objects) (t ∷ []) (types_of (map typed_of u.globals)) gv typed.global_values;
      heap_values = heap_grown objects hv t v typed.heap_values k;
      frames = λ i g lt. frame_grown objects (t ∷ []) (slice_index_or frames i g) (typed.frames i g lt);
    };
    entered = λ objects s n f ls stmts answer args is e typed fits. record {
      global_values = typed.global_values;
      heap_values = typed.heap_values;
      frames = All-cons (IsTypedFrame u (store_typing u objects)) (record { function = n; variables = group (followed_by args (zeros_of (shapes u) (map typed_of ls))) }) s.frames (record { function = f; is = is; variables = variables_fit objects n f ls stmts answer args is e fits }) typed.frames;
    };
  }
    where
      by_frames : (objects : List Ty) (frames : List Frame) (s : C0State) (g : Frame) (fs : List Frame) (f : CFunction) (l : Location) (t : Ty) (v : Value) → s.frames ≡ g ∷ fs → frames ≡ s.frames → slice_get u.functions g.function ≡ Some f → IsTypedWith u objects s
          → LeadsFrom (shapes u) (types_for u objects f l.region) l.path t → Fits (shapes u) (store_typing u objects) t v → IsTypedWith u objects (write s l v)
      by_frames objects frames s g fs f l t v e e2 is typed leads k =
          subst (λ y. IsTypedWith u objects (write (record { global_values = s.global_values; heap_values = s.heap_values; heap_words = s.heap_words; frames = y }) l v)) (sym e)
          (writes objects s.global_values s.heap_values s.heap_words g fs f l.region l.path t v is (subst (λ y. IsTypedWith u objects (record { global_values = s.global_values; heap_values = s.heap_values; heap_words = s.heap_words; frames = y })) e typed) leads k)

      variables_fit : (objects : List Ty) (n : ℕ) (f : CFunction) (ls : List CDecl) (stmts : CStmts) (answer : CExpr) (args : Values) → slice_get u.functions n ≡ Some f → f.body ≡ code ls stmts answer → AllFit (shapes u) (store_typing u objects) (types_of (map typed_of f.params)) args
          → AllFit (shapes u) (store_typing u objects) (variable_types f) (followed_by args (zeros_of (shapes u) (map typed_of ls)))
      variables_fit objects n f ls stmts answer args is e fits =
          let split : variable_types f ≡ types_of (map typed_of f.params) ++ types_of (map typed_of (locals_of f.body)) = ap types_of (map-append typed_of f.params (locals_of f.body)) ∙ map-append (λ d. d.ty) (map typed_of f.params) (map typed_of (locals_of f.body)) in
          let same : types_of (map typed_of f.params) ++ types_of (map typed_of ls) ≡ variable_types f = sym (split ∙ ap (λ ds. types_of (map typed_of f.params) ++ types_of (map typed_of ds)) (ap locals_of e)) in
          subst (λ ts. AllFit (shapes u) (store_typing u objects) ts (followed_by args (zeros_of (shapes u) (map typed_of ls)))) same (joined_fit objects (types_of (map typed_of f.params)) (types_of (map typed_of ls)) args (zeros_of (shapes u) (map typed_of ls)) fits (zeros_fit objects n f ls stmts answer is e))
