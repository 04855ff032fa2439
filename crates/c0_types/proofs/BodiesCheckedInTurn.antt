-- Bodies that are checked one after the other: what a unit declares stays, the bodies so far are checked, and the others are as they were.
use Rattle.std.proofs.Common.{◌≡◌, ℕ, zero, suc, ◌+◌, ◌-◌, ◌^◌, ◌<◌, min, List, [], ◌∷◌, length, map, get_or, set, Option, refl, sym, ap, ◌∙◌, subst, arith}
use Rattle.std.proofs.lemmas.List.{set-get_or, get_or-set_same}
use Rattle.std.proofs.lemmas.Simd.{map-map}
use Rattle.c0_tree.specs.declared.tree.Body.{Body}
use Rattle.c0_tree.specs.declared.tree.Function.{Function}
use Rattle.c0_tree.specs.declared.tree.Kind.TheVariants.{Unresolved}
use Rattle.c0_tree.specs.Tree.{CBody, CFunction, int, asm}
use Rattle.c0_tree.specs.View.{body_view, function_view}
use Rattle.c0_meaning.specs.Ty.{ty_of}
use Rattle.c0_meaning.specs.Env.{Signature, signature_of, Env}
use Rattle.c0_meaning.specs.Fault.{Fault, kept_all}
use Rattle.c0_name_check.proofs.FaultsMet.{kept_all-append}
use Rattle.c0_body_check.specs.Scope.{MapTells, signature_view}
use Rattle.c0_body_check.proofs.InPlace.{done, rest, done-next, done-step, rest-next, map-set, map-get_or}
use Rattle.c0_types.specs.declared.bodies.Declared.{Declared}
use Rattle.c0_types.specs.Known.{KnowsUnit, unit_env}
use Rattle.c0_types.specs.Parts.{bodied, bodies_faults, faults_of_body, functions_nodes, inner_body, inner_faults, nodes_read}

-- some function
pub no_function : CFunction
no_function = record {
  answer = int;
  answer_span = record { start = 0; end = 0 };
  name = record { text = []; span = record { start = 0; end = 0 }; kind = Unresolved; number = 0 };
  params = [];
  body = asm [] (record { start = 0; end = 0 }) [];
}

-- functions whose signatures stay are known as before
pub knows_same : (d : Declared) (xs ys : List Function) → map signature_view xs ≡ map signature_view ys → KnowsUnit d ys → KnowsUnit d xs
knows_same d xs ys e k = record {
  structs = k.structs;
  fields = k.fields;
  globals = k.globals;
  functions = subst (λ (l : List Signature). MapTells (λ s. s.text) d.names.now.functions l) (sym e) k.functions;
  primitives = k.primitives;
}

pub env_same : (d : Declared) (xs ys : List Function) → map signature_view xs ≡ map signature_view ys → unit_env d xs ≡ unit_env d ys
env_same d xs ys e =
    let unit : Env = unit_env d xs in
    ap (λ (l : List Signature). record { structs = unit.structs; globals = unit.globals; functions = l; primitives = unit.primitives; locals = [] }) e

signatures_done : (env : Env) (i : ℕ) (fs : List CFunction) → map signature_of (done (bodied env) i fs) ≡ map signature_of fs
signatures_done env zero fs = refl
signatures_done env (suc i) [] = refl
signatures_done env (suc i) (f ∷ fs) = ap (λ (l : List Signature). signature_of f ∷ l) (signatures_done env i fs)

-- functions whose first bodies are checked keep their signatures
pub signatures_same : (env : Env) (i : ℕ) (xs ys : List Function) → map function_view xs ≡ done (bodied env) i (map function_view ys)
    → map signature_view xs ≡ map signature_view ys
signatures_same env i xs ys e =
    sym (map-map signature_of function_view xs)
    ∙ (ap (map signature_of) e ∙ (signatures_done env i (map function_view ys) ∙ map-map signature_of function_view ys))

-- one body more is checked
pub record OneMore (env : Env) (vs new : List CFunction) (i : ℕ) (m m1 : Option Fault) (all : Option Fault) (n n1 : ℕ) : Type 0 where
  pub changed : new ≡ done (bodied env) (i + 1) vs
  pub met : kept_all m1 (bodies_faults env (rest (i + 1) vs)) ≡ all
  pub nodes : min (n1 + functions_nodes (rest (i + 1) vs)) (2 ^ 32 - 1) ≡ min (functions_nodes vs) (2 ^ 32 - 1)

capped : (n k f r all : ℕ) → k ≡ min f (2 ^ 32 - 1) → min (n + (f + r)) (2 ^ 32 - 1) ≡ all → min (min (n + k) (2 ^ 32 - 1) + r) (2 ^ 32 - 1) ≡ all
capped n k f r all e h = omega arith

pub one_more : (env given : Env) (vs xs new : List CFunction) (i : ℕ) (m m1 all : Option Fault) (n k : ℕ) → given ≡ env → i < length vs
    → xs ≡ done (bodied env) i vs
    → kept_all m (bodies_faults env (rest i vs)) ≡ all
    → min (n + functions_nodes (rest i vs)) (2 ^ 32 - 1) ≡ min (functions_nodes vs) (2 ^ 32 - 1)
    → new ≡ set xs i (bodied given (get_or xs i no_function))
    → m1 ≡ kept_all m (faults_of_body given (get_or xs i no_function))
    → k ≡ min (nodes_read (get_or xs i no_function)) (2 ^ 32 - 1)
    → OneMore env vs new i m m1 all n (min (n + k) (2 ^ 32 - 1))
one_more env given vs xs new i m m1 all n k same within so_far met nodes changed more counted =
    let f : CFunction = get_or vs i no_function in
    let r : List CFunction = rest (i + 1) vs in
    let here : get_or xs i no_function ≡ get_or vs i no_function = ap (λ (l : List CFunction). get_or l i no_function) so_far ∙ done-next (bodied env) i vs no_function in
    let left : rest i vs ≡ get_or vs i no_function ∷ rest (i + 1) vs = rest-next i vs no_function within in
    record {
      changed = changed
          ∙ (ap (λ (l : List CFunction). set l i (bodied given (get_or xs i no_function))) so_far
          ∙ (ap (λ (g : CFunction). set (done (bodied env) i vs) i (bodied given g)) here
          ∙ (ap (λ (e : Env). set (done (bodied env) i vs) i (bodied e f)) same
          ∙ done-step (bodied env) i vs no_function within)));
      met = ap (λ (o : Option Fault). kept_all o (bodies_faults env r)) (more ∙ (ap (λ (g : CFunction). kept_all m (faults_of_body given g)) here ∙ ap (λ (e : Env). kept_all m (faults_of_body e f)) same))
          ∙ (sym (kept_all-append m (faults_of_body env f) (bodies_faults env r))
          ∙ (ap (λ (l : List CFunction). kept_all m (bodies_faults env l)) (sym left) ∙ met));
      nodes = capped n k (nodes_read f) (functions_nodes r) (min (functions_nodes vs) (2 ^ 32 - 1)) (counted ∙ ap (λ (g : CFunction). min (nodes_read g) (2 ^ 32 - 1)) here)
          (ap (λ (l : List CFunction). min (n + functions_nodes l) (2 ^ 32 - 1)) (sym left) ∙ nodes);
    }

-- a function with another body
abbrev pub swapped : Function → Body → Function
swapped f b = record { answer = f.answer; answer_span = f.answer_span; name = f.name; params = f.params; body = b }

-- a function whose body is taken out keeps its signature
pub signatures_swapped : (fs : List Function) (i : ℕ) (d : Function) (b : Body)
    → map signature_view (set fs i (swapped (get_or fs i d) b)) ≡ map signature_view fs
signatures_swapped fs i d b =
    map-set signature_view fs i (swapped (get_or fs i d) b)
    ∙ (ap (set (map signature_view fs) i) (map-get_or signature_view fs i d) ∙ set-get_or (map signature_view fs) i (signature_view d))

-- the function at a place, seen
pub seen_at : (fs : List Function) (i : ℕ) (d : Function) (other : CFunction) → i < length fs
    → function_view (get_or fs i d) ≡ get_or (map function_view fs) i other
seen_at [] i d other h = absurd (omega (arith, h))
seen_at (f ∷ fs) zero d other h = refl
seen_at (f ∷ fs) (suc i) d other h = seen_at fs i d other (omega (arith, h))

-- the faults of the body that is taken out are those of the function
pub faults_swapped : (e e1 : Env) (f r : Function) (b b1 : Body) → e1 ≡ e → r ≡ swapped f b → b1 ≡ f.body
    → inner_faults e1 (function_view r).name.span (function_view r).params (ty_of (function_view r).answer) (body_view b1) ≡ faults_of_body e (function_view f)
faults_swapped e e1 f r b b1 same at body =
    ap (λ (x : Env). inner_faults x (function_view r).name.span (function_view r).params (ty_of (function_view r).answer) (body_view b1)) same
    ∙ (ap (λ (x : Function). inner_faults e (function_view x).name.span (function_view x).params (ty_of (function_view x).answer) (body_view b1)) at
    ∙ ap (λ (x : Body). inner_faults e (function_view f).name.span (function_view f).params (ty_of (function_view f).answer) (body_view x)) body)

set_twice : {A : Type 0} (xs : List A) (i : ℕ) (x y : A) → set (set xs i x) i y ≡ set xs i y
set_twice [] zero x y = refl
set_twice [] (suc i) x y = refl
set_twice (z ∷ xs) zero x y = refl
set_twice (z ∷ xs) (suc i) x y = ap (λ l. z ∷ l) (set_twice xs i x y)

-- the body that is put back
pub put_back : (e : Env) (fs : List Function) (i : ℕ) (d d1 : Function) (other : CFunction) (b b1 : Body) → i < length fs
    → body_view b1 ≡ inner_body e (function_view (get_or fs i d)).params (function_view (get_or fs i d)).body
    → map function_view (set (set fs i (swapped (get_or fs i d) b)) i (swapped (get_or (set fs i (swapped (get_or fs i d) b)) i d1) b1))
    ≡ set (map function_view fs) i (bodied e (get_or (map function_view fs) i other))
put_back e fs i d d1 other b b1 h is =
    let f : Function = get_or fs i d in
    let at : get_or (set fs i (swapped f b)) i d1 ≡ swapped f b = get_or-set_same fs i (swapped f b) d1 h in
    ap (map function_view) (set_twice fs i (swapped f b) (swapped (get_or (set fs i (swapped f b)) i d1) b1) ∙ ap (λ (x : Function). set fs i (swapped x b1)) at)
    ∙ (map-set function_view fs i (swapped f b1)
    ∙ (ap (λ (x : CBody). set (map function_view fs) i (record { answer = (function_view f).answer; answer_span = f.answer_span; name = (function_view f).name; params = (function_view f).params; body = x })) is
    ∙ ap (λ (x : CFunction). set (map function_view fs) i (bodied e x)) (seen_at fs i d other h)))

-- the body that is taken out comes to that of the function
pub body_swapped : (e e1 : Env) (f r : Function) (b b1 : Body) → e1 ≡ e → r ≡ swapped f b → b1 ≡ f.body
    → inner_body e1 (function_view r).params (body_view b1) ≡ inner_body e (function_view f).params (function_view f).body
body_swapped e e1 f r b b1 same at body =
    ap (λ (x : Env). inner_body x (function_view r).params (body_view b1)) same
    ∙ (ap (λ (x : Function). inner_body e (function_view x).params (body_view b1)) at
    ∙ ap (λ (x : Body). inner_body e (function_view f).params (body_view x)) body)
