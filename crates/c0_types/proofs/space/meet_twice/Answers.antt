-- One name more is met: that of a function, or that of a global.
use Rattle.std.proofs.Common.{◌≡◌, ◌+◌, ◌<◌, ◌-◌, ◌∷◌, length, ℕ, List, get_or, map, take, drop, is_some, true, false, sym, ap, ◌∙◌, arith}
use Rattle.std.proofs.lemmas.List.{drop_more, take_rest}
use Rattle.c0_tree.specs.Tree.{CName}
use Rattle.c0_tree.specs.declared.tree.Decl.{Decl}
use Rattle.c0_tree.specs.declared.tree.Function.{Function}
use Rattle.c0_tree.specs.View.{decl_view, function_view}
use Rattle.c0_meaning.specs.Fault.{kept_all}
use Rattle.c0_meaning.specs.Names.{unit_names}
use Rattle.c0_name_check.specs.Met.{met_view}
use Rattle.c0_name_check.specs.Names.{look}
use Rattle.c0_name_check.specs.Spaces.{twice_by}
use Rattle.c0_name_check.proofs.OneMoreDeclared.{met_step}
use Rattle.c0_types.specs.SourceOrder.{comes_next}
use Rattle.c0_types.proofs.NamesSetInTurn.{other_next, own_next, others_left, own_left, length_left}
use Rattle.c0_types.proofs.space.meet_twice.Goals as goal
use Rattle.c0_types.proofs.space.meet_twice.Goals.{then-global-globals, else-global-globals+then-function-functions}

-- the names of globals, and those of functions
abbrev global_names : List Decl → List CName
global_names globals = map (λ d. d.name) (map decl_view globals)

abbrev function_names : List Function → List CName
function_names functions = map (λ f. f.name) (map function_view functions)

-- the part of a slice from an index on is what is left there
next_of_rest : (gs : List Decl) (fs : List Function) (g f : ℕ)
    → comes_next (global_names (take (length gs - g) (drop g gs))) (function_names (take (length fs - f) (drop f fs))) ≡ comes_next (global_names (drop g gs)) (function_names (drop f fs))
next_of_rest gs fs g f =
    ap (λ (ds : List Decl). comes_next (global_names ds) (function_names (take (length fs - f) (drop f fs)))) (take_rest gs g)
    ∙ ap (λ (es : List Function). comes_next (global_names (drop g gs)) (function_names es)) (take_rest fs f)

pub loop-global-preserved-then-is_function_next : goal.loop-global-preserved-then-is_function_next
loop-global-preserved-then-is_function_next c =
    let x : Function = get_or c.args.functions.now c.loop-global.function c.index-functions-function.result in
    let globals : List Decl = drop c.loop-global.global c.args.globals.now in
    let rest : List Function = drop (c.loop-global.function + 1) c.args.functions.now in
    let tested : c.is_function_next.result ≡ comes_next (global_names (drop c.loop-global.global c.args.globals.now)) (function_names (drop c.loop-global.function c.args.functions.now)) =
    c.is_function_next.ensures ∙ next_of_rest c.args.globals.now c.args.functions.now c.loop-global.global c.loop-global.function in
    let some : 0 < length (function_names (drop c.loop-global.function c.args.functions.now)) = others_left _ _ (sym tested ∙ c.if-is_function_next.true) in
    let within : c.loop-global.function < length c.args.functions.now = omega (arith, some, length_left function_view (λ f. f.name) c.args.functions.now c.loop-global.function) in
    let left : drop c.loop-global.function c.args.functions.now ≡ x ∷ rest =
    drop_more c.args.functions.now c.loop-global.function c.index-functions-function.result within in
    let next : comes_next (global_names globals) (function_names (x ∷ rest)) ≡ true =
    ap (λ fs. comes_next (global_names globals) (function_names fs)) (sym left) ∙ (sym tested ∙ c.if-is_function_next.true) in
    let order : unit_names (map decl_view globals) (map function_view (drop c.loop-global.function c.args.functions.now)) ≡ (function_view x).name ∷ unit_names (map decl_view globals) (map function_view rest) =
    ap (λ fs. unit_names (map decl_view globals) (map function_view fs)) left
    ∙ other_next (global_names globals) (function_view x).name (function_names rest) next in
    record {
      globals = c.loop-global.invariant.globals;
      functions = omega (arith, within);
      met = met_step (look c.loop-global.space) (look c.declare.new.names) (function_view x).name (unit_names (map decl_view globals) (map function_view rest)) 0 (met_view c.loop-global.least) (met_view c.declare.new.least)
          c.in_ok-declare.ensures.names c.in_ok-declare.ensures.met
          ∙ (ap (λ names. kept_all (met_view c.loop-global.least) (twice_by (λ q. is_some (look c.loop-global.space q)) names)) (sym order) ∙ c.loop-global.invariant.met);
    }

pub loop-global-preserved : goal.loop-global-preserved
loop-global-preserved c =
    let x : Decl = get_or c.args.globals.now c.loop-global.global c.index-globals-global.result in
    let functions : List Function = drop c.loop-global.function c.args.functions.now in
    let rest : List Decl = drop (c.loop-global.global + 1) c.args.globals.now in
    let tested : c.is_function_next.result ≡ comes_next (global_names (drop c.loop-global.global c.args.globals.now)) (function_names (drop c.loop-global.function c.args.functions.now)) =
    c.is_function_next.ensures ∙ next_of_rest c.args.globals.now c.args.functions.now c.loop-global.global c.loop-global.function in
    let within : c.loop-global.global < length c.args.globals.now =
    elim c.if-global-globals.branch [
      | then-global-globals w ↦ w.if-global-globals.true
      | else-global-globals+then-function-functions w ↦
          let count : length (function_names (drop c.loop-global.function c.args.functions.now)) ≡ length c.args.functions.now - c.loop-global.function =
          length_left function_view (λ f. f.name) c.args.functions.now c.loop-global.function in
          let some : 0 < length (global_names (drop c.loop-global.global c.args.globals.now)) =
          own_left _ (function_names (drop c.loop-global.function c.args.functions.now)) (sym tested ∙ c.if-is_function_next.false) (omega (arith, count, w.if-function-functions.true)) in
          omega (arith, some, length_left decl_view (λ d. d.name) c.args.globals.now c.loop-global.global)
    ] in
    let left : drop c.loop-global.global c.args.globals.now ≡ x ∷ rest =
    drop_more c.args.globals.now c.loop-global.global c.index-globals-global.result within in
    let next : comes_next (global_names (x ∷ rest)) (function_names functions) ≡ false =
    ap (λ ds. comes_next (global_names ds) (function_names functions)) (sym left) ∙ (sym tested ∙ c.if-is_function_next.false) in
    let order : unit_names (map decl_view (drop c.loop-global.global c.args.globals.now)) (map function_view functions) ≡ (decl_view x).name ∷ unit_names (map decl_view rest) (map function_view functions) =
    ap (λ ds. unit_names (map decl_view ds) (map function_view functions)) left
    ∙ own_next (decl_view x).name (global_names rest) (function_names functions) next in
    record {
      globals = omega (arith, within);
      functions = c.loop-global.invariant.functions;
      met = met_step (look c.loop-global.space) (look c.declare-else-is_function_next.new.names) (decl_view x).name (unit_names (map decl_view rest) (map function_view functions)) 0 (met_view c.loop-global.least) (met_view c.declare-else-is_function_next.new.least)
          c.in_ok-declare-2.ensures.names c.in_ok-declare-2.ensures.met
          ∙ (ap (λ names. kept_all (met_view c.loop-global.least) (twice_by (λ q. is_some (look c.loop-global.space q)) names)) (sym order) ∙ c.loop-global.invariant.met);
    }
