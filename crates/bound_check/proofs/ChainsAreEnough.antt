-- What is read off is the answer; and the words of the longest chain are enough stack.
use Rattle.std.proofs.Common.{◌≡◌, inl, inr, ℕ, ◌+◌, ◌≤◌, ◌&&◌, true, List, [], ◌∷◌, ◌++◌, Option, Some, refl, sym, ap, ◌∙◌, subst, arith}
use Rattle.std.specs.Prelude.{◌==◌, slice_get}
use Rattle.std.proofs.lemmas.Bool.{or_cases}
use Rattle.std.proofs.lemmas.Bool.Decides.{nat_tests}
use Rattle.c0_tree.specs.declared.tree.Kind.{Kind}
use Rattle.c0_tree.specs.declared.tree.Kind.TheVariants.{Unresolved, Struct, Field, Global, Local, Function, Primitive}
use Rattle.c0_tree.specs.Tree.{CStmt, assign, call, new, choice, loop, CStmts, done, next, CBody, code, asm, CFunction, CUnit}
use Rattle.c0_meaning.specs.CallChain.{is_function, is_called_in, is_called_among, is_called_by, AreChained, chain_words, dispatch_number, frame_at, IsEnoughStack}
use Rattle.cvm_model.specs.StackRoom.{EnoughStackIsKept}
use Rattle.bound_check.specs.Kept.{LongestIsKept}
use Rattle.bound_check.specs.declared.marks.Mark.{Mark}
use Rattle.bound_check.specs.declared.marks.Mark.TheVariants.{Ends, Loops}
use Rattle.c0_struct_sizes.specs.Graph.{IsIn}
use Rattle.bound_check.specs.Graph.{IsPath, IsPathFrom, weight, IsAtMost}
use Rattle.bound_check.specs.Calls.{callee, called_in, called_among, called_by, called_from, callees}
use Rattle.bound_check.specs.Chains.{IsLongest, IsLeastLoop, LongestIsEnough}
use Rattle.bound_check.specs.Reading.{IsBest, IsGreedy, BeginsWith, IsRoundTrip}
use Rattle.bound_check.specs.Marks.{mark_of, IsToldOf}
use Rattle.c0_struct_sizes.proofs.WaysThroughGraphs.{in_left, in_right}
use Rattle.bound_check.proofs.MarksTell.{path_weight, no_loop, all_loop}
use Rattle.bound_check.proofs.LoopingPaths.{path_from, least_loop}

module _ (u : CUnit) (marks : List Mark) (t : IsToldOf u marks) where
  pub longest : (n : ℕ) (functions : List ℕ) → mark_of marks (dispatch_number u) ≡ Ends n → IsBest (callees u) (frame_at u) (dispatch_number u) n functions → IsLongest u n functions
  longest n functions e best = record {
    none_loops = λ others l. no_loop (callees u) (frame_at u) marks t.told (dispatch_number u) n e l.before l.last (subst (IsPathFrom (callees u) (dispatch_number u)) l.ends l.chain) l.again;
    chain = best.from;
    words_are = sym best.weighs;
    most = λ others p. path_weight (callees u) (frame_at u) marks t.told (dispatch_number u) n e others p;
    least = best.least;
  }

  pub looping : (functions : List ℕ) → mark_of marks (dispatch_number u) ≡ Loops → IsRoundTrip (callees u) marks (dispatch_number u) functions → IsLeastLoop u functions
  looping functions e r = record {
    looping = record {
      chain = path_from (callees u) marks (dispatch_number u) functions r.greedy r.begins;
      before = r.before;
      last = r.last;
      ends = r.ends;
      distinct = r.distinct;
      again = r.again;
    };
    least = λ others l.
        let path : IsPathFrom (callees u) (dispatch_number u) (l.before ++ l.last ∷ []) = subst (IsPathFrom (callees u) (dispatch_number u)) l.ends l.chain in
        subst (λ (xs : List ℕ). IsAtMost xs others) (sym r.ends)
        (subst (λ (ys : List ℕ). IsAtMost (r.before ++ r.last ∷ []) ys) (sym l.ends)
        (least_loop (callees u) marks (dispatch_number u) r.before l.before r.last l.last r.distinct
        (subst (λ (xs : List ℕ). IsGreedy (callees u) marks xs) r.ends r.greedy) (subst (λ (xs : List ℕ). BeginsWith (dispatch_number u) xs) r.ends r.begins) path l.again
        (λ w h. all_loop (callees u) (frame_at u) marks t.told (dispatch_number u) e l.before l.last path l.again w h)));
  }

-- who is called in a body is one of its callees
equals : (m n : ℕ) → (m == n) ≡ true → m ≡ n
equals m n h = grind (arith, nat_tests)

callee_in : (k : Kind) (m n : ℕ) → is_function k && (m == n) ≡ true → IsIn (callee k m) n
callee_in Function m n h = inl (equals m n h)
callee_in Unresolved m n h = absurd (cc)
callee_in Struct m n h = absurd (cc)
callee_in Field m n h = absurd (cc)
callee_in Global m n h = absurd (cc)
callee_in Local m n h = absurd (cc)
callee_in Primitive m n h = absurd (cc)

mutual
  stmt_in : (s : CStmt) (n : ℕ) → is_called_in s n ≡ true → IsIn (called_in s) n
  stmt_in (assign span place value) n h = absurd (cc)
  stmt_in (call span place call_span f args) n h = callee_in f.kind f.number n h
  stmt_in (new span place t ty_span) n h = absurd (cc)
  stmt_in (choice span test a b) n h =
      elim (or_cases (is_called_among a n) (is_called_among b n) h) [
        | inl x ↦ in_left (called_among a) (called_among b) n (among_in a n x)
        | inr y ↦ in_right (called_among a) (called_among b) n (among_in b n y)
      ]
  stmt_in (loop span test b) n h = among_in b n h

  among_in : (ss : CStmts) (n : ℕ) → is_called_among ss n ≡ true → IsIn (called_among ss) n
  among_in done n h = absurd (cc)
  among_in (next s rest) n h =
      elim (or_cases (is_called_in s n) (is_called_among rest n) h) [
        | inl x ↦ in_left (called_in s) (called_among rest) n (stmt_in s n x)
        | inr y ↦ in_right (called_in s) (called_among rest) n (among_in rest n y)
      ]

body_in : (b : CBody) (n : ℕ) → is_called_by b n ≡ true → IsIn (called_by b) n
body_in (code locals stmts answer) n h = among_in stmts n h
body_in (asm text span ws) n h = absurd (cc)

-- a chain with the newest first, turned round
turned : List ℕ → List ℕ
turned [] = []
turned (n ∷ rest) = turned rest ++ n ∷ []

path_more : (edges : ℕ → List ℕ) (xs : List ℕ) (c n : ℕ) → IsPath edges (xs ++ c ∷ []) → IsIn (edges c) n → IsPath edges ((xs ++ c ∷ []) ++ n ∷ [])
path_more edges [] c n p h = (h, tt)
path_more edges (x ∷ []) c n p h = (p.0, path_more edges [] c n p.1 h)
path_more edges (x ∷ y ∷ xs) c n p h = (p.0, path_more edges (y ∷ xs) c n p.1 h)

from_more : (edges : ℕ → List ℕ) (v : ℕ) (xs : List ℕ) (c n : ℕ) → IsPathFrom edges v (xs ++ c ∷ []) → IsIn (edges c) n → IsPathFrom edges v ((xs ++ c ∷ []) ++ n ∷ [])
from_more edges v [] c n p h = (p.0, path_more edges [] c n p.1 h)
from_more edges v (x ∷ xs) c n p h = (p.0, path_more edges (x ∷ xs) c n p.1 h)

weight_more : (frame : ℕ → ℕ) (xs : List ℕ) (n : ℕ) → weight frame (xs ++ n ∷ []) ≡ frame n + weight frame xs
weight_more frame [] n = refl
weight_more frame (x ∷ xs) n = let e : weight frame (xs ++ n ∷ []) ≡ frame n + weight frame xs = weight_more frame xs n in omega arith

module _ (u : CUnit) where
  callee_of : (c n : ℕ) (f : CFunction) → slice_get u.functions c ≡ Some f → is_called_by f.body n ≡ true → IsIn (callees u c) n
  callee_of c n f e h = subst (λ (o : Option CFunction). IsIn (called_from o) n) (sym e) (body_in f.body n h)

  turned_path : (n : ℕ) (rest : List ℕ) → AreChained u (dispatch_number u) (n ∷ rest) → IsPathFrom (callees u) (dispatch_number u) (turned (n ∷ rest))
  unfolding turned
  turned_path n [] h = (h.0, tt)
  turned_path n (c ∷ rest) h = from_more (callees u) (dispatch_number u) (turned rest) c n (turned_path c rest h.1) (callee_of c n h.0.0 h.0.1 h.0.2)

  turned_weight : (ns : List ℕ) → weight (frame_at u) (turned ns) ≡ chain_words u ns
  unfolding turned
  turned_weight [] = refl
  turned_weight (n ∷ rest) = weight_more (frame_at u) (turned rest) n ∙ ap (λ (k : ℕ). frame_at u n + k) (turned_weight rest)

  pub enough : (words : ℕ) (functions : List ℕ) → IsLongest u words functions → IsEnoughStack u words
  enough words functions l [] h = omega arith
  enough words functions l (n ∷ rest) h =
      let le : weight (frame_at u) (turned (n ∷ rest)) ≤ words = l.most (turned (n ∷ rest)) (turned_path n rest h) in
      let same : weight (frame_at u) (turned (n ∷ rest)) ≡ chain_words u (n ∷ rest) = turned_weight (n ∷ rest) in
      subst (λ (k : ℕ). k ≤ words) same le

pub longest_is_enough : LongestIsEnough
longest_is_enough u words functions l = enough u words functions l

-- a stack with room for more
pub kept : EnoughStackIsKept → LongestIsKept
kept law u words functions y l same room =
    law u y same (λ chain h. let le : chain_words u chain ≤ words = enough u words functions l chain h in omega arith)
