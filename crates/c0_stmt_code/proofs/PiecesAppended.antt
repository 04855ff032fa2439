-- Code that a loop appends piece by piece: what stands, and what is to come, are all that is to stand.
use Rattle.std.proofs.Common.{◌≡◌, Bool, ℕ, suc, ◌+◌, ◌-◌, ◌<◌, List, [], ◌∷◌, ◌++◌, drop, map, sym, ap, ◌∙◌, arith, add-one, append_assoc, OnOk, Result, Ok, Err}
use Rattle.std.proofs.lemmas.List.{map-append}
use Rattle.mips_table.specs.declared.inst.Inst.{Inst}
use Rattle.mips_table.specs.declared.inst.Inst.TheVariants.{Sw}
use Rattle.mips_table.specs.Encoding.{encoding}
use Rattle.masm.specs.declared.registers.TheConstants.{EXPRESSIONS, SCRATCH}
use Rattle.c0_typed.specs.declared.tree.TypedExpr.{TypedExpr}
use Rattle.c0_typed.specs.View.{typed_expr_view}
use Rattle.c0_expr_code.specs.Facts.{overwritten}
use Rattle.c0_stmt_code.specs.TypedCode.{typed_args, typed_value}
use Rattle.c0_expr_code.specs.Code.{access_code, register_of_variable}
use Rattle.c0_expr_code.specs.FrameSetting.{FrameSetting, with_facts}
use Rattle.c0_stmt_code.specs.Code.{clear_code, clear_one, frame_slot, params_code, zero_code, zeros_code}

-- a piece of code is appended, and the rest is to come
pub appended : (old mid z : List ℕ) (whole piece rest : List Inst) → whole ≡ piece ++ rest → mid ≡ old ++ map encoding piece
    → old ++ map encoding whole ≡ z → mid ++ map encoding rest ≡ z
appended old mid z whole piece rest w m h =
    ap (λ (l : List ℕ). l ++ map encoding rest) m ∙ append_assoc old (map encoding piece) (map encoding rest)
    ∙ ap (λ (l : List ℕ). old ++ l) (sym (map-append encoding piece rest) ∙ ap (map encoding) (sym w)) ∙ h

-- one of the rest is next
one_less : (n i : ℕ) → i < n → n - i ≡ suc (n - (i + 1))
one_less n i h = omega (arith, h)

-- the stores of arguments to the frame
pub params_next : (st : FrameSetting) (n i : ℕ) → i < n
    → params_code st (n - i) i ≡ access_code (λ b k. Sw (register_of_variable i) b k) SCRATCH (frame_slot st (3 + i)) ++ params_code st (n - (i + 1)) (i + 1)
params_next st n i h =
    ap (λ (k : ℕ). params_code st k i) (one_less n i h)
    ∙ ap (λ (j : ℕ). access_code (λ b k. Sw (register_of_variable i) b k) SCRATCH (frame_slot st (3 + i)) ++ params_code st (n - (i + 1)) j) (sym (add-one i))

-- the stores of 0 to words of the frame
pub zeros_next : (st : FrameSetting) (cleared : ℕ → Bool) (n first i : ℕ) → i < n
    → zeros_code st cleared (n - i) (first + i) ≡ zero_code st (cleared (first + i)) (first + i) ++ zeros_code st cleared (n - (i + 1)) (first + (i + 1))
zeros_next st cleared n first i h =
    let e : suc (first + i) ≡ first + (i + 1) = omega arith in
    ap (λ (k : ℕ). zeros_code st cleared k (first + i)) (one_less n i h)
    ∙ ap (λ (j : ℕ). zero_code st (cleared (first + i)) (first + i) ++ zeros_code st cleared (n - (i + 1)) j) e

-- the registers of variables that become 0
pub clear_next : (cleared : ℕ → Bool) (n first i : ℕ) → i < n
    → clear_code cleared (n - i) (first + i) ≡ clear_one (cleared (first + i)) (first + i) ++ clear_code cleared (n - (i + 1)) (first + (i + 1))
clear_next cleared n first i h =
    let e : suc (first + i) ≡ first + (i + 1) = omega arith in
    ap (λ (k : ℕ). clear_code cleared k (first + i)) (one_less n i h)
    ∙ ap (λ (j : ℕ). clear_one (cleared (first + i)) (first + i) ++ clear_code cleared (n - (i + 1)) j) e

-- code, an instruction and code behind them, unless memory was wanting
pub three_appended : {A E : Type 0} (old a b new : List ℕ) (first last : List Inst) (i : Inst) (r : Result A E) → a ≡ old ++ map encoding first → b ≡ a ++ encoding i ∷ [] → OnOk r (new ≡ b ++ map encoding last)
    → OnOk r (new ≡ old ++ map encoding (first ++ (i ∷ last)))
three_appended old a b new first last i (Ok x) e f h =
    h ∙ ap (λ (l : List ℕ). l ++ map encoding last) (f ∙ ap (λ (l : List ℕ). l ++ encoding i ∷ []) e ∙ append_assoc old (map encoding first) (encoding i ∷ []))
    ∙ append_assoc old (map encoding first ++ encoding i ∷ []) (map encoding last)
    ∙ ap (λ (l : List ℕ). old ++ l) (append_assoc (map encoding first) (encoding i ∷ []) (map encoding last) ∙ sym (map-append encoding first (i ∷ last)))
three_appended old a b new first last i (Err x) e f h = tt

-- three pieces, one behind the other, unless memory was wanting
pub pieces_appended : {A E : Type 0} (old a b new : List ℕ) (first second last : List Inst) (r : Result A E) → a ≡ old ++ map encoding first → b ≡ a ++ map encoding second → OnOk r (new ≡ b ++ map encoding last)
    → OnOk r (new ≡ old ++ map encoding (first ++ (second ++ last)))
pieces_appended old a b new first second last (Ok x) e f h =
    h ∙ ap (λ (l : List ℕ). l ++ map encoding last) (f ∙ ap (λ (l : List ℕ). l ++ map encoding second) e ∙ append_assoc old (map encoding first) (map encoding second))
    ∙ append_assoc old (map encoding first ++ map encoding second) (map encoding last)
    ∙ ap (λ (l : List ℕ). old ++ l) (append_assoc (map encoding first) (map encoding second) (map encoding last)
    ∙ ap (λ (l : List ℕ). map encoding first ++ l) (sym (map-append encoding second last)) ∙ sym (map-append encoding first (second ++ last)))
pieces_appended old a b new first second last (Err x) e f h = tt

-- the first of arguments that are left, and the others
pub args_next : (st : FrameSetting) (xs : List TypedExpr) (i : ℕ) (e : TypedExpr) → drop i xs ≡ e ∷ drop (i + 1) xs
    → typed_args st (map typed_expr_view (drop i xs)) i ≡ typed_value st (typed_expr_view e) (register_of_variable i) EXPRESSIONS ++ typed_args (with_facts st (overwritten st.facts i)) (map typed_expr_view (drop (i + 1) xs)) (i + 1)
args_next st xs i e h =
    ap (λ (l : List TypedExpr). typed_args st (map typed_expr_view l) i) h
    ∙ ap (λ (j : ℕ). typed_value st (typed_expr_view e) (register_of_variable i) EXPRESSIONS ++ typed_args (with_facts st (overwritten st.facts i)) (map typed_expr_view (drop (i + 1) xs)) j) (sym (add-one i))
