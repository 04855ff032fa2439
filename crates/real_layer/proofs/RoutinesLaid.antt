-- Routines that are laid one after another: what is laid in two parts is laid in one, and all of a layer's routines with their jumps are the
-- entries and the code behind them.
use Rattle.std.proofs.Common.{◌≡◌, ℕ, ◌+◌, List, [], ◌∷◌, ◌++◌, length, map, refl, sym, ap, ◌∙◌, append_assoc, add-zero, ◌%◌, ◌^◌, arith, length-append, OnOk, Result, Ok, Err}
use Rattle.std.proofs.lemmas.List.{length-map, map-append}
use Rattle.mips_table.specs.declared.inst.Inst.{Inst}
use Rattle.mips_table.specs.declared.inst.Inst.TheVariants.{J}
use Rattle.mips_table.specs.Encoding.{encoding}
use Rattle.layer_map.specs.Map.{Map}
use Rattle.real_layer.specs.declared.routines.Routines.{Routines}
use Rattle.page_model.specs.TableLayout.{table_layout}
use Rattle.trap_entry.specs.Code.{act_on_answer_code, exit_with_code}
use Rattle.cvm_primitives.specs.RegisterCode.{vm_get_code, vm_set_code, vm_size_code, con_put_code, con_get_code, con_left_code}
use Rattle.real_layer.specs.Image.{returning, code_joined, entries, entries_end, routines}
use Rattle.real_layer.specs.Laid.{jumps_from, Lays, memory_routines}

joined-append : (xs ys : List (List Inst)) → code_joined (xs ++ ys) ≡ code_joined xs ++ code_joined ys
joined-append [] ys = refl
joined-append (is ∷ xs) ys = ap (λ l. is ++ l) (joined-append xs ys) ∙ sym (append_assoc is (code_joined xs) (code_joined ys))

jumps-append : (n : ℕ) (xs ys : List (List Inst)) → jumps_from n (xs ++ ys) ≡ jumps_from n xs ++ jumps_from (n + length (code_joined xs)) ys
jumps-append n [] ys = ap (λ k. jumps_from k ys) (sym (add-zero n))
jumps-append n (is ∷ xs) ys =
    let far : n + length is + length (code_joined xs) ≡ n + length (is ++ code_joined xs) = omega (arith, length-append is (code_joined xs)) in
    ap (λ l. J ((entries_end + n) % 2 ^ 26) ∷ l) (jumps-append (n + length is) xs ys ∙ ap (λ k. jumps_from (n + length is) xs ++ jumps_from k ys) far)

pub lays_more : (a b c : Routines) (xs ys : List (List Inst)) → Lays a b xs → Lays b c ys → Lays a c (xs ++ ys)
lays_more a b c xs ys p q =
    let far : length b.words.items ≡ length a.words.items + length (code_joined xs) =
    ap length p.words ∙ length-append a.words.items (map encoding (code_joined xs)) ∙ ap (λ k. length a.words.items + k) (length-map (code_joined xs) encoding) in
    let jumps : jumps_from (length a.words.items) (xs ++ ys) ≡ jumps_from (length a.words.items) xs ++ jumps_from (length b.words.items) ys =
    jumps-append (length a.words.items) xs ys ∙ ap (λ k. jumps_from (length a.words.items) xs ++ jumps_from k ys) (sym far) in
    let x = map encoding (jumps_from (length a.words.items) xs) in
    let y = map encoding (jumps_from (length b.words.items) ys) in
    record {
      entries = q.entries ∙ ap (λ l. l ++ y) p.entries ∙ append_assoc a.entries.items x y
          ∙ ap (λ l. a.entries.items ++ l) (sym (ap (map encoding) jumps ∙ map-append encoding (jumps_from (length a.words.items) xs) (jumps_from (length b.words.items) ys)));
      words = q.words ∙ ap (λ l. l ++ map encoding (code_joined ys)) p.words ∙ append_assoc a.words.items (map encoding (code_joined xs)) (map encoding (code_joined ys))
          ∙ ap (λ l. a.words.items ++ l) (sym (ap (map encoding) (joined-append xs ys) ∙ map-append encoding (code_joined xs) (code_joined ys)));
    }

-- the jumps to a layer's routines are its entries
jumps_are_entries : (m : Map) → jumps_from 0 (routines m) ≡ entries m
unfolding routines
jumps_are_entries m = refl

pub all_entries : (a b : Routines) (m : Map) → a.entries.items ≡ [] → a.words.items ≡ [] → Lays a b (routines m) → b.entries.items ≡ map encoding (entries m)
all_entries a b m e w p = p.entries ∙ ap (λ l. l ++ map encoding (jumps_from (length a.words.items) (routines m))) e
    ∙ ap (λ l. map encoding (jumps_from (length l) (routines m))) w ∙ ap (map encoding) (jumps_are_entries m)

pub all_words : (a b : Routines) (m : Map) → a.words.items ≡ [] → Lays a b (routines m) → b.words.items ≡ map encoding (code_joined (routines m))
all_words a b m w p = p.words ∙ ap (λ l. l ++ map encoding (code_joined (routines m))) w

pub on_ok : {T E : Type 0} (r : Result T E) (P Q : Type 0) → (P → Q) → OnOk r P → OnOk r Q
on_ok (Ok x) P Q f p = f p
on_ok (Err e) P Q f p = p

-- the groups of routines, one behind the other, are all routines
pub all_laid : (a b c d e f : Routines) (m : Map) → Lays a b (returning (vm_get_code m.users) ∷ returning (vm_set_code m.users) ∷ returning (vm_size_code m.users) ∷ [])
    → Lays b c (memory_routines m) → Lays c d (returning con_put_code ∷ returning con_get_code ∷ returning con_left_code ∷ [])
    → Lays d e (exit_with_code 1 ∷ exit_with_code 2 ∷ exit_with_code 3 ∷ exit_with_code 4 ∷ []) → Lays e f (act_on_answer_code (table_layout m) m.users m.params.pages ∷ []) → Lays a f (routines m)
unfolding routines
all_laid a b c d e f m p q r s t =
    lays_more a b f (returning (vm_get_code m.users) ∷ returning (vm_set_code m.users) ∷ returning (vm_size_code m.users) ∷ []) _ p
    (lays_more b c f (memory_routines m) _ q
    (lays_more c d f (returning con_put_code ∷ returning con_get_code ∷ returning con_left_code ∷ []) _ r
    (lays_more d e f (exit_with_code 1 ∷ exit_with_code 2 ∷ exit_with_code 3 ∷ exit_with_code 4 ∷ []) (act_on_answer_code (table_layout m) m.users m.params.pages ∷ []) s t)))

-- four parts, appended one after the other
pub four_parts : (u v w x y a b c d : List ℕ) → u ≡ [] → v ≡ u ++ a → w ≡ v ++ b → x ≡ w ++ c → y ≡ x ++ d → y ≡ a ++ (b ++ (c ++ d))
four_parts u v w x y a b c d e p q r s =
    s ∙ ap (λ l. l ++ d) (r ∙ ap (λ l. l ++ c) (q ∙ ap (λ l. l ++ b) (p ∙ ap (λ l. l ++ a) e)))
    ∙ append_assoc (a ++ b) c d ∙ append_assoc a b (c ++ d)
