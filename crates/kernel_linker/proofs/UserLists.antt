-- What holds of lists of users, and of the nodes of a unit.
use Rattle.std.proofs.Common.{◌≡◌, ℕ, ◌+◌, ◌*◌, ◌/◌, ◌<◌, ◌≤◌, min, List, [], sym, length, map, ap, subst, arith, get_or, drop}
use Rattle.std.proofs.lemmas.List.{get_or-map, length-map, drop_more}
use Rattle.std.specs.List.{All}
use Rattle.c0_tree.specs.declared.tree.Decl.{Decl}
use Rattle.c0_tree.specs.Tree.{CDecl, CUnit}
use Rattle.c0_tree.specs.View.{decl_view, type_view}
use Rattle.c0_meaning.specs.Ty.{ty_of}
use Rattle.c0_meaning.specs.Env.{Shape, typed_of}
use Rattle.c0_meaning.specs.Words.{words, all_words}
use Rattle.c0_meaning.specs.Limits.{all_nodes}
use Rattle.c0_meaning.specs.Sound.{IsSized, global_words}
use Rattle.c0_meaning.specs.Typed.{UnitsAreFaultless}
use Rattle.c0_meaning.specs.Unit.{IsWellFormed}
use Rattle.c0_tree.specs.Primitives.{CPrimitive}
use Rattle.boot_image.specs.Format.{most_user_words}
use Rattle.kernel_linker.specs.Linked.{pages_for, sizes_of}

-- what holds of all that is seen of a list holds of what is seen of an element
pub all_at : {A B : Type 0} (P : B → Type 0) (f : A → B) (xs : List A) (i : ℕ) (d : A) → All P (map f xs) → i < length xs → P (f (get_or xs i d))
all_at P f xs i d h below =
    let len : length (map f xs) ≡ length xs = length-map xs f in
    subst P (get_or-map f xs i d (f d) below) (h i (f d) (omega arith))

-- the functions of a well formed unit have few nodes
pub few_nodes : UnitsAreFaultless → (primitives : List CPrimitive) (u : CUnit) → IsWellFormed primitives u → all_nodes u.functions ≤ 100000
few_nodes law primitives u w = ((law primitives u).1 w.typed).nodes

-- a user of few words has few pages
few_pages : (words pages : ℕ) → words ≤ min 65536 (1024 * pages) → pages_for words ≤ pages
few_pages words pages h = omega arith

-- users that are short have few pages
pub sizes_fit : (pages : ℕ) (users : List (List ℕ)) → All (λ u. length u ≤ most_user_words pages) users → All (λ n. n ≤ pages) (sizes_of users)
sizes_fit pages users h = λ i d below.
    let len : length (sizes_of users) ≡ length users = length-map users (λ (u : List ℕ). pages_for (length u)) in
    let there : i < length users = omega arith in
    let e = get_or-map (λ (u : List ℕ). pages_for (length u)) users i [] d there in
    subst (λ (n : ℕ). n ≤ pages) (sym e) (few_pages (length (get_or users i [])) pages (h i [] there))
