-- Words of a command by their places: lists of two to six, and of four and more.
use Rattle.std.proofs.Common.{◌≡◌, ◌<◌, ◌≤◌, ◌∙◌, sym, List, [], ◌∷◌, length, get_or, ap, arith, ◌-◌, take, drop}
use Rattle.std.specs.Prelude.{string_bytes}
use Rattle.std.specs.declared.string.String.{String}
use Rattle.std.specs.declared.alloc.Global.{Global}
use Rattle.run_scripts.specs.Command.{word_texts}
use Rattle.std.proofs.lemmas.List.{take_all}

three : {A : Type 0} (xs : List A) (a b c : A) → length xs ≡ 3 → a ≡ get_or xs 0 a → b ≡ get_or xs 1 b → c ≡ get_or xs 2 c → xs ≡ a ∷ b ∷ c ∷ []
three [] a b c l p q r = absurd (omega arith)
three (v ∷ []) a b c l p q r = absurd (omega arith)
three (v ∷ w ∷ []) a b c l p q r = absurd (omega arith)
three (v ∷ w ∷ x ∷ []) a b c l p q r = cc
three (v ∷ w ∷ x ∷ y ∷ rest) a b c l p q r = absurd (omega arith)

-- three words behind a slice, as texts
pub three_texts : (xs slice : List (String Global)) (a b c : String Global) → slice ≡ xs → 3 ≤ length slice → length slice < 4
    → a ≡ get_or slice 0 a → b ≡ get_or slice 1 b → c ≡ get_or slice 2 c → word_texts xs ≡ string_bytes a ∷ string_bytes b ∷ string_bytes c ∷ []
three_texts xs slice a b c same low high p q r = ap word_texts (sym same ∙ three slice a b c (omega arith) p q r)

two : {A : Type 0} (xs : List A) (a b : A) → length xs ≡ 2 → a ≡ get_or xs 0 a → b ≡ get_or xs 1 b → xs ≡ a ∷ b ∷ []
two [] a b l p q = absurd (omega arith)
two (v ∷ []) a b l p q = absurd (omega arith)
two (v ∷ w ∷ []) a b l p q = cc
two (v ∷ w ∷ x ∷ rest) a b l p q = absurd (omega arith)

-- two words behind a slice, as texts
pub two_texts : (xs slice : List (String Global)) (a b : String Global) → slice ≡ xs → 2 ≤ length slice → length slice < 3
    → a ≡ get_or slice 0 a → b ≡ get_or slice 1 b → word_texts xs ≡ string_bytes a ∷ string_bytes b ∷ []
two_texts xs slice a b same low high p q = ap word_texts (sym same ∙ two slice a b (omega arith) p q)

pub four : {A : Type 0} (xs : List A) (a b c d : A) → length xs ≡ 4 → a ≡ get_or xs 0 a → b ≡ get_or xs 1 b → c ≡ get_or xs 2 c → d ≡ get_or xs 3 d → xs ≡ a ∷ b ∷ c ∷ d ∷ []
four [] a b c d l p q r s = absurd (omega arith)
four (v ∷ []) a b c d l p q r s = absurd (omega arith)
four (v ∷ w ∷ []) a b c d l p q r s = absurd (omega arith)
four (v ∷ w ∷ x ∷ []) a b c d l p q r s = absurd (omega arith)
four (v ∷ w ∷ x ∷ y ∷ []) a b c d l p q r s = cc
four (v ∷ w ∷ x ∷ y ∷ z ∷ rest) a b c d l p q r s = absurd (omega arith)

-- four words behind a slice, as texts
pub four_texts : (xs slice : List (String Global)) (a b c d : String Global) → slice ≡ xs → 4 ≤ length slice → length slice < 5
    → a ≡ get_or slice 0 a → b ≡ get_or slice 1 b → c ≡ get_or slice 2 c → d ≡ get_or slice 3 d
    → word_texts xs ≡ string_bytes a ∷ string_bytes b ∷ string_bytes c ∷ string_bytes d ∷ []
four_texts xs slice a b c d same low high p q r s = ap word_texts (sym same ∙ four slice a b c d (omega arith) p q r s)

-- and those behind them
more : {A : Type 0} (xs rest : List A) (a b c d : A) → 4 ≤ length xs → a ≡ get_or xs 0 a → b ≡ get_or xs 1 b → c ≡ get_or xs 2 c → d ≡ get_or xs 3 d → rest ≡ take (length xs - 4) (drop 4 xs)
    → xs ≡ a ∷ b ∷ c ∷ d ∷ rest
more [] rest a b c d l p q r s e = absurd (omega (arith, l))
more (v ∷ []) rest a b c d l p q r s e = absurd (omega (arith, l))
more (v ∷ w ∷ []) rest a b c d l p q r s e = absurd (omega (arith, l))
more (v ∷ w ∷ x ∷ []) rest a b c d l p q r s e = absurd (omega (arith, l))
more (v ∷ w ∷ x ∷ y ∷ ys) rest a b c d l p q r s e =
    let all : rest ≡ ys = e ∙ take_all (length (v ∷ w ∷ x ∷ y ∷ ys) - 4) ys (omega arith) in
    cc

-- four words and more behind a slice, as texts
pub more_texts : (xs slice rest : List (String Global)) (a b c d : String Global) → slice ≡ xs → 4 ≤ length slice
    → a ≡ get_or slice 0 a → b ≡ get_or slice 1 b → c ≡ get_or slice 2 c → d ≡ get_or slice 3 d → rest ≡ take (length slice - 4) (drop 4 slice)
    → word_texts xs ≡ string_bytes a ∷ string_bytes b ∷ string_bytes c ∷ string_bytes d ∷ word_texts rest
more_texts xs slice rest a b c d same low p q r s e = ap word_texts (sym same ∙ more slice rest a b c d low p q r s e)

pub five : {A : Type 0} (xs : List A) (a b c d e : A) → length xs ≡ 5 → a ≡ get_or xs 0 a → b ≡ get_or xs 1 b → c ≡ get_or xs 2 c → d ≡ get_or xs 3 d → e ≡ get_or xs 4 e → xs ≡ a ∷ b ∷ c ∷ d ∷ e ∷ []
five [] a b c d e l p q r s t = absurd (omega arith)
five (v ∷ rest) a b c d e l p q r s t = let tail : rest ≡ b ∷ c ∷ d ∷ e ∷ [] = four rest b c d e (omega arith) q r s t in cc

-- five words behind a slice, as texts
pub five_texts : (xs slice : List (String Global)) (a b c d e : String Global) → slice ≡ xs → 5 ≤ length slice → length slice < 6
    → a ≡ get_or slice 0 a → b ≡ get_or slice 1 b → c ≡ get_or slice 2 c → d ≡ get_or slice 3 d → e ≡ get_or slice 4 e
    → word_texts xs ≡ string_bytes a ∷ string_bytes b ∷ string_bytes c ∷ string_bytes d ∷ string_bytes e ∷ []
five_texts xs slice a b c d e same low high p q r s t = ap word_texts (sym same ∙ five slice a b c d e (omega arith) p q r s t)

pub six : {A : Type 0} (xs : List A) (a b c d e f : A) → length xs ≡ 6 → a ≡ get_or xs 0 a → b ≡ get_or xs 1 b → c ≡ get_or xs 2 c → d ≡ get_or xs 3 d → e ≡ get_or xs 4 e → f ≡ get_or xs 5 f
    → xs ≡ a ∷ b ∷ c ∷ d ∷ e ∷ f ∷ []
six [] a b c d e f l p q r s t u = absurd (omega arith)
six (v ∷ rest) a b c d e f l p q r s t u = let tail : rest ≡ b ∷ c ∷ d ∷ e ∷ f ∷ [] = five rest b c d e f (omega arith) q r s t u in cc

-- six words behind a slice, as texts
pub six_texts : (xs slice : List (String Global)) (a b c d e f : String Global) → slice ≡ xs → 6 ≤ length slice → length slice < 7
    → a ≡ get_or slice 0 a → b ≡ get_or slice 1 b → c ≡ get_or slice 2 c → d ≡ get_or slice 3 d → e ≡ get_or slice 4 e → f ≡ get_or slice 5 f
    → word_texts xs ≡ string_bytes a ∷ string_bytes b ∷ string_bytes c ∷ string_bytes d ∷ string_bytes e ∷ string_bytes f ∷ []
six_texts xs slice a b c d e f same low high p q r s t u = ap word_texts (sym same ∙ six slice a b c d e f (omega arith) p q r s t u)
