-- What is answered of a text in the format's own words: the parameters that it spells, or what stands first where it spells none.
use Rattle.std.specs.Prelude.{ℕ, ◌≡◌, ◌≢◌, ◌<◌, ◌^◌, suc, All, List, [], ◌∷◌, ◌++◌, length, take, slice_index, Result, Ok, Err, codes, decimal}
use Rattle.cvm_text.specs.Lines.{lines_of}
use Rattle.layer_map.specs.declared.params.Params.{Params}
use Rattle.system_files.specs.declared.fault.FileFault.{FileFault}
use Rattle.system_files.specs.declared.fault.FileFault.TheVariants.{Parameter, Memory, UserTorn, BadParams}
use Rattle.system_files.specs.Params.{AreInRange, Spells}

-- what the four lines begin with
abbrev pub names : List (List ℕ)
names = codes "pages " ∷ codes "frames " ∷ codes "heap " ∷ codes "stack " ∷ []

-- the lines of numbers, each behind its name
abbrev pub lines_with : List (List ℕ) → List ℕ → List (List ℕ)
lines_with [] numbers = []
lines_with (first ∷ others) [] = []
lines_with (first ∷ others) (n ∷ numbers) = (first ++ decimal n) ∷ lines_with others numbers

-- the lines before `line` are those of some numbers, and with it they are those of none: it is another one, or missing, or a fifth
pub record HasBadLine (text : List ℕ) (line : ℕ) : Type 0 where
  pub numbers : List ℕ
  pub bits : All (λ n. n < 2 ^ 64) numbers
  pub right : take (length numbers) (lines_of text) ≡ lines_with names numbers
  pub wrong : (n : ℕ) → n < 2 ^ 64 → take (suc (length numbers)) (lines_of text) ≢ lines_with names (numbers ++ n ∷ [])
  pub place : line ≡ suc (length numbers)

-- the numbers of parameters, in the order of the lines
abbrev pub numbers_in : Params → List ℕ
numbers_in p = p.pages ∷ p.frames ∷ p.heap ∷ p.stack ∷ []

-- a text spells numbers, of which those before number `which` are those of parameters in range, and with it they are those of none
pub record HasWrongNumber (text : List ℕ) (which value : ℕ) : Type 0 where
  pub given : Params
  pub bits : All (λ n. n < 2 ^ 64) (numbers_in given)
  pub spelled : Spells text given
  pub fit : Params
  pub range : AreInRange fit
  pub before : ℕ
  pub right : take before (numbers_in fit) ≡ take before (numbers_in given)
  pub wrong : (other : Params) → AreInRange other → take (suc before) (numbers_in other) ≢ take (suc before) (numbers_in given)
  pub is : value ≡ slice_index (numbers_in given) before
  pub place : which ≡ suc before

-- what is answered of a text
abbrev pub IsParamsAnswer : List ℕ → Result Params FileFault → Type 0
IsParamsAnswer text (Ok p) = Spells text p × AreInRange p
IsParamsAnswer text (Err (BadParams line)) = HasBadLine text line
IsParamsAnswer text (Err (Parameter which value)) = HasWrongNumber text which value
IsParamsAnswer text (Err Memory) = ⊥
IsParamsAnswer text (Err (UserTorn user bytes)) = ⊥
