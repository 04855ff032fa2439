-- Compiling a user program: its words.
use Rattle.std.specs.Prelude.{◌≡◌, List, ℕ, [], ◌∷◌, codes}

-- compile the source of a user program, and put the image that it gives
pub record CompileProgram : Type 0 where
  pub source : List ℕ
  pub image : List ℕ

-- compile program SRC IMG
pub record IsCompileProgram (words : List (List ℕ)) (c : CompileProgram) : Type 0 where
  pub spelled : words ≡ codes "compile" ∷ codes "program" ∷ c.source ∷ c.image ∷ []
