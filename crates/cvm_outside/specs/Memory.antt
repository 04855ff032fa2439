-- What the versions in memory hold.
use Rattle.std.specs.Prelude.{ℕ, ◌+◌, ◌||◌, List, Bool, length, nat_lt}
use Rattle.cvm_outside.specs.Numbering.{Numbering, is_listed}

-- a disk: the words of each sector, and its calls
pub record Disk : Type 0 where
  pub sectors : List (List ℕ)
  pub calls : Numbering

-- a sink: the bytes that were put, how many it has room for, and its calls
pub record Written : Type 0 where
  pub text : List ℕ
  pub room : ℕ
  pub calls : Numbering

-- one file of a shelf: its bytes, and how many it has room for
pub record Placed : Type 0 where
  pub bytes : List ℕ
  pub room : ℕ

-- a put of bytes fails: its number is listed, or the sink has no room for all of them
abbrev pub put_fails : Written → List ℕ → Bool
put_fails sink bytes = is_listed sink.calls || nat_lt sink.room (length sink.text + length bytes)
