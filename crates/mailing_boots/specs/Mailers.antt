-- Programs that send numbers, and programs that receive them and have them printed: each whose calls are all known, and two of them.
use Rattle.std.specs.Prelude.{◌≡◌, ℕ, ◌≤◌, ◌<◌, ◌^◌, List, [], ◌∷◌, length, map, codes}
use Rattle.mips_table.specs.Machine.{LOG_ROOM}
use Rattle.c0_tree.specs.declared.tree.Kind.TheVariants.{Local, Primitive}
use Rattle.c0_tree.specs.declared.tree.BinaryOp.TheVariants.{Add, Lt, Ne}
use Rattle.c0_tree.specs.Tree.{assign, call, loop, binary, code, CUnit}
use Rattle.c0_tree.specs.Tree as tree
use Rattle.c0_meaning.specs.UserProgram.{prog, done}
use Rattle.cvm_model.specs.Cvm.{first_flat}
use Rattle.user_c0.specs.Image.{image_words}
use Rattle.worked_rows.specs.Kernels.{z, name, decl, local, number, block, function}
use Rattle.mailing_boots.specs.Through.{ints, CallsAndReturns, IsCountedThrough}

-- a sender's calls are answered by 0
abbrev pub zeros : List ℕ → List ℕ
zeros ns = map (λ (n : ℕ). 0) ns

-- a receiver asks by 0, is answered with a number, and calls with that number, to have it printed
abbrev pub asked_for : List ℕ → List ℕ
asked_for [] = []
asked_for (n ∷ ns) = 0 ∷ n ∷ asked_for ns

abbrev pub told_for : List ℕ → List ℕ
told_for [] = []
told_for (n ∷ ns) = n ∷ 0 ∷ told_for ns

-- numbers that can be sent
abbrev pub CanBeSent : List ℕ → Type 0
CanBeSent [] = Unit {0}
CanBeSent (n ∷ ns) = (1 ≤ n) × (n < 2 ^ 31) × CanBeSent ns

-- a program that sends these numbers within n units, and one that receives as many within k and has each printed
pub record AreMailers (one two : CUnit) (n k : ℕ) (ns : List ℕ) : Type 0 where
  pub sender : CallsAndReturns one n ns (zeros ns)
  pub receiver : CallsAndReturns two k (asked_for ns) (told_for ns)
  pub small : CanBeSent ns
  pub few : length ns ≤ LOG_ROOM

-- int main() { int i; int ok; while (i < 10) { i = i + 1; ok = trap(i); } return 0; }
abbrev pub sender : CUnit
sender = record {
  length = 0;
  structs = [];
  globals = [];
  functions =
      function tree.int (codes "main") 0 [] (code (decl tree.int (codes "i") Local 0 ∷ decl tree.int (codes "ok") Local 1 ∷ []) (block (
      loop z (binary z Lt (local (codes "i") 0) (number 10)) (block (
      assign z (local (codes "i") 0) (binary z Add (local (codes "i") 0) (number 1)) ∷
      call z (local (codes "ok") 1) z (name (codes "trap") Primitive 0) (local (codes "i") 0 ∷ []) ∷ [])) ∷ [])) (number 0)) ∷ [];
}

-- int main() { int message; int ok; while (message != 10) { message = trap(0); ok = trap(message); } return 0; }
abbrev pub receiver : CUnit
receiver = record {
  length = 0;
  structs = [];
  globals = [];
  functions =
      function tree.int (codes "main") 0 [] (code (decl tree.int (codes "message") Local 0 ∷ decl tree.int (codes "ok") Local 1 ∷ []) (block (
      loop z (binary z Ne (local (codes "message") 0) (number 10)) (block (
      call z (local (codes "message") 0) z (name (codes "trap") Primitive 0) (number 0 ∷ []) ∷
      call z (local (codes "ok") 1) z (name (codes "trap") Primitive 0) (local (codes "message") 0 ∷ []) ∷ [])) ∷ [])) (number 0)) ∷ [];
}

abbrev pub one_to_ten : List ℕ
one_to_ten = 1 ∷ 2 ∷ 3 ∷ 4 ∷ 5 ∷ 6 ∷ 7 ∷ 8 ∷ 9 ∷ 10 ∷ []

-- A LAW: within 400 units the sender calls with the numbers from 1 to 10, and returns; and within 600 the receiver asks ten times, has what it is told printed
-- each time, and returns behind 10
pub record MailersCall : Type 0 where
  pub sends : prog sender (ints (zeros one_to_ten)) 400 ≡ record { arguments = ints one_to_ten; ending = done }
  pub receives : prog receiver (ints (told_for one_to_ten)) 600 ≡ record { arguments = ints (asked_for one_to_ten); ending = done }

-- A LAW: their images make 140 untrapped steps and 170, counted; the traps are 11 and 21
pub record MailersAreCounted : Type 0 where
  pub sending : IsCountedThrough (first_flat (image_words sender)) (zeros one_to_ten) 140
  pub receiving : IsCountedThrough (first_flat (image_words receiver)) (told_for one_to_ten) 170
