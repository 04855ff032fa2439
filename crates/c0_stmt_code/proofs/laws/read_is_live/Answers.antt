-- Each is one side of an `or`.
use Rattle.std.specs.Prelude.{not, ◌&&◌, ◌||◌}
use Rattle.std.proofs.Common.{◌≡◌, Bool, true, false, refl, ap}
use Rattle.std.proofs.lemmas.Bool.{or_left, or_right}
use Rattle.c0_expr_code.specs.Reads.{reads, reads_to_find}
use Rattle.c0_stmt_code.specs.Live.{any_reads, is_variable, live_at_place, are_live}
use Rattle.c0_stmt_code.proofs.laws.read_is_live.Goals as goal

other : (a b : Bool) → b ≡ false → (a || (not b && true)) ≡ true
other a b e = or_right a (not b && true) (ap (λ (y : Bool). not y && true) e)

pub returns : goal.returns
returns c = record {
  value = λ s p v n behind h. or_left (reads v n) (live_at_place p n behind) h;
  place = λ s p v n behind h. or_right (reads v n) (live_at_place p n behind) (or_left (reads_to_find p n) (not (is_variable p n) && behind) h);
  kept = λ s p v n h. or_right (reads v n) (live_at_place p n true) (other (reads_to_find p n) (is_variable p n) h);
  arguments = λ s p cs f args n behind h. or_left (any_reads args n) (live_at_place p n behind) h;
  answered = λ s p cs f args n behind h. or_right (any_reads args n) (live_at_place p n behind) (or_left (reads_to_find p n) (not (is_variable p n) && behind) h);
  kept_by_call = λ s p cs f args n h. or_right (any_reads args n) (live_at_place p n true) (other (reads_to_find p n) (is_variable p n) h);
  made = λ s p t ts n behind h. or_left (reads_to_find p n) (not (is_variable p n) && behind) h;
  kept_by_new = λ s p t ts n h. other (reads_to_find p n) (is_variable p n) h;
  test = λ s t a b n behind h. or_left (reads t n) (are_live a n behind || are_live b n behind) h;
  yes = λ s t a b n behind h. or_right (reads t n) (are_live a n behind || are_live b n behind) (or_left (are_live a n behind) (are_live b n behind) h);
  no = λ s t a b n behind h. or_right (reads t n) (are_live a n behind || are_live b n behind) (or_right (are_live a n behind) (are_live b n behind) h);
  turn = λ s t b n behind h. or_left (reads t n) (behind || are_live b n false) h;
  body = λ s t b n behind h. or_right (reads t n) (behind || are_live b n false) (or_right behind (are_live b n false) h);
  kept_by_loop = λ s t b n. or_right (reads t n) (true || are_live b n false) refl;
}
