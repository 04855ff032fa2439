use Rattle.std.proofs.Common.{◌+◌, ◌*◌, ◌∙◌, ◌++◌, ◌∷◌, List, ℕ, map, drop, get_or, sym, ap, arith, append-nil}
use Rattle.cvm_words.specs.Bytes.{words_of_bytes}
use Rattle.boot_image.specs.Reading.{users_of}
use Rattle.boot_image.proofs.OneUserMore.{next_whole, users_of_more, users_of_end, push_map}
use Rattle.boot_image.proofs.reading.users_in.Goals as goal

pub split_at-requires : goal.split_at-requires
split_at-requires c = (next_whole c.loop-count.invariant.whole.0 c.loop-count.count-index c.args.counts.now c.loop-count.rest.now c.loop-count-test.true c.loop-count.invariant.whole.1).long

pub loop-count-preserved : goal.loop-count-preserved
loop-count-preserved c =
    let next = next_whole c.loop-count.invariant.whole.0 c.loop-count.count-index c.args.counts.now c.loop-count.rest.now c.loop-count-test.true c.loop-count.invariant.whole.1 in
    rw (c.split_at.ensures.back, c.in_ok-push.ensures.items) (record {
      whole = (_, next.others);
      made =
          push_map (λ u. u.items) c.loop-count.users.items c.in_ok-read_words.field-0 (users_of (drop (c.loop-count.count-index + 1) c.args.counts.now) (drop (4 * get_or c.args.counts.now c.loop-count.count-index 0) c.loop-count.rest.now))
          ∙ ap (λ (w : List ℕ). map (λ u. u.items) c.loop-count.users.items ++ (w ∷ users_of (drop (c.loop-count.count-index + 1) c.args.counts.now) (drop (4 * get_or c.args.counts.now c.loop-count.count-index 0) c.loop-count.rest.now))) (c.in_ok-read_words.ensures.words ∙ ap words_of_bytes c.split_at.ensures.front)
          ∙ ap (λ (l : List (List ℕ)). map (λ u. u.items) c.loop-count.users.items ++ l) (sym (users_of_more c.loop-count.count-index c.args.counts.now c.loop-count.rest.now c.loop-count-test.true))
          ∙ c.loop-count.invariant.made;
    })

pub returns : goal.returns
returns c =
    sym (append-nil _) ∙ ap (λ (l : List (List ℕ)). map (λ u. u.items) c.loop-count.users.items ++ l) (sym (users_of_end c.loop-count.count-index c.args.counts.now c.loop-count.rest.now (omega (arith, c.loop-count-test.false))))
    ∙ c.loop-count.invariant.made
