use Rattle.std.proofs.Common.{◌++◌, ◌∷◌, [], ◌∙◌, List, ℕ, get_or, map, take, subst, ap}
use Rattle.std.specs.List.{flat_map}
use Rattle.std.proofs.lemmas.List.Elements.{All-append, All-from_recursion}
use Rattle.cvm_words.specs.Bytes.{word}
use Rattle.boot_image.specs.Format.{AreWords}
use Rattle.boot_image.proofs.OneUserMore.{take_map, push_flat}
use Rattle.boot_image.proofs.writing.push_users.Goals as goal

pub loop-user-preserved : goal.loop-user-preserved
loop-user-preserved c =
    let seen = c.deref.ensures.value ∙ ap (λ v. v.items) c.user-item.is in
    let taken = take_map (λ v. v.items) c.args.users.now c.loop-user.user-index c.user-item.result c.loop-user-test.true in
    let done : List (List ℕ) = map (λ v. v.items) (take c.loop-user.user-index c.args.users.now) in
    let user : List ℕ = (get_or c.args.users.now c.loop-user.user-index c.user-item.result).items in
    let wrote = c.in_ok-push_words.ensures.written ∙ ap (λ (l : List ℕ). c.loop-user.bytes.items ++ flat_map word l) seen in
    let bits : AreWords user = subst AreWords seen c.in_ok-push_words.ensures.bits in
    rw taken (record {
      written = push_flat c.args.bytes.now.items c.loop-user.bytes.items c.push_words.new.bytes.items user done wrote c.loop-user.invariant.written;
      bits = All-append AreWords done (user ∷ []) c.loop-user.invariant.bits (All-from_recursion AreWords (user ∷ []) (bits, tt));
    })
