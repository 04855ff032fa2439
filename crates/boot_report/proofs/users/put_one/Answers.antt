use Rattle.std.proofs.Common.{◌≡◌, ◌-◌, ap, arith}
use Rattle.std.proofs.lemmas.Result.{err_from_is_err_and}
use Rattle.std.proofs.Math.Nat.{mul-le-mul_left}
use Rattle.layer_map.specs.declared.params.Params.{Params}
use Rattle.cvm_outside.specs.Outside.{output, drive}
use Rattle.boot_report.specs.Texts.{pages_in}
use Rattle.boot_report.proofs.UserScripts.{user_performs, user_breaks}
use Rattle.boot_report.proofs.users.put_one.Goals as goal

pub overflow_mul-user : goal.overflow_mul-user
overflow_mul-user g c =
    let le = mul-le-mul_left (c.args.user - 1) c.params-most.ensures.range.pages in
    let most = c.requires.user.most in
    let few = c.requires.user.few in
    record { fits = omega (arith, le, most, few) }

pub returns-in_err-put_processor : goal.returns-in_err-put_processor
returns-in_err-put_processor g c shelf =
    let most = ap (λ (p : Params). p.pages) c.params-most.ensures.value in
    let pages : c.min-pages.result ≡ pages_in c.args.map.now c.args.machine.now.hardware.memory c.args.user = rw (← most, ← c.block_word.ensures) c.min-pages.ensures in
    let h = err_from_is_err_and c.from_residual.result c.from_residual.ensures.1 in
    rw (h.1, h.2) (user_breaks c.args.map.now c.args.machine.now _ c.args.runs c.args.user _ _ pages most shelf (output g.O.Sink c.args.out.now) (output g.O.Sink c.put_processor.new.out) (output g.O.Sink c.put_processor.new.out) (drive g.D.Sectors c.args.disk.now) (drive g.D.Sectors c.args.disk.now) _ c.in_err-put_processor.ensures)

pub returns : goal.returns
returns g c shelf =
    let most = ap (λ (p : Params). p.pages) c.params-most.ensures.value in
    let pages : c.min-pages.result ≡ pages_in c.args.map.now c.args.machine.now.hardware.memory c.args.user = rw (← most, ← c.block_word.ensures) c.min-pages.ensures in
    user_performs c.args.map.now c.args.machine.now _ c.args.runs c.args.user _ _ pages most shelf _ _ _ _ _ _ c.in_ok-put_processor.ensures (c.put_memory.ensures shelf)
