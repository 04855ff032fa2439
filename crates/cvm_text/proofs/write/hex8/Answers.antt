-- The loop appends the digit of its index.
use Rattle.cvm_text.proofs.HexDigitsByIndex.{one_more_digit}
use Rattle.cvm_text.proofs.write.hex8.Goals as goal

pub loop-index-preserved : goal.loop-index-preserved
loop-index-preserved c =
    one_more_digit c.args.word c.loop-index.index c.hex_digit.result c.loop-index.text.bytes c.push.new.self.bytes c.loop-index-test.true
    c.loop-index.invariant (c.push.ensures.ascii c.hex_digit.ensures.ascii) c.hex_digit.ensures.value
