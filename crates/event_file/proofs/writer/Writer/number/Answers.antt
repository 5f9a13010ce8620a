-- `Writer::number` meets its contract: its digits are put at the writer's place. Assumes nothing.
use Rattle.std.proofs.Common.{arith, refl}
use Rattle.event_file.proofs.Decimals.{decimal-most}
use Rattle.event_file.proofs.Writing.{adds_small}
use Rattle.event_file.proofs.writer.Writer.number.Goals as goal

pub returns-then-n-lt10 : goal.returns-then-n-lt10
returns-then-n-lt10 c = adds_small c.args.n (omega arith) c.if-n-lt10.true c.text.ensures

pub returns : goal.returns
returns c = record { short = decimal-most c.args.n (omega arith); put = c.digits-self.ensures.put; lent = refl }
