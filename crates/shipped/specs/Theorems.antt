-- All that ships, as one list: every call that a program makes, in Rattle and for C, by its name, has the contract that the documents
-- ask for. Assumes nothing.
use Rattle.demands.specs.Code.{CodeMeets}
use Rattle.both_sides.specs.Code.{SenderMeets}
use Rattle.shipped.specs.Turns.{PrpMeets}
use Rattle.shipped.specs.Tags.{TagsMeet}
use Rattle.shipped.specs.Exports.{ExportsMeet}

pub record Shipped : Type 2 where
  -- In Rattle: the receiver with the batch and the two tag calls, the sender, the PRP lines.
  pub receiver : CodeMeets
  pub sender : SenderMeets
  pub prp : PrpMeets
  -- the two tag calls once more: their lines leave nothing open.
  pub tags : TagsMeet
  -- For C.
  pub exports : ExportsMeet
