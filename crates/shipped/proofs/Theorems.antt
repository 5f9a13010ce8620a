-- The list of all that ships. Assumes nothing.
use Rattle.demands.proofs.Coded.{code_meets}
use Rattle.both_sides.proofs.Theorems as both
use Rattle.shipped.specs.Theorems.{Shipped}
use Rattle.shipped.proofs.Turned.{prp-meets, tags-meet}
use Rattle.shipped.proofs.Exported.{exports-meet}

pub shipped : Shipped
shipped = record {
  receiver = code_meets;
  sender = (both.theorems).sender-meets;
  prp = prp-meets;
  tags = tags-meet;
  exports = exports-meet;
}
