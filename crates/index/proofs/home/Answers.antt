-- `index::home` meets its contract: the mixing fits, and its highest seven bits are a place. Assumes nothing.
use Rattle.std.proofs.Common.{refl, arith}
use Rattle.index.specs.Index.{place_of, mixed}
use Rattle.index.proofs.home.Goals as goal

pub returns : goal.returns
unfolding place_of mixed
returns c = (rw c.from.ensures refl, omega arith)
