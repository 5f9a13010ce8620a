-- `prp::Kind::ends_so` meets its contract: what std says of the frame's end.
use Rattle.prp.specs.Prp.{trailer_of}
use Rattle.prp.proofs.Trailers.{ends-compared}
use Rattle.prp.proofs.Kind.ends_so.Goals as goal

pub returns : goal.returns
returns c = ends-compared (trailer_of c.args.self) c.args.frame.now c.last.ensures c.requires c.ends_with.ensures.value
