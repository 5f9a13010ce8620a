-- `prp::write_trailer` meets its contract: two words, and the last bytes behind them.
use Rattle.std.proofs.Common.{arith}
use Rattle.prp.specs.Prp.{trailer_of}
use Rattle.prp.proofs.Trailers.{trailer-over}
use Rattle.prp.proofs.write_trailer.Goals as goal

pub returns : goal.returns
returns c =
    trailer-over (trailer_of c.args.kind) c.args.number c.args.network c.args.size c.args.dst.now (omega arith) c.write_words.ensures c.write_last.ensures
