-- `stream::weigh` meets its contract. Assumes nothing.
use Rattle.std.proofs.Common.{sym}
use Rattle.stream.proofs.Flags.{flags}
use Rattle.stream.proofs.Law.{law, size, link-anchor}
use Rattle.stream.proofs.weigh.Goals as goal

pub by_vector-requires : goal.by_vector-requires
by_vector-requires c =
    let f = size {s = c.args.s} (law (sym (search flags))) in
    (f.least, (f.most, c.in-1.is))

pub by_link-requires : goal.by_link-requires
by_link-requires c =
    (c.in-3.is, λ e. link-anchor {s = c.args.s} (law (sym (search flags))) e c.in-3.is)
