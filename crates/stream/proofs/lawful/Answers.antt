-- `stream::lawful` meets its contract. Assumes nothing.
use Rattle.std.proofs.Common.{sym}
use Rattle.stream.proofs.Flags.{flags}
use Rattle.stream.proofs.Law.{sizes, plain-settled}
use Rattle.stream.proofs.lawful.Goals as goal

pub is_right-requires : goal.is_right-requires
is_right-requires c =
    let f = sizes {s = c.args.s} (plain-settled c.args.s (sym (search flags))) in
    (f.least, f.most)
