-- `frame::tag_at` meets its contract: the front, the six bytes, and the rest, one behind the other.
use Rattle.std.proofs.Common.{arith, ◌≡◌, ◌+◌, ◌++◌, length, take, length-take, length-append}
use Rattle.frame.specs.Frame.{tag_at, tag_bytes}
use Rattle.frame.proofs.Bytes.{tail-over, tail-copied}
use Rattle.frame.proofs.tag_at.Goals as goal

pub returns : goal.returns
unfolding tag_at
returns c =
    let f = c.args.frame.now in
    let p : length (take c.args.at f) ≡ c.args.at = simp length-take (omega arith) in
    tail-copied (c.args.at + 6) c.args.at (take c.args.at f ++ tag_bytes c.args.number) f c.args.out.now (simp length-append (omega arith))
    (tail-over c.args.at (take c.args.at f) (tag_bytes c.args.number) c.args.out.now p c.copy.ensures c.write_six.ensures) c.copy-2.ensures
