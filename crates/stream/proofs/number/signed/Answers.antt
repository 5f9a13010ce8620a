-- `stream::number::signed` meets its contract. Assumes nothing.
use Rattle.std.proofs.Common.{◌≡◌, ◌∙◌, w16, w32, to_z, of_z, rules}
use Rattle.stream.proofs.Reading.{sixteen}
use Rattle.stream.proofs.number.signed.Goals as goal

pub returns : goal.returns
returns c =
    let wide : to_z w32 (of_z w32 c.from.result) ≡ c.from.result = search rules in
    let back : to_z w16 (of_z w16 c.cast_signed.result) ≡ c.cast_signed.result = search rules in
    wide ∙ c.from.ensures ∙ back ∙ c.cast_signed.ensures ∙ sixteen c.args.w c.ranges.w.fits
