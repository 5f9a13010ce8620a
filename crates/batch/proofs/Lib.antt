-- What a single arrival leaves.
pub mod Arriving
-- What the proofs of the functions rest on: the steps by the tests that the code makes, lengths within the buffer, the turns of
-- the loop, and that what a frame adds fits.
pub mod Bodies
pub mod Lengths
pub mod Filling
pub mod Fits
pub mod Turning
pub mod Turned
-- The steps of the code are the batch: what is packed, the middle of a batch, and the call.
pub mod Packing
pub mod Middle
pub mod Comes
-- Of a batch: its refusals, its turns, what it tells, that 8 ends it, a batch of one frame, a batch in two parts, the example.
pub mod Refusing
pub mod Turns
pub mod Reading
pub mod Eights
pub mod One
pub mod Parts
pub mod Splitting
pub mod Worked
pub mod Within
