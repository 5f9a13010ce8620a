-- The search gives the lowest slot that passes. Assumes nothing.
use Rattle.calls.specs.Laws.{LowestFound, NoneFound}
use Rattle.calls.proofs.Search.{found-passes, found_below, found-no-slot}
use Rattle.calls.proofs.Places.{some-found, none_found, some-place}

pub lowest-found : LowestFound
lowest-found p t s =
    let f = some-found p t s in
    (some-place p t s, found-passes p t _ f, λ k l. found_below p t _ k f l)

pub none_passes : NoneFound
none_passes p t s k l = found-no-slot p t k (none_found p t s) l
