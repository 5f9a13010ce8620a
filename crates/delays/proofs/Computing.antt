-- One name for all that a run with numbers of this crate computes with. Assumes nothing.
use Rattle.demands.specs.Corollaries.{handed_of}
use Rattle.demands.specs.Missed.{all_close, firsts}
use Rattle.demands.proofs.Computing.{computing}
use Rattle.delays.specs.Forgetting.{forgetting, all_near_since}
use Rattle.delays.specs.Line.{least, most, J, indices, kept, frequent, end}
use Rattle.delays.specs.OnceEach.{kinds, none_behind, fewer_between, copies_by}
use Rattle.delays.specs.StartedAgain.{copies_in, ticks_in}
use Rattle.delays.specs.ByNumber.{new, calls, line, traffic, busy, missed, caught, up_to, behind, old_life, new_life}
use Rattle.delays.proofs.Losing.{one_of, bridged, awaited}

unfoldable pub timing : Unit {0}
unfolding computing all_close firsts forgetting all_near_since least most J indices kept frequent end kinds none_behind fewer_between copies_by new calls line traffic busy missed caught up_to behind old_life new_life copies_in ticks_in handed_of one_of bridged awaited
timing = tt
