-- The run at the wrap computes, and the laws' premises are met. Assumes nothing.
use Rattle.std.proofs.Common.{refl}
use Rattle.record.specs.Words.{yes}
use Rattle.stream.specs.History.{value, words_of, bit_of, same, is_empty, bit, within, set_bit, push, pushes, leaving, advance}
use Rattle.stream.specs.Record.{is_fresh, settled, placed, linked, shaped, lawful}
use Rattle.stream.specs.Decisions.{signed, difference, vector_case, match_case, case_of, state_after, out_of_order, losses, tally, counts_after, verdict, decided, reset, expires, ticked}
use Rattle.stream.specs.Laws.{PremisesMet}
use Rattle.stream.specs.WrapRun.{run, alone, computed, written, WrapRun}

pub wrap-run : WrapRun
unfolding yes value words_of bit_of same is_empty bit within set_bit push pushes leaving advance is_fresh settled placed shaped lawful signed difference vector_case match_case case_of state_after out_of_order losses tally counts_after verdict decided reset expires ticked run alone computed written
wrap-run = refl

pub premises-met : PremisesMet
unfolding yes value bit_of same is_empty bit within is_fresh settled placed linked shaped lawful signed difference vector_case match_case case_of verdict
premises-met = (refl, refl, refl, refl, refl, refl, refl, refl, refl)
