-- The cases and runs compute. Assumes nothing.
use mathlib.Core.Path.{refl}
use Rattle.record.specs.Words.{yes}
use Rattle.stream.specs.History.{value, words_of, bit_of, same, is_empty, bit, within}
use Rattle.stream.specs.Record.{is_fresh, settled, placed, linked, shaped, lawful}
use Rattle.stream.specs.Decisions.{link_steps, link_up, link_case, case_of, state_after, out_of_order, losses, tally, counts_after, verdict, decided, reset, expires, ticked}
use Rattle.links.specs.Links.{link_number, ups, all_within, rises, all_apart, all_follow}
use Rattle.links.specs.Runs.{link, judged, cases, LinkCases, told, arrived_in, up_in, among, repeated, missing, RuleGives, RuleDoesNotGive}

-- One name for all that a run computes with: to unfold it is to unfold them.
unfoldable pub computing : Unit {0}
unfolding yes value words_of bit_of same is_empty bit within is_fresh settled placed linked shaped lawful link_steps link_up link_case case_of state_after out_of_order losses tally counts_after verdict decided reset expires ticked link_number ups all_within rises all_apart all_follow link judged cases told arrived_in up_in among repeated missing
computing = tt

pub link-cases : LinkCases
unfolding computing
link-cases = refl

pub rule-gives : RuleGives
unfolding computing
rule-gives = record {
  lockstep = record { told = refl; twice = refl; lost = refl };
  apart = record { told = refl; twice = refl; lost = refl };
  pause = record { told = refl; twice = refl; lost = refl };
  silent = record { told = refl; twice = refl; lost = refl };
  ring = record { told = refl; twice = refl; lost = refl };
  following = refl;
  kept-apart = refl;
  within = refl;
  rising = refl;
  handed = refl;
}

pub rule-does-not-give : RuleDoesNotGive
unfolding computing
rule-does-not-give = record {
  one-behind = record { told = refl; twice = refl; lost = refl };
  two-behind = record { told = refl; twice = refl; lost = refl };
  two-behind-high = record { told = refl; twice = refl; lost = refl };
  two_at_once = record { told = refl; twice = refl; lost = refl };
  zero-lost = record { told = refl; twice = refl; lost = refl };
  zero-lost-high = record { told = refl; twice = refl; lost = refl };
  two-restarts = refl;
  counts-to-zero = record { told = refl; twice = refl; lost = refl };
  counts-in-lockstep = record { told = refl; twice = refl; lost = refl };
  hole = record { told = refl; twice = refl; lost = refl };
  lost-in-a-row = record { told = refl; twice = refl; lost = refl };
  late = record { told = refl; twice = refl; lost = refl };
  late-zero = record { told = refl; twice = refl; lost = refl };
  late-after-reset = record { told = refl; twice = refl; lost = refl };
}
