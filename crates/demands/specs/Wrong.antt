-- Document 01, "What the contracts have to say" and "Errors that look right": the wrong receivers that the demands rule
-- out, each as a function of the same type. Assumes nothing.
use Rattle.std.specs.Prelude.{ℕ, false, List, length, set}
use Rattle.refusal.specs.Checks.Said.{refused, answers}
use Rattle.refusal.specs.Numbers.{TABLE}
use Rattle.record.specs.declared.Stream.{Stream}
use Rattle.std.specs.Prelude.{if◌then◌else◌}
use Rattle.record.specs.Words.{yes}
use Rattle.stream.specs.Decisions.{Verdict, up, duplicate, is_duplicate, is_rogue, handed_up, with, tally, verdict, decided}
use Rattle.calls.specs.Table.{Table, at}
use Rattle.calls.specs.Calls.{Act, refuse, arrive, opens, closes, resets, ticks, act, after, answer, output, out_of, Result, verdict_with, written_for}
use Rattle.calls.specs.Calls as calls
use Rattle.demands.specs.Receiver.{Receiver, MeetsContract}
use Rattle.demands.specs.Demand2.{Demand2}
use Rattle.demands.specs.Demand3.{Demand3}

-- A receiver that decides its own way: the definitions' in all but the verdict on an arrival and the record after it.
unfoldable pub by_act : (Stream → ℕ → Verdict) → (Stream → (number network : ℕ) → Stream) → Table → (out : List ℕ) → Act → Result
by_act v d t out (refuse n) = record { said = refused n; table = t; output = out }
by_act v d t out (arrive i number network x bare) = record {
  said = answers (calls.arrived i number x (verdict_with (length bare) (v (at t i) number)));
  table = set t i (d (at t i) number network);
  output = written_for (v (at t i) number) bare out;
}
by_act v d t out (opens i s) = record { said = answer t (opens i s); table = after t (opens i s); output = out }
by_act v d t out (closes i) = record { said = answer t (closes i); table = after t (closes i); output = out }
by_act v d t out (resets i) = record { said = answer t (resets i); table = after t (resets i); output = out }
by_act v d t out ticks = record { said = answer t ticks; table = after t ticks; output = out }

unfoldable pub deciding : (Stream → ℕ → Verdict) → (Stream → (number network : ℕ) → Stream) → Receiver
deciding v d t c = by_act v d t (out_of c) (act t c)

-- "A receiver that refuses everything"
unfoldable pub refuses_everything : Receiver
refuses_everything t c = record { said = refused TABLE; table = t; output = out_of c }

-- "one that finds every arrival a duplicate"
unfoldable pub finds_duplicates : Receiver
finds_duplicates = deciding (λ s n. duplicate) (λ s n network. with s s.state (tally s.counts network duplicate false 0))

-- "and one that marks nothing": it tells the right verdict and counts it, and leaves the state
unfoldable pub marks_nothing : Receiver
marks_nothing = deciding verdict (λ s n network. with s s.state (decided s n network).counts)

-- "one that keeps the window for its first arrival only and then hands up all"
unfoldable pub hands_up_all : Receiver
hands_up_all = deciding (λ s n. up) (λ s n network.
    if yes s.state.any then decided s n network
    else with s (handed_up s s.state.anchor s.state.early s.state.history) (tally s.counts network up false 0))

-- "one with invented counters": every arrival counts as passed
unfoldable pub invents_counters : Receiver
invents_counters = deciding verdict (λ s n network. with s (decided s n network).state (tally s.counts network up false 0))

-- "Letting a duplicate ..
abbrev pub renewed : Stream → Stream
renewed s = with s (handed_up s s.state.anchor s.state.early s.state.history) s.counts

unfoldable pub duplicate_renews : Receiver
duplicate_renews = deciding verdict (λ s n network.
    if is_duplicate (verdict s n) then renewed (decided s n network) else decided s n network)

-- .. or a rogue renew the ticks: a restarted sender then never gets through."
unfoldable pub rogue_renews : Receiver
rogue_renews = deciding verdict (λ s n network.
    if is_rogue (verdict s n) then renewed (decided s n network) else decided s n network)

-- With the definitions' own decision `deciding` meets the contract: so each receiver that is made by it is wrong in
-- nothing but the decision that its line gives.
abbrev pub RightOtherwise : Type 0
RightOtherwise = MeetsContract (deciding verdict decided)

-- Each fails the demand that document 01 names for it. It names none for the two that renew the ticks: they fail 2 and 3.
pub record RuledOut : Type 0 where
  pub refuses-everything : Demand2 refuses_everything → ⊥
  pub finds-duplicates : Demand2 finds_duplicates → ⊥
  pub marks-nothing : Demand2 marks_nothing → ⊥
  pub hands-up-all : (Demand2 hands_up_all → ⊥) × (Demand3 hands_up_all → ⊥)
  pub invents-counters : Demand2 invents_counters → ⊥
  pub duplicate-renews : (Demand2 duplicate_renews → ⊥) × (Demand3 duplicate_renews → ⊥)
  pub rogue-renews : (Demand2 rogue_renews → ⊥) × (Demand3 rogue_renews → ⊥)
