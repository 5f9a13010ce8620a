-- Promises of demands 1 to 3, each with a receiver, machine, tagger or sending side that fails by it. Runs of a stream are of slot 1.
-- (`RuledOut` of `demands` has those that demand 2 rules out by an answer or a record, and `RuledOutByOne` of `missed_runs` those of
-- order 8.) Assumes nothing.
use Rattle.std.specs.Prelude.{ℕ, suc, List, [], map, replicate}
use Rattle.std.proofs.Math.Option.{none}
use Rattle.refusal.specs.Checks.{Said}
use Rattle.refusal.specs.Checks.Said.{refused, answers}
use Rattle.refusal.specs.Numbers.{UNKNOWN, BATCH}
use Rattle.frame.specs.TagCalls.{take_tag, write_tag}
use Rattle.stream.specs.Record.{Stream}
use Rattle.stream.specs.Decisions.{with}
use Rattle.calls.specs.Table.{Table}
use Rattle.calls.specs.Calls.{Call, arriving, linking, opening, closing, resetting, ticking, Answer, arrived, placed, done, swept, out_of, Result}
use Rattle.batch.specs.Batch.{Bundle, batch_of}
use Rattle.demands.specs.Receiver.{Receiver, the_receiver, Tagger}
use Rattle.demands.specs.Seen.{ResetsSeen}
use Rattle.demands.specs.Demand1.{Demand1, Demand1Tags}
use Rattle.demands.specs.Demand2.{Demand2, ArrivalsRecovered, LinksRecovered}
use Rattle.demands.specs.Demand3.{Demand3}
use Rattle.demands.specs.Corollaries.{NeverTwice, FreshDecides, OpenedDecides, RestartGetsThrough, CountsOnce}
use Rattle.demands.specs.Lost.{FreshLost, OpenedLost}
use Rattle.demands.specs.Missed.{BeginsFresh}
use Rattle.demands.specs.Steps.{Machine, Demand1Steps}
use Rattle.demands.specs.Wrong.{hands_up_all, duplicate_renews}
use Rattle.missed_runs.specs.MissedRuns.{duplicate_is_rogue, counts_no_loss, says_done, finds_unknown}
use Rattle.sender.specs.Sender.{refuses, send_of, reset_of}
use Rattle.sender.specs.Runs.{Side, SentAfterReset, NextRises}
use Rattle.sender.specs.Wrong.{rises_on_refusal, first_too_soon}
use Rattle.both_sides.specs.Demand1Sent.{Demand1Sent}

-- ---- receivers: the definitions' in all but this

-- a refused call loses the table, or the output;
unfoldable pub spoilt : (Table → Table) → (List ℕ → List ℕ) → Result → Said Answer → Result
spoilt f g r (refused n) = record { said = refused n; table = f r.table; output = g r.output }
spoilt f g r (answers a) = r

unfoldable pub loses_table : Receiver
loses_table t c = spoilt (λ x. []) (λ o. o) (the_receiver t c) (the_receiver t c).said

unfoldable pub loses_output : Receiver
loses_output t c = spoilt (λ x. x) (λ o. []) (the_receiver t c) (the_receiver t c).said

-- nothing is written, nothing is stored;
unfoldable pub writes_nothing : Receiver
writes_nothing t c = record { said = (the_receiver t c).said; table = (the_receiver t c).table; output = out_of c }

unfoldable pub stores_nothing : Receiver
stores_nothing t c = record { said = (the_receiver t c).said; table = t; output = (the_receiver t c).output }

-- all but an open is stored, or all but a reset;
abbrev pub but_open : Call → (before after : Table) → Table
but_open (arriving network f out) t u = u
but_open (linking network f out) t u = u
but_open (opening dest vlan rule window time) t u = t
but_open (closing i) t u = u
but_open (resetting i) t u = u
but_open ticking t u = u

unfoldable pub stores_no_open : Receiver
stores_no_open t c = record { said = (the_receiver t c).said; table = but_open c t (the_receiver t c).table; output = (the_receiver t c).output }

abbrev pub but_reset : Call → (before after : Table) → Table
but_reset (arriving network f out) t u = u
but_reset (linking network f out) t u = u
but_reset (opening dest vlan rule window time) t u = u
but_reset (closing i) t u = u
but_reset (resetting i) t u = t
but_reset ticking t u = u

unfoldable pub stores_no_reset : Receiver
stores_no_reset t c = record { said = (the_receiver t c).said; table = but_reset c t (the_receiver t c).table; output = (the_receiver t c).output }

-- an arrival tells the number behind its own;
abbrev pub next_told : Said Answer → Said Answer
next_told (refused n) = refused n
next_told (answers (arrived i number x v)) = answers (arrived i (suc number) x v)
next_told (answers (placed i)) = answers (placed i)
next_told (answers done) = answers done
next_told (answers (swept streams records)) = answers (swept streams records)

unfoldable pub tells_next : Receiver
tells_next t c = record { said = next_told (the_receiver t c).said; table = (the_receiver t c).table; output = (the_receiver t c).output }

-- it tells the next higher priority (order 11);
abbrev pub higher_told : Said Answer → Said Answer
higher_told (refused n) = refused n
higher_told (answers (arrived i number x v)) = answers (arrived i number (record { priority = suc x.priority; vlantag = x.vlantag }) v)
higher_told (answers (placed i)) = answers (placed i)
higher_told (answers done) = answers done
higher_told (answers (swept streams records)) = answers (swept streams records)

unfoldable pub tells_higher : Receiver
tells_higher t c = record { said = higher_told (the_receiver t c).said; table = (the_receiver t c).table; output = (the_receiver t c).output }

-- every call lets each record take any number, and leaves the rest of its state.
abbrev pub loosened : Stream → Stream
loosened s = with s (record { history = s.state.history; anchor = s.state.anchor; remaining = s.state.remaining; early = s.state.early; any = 1 }) s.counts

unfoldable pub loosens : Receiver
loosens t c = record { said = (the_receiver t c).said; table = map loosened t; output = (the_receiver t c).output }

-- ---- machines, taggers and sending sides

-- a refused batch loses the table, or the output; and every batch is refused
unfoldable pub spoilt_batch : (Table → Table) → (List ℕ → List ℕ) → Bundle → Said ℕ → Bundle
spoilt_batch f g r (refused n) = record { said = refused n; answers = r.answers; table = f r.table; output = g r.output }
spoilt_batch f g r (answers k) = r

unfoldable pub batch_loses_table : Machine
batch_loses_table = record { receive = the_receiver; batch = λ t b. spoilt_batch (λ x. []) (λ o. o) (batch_of t b) (batch_of t b).said }

unfoldable pub batch_loses_output : Machine
batch_loses_output = record { receive = the_receiver; batch = λ t b. spoilt_batch (λ x. x) (λ o. []) (batch_of t b) (batch_of t b).said }

unfoldable pub batch_refuses : Machine
batch_refuses = record { receive = the_receiver; batch = λ t b. record { said = refused BATCH; answers = replicate 32 none; table = t; output = b.out } }

-- frames of a batch that lose the output where they are refused
unfoldable pub frames_lose : Machine
frames_lose = record { receive = loses_output; batch = batch_of }

unfoldable pub take_unknown : Tagger
take_unknown = record { take = λ f out. record { said = refused UNKNOWN; bytes = out }; write = write_tag }

unfoldable pub take_loses : Tagger
take_loses = record { take = λ f out. record { said = (take_tag f out).said; bytes = [] }; write = write_tag }

unfoldable pub write_unknown : Tagger
write_unknown = record { take = take_tag; write = λ f n out. record { said = refused UNKNOWN; bytes = out } }

unfoldable pub write_loses : Tagger
write_loses = record { take = take_tag; write = λ f n out. record { said = (write_tag f n out).said; bytes = [] } }

unfoldable pub sends_unknown : Side
sends_unknown = record { send = λ s f out0 out1. refuses s out0 out1 UNKNOWN; reset = reset_of }

unfoldable pub never_resets : Side
never_resets = record { send = send_of; reset = λ s. s }

-- ---- ruled out, each by the promise that the line is named after

pub record ByOne : Type 0 where
  -- demand 1, with `number` both ways;
  pub number : Demand1 finds_unknown → ⊥
  pub unrefused : Demand1 says_done → ⊥
  pub records : Demand1 loses_table → ⊥
  pub bytes : Demand1 loses_output → ⊥
  pub batch-number : Demand1Steps batch_refuses → ⊥
  pub batch-records : Demand1Steps batch_loses_table → ⊥
  pub batch-bytes : Demand1Steps batch_loses_output → ⊥
  pub batch-frames : Demand1Steps frames_lose → ⊥
  pub take-number : Demand1Tags take_unknown → ⊥
  pub take-bytes : Demand1Tags take_loses → ⊥
  pub write-number : Demand1Tags write_unknown → ⊥
  pub write_bytes : Demand1Tags write_loses → ⊥
  pub sent-number : Demand1Sent sends_unknown → ⊥
  pub sent-keeps : Demand1Sent first_too_soon → ⊥
  -- demand 2;
  pub output : Demand2 writes_nothing → ⊥
  pub recovered-number : ArrivalsRecovered tells_next → ⊥
  pub recovered-rank : ArrivalsRecovered tells_higher → ⊥
  pub recovered-verdict : ArrivalsRecovered duplicate_is_rogue → ⊥
  pub recovered-records : ArrivalsRecovered stores_nothing → ⊥
  pub link-number : LinksRecovered tells_next → ⊥
  pub link-rank : LinksRecovered tells_higher → ⊥
  pub link-verdict : LinksRecovered duplicate_is_rogue → ⊥
  pub link-records : LinksRecovered stores_nothing → ⊥
  -- demand 3, and what is said of it, of lost and of where a run begins;
  pub decides : Demand3 hands_up_all → ⊥
  pub fresh-decides : FreshDecides hands_up_all → ⊥
  pub opened-decides : OpenedDecides hands_up_all → ⊥
  pub never-twice : NeverTwice hands_up_all → ⊥
  pub counts-once : CountsOnce hands_up_all → ⊥
  pub restart : RestartGetsThrough duplicate_renews → ⊥
  pub fresh-lost : FreshLost counts_no_loss → ⊥
  pub opened-lost : OpenedLost counts_no_loss → ⊥
  pub resets-seen : ResetsSeen stores_nothing → ⊥
  pub begins-opened : BeginsFresh stores_no_open → ⊥
  pub begins-reset : BeginsFresh stores_no_reset → ⊥
  pub begins-ticked : BeginsFresh loosens → ⊥
  -- and of what is sent.
  pub after-reset : SentAfterReset never_resets → ⊥
  pub next-rises : NextRises rises_on_refusal → ⊥
