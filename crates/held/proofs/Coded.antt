-- Demand 1 of the code: each line is what the contract of its call implies. Assumes nothing.
use Prim.Native.Nat.{ℕ}
use mathlib.Core.Path.{◌≡◌, ap, ◌∙◌}
use mathlib.Core.List.{List}
use Rattle.refusal.specs.Checks.{Said}
use Rattle.refusal.specs.Checks.Said.{refused}
use Rattle.refusal.proofs.Checks.{first-exactly}
use Rattle.frame.specs.TagCalls.{Outcome, take_tag, write_tag}
use Rattle.frame.specs.Refusals.{take_checks, write_checks}
use Rattle.frame.proofs.Refusals.{take-refused-exactly, write-refused-exactly}
use Rattle.frame.proofs.Laws.{take-refused-keeps, write-refused-keeps}
use Rattle.calls.specs.Table.{Table}
use Rattle.calls.specs.Calls.{Call, Answer, Meets, Result, answer, act, done}
use Rattle.calls.proofs.Exactly.{refused-exactly}
use Rattle.calls.proofs.Kept.{refused-changes-nothing}
use Rattle.index.specs.Index.{Index}
use Rattle.index.specs.Indexed.{guarded, rebuild_checks, Indexed, MeetsIndexed, MeetsRebuild}
use Rattle.index.proofs.Guard.{exactly}
use Rattle.index.proofs.Kept.{as-without, refused-rebuilt}
use Rattle.batch.specs.Batch.{Batch}
use Rattle.batch.specs.Told.{frames_told, refusal_told}
use Rattle.batch.specs.Indexed.{MeetsBatchBy}
use Rattle.batch.proofs.Within.{batch-refused-exactly, batch-refused-keeps}
use Rattle.batch.specs.declared.Batched.{Batched}
use Rattle.frame.specs.contracts.take_tag.{ended as take_ended}
use Rattle.frame.proofs.take_tag.Symbol.{name as take_name, code as take_code}
use Rattle.frame.specs.contracts.write_tag.{ended as write_ended}
use Rattle.frame.proofs.write_tag.Symbol.{name as write_name, code as write_code}
use Rattle.receiver.specs.contracts.arrival.{ended as arrival_ended}
use Rattle.receiver.proofs.arrival.Symbol.{name as arrival_name, code as arrival_code}
use Rattle.receiver.specs.contracts.link_arrival.{ended as link_ended}
use Rattle.receiver.proofs.link_arrival.Symbol.{name as link_name, code as link_code}
use Rattle.receiver.specs.contracts.open.{ended as open_ended}
use Rattle.receiver.proofs.open.Symbol.{name as open_name, code as open_code}
use Rattle.receiver.specs.contracts.close.{ended as close_ended}
use Rattle.receiver.proofs.close.Symbol.{name as close_name, code as close_code}
use Rattle.receiver.specs.contracts.rebuild.{ended as rebuild_ended}
use Rattle.receiver.proofs.rebuild.Symbol.{name as rebuild_name, code as rebuild_code}
use Rattle.receiver.specs.contracts.reset.{ended as reset_ended}
use Rattle.receiver.proofs.reset.Symbol.{name as reset_name, code as reset_code}
use Rattle.receiver.specs.contracts.tick.{ended as tick_ended}
use Rattle.receiver.proofs.tick.Symbol.{name as tick_name, code as tick_code}
use Rattle.batch.specs.contracts.batch.{ended as batch_ended}
use Rattle.batch.proofs.batch.Symbol.{name as batch_name, code as batch_code}
use Rattle.sender.specs.contracts.at_first.{ended as first_ended}
use Rattle.sender.proofs.at_first.Symbol.{name as first_name, code as first_code}
use Rattle.sender.specs.contracts.reset.{ended as again_ended}
use Rattle.sender.proofs.reset.Symbol.{name as again_name, code as again_code}
use Rattle.sender.specs.contracts.send.{ended as send_ended}
use Rattle.sender.proofs.send.Symbol.{name as send_name, code as send_code}
use Rattle.demands.proofs.Follows.{follows}
use Rattle.demands.proofs.Theorems as demands
use Rattle.sender.specs.declared.Sender.{Sender}
use Rattle.sender.specs.Sender.{Sends, sender_at_first, reset_of, send_of}
use Rattle.sender.proofs.Laws.{send-refused-exactly, refused-keeps}
use Rattle.both_sides.proofs.Theorems as both-sides
use Rattle.held.specs.Code.{RefusedCall, RefusedTag, RefusedIndexed, RefusedRebuild, RefusedBatch, RefusedSend, of_arrival, of_link, of_open, of_close, of_rebuild, of_reset, of_tick, of_batch, of_take, of_write, of_send, CodeRefuses}
use Rattle.held.proofs.Written.{result, outcome}

-- A result that meets the contract of its call;
refused-call : (t : Table) (c : Call) (r : Result) → Meets t c r → RefusedCall t c r
refused-call t c r m n h =
    let e : answer t (act t c) ≡ refused n = (refused-exactly t c n).1 h in
    let k = refused-changes-nothing t c n e in
    result r _ _ _ (m.said ∙ e) (m.table ∙ k.0) (m.output ∙ k.1)

-- one that takes the index, and a rebuild;
refused-indexed : (ix : Index) (t : Table) (c : Call) (r : Indexed) → MeetsIndexed ix t c r → RefusedIndexed ix t c r
refused-indexed ix t c r m n h =
    let e : answer t (guarded ix t c) ≡ refused n = (exactly ix t c n).1 h in let k = (as-without ix t c).kept n e in
    let s = m.said ∙ e in let u = m.table ∙ k.0 in let j = m.index ∙ k.1 in
    λ i. record { said = s i; table = u i; index = j i }

refused-rebuild : (ix : Index) (t : Table) (said : Said Answer) (jx : Index) → MeetsRebuild ix t said jx → RefusedRebuild ix t said jx
refused-rebuild ix t said jx m n h = (m.said ∙ (first-exactly _ (rebuild_checks ix t) done n).1 h, m.index ∙ refused-rebuilt ix t n h)

-- a batch;
refused-batch : (ix : Index) (t : Table) (b : Batch) (told : Batched) (rows : Table) (bytes : List ℕ) → MeetsBatchBy ix t b told rows bytes → RefusedBatch ix t b told rows bytes
refused-batch ix t b told rows bytes m n h =
    let e = (batch-refused-exactly ix t b n).1 h in let k = batch-refused-keeps ix t b n e in
    (ap (λ (x : Batched). x.refusal) m.said ∙ ap refusal_told e, ap (λ (x : Batched). x.frames) m.said ∙ ap frames_told e, m.table ∙ k.0, m.output ∙ k.1)

-- an outcome without a table;
take-refused : (f out : List ℕ) (o : Outcome _) → o ≡ take_tag f out → RefusedTag (take_checks f out) out o
take-refused f out o m n h = let e = (take-refused-exactly f out n).1 h in m ∙ outcome (take_tag f out) _ _ e (take-refused-keeps f out n e)

write-refused : (f : List ℕ) (x : ℕ) (out : List ℕ) (o : Outcome _) → o ≡ write_tag f x out → RefusedTag (write_checks f out) out o
write-refused f x out o m n h = let e = (write-refused-exactly f x out n).1 h in m ∙ outcome (write_tag f x out) _ _ e (write-refused-keeps f x out n e)

-- and a send.
refused-send : (s : Sender) (f out0 out1 : List ℕ) (o : Sends) → o ≡ send_of s f out0 out1 → RefusedSend s f out0 out1 o
refused-send s f out0 out1 o m n h = m ∙ refused-keeps s f out0 out1 n ((send-refused-exactly s f out0 out1 n).1 h)

from-zero-first : (s : Sender) → s ≡ sender_at_first → s.next ≡ 0
from-zero-first s m = ap (λ (x : Sender). x.next) m

pub code-refuses : CodeRefuses
code-refuses M 𝓤 𝓛 𝓜 𝓡 =
    let c = (demands.theorems).code_meets M 𝓤 𝓛 𝓜 𝓡 in
    let s = (both-sides.theorems).sender-meets M 𝓤 𝓛 𝓜 𝓡 in record {
      arrival = follows 𝓛 𝓜 𝓡 arrival_ended arrival_name arrival_code (of_arrival Meets) (of_arrival RefusedCall) (λ κs a r e. refused-call _ _ _) c.arrival;
      link-arrival = follows 𝓛 𝓜 𝓡 link_ended link_name link_code (of_link Meets) (of_link RefusedCall) (λ κs a r e. refused-call _ _ _) c.link-arrival;
      open-stream = follows 𝓛 𝓜 𝓡 open_ended open_name open_code (of_open MeetsIndexed) (of_open RefusedIndexed) (λ κs a r e. refused-indexed _ _ _ _) c.open-stream;
      close = follows 𝓛 𝓜 𝓡 close_ended close_name close_code (of_close MeetsIndexed) (of_close RefusedIndexed) (λ κs a r e. refused-indexed _ _ _ _) c.close;
      rebuild = follows 𝓛 𝓜 𝓡 rebuild_ended rebuild_name rebuild_code (of_rebuild MeetsRebuild) (of_rebuild RefusedRebuild) (λ κs a r e. refused-rebuild _ _ _ _) c.rebuild;
      reset = follows 𝓛 𝓜 𝓡 reset_ended reset_name reset_code (of_reset Meets) (of_reset RefusedCall) (λ κs a r e. refused-call _ _ _) c.reset;
      tick = follows 𝓛 𝓜 𝓡 tick_ended tick_name tick_code (of_tick Meets) (of_tick RefusedCall) (λ κs a r e. refused-call _ _ _) c.tick;
      batch = follows 𝓛 𝓜 𝓡 batch_ended batch_name batch_code (of_batch MeetsBatchBy) (of_batch RefusedBatch) (λ κs a r e. refused-batch _ _ _ _ _ _) c.batch;
      take = follows 𝓛 𝓜 𝓡 take_ended take_name take_code (of_take (λ f out o. o ≡ take_tag f out)) (of_take (λ f out. RefusedTag (take_checks f out) out)) (λ κs a r e. take-refused _ _ _) c.take;
      write = follows 𝓛 𝓜 𝓡 write_ended write_name write_code (of_write (λ f x out o. o ≡ write_tag f x out)) (of_write (λ f x out. RefusedTag (write_checks f out) out)) (λ κs a r e. write-refused _ _ _ _) c.write;
      send = follows 𝓛 𝓜 𝓡 send_ended send_name send_code (of_send (λ s f out0 out1 o. o ≡ send_of s f out0 out1)) (of_send RefusedSend) (λ κs a r e. refused-send _ _ _ _ _) s.send;
      at_first = follows 𝓛 𝓜 𝓡 first_ended first_name first_code (λ κs a r e. r ≡ sender_at_first) (λ κs a r e. r.next ≡ 0) (λ κs a r e. from-zero-first r) s.at_first;
      again = follows 𝓛 𝓜 𝓡 again_ended again_name again_code (λ κs (s, _) r e. r ≡ reset_of s) (λ κs a r e. r.next ≡ 0) (λ κs a r e. from-zero-first r) s.reset;
    }
