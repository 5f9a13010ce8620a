-- Demand 1 of the code itself: of each public call that `CodeMeets` and `SenderMeets` name, what it leaves when it is refused. It follows
-- from all that they say of a call, so that neither can lose a call, nor what it says of a refusal. Assumes nothing.
use Rattle.std.specs.Prelude.{ℕ, ◌≡◌, List, []}
use seplogic.Ra.Ura.{Ura}
use prog.Model.{Model}
use types.Logic.{Logic}
use contract.Running.{Running}
use Rattle.refusal.specs.Checks.{Said, Check, First}
use Rattle.refusal.specs.Checks.Said.{refused}
use Rattle.frame.specs.TagCalls.{Outcome, Bare, said_taken, said_written}
use Rattle.frame.specs.Refusals.{take_checks, write_checks}
use Rattle.frame.specs.contracts.take_tag.{ended as take_ended}
use Rattle.frame.proofs.take_tag.Symbol.{name as take_name, code as take_code}
use Rattle.frame.specs.contracts.write_tag.{ended as write_ended}
use Rattle.frame.proofs.write_tag.Symbol.{name as write_name, code as write_code}
use Rattle.calls.specs.Table.{Table}
use Rattle.calls.specs.Calls.{Call, Answer, arriving, linking, opening, resetting, ticking, out_of, Result}
use Rattle.calls.specs.Calls as calls
use Rattle.calls.specs.Refusals.{checks_of}
use Rattle.calls.specs.Said.{said_arrival, said_opened, said_done, said_swept}
use Rattle.receiver.specs.contracts.arrival.{ended as arrival_ended}
use Rattle.receiver.proofs.arrival.Symbol.{name as arrival_name, code as arrival_code}
use Rattle.receiver.specs.contracts.link_arrival.{ended as link_ended}
use Rattle.receiver.proofs.link_arrival.Symbol.{name as link_name, code as link_code}
use Rattle.receiver.specs.contracts.open.{ended as open_ended}
use Rattle.receiver.proofs.open.Symbol.{name as open_name, code as open_code}
use Rattle.receiver.specs.contracts.close.{ended as close_ended}
use Rattle.receiver.proofs.close.Symbol.{name as close_name, code as close_code}
use Rattle.receiver.specs.contracts.rebuild.{ended as rebuild_ended}
use Rattle.receiver.proofs.rebuild.Symbol.{name as rebuild_name, code as rebuild_code}
use Rattle.receiver.specs.contracts.reset.{ended as reset_ended}
use Rattle.receiver.proofs.reset.Symbol.{name as reset_name, code as reset_code}
use Rattle.receiver.specs.contracts.tick.{ended as tick_ended}
use Rattle.receiver.proofs.tick.Symbol.{name as tick_name, code as tick_code}
use Rattle.index.specs.Index.{Index}
use Rattle.index.specs.Indexed.{Indexed, checks_with, rebuild_checks}
use Rattle.batch.specs.Batch.{Batch}
use Rattle.batch.specs.Indexed.{batch_checks_with}
use Rattle.batch.specs.declared.Batched.{Batched}
use Rattle.batch.specs.contracts.batch.{ended as batch_ended}
use Rattle.batch.proofs.batch.Symbol.{name as batch_name, code as batch_code}
use Rattle.demands.specs.Code.{Promise, Ensures}
use Rattle.sender.specs.declared.Sender.{Sender}
use Rattle.sender.specs.Sender.{Sends, refuses, comes_to}
use Rattle.sender.specs.Refusals.{send_checks}
use Rattle.sender.specs.contracts.at_first.{ended as first_ended}
use Rattle.sender.proofs.at_first.Symbol.{name as first_name, code as first_code}
use Rattle.sender.specs.contracts.reset.{ended as again_ended}
use Rattle.sender.proofs.reset.Symbol.{name as again_name, code as again_code}
use Rattle.sender.specs.contracts.send.{ended as send_ended}
use Rattle.sender.proofs.send.Symbol.{name as send_name, code as send_code}

-- Where a condition of its list holds, a call says the first such number, and table and output bytes are as they were.
abbrev pub RefusedCall : Table → Call → Result → Type 0
RefusedCall t c r = (n : ℕ) → First n (checks_of t c) → r ≡ record { said = refused n; table = t; output = out_of c }

abbrev pub RefusedTag : {A : Type 0} → List Check → (out : List ℕ) → Outcome A → Type 0
RefusedTag checks out o = (n : ℕ) → First n checks → o ≡ record { said = refused n; bytes = out }

-- A call that takes the index: table and index bytes are as they were.
abbrev pub RefusedIndexed : Index → Table → Call → Indexed → Type 0
RefusedIndexed ix t c r = (n : ℕ) → First n (checks_with ix t c) → r ≡ record { said = refused n; table = t; index = ix }

abbrev pub RefusedRebuild : Index → Table → Said Answer → Index → Type 0
RefusedRebuild ix t said jx = (n : ℕ) → First n (rebuild_checks ix t) → (said ≡ refused n) × (jx ≡ ix)

abbrev pub RefusedBatch : Index → Table → Batch → Batched → (rows : Table) (bytes : List ℕ) → Type 0
RefusedBatch ix t b told rows bytes = (n : ℕ) → First n (batch_checks_with ix t b) → (told.refusal ≡ n) × (told.frames ≡ 0) × (rows ≡ t) × (bytes ≡ b.out)

abbrev pub RefusedSend : Sender → (f out0 out1 : List ℕ) → Sends → Type 0
RefusedSend s f out0 out1 o = (n : ℕ) → First n (send_checks f out0 out1) → o ≡ refuses s out0 out1 n

-- What each call comes to, of a promise over it: a primed name is what stands there afterwards.
abbrev pub OnTable : Type 1
OnTable = Table → Call → Result → Type 0

abbrev pub of_arrival : OnTable → Promise arrival_ended
of_arrival P = λ κs (t, (network, (frame, (out, _)))) r (t', (_, (_, (out', _)))).
    P t.now (arriving network frame.now out.now) (record { said = said_arrival r; table = t'.now; output = out'.now })

abbrev pub of_link : OnTable → Promise link_ended
of_link P = λ κs (t, (network, (frame, (out, _)))) r (t', (_, (_, (out', _)))).
    P t.now (linking network frame.now out.now) (record { said = said_arrival r; table = t'.now; output = out'.now })

abbrev pub WithIndex : Type 1
WithIndex = Index → Table → Call → Indexed → Type 0

abbrev pub of_open : WithIndex → Promise open_ended
of_open P = λ κs (t, (ix, (dest, (vlan, (rule, (window, (time, _))))))) r (t', (ix', _)).
    P ix.now t.now (opening dest vlan rule window time) (record { said = said_opened r; table = t'.now; index = ix'.now })

abbrev pub of_close : WithIndex → Promise close_ended
of_close P = λ κs (t, (ix, (slot, _))) r (t', (ix', _)).
    P ix.now t.now (calls.closing slot) (record { said = said_done r; table = t'.now; index = ix'.now })

abbrev pub of_rebuild : (Index → Table → Said Answer → Index → Type 0) → Promise rebuild_ended
of_rebuild P = λ κs (t, (ix, _)) r (_, (ix', _)). P ix.now t.now (said_done r) ix'.now

abbrev pub of_reset : OnTable → Promise reset_ended
of_reset P = λ κs (t, (slot, _)) r (t', _). P t.now (resetting slot) (record { said = said_done r; table = t'.now; output = [] })

abbrev pub of_tick : OnTable → Promise tick_ended
of_tick P = λ κs (t, _) r (t', _). P t.now ticking (record { said = said_swept r; table = t'.now; output = [] })

abbrev pub of_batch : (Index → Table → Batch → Batched → (rows : Table) (bytes : List ℕ) → Type 0) → Promise batch_ended
of_batch P = λ κs (t, (ix, (network, (count, (frames, (out, _)))))) r (t', (_, (_, (_, (_, (out', _)))))).
    P ix.now t.now (record { network = network; count = count; frames = frames.now; out = out.now }) r t'.now out'.now

abbrev pub of_take : ((f out : List ℕ) → Outcome Bare → Type 0) → Promise take_ended
of_take P = λ κs (frame, (out, _)) r (_, (out', _)). P frame.now out.now (record { said = said_taken r; bytes = out'.now })

abbrev pub of_write : ((f : List ℕ) (number : ℕ) (out : List ℕ) → Outcome ℕ → Type 0) → Promise write_ended
of_write P = λ κs (frame, (number, (out, _))) r (_, (_, (out', _))). P frame.now number out.now (record { said = said_written r; bytes = out'.now })

abbrev pub of_send : (Sender → (f out0 out1 : List ℕ) → Sends → Type 0) → Promise send_ended
of_send P = λ κs (s, (frame, (out0, (out1, _)))) r (_, (_, (out0', (out1', _)))). P s frame.now out0.now out1.now (comes_to r out0'.now out1'.now)

module _ {M : Type 1} {𝓤 : Ura M} (𝓛 : Logic 𝓤) (𝓜 : Model 𝓤 𝓛.H) (𝓡 : Running 𝓤 𝓛.H 𝓜) where
  pub record RefusingCalls : Type 1 where
    pub arrival : Ensures 𝓛 𝓜 𝓡 arrival_ended arrival_name arrival_code (of_arrival RefusedCall)
    pub link-arrival : Ensures 𝓛 𝓜 𝓡 link_ended link_name link_code (of_link RefusedCall)
    pub open-stream : Ensures 𝓛 𝓜 𝓡 open_ended open_name open_code (of_open RefusedIndexed)
    pub close : Ensures 𝓛 𝓜 𝓡 close_ended close_name close_code (of_close RefusedIndexed)
    pub rebuild : Ensures 𝓛 𝓜 𝓡 rebuild_ended rebuild_name rebuild_code (of_rebuild RefusedRebuild)
    pub reset : Ensures 𝓛 𝓜 𝓡 reset_ended reset_name reset_code (of_reset RefusedCall)
    pub tick : Ensures 𝓛 𝓜 𝓡 tick_ended tick_name tick_code (of_tick RefusedCall)
    pub batch : Ensures 𝓛 𝓜 𝓡 batch_ended batch_name batch_code (of_batch RefusedBatch)
    pub take : Ensures 𝓛 𝓜 𝓡 take_ended take_name take_code (of_take (λ f out. RefusedTag (take_checks f out) out))
    pub write : Ensures 𝓛 𝓜 𝓡 write_ended write_name write_code (of_write (λ f number out. RefusedTag (write_checks f out) out))
    pub send : Ensures 𝓛 𝓜 𝓡 send_ended send_name send_code (of_send RefusedSend)
    -- These two refuse nothing: the next number is 0.
    pub at_first : Ensures 𝓛 𝓜 𝓡 first_ended first_name first_code (λ κs a r e. r.next ≡ 0)
    pub again : Ensures 𝓛 𝓜 𝓡 again_ended again_name again_code (λ κs a r e. r.next ≡ 0)

abbrev pub CodeRefuses : Type 2
CodeRefuses =
    (M : Type 1) (𝓤 : Ura M) (𝓛 : Logic 𝓤) (𝓜 : Model 𝓤 𝓛.H) (𝓡 : Running 𝓤 𝓛.H 𝓜)
    → RefusingCalls 𝓛 𝓜 𝓡
