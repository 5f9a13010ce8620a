-- From bytes to bytes, of the code of both ends: `send` and `reset` of the sender, the seven calls of the receiver and the batch, by their
-- names, in a program that keeps an index beside its table. Assumes nothing. The words of the logic are the kit's, as in `Code` of `demands`.
use Rattle.std.specs.Prelude.{ℕ, ◌+◌, ◌≡◌, List, [], ◌∷◌, ◌++◌, eqb, take, drop}
use seplogic.Ra.Ura.{Ura}
use prog.Model.{Model}
use mir.Syntax.{Callee}
use prog.Wired.{Code}
use types.Logic.{Logic}
use contract.Lifetimes.{Lfts}
use contract.Running.{Running}
use denote.Triple.Clauses.{Ended, AtExit}
use denote.Triple.Entry.{Args, Res}
use Rattle.std.specs.Prelude.{if◌then◌else◌}
use Rattle.calls.specs.Table.{Table, at}
use Rattle.calls.specs.Calls.{arriving, linking, opening, closing, resetting, ticking}
use Rattle.calls.specs.Said.{said_arrival, said_opened, said_done, said_swept}
use Rattle.calls.specs.declared.ArrivalAnswer.{ArrivalAnswer}
use Rattle.receiver.specs.contracts.arrival.{ended as arrival_ended}
use Rattle.receiver.proofs.arrival.Symbol.{name as arrival_name, code as arrival_code}
use Rattle.receiver.specs.contracts.link_arrival.{ended as link_ended}
use Rattle.receiver.proofs.link_arrival.Symbol.{name as link_name, code as link_code}
use Rattle.receiver.specs.contracts.open.{ended as open_ended}
use Rattle.receiver.proofs.open.Symbol.{name as open_name, code as open_code}
use Rattle.receiver.specs.contracts.close.{ended as close_ended}
use Rattle.receiver.proofs.close.Symbol.{name as close_name, code as close_code}
use Rattle.receiver.specs.contracts.rebuild.{ended as rebuild_ended}
use Rattle.receiver.proofs.rebuild.Symbol.{name as rebuild_name, code as rebuild_code}
use Rattle.receiver.specs.contracts.reset.{ended as reset_ended}
use Rattle.receiver.proofs.reset.Symbol.{name as reset_name, code as reset_code}
use Rattle.receiver.specs.contracts.tick.{ended as tick_ended}
use Rattle.receiver.proofs.tick.Symbol.{name as tick_name, code as tick_code}
use Rattle.batch.specs.contracts.batch.{ended as batch_ended}
use Rattle.batch.proofs.batch.Symbol.{name as batch_name, code as batch_code}
use Rattle.demands.specs.Receiver.{the_receiver}
use Rattle.demands.specs.Missed.{FreshVector}
use Rattle.index.specs.Index.{Index}
use Rattle.demands.specs.Steps.{single, batch, the_machine, read_as, Got, result, told, given_all}
use Rattle.demands.specs.Indexed.{Doing, step, rebuilds, steps_of, GotBy, got, index_left, table_left, plainly}
use Rattle.demands.specs.Indexed as indexed
use Rattle.demands.specs.Code.{Promise, Ensures}
use Rattle.sender.specs.declared.Sender.{Sender}
use Rattle.sender.specs.Sender.{comes_to}
use Rattle.sender.specs.Runs as sends
use Rattle.sender.specs.Runs.{the_side, sent_in}
use Rattle.sender.specs.contracts.send.{ended as send_ended}
use Rattle.sender.proofs.send.Symbol.{name as send_name, code as send_code}
use Rattle.sender.specs.contracts.reset.{ended as reset_sender_ended}
use Rattle.sender.proofs.reset.Symbol.{name as reset_sender_name, code as reset_sender_code}
use Rattle.delays.specs.Line.{Known, Event}
use Rattle.end_to_end.specs.Bytes.{got_of, given_at, once_each, Between}

-- ---- a call of a code

-- An outcome of a code: every promise that the code ensures, in every model of the kit's logic, holds of it. What the code comes to when
-- it is run is one: that is what the kit's logic is for.
abbrev pub OutcomeOf : (T : Ended) → Callee → Code → (κs : Lfts T.signature.lifetimes) → Args T.signature κs → Res T.signature κs → AtExit T κs → Type 2
OutcomeOf T name code κs a r e =
    (P : Promise T)
    → ((M : Type 1) (𝓤 : Ura M) (𝓛 : Logic 𝓤) (𝓜 : Model 𝓤 𝓛.H) (𝓡 : Running 𝓤 𝓛.H 𝓜) → Ensures 𝓛 𝓜 𝓡 T name code P)
    → P κs a r e

-- The code was called with x and came to y, where `passed` and `left` say what its arguments and its outcome are in the statements.
pub record CodeCalled (T : Ended) (name : Callee) (code : Code) {X Y : Type 0} (passed : (κs : Lfts T.signature.lifetimes) → Args T.signature κs → X) (left : (κs : Lfts T.signature.lifetimes) → Res T.signature κs → AtExit T κs → Y) (x : X) (y : Y) : Type 2 where
  pub κs : Lfts T.signature.lifetimes
  pub arguments : Args T.signature κs
  pub answer : Res T.signature κs
  pub exit : AtExit T κs
  pub outcome : OutcomeOf T name code κs arguments answer exit
  pub with-x : passed κs arguments ≡ x
  pub to-y : left κs answer exit ≡ y

-- ---- the receiver's end

-- What a program does on an index and a table, and what it gets: a call of one of these. A primed name is what stands there afterwards.
pub data Receives (ix : Index) (t : Table) (d : Doing) : GotBy → Type 2 where
  arrival : {g : GotBy} → CodeCalled arrival_ended arrival_name arrival_code {X = Index × Table × Doing}
      (λ κs (t, (network, (frame, (out, _)))). (ix, t.now, step (single (arriving network frame.now out.now))))
      (λ κs r (t', (_, (_, (out', _)))). got (result (record { said = said_arrival r; table = t'.now; output = out'.now })) ix) (ix, t, d) g → Receives ix t d g
  link-arrival : {g : GotBy} → CodeCalled link_ended link_name link_code {X = Index × Table × Doing}
      (λ κs (t, (network, (frame, (out, _)))). (ix, t.now, step (single (linking network frame.now out.now))))
      (λ κs r (t', (_, (_, (out', _)))). got (result (record { said = said_arrival r; table = t'.now; output = out'.now })) ix) (ix, t, d) g → Receives ix t d g
  open-stream : {g : GotBy} → CodeCalled open_ended open_name open_code {X = Index × Table × Doing}
      (λ κs (t, (ix, (dest, (vlan, (rule, (window, (time, _))))))). (ix.now, t.now, step (single (opening dest vlan rule window time))))
      (λ κs r (t', (ix', _)). got (result (record { said = said_opened r; table = t'.now; output = [] })) ix'.now) (ix, t, d) g → Receives ix t d g
  close : {g : GotBy} → CodeCalled close_ended close_name close_code {X = Index × Table × Doing}
      (λ κs (t, (ix, (slot, _))). (ix.now, t.now, step (single (closing slot))))
      (λ κs r (t', (ix', _)). got (result (record { said = said_done r; table = t'.now; output = [] })) ix'.now) (ix, t, d) g → Receives ix t d g
  rebuild : {g : GotBy} → CodeCalled rebuild_ended rebuild_name rebuild_code {X = Index × Table × Doing}
      (λ κs (t, (ix, _)). (ix.now, t.now, rebuilds)) (λ κs r (_, (ix', _)). indexed.made (said_done r) ix'.now) (ix, t, d) g → Receives ix t d g
  reset : {g : GotBy} → CodeCalled reset_ended reset_name reset_code {X = Index × Table × Doing}
      (λ κs (t, (slot, _)). (ix, t.now, step (single (resetting slot))))
      (λ κs r (t', _). got (result (record { said = said_done r; table = t'.now; output = [] })) ix) (ix, t, d) g → Receives ix t d g
  tick : {g : GotBy} → CodeCalled tick_ended tick_name tick_code {X = Index × Table × Doing}
      (λ κs (t, _). (ix, t.now, step (single ticking)))
      (λ κs r (t', _). got (result (record { said = said_swept r; table = t'.now; output = [] })) ix) (ix, t, d) g → Receives ix t d g
  in-batch : {g : Got} → CodeCalled batch_ended batch_name batch_code {X = Index × Table × Doing}
      (λ κs (t, (ix, (network, (count, (frames, (out, _)))))). (ix.now, t.now, step (batch (record { network = network; count = count; frames = frames.now; out = out.now }))))
      (λ κs r (t', (_, (_, (_, (_, (out', _)))))). told r t'.now out'.now) (ix, t, d) g → Receives ix t d (got g ix)

-- Each on the index and the table that the one before it left.
pub data ReceiverRan : Index → Table → List Doing → List GotBy → Type 2 where
  none_made : {ix : Index} {t : Table} → ReceiverRan ix t [] []
  made : {ix : Index} {t : Table} {d : Doing} {ds : List Doing} {g : GotBy} {gs : List GotBy} → Receives ix t d g → ReceiverRan (index_left g) (table_left t g) ds gs → ReceiverRan ix t (d ∷ ds) (g ∷ gs)

-- What the application gets from the stream in slot i, read from what the program got: of a batch by the fields of its answers (verdict 1
-- is handed up, with its length), and along the output by the lengths.
unfoldable pub got_told : (slot : ℕ) → List ArrivalAnswer → (output : List ℕ) → List (List ℕ)
got_told i [] output = []
got_told i (a ∷ rest) output =
    if eqb a.verdict 1 then (if eqb a.slot i then take a.length (drop 2 output) ∷ [] else []) ++ got_told i rest (drop (2 + a.length) output)
    else got_told i rest output

abbrev pub got_of_step : (slot : ℕ) → Got → List (List ℕ)
got_of_step i (result r) = got_of i r.said r.output
got_of_step i (told a rows bytes) = got_told i a.answers bytes

unfoldable pub got_all : (slot : ℕ) → List GotBy → List (List ℕ)
got_all i [] = []
got_all i (got g jx ∷ gs) = got_of_step i g ++ got_all i gs
got_all i (indexed.made w jx ∷ gs) = got_all i gs

-- ---- the sender's end

pub data SenderDoes (s : Sender) (c : sends.Call) (g : sends.SideGot) : Type 2 where
  send : CodeCalled send_ended send_name send_code {X = Sender × sends.Call}
      (λ κs (s, (frame, (out0, (out1, _)))). (s, sends.sending frame.now out0.now out1.now))
      (λ κs r (_, (_, (out0', (out1', _)))). sends.sent_so (comes_to r out0'.now out1'.now)) (s, c) g → SenderDoes s c g
  reset : CodeCalled reset_sender_ended reset_sender_name reset_sender_code {X = Sender × sends.Call} (λ κs (s, _). (s, sends.resetting)) (λ κs r e. sends.reset_so r) (s, c) g → SenderDoes s c g

pub data SenderRan : Sender → List sends.Call → List sends.SideGot → Type 2 where
  none_made : {s : Sender} → SenderRan s [] []
  made : {s : Sender} {c : sends.Call} {cs : List sends.Call} {g : sends.SideGot} {gs : List sends.SideGot}
      → SenderDoes s c g → SenderRan (sends.sender_left g) cs gs → SenderRan s (c ∷ cs) (g ∷ gs)

-- ---- both

-- What a program gets from the code of either end is what the definitions give, of the steps that its run is read as: so what `Between`
-- says of these it says of what was got.
pub record RansCoincide : Type 2 where
  pub sender : (s : Sender) (calls : List sends.Call) (gs : List sends.SideGot) → SenderRan s calls gs → gs ≡ sends.side_gives_all the_side s calls
  pub receiver : (ix : Index) (t : Table) (ds : List Doing) (rs : List GotBy) → ReceiverRan ix t ds rs → plainly ix t ds rs ≡ given_all the_machine t (steps_of ix t ds)

-- `BytesToBytes`, with batches, of what the two programs got: what the application gets is each frame that was given to the code of the
-- sender, and of which a copy arrived, byte for byte, exactly once.
abbrev pub CodeToCode : Type 2
CodeToCode =
    (k : Known) (b : ℕ) (still : List ℕ) (before es : List Event) (s : Sender) (sending : List sends.Call) (gs : List sends.SideGot) (ix : Index) (t : Table) (i : ℕ) (ds : List Doing) (rs : List GotBy) (places : List ℕ)
    → SenderRan s sending gs
    → ReceiverRan ix t ds rs
    → FreshVector (at t i)
    → Between the_receiver the_side k b still before es s sending t i (read_as the_machine t (steps_of ix t ds)) places
    → got_all i rs ≡ given_at (sent_in sending gs) (once_each [] places)
