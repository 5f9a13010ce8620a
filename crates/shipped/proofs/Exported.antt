-- The code of the exports. Assumes nothing.
use Prim.Native.Nat.{ℕ}
use mathlib.Core.Path.{◌≡◌, refl, sym, ap, ◌∙◌}
use mathlib.Core.List.{List, []}
use seplogic.Ra.Ura.{Ura}
use prog.Model.{Model}
use mir.Syntax.{Callee}
use prog.Wired.{Code}
use types.Logic.{Logic}
use contract.Lifetimes.{Lfts}
use contract.Running.{Running}
use denote.Triple.Clauses.{Ended, AtExit}
use denote.Triple.Entry.{Args, Res}
use Rattle.refusal.specs.Checks.{Said}
use Rattle.frame.specs.TagCalls.{Outcome, take_tag, write_tag}
use Rattle.calls.specs.Table.{Table}
use Rattle.calls.specs.Calls.{Call, Answer, arriving, linking, opening, closing, resetting, ticking, act, answer, Meets}
use Rattle.calls.specs.Told.{tell_arrival}
use Rattle.index.specs.Index.{Index}
use Rattle.index.specs.Indexed.{guarded, MeetsIndexed, MeetsRebuild}
use Rattle.batch.specs.Told.{tell_batch}
use Rattle.batch.specs.Indexed.{batch_by, MeetsBatchBy}
use Rattle.demands.specs.Code.{Ensures}
use Rattle.demands.proofs.Follows.{follows, EnsuresBoth, both-follow}
use Rattle.sender.specs.declared.Sender.{Sender}
use Rattle.sender.specs.Sender.{sender_at_first, reset_of, send_of}
use Rattle.prp.specs.Prp.{from_prp, to_prp}
use Rattle.port.specs.declared.TagAnswer.{TagAnswer}
use Rattle.port.specs.Tags.{tell_taken, tell_written}
use Rattle.port.specs.Sending.{tell_sent, sender_at, SendsInC}
use Rattle.port.specs.Answers.{tell_opened, tell_done, MeetsInC, MeetsIndexedInC, MeetsRebuildInC}
use Rattle.port_tick.specs.Tick.{tell_swept}
use Rattle.port_prp.specs.Lines.{line_of, tell_turned}
use Rattle.port.specs.contracts.nippitsun_arrival.{ended as arrival_ended}
use Rattle.port.proofs.nippitsun_arrival.Met as arrival
use Rattle.port.proofs.nippitsun_arrival.Symbol.{name as arrival_name, code as arrival_code}
use Rattle.port_link.specs.contracts.nippitsun_link_arrival.{ended as link_arrival_ended}
use Rattle.port_link.proofs.nippitsun_link_arrival.Met as link-arrival
use Rattle.port_link.proofs.nippitsun_link_arrival.Symbol.{name as link_arrival_name, code as link_arrival_code}
use Rattle.port.specs.contracts.nippitsun_open.{ended as open_ended}
use Rattle.port.proofs.nippitsun_open.Met as open-stream
use Rattle.port.proofs.nippitsun_open.Symbol.{name as open_name, code as open_code}
use Rattle.port.specs.contracts.nippitsun_close.{ended as close_ended}
use Rattle.port.proofs.nippitsun_close.Met as close
use Rattle.port.proofs.nippitsun_close.Symbol.{name as close_name, code as close_code}
use Rattle.port.specs.contracts.nippitsun_rebuild.{ended as rebuild_ended}
use Rattle.port.proofs.nippitsun_rebuild.Met as rebuild
use Rattle.port.proofs.nippitsun_rebuild.Symbol.{name as rebuild_name, code as rebuild_code}
use Rattle.port.specs.contracts.nippitsun_reset.{ended as reset_ended}
use Rattle.port.proofs.nippitsun_reset.Met as reset
use Rattle.port.proofs.nippitsun_reset.Symbol.{name as reset_name, code as reset_code}
use Rattle.port_tick.specs.contracts.nippitsun_tick.{ended as tick_ended}
use Rattle.port_tick.proofs.nippitsun_tick.Met as tick
use Rattle.port_tick.proofs.nippitsun_tick.Symbol.{name as tick_name, code as tick_code}
use Rattle.port_batch.specs.contracts.nippitsun_batch.{ended as batch_ended}
use Rattle.port_batch.proofs.nippitsun_batch.Met as batch
use Rattle.port_batch.proofs.nippitsun_batch.Symbol.{name as batch_name, code as batch_code}
use Rattle.port.specs.contracts.nippitsun_take_tag.{ended as take_ended}
use Rattle.port.proofs.nippitsun_take_tag.Met as take
use Rattle.port.proofs.nippitsun_take_tag.Symbol.{name as take_name, code as take_code}
use Rattle.port.specs.contracts.nippitsun_write_tag.{ended as write_ended}
use Rattle.port.proofs.nippitsun_write_tag.Met as write
use Rattle.port.proofs.nippitsun_write_tag.Symbol.{name as write_name, code as write_code}
use Rattle.port.specs.contracts.nippitsun_send.{ended as send_ended}
use Rattle.port.proofs.nippitsun_send.Met as send
use Rattle.port.proofs.nippitsun_send.Symbol.{name as send_name, code as send_code}
use Rattle.port.specs.contracts.nippitsun_reset_sender.{ended as reset_sender_ended}
use Rattle.port.proofs.nippitsun_reset_sender.Met as reset-sender
use Rattle.port.proofs.nippitsun_reset_sender.Symbol.{name as reset_sender_name, code as reset_sender_code}
use Rattle.port_prp.specs.contracts.nippitsun_from_prp.{ended as from_ended}
use Rattle.port_prp.proofs.nippitsun_from_prp.Met as from
use Rattle.port_prp.proofs.nippitsun_from_prp.Symbol.{name as from_name, code as from_code}
use Rattle.port_prp.specs.contracts.nippitsun_to_prp.{ended as to_ended}
use Rattle.port_prp.proofs.nippitsun_to_prp.Met as to
use Rattle.port_prp.proofs.nippitsun_to_prp.Symbol.{name as to_name, code as to_code}
use Rattle.shipped.specs.Exports.{PlainFields, ExportsMeet}
use Rattle.shipped.proofs.Determined as determined

module _ {M : Type 1} {𝓤 : Ura M} (𝓛 : Logic 𝓤) (𝓜 : Model 𝓤 𝓛.H) (𝓡 : Running 𝓤 𝓛.H 𝓜) (T : Ended) (name : Callee) (code : Code) where
  -- a call on a table: how it is told, the table, the call; the table then and the bytes
  on-table : (tell : (κs : Lfts T.signature.lifetimes) → Said Answer → Res T.signature κs)
      (t : (κs : Lfts T.signature.lifetimes) → Args T.signature κs → Table) (c : (κs : Lfts T.signature.lifetimes) → Args T.signature κs → Call)
      (rows : (κs : Lfts T.signature.lifetimes) → AtExit T κs → Table) (bytes : (κs : Lfts T.signature.lifetimes) → AtExit T κs → List ℕ)
      → Ensures 𝓛 𝓜 𝓡 T name code (λ κs a r e. MeetsInC (tell κs) (t κs a) (c κs a) r (rows κs e) (bytes κs e))
      → Ensures 𝓛 𝓜 𝓡 T name code (λ κs a r e. PlainFields (tell κs) r (λ s. Meets (t κs a) (c κs a) (record { said = s; table = rows κs e; output = bytes κs e })))
  on-table tell t c rows bytes =
      follows 𝓛 𝓜 𝓡 T name code (λ κs a r e. MeetsInC (tell κs) (t κs a) (c κs a) r (rows κs e) (bytes κs e))
      (λ κs a r e. PlainFields (tell κs) r (λ s. Meets (t κs a) (c κs a) (record { said = s; table = rows κs e; output = bytes κs e })))
      (λ κs a r e m. record { said = answer (t κs a) (act (t κs a) (c κs a)); fields = m.said; given = record { said = refl; table = m.table; output = m.output } })

  -- a call on a table and an index: the index, the table, the call; both then
  with-index : (tell : (κs : Lfts T.signature.lifetimes) → Said Answer → Res T.signature κs)
      (ix : (κs : Lfts T.signature.lifetimes) → Args T.signature κs → Index) (t : (κs : Lfts T.signature.lifetimes) → Args T.signature κs → Table)
      (c : (κs : Lfts T.signature.lifetimes) → Args T.signature κs → Call)
      (rows : (κs : Lfts T.signature.lifetimes) → AtExit T κs → Table) (bytes : (κs : Lfts T.signature.lifetimes) → AtExit T κs → Index)
      → Ensures 𝓛 𝓜 𝓡 T name code (λ κs a r e. MeetsIndexedInC (tell κs) (ix κs a) (t κs a) (c κs a) r (rows κs e) (bytes κs e))
      → Ensures 𝓛 𝓜 𝓡 T name code (λ κs a r e. PlainFields (tell κs) r (λ s. MeetsIndexed (ix κs a) (t κs a) (c κs a) (record { said = s; table = rows κs e; index = bytes κs e })))
  with-index tell ix t c rows bytes =
      follows 𝓛 𝓜 𝓡 T name code (λ κs a r e. MeetsIndexedInC (tell κs) (ix κs a) (t κs a) (c κs a) r (rows κs e) (bytes κs e))
      (λ κs a r e. PlainFields (tell κs) r (λ s. MeetsIndexed (ix κs a) (t κs a) (c κs a) (record { said = s; table = rows κs e; index = bytes κs e })))
      (λ κs a r e m. record { said = answer (t κs a) (guarded (ix κs a) (t κs a) (c κs a)); fields = m.said; given = record { said = refl; table = m.table; index = m.index } })

  -- a call that has none: how it is told, the bytes then, and the outcome
  no_table : {A : Type 0} (tell : (κs : Lfts T.signature.lifetimes) → Args T.signature κs → Said A → Res T.signature κs)
      (bytes : (κs : Lfts T.signature.lifetimes) → AtExit T κs → List ℕ) (o : (κs : Lfts T.signature.lifetimes) → Args T.signature κs → Outcome A)
      → EnsuresBoth 𝓛 𝓜 𝓡 T name code (λ κs a r e. r ≡ tell κs a (o κs a).said) (λ κs a r e. bytes κs e ≡ (o κs a).bytes)
      → Ensures 𝓛 𝓜 𝓡 T name code (λ κs a r e. PlainFields (tell κs a) r (λ s. record { said = s; bytes = bytes κs e } ≡ o κs a))
  no_table tell bytes o =
      both-follow 𝓛 𝓜 𝓡 T name code (λ κs a r e. r ≡ tell κs a (o κs a).said) (λ κs a r e. bytes κs e ≡ (o κs a).bytes)
      (λ κs a r e. PlainFields (tell κs a) r (λ s. record { said = s; bytes = bytes κs e } ≡ o κs a))
      (λ κs a r e p q. record { said = (o κs a).said; fields = p; given = λ i. record { said = (o κs a).said; bytes = q i } })

-- a send
send-told : {m : ℕ} {f out0 out1 : List ℕ} {told : TagAnswer} {n : ℕ} {bytes0 bytes1 : List ℕ} → SendsInC m f out0 out1 told n bytes0 bytes1
    → PlainFields tell_sent told (λ s. record { said = s; sender = sender_at n; out0 = bytes0; out1 = bytes1 } ≡ send_of (sender_at m) f out0 out1)
send-told {m} {f} {out0} {out1} p = record {
  said = (send_of (sender_at m) f out0 out1).said;
  fields = p.said;
  given = λ i. record { said = (send_of (sender_at m) f out0 out1).said; sender = sender_at (p.number i); out0 = p.first i; out1 = p.second i };
}

pub exports-meet : ExportsMeet
exports-meet M 𝓤 𝓛 𝓜 𝓡 = record {
  arrival = record {
    ensures = on-table 𝓛 𝓜 𝓡 arrival_ended arrival_name arrival_code (λ κs. tell_arrival) (λ κs a. a.0.now) (λ κs a. arriving a.1.0 a.1.1.0.now a.1.1.1.0.now) (λ κs e. e.0.now) (λ κs e. e.1.1.1.0.now) (arrival.met 𝓤 𝓛 𝓜 𝓡);
    determines = λ κs a r s e f p q. let d = determined.on-table p q in (d.0, λ i. (d.1 i, d.2 i));
  };
  link-arrival = record {
    ensures = on-table 𝓛 𝓜 𝓡 link_arrival_ended link_arrival_name link_arrival_code (λ κs. tell_arrival) (λ κs a. a.0.now) (λ κs a. linking a.1.0 a.1.1.0.now a.1.1.1.0.now) (λ κs e. e.0.now) (λ κs e. e.1.1.1.0.now) (link-arrival.met 𝓤 𝓛 𝓜 𝓡);
    determines = λ κs a r s e f p q. let d = determined.on-table p q in (d.0, λ i. (d.1 i, d.2 i));
  };
  open-stream = record {
    ensures = with-index 𝓛 𝓜 𝓡 open_ended open_name open_code (λ κs. tell_opened) (λ κs a. a.1.0.now) (λ κs a. a.0.now) (λ κs a. opening a.1.1.0.now a.1.1.1.0 a.1.1.1.1.0 a.1.1.1.1.1.0 a.1.1.1.1.1.1.0) (λ κs e. e.0.now) (λ κs e. e.1.0.now) (open-stream.met 𝓤 𝓛 𝓜 𝓡);
    determines = λ κs a r s e f p q. let d = determined.with-index p q in (d.0, λ i. (d.1 i, d.2 i));
  };
  close = record {
    ensures = with-index 𝓛 𝓜 𝓡 close_ended close_name close_code (λ κs. tell_done) (λ κs a. a.1.0.now) (λ κs a. a.0.now) (λ κs a. closing a.1.1.0) (λ κs e. e.0.now) (λ κs e. e.1.0.now) (close.met 𝓤 𝓛 𝓜 𝓡);
    determines = λ κs a r s e f p q. let d = determined.with-index p q in (d.0, λ i. (d.1 i, d.2 i));
  };
  rebuild = record {
    ensures = follows 𝓛 𝓜 𝓡 rebuild_ended rebuild_name rebuild_code
        (λ κs (t, (ix, _)) r (_, (ix', _)). MeetsRebuildInC ix.now t.now r ix'.now)
        (λ κs (t, (ix, _)) r (_, (ix', _)). PlainFields tell_done r (λ s. MeetsRebuild ix.now t.now s ix'.now))
        (λ κs a r e m. record { said = _; fields = m.said; given = record { said = refl; index = m.index } }) (rebuild.met 𝓤 𝓛 𝓜 𝓡);
    determines = λ κs a r s e f p q. determined.rebuilds p q;
  };
  reset = record {
    ensures = on-table 𝓛 𝓜 𝓡 reset_ended reset_name reset_code (λ κs. tell_done) (λ κs a. a.0.now) (λ κs a. resetting a.1.0) (λ κs e. e.0.now) (λ κs e. []) (reset.met 𝓤 𝓛 𝓜 𝓡);
    determines = λ κs a r s e f p q. let d = determined.on-table p q in (d.0, d.1);
  };
  tick = record {
    ensures = on-table 𝓛 𝓜 𝓡 tick_ended tick_name tick_code (λ κs. tell_swept) (λ κs a. a.0.now) (λ κs a. ticking) (λ κs e. e.0.now) (λ κs e. []) (tick.met 𝓤 𝓛 𝓜 𝓡);
    determines = λ κs a r s e f p q. let d = determined.on-table p q in (d.0, d.1);
  };
  batch = record {
    ensures = follows 𝓛 𝓜 𝓡 batch_ended batch_name batch_code
        (λ κs (t, (ix, (network, (count, (frames, (out, _)))))) r (t', (_, (_, (_, (_, (out', _)))))). MeetsBatchBy ix.now t.now (record { network = network; count = count; frames = frames.now; out = out.now }) r t'.now out'.now)
        (λ κs (t, (ix, (network, (count, (frames, (out, _)))))) r (t', (_, (_, (_, (_, (out', _)))))).
        PlainFields tell_batch r (λ b. (b ≡ batch_by ix.now t.now (record { network = network; count = count; frames = frames.now; out = out.now })) × (t'.now ≡ b.table) × (out'.now ≡ b.output)))
        (λ κs a r e m. record { said = _; fields = m.said; given = (refl, m.table, m.output) }) (batch.met 𝓤 𝓛 𝓜 𝓡);
    determines = λ κs a r s e f p q. let d = determined.batches p q in (d.0, λ i. (d.1 i, d.2 i));
  };
  take = record {
    ensures = no_table 𝓛 𝓜 𝓡 take_ended take_name take_code (λ κs a. tell_taken) (λ κs e. e.1.0.now) (λ κs a. take_tag a.0.now a.1.0.now) (take.met 𝓤 𝓛 𝓜 𝓡);
    determines = λ κs a r s e f p q. determined.no_table p q;
  };
  write = record {
    ensures = no_table 𝓛 𝓜 𝓡 write_ended write_name write_code (λ κs a. tell_written a.1.0) (λ κs e. e.1.1.0.now) (λ κs a. write_tag a.0.now a.1.0 a.1.1.0.now) (write.met 𝓤 𝓛 𝓜 𝓡);
    determines = λ κs a r s e f p q. determined.no_table p q;
  };
  send = record {
    ensures = follows 𝓛 𝓜 𝓡 send_ended send_name send_code
        (λ κs (sender, (frame, (out0, (out1, _)))) r (sender', (_, (out0', (out1', _)))). SendsInC sender.now frame.now out0.now out1.now r sender'.now out0'.now out1'.now)
        (λ κs (sender, (frame, (out0, (out1, _)))) r (sender', (_, (out0', (out1', _)))).
        PlainFields tell_sent r (λ s. record { said = s; sender = sender_at sender'.now; out0 = out0'.now; out1 = out1'.now } ≡ send_of (sender_at sender.now) frame.now out0.now out1.now))
        (λ κs a r e m. send-told m) (send.met 𝓤 𝓛 𝓜 𝓡);
    determines = λ κs a r s e f p q. let d = determined.sends p q in (d.0, λ i. (d.1 i, d.2 i, d.3 i));
  };
  reset-sender = record {
    ensures = follows 𝓛 𝓜 𝓡 reset_sender_ended reset_sender_name reset_sender_code (λ κs a r e. e.0.now ≡ sender_at_first.next) (λ κs a r e. sender_at e.0.now ≡ reset_of (sender_at a.0.now))
        (λ κs a r e m. ap sender_at m) (reset-sender.met 𝓤 𝓛 𝓜 𝓡);
    determines = λ κs a r s e f p q. (refl, ap (λ (x : Sender). x.next) (p ∙ sym q));
  };
  from-prp = record {
    ensures = no_table 𝓛 𝓜 𝓡 from_ended from_name from_code (λ κs a. tell_turned) (λ κs e. e.1.1.0.now) (λ κs a. from_prp (line_of a.1.0) a.0.now a.1.1.0.now) (from.met 𝓤 𝓛 𝓜 𝓡);
    determines = λ κs a r s e f p q. determined.no_table p q;
  };
  to-prp = record {
    ensures = no_table 𝓛 𝓜 𝓡 to_ended to_name to_code (λ κs a. tell_turned) (λ κs e. e.1.1.1.0.now) (λ κs a. to_prp (line_of a.1.1.0) a.1.0 a.0.now a.1.1.1.0.now) (to.met 𝓤 𝓛 𝓜 𝓡);
    determines = λ κs a r s e f p q. determined.no_table p q;
  };
}
