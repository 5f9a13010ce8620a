-- Every function that the library exports to C, by its name, and what it must ensure: over the definitions of the documents, not over
-- the records of its own crate. So an export that ensures less is refused here. The plain fields are told by the port crates' own
-- `tell..`. `bindings/check` holds the lines of `Exports` to the symbols of the archive, one for each. Assumes nothing.
use Rattle.std.specs.Prelude.{ℕ, ◌≡◌, List, []}
use seplogic.Ra.Ura.{Ura}
use prog.Model.{Model}
use types.Logic.{Logic}
use contract.Running.{Running}
use Rattle.frame.specs.TagCalls.{take_tag, write_tag}
use Rattle.calls.specs.Table.{Table}
use Rattle.calls.specs.Calls.{arriving, linking, opening, closing, resetting, ticking, Meets}
use Rattle.calls.specs.Told.{tell_arrival}
use Rattle.index.specs.Index.{Index}
use Rattle.index.specs.Indexed.{MeetsIndexed, MeetsRebuild}
use Rattle.batch.specs.Told.{tell_batch}
use Rattle.batch.specs.Indexed.{batch_by}
use Rattle.sender.specs.Sender.{reset_of, send_of}
use Rattle.prp.specs.Prp.{from_prp, to_prp}
use Rattle.port.specs.Tags.{tell_taken, tell_written}
use Rattle.port.specs.Sending.{tell_sent, sender_at}
use Rattle.port.specs.Answers.{tell_opened, tell_done}
use Rattle.port_tick.specs.Tick.{tell_swept}
use Rattle.port_prp.specs.Lines.{line_of, tell_turned}
use Rattle.port.specs.contracts.nippitsun_arrival.{ended as arrival_ended}
use Rattle.port.proofs.nippitsun_arrival.Symbol.{name as arrival_name, code as arrival_code}
use Rattle.port_link.specs.contracts.nippitsun_link_arrival.{ended as link_arrival_ended}
use Rattle.port_link.proofs.nippitsun_link_arrival.Symbol.{name as link_arrival_name, code as link_arrival_code}
use Rattle.port.specs.contracts.nippitsun_open.{ended as open_ended}
use Rattle.port.proofs.nippitsun_open.Symbol.{name as open_name, code as open_code}
use Rattle.port.specs.contracts.nippitsun_close.{ended as close_ended}
use Rattle.port.proofs.nippitsun_close.Symbol.{name as close_name, code as close_code}
use Rattle.port.specs.contracts.nippitsun_rebuild.{ended as rebuild_ended}
use Rattle.port.proofs.nippitsun_rebuild.Symbol.{name as rebuild_name, code as rebuild_code}
use Rattle.port.specs.contracts.nippitsun_reset.{ended as reset_ended}
use Rattle.port.proofs.nippitsun_reset.Symbol.{name as reset_name, code as reset_code}
use Rattle.port_tick.specs.contracts.nippitsun_tick.{ended as tick_ended}
use Rattle.port_tick.proofs.nippitsun_tick.Symbol.{name as tick_name, code as tick_code}
use Rattle.port_batch.specs.contracts.nippitsun_batch.{ended as batch_ended}
use Rattle.port_batch.proofs.nippitsun_batch.Symbol.{name as batch_name, code as batch_code}
use Rattle.port.specs.contracts.nippitsun_take_tag.{ended as take_ended}
use Rattle.port.proofs.nippitsun_take_tag.Symbol.{name as take_name, code as take_code}
use Rattle.port.specs.contracts.nippitsun_write_tag.{ended as write_ended}
use Rattle.port.proofs.nippitsun_write_tag.Symbol.{name as write_name, code as write_code}
use Rattle.port.specs.contracts.nippitsun_send.{ended as send_ended}
use Rattle.port.proofs.nippitsun_send.Symbol.{name as send_name, code as send_code}
use Rattle.port.specs.contracts.nippitsun_reset_sender.{ended as reset_sender_ended}
use Rattle.port.proofs.nippitsun_reset_sender.Symbol.{name as reset_sender_name, code as reset_sender_code}
use Rattle.port_prp.specs.contracts.nippitsun_from_prp.{ended as from_ended}
use Rattle.port_prp.proofs.nippitsun_from_prp.Symbol.{name as from_name, code as from_code}
use Rattle.port_prp.specs.contracts.nippitsun_to_prp.{ended as to_ended}
use Rattle.port_prp.proofs.nippitsun_to_prp.Symbol.{name as to_name, code as to_code}
use Rattle.shipped.specs.Ships.{Ships}

-- What is told in plain fields stands for what the call said; and that, with what it left, is what the documents give.
pub record PlainFields {S A : Type 0} (tell : S → A) (told : A) (Given : S → Type 0) : Type 0 where
  pub said : S
  pub fields : told ≡ tell said
  pub given : Given said

module _ {M : Type 1} {𝓤 : Ura M} (𝓛 : Logic 𝓤) (𝓜 : Model 𝓤 𝓛.H) (𝓡 : Running 𝓤 𝓛.H 𝓜) where
  -- A line: what the code ensures, and what it was lent to change. A primed name is what stands there afterwards.
  pub record Exports : Type 1 where
    pub arrival : Ships 𝓛 𝓜 𝓡 arrival_ended arrival_name arrival_code (λ κs (t, (network, (frame, (out, _)))) r (t', (_, (_, (out', _)))).
        PlainFields tell_arrival r (λ s. Meets t.now (arriving network frame.now out.now) (record { said = s; table = t'.now; output = out'.now })))
        {X = Table × List ℕ} (λ κs (t', (_, (_, (out', _)))). (t'.now, out'.now))
    pub link-arrival : Ships 𝓛 𝓜 𝓡 link_arrival_ended link_arrival_name link_arrival_code (λ κs (t, (network, (frame, (out, _)))) r (t', (_, (_, (out', _)))).
        PlainFields tell_arrival r (λ s. Meets t.now (linking network frame.now out.now) (record { said = s; table = t'.now; output = out'.now })))
        {X = Table × List ℕ} (λ κs (t', (_, (_, (out', _)))). (t'.now, out'.now))
    pub open-stream : Ships 𝓛 𝓜 𝓡 open_ended open_name open_code (λ κs (t, (ix, (dest, (vlan, (rule, (window, (time, _))))))) r (t', (ix', _)).
        PlainFields tell_opened r (λ s. MeetsIndexed ix.now t.now (opening dest.now vlan rule window time) (record { said = s; table = t'.now; index = ix'.now })))
        {X = Table × Index} (λ κs (t', (ix', _)). (t'.now, ix'.now))
    pub close : Ships 𝓛 𝓜 𝓡 close_ended close_name close_code (λ κs (t, (ix, (slot, _))) r (t', (ix', _)).
        PlainFields tell_done r (λ s. MeetsIndexed ix.now t.now (closing slot) (record { said = s; table = t'.now; index = ix'.now })))
        {X = Table × Index} (λ κs (t', (ix', _)). (t'.now, ix'.now))
    pub rebuild : Ships 𝓛 𝓜 𝓡 rebuild_ended rebuild_name rebuild_code (λ κs (t, (ix, _)) r (_, (ix', _)).
        PlainFields tell_done r (λ s. MeetsRebuild ix.now t.now s ix'.now))
        {X = Index} (λ κs (_, (ix', _)). ix'.now)
    pub reset : Ships 𝓛 𝓜 𝓡 reset_ended reset_name reset_code (λ κs (t, (slot, _)) r (t', _).
        PlainFields tell_done r (λ s. Meets t.now (resetting slot) (record { said = s; table = t'.now; output = [] })))
        {X = Table} (λ κs (t', _). t'.now)
    pub tick : Ships 𝓛 𝓜 𝓡 tick_ended tick_name tick_code (λ κs (t, _) r (t', _).
        PlainFields tell_swept r (λ s. Meets t.now ticking (record { said = s; table = t'.now; output = [] })))
        {X = Table} (λ κs (t', _). t'.now)
    pub batch : Ships 𝓛 𝓜 𝓡 batch_ended batch_name batch_code (λ κs (t, (ix, (network, (count, (frames, (out, _)))))) r (t', (_, (_, (_, (_, (out', _)))))).
        PlainFields tell_batch r (λ b. (b ≡ batch_by ix.now t.now (record { network = network; count = count; frames = frames.now; out = out.now })) × (t'.now ≡ b.table) × (out'.now ≡ b.output)))
        {X = Table × List ℕ} (λ κs (t', (_, (_, (_, (_, (out', _)))))). (t'.now, out'.now))
    pub take : Ships 𝓛 𝓜 𝓡 take_ended take_name take_code (λ κs (frame, (out, _)) r (_, (out', _)).
        PlainFields tell_taken r (λ s. record { said = s; bytes = out'.now } ≡ take_tag frame.now out.now))
        {X = List ℕ} (λ κs (_, (out', _)). out'.now)
    pub write : Ships 𝓛 𝓜 𝓡 write_ended write_name write_code (λ κs (frame, (number, (out, _))) r (_, (_, (out', _))).
        PlainFields (tell_written number) r (λ s. record { said = s; bytes = out'.now } ≡ write_tag frame.now number out.now))
        {X = List ℕ} (λ κs (_, (_, (out', _))). out'.now)
    pub send : Ships 𝓛 𝓜 𝓡 send_ended send_name send_code (λ κs (sender, (frame, (out0, (out1, _)))) r (sender', (_, (out0', (out1', _)))).
        PlainFields tell_sent r (λ s. record { said = s; sender = sender_at sender'.now; out0 = out0'.now; out1 = out1'.now } ≡ send_of (sender_at sender.now) frame.now out0.now out1.now))
        {X = ℕ × List ℕ × List ℕ} (λ κs (sender', (_, (out0', (out1', _)))). (sender'.now, out0'.now, out1'.now))
    pub reset-sender : Ships 𝓛 𝓜 𝓡 reset_sender_ended reset_sender_name reset_sender_code (λ κs (sender, _) r (sender', _).
        sender_at sender'.now ≡ reset_of (sender_at sender.now))
        {X = ℕ} (λ κs (sender', _). sender'.now)
    pub from-prp : Ships 𝓛 𝓜 𝓡 from_ended from_name from_code (λ κs (frame, (kind, (out, _))) r (_, (_, (out', _))).
        PlainFields tell_turned r (λ s. record { said = s; bytes = out'.now } ≡ from_prp (line_of kind) frame.now out.now))
        {X = List ℕ} (λ κs (_, (_, (out', _))). out'.now)
    pub to-prp : Ships 𝓛 𝓜 𝓡 to_ended to_name to_code (λ κs (frame, (network, (kind, (out, _)))) r (_, (_, (_, (out', _)))).
        PlainFields tell_turned r (λ s. record { said = s; bytes = out'.now } ≡ to_prp (line_of kind) network frame.now out.now))
        {X = List ℕ} (λ κs (_, (_, (_, (out', _)))). out'.now)

-- In every model of the kit's logic.
abbrev pub ExportsMeet : Type 2
ExportsMeet =
    (M : Type 1) (𝓤 : Ura M) (𝓛 : Logic 𝓤) (𝓜 : Model 𝓤 𝓛.H) (𝓡 : Running 𝓤 𝓛.H 𝓜)
    → Exports 𝓛 𝓜 𝓡
