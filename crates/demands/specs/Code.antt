-- What ties the demands to the code: each public call, by its name, meets the contract that the demands speak of. Assumes
-- nothing. The kit makes `ended`, `name` and `code` of a function from its signature, its path and its body with those that it
-- calls; the words of the logic are the kit's too, as in every contract.
use Rattle.std.specs.Prelude.{◌≡◌, []}
use seplogic.Ra.Ura.{Ura}
use base.Logic.{emp}
use prog.Model.{Model}
use mir.Syntax.{Callee}
use prog.Wired.{Code, Wired}
use types.Logic.{Logic}
use contract.Lifetimes.{Lfts}
use contract.Monad.{fact}
use contract.Running.{Running}
use denote.Triple.Clauses.{Ended, AtExit, closing}
use denote.Triple.Entry.{Args, Res}
use denote.Triple.Spec as spec
use Rattle.frame.specs.TagCalls.{said_taken, said_written, take_tag, write_tag}
use Rattle.frame.specs.contracts.take_tag.{ended as take_ended}
use Rattle.frame.proofs.take_tag.Symbol.{name as take_name, code as take_code}
use Rattle.frame.specs.contracts.write_tag.{ended as write_ended}
use Rattle.frame.proofs.write_tag.Symbol.{name as write_name, code as write_code}
use Rattle.calls.specs.Calls.{arriving, linking, opening, resetting, ticking, Meets}
use Rattle.calls.specs.Calls as calls
use Rattle.calls.specs.Said.{said_arrival, said_opened, said_done, said_swept}
use Rattle.receiver.specs.contracts.arrival.{ended as arrival_ended}
use Rattle.receiver.proofs.arrival.Symbol.{name as arrival_name, code as arrival_code}
use Rattle.receiver.specs.contracts.link_arrival.{ended as link_ended}
use Rattle.receiver.proofs.link_arrival.Symbol.{name as link_name, code as link_code}
use Rattle.index.specs.Indexed.{MeetsIndexed, MeetsRebuild}
use Rattle.receiver.specs.contracts.open.{ended as open_ended}
use Rattle.receiver.proofs.open.Symbol.{name as open_name, code as open_code}
use Rattle.receiver.specs.contracts.close.{ended as close_ended}
use Rattle.receiver.proofs.close.Symbol.{name as close_name, code as close_code}
use Rattle.receiver.specs.contracts.rebuild.{ended as rebuild_ended}
use Rattle.receiver.proofs.rebuild.Symbol.{name as rebuild_name, code as rebuild_code}
use Rattle.receiver.specs.contracts.reset.{ended as reset_ended}
use Rattle.receiver.proofs.reset.Symbol.{name as reset_name, code as reset_code}
use Rattle.receiver.specs.contracts.tick.{ended as tick_ended}
use Rattle.receiver.proofs.tick.Symbol.{name as tick_name, code as tick_code}
use Rattle.batch.specs.Indexed.{MeetsBatchBy}
use Rattle.batch.specs.contracts.batch.{ended as batch_ended}
use Rattle.batch.proofs.batch.Symbol.{name as batch_name, code as batch_code}

-- A fact of what a function is passed, of its answer, and of what stands afterwards in what it was lent.
abbrev pub Promise : Ended → Type 1
Promise T = (κs : Lfts T.signature.lifetimes) → Args T.signature κs → Res T.signature κs → AtExit T κs → Type 0

module _ {M : Type 1} {𝓤 : Ura M} (𝓛 : Logic 𝓤) (𝓜 : Model 𝓤 𝓛.H) (𝓡 : Running 𝓤 𝓛.H 𝓜) where
  -- Wherever calls by name run the code, a call by this name asks nothing of its caller, and the fact holds when it has returned.
  abbrev pub Ensures : (T : Ended) → Callee → Code → Promise T → Type 1
  Ensures T name code P = Wired 𝓡.env code → spec.Meets 𝓛 T.signature (𝓡.run (𝓡.env name)) (closing 𝓛 T (λ κs a. record {
    ghost = Unit {0};
    requires = λ g. emp 𝓤;
    ensures = λ g r e. fact 𝓤 (P κs a r e);
  }))

  -- The seven calls on a table, of which three take an index, the batch, and the two that have no table: a primed name is what stands
  -- there afterwards.
  pub record PublicCalls : Type 1 where
    pub arrival : Ensures arrival_ended arrival_name arrival_code (λ κs (t, (network, (frame, (out, _)))) r (t', (_, (_, (out', _)))).
        Meets t.now (arriving network frame.now out.now) (record { said = said_arrival r; table = t'.now; output = out'.now }))
    pub link-arrival : Ensures link_ended link_name link_code (λ κs (t, (network, (frame, (out, _)))) r (t', (_, (_, (out', _)))).
        Meets t.now (linking network frame.now out.now) (record { said = said_arrival r; table = t'.now; output = out'.now }))
    pub open-stream : Ensures open_ended open_name open_code (λ κs (t, (ix, (dest, (vlan, (rule, (window, (time, _))))))) r (t', (ix', _)).
        MeetsIndexed ix.now t.now (opening dest vlan rule window time) (record { said = said_opened r; table = t'.now; index = ix'.now }))
    pub close : Ensures close_ended close_name close_code (λ κs (t, (ix, (slot, _))) r (t', (ix', _)).
        MeetsIndexed ix.now t.now (calls.closing slot) (record { said = said_done r; table = t'.now; index = ix'.now }))
    pub rebuild : Ensures rebuild_ended rebuild_name rebuild_code (λ κs (t, (ix, _)) r (_, (ix', _)).
        MeetsRebuild ix.now t.now (said_done r) ix'.now)
    pub reset : Ensures reset_ended reset_name reset_code (λ κs (t, (slot, _)) r (t', _).
        Meets t.now (resetting slot) (record { said = said_done r; table = t'.now; output = [] }))
    pub tick : Ensures tick_ended tick_name tick_code (λ κs (t, _) r (t', _).
        Meets t.now ticking (record { said = said_swept r; table = t'.now; output = [] }))
    pub batch : Ensures batch_ended batch_name batch_code (λ κs (t, (ix, (network, (count, (frames, (out, _)))))) r (t', (_, (_, (_, (_, (out', _)))))).
        MeetsBatchBy ix.now t.now (record { network = network; count = count; frames = frames.now; out = out.now }) r t'.now out'.now)
    pub take : Ensures take_ended take_name take_code (λ κs (frame, (out, _)) r (_, (out', _)).
        record { said = said_taken r; bytes = out'.now } ≡ take_tag frame.now out.now)
    pub write : Ensures write_ended write_name write_code (λ κs (frame, (number, (out, _))) r (_, (_, (out', _))).
        record { said = said_written r; bytes = out'.now } ≡ write_tag frame.now number out.now)

-- In every model of the kit's logic.
abbrev pub CodeMeets : Type 2
CodeMeets =
    (M : Type 1) (𝓤 : Ura M) (𝓛 : Logic 𝓤) (𝓜 : Model 𝓤 𝓛.H) (𝓡 : Running 𝓤 𝓛.H 𝓜)
    → PublicCalls 𝓛 𝓜 𝓡
