-- The code of the public calls. Assumes nothing.
use Rattle.frame.specs.TagCalls.{said_taken, said_written, take_tag, write_tag}
use Rattle.frame.specs.contracts.take_tag.{ended as take_ended}
use Rattle.frame.proofs.take_tag.Met as take
use Rattle.frame.proofs.take_tag.Symbol.{name as take_name, code as take_code}
use Rattle.frame.specs.contracts.write_tag.{ended as write_ended}
use Rattle.frame.proofs.write_tag.Met as write
use Rattle.frame.proofs.write_tag.Symbol.{name as write_name, code as write_code}
use Rattle.receiver.proofs.arrival.Met as arrival
use Rattle.receiver.proofs.link_arrival.Met as link-arrival
use Rattle.receiver.proofs.open.Met as open-stream
use Rattle.receiver.proofs.close.Met as close
use Rattle.receiver.proofs.rebuild.Met as rebuild
use Rattle.receiver.proofs.reset.Met as reset
use Rattle.receiver.proofs.tick.Met as tick
use Rattle.batch.proofs.batch.Met as batch
use Rattle.demands.specs.Code.{CodeMeets}
use Rattle.demands.proofs.Follows.{outcome}

pub code_meets : CodeMeets
code_meets M 𝓤 𝓛 𝓜 𝓡 = record {
  arrival = arrival.met 𝓤 𝓛 𝓜 𝓡;
  link-arrival = link-arrival.met 𝓤 𝓛 𝓜 𝓡;
  open-stream = open-stream.met 𝓤 𝓛 𝓜 𝓡;
  close = close.met 𝓤 𝓛 𝓜 𝓡;
  rebuild = rebuild.met 𝓤 𝓛 𝓜 𝓡;
  reset = reset.met 𝓤 𝓛 𝓜 𝓡;
  tick = tick.met 𝓤 𝓛 𝓜 𝓡;
  batch = batch.met 𝓤 𝓛 𝓜 𝓡;
  take = outcome 𝓛 𝓜 𝓡 take_ended take_name take_code (λ κs. said_taken) (λ κs e. e.1.0.now) (λ κs a. take_tag a.0.now a.1.0.now) (take.met 𝓤 𝓛 𝓜 𝓡);
  write = outcome 𝓛 𝓜 𝓡 write_ended write_name write_code (λ κs. said_written) (λ κs e. e.1.1.0.now) (λ κs a. write_tag a.0.now a.1.0 a.1.1.0.now) (write.met 𝓤 𝓛 𝓜 𝓡);
}
