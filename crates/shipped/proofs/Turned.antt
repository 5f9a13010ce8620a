-- The code of the PRP lines and of the tag calls. Assumes nothing.
use Rattle.frame.specs.TagCalls.{said_taken, said_written}
use Rattle.frame.proofs.Laws.{answers-tell}
use Rattle.demands.proofs.Follows.{outcome}
use Rattle.demands.proofs.Coded.{code_meets}
use Rattle.prp.specs.Prp.{trailer_of, from_prp, to_prp, said_turned}
use Rattle.prp.specs.contracts.from_prp.{ended as from_ended}
use Rattle.prp.proofs.from_prp.Met as from
use Rattle.prp.proofs.from_prp.Symbol.{name as from_name, code as from_code}
use Rattle.prp.specs.contracts.to_prp.{ended as to_ended}
use Rattle.prp.proofs.to_prp.Met as to
use Rattle.prp.proofs.to_prp.Symbol.{name as to_name, code as to_code}
use Rattle.shipped.specs.Turns.{PrpMeets}
use Rattle.shipped.specs.Tags.{TagsMeet}
use Rattle.shipped.proofs.Determined.{outcomes, turneds}

pub prp-meets : PrpMeets
prp-meets M 𝓤 𝓛 𝓜 𝓡 = record {
  from-prp = record {
    ensures = outcome 𝓛 𝓜 𝓡 from_ended from_name from_code (λ κs. said_turned) (λ κs e. e.1.1.0.now) (λ κs a. from_prp (trailer_of a.1.0) a.0.now a.1.1.0.now) (from.met 𝓤 𝓛 𝓜 𝓡);
    determines = λ κs a r s e f p q. outcomes said_turned turneds p q;
  };
  to-prp = record {
    ensures = outcome 𝓛 𝓜 𝓡 to_ended to_name to_code (λ κs. said_turned) (λ κs e. e.1.1.1.0.now) (λ κs a. to_prp (trailer_of a.1.1.0) a.1.0 a.0.now a.1.1.1.0.now) (to.met 𝓤 𝓛 𝓜 𝓡);
    determines = λ κs a r s e f p q. outcomes said_turned turneds p q;
  };
}

pub tags-meet : TagsMeet
tags-meet M 𝓤 𝓛 𝓜 𝓡 = record {
  take = record {
    ensures = (code_meets M 𝓤 𝓛 𝓜 𝓡).take;
    determines = λ κs a r s e f p q. outcomes said_taken answers-tell.3 p q;
  };
  write = record {
    ensures = (code_meets M 𝓤 𝓛 𝓜 𝓡).write;
    determines = λ κs a r s e f p q. outcomes said_written answers-tell.4 p q;
  };
}
