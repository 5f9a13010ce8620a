-- The cases of `specs/LinkCases` compute. Assumes nothing.
use mathlib.Core.Path.{refl}
use Rattle.frame.specs.Bytes.{overlay}
use Rattle.frame.specs.Link.{last_byte, but_last, link_of}
use Rattle.stream.specs.Decisions.{link_steps, link_up, link_case}
use Rattle.calls.specs.Calls.{link_arrival}
use Rattle.demands.proofs.Computing.{computing}
use Rattle.held.specs.LinkCases.{LinkRecordCases, LinkCallCases}

pub link-record-cases : LinkRecordCases
unfolding computing link_steps link_up link_case
link-record-cases = record {
  settings = (refl, refl, refl, refl);
  lawful = (refl, refl, refl, refl, refl, refl, refl, refl);
  fresh = (refl, refl, refl);
  first = refl;
  wraps = refl;
  leaps = refl;
  far = refl;
  again = refl;
  restart = refl;
}

pub link-call-cases : LinkCallCases
unfolding computing overlay last_byte but_last link_of link_steps link_up link_case link_arrival
link-call-cases = record {
  up = (refl, refl);
  again = (refl, refl);
  vlan = refl;
  order = (refl, refl, refl, refl, refl, refl, refl, refl);
  room = refl;
  families = (refl, refl, refl, refl);
  rest = (refl, refl);
  odd = (refl, refl, refl, refl, refl);
  taken = (refl, refl, refl);
}
