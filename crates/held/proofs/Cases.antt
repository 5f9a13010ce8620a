-- The cases of `specs/Cases` compute. Assumes nothing.
use mathlib.Core.Path.{refl}
use Rattle.frame.specs.Bytes.{overlay}
use Rattle.frame.specs.Frame.{place_of}
use Rattle.batch.specs.Batch.{runs_past, frames_in, adds_for, ends, turns_in, comes_to, before, bundle, batch_of}
use Rattle.demands.proofs.Computing.{computing}
use Rattle.held.specs.Cases.{NumberCases, LawfulCases, DecisionCases, FrameCases, CallCases}

pub number-cases : NumberCases
unfolding computing
number-cases = record {
  words = refl;
  sizes = refl;
  refusals = refl;
  handed-up = refl;
  again = refl;
  far = refl;
  not_taken = refl;
  not-reached = refl;
  for-open = (refl, refl);
  for-close = (refl, refl);
  for-tick = (refl, refl);
  for-take = (refl, refl);
  for-write = (refl, refl);
  for-send = (refl, refl);
}

pub lawful-cases : LawfulCases
unfolding computing
lawful-cases = record {
  rules = (refl, refl, refl, refl, refl);
  windows = (refl, refl, refl, refl);
  times = (refl, refl, refl);
  vlans = (refl, refl);
  free = refl;
  fresh = (refl, refl, refl, refl, refl, refl);
  ticks = (refl, refl, refl, refl);
  bits = (refl, refl, refl);
  matching = (refl, refl, refl);
  two = (refl, refl, refl);
  word = (refl, refl, refl, refl, refl, refl);
  words = (refl, refl, refl, refl, refl, refl);
  most = (refl, refl, refl, refl, refl, refl);
}

pub decision-cases : DecisionCases
unfolding computing
decision-cases = record {
  first = refl;
  far = refl;
  again = refl;
  late = refl;
  next = refl;
  leaps = refl;
  match-first = refl;
  match-again = refl;
  match-next = refl;
  match-leaps = refl;
  tick = refl;
  last-tick = refl;
  by_call = refl;
  opens = refl;
  closes = refl;
  wraps = (refl, refl, refl, refl, refl);
}

pub frame-cases : FrameCases
unfolding computing place_of
frame-cases = record {
  destination = refl;
  vlan = (refl, refl);
  type-field = (refl, refl);
  short = (refl, refl, refl, refl, refl, refl, refl, refl);
  long = (refl, refl);
}

pub call-cases : CallCases
unfolding computing overlay runs_past frames_in adds_for ends turns_in comes_to before bundle batch_of
call-cases = record {
  rooms = (refl, refl);
  slots = (refl, refl);
  frames = (refl, refl, refl, refl, refl);
  written = (refl, refl, refl);
  sweeps = (refl, refl);
  mended = (refl, refl);
  closed = (refl, refl);
  arrivals = (refl, refl, refl);
  opens = (refl, refl, refl);
  free = (refl, refl);
}
