-- The cases of `specs/Cases` compute. Assumes nothing.
use mathlib.Core.Path.{refl}
use Rattle.refusal.specs.Checks.{first_of}
use Rattle.record.specs.Words.{yes}
use Rattle.stream.specs.Record.{settled}
use Rattle.calls.specs.Table.{search, some_slot, has_key, of_links, hears, is_free}
use Rattle.calls.specs.Calls.{checked, open-call, in_use, after}
use Rattle.index.specs.Index.{mixed, place_of, named, walk, follow, agrees_at, every_to, agrees, indexed, vacant, probe, entered, built, rebuilt}
use Rattle.index.specs.Indexed.{guarded, index_after, rebuild_checks, rebuilt_by, unfit_of}
use Rattle.index.specs.Cases.{PlaceCases, FollowCases, AgreeCases, CallCases, FamilyCases}

pub place-cases : PlaceCases
unfolding mixed place_of vacant probe entered built rebuilt yes
place-cases = record { own = refl; round = refl; free = refl }

pub follow-cases : FollowCases
unfolding mixed place_of named walk follow hears has_key of_links yes
follow-cases = record { over = refl; ends = refl; vlan = refl; all = refl; gone = refl }

pub agree-cases : AgreeCases
unfolding mixed place_of named walk follow hears has_key of_links yes agrees_at every_to agrees indexed
agree-cases = record {
  all_one = (refl, refl);
  other = refl;
  lower = refl;
  higher = refl;
  beyond = refl;
  empty = (refl, refl);
  lengths = (refl, refl);
}

pub call-cases : CallCases
unfolding mixed place_of named walk follow hears has_key of_links yes settled agrees_at every_to agrees indexed vacant probe entered built rebuilt guarded index_after after rebuild_checks rebuilt_by unfit_of first_of checked open-call in_use search some_slot is_free
call-cases = record {
  closes-lower = refl;
  tombstone = refl;
  closed = refl;
  full = refl;
  filled = refl;
  table = refl;
  settings = (refl, refl);
  slot = (refl, refl);
  short = (refl, refl, refl);
  unfit = (refl, refl, refl);
  left = refl;
  rebuilds = (refl, refl);
  refuses = (refl, refl, refl, refl);
}

pub family-cases : FamilyCases
unfolding mixed place_of named walk follow hears has_key of_links yes settled agrees_at every_to agrees indexed vacant probe entered built rebuilt guarded index_after after rebuild_checks rebuilt_by unfit_of first_of checked open-call in_use search some_slot is_free
family-cases = record {
  alone = (refl, refl);
  both = (refl, refl);
  found = (refl, refl);
  rebuilds = refl;
  taken = (refl, refl, refl);
  opens = (refl, refl);
}
