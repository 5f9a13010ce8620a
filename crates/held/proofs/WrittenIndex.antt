-- Each line of `specs/WrittenIndex`, from the laws that it writes out. Assumes nothing.
use mathlib.Core.Path.{refl}
use borrow.Author.Tests.{le-ltb}
use Rattle.record.specs.Sizes.{slots_most}
use Rattle.record.specs.Words.{yes}
use Rattle.calls.specs.Table.{has_key, of_links, hears}
use Rattle.index.specs.Index.{mixed, place_of, named, walk, follow, agrees_at, every_to, agrees, indexed}
use Rattle.index.proofs.Kept.{indexed-is, rebuilt-good, as-without}
use Rattle.index.proofs.Guard.{exactly}
use Rattle.batch.specs.Batch.{comes_to, bundle}
use Rattle.batch.specs.Indexed.{comes_with, batch_by}
use Rattle.batch.proofs.Within.{batch-refused-exactly, batch-refused-keeps, batch-without}
use Rattle.demands.proofs.Theorems as demands
use Rattle.held.specs.WrittenIndex.{WrittenIndex, BatchIndexCases}

pub written-index : WrittenIndex
written-index = record {
  tested = λ ix t. (
    λ h. (let p = (indexed-is ix t).0 h in (p.0, λ dest vlan link. p.1 (record { dest = dest; vlan = vlan; link = link }))),
    λ p. (indexed-is ix t).1 (p.0, λ k. p.1 k.dest k.vlan k.link),
  );
  rebuilt-agrees = λ t l. rebuilt-good t l;
  refuses = λ ix t c n. exactly ix t c n;
  claims = λ ix t c n e. (as-without ix t c).kept n e;
  without = λ ix t c l h. (let w = as-without ix t c in (w.same h, w.both h (le-ltb slots_most _ l)));
  batch-refuses = λ ix t b n. batch-refused-exactly ix t b n;
  batch-claims = λ ix t b n e. batch-refused-keeps ix t b n e;
  batch-without = λ ix t b l h. batch-without ix t b l h;
  runs = λ ix t ds gs m. ((demands.theorems).indexed-coincide ix t ds gs m, (demands.theorems).indexed-are-steps ix t ds gs m);
  left_out = λ ix t s g jx e m. (demands.theorems).left-out-claim-nothing ix t s g jx e m;
  none-left-out = λ ix t ds h. (demands.theorems).nothing-left-out ix t ds h;
}

pub batch-index-cases : BatchIndexCases
unfolding yes has_key of_links hears mixed place_of named walk follow agrees_at every_to agrees indexed comes_to bundle comes_with batch_by
batch-index-cases = record { table = refl; index = refl; network = refl; frames = refl }
