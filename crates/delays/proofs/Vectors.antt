-- A vector stream is no virtual link. Assumes nothing.
use Prim.Native.Nat.{ℕ}
use mathlib.Core.Path.{◌≡◌, sym, ◌∙◌}
use native.Mathlib.Omega.{arith}
use borrow.Author.Tests.{eqb-true}
use Rattle.record.specs.declared.Stream.{Stream}
use Rattle.record.specs.Sizes.{vector_rule, link_rule}
use Rattle.stream.specs.Laws.{Fitting}

pub vector-fits : (s : Stream) (n : ℕ) → s.rule ≡ vector_rule → Fitting s n
vector-fits s n r e = absurd (let z : vector_rule ≡ link_rule = sym r ∙ eqb-true s.rule link_rule e in omega (arith, z))
