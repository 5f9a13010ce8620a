-- Every beginning of a run that keeps to a line keeps to it. Assumes nothing.
use Prim.Native.Nat.{ℕ, ◌+◌}
use mathlib.Core.Path.{◌≡◌, refl, ap, sym, ◌∙◌}
use mathlib.Core.Bool.{true}
use mathlib.Core.List.{List, [], ◌∷◌, ◌++◌, append_assoc}
use borrow.Author.Tests.{le-leb}
use Rattle.demands.specs.Unlimited.{elem}
use Rattle.delays.specs.Line.{Known, Event, came, ticked, indices, kept, end, Loses}
use Rattle.delays.specs.OnceEach.{BeginningsKeep}
use Rattle.delays.proofs.Lists.{in-first}
use Rattle.delays.proofs.Sending.{Comes, comes, Ticks, ticks, future}
use Rattle.delays.proofs.Traffic.{indices-append}

-- A run in two parts: the first keeps to the line, and the second from the end of the first on.
record Parts (k : Known) (now due : ℕ) (es later : List Event) : Type 0 where
  pub first : kept k now due es ≡ true
  pub soonest : ℕ
  pub second : kept k (end now es) soonest later ≡ true

parts : (k : Known) (es later : List Event) (now due : ℕ) → kept k now due (es ++ later) ≡ true → Parts k now due es later
unfolding kept end
parts k [] later now due q = record { first = refl; soonest = due; second = q }
parts k (came x a ∷ es) later now due q =
    let c : Comes k now due x a (es ++ later) = comes q in
    let r = parts k es later a due c.rest in
    record {
      first = rw (le-leb now a c.ordered, le-leb _ a c.soonest, le-leb a _ c.latest) r.first;
      soonest = r.soonest;
      second = r.second;
    }
parts k (ticked c ∷ es) later now due q =
    let t : Ticks k now due c (es ++ later) = ticks q in
    let r = parts k es later c (c + k.tau) t.rest in
    record {
      first = rw (le-leb now c t.ordered, le-leb due c t.reached) r.first;
      soonest = r.soonest;
      second = r.second;
    }

-- The second ends where the whole does.
pub ends-append : (es later : List Event) (now : ℕ) → end now (es ++ later) ≡ end (end now es) later
unfolding end
ends-append [] later now = refl
ends-append (came x a ∷ es) later now = ends-append es later a
ends-append (ticked c ∷ es) later now = ends-append es later c

-- What came and what may yet come is the same of the whole run and of its beginning.
yet-to-come : (still : List ℕ) (es later : List Event) → indices (es ++ later) ++ still ≡ indices es ++ (indices later ++ still)
yet-to-come still es later = ap (λ (xs : List ℕ). xs ++ still) (indices-append es later) ∙ append_assoc (indices es) (indices later) still

-- So of the first what comes later may still come, whenever the ticks of the second are due.
pub loses-first : (k : Known) (still : List ℕ) (es later : List Event) (due : ℕ) → kept k (end 0 es) due later ≡ true
    → Loses k still (es ++ later)
    → Loses k (indices later ++ still) es
loses-first k still es later due q loses =
    let e = yet-to-come still es later in
    record {
      awaits = future k still later (end 0 es) due q (λ y i. rw (ends-append es later 0) at (loses.awaits y i));
      losses = λ h x i j c. (
          let heard = ap (elem h) (indices-append es later) ∙ in-first h (indices es) (indices later) i in
          let r = loses.losses h x heard (ap (elem x) e ∙ j) c in (r.0, r.1, r.2, sym (ap (elem r.0) e) ∙ r.3)
          );
    }

pub beginnings-keep : BeginningsKeep
beginnings-keep k still es later keeps loses =
    let p = parts k es later 0 0 keeps.kept in
    (record { some = keeps.some; kept = p.first }, loses-first k still es later p.soonest p.second loses)
