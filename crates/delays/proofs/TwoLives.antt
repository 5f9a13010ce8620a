-- A receiver that is started again: both lives. Assumes nothing.
use Prim.Native.Nat.{ℕ, ◌+◌, ◌≤◌}
use mathlib.Core.Path.{◌≡◌, refl, sym, ◌∙◌}
use mathlib.Core.Bool.{true}
use mathlib.Core.List.{List, [], ◌∷◌, ◌++◌, append_assoc}
use native.Mathlib.Omega.{arith}
use borrow.Author.Tests.{le-leb}
use Rattle.demands.specs.Receiver.{Receiver}
use Rattle.demands.specs.Seen.{verdicts}
use Rattle.demands.specs.Corollaries.{handed_of}
use Rattle.demands.specs.Missed.{ExactlyOnce}
use Rattle.delays.specs.Line.{Known, Event, came, ticked, indices, kept, end, Loses}
use Rattle.delays.specs.OnceEach.{Sees, OnceEachOpened}
use Rattle.delays.specs.StartedAgain.{copies_in, ticks_in, Among, OnceEachBothLives}
use Rattle.delays.proofs.Lists.{in-append, in-second}
use Rattle.delays.proofs.Sending.{Comes, comes, Ticks, ticks}
use Rattle.delays.proofs.Traffic.{indices-append}
use Rattle.delays.proofs.EveryBeginning.{ends-append, loses-first}
use Rattle.delays.proofs.Promise.{up-at-first-is-once}
use Rattle.delays.proofs.StartedAgain.{handed-came, once-each-started-again}

-- What keeps to the line from a time on does from a sooner one.
from-sooner : (k : Known) (es : List Event) (now later due : ℕ) → now ≤ later → kept k later due es ≡ true → kept k now due es ≡ true
unfolding kept
from-sooner k [] now later due h q = refl
from-sooner k (came x a ∷ es) now later due h q =
    let c : Comes k later due x a es = comes q in
    rw (le-leb now a (omega arith), le-leb _ a c.soonest, le-leb a _ c.latest) c.rest
from-sooner k (ticked c ∷ es) now later due h q =
    let t : Ticks k later due c es = ticks q in
    rw (le-leb now c (omega arith), le-leb due c t.reached) t.rest

-- Two lives, each with its own clock, keep to the line as one run in which the ticks of the first are struck.
struck : (k : Known) (old es : List Event) (now due : ℕ) → kept k now due old ≡ true → kept k (end now old) 0 es ≡ true
    → kept k now 0 (copies_in old ++ es) ≡ true
unfolding kept end copies_in
struck k [] es now due p q = q
struck k (came x a ∷ old) es now due p q =
    let c : Comes k now due x a old = comes p in
    rw (le-leb now a c.ordered, le-leb _ a c.soonest, le-leb a _ c.latest) (struck k old es a due c.rest q)
struck k (ticked c ∷ old) es now due p q =
    let t : Ticks k now due c old = ticks p in
    from-sooner k (copies_in old ++ es) now c 0 t.ordered (struck k old es c (c + k.tau) t.rest q)

same-indices : (old es : List Event) → indices (copies_in old ++ es) ≡ indices (old ++ es)
unfolding indices copies_in
same-indices [] es = refl
same-indices (came x a ∷ old) es = rw (same-indices old es)
same-indices (ticked c ∷ old) es = same-indices old es

-- A run with a tick ends where it does, whatever came before.
same_end : (wait es : List Event) (n m : ℕ) → 1 ≤ ticks_in wait → end n (wait ++ es) ≡ end m (wait ++ es)
unfolding end ticks_in
same_end [] es n m h = absurd (omega arith)
same_end (came x a ∷ wait) es n m h = refl
same_end (ticked c ∷ wait) es n m h = refl

loses-same : (k : Known) (still : List ℕ) (es fs : List Event) → indices es ≡ indices fs → end 0 es ≡ end 0 fs → Loses k still es → Loses k still fs
loses-same k still es fs i e o = record { awaits = rw e at o.awaits; losses = rw i at o.losses }

loses-struck : (k : Known) (still : List ℕ) (old wait es : List Event) → 1 ≤ ticks_in wait → Loses k still (old ++ wait ++ es)
    → Loses k still (copies_in old ++ wait ++ es)
loses-struck k still old wait es h o =
    rw append_assoc
    (loses-same k still (old ++ (wait ++ es)) (copies_in old ++ (wait ++ es)) (sym (same-indices old (wait ++ es)))
    (ends-append old (wait ++ es) 0 ∙ same_end wait es (end 0 old) (end 0 (copies_in old)) h ∙ sym (ends-append (copies_in old) (wait ++ es) 0))
    (rw append_assoc at o))

pub once-each-both-lives : {A : Type 0} {receive : Receiver} {sees : Sees A} → OnceEachOpened receive sees → OnceEachBothLives receive sees
once-each-both-lives {sees = sees} once k b still before was wait es window₀ time₀ t j old window time u i new f g s p q o l₀ r₀ w l r =
    let vs = verdicts (sees j t old) in
    let v = once k b (indices (wait ++ es) ++ still) before was f.dest f.vlan window₀ time₀ f.table t j old f.answered f.left f.timed
    s p (loses-first k still (before ++ was) (wait ++ es) 0 q.kept (rw (append_assoc (before ++ was) wait es) at o)) l₀ r₀ in
    let e : ExactlyOnce vs (indices was) = rw v (up-at-first-is-once (indices was)) in
    let c : Among (handed_of vs (indices was)) (indices (before ++ was)) =
    λ x i. rw (indices-append before was) (in-second x (indices before) (indices was) (handed-came vs (indices was) x i)) in
    let z = rw (← append_assoc (copies_in (before ++ was)) wait es) at (struck k (before ++ was) (wait ++ es) 0 0 p.kept q.kept) in
    let a = once-each-started-again once k b still (handed_of vs (indices was)) (before ++ was) wait es window time u i new g e.once c
    s (record { some = p.some; kept = z }) (loses-struck k still (before ++ was) wait es (omega arith) o) w l r in
    record {
      old = v;
      new = a.verdicts;
      once = a.once;
      each = λ x. in-append x (handed_of vs (indices was)) _ ∙ rw (e.each x, a.each x) (sym (in-append x (indices was) (indices es)));
    }
