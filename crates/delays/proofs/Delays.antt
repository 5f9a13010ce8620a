-- From the delays to exactly once. Assumes nothing.
use Prim.Native.Nat.{ℕ, ◌+◌, ◌-◌, ◌≤◌}
use mathlib.Core.Path.{◌≡◌, refl, ap, ◌∙◌}
use mathlib.Core.Bool.{Bool, true, false}
use mathlib.Core.List.{List, [], ◌∷◌}
use native.Mathlib.Omega.{arith}
use lib.Dec.{eqb}
use Rattle.record.specs.Sizes.{window_most}
use Rattle.stream.specs.Decisions.{Verdict, up, duplicate}
use Rattle.stream.proofs.Law.{law, size}
use Rattle.calls.specs.Table.{at}
use Rattle.demands.specs.Unlimited.{elem, judged, remembered}
use Rattle.demands.specs.Missed.{firsts}
use Rattle.delays.specs.Formulas.{least_window, least_time}
use Rattle.delays.specs.Line.{Known, most, J, Sends, Event, came, ticked, indices, kept, end}
use Rattle.delays.specs.Forgetting.{forgetting, all_near_since}
use Rattle.delays.specs.OnceEach.{Sees, OnceEach, DecidesAcross}
use Rattle.delays.proofs.Promise.{up_where}
use Rattle.delays.proofs.Sending.{long, Comes, comes, Ticks, ticks, future}
use Rattle.delays.proofs.Holds.{Holds, start-holds, on-up, on-again, remembers, on-tick, on-reset}
use Rattle.delays.proofs.Window.{Bridged, start-bridged, onward, Sure, sure}
use Rattle.delays.proofs.Traffic.{later, bridged-later}

module _ (k : Known) (still : List ℕ) (b m : ℕ) (sends : Sends k (J k) b) (l r : ℕ) (window : least_window b m ≤ l)
    (fits : l ≤ window_most) (some : 1 ≤ k.tau) (time : least_time (J k) k.tau ≤ r) where
  record Good (left : ℕ) (hs bs : List ℕ) (es : List Event) : Type 0 where
    nears : all_near_since l r left hs es ≡ true
    once : forgetting l r left hs es ≡ up_where (firsts bs (indices es))

  good : (es : List Event) (left : ℕ) (hs bs : List ℕ) (now due since : ℕ) → Holds k r left hs bs now due since → Bridged still m bs es
      → kept k now due es ≡ true → ((y : ℕ) → elem y still ≡ true → end now es ≤ k.sent y + most k)
      → Good left hs bs es
  unfolding end indices forgetting all_near_since firsts remembered
  good [] left hs bs now due since o w q e = record { nears = refl; once = refl }
  good (came x a ∷ es) left hs bs now due since o w q e =
      let c = comes q in
      go c (sure k still b m sends l window fits hs o c w (future k still es a due c.rest e)) (elem x hs) refl
      (λ left hs s. good es left hs (x ∷ bs) a due since s (onward still m bs x a es w) c.rest e)
    where
      go : Comes k now due x a es → Sure k still b m sends l window hs x → (v : Bool) → elem x hs ≡ v
          → ((left : ℕ) (hs : List ℕ) → Holds k r left hs (x ∷ bs) a due since → Good left hs (x ∷ bs) es)
          → Good left hs bs (came x a ∷ es)
      go c f true i g =
          let j : judged l hs x ≡ duplicate = rw i at f.verdict in
          let s = g left hs (on-again o c i) in
          record { nears = rw (f.nears, j) s.nears; once = rw (j, o.known x i) (ap (λ (vs : List Verdict). duplicate ∷ vs) s.once) }
      go c f false i g =
          let j : judged l hs x ≡ up = rw i at f.verdict in
          let s = g r (x ∷ hs) (on-up o c) in
          record { nears = rw (f.nears, j) s.nears; once = rw (j, remembers o c i) (ap (λ (vs : List Verdict). up ∷ vs) s.once) }
  good (ticked t ∷ es) left hs bs now due since o w q e =
      let c = ticks q in
      go c (eqb left 1) refl (λ left hs since s. good es left hs bs t (t + k.tau) since s w c.rest e)
    where
      go : Ticks k now due t es → (v : Bool) → eqb left 1 ≡ v
          → ((left : ℕ) (hs : List ℕ) (since : ℕ) → Holds k r left hs bs t (t + k.tau) since → Good left hs bs es)
          → Good left hs bs (ticked t ∷ es)
      go c true i g =
          let s = g 0 [] t (on-reset o c i (long (J k) k.tau r some time)) in
          record { nears = rw i s.nears; once = rw i s.once }
      go c false i g =
          let s = g (left - 1) hs since (on-tick o c) in
          record { nears = rw i s.nears; once = rw i s.once }

-- Nothing came before, or `before` did.
pub once-each : {A : Type 0} {sees : Sees A} → DecidesAcross sees → OnceEach sees
once-each d k b still [] es t i run f p s c o window time =
    let g = good k still b k.m s (at t i).window (at t i).time window (size (law f.lawful)).most c.some time
    es 0 [] [] 0 0 0 (start-holds k (at t i).time 0 0) (start-bridged k still es o) c.kept o.awaits in
    d t i run es f p g.nears ∙ g.once
once-each d k b still (e ∷ before) es t i run f p s c o window time =
    let a = later k (e ∷ before) es 0 0 c.kept in
    let g = good k still b (k.m + b) s (at t i).window (at t i).time (omega arith) (size (law f.lawful)).most c.some time
    es 0 [] [] a.time a.due 0 (start-holds k (at t i).time a.time a.due) (bridged-later k still b s (e ∷ before) es a o) a.keeps
    (λ y j. rw a.ends at (o.awaits y j)) in
    d t i run es f p g.nears ∙ g.once
