-- R ticks without a hand-up end in the fresh state. Assumes nothing.
use Prim.Native.Nat.{◌≤◌}
use mathlib.Core.Path.{◌≡◌, refl, ap, sym, ◌∙◌}
use mathlib.Core.Bool.{true, false≢true}
use mathlib.Core.List.{List, [], ◌∷◌}
use native.Mathlib.Omega.{arith}
use Rattle.record.specs.declared.Stream.{Stream}
use Rattle.record.specs.Words.{yes}
use Rattle.stream.specs.Decisions.{is_up, state_after, case_of, verdict, decided}
use Rattle.stream.proofs.Logic.{tests}
use Rattle.stream.proofs.Law.{Law, spent, fresh-parts}
use Rattle.stream.proofs.Changes.{kept}
use Rattle.stream.proofs.Keeps.{law-with, after-tick}
use Rattle.demands.specs.Seen.{Seen, arrived, tick, ended, nothing, calm, every, ticks}
use Rattle.demands.proofs.Moves.{Trace}

-- Where the gap ends.
pub record Over (s u : Stream) : Type 0 where
  pub law : Law u
  pub any : yes u.state.any ≡ true
  pub rule : u.rule ≡ s.rule
  pub window : u.window ≡ s.window

onward : (s m : Stream) → m.rule ≡ s.rule → m.window ≡ s.window → {u : Stream} → Over m u → Over s u
onward s m r w e = record { law = e.law; any = e.any; rule = e.rule ∙ r; window = e.window ∙ w }

pub gap : (s : Stream) (es : List Seen) (u : Stream) → Law s → Trace s es u → every calm es ≡ true
    → s.state.remaining ≤ ticks es → Over s u
unfolding every ticks decided verdict
gap s [] u l m q h =
    rw m (record { law = l; any = (fresh-parts (spent l (omega arith))).any; rule = refl; window = refl })
gap s (arrived n v ∷ es) u l (m, (e, (w, p)), r) q h =
    let a = simp tests at q in
    let k : state_after s n (case_of s n) ≡ s.state = kept s n (case_of s n) (ap is_up (sym e) ∙ a.0) in
    onward s m (rw p) (rw p)
    (gap m es u (rw p (law-with (state_after s n (case_of s n)) _ l k)) r a.1 (rw (p, k) h))
gap s (tick b ∷ es) u l (m, (e, p), r) q h =
    let a = after-tick l in
    onward s m (rw p a.rule) (rw p a.window) (gap m es u (rw p a.law) r q (rw p (omega (arith, a.less))))
gap s (ended ∷ es) u l m q h = absurd (false≢true q)
gap s (nothing ∷ es) u l m q h = gap s es u l (rw (m.1 l.used) at m.2) q h
