-- What one record does, and that its last number is all that counts. Assumes nothing.
use Prim.Native.Nat.{ℕ, ◌^◌, ◌<◌}
use mathlib.Core.Path.{◌≡◌, refl, ap, ap₂, ◌∙◌}
use mathlib.Core.Bool.{Bool, true, false}
use mathlib.Core.Option.{Option, none, some}
use mathlib.Core.List.{List, [], ◌∷◌}
use native.Mathlib.Omega.{arith}
use Rattle.record.specs.declared.Stream.{Stream}
use Rattle.std.specs.Prelude.{if◌then◌else◌}
use Rattle.record.specs.Words.{yes}
use Rattle.record.specs.Sizes.{link_rule}
use Rattle.stream.specs.Decisions.{link_up, link_case, case_of, up, duplicate, is_up, rise, state_after, out_of_order, losses, tally, counts_after, verdict, decided}
use Rattle.links.specs.Links.{last_of, up_behind, Decides, LinkDecides, ups}

no-rise : (count : ℕ) → count < 2 ^ 64 → rise count 0 ≡ count
no-rise count l = omega (arith, l)

pub link-decides : LinkDecides
unfolding verdict decided case_of link_case state_after counts_after tally out_of_order losses yes
link-decides s n w r = go (yes s.state.any) refl (link_up s.state.anchor n) refl
  where
    go : (a : Bool) → yes s.state.any ≡ a → (b : Bool) → link_up s.state.anchor n ≡ b → Decides s n w
    go true e b g = record { verdict = rw e; last = rw e; rogue = rw e; disorder = rw e; lost = λ l. rw e (no-rise s.counts.lost l) }
    go false e true g = record { verdict = rw (e, r, g); last = rw (e, r, g); rogue = rw (e, r, g); disorder = rw (e, r, g); lost = λ l. rw (e, r, g) (no-rise s.counts.lost l) }
    go false e false g = record { verdict = rw (e, r, g); last = rw (e, r, g) (ap (λ (a : Bool). if a then none else some s.state.anchor) e); rogue = rw (e, r, g); disorder = rw (e, r, g); lost = λ l. rw (e, r, g) }

pub rule-stays : (s : Stream) (n w : ℕ) → (decided s n w).rule ≡ s.rule
unfolding decided
rule-stays s n w = refl

-- The last number behind an arrival, and what is handed up by it alone.
abbrev pub last_behind : Option ℕ → ℕ → Option ℕ
last_behind l n = if up_behind l n then some n else l

unfoldable pub by_last : Option ℕ → List ℕ → List Bool
by_last l [] = []
by_last l (n ∷ ns) = up_behind l n ∷ by_last (last_behind l n) ns

pub is-behind : (b : Bool) → is_up (if b then up else duplicate) ≡ b
is-behind true = refl
is-behind false = refl

pub ups-by-last : (s : Stream) (ns : List ℕ) → s.rule ≡ link_rule → ups s ns ≡ by_last (last_of s) ns
unfolding ups by_last
ups-by-last s [] r = refl
ups-by-last s (n ∷ ns) r =
    let d = link-decides s n 0 r in
    ap₂ (λ (b : Bool) (bs : List Bool). b ∷ bs) (ap is_up d.verdict ∙ is-behind (up_behind (last_of s) n))
    (ups-by-last (decided s n 0) ns (rule-stays s n 0 ∙ r) ∙ ap (λ (l : Option ℕ). by_last l ns) d.last)
