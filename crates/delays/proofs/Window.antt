-- The window: every arrival after the first lies less than L from the highest. Assumes nothing.
use Prim.Native.Nat.{ℕ, suc, ◌+◌, ◌-◌, ◌≤◌, ◌<◌}
use mathlib.Core.Path.{◌≡◌, refl}
use mathlib.Core.Logic.{◌⊎◌, inl, inr, ⊎_elim}
use mathlib.Core.Bool.{true}
use mathlib.Core.List.{List, [], ◌∷◌, ◌++◌}
use native.Mathlib.Omega.{arith}
use native.Mathlib.Decide.{dec_lt}
use borrow.Author.Tests.{lt-ltb, le-leb}
use Rattle.std.specs.Prelude.{if◌then◌else◌}
use Rattle.record.specs.Sizes.{window_most}
use Rattle.stream.specs.Decisions.{up, duplicate}
use Rattle.demands.specs.Unlimited.{elem, highest, apart, judged, near}
use Rattle.demands.specs.Missed.{all_close}
use Rattle.demands.proofs.Handed.{above}
use Rattle.delays.specs.Formulas.{least_window}
use Rattle.delays.specs.Line.{Known, most, J, Sends, Event, came, ticked, indices, kept, end, Loses}
use Rattle.delays.specs.OnceEach.{WindowHolds}
use Rattle.delays.proofs.Lists.{none, either, here, there, top_in, in-first}
use Rattle.delays.proofs.Sending.{no-sooner, overtaken, Comes, comes, ticks, future}
use Rattle.delays.proofs.Holds.{Holds, start-holds, on-up, on-tick}

-- A run falls into what came, bs, and what comes, es and still. If an index is further ahead than m + 1 behind one that came, one
-- between them came or comes.
abbrev pub Bridged : (still : List ℕ) (m : ℕ) (bs : List ℕ) (es : List Event) → Type 0
Bridged still m bs es = (h x : ℕ) → (elem h bs ≡ true) ⊎ (elem h (indices es) ≡ true) → elem x (indices es) ≡ true → h + suc m < x
    → (y : ℕ) × (h < y) × (y ≤ h + suc m) × ((elem y bs ≡ true) ⊎ (elem y (indices es ++ still) ≡ true))

pub start-bridged : (k : Known) (still : List ℕ) (es : List Event) → Loses k still es → Bridged still k.m [] es
start-bridged k still es o h x i j c =
    let r = o.losses h x (⊎_elim (λ e. absurd (none h e)) (λ e. e) i) (in-first x (indices es) still j) c in
    (r.0, r.1, r.2, inr r.3)

pub onward : (still : List ℕ) (m : ℕ) (bs : List ℕ) (x a : ℕ) (es : List Event) → Bridged still m bs (came x a ∷ es) → Bridged still m (x ∷ bs) es
unfolding indices
onward still m bs x a es w h z i j c =
    let r = w h z (side i) (there z x (indices es) j) c in
    (r.0, r.1, r.2, part r.0 r.3)
  where
    side : (elem h (x ∷ bs) ≡ true) ⊎ (elem h (indices es) ≡ true) → (elem h bs ≡ true) ⊎ (elem h (x ∷ indices es) ≡ true)
    side (inl i) = ⊎_elim (λ e. inr (here h x (indices es) e)) (λ e. inl e) (either h x bs i)
    side (inr i) = inr (there h x (indices es) i)

    part : (y : ℕ) → (elem y bs ≡ true) ⊎ (elem y (x ∷ indices es ++ still) ≡ true) → (elem y (x ∷ bs) ≡ true) ⊎ (elem y (indices es ++ still) ≡ true)
    part y (inl i) = inl (there y x bs i)
    part y (inr i) = ⊎_elim (λ e. inl (here y x bs e)) (λ e. inr e) (either y x (indices es ++ still) i)

module _ (k : Known) (still : List ℕ) (b m : ℕ) (sends : Sends k (J k) b) (l : ℕ) (window : least_window b m ≤ l) where
  module _ {r left h : ℕ} {hs bs : List ℕ} {now due since : ℕ} (o : Holds k r left (h ∷ hs) bs now due since)
      {x a : ℕ} {es : List Event} (c : Comes k now due x a es) (w : Bridged still m bs (came x a ∷ es))
      (f : (y : ℕ) → elem y (indices es ++ still) ≡ true → a ≤ k.sent y + most k) where
    arrived : elem (highest (h ∷ hs)) bs ≡ true
    arrived = o.known (highest (h ∷ hs)) (top_in h hs)

    behind : x ≤ highest (h ∷ hs) → highest (h ∷ hs) - x ≤ b
    behind z = overtaken sends x (highest (h ∷ hs)) a z (omega (arith, o.past (highest (h ∷ hs)) arrived)) c.latest

    ahead : highest (h ∷ hs) + suc m < x → x - highest (h ∷ hs) ≤ b + suc m
    unfolding indices
    ahead z = let r = w (highest (h ∷ hs)) x (inl arrived) (here x x (indices es) refl) z in go r.0 r.1 r.2 r.3
      where
        go : (y : ℕ) → highest (h ∷ hs) < y → y ≤ highest (h ∷ hs) + suc m → (elem y bs ≡ true) ⊎ (elem y (x ∷ indices es ++ still) ≡ true)
            → x - highest (h ∷ hs) ≤ b + suc m
        go y u v (inl e) =
            absurd
            (let c = o.old y e (above y (h ∷ hs) u) in
            let d = o.young (highest (h ∷ hs)) (top_in h hs) in
            let f = no-sooner sends (highest (h ∷ hs)) y (omega arith) in
            omega arith)
        go y u v (inr e) =
            ⊎_elim (λ q. absurd (omega arith))
            (λ q. (let g = overtaken sends y x a (omega arith) c.soonest (f y q) in omega arith))
            (either y x (indices es ++ still) e)

    pub close : apart x (highest (h ∷ hs)) < l
    unfolding apart
    close = elim (dec_lt (highest (h ∷ hs)) x) [
      | yes y ↦ elim (dec_lt (highest (h ∷ hs) + suc m) x) [ yes z ↦ (let f = ahead z in omega arith) | no z ↦ omega arith ]
      | no y ↦ (let f = behind (omega arith) in omega arith)
    ]

  -- So it knows a duplicate, and finds no rogue.
  pub record Sure (hs : List ℕ) (x : ℕ) : Type 0 where
    pub nears : near l hs x ≡ true
    pub verdict : judged l hs x ≡ (if elem x hs then duplicate else up)

  pub sure : (fits : l ≤ window_most) {r left : ℕ} (hs : List ℕ) {bs : List ℕ} {now due since : ℕ} → Holds k r left hs bs now due since
      → {x a : ℕ} {es : List Event} → Comes k now due x a es → Bridged still m bs (came x a ∷ es)
      → ((y : ℕ) → elem y (indices es ++ still) ≡ true → a ≤ k.sent y + most k)
      → Sure hs x
  unfolding near judged elem
  sure fits [] o c w f = record { nears = refl; verdict = refl }
  sure fits (h ∷ hs) o {x} c w f =
      let d = close o c w f in
      record {
        nears = le-leb (apart x (highest (h ∷ hs))) (65536 - l) (omega arith);
        verdict = rw (lt-ltb (apart x (highest (h ∷ hs))) l d);
      }

  -- If nothing is forgotten,
  closes : (es : List Event) (left : ℕ) (bs : List ℕ) (now due : ℕ) → Holds k 0 left bs bs now due 0 → Bridged still m bs es
      → kept k now due es ≡ true → ((y : ℕ) → elem y still ≡ true → end now es ≤ k.sent y + most k)
      → all_close l bs (indices es) ≡ true
  unfolding end indices all_close
  closes [] left bs now due o w q e = refl
  closes (came x a ∷ es) left [] now due o w q e =
      let c = comes q in
      closes es 0 (x ∷ []) a due (on-up o c) (onward still m [] x a es w) c.rest e
  closes (came x a ∷ es) left (b ∷ bs) now due o w q e =
      let c = comes q in
      rw (lt-ltb (apart x (highest (b ∷ bs))) l (close o c w (future k still es a due c.rest e)))
      (closes es 0 (x ∷ b ∷ bs) a due (on-up o c) (onward still m (b ∷ bs) x a es w) c.rest e)
  closes (ticked t ∷ es) left bs now due o w q e =
      let c = ticks q in
      closes es (left - 1) bs t (t + k.tau) (on-tick o c) w c.rest e

pub window-holds : WindowHolds
window-holds k b still es l s p o window =
    closes k still b k.m s l window es 0 [] 0 0 (start-holds k 0 0 0) (start-bridged k still es o) p.kept o.awaits
