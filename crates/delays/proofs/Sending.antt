-- What a sender, networks and a clock keep to, step by step. Assumes nothing.
use Prim.Native.Nat.{ℕ, zero, suc, ◌+◌, ◌-◌, ◌*◌, ◌≤◌, ◌<◌}
use mathlib.Core.Path.{◌≡◌}
use mathlib.Core.Logic.{◌⊎◌, inl, inr}
use mathlib.Core.Bool.{true}
use mathlib.Core.List.{List, [], ◌∷◌, ◌++◌}
use native.Mathlib.Omega.{arith}
use native.Mathlib.Nat.{mul-zero, mul-suc, mul_comm, le-div_iff_mul-le, div-lt_iff_lt-mul}
use Rattle.stream.proofs.Logic.{tests}
use Rattle.demands.specs.Unlimited.{elem}
use Rattle.delays.specs.Formulas.{least_time}
use Rattle.delays.specs.Line.{Known, least, most, J, Sends, Spaced, Event, came, ticked, indices, kept, end}
use Rattle.delays.specs.OnceEach.{SpacedSends}
use Rattle.delays.proofs.Lists.{either}

-- ---- the sender

sent-later : (k : Known) (T : ℕ) → Spaced k T → (x d : ℕ) → k.sent x + T * d ≤ k.sent (x + d)
sent-later k T s x zero = let e : x + 0 ≡ x = omega arith in rw (e, mul-zero T) (omega arith)
sent-later k T s x (suc d) =
    let e : x + suc d ≡ suc (x + d) = omega arith in
    rw (e, mul-suc T d) (omega (arith, sent-later k T s x d, s.apart (x + d)))

pub spaced-sends : SpacedSends
spaced-sends k T d s = record {
  rises = λ x. omega (arith, s.apart x);
  within = λ x n h. (le-div_iff_mul-le s.some).1 (omega (arith, sent-later k T s x n, mul_comm T n));
}

pub spread : (k : Known) → most k ≤ least k + J k
unfolding J
spread k = omega arith

module _ {k : Known} {d b : ℕ} (s : Sends k d b) where
  rises_by : (x n : ℕ) → k.sent x ≤ k.sent (x + n)
  rises_by x zero = let e : x + 0 ≡ x = omega arith in rw e (omega arith)
  rises_by x (suc n) = let e : x + suc n ≡ suc (x + n) = omega arith in rw e (omega (arith, rises_by x n, s.rises (x + n)))

  pub no-sooner : (y x : ℕ) → y ≤ x → k.sent y ≤ k.sent x
  no-sooner y x h = let e : y + (x - y) ≡ x = omega arith in rw e at (rises_by y (x - y))

  pub apart_by : (y x : ℕ) → y ≤ x → k.sent x ≤ k.sent y + d → x - y ≤ b
  apart_by y x h p = let e : y + (x - y) ≡ x = omega arith in s.within y (x - y) (rw e p)

-- What was sent before x and can come no sooner than x lies at most b below it.
pub overtaken : {k : Known} {b : ℕ} → Sends k (J k) b → (y x a : ℕ) → y ≤ x → k.sent x + least k ≤ a → a ≤ k.sent y + most k → x - y ≤ b
overtaken {k} s y x a h p q = apart_by s y x h (omega (arith, spread k))

-- ---- networks and clock

pub long : (j tau r : ℕ) → 1 ≤ tau → least_time j tau ≤ r → j < (r - 1) * tau
long j tau r some time = (div-lt_iff_lt-mul some).0 (omega arith)

-- A copy comes,
pub record Comes (k : Known) (now due x a : ℕ) (es : List Event) : Type 0 where
  pub ordered : now ≤ a
  pub soonest : k.sent x + least k ≤ a
  pub latest : a ≤ k.sent x + most k
  pub rest : kept k a due es ≡ true

pub comes : {k : Known} {now due x a : ℕ} {es : List Event} → kept k now due (came x a ∷ es) ≡ true → Comes k now due x a es
unfolding kept
comes q = let p = simp tests at q in record { ordered = p.0.0; soonest = p.0.1.0; latest = p.0.1.1; rest = p.1 }

-- or a tick.
pub record Ticks (k : Known) (now due c : ℕ) (es : List Event) : Type 0 where
  pub ordered : now ≤ c
  pub reached : due ≤ c
  pub rest : kept k c (c + k.tau) es ≡ true

pub ticks : {k : Known} {now due c : ℕ} {es : List Event} → kept k now due (ticked c ∷ es) ≡ true → Ticks k now due c es
unfolding kept
ticks q = let p = simp tests at q in record { ordered = p.0.0; reached = p.0.1; rest = p.1 }

-- What is still to come comes no sooner than now.
pub future : (k : Known) (still : List ℕ) (es : List Event) (now due : ℕ) → kept k now due es ≡ true
    → ((y : ℕ) → elem y still ≡ true → end now es ≤ k.sent y + most k)
    → (y : ℕ) → elem y (indices es ++ still) ≡ true → now ≤ k.sent y + most k
unfolding end indices
future k still [] now due q w y i = w y i
future k still (came x a ∷ es) now due q w y i =
    let c = comes q in
    go c (either y x (indices es ++ still) i) (λ j. future k still es a due c.rest w y j)
  where
    go : Comes k now due x a es → (y ≡ x) ⊎ (elem y (indices es ++ still) ≡ true)
        → (elem y (indices es ++ still) ≡ true → a ≤ k.sent y + most k) → now ≤ k.sent y + most k
    go c (inl e) f = rw e (omega arith)
    go c (inr e) f = let r = f e in omega arith
future k still (ticked c ∷ es) now due q w y i =
    let t = ticks q in
    let r = future k still es c (c + k.tau) t.rest w y i in
    omega arith
