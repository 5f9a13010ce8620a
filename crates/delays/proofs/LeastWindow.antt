-- The window is least, from a quiet start and in traffic. Assumes nothing.
use Prim.Native.Nat.{ℕ, zero, suc, ◌+◌, ◌-◌, ◌*◌, ◌/◌, ◌≤◌, ◌<◌, max}
use mathlib.Core.Path.{◌≡◌, refl, ap, sym, ◌∙◌}
use mathlib.Core.Logic.{◌⊎◌, inl, inr, ⊎_elim}
use mathlib.Core.Bool.{true, false, ◌||◌, not, false≢true}
use mathlib.Core.List.{List, [], ◌∷◌, ◌++◌, map, append-nil, head-eq_of_cons-eq, tail-eq_of_cons-eq}
use native.Mathlib.Omega.{arith}
use native.Mathlib.Decide.{dec_lt}
use native.Mathlib.Nat.{mul-zero, mul-suc, mul_comm, mul-add, div-mul-le_self, lt-div-mul-add, mul-le-mul_left}
use lib.Dec.{eqb}
use borrow.Author.Tests.{le-leb, le-ltb, ne_eqb}
use Rattle.stream.specs.Decisions.{rogue, is_up}
use Rattle.demands.specs.Unlimited.{elem, highest, apart, judged, remembered}
use Rattle.demands.specs.Missed.{firsts}
use Rattle.demands.proofs.Firsts.{under}
use Rattle.delays.specs.Formulas.{apart_in, least_window, traffic_window}
use Rattle.delays.specs.Line.{Known, least, most, Spaced, Event, came, indices, kept, Keeps, end, Loses}
use Rattle.delays.specs.Forgetting.{forgetting}
use Rattle.delays.specs.Least.{even, Wrong}
use Rattle.delays.proofs.Lists.{none, either, here, there, in-first, in-second, in_either}
use Rattle.delays.proofs.Traffic.{indices-append}

pub spaced-even : (T q j tau m : ℕ) → 1 ≤ T → Spaced (even T q j tau m) T
spaced-even T q j tau m s = record { some = s; apart = λ x. omega (arith, mul-suc T x) }

pub least-even : (T q j tau m : ℕ) → least (even T q j tau m) ≡ q
unfolding least
least-even T q j tau m = omega arith

pub most-even : (T q j tau m : ℕ) → most (even T q j tau m) ≡ q + j
unfolding most
most-even T q j tau m = omega arith

pub kept-came : (k : Known) (now due x a : ℕ) (es : List Event) → now ≤ a → k.sent x + least k ≤ a → a ≤ k.sent x + most k
    → kept k a due es ≡ true → kept k now due (came x a ∷ es) ≡ true
unfolding kept
kept-came k now due x a es n p q r = rw (le-leb now a n, le-leb (k.sent x + least k) a p, le-leb a (k.sent x + most k) q) r

below : (j T : ℕ) → T * (j / T) ≤ j
below j T = omega (arith, mul_comm T (j / T), div-mul-le_self j T)

over : (j T : ℕ) → 1 ≤ T → j < T * (j / T) + T
over j T s = omega (arith, mul_comm T (j / T), lt-div-mul-add {a = j} {b = T} s)

-- Behind 0 comes an index that lies L or more ahead: a rogue, at its first arrival.
is-rogue : (l x : ℕ) → l ≤ x → judged l (0 ∷ []) x ≡ rogue
unfolding judged apart highest
is-rogue l x p = rw (le-ltb ((x - max 0 0) + (max 0 0 - x)) l (omega arith))

leaps : (l time x a c : ℕ) (es : List Event) → 1 ≤ x → l ≤ x
    → map is_up (forgetting l time 0 [] (came 0 a ∷ came x c ∷ es)) ≡ firsts [] (indices (came 0 a ∷ came x c ∷ es)) → ⊥
unfolding forgetting firsts indices judged remembered elem
leaps l time x a c es u v p =
    let r : is_up (judged l (0 ∷ []) x) ≡ not (eqb x 0 || false) = head-eq_of_cons-eq (tail-eq_of_cons-eq p) in
    false≢true (sym (ap is_up (is-rogue l x v)) ∙ r ∙ rw (ne_eqb x 0 (omega arith)))

-- ---- the window: 0 comes as late as it can, then x as soon as it can; 1 to m are lost, and m + 1 is still to come
module _ (T q j tau m window time : ℕ) (s : 1 ≤ T) (e : 1 ≤ tau) where
  abbrev k : Known
  k = even T q j tau m

  abbrev x : ℕ
  x = j / T + m + 1

  abbrev seen : List Event
  seen = came 0 (q + j) ∷ came x (T * x + q) ∷ []

  split : T * x ≡ T * (j / T) + T * suc m
  split =
      let p : x ≡ j / T + suc m = omega arith in
      rw (p, mul-add T (j / T) (suc m))

  window-keeps : Keeps k 0 seen
  unfolding kept
  window-keeps =
      let above = over j T s in
      let d = least-even T q j tau m in
      let u = most-even T q j tau m in
      record {
        some = e;
        kept = kept-came k 0 0 0 (q + j) (came x (T * x + q) ∷ []) (omega arith) (omega (arith, mul-zero T)) (omega (arith, mul-zero T))
            (kept-came k (q + j) 0 x (T * x + q) [] (omega (arith, split, mul-suc T m)) (omega arith) (omega arith) refl);
      }

  window-loses : Loses k (suc m ∷ []) seen
  unfolding end indices highest
  window-loses = record {
    awaits = λ y i. ⊎_elim (waits y) (λ z. absurd (none y z)) (either y (suc m) [] i);
    losses = λ h y i g c. go h y (either h 0 (x ∷ []) i) (under y (0 ∷ x ∷ suc m ∷ []) g) c;
  }
    where
      waits : (y : ℕ) → y ≡ suc m → T * x + q ≤ T * y + most k
      waits y z = rw (z, most-even T q j tau m) (omega (arith, split, below j T))

      go : (h y : ℕ) → (h ≡ 0) ⊎ (elem h (x ∷ []) ≡ true) → y ≤ highest (0 ∷ x ∷ suc m ∷ []) → h + suc m < y
          → (z : ℕ) × (h < z) × (z ≤ h + suc m) × (elem z (0 ∷ x ∷ suc m ∷ []) ≡ true)
      go h y (inl z) g c = (
        suc m,
        omega arith,
        omega arith,
        there (suc m) 0 (x ∷ suc m ∷ []) (there (suc m) x (suc m ∷ []) (here (suc m) (suc m) [] refl)),
      )
      go h y (inr z) g c = ⊎_elim (λ i. absurd (omega arith)) (λ i. absurd (none h i)) (either h x [] z)

  pub window-less : window < least_window (apart_in j T) m → Wrong (even T q j tau m) T window time []
  window-less h = record {
    still = suc m ∷ [];
    es = seen;
    sends = spaced-even T q j tau m s;
    keeps = window-keeps;
    loses = window-loses;
    wrong = leaps window time x (q + j) (T * x + q) [] (omega arith) (omega arith);
  }

-- ---- in traffic: 1 to b come before the stream is fresh, so it does not know of them. Then 0 comes as late as it can, and `far` as
-- soon as it can. The b indices below `far` come with it, in time; the m between them and b are lost.

-- copies of n indices from y on, each at its time
abbrev copies : (at : ℕ → ℕ) (n y : ℕ) → List Event
copies f zero y = []
copies f (suc n) y = came y (f y) ∷ copies f n (suc y)

copies-in : (f : ℕ → ℕ) (n y z : ℕ) → y ≤ z → z < y + n → elem z (indices (copies f n y)) ≡ true
unfolding indices
copies-in f zero y z p q = absurd (omega arith)
copies-in f (suc n) y z p q =
    let xs = indices (copies f n (suc y)) in
    elim (dec_lt y z) [ yes a ↦ there z y xs (copies-in f n (suc y) z (omega arith) (omega arith)) | no a ↦ here z y xs (omega arith) ]

copies-only : (f : ℕ → ℕ) (n y z : ℕ) → elem z (indices (copies f n y)) ≡ true → (y ≤ z) × (z < y + n)
unfolding indices
copies-only f zero y z i = absurd (none z i)
copies-only f (suc n) y z i =
    ⊎_elim (λ e. (omega arith, omega arith)) (λ e. (let r = copies-only f n (suc y) z e in (omega (arith, r.0), omega (arith, r.1))))
    (either z y (indices (copies f n (suc y))) i)

-- They keep to what is known, if what follows does whenever they end.
copies_kept : (k : Known) (f : ℕ → ℕ) (n y now due last : ℕ) (es : List Event) → now ≤ last → now ≤ f y → ((z : ℕ) → f z ≤ f (suc z))
    → ((z : ℕ) → y ≤ z → z < y + n → (k.sent z + least k ≤ f z) × (f z ≤ k.sent z + most k) × (f z ≤ last))
    → ((t : ℕ) → t ≤ last → kept k t due es ≡ true)
    → kept k now due (copies f n y ++ es) ≡ true
copies_kept k f zero y now due last es u v w g r = r now u
copies_kept k f (suc n) y now due last es u v w g r =
    let d = g y (omega arith) (omega arith) in
    kept-came k now due y (f y) (copies f n (suc y) ++ es) v d.0 d.1
    (copies_kept k f n (suc y) (f y) due last es d.2 (w y) w (λ z a b. g z (omega arith) (omega arith)) r)

module _ (T q j tau m window time : ℕ) (s : 1 ≤ T) (e : 1 ≤ tau) where
  abbrev line : Known
  line = even T q j tau m

  abbrev b : ℕ
  b = apart_in j T

  abbrev far : ℕ
  far = b + b + m + 1

  abbrev missed : List Event
  missed = copies (λ y. T * y + q) b 1

  abbrev behind : List Event
  behind = copies (λ y. T * far + q) b (b + m + 1)

  abbrev caught : List Event
  caught = came 0 (q + j) ∷ came far (T * far + q) ∷ behind

  far-sent : T * far ≡ T * b + T * (b + m + 1)
  far-sent =
      let p : far ≡ b + (b + m + 1) = omega arith in
      rw (p, mul-add T b (b + m + 1))

  -- Those of `behind` are sent at most j before `far`.
  sent-behind : (y : ℕ) → b + m + 1 ≤ y → T * far ≤ T * y + j
  sent-behind y p = omega (arith, far-sent, mul-le-mul_left T p, below j T)

  behind-kept : kept line (T * far + q) 0 behind ≡ true
  unfolding kept
  behind-kept =
      let d = least-even T q j tau m in
      let u = most-even T q j tau m in
      rw (append-nil behind) at
      (copies_kept line (λ y. T * far + q) b (b + m + 1) (T * far + q) 0 (T * far + q) [] (omega arith) (omega arith) (λ z. omega arith)
      (λ z p r. (omega (arith, mul-le-mul_left T (rest z r)), omega (arith, sent-behind z p), omega arith)) (λ t r. refl))
    where
      rest : (z : ℕ) → z < b + m + 1 + b → z ≤ far
      rest z r = omega arith

  caught-kept : (t : ℕ) → t ≤ q + j → kept line t 0 caught ≡ true
  caught-kept t r =
      let d = least-even T q j tau m in
      let u = most-even T q j tau m in
      let z = mul-zero T in
      let above = over j T s in
      let n : q + j ≤ T * far + q = omega (arith, far-sent, mul-add T (b + m) 1, mul-suc T 0) in
      kept-came line t 0 0 (q + j) (came far (T * far + q) ∷ behind) r (omega arith) (omega arith)
      (kept-came line (q + j) 0 far (T * far + q) behind n (omega arith) (omega arith) behind-kept)

  traffic-keeps : Keeps line 0 (missed ++ caught)
  traffic-keeps =
      let d = least-even T q j tau m in
      let u = most-even T q j tau m in
      record {
        some = e;
        kept = copies_kept line (λ y. T * y + q) b 1 0 0 (q + j) caught (omega arith) (omega arith) (λ z. omega (arith, mul-suc T z))
            (λ z p r. (omega arith, omega arith, omega (arith, below j T, mul-le-mul_left T (to-b z r)))) caught-kept;
      }
    where
      to-b : (z : ℕ) → z < 1 + b → z ≤ b
      to-b z r = omega arith

  -- What comes in all: 0 to b, and b + m + 1 to `far`.
  abbrev all : List ℕ
  all = indices (missed ++ caught)

  abbrev Placed : ℕ → Type 0
  Placed y = (y ≤ b) ⊎ ((b + m + 1 ≤ y) × (y ≤ far))

  early : (y : ℕ) → 1 ≤ y → y ≤ b → elem y all ≡ true
  early y p r =
      ap (elem y) (indices-append missed caught)
      ∙ in-first y (indices missed) (indices caught) (copies-in (λ y. T * y + q) b 1 y p (omega arith))

  late : (y : ℕ) → b + m + 1 ≤ y → y ≤ far → elem y all ≡ true
  unfolding indices
  late y p r =
      ap (elem y) (indices-append missed caught)
      ∙ in-second y (indices missed) (indices caught)
      (there y 0 (far ∷ indices behind)
      (elim (dec_lt y far) [
        | yes a ↦ there y far (indices behind) (copies-in (λ y. T * far + q) b (b + m + 1) y p (omega arith))
        | no a ↦ here y far (indices behind) (omega arith)
      ]))

  placed-behind : (y : ℕ) → elem y (far ∷ indices behind) ≡ true → Placed y
  placed-behind y i = ⊎_elim (λ z. inr (omega arith, omega arith)) go (either y far (indices behind) i)
    where
      go : elem y (indices behind) ≡ true → Placed y
      go u = let r = copies-only (λ y. T * far + q) b (b + m + 1) y u in inr (r.0, omega (arith, r.1))

  placed : (y : ℕ) → elem y all ≡ true → Placed y
  unfolding indices
  placed y i =
      ⊎_elim go (λ u. ⊎_elim (λ z. inl (omega arith)) (placed-behind y) (either y 0 (far ∷ indices behind) u))
      (in_either y (indices missed) (indices caught) (sym (ap (elem y) (indices-append missed caught)) ∙ i))
    where
      go : elem y (indices missed) ≡ true → Placed y
      go u = let r = copies-only (λ y. T * y + q) b 1 y u in inl (omega (arith, r.1))

  traffic-loses : Loses line [] (missed ++ caught)
  traffic-loses = record {
    awaits = λ y i. absurd (none y i);
    losses = λ h y i g c. go h (placed h i) (omega (arith, c, to-far y (placed y (rw (append-nil all) at g))));
  }
    where
      to-far : (y : ℕ) → Placed y → y ≤ far
      to-far y (inl p) = omega arith
      to-far y (inr p) = p.1

      go : (h : ℕ) → Placed h → h + suc m < far → (z : ℕ) × (h < z) × (z ≤ h + suc m) × (elem z (all ++ []) ≡ true)
      go h (inl p) c = elim (dec_lt h b) [
        | yes a ↦ (suc h, omega arith, omega arith, in-first (suc h) all [] (early (suc h) (omega arith) (omega arith)))
        | no a ↦ (b + m + 1, omega arith, omega arith, in-first (b + m + 1) all [] (late (b + m + 1) (omega arith) (omega arith)))
      ]
      go h (inr p) c = (suc h, omega arith, omega arith, in-first (suc h) all [] (late (suc h) (omega (arith, p.0)) (omega arith)))

  pub traffic-less : window < traffic_window (apart_in j T) m → (before : List Event) × Wrong (even T q j tau m) T window time before
  traffic-less h = (
    missed,
    record {
      still = [];
      es = caught;
      sends = spaced-even T q j tau m s;
      keeps = traffic-keeps;
      loses = traffic-loses;
      wrong = leaps window time far (q + j) (T * far + q) behind (omega arith) (omega arith);
    },
  )
