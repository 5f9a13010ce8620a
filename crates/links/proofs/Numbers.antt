-- The ring of 255 numbers, and the 0. Assumes nothing.
use Prim.Native.Nat.{ℕ, zero, suc, ◌+◌, ◌-◌, ◌%◌, ◌≤◌, ◌<◌}
use mathlib.Core.Path.{◌≡◌, refl, ap, sym, ◌∙◌}
use mathlib.Core.Logic.{◌↔◌}
use mathlib.Core.Bool.{Bool, true, false, ◌&&◌, ◌||◌, false≢true, and-eq-true_iff}
use native.Mathlib.Decide.{dec_lt}
use native.Mathlib.Omega.{arith}
use lib.Dec.{eqb, ltb, leb}
use borrow.Author.Tests.{eqb-true, eqb-false, ne_eqb, le-leb, leb-true, lt-ltb, le-ltb, ltb-true}
use Rattle.stream.specs.Decisions.{link_steps, link_up}
use Rattle.demands.specs.Demand2.{next_number}
use Rattle.links.specs.Links.{steps_on, LinkUpExactly, ZeroUpExactly, TwinRefused, ZeroLost, link_number, follows, LinkBoundSharp}

-- ---- one to 127 steps

between : (d : ℕ) → 1 ≤ d → d ≤ 127 → (leb 1 d && leb d 127) ≡ true
between d l m = rw (le-leb 1 d l, le-leb d 127 m)

not-between : (d : ℕ) → ((1 ≤ d) × (d ≤ 127) → ⊥) → (leb 1 d && leb d 127) ≡ false
not-between d f = go (leb 1 d) refl (leb d 127) refl
  where
    go : (p : Bool) → leb 1 d ≡ p → (q : Bool) → leb d 127 ≡ q → (leb 1 d && leb d 127) ≡ false
    go true e true g = absurd (f (leb-true 1 d e, leb-true d 127 g))
    go true e false g = rw (e, g)
    go false e q g = rw e

-- Among 1 to 255 the steps decide.
by-steps : (last number : ℕ) → 1 ≤ last → 1 ≤ number → link_up last number ≡ (leb 1 (link_steps last number) && leb (link_steps last number) 127)
unfolding link_up
by-steps last number l m = rw (ne_eqb number 0 (λ e. omega (arith, e, m)), ne_eqb last 0 (λ e. omega (arith, e, l)))

is_up : (last number : ℕ) → 1 ≤ last → 1 ≤ number → 1 ≤ link_steps last number → link_steps last number ≤ 127 → link_up last number ≡ true
is_up last number l m a b = by-steps last number l m ∙ between (link_steps last number) a b

is-not : (last number : ℕ) → 1 ≤ last → 1 ≤ number → ((1 ≤ link_steps last number) × (link_steps last number ≤ 127) → ⊥) → link_up last number ≡ false
is-not last number l m f = by-steps last number l m ∙ not-between (link_steps last number) f

steps-are : (k last : ℕ) → 1 ≤ last → last ≤ 255 → steps_on k last ≡ 1 + (last - 1 + k) % 255
unfolding steps_on
steps-are zero last l m = omega (arith, l, m)
steps-are (suc k) last l m = ap next_number (steps-are k last l m) ∙ go (eqb (1 + (last - 1 + k) % 255) 255) refl
  where
    go : (b : Bool) → eqb (1 + (last - 1 + k) % 255) 255 ≡ b → next_number (1 + (last - 1 + k) % 255) ≡ 1 + (last - 1 + suc k) % 255
    go true e = rw e (let z : 1 + (last - 1 + k) % 255 ≡ 255 = eqb-true (1 + (last - 1 + k) % 255) 255 e in omega (arith, z))
    go false e = rw e (let z : 1 + (last - 1 + k) % 255 ≡ 255 → ⊥ = eqb-false (1 + (last - 1 + k) % 255) 255 e in let y : (last - 1 + k) % 255 < 255 = omega arith in omega (arith, z, y))

pub link-up-exactly : LinkUpExactly
unfolding link_steps
link-up-exactly last number a b c d = (to, from)
  where
    to : link_up last number ≡ true → (k : ℕ) × (1 ≤ k) × (k ≤ 127) × (steps_on k last ≡ number)
    to u =
        let p = (and-eq-true_iff (leb 1 (link_steps last number)) (leb (link_steps last number) 127)).0 (sym (by-steps last number a c) ∙ u) in
        let l : 1 ≤ (number + 255 - last) % 255 = leb-true _ _ p.0 in
        let m : (number + 255 - last) % 255 ≤ 127 = leb-true _ _ p.1 in
        ((number + 255 - last) % 255, l, m, steps-are ((number + 255 - last) % 255) last a b ∙ omega (arith, a, b, c, d, l, m))

    from : (k : ℕ) × (1 ≤ k) × (k ≤ 127) × (steps_on k last ≡ number) → link_up last number ≡ true
    from (k, l, m, e) =
        let z : 1 + (last - 1 + k) % 255 ≡ number = sym (steps-are k last a b) ∙ e in
        let y : (number + 255 - last) % 255 ≡ k = omega (arith, a, b, c, d, l, m, z) in
        is_up last number a c (omega (arith, y, l)) (omega (arith, y, m))

-- ---- the 0

pub zero-comes : (last : ℕ) → 1 ≤ last → link_up last 0 ≡ true
unfolding link_up
zero-comes last l = rw (ne_eqb last 0 (λ e. omega (arith, e, l)))

after-zero : (number : ℕ) → 1 ≤ number → link_up 0 number ≡ leb number 127
unfolding link_up
after-zero number l = rw (ne_eqb number 0 (λ e. omega (arith, e, l)))

pub twin-refused : TwinRefused
unfolding link_up link_steps
twin-refused zero = refl
twin-refused (suc n) = is-not (suc n) (suc n) (omega arith) (omega arith) (λ p. (let z : 1 ≤ (suc n + 255 - suc n) % 255 = p.0 in omega (arith, z)))

pub zero-up-exactly : ZeroUpExactly
zero-up-exactly = record { comes = comes; was = was }
  where
    comes : (last : ℕ) → (link_up last 0 ≡ true) ↔ (1 ≤ last)
    comes zero = (λ u. absurd (false≢true (sym (twin-refused 0) ∙ u)), λ l. absurd (omega (arith, l)))
    comes (suc last) = (λ u. omega arith, λ l. zero-comes (suc last) l)

    was : (number : ℕ) → (link_up 0 number ≡ true) ↔ ((1 ≤ number) × (number ≤ 127))
    was zero = (λ u. absurd (false≢true (sym (twin-refused 0) ∙ u)), λ p. absurd (let z : 1 ≤ 0 = p.0 in omega (arith, z)))
    was (suc n) = (
      λ u. (omega arith, leb-true (suc n) 127 (sym (after-zero (suc n) (omega arith)) ∙ u)),
      λ p. after-zero (suc n) p.0 ∙ le-leb (suc n) 127 p.1,
    )

pub zero-lost : ZeroLost
unfolding link_steps
zero-lost = record {
  low = λ last number a b c. is-not last number (omega (arith, b, c)) b (λ p.
      (let x : 1 ≤ (number + 255 - last) % 255 = p.0 in let y : (number + 255 - last) % 255 ≤ 127 = p.1 in omega (arith, a, b, c, x, y)));
  after = λ last a b. is_up last (suc last) a (omega arith) (omega (arith, a, b)) (omega (arith, a, b));
  high = λ last a b. is_up last 1 (omega (arith, a)) (omega arith) (omega (arith, a, b)) (omega (arith, a, b));
}

-- ---- indices

number_is : (k : ℕ) → 1 ≤ k → link_number k ≡ 1 + (k - 1) % 255
unfolding link_number
number_is zero l = absurd (omega (arith, l))
number_is (suc k) l = omega arith

-- At most 127 from each other, and no 0 that comes late: the higher index is handed up.
pub decides : (h x : ℕ) → x ≤ h + 127 → h ≤ x + 127 → (ltb 0 x || eqb h 0) ≡ true → link_up (link_number h) (link_number x) ≡ ltb h x
unfolding link_number link_steps
decides zero zero a b c = twin-refused 0
decides (suc h) zero a b c = absurd (false≢true (sym (ne_eqb (suc h) 0 (λ e. omega (arith, e))) ∙ c))
decides zero (suc x) a b c =
    after-zero (1 + x % 255) (omega arith) ∙ le-leb (1 + x % 255) 127 (omega (arith, a)) ∙ sym (lt-ltb 0 (suc x) (omega arith))
decides (suc h) (suc x) a b c = elim (dec_lt h x) [
  | yes l ↦ is_up (1 + h % 255) (1 + x % 255) (omega arith) (omega arith) (omega (arith, a, l)) (omega (arith, a, l)) ∙ sym (lt-ltb (suc h) (suc x) (omega (arith, l)))
  | no l ↦ is-not (1 + h % 255) (1 + x % 255) (omega arith) (omega arith) (elim (dec_lt x h) [
    | yes m ↦ (λ p. (let z : (1 + x % 255 + 255 - (1 + h % 255)) % 255 ≤ 127 = p.1 in omega (arith, b, m, z)))
    | no m ↦ (λ p. (let z : 1 ≤ (1 + x % 255 + 255 - (1 + h % 255)) % 255 = p.0 in let e : h ≡ x = omega (arith, l, m) in omega (arith, e, z)))
  ]) ∙ sym (le-ltb (suc h) (suc x) (omega (arith, l)))
]

-- A frame that follows another is handed up behind it.
pub follows-up : (h x : ℕ) → follows h x ≡ true → link_up (link_number h) (link_number x) ≡ true
unfolding link_number
follows-up zero zero f = absurd (false≢true f)
follows-up (suc h) zero f = zero-comes (1 + h % 255) (omega arith)
follows-up h (suc x) f =
    let p = (and-eq-true_iff (ltb h (suc x)) (leb (suc x) (h + 127))).0 (rw (ne_eqb (suc x) 0 (λ e. omega (arith, e))) at f) in
    let l : h < suc x = ltb-true h (suc x) p.0 in
    decides h (suc x) (leb-true _ _ p.1) (omega (arith, l)) (rw (lt-ltb 0 (suc x) (omega arith))) ∙ p.0

sharp-behind : (i : ℕ) → 1 ≤ i → link_up (link_number (i + 128)) (link_number i) ≡ true
unfolding link_steps
sharp-behind i l =
    rw (number_is (i + 128) (omega (arith, l)), number_is i l)
    (is_up (1 + (i + 128 - 1) % 255) (1 + (i - 1) % 255) (omega arith) (omega arith) (omega (arith, l)) (omega (arith, l)))

sharp-ahead : (i : ℕ) → link_up (link_number i) (link_number (i + 128)) ≡ false
unfolding link_steps link_number link_up
sharp-ahead zero = refl
sharp-ahead (suc i) =
    rw (number_is (suc i + 128) (omega arith))
    (is-not (1 + i % 255) (1 + (suc i + 128 - 1) % 255) (omega arith) (omega arith) (λ p.
    (let y : (1 + (suc i + 128 - 1) % 255 + 255 - (1 + i % 255)) % 255 ≤ 127 = p.1 in omega (arith, y))))

sharp-zero : (i : ℕ) → 1 ≤ i → link_up (link_number i) (link_number 0) ≡ true
unfolding link_number
sharp-zero zero l = absurd (omega (arith, l))
sharp-zero (suc i) l = zero-comes (1 + i % 255) (omega arith)

pub link-bound-sharp : LinkBoundSharp
link-bound-sharp = record { behind = sharp-behind; ahead = sharp-ahead; zero = sharp-zero }
