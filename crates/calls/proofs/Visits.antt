-- A tick of a whole table, record by record. Assumes nothing.
--     visits                       the code's steps are the definitions'
--     sums-nil, sums-snoc          the sums of a table with one record more, behind: one visit more, as long as they fit
--     ticked-nil, ticked-snoc, ticked-length   the table after it, likewise; it is as long
use mathlib.Core.Path.{◌≡◌, refl, sym, ◌∙◌, ap}
use Prim.Native.Nat.{ℕ, suc, ◌+◌, ◌^◌, ◌<◌, ◌≤◌}
use native.Mathlib.Omega.{arith}
use native.Mathlib.Nat.{mod-eq_of_lt}
use mathlib.Core.Bool.{Bool, true, false, cond}
use mathlib.Core.List.{[], ◌∷◌, ◌++◌, map-append}
use lib.ListN.{length, length-map}
use Rattle.record.specs.declared.Stream.{Stream}
use Rattle.stream.specs.Record.{damaged}
use Rattle.stream.specs.Decisions.{counted, expires, ticked}
use Rattle.stream.specs.Steps.{tick_of}
use Rattle.stream.specs.declared.Ticked.{Ticked}
use Rattle.calls.specs.Table.{Table, count}
use Rattle.calls.specs.Ticks.{ticked_all, sums, no_sums, visited}
use Rattle.calls.specs.declared.Sums.{Sums}
use Rattle.calls.specs.declared.Visited.{Visited}

pub visits : (c : Sums) (s : Stream) (k : Ticked) (m d : ℕ) → k ≡ tick_of s → m ≡ counted k.reset c.resets → d ≡ counted k.damaged c.damaged
    → ◌≡◌ {A = Visited} (record { stream = k.stream; sums = record { resets = m; damaged = d } }) (visited c s)
unfolding visited tick_of
visits c s k m d e f g i = record {
  stream = (e i).stream;
  sums = record {
    resets = (f ∙ ap (λ (x : Ticked). counted x.reset c.resets) e) i;
    damaged = (g ∙ ap (λ (x : Ticked). counted x.damaged c.damaged) e) i;
  };
}

-- ---- counting
module _ (p : Stream → Bool) where
  snoc-step : (a b c : ℕ) → a + (b + c) ≡ a + b + c
  snoc-step a b c = omega arith

  count-snoc : (t : Table) (s : Stream) → count p (t ++ s ∷ []) ≡ count p t + cond (p s) 1 0
  unfolding count
  count-snoc [] s = omega arith
  count-snoc (x ∷ t) s = ap (λ (n : ℕ). cond (p x) 1 0 + n) (count-snoc t s) ∙ snoc-step (cond (p x) 1 0) (count p t) (cond (p s) 1 0)

  most_step : (b : Bool) (n m : ℕ) → n ≤ m → cond b 1 0 + n ≤ suc m
  most_step true n m l = omega (arith, l)
  most_step false n m l = omega (arith, l)

  count_most : (t : Table) → count p t ≤ length t
  unfolding count
  count_most [] = omega arith
  count_most (x ∷ t) = most_step (p x) (count p t) (length t) (count_most t)

counted_is : (b : Bool) (n : ℕ) → n + 1 < 2 ^ 64 → counted b n ≡ n + cond b 1 0
counted_is true n l = mod-eq_of_lt l
counted_is false n l = omega arith

-- no count wraps: a table has fewer slots than 2^64
one_more : (p : Stream → Bool) (t : Table) (s : Stream) → length t + 1 < 2 ^ 64 → count p (t ++ s ∷ []) ≡ counted (p s) (count p t)
one_more p t s l = count-snoc p t s ∙ sym (counted_is (p s) (count p t) (let m : count p t ≤ length t = count_most p t in omega (arith, m, l)))

pub sums-nil : sums [] ≡ no_sums
unfolding sums count
sums-nil = refl

pub sums-snoc : (t : Table) (s : Stream) → length t + 1 < 2 ^ 64 → sums (t ++ s ∷ []) ≡ (visited (sums t) s).sums
unfolding sums visited
sums-snoc t s l i = record { resets = one_more expires t s l i; damaged = one_more damaged t s l i }

pub ticked-nil : ticked_all [] ≡ []
unfolding ticked_all
ticked-nil = refl

pub ticked-snoc : (t : Table) (s : Stream) (c : Sums) → ticked_all (t ++ s ∷ []) ≡ ticked_all t ++ (visited c s).stream ∷ []
unfolding ticked_all visited
ticked-snoc t s c = map-append ticked t (s ∷ [])

pub ticked-length : (t : Table) → length (ticked_all t) ≡ length t
unfolding ticked_all
ticked-length t = length-map t ticked
