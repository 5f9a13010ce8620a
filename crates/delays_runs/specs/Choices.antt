-- Settings, and what the formulas give for them: `checks/choose` holds tools/choose to these lines. Assumes nothing.
use Rattle.std.specs.Prelude.{ℕ, suc, ◌-◌, ◌≡◌, Bool, true, ◌&&◌, ◌||◌, not, leb}
use Rattle.delays.specs.Formulas.{apart_in, least_window, traffic_window, least_time, span}

-- The numbers do not come round with this R.
abbrev pub fits : (T J tau window time : ℕ) → Bool
fits T J tau window time = leb (apart_in (span time tau J) T) (65536 - window)

-- T, J, m and tau, all times in one unit; then the least L, the least L in traffic, the least R, how long a sender is silent with that
-- R before it restarts, and the largest R with that L (R has 16 bits).
abbrev pub Chosen : (T J m tau window traffic time silence longest : ℕ) → Type 0
Chosen T J m tau window traffic time silence longest =
    (least_window (apart_in J T) m ≡ window)
    × (traffic_window (apart_in J T) m ≡ traffic)
    × (least_time J tau ≡ time)
    × (span time tau J ≡ silence)
    × (fits T J tau window longest && (leb 65535 longest || not (fits T J tau window (suc longest))) ≡ true)

pub record Choices : Type 0 where
  pub c1 : Chosen 1000 3500 1 10000 6 9 2 23500 6552
  pub c2 : Chosen 1000 2500 1 1000 5 7 4 6500 65529
  pub c3 : Chosen 3000 5000 0 100000 3 4 2 205000 1965
  pub c4 : Chosen 1000 0 0 1000 2 2 2 2000 65534
  pub c5 : Chosen 1 255 0 1000 257 512 2 2255 65
  pub c6 : Chosen 125 300 2 1000 6 8 2 2300 8191
  pub c7 : Chosen 125 1410 2 1000 15 26 3 4410 8188
  pub c8 : Chosen 1000 999 0 10000 2 2 2 20999 6553
  pub c9 : Chosen 1000 1000 0 10000 3 4 2 21000 6553
  pub c10 : Chosen 1 0 510 21000 512 512 2 42000 3
  pub c11 : Chosen 1000 2500 1 10000000 5 7 2 20002500 6
  pub c12 : Chosen 7 7 0 7 3 4 3 28 65532
  pub c13 : Chosen 7 6 3 7 5 5 2 20 65531
  pub c14 : Chosen 7 8 3 7 6 7 3 29 65529
  pub c15 : Chosen 2 124 7 125 71 133 2 374 1046
  pub c16 : Chosen 1000 30757 5 10253 37 67 4 71769 6385
  pub c17 : Chosen 2 136 5 10000 75 143 2 20136 13
  pub c18 : Chosen 2 283 0 10000 143 284 2 20283 13
  pub c19 : Chosen 1 150 4 1000 156 306 2 2150 65
  pub c20 : Chosen 2 92 8 14 56 102 8 204 9347
  pub c21 : Chosen 20000 2882004 5 10000 151 295 290 5782004 65535
  pub c22 : Chosen 5 331 6 331 74 140 3 1324 987
  pub c23 : Chosen 20000 3336885 2 3336885 170 336 3 13347540 390
  pub c24 : Chosen 20000 1386063 6 462022 77 146 4 3234151 2830
  pub c25 : Chosen 5 680 6 680 144 280 3 2720 479
  pub c26 : Chosen 125 9066 6 1000 80 152 11 20066 8173
  pub c27 : Chosen 1000 47314 5 1000 54 101 49 96314 65435
