-- Computed. Assumes nothing.
use mathlib.Core.Path.{refl}
use Rattle.delays_runs.specs.Choices.{Choices}

pub choices : Choices
choices = record {
  c1 = (refl, refl, refl, refl, refl);
  c2 = (refl, refl, refl, refl, refl);
  c3 = (refl, refl, refl, refl, refl);
  c4 = (refl, refl, refl, refl, refl);
  c5 = (refl, refl, refl, refl, refl);
  c6 = (refl, refl, refl, refl, refl);
  c7 = (refl, refl, refl, refl, refl);
  c8 = (refl, refl, refl, refl, refl);
  c9 = (refl, refl, refl, refl, refl);
  c10 = (refl, refl, refl, refl, refl);
  c11 = (refl, refl, refl, refl, refl);
  c12 = (refl, refl, refl, refl, refl);
  c13 = (refl, refl, refl, refl, refl);
  c14 = (refl, refl, refl, refl, refl);
  c15 = (refl, refl, refl, refl, refl);
  c16 = (refl, refl, refl, refl, refl);
  c17 = (refl, refl, refl, refl, refl);
  c18 = (refl, refl, refl, refl, refl);
  c19 = (refl, refl, refl, refl, refl);
  c20 = (refl, refl, refl, refl, refl);
  c21 = (refl, refl, refl, refl, refl);
  c22 = (refl, refl, refl, refl, refl);
  c23 = (refl, refl, refl, refl, refl);
  c24 = (refl, refl, refl, refl, refl);
  c25 = (refl, refl, refl, refl, refl);
  c26 = (refl, refl, refl, refl, refl);
  c27 = (refl, refl, refl, refl, refl);
}
