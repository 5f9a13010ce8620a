-- Document 02, order 10: what a virtual link's reader and writer come to, by the tests that the code makes. Assumes nothing.
use Prim.Native.Nat.{ℕ, ◌-◌, ◌%◌, ◌≤◌, ◌<◌}
use mathlib.Core.Path.{◌≡◌, ap, ap₂, sym, ◌∙◌}
use mathlib.Core.Bool.{Bool, true, false}
use mathlib.Core.List.{List}
use lib.Dec.{ltb}
use lib.ListN.{length, length-take, get_or}
use native.Mathlib.Omega.{arith}
use borrow.Author.Tests.{lt-ltb, le-ltb, le-leb, lt-leb, ltb-false}
use Rattle.refusal.specs.Checks.Said.{refused, answers}
use Rattle.refusal.specs.Numbers.{LONG, SHORT, GROUP}
use Rattle.refusal.proofs.Checks.{passed}
use Rattle.record.specs.Sizes.{frame_most}
use Rattle.frame.specs.Bytes.{overlay}
use Rattle.frame.specs.Frame.{dest_of, group_source}
use Rattle.frame.specs.Link.{Link, link_least, last_byte, but_last, link_of, shorter_fits, written_shorter}
use Rattle.frame.proofs.Writes.{and_no}

module _ (f : List ℕ) where
  pub link-long : frame_most < length f → refused LONG ≡ link_of f
  unfolding link_of
  link-long h = simp (lt-ltb _ _ h)

  module _ (few : length f ≤ frame_most) where
    pub link-short : length f < link_least → refused SHORT ≡ link_of f
    unfolding link_of
    link-short h = simp (le-ltb _ _ few, lt-ltb _ _ h)

    module _ (least : link_least ≤ length f) where
      pub link-group : {g : Bool} → g ≡ group_source f → g ≡ true → refused GROUP ≡ link_of f
      unfolding link_of
      link-group e h = simp (le-ltb _ _ few, le-ltb _ _ least, sym e ∙ h)

      pub link-read : {g : Bool} {dest number : ℕ} → g ≡ group_source f → g ≡ false → dest ≡ dest_of f → number ≡ get_or f (length f - 1) 0 → number < 256
          → answers (record { dest = dest; number = number }) ≡ link_of f
      unfolding link_of last_byte
      link-read {g} {dest} {number} e h d n small =
          simp (le-ltb _ _ few, le-ltb _ _ least, sym e ∙ h)
          (ap₂ (λ (x m : ℕ). answers (record { dest = x; number = m })) d (let same : number ≡ number % 256 = omega arith in same ∙ ap (λ (k : ℕ). k % 256) n))

-- what a caller of `read_link` learns
pub record LinkSizes (f : List ℕ) : Type 0 where
  pub few : length f ≤ frame_most
  pub some : 1 ≤ length f

pub link-sizes : (f : List ℕ) {g : Link} → link_of f ≡ answers g → LinkSizes f
unfolding link_of
link-sizes f e =
    let a = passed (ltb frame_most (length f)) LONG (sym e) in
    let b = passed (ltb (length f) link_least) SHORT a.1 in
    let least : link_least ≤ length f = ltb-false _ _ b.0 in
    record { few = ltb-false _ _ a.0; some = omega (arith, least) }

pub but-last-length : (f : List ℕ) → length (but_last f) ≡ length f - 1
unfolding but_last
but-last-length f = simp length-take (omega arith)

module _ (f out : List ℕ) where
  pub shorter-fits : 1 ≤ length f → length f ≤ frame_most → length f - 1 ≤ length out → written_shorter f out ≡ overlay (but_last f) out
  unfolding written_shorter shorter_fits
  shorter-fits a b c = simp (le-leb _ _ a, le-leb _ _ b, le-leb _ _ c)

  pub shorter-long : frame_most < length f → out ≡ written_shorter f out
  unfolding written_shorter shorter_fits
  shorter-long h = simp (lt-leb _ _ h, and_no)

  pub shorter-none : length f < 1 → out ≡ written_shorter f out
  unfolding written_shorter shorter_fits
  shorter-none h = simp (lt-leb _ _ h)

  pub shorter-small : length out < length f - 1 → out ≡ written_shorter f out
  unfolding written_shorter shorter_fits
  shorter-small h = simp (lt-leb _ _ h, and_no)
