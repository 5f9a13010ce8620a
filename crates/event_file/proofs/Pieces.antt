-- Nothing that is read depends on how the input is cut into pieces. Assumes nothing.
use mathlib.Core.Path.{◌≡◌, refl, sym, ap, ◌∙◌}
use Prim.Native.Nat.{ℕ, zero, suc, ◌+◌, ◌*◌, ◌≤◌}
use native.Mathlib.Nat.{not-suc-le-zero}
use native.Mathlib.Omega.{arith}
use mathlib.Core.Bool.{Bool, true, false, cond}
use mathlib.Core.List.{List, [], ◌∷◌, ◌++◌, append_assoc, append-nil}
use lib.ListN.{length, take, drop, length-append, length-drop}
use lib.Seq.{take-append-le, drop-append-le}
use lib.Dec.{leb}
use borrow.Author.Tests.{leb-true}
use Rattle.event_file.specs.Records.{records_in, records_of}
use Rattle.event_file.specs.Records.File.{cut, body}
use Rattle.event_file.specs.Pieces.{rest_in, rest_of, and_then, pieces_of, all_of}
use Rattle.event_file.specs.Laws.{AnyPieces}
use Rattle.event_file.proofs.Framing.{front}

-- one record in front, whatever follows
one_more : (a b : ℕ) (s t : List ℕ) → a * 256 + b ≤ length s → records_of (a ∷ (b ∷ (s ++ t))) ≡ body (take (a * 256 + b) s) (records_of (drop (a * 256 + b) s ++ t))
one_more a b s t h =
    let w : ℕ = a * 256 + b in
    let l = length-append s t in
    let d : 2 + w ≡ suc (suc w) = omega arith in
    front (a ∷ (b ∷ (s ++ t))) w refl (omega arith) ∙ rw (d, take-append-le w s t h, drop-append-le w s t h)

two-pieces : (n : ℕ) (s t : List ℕ) → length s ≤ n → records_of (s ++ t) ≡ and_then (records_in n s) (records_of (rest_in n s ++ t))
unfolding records_in rest_in and_then
two-pieces zero [] t h = refl
two-pieces zero (a ∷ s) t h = absurd (not-suc-le-zero h)
two-pieces (suc n) [] t h = refl
two-pieces (suc n) (a ∷ []) t h = refl
two-pieces (suc n) (a ∷ (b ∷ s)) t h = go (leb (a * 256 + b) (length s)) refl (λ k. two-pieces n (drop (a * 256 + b) s) t k)
  where
    go : (v : Bool) → leb (a * 256 + b) (length s) ≡ v
        → (length (drop (a * 256 + b) s) ≤ n → records_of (drop (a * 256 + b) s ++ t) ≡ and_then (records_in n (drop (a * 256 + b) s)) (records_of (rest_in n (drop (a * 256 + b) s) ++ t)))
        → records_of (a ∷ (b ∷ (s ++ t))) ≡ and_then (cond v (body (take (a * 256 + b) s) (records_in n (drop (a * 256 + b) s))) cut) (records_of (cond v (rest_in n (drop (a * 256 + b) s)) (a ∷ (b ∷ s)) ++ t))
    go true e f = let l = length-drop (a * 256 + b) s in one_more a b s t (leb-true _ _ e) ∙ ap (body (take (a * 256 + b) s)) (f (omega arith))
    go false e f = refl

pub any-pieces : AnyPieces
unfolding pieces_of all_of rest_of records_of
any-pieces held [] = ap records_of (sym (append-nil held))
any-pieces held (p ∷ ps) =
    ap (and_then (records_of (held ++ p))) (any-pieces (rest_of (held ++ p)) ps)
    ∙ (sym (two-pieces (length (held ++ p)) (held ++ p) (all_of ps) (omega arith)) ∙ ap records_of (append_assoc held p (all_of ps)))
