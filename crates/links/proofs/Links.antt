-- What a record does with the frames of a sender. Assumes nothing.
use Prim.Native.Nat.{ℕ, zero, suc, ◌+◌, ◌%◌, ◌≤◌, ◌<◌, max}
use mathlib.Core.Path.{◌≡◌, refl, ap, sym, ◌∙◌}
use mathlib.Core.Bool.{Bool, true, false, ◌&&◌, ◌||◌, and-eq-true_iff}
use mathlib.Core.Option.{Option, none, some}
use mathlib.Core.List.{List, [], ◌∷◌, ◌++◌, map, map-append}
use native.Mathlib.Omega.{arith}
use lib.Dec.{eqb, ltb, leb}
use lib.ListN.{length, replicate}
use borrow.Author.Tests.{leb-true, ltb-true, ltb-false, lt-ltb, ne_eqb}
use Rattle.std.specs.Prelude.{if◌then◌else◌}
use Rattle.stream.specs.Decisions.{link_up}
use Rattle.stream.proofs.Logic.{tests}
use Rattle.links.specs.Links.{link_number, last_number, ups, all_within, rises, LinkRises, picked, ascending, RisesAscend, newest, all_apart, rises_anew, RestartsApart, follows, all_follow, AloneAllUp, Frame, copies, first_only, Lockstep}
use Rattle.links.proofs.Numbers.{zero-comes, twin-refused, decides, follows-up}
use Rattle.links.proofs.Decided.{by_last, ups-by-last}

-- ---- without a restart

highest-is : (h x : ℕ) (b : Bool) → ltb h x ≡ b → (if b then some (link_number x) else some (link_number h)) ≡ some (link_number (max h x))
highest-is h x true e = let l : h < x = ltb-true h x e in ap (λ (k : ℕ). some (link_number k)) (omega (arith, l))
highest-is h x false e = let l : x ≤ h = ltb-false h x e in ap (λ (k : ℕ). some (link_number k)) (omega (arith, l))

-- One of them is decided, and the rest are as they were.
within-decides : (h x : ℕ) (xs : List ℕ) → all_within (some h) (x ∷ xs) ≡ true
    → (link_up (link_number h) (link_number x) ≡ ltb h x) × (all_within (some (max h x)) xs ≡ true)
unfolding all_within
within-decides h x xs w =
    let p = simp tests at w in
    (decides h x p.0.0.0 p.0.0.1 p.0.1, p.1)

pub rising : (h : Option ℕ) (xs : List ℕ) → all_within h xs ≡ true → by_last (last_number h) (map link_number xs) ≡ rises h xs
unfolding by_last all_within rises
rising none [] w = refl
rising none (x ∷ xs) w = ap (λ (bs : List Bool). true ∷ bs) (rising (some x) xs w)
rising (some h) [] w = refl
rising (some h) (x ∷ xs) w =
    let d = within-decides h x xs w in
    rw (d.0, highest-is h x (ltb h x) refl, rising (some (max h x)) xs d.1)

pub link-rises : LinkRises
link-rises s h xs k w = ups-by-last s (map link_number xs) k.rule ∙ ap (λ (l : Option ℕ). by_last l (map link_number xs)) k.last ∙ rising h xs w

pub rises-ascend : RisesAscend
unfolding rises picked ascending
rises-ascend none [] = refl
rises-ascend none (x ∷ xs) = rises-ascend (some x) xs
rises-ascend (some h) [] = refl
rises-ascend (some h) (x ∷ xs) = go (ltb h x) refl (rises-ascend (some (max h x)) xs)
  where
    go : (b : Bool) → ltb h x ≡ b → ascending (some (max h x)) (picked (rises (some (max h x)) xs) xs) ≡ true
        → ascending (some h) (picked (ltb h x ∷ rises (some (max h x)) xs) (x ∷ xs)) ≡ true
    go true e r =
        let l : h < x = ltb-true h x e in
        let z : max h x ≡ x = omega (arith, l) in
        rw (e, z, e) (rw z at r)
    go false e r =
        let l : x ≤ h = ltb-false h x e in
        let z : max h x ≡ h = omega (arith, l) in
        rw (e, z) (rw z at r)

-- ---- with restarts that are kept apart

anew : (h x : ℕ) → (eqb x 0 || (leb x (h + 127) && leb h (x + 127))) ≡ true
    → link_up (link_number h) (link_number x) ≡ (if eqb x 0 then ltb 0 h else ltb h x)
unfolding link_number
anew zero zero w = twin-refused 0
anew (suc h) zero w = zero-comes (1 + h % 255) (omega arith) ∙ sym (lt-ltb 0 (suc h) (omega arith))
anew h (suc x) w =
    let n : eqb (suc x) 0 ≡ false = ne_eqb (suc x) 0 (λ e. omega (arith, e)) in
    let t = (and-eq-true_iff (leb (suc x) (h + 127)) (leb h (suc x + 127))).0 (rw n at w) in
    decides h (suc x) (leb-true _ _ t.0) (leb-true _ _ t.1) (rw (lt-ltb 0 (suc x) (omega arith)) refl) ∙ sym (rw n)

newest-is : (h x : ℕ)
    → (if (if eqb x 0 then ltb 0 h else ltb h x) then some (link_number x) else some (link_number h)) ≡ some (link_number (newest h x))
newest-is zero zero = refl
newest-is (suc h) zero = rw (lt-ltb 0 (suc h) (omega arith))
newest-is h (suc x) = rw (ne_eqb (suc x) 0 (λ e. omega (arith, e))) (highest-is h (suc x) (ltb h (suc x)) refl)

pub rising-anew : (h : Option ℕ) (xs : List ℕ) → all_apart h xs ≡ true → by_last (last_number h) (map link_number xs) ≡ rises_anew h xs
unfolding by_last all_apart rises_anew
rising-anew none [] w = refl
rising-anew none (x ∷ xs) w = ap (λ (bs : List Bool). true ∷ bs) (rising-anew (some x) xs w)
rising-anew (some h) [] w = refl
rising-anew (some h) (x ∷ xs) w =
    let p = (and-eq-true_iff (eqb x 0 || (leb x (h + 127) && leb h (x + 127))) (all_apart (some (newest h x)) xs)).0 w in
    rw (anew h x p.0, newest-is h x, rising-anew (some (newest h x)) xs p.1)

pub restarts-apart : RestartsApart
restarts-apart s h xs k w = ups-by-last s (map link_number xs) k.rule ∙ ap (λ (l : Option ℕ). by_last l (map link_number xs)) k.last ∙ rising-anew h xs w

-- ---- one frame after the other

-- More copies directly behind the first are not handed up.
twins : (h k : ℕ) (ns : List ℕ) → by_last (some (link_number h)) (map link_number (replicate k h) ++ ns) ≡ replicate k false ++ by_last (some (link_number h)) ns
unfolding by_last
twins h zero ns = refl
twins h (suc k) ns = rw (twin-refused (link_number h), twins h k ns)

abbrev index_of : Frame → ℕ
index_of f = f.index

-- The frame is handed up, its other copies are not, and it is then the last.
one-frame : (x k : ℕ) (xs : List ℕ) (bs : List Bool) → by_last (some (link_number x)) (map link_number xs) ≡ bs
    → by_last (some (link_number x)) (map link_number (replicate k x ++ xs)) ≡ replicate k false ++ bs
one-frame x k xs bs e = rw (map-append link_number (replicate k x) xs, twins x k (map link_number xs), e)

pub stepping : (h : Option ℕ) (fs : List Frame) → all_follow h (map index_of fs) ≡ true
    → by_last (last_number h) (map link_number (copies fs)) ≡ first_only fs
unfolding by_last all_follow copies first_only
stepping none [] w = refl
stepping none (f ∷ fs) w =
    ap (λ (bs : List Bool). true ∷ bs) (one-frame f.index f.more (copies fs) (first_only fs) (stepping (some f.index) fs w))
stepping (some h) [] w = refl
stepping (some h) (f ∷ fs) w =
    let p = (and-eq-true_iff (follows h f.index) (all_follow (some f.index) (map index_of fs))).0 w in
    rw (follows-up h f.index p.0)
    (ap (λ (bs : List Bool). true ∷ bs) (one-frame f.index f.more (copies fs) (first_only fs) (stepping (some f.index) fs p.1)))

pub lockstep : Lockstep
lockstep s h fs k w = ups-by-last s (map link_number (copies fs)) k.rule ∙ ap (λ (l : Option ℕ). by_last l (map link_number (copies fs))) k.last ∙ stepping h fs w

-- Alone, a frame has one copy.
abbrev single : ℕ → Frame
single x = record { index = x; more = 0 }

singles : (xs : List ℕ) → (map index_of (map single xs) ≡ xs) × (copies (map single xs) ≡ xs) × (first_only (map single xs) ≡ replicate (length xs) true)
unfolding copies first_only
singles [] = (refl, refl, refl)
singles (x ∷ xs) = let r = singles xs in (ap (λ (ys : List ℕ). x ∷ ys) r.0, ap (λ (ys : List ℕ). x ∷ ys) r.1, ap (λ (bs : List Bool). true ∷ bs) r.2)

pub alone-all-up : AloneAllUp
alone-all-up s h xs k w =
    let r = singles xs in
    ap (λ (ys : List ℕ). ups s (map link_number ys)) (sym r.1) ∙ lockstep s h (map single xs) k (ap (all_follow h) r.0 ∙ w) ∙ r.2
