-- A file is read record by record, and piece by piece. Assumes nothing.
use mathlib.Core.Path.{◌≡◌, refl, sym, ap, ◌∙◌}
use Prim.Native.Nat.{ℕ, zero, suc, ◌+◌, ◌-◌, ◌*◌, ◌≤◌, ◌<◌}
use native.Mathlib.Nat.{not-suc-le-zero, add-zero}
use native.Mathlib.Decide.{dec_lt}
use native.Mathlib.Omega.{arith}
use mathlib.Core.Bool.{Bool, true, false, cond}
use mathlib.Core.List.{List, [], ◌∷◌, ◌++◌, append-nil}
use lib.ListN.{length, get_or, take, drop, length-append, length-drop, get_or-append, drop_of_length-le}
use lib.Seq.{take-append-le, drop-append-le, drop-drop, get_or-drop}
use lib.Dec.{ltb, leb, eqb}
use borrow.Author.Tests.{le-leb, lt-leb, ltb-true, ltb-false, eq-eqb, ne_eqb}
use Rattle.frame.specs.Bytes.{word}
use Rattle.event_file.specs.Records.{read_at, File, records_in, records_of}
use Rattle.event_file.specs.Records.File.{ended, cut, body}
use Rattle.event_file.specs.Laws.{EnoughSteps}
use Rattle.std.specs.Prelude.{Option, Some, None}
use Rattle.event_file.specs.declared.reader.Body.{Body}

-- as many steps as there are bytes are enough
pub same : (n m : ℕ) (s : List ℕ) → length s ≤ n → length s ≤ m → records_in n s ≡ records_in m s
unfolding records_in
same zero zero s h k = refl
same zero (suc m) [] h k = refl
same zero (suc m) (a ∷ s) h k = absurd (not-suc-le-zero h)
same (suc n) zero [] h k = refl
same (suc n) zero (a ∷ s) h k = absurd (not-suc-le-zero k)
same (suc n) (suc m) [] h k = refl
same (suc n) (suc m) (a ∷ []) h k = refl
same (suc n) (suc m) (a ∷ (b ∷ s)) h k =
    let l = length-drop (a * 256 + b) s in
    ap (λ (f : File). cond (leb (a * 256 + b) (length s)) (body (take (a * 256 + b) s) f) cut) (same n m (drop (a * 256 + b) s) (omega arith) (omega arith))

pub enough-steps : EnoughSteps
unfolding records_of
enough-steps most s h = same most (length s) s h (omega arith)

-- a whole record in front
pub front : (s : List ℕ) (w : ℕ) → w ≡ word s 0 → 2 + w ≤ length s → records_of s ≡ body (take w (drop 2 s)) (records_of (drop (2 + w) s))
unfolding records_in records_of
front [] w e h = absurd (omega arith)
front (a ∷ []) w e h = absurd (omega arith)
front (a ∷ (b ∷ s)) w e h =
    let k : w ≤ length s = omega arith in
    let l = length-drop w s in
    let d : 2 + w ≡ suc (suc w) = omega arith in
    rw (← e, d) (simp (le-leb _ _ k) (ap (body (take w s)) (same (suc (length s)) (length (drop w s)) (drop w s) (omega arith) (omega arith))))

-- less than one
cut_off : (s : List ℕ) → 0 < length s → length s < 2 + word s 0 → records_of s ≡ cut
unfolding records_in records_of
cut_off [] h k = absurd (omega arith)
cut_off (a ∷ []) h k = refl
cut_off (a ∷ (b ∷ s)) h k = let m : length s < a * 256 + b = omega arith in simp (lt-leb _ _ m)

-- what a reader's answer says
pub record Whole (s : List ℕ) (at i j : ℕ) : Type 0 where
  pub start : i ≡ at + 2
  pub end : j ≡ i + word s at
  pub room : j ≤ length s

pick : (t : Bool) {z : Option Body} {b : Body} → Some b ≡ cond t None z → (t ≡ false) × (Some b ≡ z)
pick true e = cc
pick false e = (refl, e)

pub whole_is : (s : List ℕ) (at : ℕ) {r : Option Body} (b : Body) → r ≡ read_at s at → r ≡ Some b → Whole s at b.start b.end
unfolding read_at
whole_is s at b p q =
    let x = pick (ltb (length s) (at + 2)) (sym q ∙ p) in
    let y = pick (ltb (length s) (at + 2 + word s at)) x.1 in
    let e : b ≡ record { start = at + 2; end = at + 2 + word s at } = cc y.1 in
    let u : b.start ≡ at + 2 = ap (λ (b : Body). b.start) e in
    let v : b.end ≡ at + 2 + word s at = ap (λ (b : Body). b.end) e in
    record { start = u; end = omega arith; room = omega (arith, ltb-false (length s) (at + 2 + word s at) y.0) }

none-is : (s : List ℕ) (at : ℕ) → None ≡ read_at s at → length s < at + 2 + word s at
unfolding read_at
none-is s at p = go (ltb (length s) (at + 2)) (ltb (length s) (at + 2 + word s at)) _ refl refl p
  where
    go : (b c : Bool) (w : Body) → ltb (length s) (at + 2) ≡ b → ltb (length s) (at + 2 + word s at) ≡ c → None ≡ cond b None (cond c None (Some w)) → length s < at + 2 + word s at
    go true c w e f z = omega (arith, ltb-true (length s) (at + 2) e)
    go false true w e f z = ltb-true (length s) (at + 2 + word s at) f
    go false false w e f z = cc

-- the length bytes, whatever follows
same_word : (s : List ℕ) (at : ℕ) (t : List ℕ) → at + 2 ≤ length s → word (drop at s ++ t) 0 ≡ word s at
same_word s at t h =
    let l = length-drop at s in
    let a : get_or (drop at s ++ t) 0 0 ≡ get_or s at 0 = get_or-append (drop at s) t 0 0 (omega arith) ∙ (get_or-drop at s 0 0 ∙ ap (λ (k : ℕ). get_or s k 0) (add-zero at)) in
    let b : get_or (drop at s ++ t) 1 0 ≡ get_or s (at + 1) 0 = get_or-append (drop at s) t 0 1 (omega arith) ∙ get_or-drop at s 1 0 in
    omega (arith, a, b)

-- a whole record at a place, whatever follows the bytes that are there
pub one-record : (s : List ℕ) (at i j : ℕ) (t : List ℕ) → Whole s at i j → records_of (drop at s ++ t) ≡ body (take (j - i) (drop i s)) (records_of (drop j s ++ t))
one-record s at i j t h =
    let w : ℕ = word s at in
    let u : List ℕ = drop at s ++ t in
    let x = h.start in
    let y = h.end in
    let z = h.room in
    let l : length (drop at s) ≡ length s - at = length-drop at s in
    let l' : length (drop i s) ≡ length s - i = length-drop i s in
    let n : length u ≡ length (drop at s) + length t = length-append (drop at s) t in
    let p : at + 2 ≡ i = omega arith in
    let q : at + (2 + w) ≡ j = omega arith in
    let r : w ≡ j - i = omega arith in
    let d : drop 2 u ≡ drop i s ++ t = drop-append-le 2 (drop at s) t (omega arith) ∙ ap (λ (v : List ℕ). v ++ t) (drop-drop 2 at s ∙ ap (λ (k : ℕ). drop k s) p) in
    let e : drop (2 + w) u ≡ drop j s ++ t = drop-append-le (2 + w) (drop at s) t (omega arith) ∙ ap (λ (v : List ℕ). v ++ t) (drop-drop (2 + w) at s ∙ ap (λ (k : ℕ). drop k s) q) in
    let f : take w (drop 2 u) ≡ take (j - i) (drop i s) = ap (take w) d ∙ (take-append-le w (drop i s) t (omega arith) ∙ ap (λ (k : ℕ). take k (drop i s)) r) in
    front u w (sym (same_word s at t (omega arith))) (omega arith) ∙ cc

-- less than a record at a place is less than one in front of what is left
short-front : (s : List ℕ) (at : ℕ) → at ≤ length s → length s < at + 2 + word s at → length (drop at s) < 2 + word (drop at s) 0
short-front s at h k =
    let l : length (drop at s) ≡ length s - at = length-drop at s in
    elim (dec_lt (at + 1) (length s)) [ yes p ↦ (let w : word (drop at s) 0 ≡ word s at = rw append-nil at (same_word s at [] (omega arith)) in omega arith) | no p ↦ omega arith ]

nothing_left : (s : List ℕ) (at : ℕ) → length s ≡ at → records_of (drop at s) ≡ ended
unfolding records_of records_in
nothing_left s at e = let h : length s ≤ at = omega arith in rw (drop_of_length-le s h)

-- no whole record at a place: the end, or a cut
pub last-record : (s : List ℕ) (at : ℕ) → at ≤ length s → None ≡ read_at s at → records_of (drop at s) ≡ cond (eqb (length s) at) ended cut
last-record s at h m = elim (dec_lt at (length s)) [ yes p ↦ some p | no p ↦ none (omega arith) ]
  where
    none : length s ≡ at → records_of (drop at s) ≡ cond (eqb (length s) at) ended cut
    none e = simp (eq-eqb _ _ e) (nothing_left s at e)

    some : at < length s → records_of (drop at s) ≡ cond (eqb (length s) at) ended cut
    some p =
        let l = length-drop at s in
        let ne : (length s ≡ at → ⊥) = λ e. omega arith in
        simp (ne_eqb _ _ ne) (cut_off (drop at s) (omega arith) (short-front s at h (none-is s at m)))
