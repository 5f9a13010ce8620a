-- What a writer puts into a buffer: one write behind another, and none where there is no room. Assumes nothing.
use mathlib.Core.Path.{◌≡◌, refl, sym, ap, ◌∙◌}
use Prim.Native.Nat.{ℕ, ◌+◌, ◌/◌, ◌%◌, ◌^◌, ◌≤◌, ◌<◌}
use native.Mathlib.Nat.{add_assoc}
use native.Mathlib.Omega.{arith}
use mathlib.Core.List.{List, [], ◌∷◌, ◌++◌, append_assoc}
use lib.ListN.{length, take, drop, length-append, length-take, length-drop, take-append-drop}
use lib.Seq.{take_at, drop_at, drop-drop}
use borrow.Author.Tests.{le-leb}
use Rattle.event_file.specs.Text.{digit, decimal_of}
use Rattle.event_file.specs.Buffers.{written, Put, Writes}
use Rattle.event_file.specs.Writer.{Adds}
use Rattle.event_file.specs.declared.writer.Writer.{Writer}
use Rattle.event_file.specs.Laws.{WritesCoincide}
use Rattle.event_file.proofs.Decimals.{decimal-small, decimal-two, decimal-both, decimal-four, decimal-fours}

-- two writes, one behind the other
written_twice : (at : ℕ) (a b old : List ℕ) → at ≤ length old → written (at + length a) b (written at a old) ≡ written at (a ++ b) old
unfolding written
written_twice at a b old h =
    let q : List ℕ = drop (at + length a) old in
    let p : List ℕ = take at old ++ a in
    let n : length p ≡ at + length a = simp (length-append, length-take) (omega arith) in
    let e : take at old ++ (a ++ q) ≡ p ++ q = sym (append_assoc (take at old) a q) in
    let d : drop (at + length a + length b) (p ++ q) ≡ drop (at + length a + length b) old = sym (drop-drop (length b) (at + length a) (p ++ q)) ∙ (ap (drop (length b)) (drop_at p q (at + length a) n) ∙ drop-drop (length b) (at + length a) old) in
    rw (e, take_at p q (at + length a) n, d) (simp (append_assoc, length-append, add_assoc))

pub length-written : (at : ℕ) (a old : List ℕ) → at + length a ≤ length old → length (written at a old) ≡ length old
unfolding written
length-written at a old h = simp (length-append, length-take, length-drop) (omega arith)

pub joined : {a b old mid new : List ℕ} {at m r : ℕ} → Put a at old mid m → Put b m mid new r → Put (a ++ b) at old new r
joined {a} {b} {old} {mid} {new} {at} {m} {r} x y =
    let e : length mid ≡ length old = ap length x.same ∙ length-written at a old x.room in
    let f : new ≡ written (at + length a) b (written at a old) = y.same ∙ cc in
    record {
      room = rw (length-append a b) (omega (arith, x.place, y.room));
      same = f ∙ written_twice at a b old (omega (arith, x.room));
      place = rw (length-append a b) (omega (arith, x.place, y.place));
    }

-- a writer adds one behind the other
pub adds_joined : {m n : ℕ} {a b : List ℕ} {u v w : Writer} → Adds m a u v → Adds n b v w → Adds (m + n) (a ++ b) u w
adds_joined {m} {n} {a} {b} {u} {v} {w} x y =
    let k = length-append a b in
    record {
      short = omega (arith, x.short, y.short);
      put = λ h.
          let p = x.put (omega arith) in
          let e = ap length p.same in
          let f = length-written u.at a u.buf.now p.room in
          joined p (y.put (omega (arith, p.place)));
      lent = cc;
    }

pub adds_within : {m : ℕ} (n : ℕ) {a b : List ℕ} {u v : Writer} → m ≤ n → b ≡ a → Adds m a u v → Adds n b u v
adds_within n h e x = rw e (record { short = omega (arith, x.short); put = x.put; lent = x.lent })

pub adds_nothing : (n : ℕ) (w : Writer) → Adds n [] w w
unfolding written
adds_nothing n w =
    let z : w.at + 0 ≡ w.at = omega arith in
    record {
      short = omega arith;
      put = λ h. record { room = h; same = rw z (sym (take-append-drop w.at w.buf.now)); place = omega arith };
      lent = refl;
    }

-- a number of 64 bits, digit by digit
module _ (n : ℕ) (h : n < 2 ^ 64) where
  pub adds_small : {u v : Writer} → n < 10 → Adds 1 ((48 + n) ∷ []) u v → Adds 20 (decimal_of n) u v
  adds_small s x = adds_within 20 (omega arith) (decimal-small n s) x

-- the same, written from a place on where there is room for all of it
abbrev Put2 : (n at : ℕ) (old now : List ℕ) (r : ℕ) → Type 0
Put2 n at old now r = at + 2 ≤ length old → Put (digit (n / 10) ∷ (digit n ∷ [])) at old now r

abbrev Put4 : (n at : ℕ) (old now : List ℕ) (r : ℕ) → Type 0
Put4 n at old now r = at + 4 ≤ length old → Put (digit (n / 1000) ∷ (digit (n / 100) ∷ (digit (n / 10) ∷ (digit n ∷ [])))) at old now r

abbrev PutAll : (n at : ℕ) (old now : List ℕ) (r : ℕ) → Type 0
PutAll n at old now r = at + length (decimal_of n) ≤ length old → Put (decimal_of n) at old now r

both-joined : {at m r p q : ℕ} {a b old mid now : List ℕ} → length a ≡ p → length b ≡ q → (at + p ≤ length old → Put a at old mid m) → (m + q ≤ length mid → Put b m mid now r)
    → at + (p + q) ≤ length old → Put (a ++ b) at old now r
both-joined {at} {m} {r} {p} {q} {a} {b} {old} {mid} {now} e f x y k =
    let u = x (omega arith) in
    let g : length mid ≡ length old = ap length u.same ∙ length-written at a old u.room in
    joined u (y (omega (arith, u.place)))

pub two-put : (n : ℕ) {at r : ℕ} {old now : List ℕ} → n < 100 → 10 ≤ n → Put2 n at old now r → PutAll n at old now r
two-put n s l x k = rw (decimal-both n s l) (x (omega (arith, ap length (decimal-both n s l))))

pub three-put : (n : ℕ) {at m r : ℕ} {old mid now : List ℕ} → n < 1000 → 100 ≤ n → (at + 1 ≤ length old → Put ((48 + n / 100) ∷ []) at old mid m) → Put2 n m mid now r → PutAll n at old now r
three-put n s l x y k =
    let e : decimal_of n ≡ (48 + n / 100) ∷ (digit (n / 10) ∷ (digit n ∷ [])) = decimal-two n (omega arith) l ∙ ap (λ (t : List ℕ). t ++ (digit (n / 10) ∷ (digit n ∷ []))) (decimal-small (n / 100) (omega arith)) in
    rw e (both-joined refl refl x y (omega (arith, ap length e)))

pub twice-put : (n : ℕ) {at m r : ℕ} {old mid now : List ℕ} → Put2 (n % 10000 / 100) at old mid m → Put2 (n % 10000) m mid now r → Put4 n at old now r
twice-put n {at} {m} {r} {old} {mid} {now} x y k =
    let a : digit (n / 1000) ≡ digit (n % 10000 / 100 / 10) = omega arith in
    let b : digit (n / 100) ≡ digit (n % 10000 / 100) = omega arith in
    let c : digit (n / 10) ≡ digit (n % 10000 / 10) = omega arith in
    let d : digit n ≡ digit (n % 10000) = omega arith in
    let p : Put (digit (n % 10000 / 100 / 10) ∷ (digit (n % 10000 / 100) ∷ (digit (n % 10000 / 10) ∷ (digit (n % 10000) ∷ [])))) at old now r = both-joined refl refl x y (omega arith) in
    rw (a, b, c, d) p

pub four-put : (n : ℕ) {at r : ℕ} {old now : List ℕ} → n < 10000 → 1000 ≤ n → Put4 n at old now r → PutAll n at old now r
four-put n s l x k = let e = decimal-four n s l in rw e (x (omega (arith, ap length e)))

pub digits-put : (n : ℕ) {at m r : ℕ} {old mid now : List ℕ} → n < 2 ^ 64 → 10000 ≤ n → PutAll (n / 10000) at old mid m → Put4 n m mid now r → PutAll n at old now r
digits-put n h l x y k =
    let e = decimal-fours n h l in
    rw e (both-joined refl refl x y (omega (arith, ap length e, length-append (decimal_of (n / 10000)) (digit (n / 1000) ∷ (digit (n / 100) ∷ (digit (n / 10) ∷ (digit n ∷ [])))))))

-- what stands before the answered place
pub front_of : {new old now : List ℕ} {at r : ℕ} → Put new at old now r → take r now ≡ take at old ++ new
unfolding written
front_of {new} {old} {now} {at} {r} p =
    let n : length (take at old ++ new) ≡ at + length new = simp (length-append, length-take) (omega (arith, p.room)) in
    rw (p.place, p.same, ← append_assoc (take at old) new) (take_at (take at old ++ new) (drop (at + length new) old) (at + length new) n)

-- a writer for every place: with room it puts its bytes, and without it writes nothing
module _ {new old now : List ℕ} (most at : ℕ) {r : ℕ} where
  pub writes-put : at + most ≤ length old → Writes most new at old now r → Put new at old now r
  writes-put h w = record { room = w.enough h; same = rw (le-leb _ _ h) at w.same; place = rw (le-leb _ _ h) at w.place }

pub writes-coincide : WritesCoincide
writes-coincide most new at old now other next behind a b = (a.same ∙ sym b.same, a.place ∙ sym b.place)
