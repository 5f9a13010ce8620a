-- Frames sent without a reset carry their index modulo 65536. Assumes nothing.
use mathlib.Core.Path.{◌≡◌, refl, sym, ap, ap₂, subst, ◌∙◌}
use Prim.Native.Nat.{ℕ, zero, suc, ◌+◌, ◌%◌, ◌<◌}
use native.Mathlib.Omega.{arith}
use native.Mathlib.Numerals.{add-one}
use native.Mathlib.Decide.{dec_lt}
use mathlib.Core.Logic.{◌⊎◌, inl, inr}
use mathlib.Core.Bool.{true}
use mathlib.Core.Option.{some}
use mathlib.Core.List.{List, [], ◌∷◌, ◌++◌, append_assoc}
use lib.ListN.{length, take}
use borrow.Author.Tests.{eq-eqb, ne_eqb}
use Rattle.refusal.specs.Checks.{Said}
use Rattle.refusal.specs.Checks.Said.{refused, answers}
use Rattle.frame.specs.Bytes.{overlay}
use Rattle.frame.specs.Frame.{tagged}
use Rattle.frame.proofs.Bytes.{overlay-front}
use Rattle.frame.proofs.Writes.{wrote-is}
use Rattle.frame.proofs.PutThenTake.{put-then-take}
use Rattle.sender.specs.declared.Sender.{Sender}
use Rattle.sender.specs.Sender.{Numbered, Sends, sender_at_first, following, send_of}
use Rattle.sender.specs.Runs.{Call, sending, resetting, Side, MeetsSide, the_side, ran, Pair, pair_of, sent, nth, unbroken, Carries, SentFrom, SentAtFirst, SentAfterReset, SentInParts, NextRises, SameBytes, SidesNumber}
use Rattle.sender.proofs.Laws.{Done, send-done-is, refused-keeps}

-- ---- numbers

-- what comes after a number of 16 bits
pub after_is : (n : ℕ) → n < 65536 → following n ≡ (n + 1) % 65536
unfolding following
after_is n h = elim (dec_lt n 65535) [ yes e ↦ rw (ne_eqb n 65535 (λ z. omega arith)) (omega arith) | no e ↦ rw (eq-eqb n 65535 (omega arith)) (omega arith) ]

-- ---- one send

-- what is refused is not sent
nothing-sent : (f : List ℕ) (r : Sends) (n : ℕ) (rest : List Pair) → pair_of f r (refused n) ++ rest ≡ rest
unfolding pair_of
nothing-sent f r n rest = refl

-- it is refused and changes nothing, or it is done
data Case (s : Sender) (f out0 out1 : List ℕ) : Type 0 where
  stays : (n : ℕ) → (send_of s f out0 out1).said ≡ refused n → (send_of s f out0 out1).sender ≡ s → Case s f out0 out1
  goes : (a : Numbered) → (send_of s f out0 out1).said ≡ answers a → Done s f out0 out1 a → Case s f out0 out1

case : (s : Sender) (f out0 out1 : List ℕ) → Case s f out0 out1
case s f out0 out1 = go (send_of s f out0 out1).said refl
  where
    go : (x : Said Numbered) → (send_of s f out0 out1).said ≡ x → Case s f out0 out1
    go (refused n) e = stays n e (ap (λ x. x.sender) (refused-keeps s f out0 out1 n e))
    go (answers a) e = goes a e (send-done-is s f out0 out1 a e)

-- what a send that is done sends carries the next number
pair-carries : (s : Sender) (f out0 out1 : List ℕ) (a : Numbered) → s.next < 65536 → Done s f out0 out1 a
    → (p : Pair) × (pair_of f (send_of s f out0 out1) (answers a) ≡ p ∷ []) × Carries p s.next
unfolding pair_of
pair-carries s f out0 out1 a small d =
    let g : List ℕ = d.frame in
    let w = wrote-is f s.next d.wrote in
    let r = put-then-take f s.next g small d.wrote in
    let l : a.length ≡ length g = ap (λ x. x.length) d.answer in
    let front : (out : List ℕ) → take a.length (overlay g out) ≡ tagged f s.next = λ out. overlay-front g out l ∙ w.same in (
      record { given = f; copy0 = take a.length (send_of s f out0 out1).out0; copy1 = take a.length (send_of s f out0 out1).out1 },
      refl,
      record {
        copy0 = ap (λ x. take a.length x.out0) d.comes ∙ front out0;
        copy1 = ap (λ x. take a.length x.out1) d.comes ∙ front out1;
        read = rw w.same at r.0;
        bare = rw w.same at r.1;
      },
    )

-- ---- a run's first call

-- a send that is refused changes nothing, and one that is done sends a pair with the next number
data Step (side : Side) (s : Sender) (c : Call) (cs : List Call) : Type 0 where
  same : sent side s (c ∷ cs) ≡ sent side s cs → ran side s (c ∷ cs) ≡ ran side s cs → Step side s c cs
  more : (p : Pair) (t : Sender) → Carries p s.next → t.next ≡ (s.next + 1) % 65536
      → sent side s (c ∷ cs) ≡ p ∷ sent side t cs → ran side s (c ∷ cs) ≡ ran side t cs → Step side s c cs

step : (side : Side) → MeetsSide side → (s : Sender) (f out0 out1 : List ℕ) (cs : List Call) → s.next < 65536 → Step side s (sending f out0 out1) cs
unfolding sent ran
step side m s f out0 out1 cs small = go (case s f out0 out1)
  where
    r : Sends
    r = send_of s f out0 out1

    sends : sent side s (sending f out0 out1 ∷ cs) ≡ pair_of f r r.said ++ sent side r.sender cs
    sends = ap (λ (x : Sends). pair_of f x x.said ++ sent side x.sender cs) (m.send s f out0 out1)

    leaves : ran side s (sending f out0 out1 ∷ cs) ≡ ran side r.sender cs
    leaves = ap (λ (x : Sends). ran side x.sender cs) (m.send s f out0 out1)

    go : Case s f out0 out1 → Step side s (sending f out0 out1) cs
    go (stays n e t) =
        same
        (sends ∙ ap (λ (x : Said Numbered). pair_of f r x ++ sent side r.sender cs) e ∙ nothing-sent f r n _ ∙ ap (λ (x : Sender). sent side x cs) t)
        (leaves ∙ ap (λ (x : Sender). ran side x cs) t)
    go (goes a e d) =
        let c = pair-carries s f out0 out1 a small d in
        more
        c.0
        r.sender
        c.2
        (ap (λ (x : Sends). x.sender.next) d.comes ∙ after_is s.next small)
        (sends ∙ ap (λ (x : Said Numbered). pair_of f r x ++ sent side r.sender cs) e ∙ ap (λ (x : List Pair). x ++ sent side r.sender cs) c.1)
        leaves

-- ---- runs

-- the one that a list begins with, or one behind it
found : {A : Type 0} (x : A) (xs : List A) (k : ℕ) {p : A} → nth (x ∷ xs) k ≡ some p → ((k ≡ 0) × (x ≡ p)) ⊎ ((j : ℕ) × (k ≡ j + 1) × (nth xs j ≡ some p))
unfolding nth
found x xs zero e = inl (refl, cc)
found x xs (suc j) e = inr (j, sym (add-one j), e)

not_found : {A : Type 0} (k : ℕ) {p : A} → nth [] k ≡ some p → ⊥
unfolding nth
not_found k e = let z : ◌≡◌ {A = ℕ} 0 1 = cc in omega arith

-- a reset breaks a run
broken : (cs : List Call) → unbroken (resetting ∷ cs) ≡ true → ⊥
unfolding unbroken
broken cs u = let z : ◌≡◌ {A = ℕ} 0 1 = cc in omega arith

module _ (side : Side) (m : MeetsSide side) where
  pub sent-from : SentFrom side
  unfolding sent unbroken
  sent-from s [] k p w e = absurd (not_found k e)
  sent-from s (resetting ∷ cs) k p w e = absurd (broken cs w.whole)
  sent-from s (sending f out0 out1 ∷ cs) k p w e =
      go (λ t j b h. sent-from t cs j p (record { sixteen = b; whole = w.whole }) h) (step side m s f out0 out1 cs w.sixteen)
    where
      Rest : Type 0
      Rest = (t : Sender) (j : ℕ) → t.next < 65536 → nth (sent side t cs) j ≡ some p → Carries p ((t.next + j) % 65536)

      behind : Rest → (p₀ : Pair) (t : Sender) → Carries p₀ s.next → t.next ≡ (s.next + 1) % 65536
          → ((k ≡ 0) × (p₀ ≡ p)) ⊎ ((j : ℕ) × (k ≡ j + 1) × (nth (sent side t cs) j ≡ some p)) → Carries p ((s.next + k) % 65536)
      behind rest p₀ t c n (inl (z, e)) =
          let b = w.sixteen in
          let h : s.next ≡ (s.next + k) % 65536 = omega arith in
          subst (λ (x : ℕ). Carries p x) h (subst (λ (x : Pair). Carries x s.next) e c)
      behind rest p₀ t c n (inr (j, z, e)) =
          let h : (t.next + j) % 65536 ≡ (s.next + k) % 65536 = omega arith in
          subst (λ (x : ℕ). Carries p x) h (rest t j (omega arith) e)

      go : Rest → Step side s (sending f out0 out1) cs → Carries p ((s.next + k) % 65536)
      go rest (same q r) = rest s k w.sixteen (ap (λ (l : List Pair). nth l k) (sym q) ∙ e)
      go rest (more p₀ t c n q r) = behind rest p₀ t c n (found p₀ (sent side t cs) k (ap (λ (l : List Pair). nth l k) (sym q) ∙ e))

  pub next-rises : NextRises side
  unfolding sent ran unbroken
  next-rises s [] w = let b = w.sixteen in omega arith
  next-rises s (resetting ∷ cs) w = absurd (broken cs w.whole)
  next-rises s (sending f out0 out1 ∷ cs) w =
      go (λ t b. next-rises t cs (record { sixteen = b; whole = w.whole })) (step side m s f out0 out1 cs w.sixteen)
    where
      go : ((t : Sender) → t.next < 65536 → (ran side t cs).next ≡ (t.next + length (sent side t cs)) % 65536) → Step side s (sending f out0 out1) cs
          → (ran side s (sending f out0 out1 ∷ cs)).next ≡ (s.next + length (sent side s (sending f out0 out1 ∷ cs))) % 65536
      go rest (same q r) = ap (λ (x : Sender). x.next) r ∙ rest s w.sixteen ∙ ap (λ (l : List Pair). (s.next + length l) % 65536) (sym q)
      go rest (more p t c n q r) =
          let h = rest t (omega arith) in
          let l : length (sent side s (sending f out0 out1 ∷ cs)) ≡ length (sent side t cs) + 1 = ap length q ∙ sym (add-one _) in
          let z : (t.next + length (sent side t cs)) % 65536 ≡ (s.next + length (sent side s (sending f out0 out1 ∷ cs))) % 65536 = omega arith in
          ap (λ (x : Sender). x.next) r ∙ h ∙ z

  pub sent-at-first : SentAtFirst side
  sent-at-first calls k p u e = subst (λ (x : ℕ). Carries p x) (omega arith) (sent-from sender_at_first calls k p (record { sixteen = omega arith; whole = u }) e)

  -- behind a reset the sender is one at first
  reset-at-first : (s : Sender) (before : List Call) → ran side s (before ++ resetting ∷ []) ≡ sender_at_first
  unfolding ran
  reset-at-first s [] = m.reset s
  reset-at-first s (sending f out0 out1 ∷ cs) = reset-at-first (side.send s f out0 out1).sender cs
  reset-at-first s (resetting ∷ cs) = reset-at-first (side.reset s) cs

  pub sent-after-reset : SentAfterReset side
  sent-after-reset s before after k p u e =
      sent-at-first after k p u (ap (λ (x : Sender). nth (sent side x after) k) (sym (reset-at-first s before)) ∙ e)

  pub sent-in-parts : SentInParts side
  unfolding sent ran
  sent-in-parts s [] after = refl
  sent-in-parts s (sending f out0 out1 ∷ cs) after =
      ap (λ (l : List Pair). pair_of f (side.send s f out0 out1) (side.send s f out0 out1).said ++ l) (sent-in-parts (side.send s f out0 out1).sender cs after)
      ∙ sym (append_assoc (pair_of f (side.send s f out0 out1) (side.send s f out0 out1).said) _ _)
  sent-in-parts s (resetting ∷ cs) after = sent-in-parts (side.reset s) cs after

  pub same_bytes : SameBytes side
  same_bytes s calls k p q w e d g =
      let a = sent-from s calls k p w e in
      let b = sent-from s calls (k + 65536) q w d in
      let n : (s.next + k) % 65536 ≡ (s.next + (k + 65536)) % 65536 = omega arith in
      let t : tagged p.given ((s.next + k) % 65536) ≡ tagged q.given ((s.next + (k + 65536)) % 65536) = ap₂ tagged g n in
      let c0 : p.copy0 ≡ q.copy0 = a.copy0 ∙ t ∙ sym b.copy0 in
      let c1 : p.copy1 ≡ q.copy1 = a.copy1 ∙ t ∙ sym b.copy1 in
      λ i. record { given = g i; copy0 = c0 i; copy1 = c1 i }

pub the-side-meets : MeetsSide the_side
unfolding the_side
the-side-meets = record { send = λ s f out0 out1. refl; reset = λ s. refl }

pub sides-number : SidesNumber
sides-number side m = record {
  sent-from = sent-from side m;
  sent-at-first = sent-at-first side m;
  sent-after-reset = sent-after-reset side m;
  sent-in-parts = sent-in-parts side m;
  next-rises = next-rises side m;
  same_bytes = same_bytes side m;
}
