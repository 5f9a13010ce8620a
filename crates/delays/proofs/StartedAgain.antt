-- A receiver that is started again. Assumes nothing.
use Prim.Native.Nat.{ℕ, zero, suc, ◌≤◌}
use mathlib.Core.Path.{◌≡◌, refl, sym, ◌∙◌}
use mathlib.Core.Logic.{◌⊎◌, inl, inr, ⊎_elim}
use mathlib.Core.Bool.{Bool, true, false, false≢true}
use mathlib.Core.List.{List, [], ◌∷◌, ◌++◌, append_assoc}
use native.Mathlib.Omega.{arith}
use Rattle.stream.specs.Decisions.{Verdict, is_up}
use Rattle.stream.proofs.Logic.{tests}
use Rattle.demands.specs.Receiver.{Receiver}
use Rattle.demands.specs.Seen.{verdicts}
use Rattle.demands.specs.Unlimited.{elem}
use Rattle.demands.specs.Corollaries.{handed_of, distinct}
use Rattle.demands.specs.Missed.{ExactlyOnce}
use Rattle.delays.specs.Formulas.{traffic_window, least_wait}
use Rattle.delays.specs.Line.{J, Event, came, ticked, indices}
use Rattle.delays.specs.OnceEach.{Sees, OnceEachOpened, window_for, none_behind, fewer_between}
use Rattle.delays.specs.StartedAgain.{copies_in, ticks_in, NoneBehindWait, Among, HandedCame, NoneTwiceOverLives, handed_in_all, NoneTwiceInAllLives, OnceEachStartedAgain}
use Rattle.delays.proofs.Lists.{either, here, there, in-append, in-first, in-second, in_either}
use Rattle.delays.proofs.Traffic.{indices-append}
use Rattle.delays.proofs.FewerTicks.{dropped, no_more, fewer-ticks}
use Rattle.delays.proofs.Promise.{up-at-first-is-once}

-- ---- behind the wait

-- What does not come behind so many ticks does not come behind a part that has them.
past : (n x : ℕ) (wait es : List Event) → none_behind n x (wait ++ es) ≡ true → n ≤ ticks_in wait → elem x (indices es) ≡ false
unfolding ticks_in none_behind indices
past zero x [] es q h = no_more x es q
past (suc n) x [] es q h = absurd (omega arith)
past n x (came y a ∷ wait) es q h = past n x wait es (dropped n x y a (wait ++ es) q) h
past zero x (ticked c ∷ wait) es q h = past zero x wait es q (omega arith)
past (suc n) x (ticked c ∷ wait) es q h = past n x wait es q (omega arith)

-- Copies alone have no tick.
behind-copies : (n x : ℕ) (old rest : List Event) → none_behind n x (copies_in old ++ rest) ≡ true → none_behind n x rest ≡ true
unfolding copies_in
behind-copies n x [] rest q = q
behind-copies n x (came y a ∷ old) rest q = behind-copies n x old rest (dropped n x y a (copies_in old ++ rest) q)
behind-copies n x (ticked c ∷ old) rest q = behind-copies n x old rest q

came-before : (n x : ℕ) (old rest : List Event) → fewer_between n (copies_in old ++ rest) ≡ true → elem x (indices old) ≡ true
    → none_behind n x rest ≡ true
unfolding copies_in fewer_between indices elem
came-before n x [] rest q i = absurd (false≢true i)
came-before n x (came y a ∷ old) rest q i =
    let p = simp tests at q in
    go p.0 (either x y (indices old) i) (λ j. came-before n x old rest p.1 j)
  where
    go : none_behind n y (copies_in old ++ rest) ≡ true → (x ≡ y) ⊎ (elem x (indices old) ≡ true)
        → (elem x (indices old) ≡ true → none_behind n x rest ≡ true) → none_behind n x rest ≡ true
    go p (inl e) f = behind-copies n x old rest (rw e p)
    go p (inr e) f = f e
came-before n x (ticked c ∷ old) rest q i = came-before n x old rest q i

pub none-behind-wait : NoneBehindWait
none-behind-wait n old wait es q h x i =
    past n x wait es (came-before n x old (wait ++ es) (rw (append_assoc (copies_in old) wait es) at q) i) h

-- ---- none twice

pub handed-came : HandedCame
unfolding handed_of elem
handed-came [] xs y i = absurd (false≢true i)
handed-came (v ∷ vs) [] y i = absurd (false≢true i)
handed-came (v ∷ vs) (x ∷ xs) y i = go (is_up v) refl (handed-came vs xs y)
  where
    go : (b : Bool) → is_up v ≡ b → (elem y (handed_of vs xs) ≡ true → elem y xs ≡ true) → elem y (x ∷ xs) ≡ true
    go true e f = ⊎_elim (here y x xs) (λ p. there y x xs (f p)) (either y x (handed_of vs xs) (rw e at i))
    go false e f = there y x xs (f (rw e at i))

is-not : (b : Bool) → (b ≡ true → ⊥) → b ≡ false
is-not true f = absurd (f refl)
is-not false f = refl

both-distinct : (xs ys : List ℕ) → distinct xs ≡ true → distinct ys ≡ true → ((x : ℕ) → elem x xs ≡ true → elem x ys ≡ false)
    → distinct (xs ++ ys) ≡ true
unfolding distinct
both-distinct [] ys p q f = q
both-distinct (x ∷ xs) ys p q f =
    let r = simp tests at p in
    rw (in-append x xs ys, r.0, f x (here x x xs refl)) (both-distinct xs ys r.1 q (λ y i. f y (there y x xs i)))

pub none-twice-over-lives : NoneTwiceOverLives
none-twice-over-lives n old wait es handed vs q h one among two =
    both-distinct handed (handed_of vs (indices es)) one two
    (λ x i. is-not (elem x (handed_of vs (indices es)))
    (λ j. false≢true (sym (none-behind-wait n old wait es q h x (among x i)) ∙ handed-came vs (indices es) x j)))

-- For the next life all this came before.
among-all : (handed : List ℕ) (vs : List Verdict) (old wait es : List Event) → Among handed (indices old)
    → Among (handed ++ handed_of vs (indices es)) (indices (old ++ wait ++ es))
among-all handed vs old wait es among x i =
    rw (indices-append (old ++ wait) es, indices-append old wait)
    (⊎_elim (λ j. in-first x (indices old ++ indices wait) (indices es) (in-first x (indices old) (indices wait) (among x j)))
    (λ j. in-second x (indices old ++ indices wait) (indices es) (handed-came vs (indices es) x j))
    (in_either x handed (handed_of vs (indices es)) i))

pub none-twice-in-all-lives : NoneTwiceInAllLives
unfolding handed_in_all
none-twice-in-all-lives n old handed [] one among p = one
none-twice-in-all-lives n old handed (l ∷ ls) one among p =
    none-twice-in-all-lives n (old ++ l.wait ++ l.since) (handed ++ handed_of l.verdicts (indices l.since)) ls
    (none-twice-over-lives n old l.wait l.since handed l.verdicts p.0 p.1 one among p.2)
    (among-all handed l.verdicts old l.wait l.since among) p.3

-- ---- exactly once from the open on

-- The window in traffic is enough, whether something came before or not.
enough : (before : List Event) (b m window : ℕ) → traffic_window b m ≤ window → window_for before b m ≤ window
enough [] b m window h = omega arith
enough (e ∷ before) b m window h = h

pub once-each-started-again : {A : Type 0} {receive : Receiver} {sees : Sees A} → OnceEachOpened receive sees → OnceEachStartedAgain receive sees
once-each-started-again {sees = sees} once k b still handed old wait es window time u i run f one among s q o w l r =
    let v = once k b still (copies_in old ++ wait) es f.dest f.vlan window time f.table u i run f.answered f.left f.timed
    s q o (enough (copies_in old ++ wait) b k.m window l) r in
    let e : ExactlyOnce (verdicts (sees i u run)) (indices es) = rw v (up-at-first-is-once (indices es)) in
    let few = fewer-ticks k 0 (copies_in old ++ wait ++ es) q in
    record {
      verdicts = v;
      gone = none-behind-wait (least_wait (J k) k.tau) old wait es few w;
      once = none-twice-over-lives (least_wait (J k) k.tau) old wait es handed (verdicts (sees i u run)) few w one among e.once;
      each = e.each;
    }
