-- Order 8: nothing is missed. Assumes nothing.
use Prim.Native.Nat.{ℕ, suc}
use mathlib.Core.Path.{◌≡◌, refl, ap, sym, ◌∙◌, subst}
use mathlib.Core.Bool.{Bool, true, false, false≢true}
use mathlib.Core.List.{List, [], ◌∷◌}
use native.Mathlib.Omega.{arith}
use Rattle.record.specs.declared.Counts.{Counts}
use Rattle.record.specs.declared.Stream.{Stream}
use Rattle.record.specs.Words.{yes}
use Rattle.stream.specs.Record.{lawful}
use Rattle.stream.specs.Decisions.{Verdict, is_rogue, rise, verdict_of, case_of, tally, counts_after, verdict, decided, expires, ticked}
use Rattle.stream.proofs.Logic.{tests, not_iff}
use Rattle.stream.proofs.Law.{law, size}
use Rattle.calls.specs.Table.{Table, at}
use Rattle.calls.specs.Calls.{Call}
use Rattle.demands.specs.Receiver.{Receiver, MeetsContract, the_receiver, run}
use Rattle.demands.specs.Seen.{Seen, arrived, tick, ended, nothing, log, numbers, verdicts, lasting, every}
use Rattle.demands.specs.Unlimited.{elem, highest, unlimited}
use Rattle.demands.specs.Corollaries.{Lasting}
use Rattle.demands.specs.Lost.{missed, handed_by}
use Rattle.demands.specs.Steps.{Step, Machine, MeetsAll, the_machine, ran_steps, read_as, log_steps}
use Rattle.demands.specs.Missed.{with_holes, NoneMissed, Unbroken, NothingSeenMissed, NothingMissed, NothingSeenMissedSteps, NothingMissedSteps}
use Rattle.demands.proofs.Alike.{carried, the-receiver-meets}
use Rattle.demands.proofs.Moves.{Trace}
use Rattle.demands.proofs.Slot.{traced}
use Rattle.demands.proofs.Follow.{reset-seen}
use Rattle.demands.proofs.Three.{inside, fresh-decides}
use Rattle.demands.proofs.Absent.{or-none, same-elem, same-high, absent-same}
use Rattle.demands.proofs.Lost.{tick-counts, fresh-lost}
use Rattle.demands.proofs.Once.{once}
use Rattle.demands.proofs.Sums.{sums}
use Rattle.demands.proofs.Firsts.{all, tame, Unmissed, unmissed, sum_same}
use Rattle.demands.proofs.Sent.{all_seen}
use Rattle.demands.proofs.Stepping.{carried as carried-steps, the-machine-meets, steps-are-calls, seen-as-calls}

-- ---- a counter that stays

tick-used : (s : Stream) → expires s ≡ false → (ticked s).used ≡ s.used
unfolding ticked
tick-used s e = go (lawful s) refl
  where
    go : (b : Bool) → lawful s ≡ b → (ticked s).used ≡ s.used
    go true q = rw (e, q)
    go false q = rw (e, q)

-- A counter that verdicts of this kind leave alone stays where there are no others, and no reset or closing.
module _ (kind : Verdict → Bool) (count : Counts → ℕ)
    (leaves : (s : Stream) (n w : ℕ) → kind (verdict s n) ≡ true → count (decided s n w).counts ≡ count s.counts) where
  stays : (s : Stream) (es : List Seen) (u : Stream) → yes s.used ≡ true → Trace s es u
      → every lasting es ≡ true → all kind (verdicts es) ≡ true → count u.counts ≡ count s.counts
  unfolding every verdicts all decided
  stays s [] u y t p q = ap (λ (o : Stream). count o.counts) t
  stays s (arrived n v ∷ es) u y (o, (e, (w, z)), r) p q =
      let b = simp tests at q in
      stays o es u (rw z y) r p b.1 ∙ rw z (leaves s n w (ap kind (sym e) ∙ b.0))
  stays s (tick b ∷ es) u y (o, (e, z), r) p q =
      let a = simp tests at p in
      let x : expires s ≡ false = reset-seen s ∙ sym (rw z at e) ∙ a.0 in
      stays o es u (rw (z, tick-used s x) y) r a.1 q ∙ rw z (ap count (tick-counts s x))
  stays s (ended ∷ es) u y t p q = absurd (false≢true p)
  stays s (nothing ∷ es) u y (o, e, r) p q = stays o es u (rw (e y) y) r p q ∙ rw (e y)

rogue-leaves : (s : Stream) (n w : ℕ) → tame (verdict s n) ≡ true → (decided s n w).counts.rogue ≡ s.counts.rogue
unfolding decided counts_after tally verdict
rogue-leaves s n w e = let q : is_rogue (verdict_of (case_of s n)) ≡ false = (not_iff (is_rogue (verdict_of (case_of s n)))).0 e in rw q

-- ---- what is handed up is what arrived

module _ (l : ℕ) (xs : List ℕ) (m : Unmissed l [] [] xs) where
  same-indices : (y : ℕ) → elem y (handed_by l xs) ≡ elem y xs
  unfolding elem
  same-indices y = sym (same-elem l xs y) ∙ m.elems y ∙ or-none (elem y xs)

  same-highest : highest (handed_by l xs) ≡ highest xs
  unfolding highest
  same-highest = omega (arith, same-high l xs, m.tops)

  same-holes : (first : ℕ) → missed l first (handed_by l xs) ≡ missed l first xs
  same-holes first = rw same-highest (absent-same first (handed_by l xs) xs same-indices _)

-- ---- over the log

module _ (t : Table) (i : ℕ) (calls : List Call) (indices : List ℕ)
    (p : Unbroken the_receiver t i calls (numbers (log the_receiver i t calls)) indices) where
  here : Unmissed (at t i).window [] [] indices
  here = unmissed (at t i).window (size (law p.fresh.lawful)).most indices p.close

  lasting-so : Lasting the_receiver t i (at t i).window calls indices
  lasting-so = record { lasts = p.lasts; numbered = p.numbered; near = here.nears }

  decides : verdicts (log the_receiver i t calls) ≡ unlimited (at t i).window [] indices
  decides = fresh-decides the-receiver-meets t i calls indices p.fresh.lawful p.fresh.any p.fresh.vector lasting-so

  counter-stays : (kind : Verdict → Bool) (count : Counts → ℕ)
      → ((s : Stream) (n w : ℕ) → kind (verdict s n) ≡ true → count (decided s n w).counts ≡ count s.counts)
      → all kind (verdicts (log the_receiver i t calls)) ≡ true → count (at (run the_receiver t calls) i).counts ≡ count (at t i).counts
  counter-stays kind count leaves a =
      stays kind count leaves (at t i) (log the_receiver i t calls) (at (run the_receiver t calls) i) (law p.fresh.lawful).used
      (traced t i calls (inside t i p.fresh.lawful)) p.lasts a

lost-so : (t : Table) (i : ℕ) (calls : List Call) (indices : List ℕ)
    → Unbroken the_receiver t i calls (numbers (log the_receiver i t calls)) indices
    → (at (run the_receiver t calls) i).counts.lost ≡ with_holes (at t i).window (at t i).counts.lost indices
unfolding unlimited all
lost-so t i calls [] p =
    counter-stays t i calls [] p (λ v. false) (λ (c : Counts). c.lost) (λ s n w e. absurd (false≢true e)) (rw (decides t i calls [] p))
lost-so t i calls (first ∷ rest) p =
    fresh-lost the-receiver-meets t i calls first rest p.fresh.lawful p.fresh.any p.fresh.vector (lasting-so t i calls (first ∷ rest) p)
    ∙ ap (rise (at t i).counts.lost) (rw (decides t i calls (first ∷ rest) p) (same-holes (at t i).window (first ∷ rest) (here t i calls (first ∷ rest) p) first))

seen-so : NothingSeenMissed the_receiver
seen-so t i calls indices p =
    let l = (at t i).window in
    let m = here t i calls indices p in
    let d = decides t i calls indices p in
    let o = (once l indices []).apart in
    record {
      exactly = record {
        at_first = rw d m.ups;
        each = λ x. rw d (same-indices l indices m x);
        once = rw d o;
        sums = λ f. rw d (
            sums f (suc (highest indices)) (handed_by l indices) (omega (arith, same-highest l indices m)) o
            ∙ sum_same f (suc (highest indices)) (handed_by l indices) indices (same-indices l indices m));
      };
      no-rogue = counter-stays t i calls indices p tame (λ (c : Counts). c.rogue) rogue-leaves (rw d m.tames);
      lost = lost-so t i calls indices p;
    }

pub nothing-seen-missed : {receive : Receiver} → MeetsContract receive → NothingSeenMissed receive
nothing-seen-missed m = carried NothingSeenMissed seen-so m

-- ---- over all that arrives

-- The same premises of other numbers that are the same.
numbers-are : {t : Table} {i : ℕ} {calls : List Call} {ns ms indices : List ℕ} → ns ≡ ms
    → Unbroken the_receiver t i calls ms indices → Unbroken the_receiver t i calls ns indices
numbers-are e p = record {
  fresh = p.fresh;
  lasts = p.lasts;
  numbered = e ∙ p.numbered;
  close = p.close;
}

missed-so : NothingMissed the_receiver
missed-so t i calls indices p e = seen-so t i calls indices (numbers-are (sym (all_seen t i calls e)) p)

pub nothing-missed : {receive : Receiver} → MeetsContract receive → NothingMissed receive
nothing-missed m = carried NothingMissed missed-so m

-- ---- over runs of steps

-- What a run of steps leaves and what a stream sees of it are those of the calls that it is read as.
of_steps : (t : Table) (i : ℕ) (ss : List Step) (indices : List ℕ)
    → NoneMissed (at t i) (at (run the_receiver t (read_as the_machine t ss)) i) (verdicts (log the_receiver i t (read_as the_machine t ss))) indices
    → NoneMissed (at t i) (at (ran_steps the_machine t ss) i) (verdicts (log_steps the_machine i t ss)) indices
unfolding the_machine
of_steps t i ss indices n =
    subst (λ (es : List Seen). NoneMissed (at t i) (at (ran_steps the_machine t ss) i) (verdicts es) indices)
    (sym (seen-as-calls the-machine-meets t i ss))
    (subst (λ (u : Table). NoneMissed (at t i) (at u i) (verdicts (log the_receiver i t (read_as the_machine t ss))) indices)
    (sym (steps-are-calls the-machine-meets t ss)) n)

seen-steps : NothingSeenMissedSteps the_machine
unfolding the_machine
seen-steps t i ss indices p =
    of_steps t i ss indices (seen-so t i (read_as the_machine t ss) indices
    (numbers-are (ap numbers (sym (seen-as-calls the-machine-meets t i ss))) p))

pub nothing-seen-missed-steps : {m : Machine} → MeetsAll m → NothingSeenMissedSteps m
nothing-seen-missed-steps k = carried-steps NothingSeenMissedSteps seen-steps k

missed-steps : NothingMissedSteps the_machine
unfolding the_machine
missed-steps t i ss indices p e = of_steps t i ss indices (missed-so t i (read_as the_machine t ss) indices p e)

pub nothing-missed-steps : {m : Machine} → MeetsAll m → NothingMissedSteps m
nothing-missed-steps k = carried-steps NothingMissedSteps missed-steps k
