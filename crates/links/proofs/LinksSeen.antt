-- A run of calls, as the slot of a virtual link sees it. Assumes nothing.
use Prim.Native.Nat.{ℕ}
use mathlib.Core.Path.{◌≡◌, refl, ap, ap₂, sym, ◌∙◌, subst}
use mathlib.Core.Bool.{Bool, true, false, false≢true}
use mathlib.Core.Option.{Option, some}
use mathlib.Core.List.{List, [], ◌∷◌, map}
use Rattle.record.specs.declared.Stream.{Stream}
use Rattle.std.specs.Prelude.{if◌then◌else◌}
use Rattle.record.specs.Words.{yes}
use Rattle.record.specs.Sizes.{link_rule}
use Rattle.stream.specs.Record.{lawful}
use Rattle.stream.specs.Decisions.{Verdict, is_up, decided, reset, expires, ticked}
use Rattle.stream.proofs.Logic.{tests}
use Rattle.stream.proofs.Law.{law}
use Rattle.calls.specs.Table.{at}
use Rattle.demands.specs.Receiver.{Receiver, MeetsContract, the_receiver, run}
use Rattle.demands.specs.Seen.{Seen, arrived, tick, ended, nothing, was_reset, log, numbers, verdicts, lasting, every}
use Rattle.demands.specs.Corollaries.{handed_of}
use Rattle.demands.specs.Steps.{Machine, MeetsAll, the_machine, read_as}
use Rattle.demands.proofs.Alike.{carried}
use Rattle.demands.proofs.Moves.{Trace}
use Rattle.demands.proofs.Slot.{traced}
use Rattle.demands.proofs.Three.{inside}
use Rattle.demands.proofs.Stepping.{carried as carried-steps, the-machine-meets, seen-as-calls}
use Rattle.links.specs.Links.{last_of, up_behind, ups, rises, picked, ascending}
use Rattle.links.specs.LinksSeen.{verdict_if, LinkSeen, Rises, LinkRisesSeen, LinkRisesSteps}
use Rattle.links.proofs.Decided.{link-decides, by_last, ups-by-last}
use Rattle.links.proofs.Links.{link-rises, rises-ascend}

-- A tick that resets nothing leaves what counts.
pub record Same (s u : Stream) : Type 0 where
  pub used : u.used ≡ s.used
  pub rule : u.rule ≡ s.rule
  pub last : last_of u ≡ last_of s

tick-same : (s : Stream) → was_reset s (ticked s) ≡ false → Same s (ticked s)
unfolding ticked reset yes
tick-same s w = go (expires s) refl (lawful s) refl (yes s.state.any) refl w
  where
    go : (b : Bool) → expires s ≡ b → (c : Bool) → lawful s ≡ c → (a : Bool) → yes s.state.any ≡ a → was_reset s (ticked s) ≡ false → Same s (ticked s)
    go true e c q true z w = rw e (record { used = refl; rule = refl; last = sym (rw z) })
    go true e c q false z w = absurd (false≢true (sym (rw (e, z) at w)))
    go false e true q a z w = rw (e, q) (record { used = refl; rule = refl; last = refl })
    go false e false q a z w = rw (e, q) (record { used = refl; rule = refl; last = refl })

follow : (s : Stream) (es : List Seen) (u : Stream) → s.rule ≡ link_rule → yes s.used ≡ true → Trace s es u → every lasting es ≡ true
    → verdicts es ≡ map verdict_if (by_last (last_of s) (numbers es))
unfolding verdicts numbers every by_last decided
follow s [] u k y t p = refl
follow s (arrived n v ∷ es) u k y (m, (e, (w, z)), r) p =
    let d = link-decides s n w k in
    let f : verdicts es ≡ map verdict_if (by_last (last_of m) (numbers es)) = follow m es u (rw z k) (rw z y) r p in
    let l : last_of m ≡ (if up_behind (last_of s) n then some n else last_of s) = rw z d.last in
    ap₂ (λ (x : Verdict) (xs : List Verdict). x ∷ xs) (e ∙ d.verdict) (f ∙ ap (λ (o : Option ℕ). map verdict_if (by_last o (numbers es))) l)
follow s (tick b ∷ es) u k y (m, (e, z), r) p =
    let c = simp tests at p in
    let q : Same s m = rw z (tick-same s (sym (rw z at e) ∙ c.0)) in
    follow m es u (q.rule ∙ k) (rw q.used y) r c.1 ∙ ap (λ (o : Option ℕ). map verdict_if (by_last o (numbers es))) q.last
follow s (ended ∷ es) u k y t p = absurd (false≢true p)
follow s (nothing ∷ es) u k y (m, e, r) p = rw (sym (e y)) (follow m es u (rw (e y) k) (rw (e y) y) r p)

seen : LinkSeen the_receiver
seen t i calls k l p =
    follow (at t i) (log the_receiver i t calls) (at (run the_receiver t calls) i) k (law l).used (traced t i calls (inside t i l)) p
    ∙ ap (map verdict_if) (sym (ups-by-last (at t i) (numbers (log the_receiver i t calls)) k))

pub link-seen : {receive : Receiver} → MeetsContract receive → LinkSeen receive
link-seen m = carried LinkSeen seen m

-- ---- rising indices

told-up : (bs : List Bool) → map is_up (map verdict_if bs) ≡ bs
told-up [] = refl
told-up (true ∷ bs) = ap (λ (cs : List Bool). true ∷ cs) (told-up bs)
told-up (false ∷ bs) = ap (λ (cs : List Bool). false ∷ cs) (told-up bs)

handed-picked : (vs : List Verdict) (xs : List ℕ) → handed_of vs xs ≡ picked (map is_up vs) xs
unfolding handed_of picked
handed-picked [] xs = refl
handed-picked (v ∷ vs) [] = refl
handed-picked (v ∷ vs) (x ∷ xs) = rw (handed-picked vs xs)

rising-seen : LinkRisesSeen the_receiver
rising-seen t i calls h xs p =
    let vs : List Verdict = verdicts (log the_receiver i t calls) in
    let e : map is_up vs ≡ rises h xs =
    ap (map is_up) (seen t i calls p.link p.lawful p.lasts) ∙ told-up (ups (at t i) (numbers (log the_receiver i t calls)))
    ∙ ap (ups (at t i)) p.numbered ∙ link-rises (at t i) h xs (record { rule = p.link; last = p.last }) p.within in
    record { each = e; order = ap (ascending h) (handed-picked vs xs ∙ ap (λ (bs : List Bool). picked bs xs) e) ∙ rises-ascend h xs }

pub link-rises-seen : {receive : Receiver} → MeetsContract receive → LinkRisesSeen receive
link-rises-seen m = carried LinkRisesSeen rising-seen m

rising-steps : LinkRisesSteps the_machine
unfolding the_machine
rising-steps t i ss h xs p =
    subst (λ (es : List Seen). Rises (verdicts es) h xs) (sym (seen-as-calls the-machine-meets t i ss))
    (rising-seen t i (read_as the_machine t ss) h xs p)

pub link-rises-steps : {m : Machine} → MeetsAll m → LinkRisesSteps m
link-rises-steps k = carried-steps LinkRisesSteps rising-steps k
