-- A receiver that meets the contract is the definitions' receiver: what holds of the one holds of the other.
-- Assumes nothing.
use mathlib.Core.Path.{◌≡◌, refl, sym, subst}
use mathlib.Core.List.{[], ◌∷◌}
use Rattle.calls.proofs.Kept.{coincide}
use Rattle.demands.specs.Receiver.{Receiver, MeetsContract, the_receiver, results, Ensured, RunsCoincide}

pub alike : {receive : Receiver} → MeetsContract receive → receive ≡ the_receiver
unfolding the_receiver
alike m = λ i t c. record { said = (m t c).said i; table = (m t c).table i; output = (m t c).output i }

pub carried : (P : Receiver → Type 0) → P the_receiver → {receive : Receiver} → MeetsContract receive → P receive
carried P p m = subst P (sym (alike m)) p

pub the-receiver-meets : MeetsContract the_receiver
unfolding the_receiver
the-receiver-meets t c = record { said = refl; table = refl; output = refl }

-- Results that meet the contract call by call are its results.
pub runs-coincide : RunsCoincide
unfolding results Ensured
runs-coincide t [] [] m = refl
runs-coincide t [] (r ∷ rs) m = absurd m
runs-coincide t (c ∷ cs) [] m = absurd m
runs-coincide t (c ∷ cs) (r ∷ rs) (m, ms) =
    let e : r ≡ the_receiver t c = coincide t c r (the_receiver t c) m (the-receiver-meets t c) in
    let f : rs ≡ results the_receiver r.table cs = runs-coincide r.table cs rs ms in
    rw (f, e)
