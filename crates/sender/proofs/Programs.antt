-- What a program gets from the calls of the sending side. Assumes nothing.
use mathlib.Core.Path.{◌≡◌, refl, ap, ◌∙◌}
use mathlib.Core.List.{List, [], ◌∷◌, ◌++◌}
use Rattle.sender.specs.declared.Sender.{Sender}
use Rattle.sender.specs.Runs.{Call, sending, resetting, Side, the_side, Pair, pair_of, sent, SideGot, sent_so, reset_so, sender_left, EnsuredCall, EnsuredCalls, side_gives, side_gives_all, SendRunsCoincide, sent_in, SentIsRead}

one : (s : Sender) (c : Call) (g : SideGot) → EnsuredCall s c g → g ≡ side_gives the_side s c
unfolding the_side
one s (sending f out0 out1) (sent_so r) e = ap sent_so e
one s (sending f out0 out1) (reset_so u) e = absurd e
one s resetting (sent_so r) e = absurd e
one s resetting (reset_so u) e = ap reset_so e

pub send-runs-coincide : SendRunsCoincide
unfolding EnsuredCalls side_gives_all
send-runs-coincide s [] [] e = refl
send-runs-coincide s [] (g ∷ gs) e = absurd e
send-runs-coincide s (c ∷ cs) [] e = absurd e
send-runs-coincide s (c ∷ cs) (g ∷ gs) (e, es) =
    let x = one s c g e in
    λ i. x i ∷ (send-runs-coincide (sender_left g) cs gs es ∙ ap (λ (h : SideGot). side_gives_all the_side (sender_left h) cs) x) i

pub sent-is-read : (side : Side) → SentIsRead side
unfolding sent_in side_gives_all sent
sent-is-read side s [] = refl
sent-is-read side s (sending f out0 out1 ∷ cs) = ap (λ (ps : List Pair). pair_of f (side.send s f out0 out1) (side.send s f out0 out1).said ++ ps) (sent-is-read side _ cs)
sent-is-read side s (resetting ∷ cs) = sent-is-read side _ cs
