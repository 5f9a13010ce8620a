-- The runs with numbers compute. Assumes nothing.
use Prim.Native.Nat.{ℕ, zero, suc, ◌-◌}
use mathlib.Core.Path.{◌≡◌, refl, sym, ap, ◌∙◌}
use native.Mathlib.Omega.{arith}
use mathlib.Core.Logic.{inl, inr}
use mathlib.Core.Bool.{false≢true}
use mathlib.Core.List.{List, [], ◌∷◌, ◌++◌}
use lib.Dec.{lit≤}
use lib.ListN.{get_or, replicate}
use Rattle.frame.specs.Bytes.{overlay}
use Rattle.calls.specs.Calls.{arriving}
use Rattle.demands.specs.Missed.{number_for}
use Rattle.demands.proofs.Computing.{computing as receiving}
use Rattle.sender.specs.Runs.{Pair, the_side, sent, nth}
use Rattle.sender.proofs.Computed.{computing as sending}
use Rattle.both_sides.specs.Copies.{frames_heard, CopyOf, CopiesOf}
use Rattle.delays.specs.Line.{least, most, J, Sends, indices, kept, frequent, end}
use Rattle.delays.specs.OnceEach.{kinds, copies_by}
use Rattle.delays.specs.ByNumber.{line, b, L, R}
use Rattle.end_to_end.specs.Bytes.{given_of, given_at, got_of, got, once_each}
use Rattle.end_to_end.specs.Runs.{message, on_way, into, comes, new, near, seven_sent, they_come, it_sees, places, BothMeet, line_from, old_run, RestartMeets, NewCount, came_before, rest_comes, rest_seen, rest_places, TrafficMeets, Heard, NotSent, BetweenNeeded, other, marked, HeardNeeded}
use Rattle.delays.proofs.Losing.{one_of, bridged, awaited, loses-by}

-- One name for all that they compute with.
unfoldable pub computing : Unit {0}
unfolding receiving sending overlay number_for nth frames_heard CopiesOf least most J indices kept frequent end kinds copies_by given_of given_at got_of got once_each message on_way into comes new line near seven_sent they_come it_sees places line_from old_run came_before rest_comes rest_seen rest_places one_of bridged awaited
computing = tt

pub spaced : Sends line (J line) b
unfolding line J least most
spaced = record { rises = λ x. omega arith; within = λ x n e. omega arith }

-- what the stream hears, whatever its L and R are
copies : CopiesOf (sent the_side near seven_sent) places (on_way 0 65533 ∷ on_way 0 65533 ∷ on_way 2 65535 ∷ on_way 6 3 ∷ on_way 4 1 ∷ on_way 5 2 ∷ on_way 5 2 ∷ [])
unfolding computing
copies = ((_, refl, inl refl), ((_, refl, inr refl), ((_, refl, inr refl), ((_, refl, inl refl), ((_, refl, inr refl), ((_, refl, inr refl), ((_, refl, inr refl), tt)))))))

heard : Heard L R
unfolding computing
heard = record {
  fresh = record { vector = refl; lawful = refl; any = refl };
  from-sender = record { sends = record { sixteen = lit≤ tt; whole = refl }; copies = copies };
  order = refl;
}

window-less : Heard (L - 1) R
unfolding computing
window-less = record {
  fresh = record { vector = refl; lawful = refl; any = refl };
  from-sender = record { sends = heard.from-sender.sends; copies = copies };
  order = refl;
}

time-less : Heard L (R - 1)
unfolding computing
time-less = record {
  fresh = record { vector = refl; lawful = refl; any = refl };
  from-sender = record { sends = heard.from-sender.sends; copies = copies };
  order = refl;
}

pub both_meet : BothMeet
unfolding computing
both_meet = record {
  fresh = heard.fresh;
  between = record {
    from-sender = heard.from-sender;
    order = heard.order;
    counted = refl;
    sends = spaced;
    keeps = record { some = lit≤ tt; kept = refl };
    loses = loses-by line [] it_sees refl refl;
    window = lit≤ tt;
    time = lit≤ tt;
  };
  got = refl;
  promised = refl;
}

-- ---- a sender that restarts

spaced-from : (first : ℕ) → Sends (line_from first) (J (line_from first)) b
unfolding line line_from J least most
spaced-from first = record { rises = λ x. omega arith; within = λ x n e. omega arith }

in-time : NewCount 22 4 24
unfolding computing
in-time = record {
  from-sender = record { sends = record { sixteen = lit≤ tt; whole = refl }; copies = ((_, refl, inl refl), tt) };
  order = refl;
  counted = refl;
  sends = spaced-from 22;
  keeps = record { some = lit≤ tt; kept = refl };
  loses = loses-by (line_from 22) [] _ refl refl;
  window = lit≤ tt;
  time = lit≤ tt;
}

too-soon : NewCount 21 3 23
unfolding computing
too-soon = record {
  from-sender = record { sends = record { sixteen = lit≤ tt; whole = refl }; copies = ((_, refl, inl refl), tt) };
  order = refl;
  counted = refl;
  sends = spaced-from 21;
  keeps = record { some = lit≤ tt; kept = refl };
  loses = loses-by (line_from 21) [] _ refl refl;
  window = lit≤ tt;
  time = lit≤ tt;
}

pub restart-meets : RestartMeets
unfolding computing
restart-meets = record {
  silence = record { vector = refl; lawful = refl; order = refl; begun = lit≤ tt; over = refl; ticks = refl };
  longer = omega arith;
  between = in-time;
  got = refl;
}

-- ---- opened in the middle of traffic

pub traffic-meets : TrafficMeets
unfolding computing
traffic-meets = record {
  fresh = record { vector = refl; lawful = refl; any = refl };
  between = record {
    from-sender = record {
      sends = heard.from-sender.sends;
      copies = ((_, refl, inr refl), ((_, refl, inl refl), ((_, refl, inr refl), ((_, refl, inr refl), tt))));
    };
    order = refl;
    counted = refl;
    sends = spaced;
    keeps = record { some = lit≤ tt; kept = refl };
    loses = loses-by line [] (came_before ++ rest_seen) refl refl;
    window = lit≤ tt;
    time = lit≤ tt;
  };
  got = refl;
  promised = refl;
  window-less = refl;
}

-- ---- the premises one by one

-- the first byte behind the type field of a frame on its way
abbrev own : List ℕ → ℕ
own f = get_or f 20 0

-- Of one send a frame with another such byte is no copy.
not-one : (q : Pair) (f : List ℕ) → (own f ≡ own q.copy0 → ⊥) → (own f ≡ own q.copy1 → ⊥) → (k : ℕ) → CopyOf (q ∷ []) k f → ⊥
unfolding nth
not-one q f n0 n1 zero (p, e, inl h) = let w : q ≡ p = cc in n0 (ap own (h ∙ ap (λ (x : Pair). x.copy0) (sym w)))
not-one q f n0 n1 zero (p, e, inr h) = let w : q ≡ p = cc in n1 (ap own (h ∙ ap (λ (x : Pair). x.copy1) (sym w)))
not-one q f n0 n1 (suc k) (p, e, h) = absurd (let z : ◌≡◌ {A = ℕ} 0 1 = cc in omega arith)

stranger : NotSent (into 32 1 ∷ []) (comes 0 1 0 ∷ comes 0 7 1 ∷ [])
unfolding computing
stranger [] x = x
stranger (k ∷ []) x = x.1
stranger (k ∷ l ∷ ks) x = not-one _ _ (λ e. omega (arith, e)) (λ e. omega (arith, e)) l x.1.0

changed : NotSent (into 32 1 ∷ []) (arriving 0 (on_way 0 0 ++ 255 ∷ []) (replicate 24 0) ∷ [])
unfolding computing
changed [] x = x
changed (k ∷ ks) x = not-one _ _ (λ e. omega (arith, e)) (λ e. omega (arith, e)) k x.0

pub between-needed : BetweenNeeded
unfolding computing
between-needed = record {
  window = (window-less, refl);
  time = (time-less, refl);
  silence = (record { vector = refl; lawful = refl; order = refl; begun = lit≤ tt; over = refl; ticks = refl }, refl, too-soon, refl);
  stranger = (stranger, refl);
  stranger-first = refl;
  changed = (changed, refl);
  lowest = (refl, refl, refl);
}

-- ---- copies that are not heard

pub heard-needed : HeardNeeded
unfolding computing other marked
heard-needed = record {
  vlan = (
    record { whole = record { sixteen = lit≤ tt; whole = refl }; copy = (_, refl, inl refl); lawful = refl; said = refl; unheard = refl },
    record { slots = lit≤ tt; network = lit≤ tt; room = lit≤ tt },
    λ o. false≢true o.some,
  );
  destination = (
    record { whole = record { sixteen = lit≤ tt; whole = refl }; copy = (_, refl, inl refl); lawful = refl; said = refl; unheard = refl },
    record { slots = lit≤ tt; network = lit≤ tt; room = lit≤ tt },
    λ o. (let e = o.lowest in omega (arith, e)),
  );
  enough = (record { slots = lit≤ tt; network = lit≤ tt; room = lit≤ tt }, refl);
  room = (
    record { whole = record { sixteen = lit≤ tt; whole = refl }; copy = (_, refl, inl refl); lawful = refl; said = refl; unheard = refl },
    record { some = refl; lowest = refl },
    λ c. (let e = c.room in omega (arith, e)),
  );
}
