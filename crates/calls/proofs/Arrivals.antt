-- The steps of an arrival together are the arrival: each of three laws ends a walk. Assumes nothing.
--     arrival-refused, link-refused    refused by 1 to 5 or 14
--     arrival-unknown, link-unknown    refused by 6
--     arrival-decided, link-decided    every other arrival, refused by 7 or 8, or not refused
use Prim.Native.Nat.{ℕ, ◌-◌, ◌+◌, ◌≤◌, ◌<◌}
use mathlib.Core.Path.{◌≡◌, refl, sym, ap, ◌∙◌}
use mathlib.Core.Bool.{Bool, true, false, not, cond}
use mathlib.Core.List.{List}
use native.Mathlib.Omega.{arith}
use lib.Dec.{ltb, leb}
use lib.ListN.{length, set, length-append, length-take, length-drop}
use lib.Seq.{set-get_or}
use borrow.Author.Tests.{lt-ltb, le-ltb, lt-leb, le-leb, leb-true, leb-false}
use Rattle.refusal.specs.Checks.Said.{refused, answers}
use Rattle.refusal.specs.Numbers.{TABLE, NETWORK, UNKNOWN}
use Rattle.refusal.proofs.Checks.{passed}
use Rattle.record.specs.declared.Stream.{Stream}
use Rattle.std.specs.Prelude.{if◌then◌else◌}
use Rattle.record.specs.Sizes.{slots_most}
use Rattle.frame.specs.Frame.{Tag, type_at, cut_at, untagged, unranked, read_of}
use Rattle.frame.specs.Bytes.{overlay}
use Rattle.frame.specs.TagCalls.{written_without}
use Rattle.frame.specs.Link.{link_of, said_link, but_last, written_shorter}
use Rattle.frame.specs.Link.{Link}
use Rattle.frame.proofs.Heads.{TagIs, tag_of}
use Rattle.frame.proofs.Writes.{type-place, without-fits}
use Rattle.frame.proofs.Links.{LinkSizes, link-sizes, but-last-length, shorter-fits}
use Rattle.stream.specs.Record.{lawful}
use Rattle.stream.specs.Decisions as decisions
use Rattle.stream.specs.Steps.{marks_of, weighed_as, weighed, record_after, record_short}
use Rattle.stream.specs.Steps as steps
use Rattle.frame.specs.declared.Rank.{Rank}
use Rattle.stream.specs.declared.Marks.{Marks}
use Rattle.stream.specs.declared.Weighed.{Weighed}
use Rattle.stream.specs.declared.Weighed.TheVariants as weighs
use Rattle.stream.proofs.Steps.{steps-decide, short-step}
use Rattle.calls.specs.Table.{Table, blank, at, search, found, hears}
use Rattle.calls.specs.Calls.{arriving, linking, Act, refuse, arrive, admitted, arrival_at, arrival, link_arrival, checked, act, after, answer, arrived, verdict_with, output, written_for, Meets}
use Rattle.calls.specs.Said.{said_arrival}
use Rattle.calls.specs.Steps.{asked, said_asked, link_asked, has_room, judged_as, judged, weighed_in, record_of, finished, bytes_of}
use Rattle.std.specs.Prelude.{Option, None, Some, Result, Ok, Err}
use Rattle.refusal.specs.Numbers.{number_of}
use Rattle.refusal.specs.declared.Refusal.{Refusal}
use Rattle.refusal.specs.declared.Refusal.TheVariants as refusals
use Rattle.calls.specs.declared.Arrived.{Arrived}
use Rattle.calls.proofs.Acts.{by-act}
use Rattle.calls.proofs.Admits.{admits}
use Rattle.calls.proofs.Places.{found_at, found_none, some-place, no_place}

-- the frame without its tag
pub bare-length : (f : List ℕ) (o : ℕ) → o + 6 ≤ length f → length (cut_at f o) ≡ length f - 6
unfolding cut_at
bare-length f o h = simp (length-append, length-take, length-drop) (omega arith)

-- What the first step of the decision found, by the verdict; and the record after it.
weighed-verdict : (s : Stream) (number : ℕ) → lawful s ≡ true
    → weighed s number ≡ Some (steps.answer (decisions.verdict s number) (marks_of s number (decisions.case_of s number)))
unfolding weighed weighed_as decisions.verdict
weighed-verdict s number l = rw l

pub no-verdict : (s : Stream) (network : ℕ) → record_after s network None ≡ s
unfolding record_after
no-verdict s network = refl

after-judged : (s : Stream) (network : ℕ) (w : Option Weighed) → record_of s network (judged_as w) ≡ record_after s network w
unfolding record_after
after-judged s network None = refl
after-judged s network (Some w) = refl

-- what is handed up was weighed as that, so that a window of at most a word may be marked by the first word alone
weighed-again : (w : Option Weighed) → weighed_in (judged_as w) ≡ w
weighed-again None = refl
weighed-again (Some w) = refl

weighed-up : (s : Stream) (number : ℕ) (room : Bool) (m : Marks) → Ok (weighs.HandedUp m) ≡ judged s number room → weighed s number ≡ Some (weighs.HandedUp m)
unfolding judged
weighed-up s number room m e = go (lawful s) room (ap weighed_in e) refl
  where
    go : (l r : Bool)
        → Some (weighs.HandedUp m) ≡ weighed_in (if not (lawful s) then Err refusals.Damaged else if not r then Err refusals.Room else judged_as (weighed s number))
        → lawful s ≡ l → weighed s number ≡ Some (weighs.HandedUp m)
    go false r e l = let d : Some (weighs.HandedUp m) ≡ None = rw l at e in cc
    go true false e l = let d : Some (weighs.HandedUp m) ≡ None = rw l at e in cc
    go true true e l = let d : Some (weighs.HandedUp m) ≡ weighed_in (judged_as (weighed s number)) = rw l at e in sym (d ∙ weighed-again (weighed s number))

pub marks-right : (s : Stream) (number network : ℕ) (room : Bool) (m : Marks) → Ok (weighs.HandedUp m) ≡ judged s number room
    → (if leb s.window 64 then record_short s network m else record_after s network (Some (weighs.HandedUp m))) ≡ record_after s network (Some (weighs.HandedUp m))
marks-right s number network room m e = go (leb s.window 64) refl
  where
    go : (b : Bool) → leb s.window 64 ≡ b
        → (if b then record_short s network m else record_after s network (Some (weighs.HandedUp m))) ≡ record_after s network (Some (weighs.HandedUp m))
    go true w = short-step s number network m (leb-true s.window 64 w) (weighed-up s number room m e)
    go false w = refl

-- What the steps of an arrival at a slot come to, whatever its frame is: of a tagged frame `bare` is the frame without its tag, of a virtual
-- link's the frame without its last byte, `need` its length, and `written` what the writer leaves.
module _ (t : Table) (i number network : ℕ) (rank : Rank) (need : ℕ) (bare written out : List ℕ)
    (inside : i < length t) (size : length bare ≡ need) (writes : need ≤ length out → written ≡ overlay bare out) where
  abbrev came : Act
  came = arrival_at t i number network rank need bare out

  pub record Ends (j : Result Weighed Refusal) : Type 0 where
    pub said : finished j i number rank need ≡ answer t came
    pub table : set t i (record_of (at t i) network j) ≡ after t came
    pub output : bytes_of j written out ≡ output t out came

  told : (v : decisions.Verdict) (m : Marks)
      → finished (Ok (steps.answer v m)) i number rank need ≡ answers (arrived i number rank (verdict_with (length bare) v))
  told decisions.up m = rw size
  told decisions.duplicate m = refl
  told decisions.rogue m = refl

  left : (v : decisions.Verdict) (m : Marks) → need ≤ length out → bytes_of (Ok (steps.answer v m)) written out ≡ written_for v bare out
  left decisions.up m r = writes r
  left decisions.duplicate m r = refl
  left decisions.rogue m r = refl

  refusing : {j : Result Weighed Refusal} (n : Refusal) → j ≡ Err n → came ≡ refuse (number_of n) → Ends j
  unfolding after answer output
  refusing n d e = record {
    said = rw (d, e);
    table = rw (d, e, no-verdict (at t i) network) (set-get_or t i blank);
    output = rw (d, e);
  }

  pub decides : {j : Result Weighed Refusal} {room : Bool} → room ≡ has_room need out → j ≡ judged (at t i) number room → Ends j
  unfolding arrival_at judged after answer output
  decides {j} {room} k g = go (lawful (at t i)) room refl k g
    where
      go : (l m : Bool) → lawful (at t i) ≡ l → m ≡ has_room need out → j ≡ judged (at t i) number m → Ends j
      go false m l k g = refusing refusals.Damaged (g ∙ rw l) (simp (lt-leb _ _ inside, l))
      go true false l k g = refusing refusals.Room (g ∙ rw l) (simp (lt-leb _ _ inside, l, lt-ltb _ _ (leb-false need (length out) (sym k))))
      go true true l k g =
          let fits = leb-true need (length out) (sym k) in
          let v = decisions.verdict (at t i) number in
          let m = marks_of (at t i) number (decisions.case_of (at t i) number) in
          let d : j ≡ judged_as (weighed (at t i) number) = g ∙ rw l in
          let e = weighed-verdict (at t i) number l in
          let c : came ≡ arrive i number network rank bare = simp (lt-leb _ _ inside, l, le-ltb _ _ fits) in
          record {
            said = rw (d, e, c) (told v m);
            table = rw (d, c, after-judged (at t i) network (weighed (at t i) number), steps-decide (at t i) number network l);
            output = rw (d, e, c) (left v m fits);
          }

-- the slot that a search found, and what an arrival to it comes to
module _ (t : Table) (p : Stream → Bool) where
  pub found_inside : {i : ℕ} → found p t ≡ Some i → i < length t
  found_inside w = rw (found_at p t w).0 at (some-place p t (found_at p t w).1)

  pub unknown-act : (number network : ℕ) (rank : Rank) (need : ℕ) (bare out : List ℕ) → found p t ≡ None → arrival_at t (search p t) number network rank need bare out ≡ refuse UNKNOWN
  unfolding arrival_at
  unknown-act number network rank need bare out w = simp (le-leb _ _ (no_place p t (found_none p t w)))

module _ (t : Table) (network : ℕ) (f out : List ℕ) where
  -- 1 to 5 and 14 are asked first, and what follows goes by what was read
  pub act-asked : act t (arriving network f out) ≡ arrival t network f out (asked (length t) network f)
  unfolding act checked arrival asked
  act-asked = go (ltb slots_most (length t)) (ltb 1 network)
    where
      go : (a b : Bool)
          → cond a (refuse TABLE) (cond b (refuse NETWORK) (arrival t network f out (admitted f (read_of f))))
          ≡ arrival t network f out (cond a (refused TABLE) (cond b (refused NETWORK) (admitted f (read_of f))))
      go true b = refl
      go false true = refl
      go false false = refl

  pub asked-tag : (g : Tag) → asked (length t) network f ≡ answers g → TagIs f g.header g.number
  unfolding asked
  asked-tag g e =
      let a = passed (ltb slots_most (length t)) TABLE (sym e) in
      let b = passed (ltb 1 network) NETWORK a.1 in
      tag_of f g (admits f (read_of f) (sym b.1)).1

  pub arrival-refused : (r : Result Arrived Refusal) {q : Result Tag Refusal} {n : Refusal} → said_asked q ≡ asked (length t) network f → q ≡ Err n → said_arrival r ≡ refused (number_of n)
      → Meets t (arriving network f out) (record { said = said_arrival r; table = t; output = out })
  unfolding arrival after answer output
  arrival-refused r {q} {n} p e w =
      by-act t (arriving network f out) (refuse (number_of n)) (act-asked ∙ ap (arrival t network f out) (sym p ∙ ap said_asked e)) w refl refl

  module _ {q : Result Tag Refusal} {g : Tag} (p : said_asked q ≡ asked (length t) network f) (e : q ≡ Ok g) where
    tag : asked (length t) network f ≡ answers g
    tag = sym p ∙ ap said_asked e

    act-at : {i : ℕ} → search (hears false g.header.dest g.header.vlan) t ≡ i → act t (arriving network f out) ≡ arrival_at t i g.number network g.header.rank (length f - 6) (untagged f) out
    unfolding arrival
    act-at s = act-asked ∙ ap (arrival t network f out) tag ∙ ap (λ (k : ℕ). arrival_at t k g.number network g.header.rank (length f - 6) (untagged f) out) s

    pub arrival-unknown : (r : Result Arrived Refusal) → found (hears false g.header.dest g.header.vlan) t ≡ None → said_arrival r ≡ refused UNKNOWN
        → Meets t (arriving network f out) (record { said = said_arrival r; table = t; output = out })
    unfolding after answer output
    arrival-unknown r w a =
        by-act t (arriving network f out) (refuse UNKNOWN) (act-at refl ∙ unknown-act t _ g.number network g.header.rank (length f - 6) (untagged f) out w) a refl refl

    module _ {i : ℕ} (w : found (hears false g.header.dest g.header.vlan) t ≡ Some i) where
      known : TagIs f g.header g.number
      known = asked-tag g tag

      size : length (untagged f) ≡ length f - 6
      size = bare-length f (type_at f) (omega (arith, known.room))

      writes : length f - 6 ≤ length out → written_without f g.header.at out ≡ overlay (untagged f) out
      writes l =
          let k = known in
          ap (λ (o : ℕ). written_without f o out) k.at ∙ without-fits f (type_at f) out (type-place f) (omega (arith, k.room)) k.few (omega (arith, l))

      pub arrival-decided : (r : Result Arrived Refusal) {room : Bool} {j : Result Weighed Refusal} {u : Table} {o : List ℕ}
          → room ≡ has_room (length f - 6) out → j ≡ judged (at t i) g.number room → u ≡ set t i (record_of (at t i) network j)
          → said_arrival r ≡ finished j i g.number g.header.rank (length f - 6) → o ≡ bytes_of j (written_without f g.header.at out) out
          → Meets t (arriving network f out) (record { said = said_arrival r; table = u; output = o })
      arrival-decided r k d a b c =
          let x = decides t i g.number network g.header.rank (length f - 6) (untagged f) (written_without f g.header.at out) out (found_inside t _ w) size writes k d in
          by-act t (arriving network f out) _ (act-at (found_at _ t w).0) (b ∙ x.said) (a ∙ x.table) (c ∙ x.output)

-- The same of a virtual link's: 1 to 4 and 14 are asked first.
module _ (t : Table) (network : ℕ) (f out : List ℕ) where
  act-link-asked : act t (linking network f out) ≡ link_arrival t network f out (link_asked (length t) network f)
  unfolding act checked link_arrival link_asked
  act-link-asked = go (ltb slots_most (length t)) (ltb 1 network)
    where
      go : (a b : Bool)
          → cond a (refuse TABLE) (cond b (refuse NETWORK) (link_arrival t network f out (link_of f)))
          ≡ link_arrival t network f out (cond a (refused TABLE) (cond b (refused NETWORK) (link_of f)))
      go true b = refl
      go false true = refl
      go false false = refl

  pub link-refused : (r : Result Arrived Refusal) {q : Result Link Refusal} {n : Refusal} → said_link q ≡ link_asked (length t) network f → q ≡ Err n → said_arrival r ≡ refused (number_of n)
      → Meets t (linking network f out) (record { said = said_arrival r; table = t; output = out })
  unfolding link_arrival after answer output
  link-refused r {q} {n} p e w =
      by-act t (linking network f out) (refuse (number_of n)) (act-link-asked ∙ ap (link_arrival t network f out) (sym p ∙ ap said_link e)) w refl refl

  module _ {q : Result Link Refusal} {g : Link} (p : said_link q ≡ link_asked (length t) network f) (e : q ≡ Ok g) where
    read : link_asked (length t) network f ≡ answers g
    read = sym p ∙ ap said_link e

    act-link-at : {i : ℕ} → search (hears true g.dest 0) t ≡ i → act t (linking network f out) ≡ arrival_at t i g.number network unranked (length f - 1) (but_last f) out
    unfolding link_arrival
    act-link-at s = act-link-asked ∙ ap (link_arrival t network f out) read ∙ ap (λ (k : ℕ). arrival_at t k g.number network unranked (length f - 1) (but_last f) out) s

    pub link-unknown : (r : Result Arrived Refusal) → found (hears true g.dest 0) t ≡ None → said_arrival r ≡ refused UNKNOWN
        → Meets t (linking network f out) (record { said = said_arrival r; table = t; output = out })
    unfolding after answer output
    link-unknown r w a =
        by-act t (linking network f out) (refuse UNKNOWN) (act-link-at refl ∙ unknown-act t _ g.number network unranked (length f - 1) (but_last f) out w) a refl refl

    module _ {i : ℕ} (w : found (hears true g.dest 0) t ≡ Some i) where
      sizes : LinkSizes f
      unfolding link_asked
      sizes =
          let a = passed (ltb slots_most (length t)) TABLE (sym read) in
          link-sizes f (sym (passed (ltb 1 network) NETWORK a.1).1)

      pub link-decided : (r : Result Arrived Refusal) {room : Bool} {j : Result Weighed Refusal} {u : Table} {o : List ℕ}
          → room ≡ has_room (length f - 1) out → j ≡ judged (at t i) g.number room → u ≡ set t i (record_of (at t i) network j)
          → said_arrival r ≡ finished j i g.number unranked (length f - 1) → o ≡ bytes_of j (written_shorter f out) out
          → Meets t (linking network f out) (record { said = said_arrival r; table = u; output = o })
      link-decided r k d a b c =
          let z = sizes in
          let x = decides t i g.number network unranked (length f - 1) (but_last f) (written_shorter f out) out (found_inside t _ w) (but-last-length f) (shorter-fits f out z.some z.few) k d in
          by-act t (linking network f out) _ (act-link-at (found_at _ t w).0) (b ∙ x.said) (a ∙ x.table) (c ∙ x.output)
