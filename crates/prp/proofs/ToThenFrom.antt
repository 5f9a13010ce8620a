-- To PRP, and back; what 16 asks, in bytes; and sizes. Assumes nothing.
use mathlib.Core.Path.{◌≡◌, refl, sym, ap, ◌∙◌}
use Prim.Native.Nat.{ℕ, zero, suc, ◌+◌, ◌-◌, ◌*◌, ◌/◌, ◌%◌, ◌≤◌, ◌<◌}
use native.Mathlib.Omega.{arith}
use mathlib.Core.Bool.{Bool, true, false}
use mathlib.Core.List.{List, ◌++◌}
use lib.ListN.{length, take, drop, length-append, take-append-drop}
use lib.Seq.{take_at, drop_at, drop-drop}
use lib.Dec.{ltb}
use borrow.Author.Tests.{le-ltb, ne_eqb, ltb-true, ltb-false, eqb-false}
use Rattle.refusal.specs.Checks.{Said}
use Rattle.refusal.specs.Checks.Said.{refused, answers}
use Rattle.refusal.specs.Numbers.{NETWORK, SHORT, TAGGED, TRAILER}
use Rattle.refusal.proofs.Checks.{passed, same-value}
use Rattle.std.specs.Prelude.{if◌then◌else◌}
use Rattle.record.specs.Sizes.{frame_most}
use Rattle.frame.specs.Bytes.{word}
use Rattle.frame.specs.declared.Tag.{Tag}
use Rattle.frame.specs.Frame.{type_at, is_tagged, head_short, read_of, untagged, tagged}
use Rattle.frame.proofs.Heads.{type-least, head-room, tag_of}
use Rattle.frame.proofs.Words.{word-behind}
use Rattle.frame.proofs.TakeThenPut.{cut-length, kept, tag-then, again, again-only}
use Rattle.prp.specs.declared.Kind.{Kind}
use Rattle.prp.specs.Prp.{Trailer, Turn, trailer_of, width_of, trailer_bytes, end_at, number_at, lan_at, lan_of, network_of, is_lan, after_type, wears, body_of, from_of, trailed, to_as_read, to_of}
use Rattle.prp.specs.RoundTrips.{ToThenFromIs, ToThenFrom, SizesFit}
use Rattle.prp.specs.Refusals.{Wears, TrailerWords}
use Rattle.prp.proofs.Trailers.{EndsSo, wears-is, wears-no-size, wears-last, width_is}
use Rattle.prp.proofs.Turns.{from_turn, to_turn, type-front, tagged-front, from-length, trailer-length, trailed-length, from-tagged, from-none, from_is}
use Rattle.prp.proofs.FromThenTo.{from-of, bytes_same, end-trailer}

-- ---- what a tagged frame that is turned to PRP is

pub record ToIs (k : Trailer) (w : ℕ) (f : List ℕ) (t : Turn) : Type 0 where
  pub known : w ≤ 1
  pub tag : Tag
  pub read : read_of f ≡ answers tag
  pub whole : type_at (untagged f) + 2 ≤ length (untagged f)
  pub same : t ≡ to_turn k w tag.number f

pub to-of : (k : Trailer) (w : ℕ) (f : List ℕ) {t : Turn} → to_of k w f ≡ answers t → ToIs k w f t
unfolding to_of to_as_read
to-of k w f {t} e = let a = passed (ltb 1 w) NETWORK (sym e) in go (ltb-false _ _ a.0) (read_of f) refl (sym a.1)
  where
    go : w ≤ 1 → (x : Said Tag) → read_of f ≡ x → to_as_read k w f x ≡ answers t → ToIs k w f t
    go h (refused n) p q = absurd (let z : ◌≡◌ {A = ℕ} 0 1 = cc in omega arith)
    go h (answers g) p q =
        let a = passed (head_short (untagged f)) SHORT (sym q) in
        record { known = h; tag = g; read = p; whole = head-room (untagged f) a.0; same = same-value a.1 }

lan-known : (w : ℕ) → w ≤ 1 → is_lan (lan_of w) ≡ true
unfolding is_lan lan_of
lan-known zero h = refl
lan-known (suc zero) h = refl
lan-known (suc (suc w)) h = absurd (omega arith)

-- a frame with a trailer put behind it
module _ (k : Trailer) (w n : ℕ) (g : List ℕ) (known : w ≤ 1) (whole : type_at g + 2 ≤ length g) where
  size : ℕ
  size = after_type g + width_of k

  line : List ℕ
  line = trailed k w n g

  line-length : length line ≡ length g + width_of k
  unfolding line
  line-length = trailed-length k w n g

  line-end : end_at k line ≡ length g
  line-end = omega (arith, line-length)

  line-front : take (length g) line ≡ g
  unfolding line trailed
  line-front = take_at g _ (length g) refl

  line-type : type_at line ≡ type_at g
  line-type = sym (type-front (length g) line (omega (arith, type-least g))) ∙ ap type_at line-front

  line-tagged : is_tagged line ≡ is_tagged g
  line-tagged = sym (tagged-front (length g) line (omega (arith, line-type))) ∙ ap is_tagged line-front

  line-size : after_type line ≡ size
  unfolding size after_type
  line-size = omega (arith, line-length, line-type)

  line-words : (word line (end_at k line) ≡ n) × (word line (end_at k line + 2) ≡ lan_of w * 4096 + size)
  unfolding line trailed trailer_bytes size
  line-words =
      let tr : List ℕ = trailer_bytes k n (lan_of w) (after_type g + width_of k) in
      let a : word (g ++ tr) (length g + 0) ≡ n / 256 * 256 + n % 256 = word-behind g tr 0 in
      let b : word (g ++ tr) (length g + 2) ≡ (lan_of w * 4096 + (after_type g + width_of k)) / 256 * 256 + (lan_of w * 4096 + (after_type g + width_of k)) % 256 = word-behind g tr 2 in
      (ap (word (g ++ tr)) (line-end ∙ omega arith) ∙ a ∙ omega arith, ap (λ (o : ℕ). word (g ++ tr) (o + 2)) line-end ∙ b ∙ omega arith)

  line-last : EndsSo k line ≡ true
  unfolding line trailed trailer_bytes
  line-last =
      let tr : List ℕ = trailer_bytes k n (lan_of w) (after_type g + width_of k) in
      let d : drop (length g + 4) (g ++ tr) ≡ k.last = sym (drop-drop 4 (length g) (g ++ tr)) ∙ ap (drop 4) (drop_at g tr (length g) refl) in
      rw (line-end, d) (bytes_same k.last)

  few : length g + 6 ≤ frame_most → length line - width_of k + 6 ≤ frame_most
  few h = omega (arith, line-length)

  room : type_at line + 2 + width_of k ≤ length line
  room = omega (arith, line-length, line-type)

  -- turned from PRP it is decided by that frame
  line-no-size : 4096 ≤ size → false ≡ wears k line
  line-no-size h = wears-no-size k line (λ e. omega (arith, line-size))

  line-wears : size < 4096 → wears k line ≡ true
  unfolding lan_of
  line-wears h =
      let v = line-words.1 in
      let l : word line (end_at k line + 2) / 4096 ≡ 10 + w = omega arith in
      let s : word line (end_at k line + 2) % 4096 ≡ size = omega arith in
      sym (wears-last k line (ap is_lan l ∙ lan-known w known) (s ∙ sym line-size)) ∙ line-last

  line-turn : size < 4096 → from_turn k line ≡ record { network = w; number = n; frame = tagged g n }
  unfolding lan_of network_of body_of
  line-turn h =
      let v = line-words in
      let l : word line (end_at k line + 2) / 4096 - 10 ≡ w = omega (arith, v.1) in
      let o : take (end_at k line) line ≡ g = ap (λ (e : ℕ). take e line) line-end ∙ line-front in
      rw (l, v.0, o) refl

  line-from : length g + 6 ≤ frame_most
      → from_of k line ≡ (if is_tagged g then refused TAGGED else if ltb 4095 size then refused TRAILER else answers (record { network = w; number = n; frame = tagged g n }))
  line-from h = go (is_tagged g) refl (ltb 4095 size) refl
    where
      go : (a : Bool) → is_tagged g ≡ a → (b : Bool) → ltb 4095 size ≡ b
          → from_of k line ≡ (if a then refused TAGGED else if b then refused TRAILER else answers (record { network = w; number = n; frame = tagged g n }))
      go true p b q = from-tagged k line (few h) room (line-tagged ∙ p)
      go false p true q = from-none k line (few h) room (line-tagged ∙ p) (sym (line-no-size (omega (arith, ltb-true 4095 size q))))
      go false p false q =
          let s : size < 4096 = omega (arith, ltb-false 4095 size q) in
          from_is k line (few h) room (line-tagged ∙ p) (line-wears s) ∙ ap answers (line-turn s)

-- ---- 16 in the order's words

-- the size of a frame and of what stands before its trailer
after-parts : (k : Trailer) (f g : List ℕ) → length f ≡ length g + width_of k → type_at g ≡ type_at f → type_at f + 2 + width_of k ≤ length f → after_type f ≡ after_type g + width_of k
unfolding after_type
after-parts k f g l t room = omega arith

made : (k : Trailer) (w n : ℕ) (g : List ℕ) {s : ℕ} → s ≡ after_type g + width_of k → g ++ trailer_bytes k n (lan_of w) s ≡ trailed k w n g
unfolding trailed
made k w n g e = ap (λ (m : ℕ). g ++ trailer_bytes k n (lan_of w) m) e

pub trailer-words : TrailerWords
unfolding network_of line size
trailer-words k f b room = (to, from)
  where
    to : wears k f ≡ true → Wears k f
    to e =
        let h = wears-is k f e in
        record {
          body = take (end_at k f) f;
          number = number_at f (end_at k f);
          network = network_of (lan_at f (end_at k f));
          known = omega (arith, h.most);
          twelve = omega (arith, h.size);
          same = sym (ap (λ (l : List ℕ). take (end_at k f) f ++ l) (sym (end-trailer k f b room h)) ∙ take-append-drop (end_at k f) f);
        }

    from : Wears k f → wears k f ≡ true
    from x =
        let g : List ℕ = x.body in
        let l : length f ≡ length g + width_of k = ap length x.same ∙ simp length-append (ap (λ (m : ℕ). length g + m) (trailer-length k x.number (lan_of x.network) (after_type f))) in
        let o : take (length g) f ≡ g = ap (take (length g)) x.same ∙ take_at g _ (length g) refl in
        let t : type_at g ≡ type_at f = ap type_at (sym o) ∙ type-front (length g) f (omega (arith, type-least f)) in
        let s : after_type f ≡ after_type g + width_of k = after-parts k f g l t room in
        let e : f ≡ trailed k x.network x.number g = x.same ∙ made k x.network x.number g s in
        ap (wears k) e ∙ line-wears k x.network x.number g x.known (omega (arith, t, l)) (omega (arith, s, x.twelve))

-- ---- to PRP, and back

pub to-then-from-is : ToThenFromIs
unfolding line size
to-then-from-is k w f t e =
    let i = to-of k w f e in
    let r = tag_of f i.tag i.read in
    rw i.same (line-from k w i.tag.number (untagged f) i.known i.whole (omega (arith, r.few, cut-length f (type_at f) (omega (arith, r.room)))))

pub to-then-from : ToThenFrom
to-then-from k w f t b e =
    let i = to-of k w f e in
    let r = tag_of f i.tag i.read in
    let number : t.number ≡ i.tag.number = ap (λ x. x.number) i.same in
    let law = to-then-from-is k w f t e in
    let same : tagged (untagged f) t.number ≡ tagged (untagged f) i.tag.number = ap (tagged (untagged f)) number in (
      (λ p.
          (let a = passed (is_tagged (untagged f)) TAGGED (sym p ∙ law) in
          let d = passed (ltb 4095 (after_type (untagged f) + width_of k)) TRAILER a.1 in
          let g : f ≡ tagged (untagged f) t.number = ap (λ x. x.frame) (same-value d.1) in
          let z = again-only f i.tag i.read i.whole (sym (g ∙ same)) in
          (z.0, (λ x. eqb-false _ _ (sym (tag-then f i.tag i.read (kept f i.tag i.read z.1)) ∙ a.0) x), z.1, omega (arith, ltb-false 4095 (after_type (untagged f) + width_of k) d.0)))),
      (λ q.
          (let c : is_tagged (untagged f) ≡ false = tag-then f i.tag i.read (kept f i.tag i.read q.2) ∙ ne_eqb _ _ q.1 in
          let s : ltb 4095 (after_type (untagged f) + width_of k) ≡ false = le-ltb 4095 (after_type (untagged f) + width_of k) (omega (arith, q.3)) in
          let g : tagged (untagged f) t.number ≡ f = same ∙ again f i.tag i.read b q.0 q.2 in
          law ∙ rw (c, s, g) refl)),
    )

-- ---- sizes

pub sizes-fit : SizesFit
unfolding after_type
sizes-fit = (from, to)
  where
    from : (k : Trailer) (f : List ℕ) (t : Turn) → from_of k f ≡ answers t → length t.frame ≤ frame_most
    from k f t e =
        let i = from-of k f e in
        let l : length t.frame ≡ length f - width_of k + 6 = ap (λ x. length x.frame) i.same ∙ from-length k f i.room (number_at f (end_at k f)) in
        omega (arith, i.few)

    to : (k : Kind) (w : ℕ) (f : List ℕ) (t : Turn) → to_of (trailer_of k) w f ≡ answers t
        → (length (untagged f) - (type_at (untagged f) + 2) + width_of (trailer_of k) < 4096) × (length t.frame ≤ frame_most)
    to k w f t e =
        let h = width_is k in
        let i = to-of (trailer_of k) w f e in
        let r = tag_of f i.tag i.read in
        let c = cut-length f (type_at f) (omega (arith, r.room)) in
        let l : length t.frame ≡ length (untagged f) + width_of (trailer_of k) =
        ap (λ x. length x.frame) i.same ∙ trailed-length (trailer_of k) w i.tag.number (untagged f) in
        (omega (arith, r.few, h.1), omega (arith, r.few, h.1))
