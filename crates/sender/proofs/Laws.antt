-- Each refusal number is given exactly when the order says, a refusal changes nothing, a send is two tags written, and two
-- outcomes coincide. Assumes nothing.
use mathlib.Core.Path.{◌≡◌, refl, sym, ap, ap₂, ◌∙◌}
use Prim.Native.Nat.{ℕ, ◌+◌}
use native.Mathlib.Omega.{arith}
use mathlib.Core.Bool.{Bool, true, false, cond, ◌||◌}
use mathlib.Core.List.{List}
use lib.ListN.{length}
use lib.Dec.{ltb}
use Rattle.refusal.specs.Checks.{Said, first_of}
use Rattle.refusal.specs.Checks.Said.{refused, answers}
use Rattle.refusal.specs.Numbers.{LONG, SHORT, ROOM, TAGGED, GROUP}
use Rattle.refusal.proofs.Checks.{first-exactly, same-value, said-tells}
use Rattle.record.specs.Sizes.{untagged_most}
use Rattle.frame.specs.Bytes.{overlay}
use Rattle.frame.specs.Frame.{type_at, group_source, is_tagged, head_short, tagged, put_at, place_of, write_of}
use Rattle.frame.specs.TagCalls.{Outcome, write_into, write_tag}
use Rattle.frame.proofs.Heads.{head-room}
use Rattle.frame.proofs.Writes.{tag-length}
use Rattle.sender.specs.declared.Sender.{Sender}
use Rattle.sender.specs.declared.Sent.{Sent}
use Rattle.sender.specs.Sender.{Numbered, Sends, following, refuses, send_into, send_of}
use Rattle.sender.specs.Refusals.{send_checks, SendRefusedExactly}
use Rattle.sender.specs.Laws.{RefusedKeeps, SendIsTwoWrites, SentTells, Coincide}

-- ---- what is picked by the room of both outputs

module _ (s : Sender) (out0 out1 g : List ℕ) where
  -- both outputs written
  abbrev pub done : Sends
  done = record {
    said = answers (record { number = s.next; length = length g });
    sender = record { next = following s.next };
    out0 = overlay g out0;
    out1 = overlay g out1;
  }

  abbrev picks : Bool → Sends
  picks small = cond small (refuses s out0 out1 ROOM) done

  picks-said : (small : Bool) → (picks small).said ≡ cond small (refused ROOM) (answers (record { number = s.next; length = length g }))
  picks-said true = refl
  picks-said false = refl

  picks-keeps : (small : Bool) (n : ℕ) → (picks small).said ≡ refused n → picks small ≡ refuses s out0 out1 n
  picks-keeps true n e = ap (refuses s out0 out1) (let z : ROOM ≡ n = cc in z)
  picks-keeps false n e = absurd (let z : ◌≡◌ {A = ℕ} 0 1 = cc in omega arith)

-- ---- refusals

pub send-first : (s : Sender) (f out0 out1 : List ℕ)
    → (send_of s f out0 out1).said ≡ first_of (send_checks f out0 out1) (record { number = s.next; length = length f + 6 })
unfolding send_of send_into write_of put_at place_of send_checks first_of
send-first s f out0 out1 = go (ltb untagged_most (length f)) (head_short f) refl (is_tagged f) (group_source f)
  where
    go : (long short : Bool) → head_short f ≡ short → (carries group : Bool)
        → (send_into s out0 out1 (put_at f s.next (cond long (refused LONG) (cond short (refused SHORT) (cond carries (refused TAGGED) (cond group (refused GROUP) (answers (type_at f)))))))).said
        ≡ cond long (refused LONG) (cond short (refused SHORT) (cond carries (refused TAGGED) (cond group (refused GROUP)
        (cond (ltb (length out0) (length f + 6) || ltb (length out1) (length f + 6)) (refused ROOM) (answers (record { number = s.next; length = length f + 6 }))))))
    go true short e carries group = refl
    go false true e carries group = refl
    go false false e true group = refl
    go false false e false true = refl
    go false false e false false =
        let l : length (tagged f s.next) ≡ length f + 6 = tag-length f (type_at f) s.next (omega (arith, head-room f e)) in
        picks-said s out0 out1 (tagged f s.next) (ltb (length out0) (length (tagged f s.next)) || ltb (length out1) (length (tagged f s.next)))
        ∙ ap (λ (m : ℕ). cond (ltb (length out0) m || ltb (length out1) m) (refused ROOM) (answers (record { number = s.next; length = m }))) l

pub send-refused-exactly : SendRefusedExactly
send-refused-exactly s f out0 out1 n = rw (send-first s f out0 out1) (first-exactly Numbered (send_checks f out0 out1) (record { number = s.next; length = length f + 6 }) n)

pub refused-keeps : RefusedKeeps send_of
unfolding send_of send_into
refused-keeps s f out0 out1 n e = go (write_of f s.next) e
  where
    go : (x : Said (List ℕ)) → (send_into s out0 out1 x).said ≡ refused n → send_into s out0 out1 x ≡ refuses s out0 out1 n
    go (refused k) e = ap (refuses s out0 out1) (let z : k ≡ n = cc in z)
    go (answers g) e = picks-keeps s out0 out1 g (ltb (length out0) (length g) || ltb (length out1) (length g)) n e

-- ---- answers

-- a send that is answered: the frame that the writer made, and the room for it in both outputs
pub record Done (s : Sender) (f out0 out1 : List ℕ) (a : Numbered) : Type 0 where
  pub frame : List ℕ
  pub wrote : write_of f s.next ≡ answers frame
  pub room0 : ltb (length out0) (length frame) ≡ false
  pub room1 : ltb (length out1) (length frame) ≡ false
  pub answer : a ≡ record { number = s.next; length = length frame }
  pub comes : send_of s f out0 out1 ≡ done s out0 out1 frame

pub send-done-is : (s : Sender) (f out0 out1 : List ℕ) (a : Numbered) → (send_of s f out0 out1).said ≡ answers a → Done s f out0 out1 a
unfolding send_of send_into
send-done-is s f out0 out1 a e = go (write_of f s.next) refl e
  where
    pick : (g : List ℕ) → write_of f s.next ≡ answers g → (b d : Bool) → ltb (length out0) (length g) ≡ b → ltb (length out1) (length g) ≡ d
        → (picks s out0 out1 g (b || d)).said ≡ answers a → send_into s out0 out1 (answers g) ≡ picks s out0 out1 g (b || d) → Done s f out0 out1 a
    pick g w true d p q e z = absurd (let z : ◌≡◌ {A = ℕ} 0 1 = cc in omega arith)
    pick g w false true p q e z = absurd (let z : ◌≡◌ {A = ℕ} 0 1 = cc in omega arith)
    pick g w false false p q e z = record { frame = g; wrote = w; room0 = p; room1 = q; answer = sym (same-value e); comes = ap (send_into s out0 out1) w ∙ z }

    go : (x : Said (List ℕ)) → write_of f s.next ≡ x → (send_into s out0 out1 x).said ≡ answers a → Done s f out0 out1 a
    go (refused k) w e = absurd (let z : ◌≡◌ {A = ℕ} 0 1 = cc in omega arith)
    go (answers g) w e = pick g w (ltb (length out0) (length g)) (ltb (length out1) (length g)) refl refl e refl

-- the writer of one tag, where there is room
wrote-into : (f : List ℕ) (n : ℕ) (out g : List ℕ) → write_of f n ≡ answers g → ltb (length out) (length g) ≡ false
    → write_tag f n out ≡ record { said = answers (length g); bytes = overlay g out }
unfolding write_tag write_into
wrote-into f n out g w r = rw w (simp r)

pub send-is-two-writes : SendIsTwoWrites
send-is-two-writes s f out0 out1 a e =
    let d = send-done-is s f out0 out1 a e in
    let outcome : ℕ → List ℕ → Outcome ℕ = λ l bytes. record { said = answers l; bytes = bytes } in
    let l = ap (λ x. x.length) (sym d.answer) in
    record {
      number = ap (λ x. x.number) d.answer;
      next = ap (λ x. x.sender.next) d.comes;
      first = wrote-into f s.next out0 d.frame d.wrote d.room0 ∙ ap₂ outcome l (ap (λ x. x.out0) (sym d.comes));
      second = wrote-into f s.next out1 d.frame d.wrote d.room1 ∙ ap₂ outcome l (ap (λ x. x.out1) (sym d.comes));
    }

-- ---- two outcomes coincide

pub sent-tells : SentTells
sent-tells = said-tells Sent

pub coincide : Coincide
coincide o r s x0 x1 y0 y1 p q =
    let e = p ∙ sym q in
    (ap₂ (λ a b. record { sender = a; answer = b }) (ap (λ x. x.sender) e) (sent-tells r.answer s.answer (ap (λ x. x.said) e)), ap (λ x. x.out0) e, ap (λ x. x.out1) e)
