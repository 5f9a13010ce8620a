-- What a send comes to, by the tests that the code makes. Assumes nothing.
use mathlib.Core.Path.{◌≡◌, ◌∙◌}
use Prim.Native.Nat.{ℕ, ◌+◌, ◌≤◌, ◌<◌}
use mathlib.Core.List.{List}
use lib.ListN.{length}
use borrow.Author.Tests.{lt-ltb, le-ltb}
use Rattle.refusal.specs.Checks.Said.{refused, answers}
use Rattle.refusal.specs.Numbers.{number_of}
use Rattle.refusal.specs.declared.Refusal.{Refusal}
use Rattle.refusal.specs.declared.Refusal.TheVariants.{Room}
use Rattle.std.specs.Prelude.{Result, Ok, Err}
use Rattle.frame.specs.Frame.{place_of}
use Rattle.frame.specs.TagCalls.{written_with}
use Rattle.frame.proofs.Writes.{no_place, at_place, place-length, place-fits}
use Rattle.sender.specs.declared.Sender.{Sender}
use Rattle.sender.specs.declared.Sending.{Sending}
use Rattle.sender.specs.declared.Sent.{Sent}
use Rattle.sender.specs.Sender.{following, send_into, send_of, comes_to}

-- a sender with its answer
abbrev pub holds : (next : ℕ) → Result Sent Refusal → Sending
holds next answer = record { sender = record { next = next }; answer = answer }

module _ (s : Sender) (f out0 out1 : List ℕ) {r : Sending} where
  pub send-refused : {refusal : Refusal} → r ≡ holds s.next (Err refusal) → place_of f ≡ refused (number_of refusal) → comes_to r out0 out1 ≡ send_of s f out0 out1
  unfolding send_of send_into
  send-refused q e = rw (q, no_place f s.next e)

  module _ {o : ℕ} (e : place_of f ≡ answers o) where
    pub send-small0 : r ≡ holds s.next (Err Room) → length out0 < length f + 6 → comes_to r out0 out1 ≡ send_of s f out0 out1
    unfolding send_of send_into
    send-small0 q h = rw (q, at_place f s.next e) (simp (place-length f s.next e, lt-ltb _ _ h))

    pub send-small1 : r ≡ holds s.next (Err Room) → length f + 6 ≤ length out0 → length out1 < length f + 6 → comes_to r out0 out1 ≡ send_of s f out0 out1
    unfolding send_of send_into
    send-small1 q h k = rw (q, at_place f s.next e) (simp (place-length f s.next e, le-ltb _ _ h, lt-ltb _ _ k))

    pub send-done : {next : ℕ} {new0 new1 : List ℕ} → r ≡ holds next (Ok (record { number = s.next; length = length f + 6 })) → next ≡ following s.next
        → length f + 6 ≤ length out0 → length f + 6 ≤ length out1
        → new0 ≡ written_with f o s.next out0 → new1 ≡ written_with f o s.next out1 → comes_to r new0 new1 ≡ send_of s f out0 out1
    unfolding send_of send_into
    send-done q z h k x y =
        rw (q, z, at_place f s.next e, x ∙ place-fits f s.next out0 e h, y ∙ place-fits f s.next out1 e k)
        (simp (place-length f s.next e, le-ltb _ _ h, le-ltb _ _ k))
