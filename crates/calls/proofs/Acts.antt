-- What a call comes to decides the rest of its contract. Assumes nothing.
use mathlib.Core.Path.{◌≡◌, sym, ap, ◌∙◌}
use mathlib.Core.List.{List}
use Prim.Native.Nat.{ℕ}
use Rattle.refusal.specs.Checks.{Said}
use Rattle.calls.specs.Table.{Table}
use Rattle.calls.specs.Calls.{Call, Act, act, after, answer, Answer, output, out_of, Meets}

pub by-act : (t : Table) (c : Call) (a : Act) {said : Said Answer} {u : Table} {o : List ℕ} → act t c ≡ a
    → said ≡ answer t a → u ≡ after t a → o ≡ output t (out_of c) a → Meets t c (record { said = said; table = u; output = o })
by-act t c a e p q s = record {
  said = p ∙ ap (answer t) (sym e);
  table = q ∙ ap (after t) (sym e);
  output = s ∙ ap (output t (out_of c)) (sym e);
}
