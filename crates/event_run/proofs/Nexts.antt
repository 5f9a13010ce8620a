-- The next record that can be answered. Assumes nothing.
use Rattle.std.proofs.Common.{◌≡◌, ℕ, ◌+◌, ◌<◌, ◌≤◌, Bool, true, false, ◌&&◌, ltb, leb, List, length, Option, Some, None, refl, arith, ltb-true, leb-true}
use Rattle.std.specs.Prelude.{if◌then◌else◌}
use Rattle.event_file.specs.Buffers.{line_most}
use Rattle.event_file.specs.declared.reader.Body.{Body}
use Rattle.event_file.proofs.Framing.{Whole, whole_is}
use Rattle.event_run.specs.declared.Place.{Place}
use Rattle.event_run.specs.Run.{last_number, next_of}

-- the record that was found, and that there is room for its line, and a number for the next
pub record Found (p : Place) (input : List ℕ) (most i j : ℕ) : Type 0 where
  pub whole : Whole input p.at i j
  pub room : p.used + line_most ≤ most
  pub number : p.number < last_number

tests : (s t : Bool) {r : Option Body} {b : Body} → (if s && t then r else None) ≡ Some b → (s ≡ true) × (t ≡ true) × (r ≡ Some b)
tests true true e = (refl, refl, e)
tests true false e = cc
tests false t e = cc

pub found : (p : Place) (input : List ℕ) (room : ℕ) (b : Body) → next_of p input room ≡ Some b → Found p input room b.start b.end
unfolding next_of
found p input room b e =
    let t = tests (leb (p.used + line_most) room) (ltb p.number last_number) e in
    record { whole = whole_is input p.at b refl t.2; room = leb-true _ _ t.0; number = ltb-true _ _ t.1 }

-- behind the last byte there is none
pub none-behind : (p : Place) (input : List ℕ) (room : ℕ) → length input ≤ p.at → next_of p input room ≡ None
none-behind p input room h = go (next_of p input room) refl
  where
    go : (v : Option Body) → next_of p input room ≡ v → next_of p input room ≡ None
    go None e = e
    go (Some b) e = absurd (let w = (found p input room b e).whole in omega (arith, w.start, w.end, w.room))
