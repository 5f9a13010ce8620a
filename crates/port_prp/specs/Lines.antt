-- PRP lines for C: the line's setting as a byte, and how what a turn says is told in plain fields. Assumes nothing.
use Rattle.std.specs.Prelude.{ℕ, ◌≡◌, List, ◌++◌, replicate, eqb}
use Rattle.refusal.specs.Checks.{Said}
use Rattle.refusal.specs.Checks.Said.{refused, answers}
use Rattle.std.specs.Prelude.{if◌then◌else◌}
use Rattle.prp.specs.Prp.{Trailer, first, of2012, Told, from_prp, to_prp}
use Rattle.prp.specs.Example.{head, payload, old1, new1}
use Rattle.port_prp.specs.declared.PrpAnswer.{PrpAnswer}

-- "the line's setting says which is in use": 0 is the first edition, every other value is 2012.
unfoldable pub line_of : (setting : ℕ) → Trailer
line_of s = if eqb s 0 then first else of2012

-- A turn tells network, number and length. A refusal tells its number, and 0 in all other fields.
abbrev pub tell_turned : Said Told → PrpAnswer
tell_turned (refused n) = record { length = 0; number = 0; network = 0; refusal = n }
tell_turned (answers t) = record { length = t.length; number = t.number; network = t.network; refusal = 0 }

-- A frame of each kind under three settings, as it is told.
abbrev pub LinesTold : Type 0
LinesTold =
    (tell_turned (from_prp (line_of 0) (head ++ payload ++ old1) (replicate 22 7)).said ≡ record { length = 22; number = 0x1234; network = 1; refusal = 0 })
    × (tell_turned (from_prp (line_of 1) (head ++ payload ++ old1) (replicate 22 7)).said ≡ record { length = 0; number = 0; network = 0; refusal = 16 })
    × (tell_turned (from_prp (line_of 255) (head ++ payload ++ new1) (replicate 22 7)).said ≡ record { length = 22; number = 0x1234; network = 1; refusal = 0 })

-- Nothing is lost: turns that are told alike said the same.
abbrev pub FromTold : Type 0
FromTold =
    (k : Trailer) (f out : List ℕ) (l : Trailer) (g back : List ℕ)
    → tell_turned (from_prp k f out).said ≡ tell_turned (from_prp l g back).said → (from_prp k f out).said ≡ (from_prp l g back).said

abbrev pub ToTold : Type 0
ToTold =
    (k : Trailer) (w : ℕ) (f out : List ℕ) (l : Trailer) (v : ℕ) (g back : List ℕ)
    → tell_turned (to_prp k w f out).said ≡ tell_turned (to_prp l v g back).said → (to_prp k w f out).said ≡ (to_prp l v g back).said
