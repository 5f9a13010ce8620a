-- The calls on a table for C, those that take the index (document 02, order 9) among them: how what they say is told in plain
-- fields. Assumes nothing.
use Rattle.std.specs.Prelude.{ℕ, ◌≡◌, List}
use Rattle.refusal.specs.Checks.{Said, first_of}
use Rattle.refusal.specs.Checks.Said.{refused, answers}
use Rattle.calls.specs.Table.{Table}
use Rattle.calls.specs.Calls.{Call, arriving, linking, opening, closing, resetting, Answer, arrived, placed, done, swept, act, after, answer, output, out_of}
use Rattle.calls.specs.Told.{tell_arrival}
use Rattle.index.specs.Index.{Index}
use Rattle.index.specs.Indexed.{guarded, index_after, rebuild_checks, rebuilt_by}
use Rattle.port.specs.declared.SlotAnswer.{SlotAnswer}

-- Open tells the slot. (The last three are answers of other calls, which an open never has. An arrival is told by `tell_arrival`
-- of `calls`, a tick by `tell_swept` of `port_tick`.)
abbrev pub tell_opened : Said Answer → SlotAnswer
tell_opened (refused n) = record { slot = 0; refusal = n }
tell_opened (answers (placed slot)) = record { slot = slot; refusal = 0 }
tell_opened (answers (arrived slot number x v)) = record { slot = 0; refusal = 0 }
tell_opened (answers done) = record { slot = 0; refusal = 0 }
tell_opened (answers (swept streams records)) = record { slot = 0; refusal = 0 }

-- Close, reset and rebuild tell nothing more: the refusal's number, or 0 where it was done.
abbrev pub tell_done : Said Answer → ℕ
tell_done (refused n) = n
tell_done (answers a) = 0

-- The contract of an exported call on a table alone, arrival, reset and tick: what document 01 says of the call is told, and the
-- table and the output bytes are those that it gives.
pub record MeetsInC {A : Type 0} (tell : Said Answer → A) (t : Table) (c : Call) (told : A) (rows : Table) (bytes : List ℕ) : Type 0 where
  pub said : told ≡ tell (answer t (act t c))
  pub table : rows ≡ after t (act t c)
  pub output : bytes ≡ output t (out_of c) (act t c)

-- That of open and close, which take the index too: what the call behind 1 and 18 says is told, and the table and the index bytes
-- are those that it gives.
pub record MeetsIndexedInC {A : Type 0} (tell : Said Answer → A) (ix : Index) (t : Table) (c : Call) (told : A) (rows : Table) (bytes : Index) : Type 0 where
  pub said : told ≡ tell (answer t (guarded ix t c))
  pub table : rows ≡ after t (guarded ix t c)
  pub index : bytes ≡ index_after ix t (guarded ix t c)

-- That of the rebuild, which only reads the table.
pub record MeetsRebuildInC (ix : Index) (t : Table) (told : ℕ) (bytes : Index) : Type 0 where
  pub said : told ≡ tell_done (first_of (rebuild_checks ix t) done)
  pub index : bytes ≡ rebuilt_by ix t

-- Two outcomes that meet one of them coincide, however the call is told: a tick too. (Of all exports: `Determines` of `shipped`.)
abbrev pub CallsCoincide : Type 1
CallsCoincide =
    (A : Type 0) (tell : Said Answer → A) (t : Table) (c : Call) (a b : A) (u v : Table) (x y : List ℕ)
    → MeetsInC tell t c a u x → MeetsInC tell t c b v y → (a ≡ b) × (u ≡ v) × (x ≡ y)

abbrev pub IndexedCallsCoincide : Type 1
IndexedCallsCoincide =
    (A : Type 0) (tell : Said Answer → A) (ix : Index) (t : Table) (c : Call) (a b : A) (u v : Table) (x y : Index)
    → MeetsIndexedInC tell ix t c a u x → MeetsIndexedInC tell ix t c b v y → (a ≡ b) × (u ≡ v) × (x ≡ y)

abbrev pub RebuildsCoincide : Type 0
RebuildsCoincide =
    (ix : Index) (t : Table) (a b : ℕ) (x y : Index) → MeetsRebuildInC ix t a x → MeetsRebuildInC ix t b y → (a ≡ b) × (x ≡ y)

-- Nothing is lost: calls that are told alike said the same.
abbrev pub ArrivalTold : Type 0
ArrivalTold =
    (t : Table) (network : ℕ) (f out : List ℕ) (u : Table) (other : ℕ) (g back : List ℕ)
    → tell_arrival (answer t (act t (arriving network f out))) ≡ tell_arrival (answer u (act u (arriving other g back)))
    → answer t (act t (arriving network f out)) ≡ answer u (act u (arriving other g back))

-- and of a virtual link's (`nippitsun_link_arrival` of `port_link`)
abbrev pub LinkTold : Type 0
LinkTold =
    (t : Table) (network : ℕ) (f out : List ℕ) (u : Table) (other : ℕ) (g back : List ℕ)
    → tell_arrival (answer t (act t (linking network f out))) ≡ tell_arrival (answer u (act u (linking other g back)))
    → answer t (act t (linking network f out)) ≡ answer u (act u (linking other g back))

abbrev pub ResetTold : Type 0
ResetTold =
    (t : Table) (i : ℕ) (u : Table) (j : ℕ) → tell_done (answer t (act t (resetting i))) ≡ tell_done (answer u (act u (resetting j)))
    → answer t (act t (resetting i)) ≡ answer u (act u (resetting j))

-- The same of the calls that take the index, whatever index they are lent.
abbrev pub OpenTold : Type 0
OpenTold =
    (ix : Index) (t : Table) (dest : List ℕ) (vlan rule window time : ℕ) (jx : Index) (u : Table) (dest' : List ℕ) (vlan' rule' window' time' : ℕ)
    → tell_opened (answer t (guarded ix t (opening dest vlan rule window time))) ≡ tell_opened (answer u (guarded jx u (opening dest' vlan' rule' window' time')))
    → answer t (guarded ix t (opening dest vlan rule window time)) ≡ answer u (guarded jx u (opening dest' vlan' rule' window' time'))

abbrev pub CloseTold : Type 0
CloseTold =
    (ix : Index) (t : Table) (i : ℕ) (jx : Index) (u : Table) (j : ℕ)
    → tell_done (answer t (guarded ix t (closing i))) ≡ tell_done (answer u (guarded jx u (closing j)))
    → answer t (guarded ix t (closing i)) ≡ answer u (guarded jx u (closing j))

abbrev pub RebuildTold : Type 0
RebuildTold =
    (ix : Index) (t : Table) (jx : Index) (u : Table)
    → tell_done (first_of (rebuild_checks ix t) done) ≡ tell_done (first_of (rebuild_checks jx u) done)
    → first_of (rebuild_checks ix t) done ≡ first_of (rebuild_checks jx u) done
