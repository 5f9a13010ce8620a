-- Document 02, order 9: the runs of a program that keeps an index beside its table. They are read as runs of steps, as batches are
-- read as calls: so what holds of steps holds of them, and no demand speaks of the index. Assumes nothing.
use Rattle.std.specs.Prelude.{ℕ, ◌≡◌, Bool, true, false, ◌&&◌, not, List, [], ◌∷◌, ltb, length}
use Rattle.refusal.specs.Checks.{Said}
use Rattle.refusal.specs.Checks.Said.{refused}
use Rattle.refusal.specs.Numbers.{INDEX}
use Rattle.std.specs.Prelude.{if◌then◌else◌}
use Rattle.record.specs.Sizes.{slots_most}
use Rattle.calls.specs.Table.{Table}
use Rattle.calls.specs.Calls.{arriving, linking, opening, closing, resetting, ticking, Answer, act, out_of, Meets}
use Rattle.index.specs.Index.{Index, indexed}
use Rattle.index.specs.Indexed.{index_after, rebuilt_by, MeetsIndexed, MeetsRebuild}
use Rattle.batch.specs.Batch.{bundle}
use Rattle.batch.specs.Told.{tell_batch}
use Rattle.batch.specs.Indexed.{MeetsBatchBy}
use Rattle.demands.specs.Steps.{Step, single, batch, the_machine, table_of, ran_steps, Got, result, told, left_by, given_all}

-- What such a program does: a step, of which an open, a close and a batch take the index; or a rebuild.
pub data Doing : Type 0 where
  step : Step → Doing
  rebuilds : Doing

-- 18, behind 1
abbrev pub unfits : Index → Table → Bool
unfits ix t = not (ltb slots_most (length t)) && not (indexed ix t)

-- the steps that it refuses
unfoldable pub drops : Index → Table → Step → Bool
drops ix t (single (arriving network f out)) = false
drops ix t (single (linking network f out)) = false
drops ix t (single (opening dest vlan rule window time)) = unfits ix t
drops ix t (single (closing i)) = unfits ix t
drops ix t (single (resetting i)) = false
drops ix t (single ticking) = false
drops ix t (batch b) = unfits ix t

-- the index behind a step that it does not refuse
unfoldable pub index_by : Index → Table → Step → Index
index_by ix t (single (arriving network f out)) = ix
index_by ix t (single (linking network f out)) = ix
index_by ix t (single (opening dest vlan rule window time)) = index_after ix t (act t (opening dest vlan rule window time))
index_by ix t (single (closing i)) = index_after ix t (act t (closing i))
index_by ix t (single (resetting i)) = ix
index_by ix t (single ticking) = ix
index_by ix t (batch b) = ix

-- The steps that a run is read as: a call or batch that 18 refuses is none, and neither is a rebuild.
unfoldable pub steps_of : Index → Table → List Doing → List Step
steps_of ix t [] = []
steps_of ix t (rebuilds ∷ ds) = steps_of (rebuilt_by ix t) t ds
steps_of ix t (step s ∷ ds) = if drops ix t s then steps_of ix t ds else s ∷ steps_of (index_by ix t s) (table_of the_machine t s) ds

-- ---- what a program gets: of a step what it gave before, of a rebuild what it says; and the index bytes after it
pub data GotBy : Type 0 where
  got : Got → Index → GotBy
  made : Said Answer → Index → GotBy

-- What the public calls ensure to it.
abbrev pub EnsuredBy : Index → Table → Step → Got → Index → Type 0
EnsuredBy ix t (single (arriving network f out)) (result r) jx = Meets t (arriving network f out) r × (jx ≡ ix)
EnsuredBy ix t (single (linking network f out)) (result r) jx = Meets t (linking network f out) r × (jx ≡ ix)
EnsuredBy ix t (single (opening dest vlan rule window time)) (result r) jx = MeetsIndexed ix t (opening dest vlan rule window time) (record { said = r.said; table = r.table; index = jx }) × (r.output ≡ [])
EnsuredBy ix t (single (closing i)) (result r) jx = MeetsIndexed ix t (closing i) (record { said = r.said; table = r.table; index = jx }) × (r.output ≡ [])
EnsuredBy ix t (single (resetting i)) (result r) jx = Meets t (resetting i) r × (jx ≡ ix)
EnsuredBy ix t (single ticking) (result r) jx = Meets t ticking r × (jx ≡ ix)
EnsuredBy ix t (single c) (told a rows bytes) jx = ⊥
EnsuredBy ix t (batch b) (result r) jx = ⊥
EnsuredBy ix t (batch b) (told a rows bytes) jx = MeetsBatchBy ix t b a rows bytes × (jx ≡ ix)

abbrev pub EnsuredDoing : Index → Table → Doing → GotBy → Type 0
EnsuredDoing ix t (step s) (got g jx) = EnsuredBy ix t s g jx
EnsuredDoing ix t (step s) (made w jx) = ⊥
EnsuredDoing ix t rebuilds (got g jx) = ⊥
EnsuredDoing ix t rebuilds (made w jx) = MeetsRebuild ix t w jx

-- Each on the index and the table that the one before it left.
abbrev pub index_left : GotBy → Index
index_left (got g jx) = jx
index_left (made w jx) = jx

abbrev pub table_left : Table → GotBy → Table
table_left t (got g jx) = left_by g
table_left t (made w jx) = t

unfoldable pub EnsuredAll : Index → Table → List Doing → List GotBy → Type 0
EnsuredAll ix t [] [] = Unit {0}
EnsuredAll ix t [] (g ∷ gs) = ⊥
EnsuredAll ix t (d ∷ ds) [] = ⊥
EnsuredAll ix t (d ∷ ds) (g ∷ gs) = EnsuredDoing ix t d g × EnsuredAll (index_left g) (table_left t g) ds gs

-- What it gets of the steps that 18 does not refuse.
unfoldable pub plainly : Index → Table → List Doing → List GotBy → List Got
plainly ix t [] gs = []
plainly ix t (d ∷ ds) [] = []
plainly ix t (step s ∷ ds) (got g jx ∷ gs) = if drops ix t s then plainly jx (left_by g) ds gs else g ∷ plainly jx (left_by g) ds gs
plainly ix t (step s ∷ ds) (made w jx ∷ gs) = []
plainly ix t (rebuilds ∷ ds) (got g jx ∷ gs) = []
plainly ix t (rebuilds ∷ ds) (made w jx ∷ gs) = plainly jx t ds gs

-- There is nothing else to get than what the definitions' machine gives of the steps that the run is read as. So what is shown of
-- runs of steps holds of the runs of every such program.
abbrev pub IndexedCoincide : Type 0
IndexedCoincide = (ix : Index) (t : Table) (ds : List Doing) (gs : List GotBy) → EnsuredAll ix t ds gs → plainly ix t ds gs ≡ given_all the_machine t (steps_of ix t ds)

-- A step that 18 refuses claims nothing: every record, every byte of the output and every byte of the index stay as they were.
abbrev pub refused_step : (number : ℕ) → Table → Step → Got
refused_step n t (single c) = result (record { said = refused n; table = t; output = out_of c })
refused_step n t (batch b) = told (tell_batch (bundle t b.out (refused n))) t b.out

abbrev pub LeftOutClaimNothing : Type 0
LeftOutClaimNothing =
    (ix : Index) (t : Table) (s : Step) (g : Got) (jx : Index) → drops ix t s ≡ true → EnsuredBy ix t s g jx
    → (g ≡ refused_step INDEX t s) × (jx ≡ ix)

-- The table behind a run, as the program has it.
unfoldable pub table_by : Table → List GotBy → Table
table_by t [] = t
table_by t (g ∷ gs) = table_by (table_left t g) gs

abbrev pub IndexedAreSteps : Type 0
IndexedAreSteps = (ix : Index) (t : Table) (ds : List Doing) (gs : List GotBy) → EnsuredAll ix t ds gs → table_by t gs ≡ ran_steps the_machine t (steps_of ix t ds)

-- Of a program that begins with an index in agreement nothing is left out: 18 refuses none of its steps.
unfoldable pub steps_in : List Doing → List Step
steps_in [] = []
steps_in (rebuilds ∷ ds) = steps_in ds
steps_in (step s ∷ ds) = s ∷ steps_in ds

abbrev pub NothingLeftOut : Type 0
NothingLeftOut = (ix : Index) (t : Table) (ds : List Doing) → indexed ix t ≡ true → steps_of ix t ds ≡ steps_in ds
