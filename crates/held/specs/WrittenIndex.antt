-- Document 02, orders 9 and 10: what `index`, `batch` and `demands` say of the index, written out once more, on any table and with any index. One of
-- these that asks for more or gives less is refused here. Assumes nothing.
use Rattle.std.specs.Prelude.{ℕ, ◌≤◌, ◌≡◌, ◌↔◌, Bool, true, List, [], ◌∷◌, length, replicate}
use Rattle.refusal.specs.Checks.{First}
use Rattle.refusal.specs.Checks.Said.{refused}
use Rattle.calls.specs.Table.{Table, search, hears}
use Rattle.calls.specs.Calls.{Call, act, after, answer}
use Rattle.index.specs.Index.{Index, follow, indexed, rebuilt}
use Rattle.index.specs.Indexed.{guarded, index_after, checks_with}
use Rattle.index.specs.Cases.{held, none, from}
use Rattle.batch.specs.Batch.{Batch, batch_of}
use Rattle.batch.specs.Indexed.{batch_by, batch_checks_with}
use Rattle.demands.specs.Steps.{Step, the_machine, ran_steps, Got, given_all}
use Rattle.demands.specs.Indexed.{Doing, drops, steps_of, GotBy, EnsuredBy, EnsuredAll, plainly, refused_step, table_by, steps_in}

pub record WrittenIndex : Type 0 where
  -- agreement is over every key, among the virtual links and among the rest, and the rebuilt index of any table of at most 64 slots has it
  pub tested : (ix : Index) (t : Table) → (indexed ix t ≡ true) ↔ ((length ix ≡ 128) × ((dest vlan : ℕ) (link : Bool) → follow ix t (record { dest = dest; vlan = vlan; link = link }) ≡ search (hears link dest vlan) t))
  pub rebuilt-agrees : (t : Table) → length t ≤ 64 → indexed (rebuilt t) t ≡ true
  -- refused exactly so, and claiming nothing; and the call as without the index, with both in agreement
  pub refuses : (ix : Index) (t : Table) (c : Call) (n : ℕ) → (answer t (guarded ix t c) ≡ refused n) ↔ First n (checks_with ix t c)
  pub claims : (ix : Index) (t : Table) (c : Call) (n : ℕ) → answer t (guarded ix t c) ≡ refused n → (after t (guarded ix t c) ≡ t) × (index_after ix t (guarded ix t c) ≡ ix)
  pub without : (ix : Index) (t : Table) (c : Call) → length t ≤ 64 → indexed ix t ≡ true
      → (guarded ix t c ≡ act t c) × (indexed (index_after ix t (guarded ix t c)) (after t (guarded ix t c)) ≡ true)
  pub batch-refuses : (ix : Index) (t : Table) (b : Batch) (n : ℕ) → ((batch_by ix t b).said ≡ refused n) ↔ First n (batch_checks_with ix t b)
  pub batch-claims : (ix : Index) (t : Table) (b : Batch) (n : ℕ) → (batch_by ix t b).said ≡ refused n → ((batch_by ix t b).table ≡ t) × ((batch_by ix t b).output ≡ b.out)
  pub batch-without : (ix : Index) (t : Table) (b : Batch) → length t ≤ 64 → indexed ix t ≡ true → (batch_by ix t b ≡ batch_of t b) × (indexed ix (batch_of t b).table ≡ true)
  -- its runs are runs of steps, of which none is left out if it begins in agreement
  pub runs : (ix : Index) (t : Table) (ds : List Doing) (gs : List GotBy) → EnsuredAll ix t ds gs
      → (plainly ix t ds gs ≡ given_all the_machine t (steps_of ix t ds)) × (table_by t gs ≡ ran_steps the_machine t (steps_of ix t ds))
  pub left_out : (ix : Index) (t : Table) (s : Step) (g : Got) (jx : Index) → drops ix t s ≡ true → EnsuredBy ix t s g jx → (g ≡ refused_step 18 t s) × (jx ≡ ix)
  pub none-left-out : (ix : Index) (t : Table) (ds : List Doing) → indexed ix t ≡ true → steps_of ix t ds ≡ steps_in ds

-- 1, 18, 2, 15 of a batch, each where all behind it hold too
abbrev pub wrong : (network : ℕ) → Batch
wrong network = record { network = network; count = 33; frames = []; out = 9 ∷ [] }

pub record BatchIndexCases : Type 0 where
  pub table : (batch_by none (replicate 65 (held 87 0)) (wrong 2)).said ≡ refused 1
  pub index : (batch_by none (held 87 0 ∷ []) (wrong 2)).said ≡ refused 18
  pub network : (batch_by (from [] 127 1) (held 87 0 ∷ []) (wrong 2)).said ≡ refused 2
  pub frames : (batch_by (from [] 127 1) (held 87 0 ∷ []) (wrong 1)).said ≡ refused 15
