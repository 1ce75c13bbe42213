-- The numbers of the edges in a plan, slice by slice. Assumes nothing.
use mathlib.Core.Path.{◌≡◌}
use mathlib.Core.List.{List}
use Prim.Native.Nat.{ℕ, ◌+◌, ◌*◌, ◌/◌, ◌%◌, ◌<◌}
use native.Mathlib.Omega.{arith}
use lib.ListN.{get_or}
use Rattle.lent.specs.Put.{Put, PutAll}
use Rattle.lent.proofs.Putting.{put_as, put_more}
use Rattle.clocknumbers.specs.Numbers.{edge_length, edge_numbers}
use Rattle.clocknumbers.proofs.Table.{numbers_length, number_at}
use Rattle.column.specs.Check.{IsSound}
use Rattle.column.specs.File.{slice_body}
use Rattle.column.proofs.SoundLaws.{SoundFile, sound_file}
use Rattle.plan.specs.Plan.{edges_place, edges_of}

-- a file's laws from its n and m, as contracts name them
pub sound_for : (file : List ℕ) {n m : ℕ} → IsSound file n m → SoundFile file n m
sound_for file e = sound_file file e

-- the numbers of slice s at their index
pub slice_at : (file : List ℕ) (n m s i : ℕ) → i < edge_length → get_or (edge_numbers n m s (slice_body file s)) i 0 ≡ edges_of file n m (edge_length * s + i)
slice_at file n m s i h =
    let slice : (edge_length * s + i) / edge_length ≡ s = omega arith in
    let place : (edge_length * s + i) % edge_length ≡ i = omega arith in
    rw (slice, place) (number_at n m s (slice_body file s) i h)

-- one slice more
pub edges_next :
    (file : List ℕ) (n m s : ℕ) (numbers : List ℕ) {old now new : List ℕ} → numbers ≡ edge_numbers n m s (slice_body file s)
    → Put (edges_of file n m) (edges_place n) (edge_length * s) old now → PutAll numbers (edges_place n + edge_length * s) now new
    → Put (edges_of file n m) (edges_place n) (edge_length * (s + 1)) old new
edges_next file n m s numbers e before p =
    let count : edge_length * s + edge_length ≡ edge_length * (s + 1) = omega arith in
    rw count at (put_more before (put_as (slice_at file n m s) (rw (e, numbers_length n m s (slice_body file s)) at p)))
