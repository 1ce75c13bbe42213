-- `toposort::Searcher::open_signal` meets its contract. Assumes nothing.
use Prim.Native.Nat.{ℕ, ◌<◌}
use mathlib.Core.Path.{◌≡◌, refl}
use native.Mathlib.Omega.{arith}
use lib.ListN.{get_or}
use Rattle.netlist.specs.declared.Gate.{Gate}
use Rattle.toposort.specs.declared.Scan.{Scan}
use Rattle.toposort.specs.Reading.{head_of}
use Rattle.toposort.specs.Search.{Search}
use Rattle.toposort.specs.Components.{Components}
use Rattle.toposort.proofs.Components.{depth_le, count_le}
use Rattle.toposort.proofs.Opening.{len_lt, push}
use Rattle.toposort.proofs.Reading.{places, places_most, none_before}
use Rattle.toposort.proofs.Searcher.open_signal.Goals as goal

module _ {g : ℕ → Gate} {N : ℕ} {b : Search} {p : Scan} (s : Components g N b p) where
  -- the stack has room, and so have the other arrays
  has_room : (y : ℕ) → y < N → get_or b.marks y 0 ≡ 0 → (p.len < N) × (p.count < N) × (p.depth < N)
  has_room y h new = let l = len_lt s y h new in (l, omega (arith, count_le s), omega (arith, depth_le s))

pub bounds-self-self : goal.bounds-self-self
bounds-self-self c = omega (arith, has_room c.requires.sound _ c.requires.unseen.1 c.requires.unseen.2)

pub offset_bounds-self-self-2 : goal.offset_bounds-self-self-2
offset_bounds-self-self-2 c = omega (arith, has_room c.requires.sound _ c.requires.unseen.1 c.requires.unseen.2)

pub bounds-self-self-2 : goal.bounds-self-self-2
bounds-self-self-2 c = omega (arith, has_room c.requires.sound _ c.requires.unseen.1 c.requires.unseen.2)

pub offset_bounds-self-self-3 : goal.offset_bounds-self-self-3
offset_bounds-self-self-3 c = omega (arith, has_room c.requires.sound _ c.requires.unseen.1 c.requires.unseen.2)

pub bounds-self-self-3 : goal.bounds-self-self-3
bounds-self-self-3 c = omega (arith, has_room c.requires.sound _ c.requires.unseen.1 c.requires.unseen.2)

pub overflow_add-self : goal.overflow_add-self
overflow_add-self c = omega (arith, has_room c.requires.sound _ c.requires.unseen.1 c.requires.unseen.2)

pub overflow_add-self-3 : goal.overflow_add-self-3
overflow_add-self-3 c = omega (arith, has_room c.requires.sound _ c.requires.unseen.1 c.requires.unseen.2)

pub returns : goal.returns
returns c =
    let most = places_most c.args.gates.now.n (head_of c.args.gates.now.table.now c.args.y) in
    let e = c.first_mark.ensures in
    let has = places c.args.gates.now.table.now c.args.gates.now.n c.args.y in (
      push c.requires.sound _ c.requires.unseen.1 c.requires.unseen.2 _ (omega arith) (omega arith) (omega arith)
          (λ i z h r. none_before c.args.gates.now.table.now c.args.gates.now.n c.args.y i z (omega arith) r) c.requires.unseen.0 c.requires.above,
      refl,
    )
