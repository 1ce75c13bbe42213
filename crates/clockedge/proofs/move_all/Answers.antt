-- `clockedge::move_all` meets its contract, by the loop's invariant. Assumes nothing.
use mathlib.Core.Path.{◌≡◌}
use Prim.Native.Nat.{◌+◌, ◌*◌, ◌-◌}
use native.Mathlib.Omega.{arith}
use Rattle.clocknumbers.specs.Numbers.{edge_length}
use Rattle.clockedge.proofs.Together.{moved_next, moved_all}
use Rattle.clockedge.proofs.move_all.Goals as goal

pub loop-s-preserved : goal.loop-s-preserved
loop-s-preserved c =
    let s = c.loop-s.s in
    let long : edge_length * s + edge_length - edge_length * s ≡ edge_length = omega arith in
    let moved = c.move_slice.ensures in
    moved_next _ _ _ _ s _ _ _ _ (omega arith) c.loop-s.invariant (rw long at moved.moved) (rw long at moved.flops_value)

pub returns : goal.returns
returns c =
    let a = c.args in
    let r = c.requires.contents_len in
    let e : c.loop-s.s ≡ a.n = omega arith in
    let all = moved_all a.wires.now a.edges.now a.contents.now a.flops.now a.n r.0 r.1 (rw e at c.loop-s.invariant) in
    record { contents_value = all.0; flops_value = all.1 }
