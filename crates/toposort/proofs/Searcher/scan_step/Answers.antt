-- `toposort::Searcher::scan_step` meets its contract. Assumes nothing.
use native.Mathlib.Omega.{arith}
use Rattle.toposort.proofs.Components.{depth_le}
use Rattle.toposort.proofs.Opening.{above_root}
use Rattle.toposort.proofs.Searcher.scan_step.Goals as goal

pub offset_bounds-self-self : goal.offset_bounds-self-self
offset_bounds-self-self c = omega (arith, depth_le c.requires.sound)

pub bounds-self-self : goal.bounds-self-self
bounds-self-self c = omega (arith, depth_le c.requires.sound)

pub open_signal-requires-clause-above : goal.open_signal-requires-clause-above
open_signal-requires-clause-above c = above_root c.requires.sound _ (omega arith)
