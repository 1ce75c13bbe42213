-- `walks::edit_by` meets its contract: the front of a local array has the wires. Assumes nothing.
use mathlib.Core.Path.{◌∙◌}
use Prim.Native.Nat.{ℕ}
use native.Mathlib.Omega.{arith}
use lib.ListN.{take}
use Rattle.netlist.specs.Table.{wire_count, wire_limit}
use Rattle.netlist.proofs.Zeros.{zeros, zeros_all}
use Rattle.evaluation.specs.Numbers.{Bits}
use Rattle.walks.proofs.Turns.{edited_by}
use Rattle.walks.proofs.edit_by.Goals as goal

front_bits : (n m : ℕ) → Bits (take (wire_count n m) (zeros wire_limit))
front_bits n m c = rw (zeros_all wire_limit (wire_count n m) c) (omega arith)

pub lay_inputs-requires-clause-bits : goal.lay_inputs-requires-clause-bits
lay_inputs-requires-clause-bits c = (c.requires.m_bound.2, front_bits _ _)

pub returns : goal.returns
returns c =
    edited_by c.edit_wires.ensures (c.lay_values.ensures.0.inputs ∙ c.lay_inputs.ensures.1) c.lay_values.ensures.1 c.read_values.ensures
