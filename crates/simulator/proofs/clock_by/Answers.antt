-- `simulator::clock_by` meets its contract: the state moves from the table that was settled. Assumes nothing.
use Rattle.plan.proofs.Plans.{parts_clocked}
use Rattle.simulator.proofs.clock_by.Goals as goal

pub returns : goal.returns
returns c =
    let a = c.args in
    let w = rw (c.walk.ensures.gates.0, c.walk.ensures.gates.1) at c.settle_by.ensures in
    record {
      settled = w.settled;
      moves = parts_clocked a.plan.now.numbers.now a.contents.now a.flops.now c.edges.ensures w.are_wires w.on_inputs w.on_values c.move_all.ensures.contents_value c.move_all.ensures.flops_value;
      bits = w.are_wires.bits;
    }
