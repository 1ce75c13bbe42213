-- `toposort::order_or_loop` meets its contract: the parts of the local arrays are zeros, from which the search starts. Assumes nothing.
use mathlib.Core.Path.{refl}
use lib.ListN.{take}
use Rattle.netlist.proofs.Zeros.{zeros, zeros_length, zeros_all}
use Rattle.netlist.specs.Table.{signal_limit, signal_count}
use Rattle.toposort.specs.Search.{search_of}
use Rattle.toposort.specs.Components.{Sized}
use Rattle.toposort.proofs.order_or_loop.Goals as goal

pub scan_all-best-requires-clause-fresh : goal.scan_all-best-requires-clause-fresh
scan_all-best-requires-clause-fresh c =
    let N = signal_count c.args.n in
    let z = take N (zeros signal_limit) in
    let e = zeros_length signal_limit N c.requires.table.0.0 in
    let sized : Sized N (search_of z z z z z c.args.order.now) =
    record { marks = e; pos = e; stack = e; heads = e; path = e; order = c.requires.table.2 } in
    ((sized, zeros_all signal_limit N), refl)
