use mathlib.Core.Path.{◌∙◌, refl}
use native.Mathlib.Omega.{arith}
use Rattle.toposort.proofs.Reading.{flop_reads}
use Rattle.toposort.proofs.Opening.{all_judged, start}
use Rattle.toposort.proofs.Searcher.scan_all.Goals as goal

pub loop-self-init : goal.loop-self-init
loop-self-init c =
    let f = c.requires.fresh.0.0 in
    let k = c.list_flops.auto in
    let e = c.list_flops.ensures in
    rw c.requires.fresh.1 (
      start _ _ _ c.requires.gates.0
          (record { marks = k.marks ∙ f.marks; pos = f.pos; stack = f.stack; heads = f.heads; path = f.path; order = k.order ∙ f.order })
          e (flop_reads _ _ c.requires.gates.1),
      e.first,
      omega arith,
      refl,
    )

pub returns-clause-least : goal.returns-clause-least
returns-clause-least c = all_judged c.loop-self.invariant.0 (omega arith)
