-- `clockedge::next_flops` meets its contract: set or reset, taken, kept. Assumes nothing.
use mathlib.Core.Path.{◌≡◌, ◌∙◌, sym}
use Prim.Native.Nat.{◌%◌}
use native.Mathlib.Omega.{arith}
use Rattle.clockedge.proofs.Byte.{byte_reset, byte_taken, byte_kept}
use Rattle.clockedge.proofs.next_flops.Goals as goal

pub returns-then-wire-eq1 : goal.returns-then-wire-eq1
returns-then-wire-eq1 c = sym (byte_reset _ _ _ (sym c.wire.ensures.0 ∙ c.if-wire-eq1.true))

pub returns-then-wire-eq1-2 : goal.returns-then-wire-eq1-2
returns-then-wire-eq1-2 c =
    c.number_on.ensures.0
    ∙ sym (byte_taken _ _ _ (λ h. c.if-wire-eq1.false (c.wire.ensures.0 ∙ h)) (sym c.wire-else-wire-eq1.ensures.0 ∙ c.if-wire-eq1-2.true))

pub returns-else-wire-eq1-2 : goal.returns-else-wire-eq1-2
returns-else-wire-eq1-2 c =
    let small : c.args.old % 256 ≡ c.args.old = omega arith in
    sym (byte_kept _ _ _ (λ h. c.if-wire-eq1.false (c.wire.ensures.0 ∙ h)) (λ h. c.if-wire-eq1-2.false (c.wire-else-wire-eq1.ensures.0 ∙ h)) ∙ small)
