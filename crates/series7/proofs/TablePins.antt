-- The pins of a letter's look-up table, as a copy takes them from the numbers of all pins. Assumes nothing.
use mathlib.Core.Path.{◌≡◌, ◌∙◌, sym, ap}
use mathlib.Core.List.{List}
use Prim.Native.Nat.{ℕ, ◌+◌, ◌-◌, ◌*◌, ◌≤◌, ◌<◌}
use native.Mathlib.Omega.{arith}
use lib.ListN.{length, take, drop, length-drop}
use lib.Seq.{length-take-le, get_or-take, get_or-drop}
use Rattle.netlist.specs.Table.{code_of}
use Rattle.slicefile.specs.Format.{pin_count, lut_pin}
use Rattle.slicefile.specs.Lists.{tabulate}
use Rattle.slicefile.proofs.Tabulate.{tabulated, tabulate_length, tabulate_from}
use Rattle.sources.specs.Sources.{pin_source, pin_numbers}
use Rattle.sources.proofs.PinLaws.{pin_at}

-- k of them from the j-th on
pub table_pins :
    (n m : ℕ) (body : List ℕ) {pins run : List ℕ} → pins ≡ pin_numbers n m body → (l j k : ℕ) {from end : ℕ} → run ≡ take (end - from) (drop from pins)
    → l < 4 → j + k ≤ 6 → from ≡ 6 * l + j → end ≡ from + k → run ≡ tabulate j k (λ i. code_of n (pin_source n m body (lut_pin l i)))
unfolding pin_numbers
table_pins n m body {pins} e l j k {from} {end} copied letter few first last =
    let all : length pins ≡ pin_count = ap length e ∙ tabulate_length 0 pin_count _ in
    let count : end - from ≡ k = omega arith in
    rw (copied, count, first)
    (tabulated _ k _ (length-take-le k (drop (6 * l + j) pins) (omega (arith, length-drop (6 * l + j) pins)))
    (λ i h. get_or-take k (drop (6 * l + j) pins) i 0 h ∙ get_or-drop (6 * l + j) pins i 0 ∙ pin_at n m body e (6 * l + j + i) (omega arith) ∙ ap (λ (p : ℕ). code_of n (pin_source n m body p)) (omega arith))
    ∙ sym (tabulate_from j k (λ i. code_of n (pin_source n m body (lut_pin l i)))))
