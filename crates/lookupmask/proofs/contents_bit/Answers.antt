-- `lookupmask::contents_bit` meets its contract. Assumes nothing.
use mathlib.Core.Path.{◌≡◌, ◌∙◌, ap}
use Prim.Native.Nat.{ℕ}
use borrow.Author.Rules.{rules}
use lib.ListN.{get_or}
use Rattle.netlist.specs.Rule.{bit_at}
use Rattle.lookupmask.proofs.Masks.{masked_bit}
use Rattle.lookupmask.proofs.contents_bit.Goals as goal

pub returns : goal.returns
returns c =
    let word : c.unwrap_or-word.result ≡ get_or c.args.contents.now c.args.table 0 = search rules in
    c.from.ensures ∙ masked_bit c.unwrap_or-word.result c.args.k c.requires ∙ ap (λ (w : ℕ). bit_at w c.args.k) word
