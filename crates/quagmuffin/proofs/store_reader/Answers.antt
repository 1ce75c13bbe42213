-- `quagmuffin::store_reader` meets its contract. Assumes nothing.
use mathlib.Core.Path.{◌∙◌, ap}
use mathlib.Core.List.{[], ◌∷◌}
use Prim.Native.Nat.{ℕ}
use Rattle.quagmuffin.proofs.Words.{three_stored}
use Rattle.quagmuffin.proofs.store_reader.Goals as goal

pub returns : goal.returns
returns c =
    let k = c in
    three_stored k.args.state.now _ _ _ k.requires.0 ∙ ap (λ (w : ℕ). k.args.reader.len ∷ k.args.reader.passed ∷ w ∷ []) c.pack_reply.ensures
