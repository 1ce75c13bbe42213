-- `netlist::put_row` meets its contract. Assumes nothing.
use Rattle.std.proofs.Common.{◌≡◌, ◌+◌, ◌*◌, ◌≤◌, ℕ, List, take, drop, length, arith, sym, ap, ◌∙◌, append_assoc, drop-drop, length-take, length-drop}
use Rattle.std.proofs.lemmas.List.Edits.{sets, sets-eq}
use borrow.Rule.Slice.PartMut.{put_mid}
use borrow.Kind.Array.{e_int, good_length}
use mir.Syntax.{w16}
use mathlib.Core.List.{[], ◌∷◌}
use Prim.Native.Nat.{suc, ◌<◌}
use lib.Dec.{lit<}
use lib.ListN.{get_or, drop_of_length-le}
use lib.Seq.{drop-cons}
use Rattle.netlist.specs.Table.{row_length}
use Rattle.netlist.proofs.put_row.Goals as goal

-- a write of a whole part is a run of stores
part_sets :
    (l vs part : List ℕ) (i k : ℕ) → part ≡ vs → length part ≡ length (take k (drop i l)) → i + k ≤ length l
    → put_mid i k l part ≡ sets l i vs
part_sets l vs part i k e p h =
    let n : k ≡ length vs = omega (arith, ap length e, length-take k (drop i l), length-drop i l) in
    rw (e, drop-drop k i l, n) (sym (append_assoc (take i l) vs _) ∙ sym (sets-eq vs l i (omega arith)))

-- a row is its seven numbers, so that it may be stored as them as well
whole :
    (row : List ℕ) → length row ≡ row_length
    → row ≡ get_or row 0 0 ∷ get_or row 1 0 ∷ get_or row 2 0 ∷ get_or row 3 0 ∷ get_or row 4 0 ∷ get_or row 5 0 ∷ get_or row 6 0 ∷ []
whole row e =
    let at : (i : ℕ) → i < row_length → drop i row ≡ get_or row i 0 ∷ drop (suc i) row = λ i h. drop-cons row i 0 (omega arith) in
    let end : drop row_length row ≡ [] = drop_of_length-le row {i = row_length} (omega arith) in
    at 0 (lit< tt)
    ∙ ap (λ (rest : List ℕ). get_or row 0 0 ∷ rest)
    (rw (at 1 (lit< tt), at 2 (lit< tt), at 3 (lit< tt), at 4 (lit< tt), at 5 (lit< tt), at 6 (lit< tt), end))

pub returns : goal.returns
returns c =
    let e = c.copy_from_slice.ensures in
    let seven = whole c.args.row (good_length (e_int w16) row_length c.args.row _ c.well_formed.1.1.0) in
    part_sets c.args.table.now c.args.row _ (row_length * c.args.x) _ (cc (e.after, seven)) e.len (omega arith)
