-- A record's fields are those of its bytes, and its bytes are those of its fields. Assumes nothing.
use mathlib.Core.Path.{◌≡◌, refl, ◌∙◌, sym, ap}
use mathlib.Core.List.{List, [], ◌∷◌, ◌++◌, append-nil}
use Prim.Native.Nat.{ℕ}
use native.Mathlib.Omega.{arith}
use lib.ListN.{length, drop}
use lib.Seq.{take_all}
use Rattle.slicefile.specs.Format.{slice_tag, body_length}
use Rattle.slicerecord.specs.Record.{all_bytes, record_of, body_bytes, Below, Typed}
use Rattle.slicerecord.specs.declared.Record.{Record}
use Rattle.slicerecord.proofs.Pieces.{join, piece_byte, piece_bytes, piece_numbers, pairs_pieces}
use Rattle.slicerecord.proofs.Stores.{length_all_bytes}
use Rattle.slicerecord.proofs.Fields.{after, byte_field, bytes_field, numbers_field}

-- the bytes of the record that a body holds are the body
pub bytes_of_record : (body : List ℕ) → length body ≡ body_length slice_tag → Below 256 body → body_bytes (record_of body) ≡ body
unfolding body_bytes record_of
bytes_of_record s h b =
    let pins = ap (all_bytes 2) (pairs_pieces s 62 31) ∙ piece_numbers s 62 2 0 31 b (omega arith) in
    let bits = join s 59 1 64 (piece_byte s 59 (omega arith)) (join s 60 1 63 (piece_byte s 60 (omega arith)) (join s 61 1 62 (piece_byte s 61 (omega arith)) pins)) in
    let flops = join s 47 4 73 (piece_bytes s 47 4 (omega arith)) (join s 51 4 69 (piece_bytes s 51 4 (omega arith)) (join s 55 4 65 (piece_bytes s 55 4 (omega arith)) bits)) in
    let carry = join s 42 4 78 (piece_bytes s 42 4 (omega arith)) (join s 46 1 77 (piece_byte s 46 (omega arith)) flops) in
    let tables = join s 2 4 118 (piece_bytes s 2 4 (omega arith)) (join s 6 4 114 (piece_bytes s 6 4 (omega arith)) (join s 10 32 82 (piece_numbers s 10 8 0 4 b (omega arith)) carry)) in
    join s 0 1 123 (piece_byte s 0 (omega arith)) (join s 1 1 122 (piece_byte s 1 (omega arith)) tables) ∙ take_all 124 s (omega arith)

-- the record that its bytes hold is the record
pub record_of_bytes : (r : Record) → Typed r → record_of (body_bytes r) ≡ r
unfolding body_bytes record_of
record_of_bytes r t =
    let z = t.sized in
    let s = body_bytes r in
    let t62 = all_bytes 2 r.pins in
    let t59 = (r.powerup ∷ r.resets ∷ r.resettable ∷ []) ++ t62 in
    let t55 = r.seconds ++ t59 in
    let t51 = r.mains ++ t55 in
    let t47 = r.muxes ++ t51 in
    let t46 = (r.start ∷ []) ++ t47 in
    let t42 = r.carries ++ t46 in
    let t10 = all_bytes 8 r.contents ++ t42 in
    let t6 = r.shifts ++ t10 in
    let d2 : drop 2 s ≡ r.modes ++ t6 = refl in
    let d6 = after s 2 4 r.modes t6 d2 z.modes in
    let d10 = after s 6 4 r.shifts t10 d6 z.shifts in
    let d42 = after s 10 32 (all_bytes 8 r.contents) t42 d10 (rw (length_all_bytes 8 r.contents, z.contents)) in
    let d46 = after s 42 4 r.carries t46 d42 z.carries in
    let d47 = after s 46 1 (r.start ∷ []) t47 d46 refl in
    let d51 = after s 47 4 r.muxes t51 d47 z.muxes in
    let d55 = after s 51 4 r.mains t55 d51 z.mains in
    let d59 = after s 55 4 r.seconds t59 d55 z.seconds in
    let d62 = after s 59 3 (r.powerup ∷ r.resets ∷ r.resettable ∷ []) t62 d59 refl in
    λ i. record {
      number = r.number;
      kind = r.kind;
      modes = bytes_field s 2 4 r.modes t6 d2 z.modes i;
      shifts = bytes_field s 6 4 r.shifts t10 d6 z.shifts i;
      contents = numbers_field s 10 8 4 r.contents t42 d10 t.contents z.contents i;
      carries = bytes_field s 42 4 r.carries t46 d42 z.carries i;
      start = byte_field s 46 0 d46 i;
      muxes = bytes_field s 47 4 r.muxes t51 d47 z.muxes i;
      mains = bytes_field s 51 4 r.mains t55 d51 z.mains i;
      seconds = bytes_field s 55 4 r.seconds t59 d55 z.seconds i;
      powerup = byte_field s 59 0 d59 i;
      resets = byte_field s 59 1 d59 i;
      resettable = byte_field s 59 2 d59 i;
      pins = (pairs_pieces s 62 31 ∙ numbers_field s 62 2 31 r.pins [] (d62 ∙ sym (append-nil t62)) t.pins z.pins) i;
    }
