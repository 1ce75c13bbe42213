-- `column::Sound::slice_body` meets its contract. Assumes nothing.
use native.Mathlib.Omega.{arith}
use Rattle.column.proofs.Places.{start_at}
use Rattle.column.proofs.SoundLaws.{sound_file, record_inside, body_part}
use Rattle.column.proofs.Sound.slice_body.Goals as goal

pub overflow_mul-at : goal.overflow_mul-at
overflow_mul-at c = omega (arith, (sound_file _ c.args.self.now.checked).slices_fit)

pub overflow_add-at : goal.overflow_add-at
overflow_add-at c = omega (arith, (sound_file _ c.args.self.now.checked).slices_fit)

pub overflow_add-at-2 : goal.overflow_add-at-2
overflow_add-at-2 c = omega (arith, (sound_file _ c.args.self.now.checked).slices_fit)

pub overflow_add-result : goal.overflow_add-result
overflow_add-result c = omega (arith, (sound_file _ c.args.self.now.checked).slices_fit)

pub slice_bounds-result-end : goal.slice_bounds-result-end
slice_bounds-result-end c =
    let file = c.args.self.now.file.now in
    let f = sound_file file c.args.self.now.checked in
    omega (arith, record_inside file f c.args.s c.requires, start_at file c.args.s)

pub returns : goal.returns
returns c = body_part c.args.self.now.file.now c.args.s
