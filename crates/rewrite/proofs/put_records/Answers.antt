use mathlib.Core.Path.{◌≡◌, ◌∙◌, sym}
use Prim.Native.Nat.{ℕ, ◌+◌, ◌-◌, ◌*◌}
use native.Mathlib.Omega.{arith}
use native.Mathlib.Nat.{add-sub_cancel_left}
use borrow.Rule.Slice.PartMut.{same_len_mid}
use lib.ListN.{length, length-take, length-drop}
use Rattle.slicefile.specs.Format.{size_tag, slice_tag, record_length}
use Rattle.column.proofs.Places.{start_at}
use Rattle.column.proofs.SoundLaws.{sound_file}
use Rattle.rewrite.proofs.Rewriting.{size_next, slice_next, end_next, record_read, sound_length}
use Rattle.rewrite.proofs.put_records.Goals as goal

-- where slice s stands
abbrev place : ℕ → ℕ
place s = record_length size_tag + record_length slice_tag * s

pub loop-s-init : goal.loop-s-init
loop-s-init c = size_next _ (sound_file _ c.args.sound.now.checked) c.args.out.now _ c.copy_from_slice.ensures.after c.requires

pub put_slice-requires : goal.put_slice-requires
put_slice-requires c =
    let at = c.loop-s in (
      rw (add-sub_cancel_left, ← start_at c.args.sound.now.file.now at.s) (record_read _ (sound_file _ c.args.sound.now.checked) at.s c.loop-s-test.true),
      simp (length-take, length-drop) (omega (arith, sound_length c.args.sound.now.file.now c.args.sound.now.checked, at.invariant.0)),
    )

pub loop-s-preserved : goal.loop-s-preserved
loop-s-preserved c =
    let at = c.loop-s in
    let next : place (at.s + 1) ≡ place at.s + record_length slice_tag = omega arith in (
      same_len_mid (place at.s) (length at.out - place at.s) at.out c.put_slice.new.part c.put_slice.auto.part ∙ at.invariant.0,
      rw c.put_slice.ensures (slice_next _ (sound_file _ c.args.sound.now.checked) at.out _ _ at.s _ _ c.loop-s-test.true (sym (start_at _ at.s)) next at.invariant.0 at.invariant.1),
    )

pub returns : goal.returns
returns c =
    let at = c.loop-s in
    let all : at.s ≡ c.args.sound.now.n = omega arith in
    end_next _ (sound_file _ c.args.sound.now.checked) at.out _ (place c.args.sound.now.n) (sym (start_at _ c.args.sound.now.n)) at.invariant.0 (rw all at at.invariant.1) c.copy_from_slice-2.ensures.after
