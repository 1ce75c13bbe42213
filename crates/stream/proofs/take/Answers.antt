-- `stream::take` meets its contract. Assumes nothing.
use mathlib.Core.Bool.{not}
use native.Mathlib.Omega.{arith}
use borrow.Author.Tests.{not-false}
use lib.ListN.{length, take, length-take}
use Rattle.slicefile.proofs.Tests.{or_left, or_right}
use Rattle.slicerecord.proofs.Stores.{sets_part}
use Rattle.stream.specs.Feeding.{StaysInside}
use Rattle.stream.proofs.Taking.{own_len, takes_inside}
use Rattle.stream.proofs.take.Goals as goal

pub returns : goal.returns
returns c =
    let a = c.args in
    let within = own_len a.reader c.requires.1 in
    -- the run ends inside a slice
    let inside : StaysInside (take a.reader.len a.store.now) a.reader.passed (length a.run.now)
    = c.stays_inside-waits.ensures (not-false _ (or_right a.last (not c.stays_inside-waits.result) c.if-last-waits.false)) in
    let stored = sets_part a.store.now a.run.now a.reader.len (omega (arith, within, inside.room, length-take a.reader.len a.store.now)) c.copy_bytes.ensures in
    takes_inside a.reader a.store.now a.run.now c.requires.0 within a.last (omega (arith, inside.room, length-take a.reader.len a.store.now)) stored
    (or_left a.last (not c.stays_inside-waits.result) c.if-last-waits.false) inside
