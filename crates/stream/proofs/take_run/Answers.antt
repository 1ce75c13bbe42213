-- `stream::take_run` meets its contract. Assumes nothing.
use native.Mathlib.Omega.{arith}
use Rattle.slicerecord.proofs.Stores.{sets_part}
use Rattle.stream.proofs.Hearing.{hears_all}
use Rattle.stream.proofs.Taking.{own_len, part_stored, fitting_length, takes_all, takes_heard, takes_over}
use Rattle.stream.proofs.take_run.Goals as goal

pub returns-then-room-run : goal.returns-then-room-run
returns-then-room-run c =
    let a = c.args in
    let within = own_len a.reader c.requires.1 in
    let part = fitting_length a.reader a.store.now a.run.now c.requires.0 within c.if-room-run.true in
    takes_over a.reader a.store.now a.run.now c.requires.0 within a.last c.if-room-run.true c.overfull_reply.ensures
    (part_stored _ _ _ _ (omega (arith, part, c.requires.0)) (omega (arith, part, c.requires.0)) c.copy_bytes.ensures) c.hear-full.ensures

pub returns-then-last : goal.returns-then-last
returns-then-last c =
    let a = c.args in
    let within = own_len a.reader c.requires.1 in
    let stored = sets_part a.store.now a.run.now a.reader.len (omega (arith, within)) c.copy_bytes-2.ensures in
    takes_all a.reader a.store.now a.run.now c.requires.0 within a.last (omega arith) stored (hears_all _ _ _ c.if-last.true c.judge.ensures)

pub returns : goal.returns
returns c =
    let a = c.args in
    let within = own_len a.reader c.requires.1 in
    let stored = sets_part a.store.now a.run.now a.reader.len (omega (arith, within)) c.copy_bytes-2.ensures in
    takes_heard a.reader a.store.now a.run.now c.requires.0 within a.last (omega arith) stored c.if-last.false c.hear.ensures
