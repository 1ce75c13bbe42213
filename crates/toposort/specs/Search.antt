-- The buffers of the search, each with an entry a signal. A mark is as in `Tally`. Signals are put on `stack` as they are opened, at the
-- place `pos` says; a component that is closed is cut off the end of the stack. `heads` has the places of the stack where its
-- components begin, as far as they are known, `path` has the open signals, and `order` the done ones.
use Rattle.std.specs.Prelude.{List, ℕ, ◌+◌, ◌-◌, ◌*◌, get_or, set}
use Rattle.netlist.specs.Table.{signal_count}
use Rattle.toposort.specs.Tally.{done_mark}
use Rattle.toposort.specs.declared.Scan.{Scan}

pub record Search : Type 0 where
  pub marks : List ℕ
  pub pos : List ℕ
  pub stack : List ℕ
  pub heads : List ℕ
  pub path : List ℕ
  pub order : List ℕ

-- the buffers by their elements
abbrev pub search_of : List ℕ → List ℕ → List ℕ → List ℕ → List ℕ → List ℕ → Search
search_of marks pos stack heads path order =
    record { marks = marks; pos = pos; stack = stack; heads = heads; path = path; order = order }

-- a mark is set
abbrev pub marked : Search → ℕ → ℕ → Search
marked b x v = search_of (set b.marks x v) b.pos b.stack b.heads b.path b.order

-- the mark of the top rises
abbrev pub raised : Search → ℕ → Search
raised b top = marked b top (get_or b.marks top 0 + 1)

-- the top is done
abbrev pub finished : Search → Scan → ℕ → Search
finished b p top = search_of (set b.marks top done_mark) b.pos b.stack b.heads b.path (set b.order p.done top)

-- where a search of n slices starts, with their flip-flops done
abbrev pub first_scan : ℕ → Scan
first_scan n = record { next = 0; depth = 0; len = 0; count = 0; done = 8 * n; best = signal_count n }

-- a search that goes on with another smallest signal known to be on a loop
abbrev pub with_best : Scan → ℕ → Scan
with_best p best = record { next = p.next; depth = p.depth; len = p.len; count = p.count; done = p.done; best = best }

-- a search whose top is done, with the stack cut to a length and a count of components
abbrev pub cut_to : Scan → ℕ → ℕ → Scan
cut_to p len count =
    record { next = p.next; depth = p.depth - 1; len = len; count = count; done = p.done + 1; best = p.best }
