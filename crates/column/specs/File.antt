-- A whole slice file: where its records stand, and its netlist.
use Rattle.std.specs.Prelude.{ℕ, ◌+◌, ◌*◌, ◌/◌, ◌%◌, List, drop}
use Rattle.netlist.specs.Table.{slice_signals}
use Rattle.netlist.specs.declared.Gate.{Gate}
use Rattle.slicefile.specs.Format.{slice_limit, size_tag, slice_tag, end_tag, record_length, body_of, slice_count, input_count}
use Rattle.series7.specs.Signals.{slice_gate}

-- the length of the size record: for now the same in every file
unfoldable pub size_length : List ℕ → ℕ
size_length file = record_length size_tag

-- the tag of the slice records: for now the same in every file
unfoldable pub slice_tag_of : List ℕ → ℕ
slice_tag_of file = slice_tag

-- where the record of slice s begins, and the end record after n of them
unfoldable pub record_start : List ℕ → ℕ → ℕ
record_start file s = size_length file + record_length (slice_tag_of file) * s

-- "a file has 8 + 127n bytes"
abbrev pub file_length : List ℕ → ℕ → ℕ
file_length file n = record_start file n + record_length end_tag

-- the longest file, of 8,136 bytes: the size record, as many slice records as a file may have, and the end record
abbrev pub file_limit : ℕ
file_limit = record_length size_tag + record_length slice_tag * slice_limit + record_length end_tag

-- the body of slice s
unfoldable pub slice_body : List ℕ → ℕ → List ℕ
slice_body file s = body_of (slice_tag_of file) (drop (record_start file s) file)

-- the netlist of a file: the gate of signal 32s+k
unfoldable pub gate_at : List ℕ → ℕ → Gate
gate_at file x = slice_gate (slice_count file) (input_count file) (x / slice_signals) (slice_body file (x / slice_signals)) (x % slice_signals)
