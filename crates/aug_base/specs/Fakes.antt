-- What the shelf and the sink in memory stand for, and which of their calls fail (this project's own).
use Rattle.std.specs.Prelude.{ℕ, List, Some}
use Rattle.aug_base.specs.declared.mem_shelf.MemShelf.{MemShelf}
use Rattle.aug_base.specs.declared.mem_sink.MemSink.{MemSink}
use Rattle.aug_base.specs.Causes.{next}
use Rattle.aug_base.specs.Files.{Files}
use Rattle.aug_base.specs.MapOfFiles.{files_over, map_files}
use Rattle.aug_base.specs.Shelves.{Shelved}
use Rattle.aug_base.specs.Sinks.{Taken}

-- the map of a shelf in memory
abbrev pub mem_files : MemShelf → Files
mem_files shelf = files_over shelf.given.items (map_files shelf.files)

-- what it is as a shelf: it tells its map
abbrev pub mem_shelved : MemShelf → Shelved
mem_shelved shelf = record { read_faults = shelf.read_faults; write_faults = shelf.write_faults; files = Some (mem_files shelf) }

-- the numbers of its calls that fail
abbrev pub mem_failing : MemShelf → List ℕ
mem_failing shelf = shelf.failing

-- the number of its next call
abbrev pub mem_calls : MemShelf → ℕ
mem_calls shelf = shelf.calls

-- the shelf after a read that failed, and after a write that failed: the fault is counted
abbrev pub read_failed : Shelved → Shelved
read_failed shelf = record { read_faults = next shelf.read_faults; write_faults = shelf.write_faults; files = shelf.files }

abbrev pub write_failed : Shelved → Shelved
write_failed shelf = record { read_faults = shelf.read_faults; write_faults = next shelf.write_faults; files = shelf.files }

-- the bytes that a sink in memory has taken
abbrev pub mem_bytes : MemSink → List ℕ
mem_bytes sink = sink.bytes.items

-- what it is as a sink: it tells its bytes
abbrev pub mem_taken : MemSink → Taken
mem_taken sink = record { faults = sink.faults; bytes = Some (mem_bytes sink) }

-- the numbers of its puts that fail
abbrev pub sink_failing : MemSink → List ℕ
sink_failing sink = sink.failing

-- the number of its next put
abbrev pub sink_calls : MemSink → ℕ
sink_calls sink = sink.calls

-- how many bytes it takes a put, at most
abbrev pub sink_piece : MemSink → ℕ
sink_piece sink = sink.piece

-- the sink after a put that failed: the fault is counted
abbrev pub put_failed : Taken → Taken
put_failed sink = record { faults = next sink.faults; bytes = sink.bytes }
