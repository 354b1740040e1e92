-- What real files and standard output stand for (this project's own): their counts alone, since
-- what they hold isn't told.
use Rattle.std.specs.Prelude.{ℕ, List, Option, None}
use Rattle.aug_base.specs.declared.file_shelf.FileShelf.{FileShelf}
use Rattle.aug_base.specs.declared.host.Host.{Host}
use Rattle.aug_base.specs.declared.std_sink.StdSink.{StdSink}
use Rattle.aug_base.specs.declared.std_sink.StdStream.{StdStream}
use Rattle.aug_base.specs.Shelves.{Shelved}
use Rattle.aug_base.specs.Sinks.{Taken}
use Rattle.aug_base.specs.Systems.{Disk}

-- the shelf of real files, and the system that it calls
abbrev pub file_shelved : {S : Type 0} → FileShelf S → Shelved
file_shelved shelf = record { read_faults = shelf.read_faults; write_faults = shelf.write_faults; files = None }

abbrev pub system_of : {S : Type 0} → FileShelf S → S
system_of shelf = shelf.system

-- the system's own calls
abbrev pub host_disk : {R D : Type 0} → Host R D → Disk
host_disk host = record { faults = host.faults; files = None; left = None }

-- the stream of standard output
abbrev pub std_stream : {R : Type 0} → StdStream R → Taken
std_stream stream = record { faults = stream.faults; bytes = None }

-- the faults that a sink has counted, and the stream that it writes to
abbrev pub sink_faults : {S : Type 0} → StdSink S → ℕ
sink_faults sink = sink.faults

abbrev pub stream_of : {S : Type 0} → StdSink S → S
stream_of sink = sink.stream

-- the sink over a stream that has taken these bytes
abbrev pub std_taken : {S : Type 0} → Option (List ℕ) → StdSink S → Taken
std_taken bytes sink = record { faults = sink.faults; bytes = bytes }
