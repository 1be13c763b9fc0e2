-- What the forms over std stand on.
use Rattle.ifs_outside.specs.declared.std_sink.StdSink.{StdSink}
use Rattle.ifs_outside.specs.declared.std_source.StdSource.{StdSource}

-- the reader of a source
abbrev pub reader_of : {R : Type 0} → StdSource R → R
reader_of source = source.reader

-- the writer of a sink
abbrev pub writer_of : {W : Type 0} → StdSink W → W
writer_of sink = sink.writer
