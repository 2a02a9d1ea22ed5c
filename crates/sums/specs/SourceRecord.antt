-- The source that a record of lent slices stands for (document 01, Borrowed source).
use Rattle.sums.specs.Source.{Source, source_of}
use Rattle.sums.specs.declared.source.SourcePlanes.{SourcePlanes}

abbrev pub source_in : SourcePlanes → Source
source_in src =
    source_of src.width src.height src.y.now src.u.now src.v.now src.y_stride src.uv_stride
