-- A call whose candidates can be made and summed.
use Rattle.std.specs.Prelude.{◌≡◌}
use Rattle.planes.specs.GridRefusals.{past_grid}
use Rattle.calls.specs.Pass.{Pass}
use Rattle.sums.specs.Bytes.{BytePlanes}
use Rattle.sums.specs.Sums.{past_source}
use Rattle.search.specs.Search.{SearchCall}

-- what 1, 2, 3, 8 and 9 leave, of samples that are bytes
pub record Ready (W : Pass) (a : SearchCall W) : Type 0 where
  pub planes : past_grid a.grid a.reconstruction 0 ≡ 0
  pub scratch : past_grid a.grid a.scratch 0 ≡ 0
  pub source : past_source a.grid a.source 0 ≡ 0
  pub bytes : BytePlanes a.reconstruction
  pub source_bytes : BytePlanes a.source.samples
