-- The refusals of a grid among those of a sum or a search: 1, 2 and 3 in both.
use Rattle.planes.specs.declared.grid.GridRefusal.{GridRefusal}
use Rattle.planes.specs.declared.grid.GridRefusal.TheVariants as grid
use Rattle.sums.specs.declared.answers.SearchRefusal.{SearchRefusal}
use Rattle.sums.specs.declared.answers.SearchRefusal.TheVariants.{TooLarge, BadStrides, ShortPlane}

abbrev pub of_grid : GridRefusal → SearchRefusal
of_grid grid.TooLarge = TooLarge
of_grid grid.BadStrides = BadStrides
of_grid grid.ShortPlane = ShortPlane
