-- The refusals of a grid among those of a pass: 1, 2 and 3 in both.
use Rattle.planes.specs.declared.grid.GridRefusal.{GridRefusal}
use Rattle.planes.specs.declared.grid.GridRefusal.TheVariants as grid
use Rattle.calls.specs.declared.answers.PassRefusal.{PassRefusal}
use Rattle.calls.specs.declared.answers.PassRefusal.TheVariants.{TooLarge, BadStrides, ShortPlane}

abbrev pub of_grid : GridRefusal → PassRefusal
of_grid grid.TooLarge = TooLarge
of_grid grid.BadStrides = BadStrides
of_grid grid.ShortPlane = ShortPlane
