-- How the settings place vectors.
use Rattle.mi_base.specs.Configuration.{Configuration, space_of}
use Rattle.mi_tree.specs.Cells.{Grid, grid_of}

abbrev pub grid_under : Configuration → Grid
grid_under c = grid_of (space_of c) c.levels
