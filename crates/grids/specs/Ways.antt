-- The arcs of a grid by the way that they go.
use Rattle.std.specs.Prelude.{ℕ, ◌-◌}
use Rattle.network.specs.Gridded.{right_count, down_count, right_road, down_road}
use Rattle.network.specs.declared.road.Road.{Road}
use Rattle.grids.specs.declared.way.Way.{Way}
use Rattle.grids.specs.declared.way.Way.TheVariants.{Right, Down}

-- how many arcs of a row go this way
abbrev pub way_width : Way → ℕ → ℕ
way_width Right columns = columns - 1
way_width Down columns = columns

-- how far on the next node this way stands
abbrev pub way_step : Way → ℕ → ℕ
way_step Right columns = 1
way_step Down columns = columns

-- how many arcs go this way, and the road of each
abbrev pub way_count : Way → ℕ → ℕ → ℕ
way_count Right rows columns = right_count rows columns
way_count Down rows columns = down_count rows columns

abbrev pub way_road : Way → ℕ → ℕ → Road
way_road Right columns i = right_road columns i
way_road Down columns i = down_road columns i
