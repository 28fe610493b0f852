-- What it is to make a grid: three numbers in their ranges, or the first that is not.
use Rattle.std.specs.Prelude.{◌≡◌, ℕ, ◌<◌, ◌≤◌, ◌⊎◌, Ok, Err, Result}
use Rattle.network.specs.Gridded.{Side}
use Rattle.network.specs.Limits.{max_grid_chests}
use Rattle.network.specs.Refusals.{SaysAt}
use Rattle.network.specs.declared.refusal.Refusal.{Refusal}
use Rattle.grids.specs.declared.grid.Grid.{Grid}

-- the grid has these numbers of rows, columns and chests, each in its range
pub record Holds (r c q : ℕ) (g : Grid) : Type 0 where
  pub rows : g.rows ≡ r
  pub columns : g.columns ≡ c
  pub chests : g.chests ≡ q
  pub tall : Side r
  pub wide : Side c
  pub few : q ≤ max_grid_chests

-- the refusal tells the place of the first number that is outside its range
abbrev pub Told : ℕ → ℕ → ℕ → Refusal → Type 0
Told rows columns chests e =
    ((Side rows → ⊥) × SaysAt e 11 1)
    ⊎ ((Side rows × (Side columns → ⊥) × SaysAt e 11 2)
    ⊎ (Side rows × Side columns × (max_grid_chests < chests) × SaysAt e 11 3))

abbrev pub Made : ℕ → ℕ → ℕ → Result Grid Refusal → Type 0
Made rows columns chests (Ok g) = Holds rows columns chests g
Made rows columns chests (Err e) = Told rows columns chests e
