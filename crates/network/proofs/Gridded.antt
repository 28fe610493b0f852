-- A grid within its limits keeps the laws of a network.
use Rattle.std.proofs.Common.{◌≡◌, ℕ, zero, suc, ◌+◌, ◌-◌, ◌*◌, ◌/◌, ◌%◌, ◌<◌, ◌≤◌, eqb, ltb, map, length, get_or, pos, nat_abs, sym, subst, add-mul, mul-zero, zero-add, arith}
use Rattle.std.specs.List.{range_with_len, AllByRecursion}
use Rattle.std.proofs.lemmas.Nat.{div_below, mod_below, mul-add-lt, mul-le}
use Rattle.std.proofs.lemmas.List.FromFn.{length-map-range_with_len, get_or-map-range_with_len}
use Rattle.std.proofs.ByRecursion.{All-from_get_or, All-weaker}
use Rattle.std.proofs.lemmas.Int.{ints}
use Rattle.std.proofs.lemmas.Bool.{cond_both, ltb-true, ltb-false}
use Rattle.network.specs.Gridded.{Side, grid_road, right_from, down_from, right_count, down_count, grid_arcs, right_road, down_road, grid_arc, offered, wanted, grid_stock, gridded}
use Rattle.network.specs.Limits.{max_side, max_grid_chests}
use Rattle.network.specs.Net.{Lawful}
use Rattle.network.specs.Roads.{Ranged, Passable}
use Rattle.network.specs.declared.road.Road.{Road}
use Rattle.network.proofs.Lawful.{near_distance, touching_le, reach_le}

-- what the laws ask of each road of a network with so many nodes
record Good (nodes : ℕ) (r : Road) : Type 0 where
  ranged : Ranged nodes r
  passable : Passable r

between : (nodes r c v w : ℕ) → v < nodes → w < nodes → (v ≡ w → ⊥) → Good nodes (grid_road r c v w)
between nodes r c v w tail head apart =
    let five : (r + 2 * c) % 5 < 5 = mod_below _ 5 (omega arith) in
    let first : (3 * r + c) % 7 < 7 = mod_below _ 7 (omega arith) in
    let second : (5 * r + 2 * c) % 7 < 7 = mod_below _ 7 (omega arith) in
    record {
      ranged = record {
        tail = tail;
        head = head;
        least = omega arith;
        most = omega arith;
        first = (omega (arith, ints), omega (arith, ints));
        second = (omega (arith, ints), omega (arith, ints));
      };
      passable = record { apart = apart; room = omega arith };
    }

-- the roads by row and column
right_from_lem : (rows columns r c : ℕ) → r < rows → c < columns - 1 → Good (rows * columns) (right_from columns r c)
right_from_lem rows columns r c row column =
    between (rows * columns) r c _ _
    (omega (arith, mul-add-lt r columns c rows row (omega arith)))
    (omega (arith, mul-add-lt r columns (c + 1) rows row (omega arith)))
    (λ e. omega arith)

down_from_lem : (rows columns r c : ℕ) → r < rows - 1 → c < columns → Good (rows * columns) (down_from columns r c)
down_from_lem rows columns r c row column =
    between (rows * columns) r c _ _
    (omega (arith, mul-add-lt r columns c rows (omega arith) column))
    (omega (arith, mul-add-lt (r + 1) columns c rows (omega arith) column))
    (λ e. omega (arith, add-mul r 1 columns))

-- a row that has places has some
some_places : (i rows width : ℕ) → i < rows * width → 0 < width
some_places i rows zero h = omega (arith, mul-zero rows)
some_places i rows (suc width) h = omega arith

-- the row and the column of an arc, by its number
pub right_spot : (rows columns i : ℕ) → i < right_count rows columns → (i / (columns - 1) < rows) × (i % (columns - 1) < columns - 1)
right_spot rows columns i h =
    let wide = some_places i rows (columns - 1) h in
    (div_below i (columns - 1) rows wide h, mod_below i (columns - 1) wide)

pub down_spot : (rows columns i : ℕ) → i < down_count rows columns → (i / columns < rows - 1) × (i % columns < columns)
down_spot rows columns i h =
    let wide = some_places i (rows - 1) columns h in
    (div_below i columns (rows - 1) wide h, mod_below i columns wide)

right_road_lem : (rows columns i : ℕ) → i < right_count rows columns → Good (rows * columns) (right_road columns i)
right_road_lem rows columns i h =
    let spot = right_spot rows columns i h in
    right_from_lem rows columns _ _ spot.0 spot.1

down_road_lem : (rows columns i : ℕ) → i < down_count rows columns → Good (rows * columns) (down_road columns i)
down_road_lem rows columns i h =
    let spot = down_spot rows columns i h in
    down_from_lem rows columns _ _ spot.0 spot.1

grid_arc_lem : (rows columns i : ℕ) → i < grid_arcs rows columns → Good (rows * columns) (grid_arc rows columns i)
grid_arc_lem rows columns i h =
    let rights = right_count rows columns in
    cond_both (ltb i rights) (right_road columns i) (down_road columns (i - rights)) (Good (rows * columns))
    (λ e. right_road_lem rows columns i (ltb-true i rights e))
    (λ e. let past : rights ≤ i = ltb-false i rights e in down_road_lem rows columns (i - rights) (omega arith))

-- what holds at each number holds of the list
counted : {X : Type 0} (f : ℕ → X) (P : X → Type 0) (n : ℕ) → ((i : ℕ) → i < n → P (f i)) → AllByRecursion P (map f (range_with_len 0 n))
counted f P n holds =
    All-from_get_or P (map f (range_with_len 0 n)) (f 0)
    (λ i h.
    let below : i < n = omega (arith, length-map-range_with_len f 0 n) in
    subst P (sym (get_or-map-range_with_len f 0 n i i (f 0) below (zero-add i))) (holds i below))

stock_near : (nodes chests v : ℕ) → nat_abs (grid_stock nodes chests v) ≤ chests
stock_near nodes chests v =
    let offer : offered chests v ≤ chests = cond_both (eqb v 0) chests 0 (λ n. n ≤ chests) (λ _. omega arith) (λ _. omega arith) in
    let want : wanted nodes chests v ≤ chests = cond_both (eqb (v + 1) nodes) chests 0 (λ n. n ≤ chests) (λ _. omega arith) (λ _. omega arith) in
    near_distance chests (grid_stock nodes chests v) (omega (arith, ints), omega (arith, ints))

stock_le : (nodes chests v : ℕ) → v < nodes → nat_abs (get_or (map (grid_stock nodes chests) (range_with_len 0 nodes)) v (pos 0)) ≤ chests
stock_le nodes chests v below =
    let here = get_or-map-range_with_len (grid_stock nodes chests) 0 nodes v v (pos 0) below (zero-add v) in
    subst (λ z. nat_abs z ≤ chests) (sym here) (stock_near nodes chests v)

-- 14 × 13 arcs each way at the most
arcs_le : (rows columns : ℕ) → rows ≤ max_side → columns ≤ max_side → grid_arcs rows columns ≤ 364
arcs_le rows columns tall wide =
    omega (arith, mul-le rows (columns - 1) 14 13 tall (omega arith), mul-le (rows - 1) columns 13 14 (omega arith) wide)

pub gridded_lawful : (rows columns chests : ℕ) → Side rows → Side columns → chests ≤ max_grid_chests → Lawful (gridded rows columns chests)
gridded_lawful rows columns chests tall wide few =
    let nodes = rows * columns in
    let net = gridded rows columns chests in
    let roads = net.roads in
    let all_nodes : length net.stocks ≡ nodes = length-map-range_with_len (grid_stock nodes chests) 0 nodes in
    let all_arcs : length roads ≡ grid_arcs rows columns = length-map-range_with_len (grid_arc rows columns) 0 (grid_arcs rows columns) in
    let short : length roads ≤ 364 = omega (arith, arcs_le rows columns tall.1 wide.1) in
    let good : AllByRecursion (Good nodes) roads = counted (grid_arc rows columns) (Good nodes) (grid_arcs rows columns) (grid_arc_lem rows columns) in
    let ranged : AllByRecursion (Ranged nodes) roads = All-weaker (Good nodes) (Ranged nodes) (λ r g. g.ranged) roads good in
    record {
      some = omega (arith, mul-le 1 1 rows columns tall.0 wide.0);
      nodes = omega (arith, mul-le rows columns 14 14 tall.1 wide.1);
      arcs = omega arith;
      ranged = subst (λ n. AllByRecursion (Ranged n) roads) (sym all_nodes) ranged;
      passable = All-weaker (Good nodes) Passable (λ r g. g.passable) roads good;
      node = λ v h. omega (arith, stock_le nodes chests v (omega arith), touching_le v nodes roads ranged);
      first = omega (arith, reach_le (λ r. r.first) nodes roads (λ r g. g.first) ranged);
      second = omega (arith, reach_le (λ r. r.second) nodes roads (λ r g. g.second) ranged);
    }
