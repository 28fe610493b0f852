-- What a draft holds of a consignment that is being read.
use Rattle.std.specs.Prelude.{◌≡◌, ℕ, ◌<◌, true, false, ◌⊎◌, List, [], ◌∷◌, ◌++◌, length, ℤ, pos, Option, Some, None, Ok, Err, Result, is_some, unwrap_or, slice_index_or, slice_set}
use Rattle.network.specs.Limits.{max_nodes}
use Rattle.network.specs.Refusals.{SaysAt}
use Rattle.network.specs.Roads.{Ranged, Passable}
use Rattle.network.specs.declared.refusal.Refusal.{Refusal}
use Rattle.network.specs.declared.road.Road.{Road}
use Rattle.forms.specs.Form.{stock_items, arc_items, stock_numbers, road_numbers}
use Rattle.forms.specs.Scan.{Scanned}
use Rattle.text.specs.declared.draft.Draft.{Draft}
use Rattle.text.specs.Consignment.{stock_form, arc_form, Stocked, named, stock_of}
use Rattle.lines.specs.Line.{LineAt, NoLine}
use Rattle.text.specs.Refused.{LineFault, Begun}

-- the stock that a draft says a node has: 0 where no line names the node
abbrev pub stock_said : Option ℤ → ℤ
stock_said said = unwrap_or said (pos 0)

-- the draft holds these stocks and roads
pub record Holds (d : Draft) (entries : List (ℕ × ℤ)) (roads : List Road) : Type 0 where
  pub stock : (i : ℕ) → i < max_nodes → stock_said (slice_index_or d.stocks i None) ≡ stock_of entries i
  pub marks : (i : ℕ) → i < max_nodes → is_some (slice_index_or d.stocks i None) ≡ named entries i
  pub roads_are : d.roads.items ≡ roads

-- one stock more
pub record StockPut (d : Draft) (s : ℕ × ℤ) (d' : Draft) : Type 0 where
  pub stocks : d'.stocks ≡ slice_set d.stocks s.0 (Some s.1)
  pub roads : d'.roads.items ≡ d.roads.items
  pub sizes : d'.sizes ≡ d.sizes

-- one road more
pub record RoadPut (d : Draft) (r : Road) (d' : Draft) : Type 0 where
  pub stocks : d'.stocks ≡ d.stocks
  pub roads : d'.roads.items ≡ d.roads.items ++ (r ∷ [])
  pub sizes : d'.sizes ≡ d.sizes

-- what became of the bytes of a stock at `start`, in the line at `place`
abbrev pub StockTook : Draft → List ℕ → ℕ → ℕ → Draft → Result (Unit {0}) Refusal → Type 0
StockTook d bs start place d' (Ok u) =
    (s : ℕ × ℤ) × Scanned (stock_items d.sizes.nodes) bs start (Ok (stock_numbers s)) × (s.0 < d.sizes.nodes) × (is_some (slice_index_or d.stocks s.0 None) ≡ false) × StockPut d s d'
StockTook d bs start place d' (Err e) =
    Scanned (stock_items d.sizes.nodes) bs start (Err e)
    ⊎ ((s : ℕ × ℤ) × Scanned (stock_items d.sizes.nodes) bs start (Ok (stock_numbers s)) × (s.0 < d.sizes.nodes) × (is_some (slice_index_or d.stocks s.0 None) ≡ true) × SaysAt e 13 place)

-- what became of the bytes of an arc
abbrev pub RoadTook : Draft → List ℕ → ℕ → ℕ → Draft → Result (Unit {0}) Refusal → Type 0
RoadTook d bs start place d' (Ok u) = (r : Road) × Scanned (arc_items d.sizes.nodes) bs start (Ok (road_numbers r)) × Passable r × RoadPut d r d'
RoadTook d bs start place d' (Err e) =
    Scanned (arc_items d.sizes.nodes) bs start (Err e)
    ⊎ ((r : Road) × Scanned (arc_items d.sizes.nodes) bs start (Ok (road_numbers r)) × (Passable r → ⊥) × SaysAt e 12 place)

-- reading one more line leads from these stocks and roads to those
pub data LineRead (n m : ℕ) (entries : List (ℕ × ℤ)) (roads : List Road) (form : List ℕ) (entries' : List (ℕ × ℤ)) (roads' : List Road) : Type 0 where
  a_stock : length roads ≡ 0 → (s : ℕ × ℤ) → form ≡ stock_form s → Stocked n s → named entries s.0 ≡ false → entries' ≡ entries ++ (s ∷ []) → roads' ≡ roads
      → LineRead n m entries roads form entries' roads'
  an_arc : length roads < m → (r : Road) → form ≡ arc_form r → Ranged n r → Passable r → entries' ≡ entries → roads' ≡ roads ++ (r ∷ [])
      → LineRead n m entries roads form entries' roads'

-- what became of a line
abbrev pub LineTook : Draft → List ℕ → ℕ → Draft → Result (Unit {0}) Refusal → Type 0
LineTook d form place d' (Ok u) =
    (d'.sizes ≡ d.sizes) × ((entries : List (ℕ × ℤ)) (roads : List Road) → Holds d entries roads
    → (entries' : List (ℕ × ℤ)) × (roads' : List Road) × LineRead d.sizes.nodes d.sizes.arcs entries roads form entries' roads' × Holds d' entries' roads')
LineTook d form place d' (Err e) =
    (entries : List (ℕ × ℤ)) (roads : List Road) → Holds d entries roads → LineFault d.sizes.nodes d.sizes.arcs entries roads form place e

-- the lines from `place` on complete a consignment, which the draft then holds
pub record Completed (text : List ℕ) (d : Draft) : Type 0 where
  pub entries : List (ℕ × ℤ)
  pub roads : List Road
  pub begun : Begun text d.sizes.nodes d.sizes.arcs entries roads (length text)
  pub arcs : length roads ≡ d.sizes.arcs
  pub holds : Holds d entries roads

-- or have a first fault
pub data Stopped (text : List ℕ) (n m : ℕ) (e : Refusal) : Type 0 where
  no_end : (entries : List (ℕ × ℤ)) (roads : List Road) (place : ℕ) → Begun text n m entries roads place → NoLine text place → (place < length text) ⊎ (length roads < m)
      → SaysAt e 10 (length text) → Stopped text n m e
  bad_line : (entries : List (ℕ × ℤ)) (roads : List Road) (place : ℕ) → Begun text n m entries roads place → (form : List ℕ) → LineAt text place form
      → LineFault n m entries roads form place e → Stopped text n m e

abbrev pub LinesTook : List ℕ → Draft → Draft → Result (Unit {0}) Refusal → Type 0
LinesTook text d d' (Ok u) = (d'.sizes ≡ d.sizes) × Completed text d'
LinesTook text d d' (Err e) = Stopped text d.sizes.nodes d.sizes.arcs e
