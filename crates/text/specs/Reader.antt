-- What reading a text answers, and what it leaves in the rows.
use Rattle.std.specs.Prelude.{◌≡◌, ℕ, ◌≤◌, List, ◌++◌, length, drop, ℤ, None, Ok, Err, Result}
use Rattle.network.specs.Limits.{max_text}
use Rattle.network.specs.Tested.{row_fault}
use Rattle.network.specs.declared.refusal.Refusal.{Refusal}
use Rattle.network.specs.declared.road.Road.{Road}
use Rattle.text.specs.declared.sizes.Sizes.{Sizes}
use Rattle.text.specs.Consignment.{net_form, Sized, IsConsignment}
use Rattle.text.specs.Refused.{FirstFault, Refused}

-- these rows begin with the consignment, and the rest of each is as it was
pub record Filled (n m : ℕ) (stocks : List ℤ) (roads : List Road) (road_row road_row' : List Road) (stock_row stock_row' : List ℤ) : Type 0 where
  pub roads_is : road_row' ≡ roads ++ drop m road_row
  pub stocks_is : stock_row' ≡ stocks ++ drop n stock_row

-- the text is a consignment, and now stands in the rows
pub record Taken (text : List ℕ) (n m : ℕ) (road_row road_row' : List Road) (stock_row stock_row' : List ℤ) : Type 0 where
  pub short : length text ≤ max_text
  pub road_room : m ≤ length road_row
  pub stock_room : n ≤ length stock_row
  pub stocks : List ℤ
  pub roads : List Road
  pub consignment : IsConsignment text n m stocks roads
  -- a table over these rows passes its test, so it means this consignment
  pub tested : row_fault roads stocks ≡ None
  pub filled : Filled n m stocks roads road_row road_row' stock_row stock_row'

-- the consignment, or the first fault and rows as they were
abbrev pub Outcome : List ℕ → List Road → List ℤ → Result Sizes Refusal → List Road → List ℤ → Type 0
Outcome text road_row stock_row (Ok s) road_row' stock_row' = Taken text s.nodes s.arcs road_row road_row' stock_row stock_row'
Outcome text road_row stock_row (Err e) road_row' stock_row' = Refused text (length road_row) (length stock_row) e × (road_row' ≡ road_row) × (stock_row' ≡ stock_row)

-- each text that is a consignment, and fits the limit and the rows, is read as that consignment
abbrev pub Accepts : List ℕ → List Road → List ℤ → Result Sizes Refusal → List Road → List ℤ → Type 0
Accepts text road_row stock_row r road_row' stock_row' =
    (n m : ℕ) (stocks : List ℤ) (roads : List Road) → length text ≤ max_text → m ≤ length road_row → n ≤ length stock_row → IsConsignment text n m stocks roads
    → (r ≡ Ok (record { nodes = n; arcs = m })) × Filled n m stocks roads road_row road_row' stock_row stock_row'

-- each text that has a first fault is refused for it
abbrev pub Refuses : List ℕ → List Road → List ℤ → Result Sizes Refusal → Type 0
Refuses text road_row stock_row r = (e : Refusal) → Refused text (length road_row) (length stock_row) e → r ≡ Err e

-- the whole promise of a reader
pub record Answered (text : List ℕ) (road_row : List Road) (stock_row : List ℤ) (r : Result Sizes Refusal) (road_row' : List Road) (stock_row' : List ℤ) : Type 0 where
  pub outcome : Outcome text road_row stock_row r road_row' stock_row'
  pub accepts : Accepts text road_row stock_row r road_row' stock_row'
  pub refuses : Refuses text road_row stock_row r

-- what the first line says, or what is wrong with it
abbrev pub FirstRead : List ℕ → Result Sizes Refusal → Type 0
FirstRead form (Ok s) = (form ≡ net_form s.nodes s.arcs) × Sized s.nodes s.arcs
FirstRead form (Err e) = FirstFault form e
