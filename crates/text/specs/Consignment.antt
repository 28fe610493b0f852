-- When a text is a consignment.
use Rattle.std.specs.Prelude.{◌≡◌, ℕ, ◌<◌, ◌≤◌, Bool, false, cond, ◌||◌, List, [], ◌∷◌, ◌++◌, length, ℤ, pos, codes, decimal, ◌==◌, slice_index_or}
use Rattle.std.specs.List.{flat_map, AllByRecursion}
use Rattle.std.specs.Fmt.{signed_decimal}
use Rattle.network.specs.Limits.{max_nodes, max_arcs, max_stock}
use Rattle.network.specs.Roads.{Near, Ranged, Passable}
use Rattle.network.specs.declared.road.Road.{Road}

-- `(a b)` and then the rest
abbrev pub paired : List ℕ → List ℕ → List ℕ → List ℕ
paired a b rest = 40 ∷ (a ++ (32 ∷ (b ++ (41 ∷ rest))))

-- `(net N M)`
abbrev pub net_form : ℕ → ℕ → List ℕ
net_form n m = codes "(net " ++ (decimal n ++ (32 ∷ (decimal m ++ (41 ∷ []))))

-- `(stock I B)`
abbrev pub stock_form : (ℕ × ℤ) → List ℕ
stock_form e = codes "(stock " ++ (decimal e.0 ++ (32 ∷ (signed_decimal e.1 ++ (41 ∷ []))))

-- `(arc (T H) (L U) (C D))`
abbrev pub arc_form : Road → List ℕ
arc_form r = codes "(arc " ++ paired (decimal r.tail) (decimal r.head) (32 ∷ paired (decimal r.least) (decimal r.most) (32 ∷ paired (signed_decimal r.first) (signed_decimal r.second) (41 ∷ [])))

-- a form on its line
abbrev pub ended : List ℕ → List ℕ
ended form = form ++ (10 ∷ [])

-- the first line, then the stocks, then the arcs
abbrev pub text_of : ℕ → ℕ → List (ℕ × ℤ) → List Road → List ℕ
text_of n m entries roads = ended (net_form n m) ++ (flat_map (λ e. ended (stock_form e)) entries ++ flat_map (λ r. ended (arc_form r)) roads)

-- numbers that the first line may have
pub record Sized (n m : ℕ) : Type 0 where
  pub some : 0 < n
  pub nodes : n ≤ max_nodes
  pub arcs : m ≤ max_arcs

-- numbers that the line of a stock may have
pub record Stocked (nodes : ℕ) (e : ℕ × ℤ) : Type 0 where
  pub node : e.0 < nodes
  pub amount : Near max_stock e.1

-- whether an entry names the node
abbrev pub named : List (ℕ × ℤ) → ℕ → Bool
named [] i = false
named (e ∷ es) i = e.0 == i || named es i

-- no node is named twice
abbrev pub Once : List (ℕ × ℤ) → Type 0
Once [] = Unit {0}
Once (e ∷ es) = (named es e.0 ≡ false) × Once es

-- a node's stock: what its entry says, and 0 where it has none
abbrev pub stock_of : List (ℕ × ℤ) → ℕ → ℤ
stock_of [] i = pos 0
stock_of (e ∷ es) i = cond (e.0 == i) e.1 (stock_of es i)

-- stocks and roads that lines may name
pub record Fitting (n : ℕ) (entries : List (ℕ × ℤ)) (roads : List Road) : Type 0 where
  pub stocked : AllByRecursion (Stocked n) entries
  pub once : Once entries
  pub ranged : AllByRecursion (Ranged n) roads
  pub passable : AllByRecursion Passable roads

-- the text is this consignment: its lines written out, the stocks in any order, each node at most once, and just as many arcs as it says
pub record IsConsignment (text : List ℕ) (n m : ℕ) (stocks : List ℤ) (roads : List Road) : Type 0 where
  pub entries : List (ℕ × ℤ)
  pub sized : Sized n m
  pub is : text ≡ text_of n m entries roads
  pub fitting : Fitting n entries roads
  pub arcs : length roads ≡ m
  pub nodes : length stocks ≡ n
  pub stock : (i : ℕ) → i < n → slice_index_or stocks i (pos 0) ≡ stock_of entries i
