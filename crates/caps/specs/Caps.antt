-- What a row of caps says of each arc, and what a new cap asks of it.
use Rattle.std.specs.Prelude.{◌≡◌, ℕ, ◌<◌, ◌≤◌, Bool, true, false, cond, not, ◌&&◌, List, length, Some, None, count_by, Option, Result, MatchResult, ◌==◌, nat_le, nat_lt, slice_index_or, slice_set, find, position, is_none, option_map, IsSome, codes}
use Rattle.std.specs.List.{slice_get}
use Rattle.std.specs.Option.{option_flatten, option_or}
use Rattle.network.specs.Capped.{within, bounded_from}
use Rattle.network.specs.Net.{Net}
use Rattle.network.specs.Refusals.{Says}
use Rattle.network.specs.Roads.{with_most}
use Rattle.network.specs.declared.refusal.Refusal.{Refusal}
use Rattle.network.specs.declared.road.Road.{Road}
use Rattle.caps.specs.declared.places.CapEntry.{CapEntry}
use Rattle.caps.specs.declared.table.AddError.{AddError}
use Rattle.caps.specs.declared.table.AddError.TheVariants.{NoArc, Named, Full}

-- places of a table
abbrev pub place_count : ℕ
place_count = 64

-- the place has an entry for the arc; a free place names no arc
abbrev pub names : ℕ → Option CapEntry → Bool
names a None = false
names a (Some e) = e.arc == a

-- the amount of the first entry that names the arc
abbrev pub cap_of : List (Option CapEntry) → ℕ → Option ℕ
cap_of ps a = option_map (λ e. e.amount) (option_flatten (find (names a) ps))

-- no arc stands in two places
abbrev pub Once : List (Option CapEntry) → Type 0
Once ps = (a i j : ℕ) → i < j → names a (slice_index_or ps i None) ≡ true → names a (slice_index_or ps j None) ≡ true → ⊥

-- what every table keeps
pub record IsTable (ps : List (Option CapEntry)) : Type 0 where
  pub full : length ps ≡ place_count
  pub once : Once ps

-- the greatest number of 16 bits is no arc of any network
abbrev pub no_arc : ℕ
no_arc = 65535

-- an entry for an arc that had none stands in the lowest free place
abbrev pub Added : List (Option CapEntry) → List (Option CapEntry) → CapEntry → Type 0
Added ps ps' e = (e.arc < no_arc) × (position (names e.arc) ps ≡ None) × ((p : ℕ) × (position is_none ps ≡ Some p) × (ps' ≡ slice_set ps p (Some e)))

-- the number is no arc, or the arc has an entry already, or it has none and no place is free
abbrev pub NotAdded : List (Option CapEntry) → ℕ → AddError → Type 0
NotAdded ps a NoArc = a ≡ no_arc
NotAdded ps a Named = IsSome (position (names a) ps)
NotAdded ps a Full = (position (names a) ps ≡ None) × (position is_none ps ≡ None)

abbrev pub add_error_text : AddError → List ℕ
add_error_text NoArc = codes "no network has an arc of this number"
add_error_text Named = codes "the arc has an entry already"
add_error_text Full = codes "no place is free"

-- the amount caps nothing there: no such arc, or not an amount that it may carry
abbrev pub nothing_at : Option Road → ℕ → Bool
nothing_at None u = true
nothing_at (Some r) u = not (within r u)

-- the place is free, or its entry caps nothing over these roads
abbrev pub idle : List Road → Option CapEntry → Bool
idle roads None = true
idle roads (Some e) = nothing_at (slice_get roads e.arc) e.amount

-- the place has an entry that caps another arc than this one
abbrev pub caps_other : List Road → ℕ → Option CapEntry → Bool
caps_other roads a p = not (idle roads p) && not (names a p)

-- the number of the refusal of a cap on the road, where so many other arcs are capped
abbrev pub fault_at : ℕ → Option Road → ℕ → Option ℕ
fault_at others None u = Some 1
fault_at others (Some r) u = cond (within r u) (cond (nat_lt u r.most && nat_le place_count others) (Some 3) None) (Some 2)

-- the number of the refusal of a cap, the first whose condition holds
abbrev pub cap_fault : List (Option CapEntry) → List Road → ℕ → ℕ → Option ℕ
cap_fault ps roads a u = fault_at (count_by (caps_other roads a) ps) (slice_get roads a) u

-- the place that a cap below the most takes: the arc's own, else the lowest that is free or whose entry caps nothing
abbrev pub place_for : List (Option CapEntry) → List Road → ℕ → Option ℕ
place_for ps roads a = option_or (position (names a) ps) (position (idle roads) ps)

-- what a cap on the road of an arc leaves: the arc's most is the amount, an entry stands only for an amount below the most, every entry that caps another arc stays, and one place at most is written
pub record Recapped (ps ps' : List (Option CapEntry)) (roads : List Road) (a u : ℕ) (r : Road) : Type 0 where
  pub meant : bounded_from (cap_of ps') 0 roads ≡ slice_set (bounded_from (cap_of ps) 0 roads) a (with_most r u)
  pub own : cap_of ps' a ≡ cond (nat_lt u r.most) (Some u) None
  pub others : (k : ℕ) → k < place_count → caps_other roads a (slice_index_or ps k None) ≡ true → slice_index_or ps' k None ≡ slice_index_or ps k None
  pub placed : u < r.most → (p : ℕ) → place_for ps roads a ≡ Some p → ps' ≡ slice_set ps p (Some (record { arc = a; amount = u }))
  pub freed : u ≡ r.most → (p : ℕ) → position (names a) ps ≡ Some p → ps' ≡ slice_set ps p None
  pub left : u ≡ r.most → position (names a) ps ≡ None → ps' ≡ ps

-- the answer of a cap: none where there is no fault, else the refusal of its number
abbrev pub Answers : Result (Unit {0}) Refusal → Option ℕ → Type 0
Answers res fault = MatchResult res (λ _. fault ≡ None) (λ e. (k : ℕ) × (fault ≡ Some k) × Says e k)

-- what a cap does: a refusal leaves the same
abbrev pub Does : Result (Unit {0}) Refusal → List (Option CapEntry) → List (Option CapEntry) → List Road → ℕ → ℕ → Type 0
Does res ps ps' roads a u = MatchResult res (λ _. (r : Road) → slice_get roads a ≡ Some r → Recapped ps ps' roads a u r) (λ _. ps' ≡ ps)

-- the network with another road for an arc
abbrev pub with_road : Net → ℕ → Road → Net
with_road n a r = record { stocks = n.stocks; roads = slice_set n.roads a r; fixed = n.fixed }

-- what a cap on an arc of the roads below does to the network under the caps
abbrev pub Means : Result (Unit {0}) Refusal → Net → Net → List Road → ℕ → ℕ → Type 0
Means res before after roads a u = MatchResult res (λ _. (r : Road) → slice_get roads a ≡ Some r → after ≡ with_road before a (with_most r u)) (λ _. after ≡ before)

-- what a cap below the most does: it is refused only where every place caps another arc
abbrev pub Lowers : Result (Unit {0}) Refusal → List (Option CapEntry) → List (Option CapEntry) → List Road → ℕ → ℕ → Road → Type 0
Lowers res ps ps' roads a u r =
    MatchResult res (λ _. (count_by (caps_other roads a) ps < place_count) × Recapped ps ps' roads a u r) (λ e. (place_count ≤ count_by (caps_other roads a) ps) × Says e 3 × (ps' ≡ ps))
