-- The number of each refusal, and its place where it has one.
use Rattle.std.specs.Prelude.{◌≡◌, ℕ, List, [], ◌++◌, Some, None, codes, decimal, Option}
use Rattle.network.specs.declared.refusal.Refusal.{Refusal}
use Rattle.network.specs.declared.refusal.Refusal.TheVariants.{NoSuchArc, CapRange, CapsFull, Weights, FlowRow, PriceRow, WorkRow, NoFlow, TextSize, Form, Number, Impassable, NamedTwice, TextRows, LineRow}

abbrev pub number_of : Refusal → ℕ
number_of NoSuchArc = 1
number_of CapRange = 2
number_of CapsFull = 3
number_of Weights = 4
number_of FlowRow = 5
number_of PriceRow = 6
number_of WorkRow = 7
number_of NoFlow = 8
number_of TextSize = 9
number_of (Form p) = 10
number_of (Number p) = 11
number_of (Impassable p) = 12
number_of (NamedTwice p) = 13
number_of TextRows = 14
number_of LineRow = 15

abbrev pub place_of : Refusal → Option ℕ
place_of NoSuchArc = None
place_of CapRange = None
place_of CapsFull = None
place_of Weights = None
place_of FlowRow = None
place_of PriceRow = None
place_of WorkRow = None
place_of NoFlow = None
place_of TextSize = None
place_of (Form p) = Some p
place_of (Number p) = Some p
place_of (Impassable p) = Some p
place_of (NamedTwice p) = Some p
place_of TextRows = None
place_of LineRow = None

-- the refusal has this number and no place
abbrev pub Says : Refusal → ℕ → Type 0
Says e k = (number_of e ≡ k) × (place_of e ≡ None)

-- the refusal has this number, at this place
abbrev pub SaysAt : Refusal → ℕ → ℕ → Type 0
SaysAt e k p = (number_of e ≡ k) × (place_of e ≡ Some p)

-- a space and the place, where there is one
abbrev pub placed : Option ℕ → List ℕ
placed None = []
placed (Some p) = codes " " ++ decimal p

-- `(refused K)` or `(refused K P)`
abbrev pub refusal_form : Refusal → List ℕ
refusal_form e = codes "(refused " ++ (decimal (number_of e) ++ (placed (place_of e) ++ codes ")"))
