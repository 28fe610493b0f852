-- What is proved of corners, for the points that any predicate P allows.
use Rattle.std.specs.Prelude.{◌≡◌, ℕ, List, [], ◌∷◌, ◌++◌, map, reverse, ℤ, pos, ◌+ℤ◌, ◌*ℤ◌, ◌≤ℤ◌, ◌<ℤ◌}
use Rattle.plane.specs.Points.{Point, first, second, swap, weigh, turn_p, turn_q, Corner, Least, Lightest, Within}
use Rattle.plane.specs.Lists.{Full, Upto, Front, Heads, Ends, After, Candidate, Listed, Turn, Chain}

-- two weights that tell every two points apart, and of which neither cost goes unweighed
pub record Telling (p q r s : ℤ) : Type 0 where
  pub p_from : pos 0 ≤ℤ p
  pub q_from : pos 0 ≤ℤ q
  pub r_from : pos 0 ≤ℤ r
  pub s_from : pos 0 ≤ℤ s
  pub first_counts : pos 0 <ℤ (p +ℤ r)
  pub second_counts : pos 0 <ℤ (q +ℤ s)
  pub apart : ¬ (p *ℤ s ≡ q *ℤ r)

-- the lexicographic minimum by two such weights is a corner
abbrev pub MinimumOf : (Point → Type 0) → Type 0
MinimumOf P = (B : ℕ) (p q r s : ℤ) (z : Point) → Within B P → Telling p q r s → Least P (weigh p q) (weigh r s) z → Corner P z

-- the minimum by (first, second) is a corner and heads the full list
abbrev pub FirstOf : (Point → Type 0) → Type 0
FirstOf P = (B : ℕ) (z : Point) → Within B P → Least P first second z → Corner P z × ((l : List Point) → Full P l → Heads z l)

-- the minimum by (second, first) is a corner and ends it
abbrev pub LastOf : (Point → Type 0) → Type 0
LastOf P = (B : ℕ) (z : Point) → Within B P → Least P second first z → Corner P z × ((l : List Point) → Full P l → Ends z l)

-- what Weigh gives is a corner, and is one
abbrev pub LightestOf : (Point → Type 0) → Type 0
LightestOf P = (B : ℕ) (p q : ℤ) (z : Point) → Within B P → pos 0 ≤ℤ p → pos 0 ≤ℤ q → pos 0 <ℤ (p +ℤ q) → Lightest P p q z → Corner P z

abbrev pub LightestOneOf : (Point → Type 0) → Type 0
LightestOneOf P = (p q : ℤ) (y z : Point) → Lightest P p q y → Lightest P p q z → y ≡ z

-- it is the minimum by (weight, first), or by (weight, second) where the second cost weighs nothing
abbrev pub WeighOf : (Point → Type 0) → Type 0
WeighOf P = (p q : ℤ) (z : Point) → pos 0 <ℤ q → Least P (weigh p q) first z → Lightest P p q z

abbrev pub WeighFirstOf : (Point → Type 0) → Type 0
WeighFirstOf P = (p : ℤ) (z : Point) → pos 0 <ℤ p → Least P (weigh p (pos 0)) second z → Lightest P p (pos 0) z

-- a point that is least by (weight, second) at its own turning weights from a is the corner after a
abbrev pub StepOf : (Point → Type 0) → Type 0
StepOf P = (B : ℕ) (a c : Point) → Within B P → P a → a.0 <ℤ c.0 → c.1 <ℤ a.1
    → Least P (weigh (turn_p a c) (turn_q a c)) second c → After P a c

-- the search begins at the last corner
abbrev pub StartOf : (Point → Type 0) → Type 0
StartOf P = (a e : Point) → Corner P a → Least P second first e → ¬ (e ≡ a) → Candidate P a e

-- one turn of it: c is the candidate again, or a nearer one
abbrev pub SearchOf : (Point → Type 0) → Type 0
SearchOf P = (a b c : Point) → Corner P a → Candidate P a b → Least P (weigh (turn_p a b) (turn_q a b)) second c
    → (weigh (turn_p a b) (turn_q a b) c ≡ weigh (turn_p a b) (turn_q a b) a → c ≡ b)
    × (weigh (turn_p a b) (turn_q a b) c <ℤ weigh (turn_p a b) (turn_q a b) a → Candidate P a c × (c.0 <ℤ b.0))

-- the full list so far: its start, one corner more, its end; it begins every full list
abbrev pub BeginsOf : (Point → Type 0) → Type 0
BeginsOf P = (B : ℕ) (z : Point) → Within B P → Least P first second z → Upto P (z ∷ []) z

abbrev pub GoesOnOf : (Point → Type 0) → Type 0
GoesOnOf P = (l : List Point) (a c : Point) → Upto P l a → After P a c → Upto P (l ++ (c ∷ [])) c

abbrev pub FinishesOf : (Point → Type 0) → Type 0
FinishesOf P = (l : List Point) (a : Point) → Upto P l a → Least P second first a → Full P l

abbrev pub FrontOf : (Point → Type 0) → Type 0
FrontOf P = (g l : List Point) (a : Point) → Upto P g a → Full P l → Front g l

-- there is a full list, and one only; it is empty exactly where there is no point
abbrev pub ExistsOf : (Point → Type 0) → Type 0
ExistsOf P = (B : ℕ) → Within B P → Listed P → (l : List Point) × Full P l

abbrev pub UniqueOf : (Point → Type 0) → Type 0
UniqueOf P = (l m : List Point) → Full P l → Full P m → l ≡ m

abbrev pub EmptyOf : (Point → Type 0) → Type 0
EmptyOf P = (B : ℕ) → Within B P → Listed P → (Full P [] → (z : Point) → P z → ⊥) × (((z : Point) → P z → ⊥) → Full P [])

-- neighbours of the full list are both lightest at their turning weights
abbrev pub TurnsOf : (Point → Type 0) → Type 0
TurnsOf P = (B : ℕ) → Within B P → Listed P → (l u v : List Point) (a b : Point) → Full P l → l ≡ u ++ (a ∷ b ∷ v) → Turn P a b

-- a chain of turns from the minimum by (first, second) is the full list
abbrev pub ChainOf : (Point → Type 0) → Type 0
ChainOf P = (B : ℕ) (a : Point) (l : List Point) → Within B P → Least P first second a → Chain P a l → Full P (a ∷ l)

-- the same points have the same full list; exchanged points have it exchanged, from last to first
abbrev pub SameOf : (Point → Type 0) → (Point → Type 0) → Type 0
SameOf P Q = ((z : Point) → P z → Q z) → ((z : Point) → Q z → P z) → (l : List Point) → Full P l → Full Q l

abbrev pub ExchangeOf : (Point → Type 0) → (Point → Type 0) → Type 0
ExchangeOf P Q = ((z : Point) → P z → Q (swap z)) → ((z : Point) → Q z → P (swap z)) → (l : List Point) → Full P l → Full Q (reverse (map swap l))

pub record FactsOf (P Q : Point → Type 0) : Type 0 where
  pub minimum_of : MinimumOf P
  pub first_of : FirstOf P
  pub last_of : LastOf P
  pub lightest_of : LightestOf P
  pub lightest_one_of : LightestOneOf P
  pub weigh_of : WeighOf P
  pub weigh_first_of : WeighFirstOf P
  pub step_of : StepOf P
  pub start_of : StartOf P
  pub search_of : SearchOf P
  pub begins_of : BeginsOf P
  pub goes_on_of : GoesOnOf P
  pub finishes_of : FinishesOf P
  pub front_of : FrontOf P
  pub exists_of : ExistsOf P
  pub unique_of : UniqueOf P
  pub empty_of : EmptyOf P
  pub turns_of : TurnsOf P
  pub chain_of : ChainOf P
  pub same_of : SameOf P Q
  pub exchange_of : ExchangeOf P Q
