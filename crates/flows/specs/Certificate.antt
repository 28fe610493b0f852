-- A certificate that some points are the full list of a network, and its test. Prices prove each corner and that none is missing; no engine is trusted.
use Rattle.std.specs.Prelude.{ℕ, Bool, true, ◌&&◌, T, List, [], ◌∷◌, map, ℤ, pos, ◌*ℤ◌, Some, None, Option, int_lt, slice_index_or}
use Rattle.network.specs.Net.{Net, Lawful}
use Rattle.worths.specs.Kinds.{plain, ranked, Pair}
use Rattle.plane.specs.Points.{Point, turn_p, turn_q}
use Rattle.plane.specs.Lists.{Full}
use Rattle.flows.specs.Flows.{Points}
use Rattle.flows.specs.Prices.{weighed, by_first, by_second}
use Rattle.flows.specs.Tests.{is_flow_of, is_fit}

-- a corner, with a flow of it
pub record Place : Type 0 where
  pub point : Point
  pub flow : List ℕ

-- a further corner, with prices at the turning weights that fit its flow and that of the corner before
pub record Step : Type 0 where
  pub place : Place
  pub prices : List ℤ

-- the first corner with prices for (first cost, second cost), the further ones, and prices for (second cost, first cost) at the last
pub record Certificate : Type 0 where
  pub start : Place
  pub opening : List Pair
  pub further : List Step
  pub closing : List Pair

abbrev pub prices_of : List ℤ → ℕ → ℤ
prices_of row v = slice_index_or row v (pos 0)

abbrev pub pairs_of : List Pair → ℕ → Pair
pairs_of row v = slice_index_or row v (pos 0, pos 0)

-- these weights turn strictly from the ones before, if there were some
abbrev pub is_sharp : Option Pair → Pair → Bool
is_sharp None w = true
is_sharp (Some v) w = int_lt (w.0 *ℤ v.1) (v.0 *ℤ w.1)

abbrev pub turning : Place → Place → Pair
turning a b = (turn_p a.point b.point, turn_q a.point b.point)

-- one line after another: the place and the weights before are all that has to be remembered
abbrev pub is_step : Net → Place → Option Pair → Step → Bool
is_step n a before s = is_flow_of n s.place.point s.place.flow && (int_lt (pos 0) (turning a s.place).0 && (int_lt (pos 0) (turning a s.place).1 && (is_sharp before (turning a s.place)
    && (is_fit plain n.roads (weighed n (turning a s.place).0 (turning a s.place).1) (prices_of s.prices) a.flow
    && is_fit plain n.roads (weighed n (turning a s.place).0 (turning a s.place).1) (prices_of s.prices) s.place.flow))))

abbrev pub are_steps : Net → Place → Option Pair → List Step → List Pair → Bool
are_steps n a before [] closing = is_fit ranked n.roads (by_second n) (pairs_of closing) a.flow
are_steps n a before (s ∷ steps) closing = is_step n a before s && are_steps n s.place (Some (turning a s.place)) steps closing

abbrev pub is_certificate : Net → Certificate → Bool
is_certificate n c = is_flow_of n c.start.point c.start.flow && (is_fit ranked n.roads (by_first n) (pairs_of c.opening) c.start.flow
    && are_steps n c.start None c.further c.closing)

abbrev pub points_of : Certificate → List Point
points_of c = c.start.point ∷ map (λ s. s.place.point) c.further

-- what passes the test is the full list
abbrev pub CertificateStands : Type 0
CertificateStands = (n : Net) → Lawful n → (c : Certificate) → T (is_certificate n c) → Full (Points n) (points_of c)
