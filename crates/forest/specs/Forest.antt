-- A forest of residual steps: each node has a step to its parent, or is a root.
use Rattle.std.specs.Prelude.{◌≡◌, ℕ, ◌<◌, ◌≢◌, ◌⊎◌, List, length, ℤ, pos, Some, None, Option, slice_index_or}
use Rattle.network.specs.Arcs.{road_at}
use Rattle.network.specs.declared.road.Road.{Road}
use Rattle.residual.specs.Steps.{start, finish, flip, slack}
use Rattle.residual.specs.declared.step.Step.{Step}

-- ---- parents, whatever they are by

-- the way from v by parents comes to a root
pub data Rooted (up : ℕ → Option ℕ) : ℕ → Type 0 where
  top : {v : ℕ} → up v ≡ None → Rooted up v
  under : {v p : ℕ} → up v ≡ Some p → Rooted up p → Rooted up v

-- t is on the way of v: v is t or hangs below it
pub data On (up : ℕ → Option ℕ) (t : ℕ) : ℕ → Type 0 where
  here : On up t t
  above : {v p : ℕ} → up v ≡ Some p → On up t p → On up t v

-- ---- links

-- a row of links as a link for each node: a root past its end
abbrev pub link_of : List (Option Step) → ℕ → Option Step
link_of links v = slice_index_or links v None

abbrev pub parent : List Road → Option Step → Option ℕ
parent roads (Some s) = Some (finish roads s)
parent roads None = None

abbrev pub ups : List Road → (ℕ → Option Step) → ℕ → Option ℕ
ups roads links v = parent roads (links v)

-- every way comes to a root, and each link is a step from its node
pub record Linked (roads : List Road) (links : ℕ → Option Step) : Type 0 where
  pub rooted : (v : ℕ) → Rooted (ups roads links) v
  pub starts : (v : ℕ) (s : Step) → links v ≡ Some s → start roads s ≡ v
  pub inside : (v : ℕ) (s : Step) → links v ≡ Some s → s.arc < length roads

-- the ends of the roads are nodes below a number
pub record EndsIn (nodes : ℕ) (roads : List Road) : Type 0 where
  pub tail : (a : ℕ) → a < length roads → (road_at roads a).tail < nodes
  pub head : (a : ℕ) → a < length roads → (road_at roads a).head < nodes

-- links have slack zero, and roots the price zero, in one part of worths and prices
abbrev pub Tight : List Road → (ℕ → ℤ) → (ℕ → ℤ) → (ℕ → Option Step) → Type 0
Tight roads w price links = (v : ℕ) (s : Step) → links v ≡ Some s → slack roads w price s ≡ pos 0

abbrev pub Ground : (ℕ → ℤ) → (ℕ → Option Step) → Type 0
Ground price links = (v : ℕ) → links v ≡ None → price v ≡ pos 0

-- u lies on the way from v up to t, both included
abbrev pub Between : (ℕ → Option ℕ) → ℕ → ℕ → ℕ → Type 0
Between up v t u = On up u v × On up t u

-- ---- hanging a part elsewhere: the part below t, held at v, now hangs by the step s, and the way from v to t is turned round

-- what a link of the new forest is: the step itself at v; a link of the old one off that way; or a link of the way, the other way
abbrev pub LinkAfter : List Road → (ℕ → Option Step) → ℕ → ℕ → Step → ℕ → Step → Type 0
LinkAfter roads links t v s u l =
    ((u ≡ v) × (l ≡ s))
    ⊎ (((links u ≡ Some l) × (Between (ups roads links) v t u → ⊥))
    ⊎ ((p : ℕ) × (k : Step) × (links p ≡ Some k) × Between (ups roads links) v t p × (p ≢ t) × (finish roads k ≡ u) × (l ≡ flip k)))

pub record Turned (roads : List Road) (links : ℕ → Option Step) (t v : ℕ) (s : Step) (links' : ℕ → Option Step) : Type 0 where
  pub linked : Linked roads links'
  pub each : (u : ℕ) (l : Step) → links' u ≡ Some l → LinkAfter roads links t v s u l
  pub roots : (u : ℕ) → links' u ≡ None → (links u ≡ None) × (u ≢ t)
