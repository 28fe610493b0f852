-- What passes the test of certificates is the full list.
use Rattle.std.proofs.Common.{◌≡◌, T, List, [], ◌∷◌, map, ℤ, pos, ◌-ℤ◌, ◌≤ℤ◌, ◌<ℤ◌, Some, None, Option, subst, arith}
use lib.Signed.{lt_z}
use Rattle.std.proofs.lemmas.Int.{ints}
use Rattle.network.specs.Limits.{max_reach}
use Rattle.network.specs.Net.{Net, Lawful}
use Rattle.worths.specs.Kinds.{plain, ranked, Pair}
use Rattle.plane.proofs.Chains.{chain_of}
use Rattle.plane.specs.Lists.{Turn, Sharp, Chain}
use Rattle.plane.specs.Points.{first, second, weigh, Least}
use Rattle.flows.specs.Certificate.{Place, Step, prices_of, pairs_of, is_sharp, turning, is_step, are_steps, CertificateStands}
use Rattle.flows.specs.Flows.{Flow, Points, point}
use Rattle.flows.specs.Prices.{weighed, by_first, by_second}
use Rattle.flows.specs.Tests.{is_flow_of, is_fit}
use Rattle.flows.proofs.Prices.{lightest_by_prices, opening_by_prices, closing_by_prices, points_within}
use Rattle.flows.proofs.Tests.{both, point_by, fit_by}

module _ (n : Net) (ok : Lawful n) where
  -- the place has a flow of its point
  abbrev Sound : Place → Type 0
  Sound a = Flow n a.flow × (point n a.flow ≡ a.point)

  is_point : (a : Place) → Sound a → Points n a.point
  is_point a f = record { flow = a.flow; flows = f.0; here = f.1 }

  -- what one step shows
  record Shown (a : Place) (before : Option Pair) (s : Step) : Type 0 where
    sound : Sound s.place
    turn : Turn (Points n) a.point s.place.point
    sharp : T (is_sharp before (turning a s.place))

  shown : (a : Place) → Sound a → (before : Option Pair) (s : Step) → T (is_step n a before s) → Shown a before s
  shown a f before s t =
      let p = (turning a s.place).0 in
      let q = (turning a s.place).1 in
      let u = both (is_flow_of n s.place.point s.place.flow) _ t in
      let v = both (lt_z (pos 0) p) _ u.1 in
      let w = both (lt_z (pos 0) q) _ v.1 in
      let y = both (is_sharp before (turning a s.place)) _ w.1 in
      let z = both (is_fit plain n.roads (weighed n p q) (prices_of s.prices) a.flow) _ y.1 in
      record {
        sound = point_by n s.place.point s.place.flow u.0;
        turn = record {
          right = above_right a.point.0 s.place.point.0 w.0;
          below = above_right s.place.point.1 a.point.1 v.0;
          lightest = λ c h. subst (λ b. weigh p q b ≤ℤ weigh p q c) f.1
              (lightest_by_prices n ok p q (prices_of s.prices) a.flow f.0 (fit_by plain n.roads (weighed n p q) (prices_of s.prices) a.flow z.0) c h);
        };
        sharp = y.0;
      }
    where
      above_right : (b c : ℤ) → T (lt_z (pos 0) (c -ℤ b)) → b <ℤ c
      above_right b c h = omega (arith, ints)

  -- the next step, if there is one, turns strictly from this one
  sharp_next : (a b : Place) (steps : List Step) (closing : List Pair) → T (are_steps n b (Some (turning a b)) steps closing) → Sharp a.point b.point (map (λ s. s.place.point) steps)
  sharp_next a b [] closing t = tt
  sharp_next a b (s ∷ steps) closing t =
      let u = both (is_step n b (Some (turning a b)) s) _ t in
      let v = both (is_flow_of n s.place.point s.place.flow) _ u.0 in
      let w = both (lt_z (pos 0) (turning b s.place).0) _ v.1 in
      let x = both (lt_z (pos 0) (turning b s.place).1) _ w.1 in
      let y = both (is_sharp (Some (turning a b)) (turning b s.place)) _ x.1 in
      record { lt = y.0 }

  chain : (a : Place) → Sound a → (before : Option Pair) (steps : List Step) (closing : List Pair) → T (are_steps n a before steps closing)
      → Chain (Points n) a.point (map (λ s. s.place.point) steps)
  chain a f before [] closing t =
      subst (Least (Points n) second first) f.1 (closing_by_prices n ok (pairs_of closing) a.flow f.0 (fit_by ranked n.roads (by_second n) (pairs_of closing) a.flow t))
  chain a f before (s ∷ steps) closing t =
      let u = both (is_step n a before s) _ t in
      let g = shown a f before s u.0 in
      (is_point s.place g.sound, g.turn, sharp_next a s.place steps closing u.1, chain s.place g.sound (Some (turning a s.place)) steps closing u.1)

pub certificate_stands : CertificateStands
certificate_stands n ok c t =
    let u = both (is_flow_of n c.start.point c.start.flow) _ t in
    let v = both (is_fit ranked n.roads (by_first n) (pairs_of c.opening) c.start.flow) _ u.1 in
    let f = point_by n c.start.point c.start.flow u.0 in
    chain_of (Points n) max_reach c.start.point (map (λ s. s.place.point) c.further) (points_within n ok)
    (subst (Least (Points n) first second) f.1
    (opening_by_prices n ok (pairs_of c.opening) c.start.flow f.0 (fit_by ranked n.roads (by_first n) (pairs_of c.opening) c.start.flow v.0)))
    (chain n ok c.start f None c.further c.closing v.1)
