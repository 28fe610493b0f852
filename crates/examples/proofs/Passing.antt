-- One test of a claim by its evidence, and what passing it shows.
use Rattle.std.proofs.Common.{◌≡◌, ℕ, zero, suc, Bool, true, false, ◌&&◌, ◌||◌, T, ◌⊎◌, List, [], ◌∷◌, get_or, ℤ, pos, ◌-ℤ◌, refl, subst, ap₂, inl, inr, arith}
use lib.Signed.{lt_z}
use Rattle.std.specs.List.{AllByRecursion}
use Rattle.std.proofs.lemmas.Int.{ints}
use Rattle.network.specs.Net.{Net, Lawful}
use Rattle.worths.specs.Kinds.{ranked, Pair}
use Rattle.plane.specs.Lists.{In, Full}
use Rattle.plane.specs.Points.{Point, Lightest}
use Rattle.flows.specs.Certificate.{Certificate, pairs_of, is_certificate, points_of}
use Rattle.flows.specs.Cuts.{over_leaving, over_entering, stock_in, most_of, least_of, Unserved}
use Rattle.flows.specs.Flows.{Flow, Points, point}
use Rattle.flows.specs.Prices.{by_weight_first, by_weight_second}
use Rattle.flows.specs.Tests.{is_same, is_same_point, is_flow_of, is_fit, is_lawful}
use Rattle.flows.proofs.Certificate.{certificate_stands}
use Rattle.flows.proofs.Cuts.{unserved_stands}
use Rattle.flows.proofs.Prices.{weighing_by_prices, weighing_first_by_prices}
use Rattle.flows.proofs.Tests.{both, same_by, same_point_by, point_by, fit_by, lawful_by}
use Rattle.examples.specs.Claims.{turns, Claim, cornered, unserved, lightest_at, PassedOver, Holds, Example, Stands}

-- ---- lists of points

abbrev are_same : List Point → List Point → Bool
are_same [] [] = true
are_same [] (z ∷ m) = false
are_same (y ∷ l) [] = false
are_same (y ∷ l) (z ∷ m) = is_same_point y z && are_same l m

same_list_by : (l m : List Point) → T (are_same l m) → l ≡ m
same_list_by [] [] t = refl
same_list_by [] (z ∷ m) t = absurd t
same_list_by (y ∷ l) [] t = absurd t
same_list_by (y ∷ l) (z ∷ m) t = let s = both (is_same_point y z) _ t in ap₂ (λ a b. a ∷ b) (same_point_by y z s.0) (same_list_by l m s.1)

-- two points differ in a cost, and a point from each of a list
abbrev is_off : Point → Point → Bool
is_off y z = (lt_z y.0 z.0 || lt_z z.0 y.0) || (lt_z y.1 z.1 || lt_z z.1 y.1)

abbrev is_out : Point → List Point → Bool
is_out z [] = true
is_out z (x ∷ l) = is_off z x && is_out z l

either_by : (a b : Bool) → T (a || b) → T a ⊎ T b
either_by a b t = grind (arith, ints)

apart_by : (a b : ℤ) → T (lt_z a b || lt_z b a) → a ≡ b → ⊥
apart_by a b t e = grind (arith, ints)

off_by : (y z : Point) → T (is_off y z) → y ≡ z → ⊥
off_by y z t e = grind (arith, ints)

out_by : (z : Point) (l : List Point) → T (is_out z l) → In z l → ⊥
out_by z [] t i = i
out_by z (x ∷ l) t (inl e) = off_by z x (both (is_off z x) _ t).0 e
out_by z (x ∷ l) t (inr i) = out_by z l (both (is_off z x) _ t).1 i

-- ---- the test

-- a certificate and a flow of each other point; a set of nodes; or a flow with ranked prices
abbrev pub Evidence : Claim → Type 0
Evidence (cornered l weights others) = Certificate × List (List ℕ)
Evidence unserved = List Bool
Evidence (lightest_at p q z) = List ℕ × List Pair

-- each is the point of its flow and stands outside the list
abbrev are_others : Net → List Point → List Point → List (List ℕ) → Bool
are_others n l [] xs = true
are_others n l (z ∷ others) [] = false
are_others n l (z ∷ others) (x ∷ xs) = (is_flow_of n z x && is_out z l) && are_others n l others xs

abbrev set_of : List Bool → ℕ → Bool
set_of row v = get_or row v false

abbrev is_too_much : Net → (ℕ → Bool) → Bool
is_too_much n S = lt_z (pos (over_leaving most_of n.roads S) -ℤ pos (over_entering least_of n.roads S)) (stock_in n.stocks S)

abbrev is_too_little : Net → (ℕ → Bool) → Bool
is_too_little n S = lt_z (stock_in n.stocks S) (pos (over_leaving least_of n.roads S) -ℤ pos (over_entering most_of n.roads S))

-- the prices are for (weight, first), or for (weight, second) where the second cost weighs nothing
abbrev is_fit_by_first : Net → ℤ → ℤ → List ℕ → List Pair → Bool
is_fit_by_first n p q x prices = lt_z (pos 0) q && is_fit ranked n.roads (by_weight_first n p q) (pairs_of prices) x

abbrev is_fit_by_second : Net → ℤ → ℤ → List ℕ → List Pair → Bool
is_fit_by_second n p q x prices = is_same (pos 0) q && (lt_z (pos 0) p && is_fit ranked n.roads (by_weight_second n p (pos 0)) (pairs_of prices) x)

abbrev passes : (n : Net) (k : Claim) → Evidence k → Bool
passes n (cornered l weights others) e = is_certificate n e.0 && (are_same (points_of e.0) l && (are_same (turns l) weights && are_others n l others e.1))
passes n unserved row = is_too_much n (set_of row) || is_too_little n (set_of row)
passes n (lightest_at p q z) e = is_flow_of n z e.0 && (is_fit_by_first n p q e.0 e.1 || is_fit_by_second n p q e.0 e.1)

-- ---- what passing shows

others_by : (n : Net) (l others : List Point) (xs : List (List ℕ)) → Full (Points n) l → T (are_others n l others xs) → AllByRecursion (PassedOver n) others
others_by n l [] xs full t = tt
others_by n l (z ∷ others) [] full t = absurd t
others_by n l (z ∷ others) (x ∷ xs) full t =
    let s = both (is_flow_of n z x && is_out z l) _ t in
    let u = both (is_flow_of n z x) _ s.0 in
    let f = point_by n z x u.0 in
    ((record { flow = x; flows = f.0; here = f.1 }, λ c. out_by z l u.1 (full.complete z c)), others_by n l others xs full s.1)

unserved_by : (n : Net) (S : ℕ → Bool) → T (is_too_much n S || is_too_little n S) → Unserved n S
unserved_by n S t = grind (arith, ints)

lightest_by : (n : Net) → Lawful n → (p q : ℤ) (x : List ℕ) (prices : List Pair) → Flow n x → T (is_fit_by_first n p q x prices || is_fit_by_second n p q x prices) → Lightest (Points n) p q (point n x)
lightest_by n ok p q x prices f t = go (either_by (is_fit_by_first n p q x prices) _ t)
  where
    go : T (is_fit_by_first n p q x prices) ⊎ T (is_fit_by_second n p q x prices) → Lightest (Points n) p q (point n x)
    go (inl h) =
        let s = both (lt_z (pos 0) q) _ h in
        weighing_by_prices n ok p q (pairs_of prices) x (record { lt = s.0 }) f (fit_by ranked n.roads (by_weight_first n p q) (pairs_of prices) x s.1)
    go (inr h) =
        let s = both (is_same (pos 0) q) _ h in
        let u = both (lt_z (pos 0) p) _ s.1 in
        subst (λ w. Lightest (Points n) p w (point n x)) (same_by (pos 0) q s.0)
        (weighing_first_by_prices n ok p (pairs_of prices) x (record { lt = u.0 }) f (fit_by ranked n.roads (by_weight_second n p (pos 0)) (pairs_of prices) x u.1))

holds_by : (n : Net) → Lawful n → (k : Claim) (e : Evidence k) → T (passes n k e) → Holds n k
holds_by n ok (cornered l weights others) e t =
    let s = both (is_certificate n e.0) _ t in
    let u = both (are_same (points_of e.0) l) _ s.1 in
    let v = both (are_same (turns l) weights) _ u.1 in
    let full = subst (Full (Points n)) (same_list_by (points_of e.0) l u.0) (certificate_stands n ok e.0 s.0) in
    (full, same_list_by (turns l) weights v.0, others_by n l others e.1 full v.1)
holds_by n ok unserved row t = unserved_stands n ok (set_of row) (unserved_by n (set_of row) t)
holds_by n ok (lightest_at p q z) e t =
    let s = both (is_flow_of n z e.0) _ t in
    let f = point_by n z e.0 s.0 in
    subst (Lightest (Points n) p q) f.1 (lightest_by n ok p q e.0 e.1 f.0 s.1)

-- ---- a whole table

abbrev pub all_pass : (table : List Example) → AllByRecursion (λ c. Evidence c.claim) table → Bool
all_pass [] e = true
all_pass (c ∷ table) e = (is_lawful c.net && passes c.net c.claim e.0) && all_pass table e.1

pub all_stand : (table : List Example) (e : AllByRecursion (λ c. Evidence c.claim) table) → T (all_pass table e) → AllByRecursion Stands table
all_stand [] e t = tt
all_stand (c ∷ table) e t =
    let s = both (is_lawful c.net && passes c.net c.claim e.0) _ t in
    let u = both (is_lawful c.net) _ s.0 in
    let ok = lawful_by c.net u.0 in
    ((ok, holds_by c.net ok c.claim e.0 u.1), all_stand table e.1 s.1)

-- what stands of one consignment of it, by number
abbrev pub Row : List Example → ℕ → Type 0
Row [] k = Unit {0}
Row (c ∷ table) zero = Stands c
Row (c ∷ table) (suc k) = Row table k

pub row : (table : List Example) → AllByRecursion Stands table → (k : ℕ) → Row table k
row [] a k = tt
row (c ∷ table) a zero = a.0
row (c ∷ table) a (suc k) = row table a.1 k
