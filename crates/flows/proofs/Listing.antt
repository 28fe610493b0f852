-- The points of a network's flows can be listed: rows within the mosts are finitely many, and whether one is a flow can be decided.
use Rattle.std.proofs.Common.{◌≡◌, ℕ, ◌<◌, ◌≤◌, ◌⊎◌, List, [], ◌∷◌, map, length, get_or, pos, ◌-ℤ◌, sym, ap, ◌∙◌, subst, inl, inr}
use Rattle.std.proofs.lemmas.Int.{ints}
use Rattle.std.proofs.Common.{arith}
use native.Mathlib.Decide.{dec_le, ℕ_discrete}
use lib.IntN.{ℤ_discrete}
use Rattle.std.proofs.lemmas.List.{get_or-map, length-map}
use Rattle.numbers.specs.Rows.{Has, rows}
use Rattle.numbers.proofs.Rows.{in_rows, both_dec, all_dec}
use Rattle.network.specs.Arcs.{road_at, stock_at, nowhere}
use Rattle.network.specs.Net.{Net, node_count, arc_count}
use Rattle.plane.specs.Points.{Point}
use Rattle.plane.specs.Lists.{In, Listed}
use Rattle.flows.specs.Flows.{Flow, on, outflow, inflow, point, Points}

pub flow_dec : (n : Net) (x : List ℕ) → Dec (Flow n x)
flow_dec n x =
    go (both_dec (ℕ_discrete (length x) (arc_count n)) (both_dec (all_dec (arc_count n) Low (λ a. dec_le _ _)) (both_dec (all_dec (arc_count n) High (λ a. dec_le _ _)) (all_dec (node_count n) Kept (λ v. ℤ_discrete _ _)))))
  where
    Low : ℕ → Type 0
    Low a = (road_at n.roads a).least ≤ on x a

    High : ℕ → Type 0
    High a = on x a ≤ (road_at n.roads a).most

    Kept : ℕ → Type 0
    Kept v = pos (outflow n.roads (on x) v) -ℤ pos (inflow n.roads (on x) v) ≡ stock_at n.stocks v

    go : Dec ((length x ≡ arc_count n) × (((a : ℕ) → a < arc_count n → Low a) × (((a : ℕ) → a < arc_count n → High a) × ((v : ℕ) → v < node_count n → Kept v)))) → Dec (Flow n x)
    go h = grind (arith, ints)

module _ (n : Net) where
  -- the points of the flows among some rows
  abbrev PointsAmong : List (List ℕ) → List Point → Type 0
  PointsAmong l zs = ((z : Point) → In z zs → Points n z) × ((x : List ℕ) → Has x l → Flow n x → In (point n x) zs)

  among : (l : List (List ℕ)) → (zs : List Point) × PointsAmong l zs
  among [] = ([], ((λ z i. absurd i), (λ x m f. absurd m)))
  among (y ∷ l) = add (flow_dec n y) (among l)
    where
      add : Dec (Flow n y) → ((zs : List Point) × PointsAmong l zs) → (zs : List Point) × PointsAmong (y ∷ l) zs
      add (yes f) r = (point n y ∷ r.0, ((λ z i. sound z i), (λ x m g. found x m g)))
        where
          sound : (z : Point) → (z ≡ point n y) ⊎ In z r.0 → Points n z
          sound z (inl e) = record { flow = y; flows = f; here = sym e }
          sound z (inr i) = r.1.0 z i

          found : (x : List ℕ) → (x ≡ y) ⊎ Has x l → Flow n x → In (point n x) (point n y ∷ r.0)
          found x (inl e) g = inl (ap (point n) e)
          found x (inr m) g = inr (r.1.1 x m g)
      add (no d) r = (r.0, (r.1.0, (λ x m g. found x m g)))
        where
          found : (x : List ℕ) → (x ≡ y) ⊎ Has x l → Flow n x → In (point n x) r.0
          found x (inl e) g = absurd (d (subst (Flow n) e g))
          found x (inr m) g = r.1.1 x m g

  mosts : List ℕ
  mosts = map (λ r. r.most) n.roads

  in_mosts : (x : List ℕ) → Flow n x → Has x (rows mosts)
  unfolding mosts
  in_mosts x f =
      in_rows mosts x (f.long ∙ sym (length-map n.roads (λ r. r.most)))
      (λ i k.
      let j : i < arc_count n = subst (λ c. i < c) (length-map n.roads (λ r. r.most)) k in
      subst (λ c. get_or x i 0 ≤ c) (sym (get_or-map (λ r. r.most) n.roads i nowhere 0 j)) (f.high i j))

  pub points_listed : Listed (Points n)
  points_listed =
      let r = among (rows mosts) in
      record {
        points = r.0;
        sound = r.1.0;
        complete = λ z h. subst (λ y. In y r.0) h.here (r.1.1 h.flow (in_mosts h.flow h.flows) h.flows);
      }
