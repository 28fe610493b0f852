-- Caps keep the laws, and what a change of one cap does to the roads.
use Rattle.std.proofs.Common.{◌≡◌, ℕ, zero, suc, ◌+◌, ◌*◌, ◌≤◌, Bool, true, false, cond, ◌||◌, eqb, leb, List, [], ◌∷◌, length, set, ℤ, nat_abs, Some, None, sum_by, Option, sym, refl, ap, ◌∙◌, subst, add-zero, mul-le-mul, zero-add, arith}
use Rattle.std.specs.List.{slice_get, AllByRecursion}
use Rattle.std.specs.Option.{option_map}
use Rattle.std.proofs.lemmas.List.Sums.{sum_by-cons}
use Rattle.std.proofs.lemmas.Bool.{leb-true, and_parts, cond_both}
use Rattle.network.specs.Capped.{within, bounded, bounded_from, capped}
use Rattle.network.specs.Limits.{max_arcs}
use Rattle.network.specs.Net.{Net, Lawful, node_count, touch, span}
use Rattle.network.specs.Roads.{Ranged, Passable, with_most}
use Rattle.network.specs.declared.road.Road.{Road}

-- what holds of the road, and of the road with any most that it may have, holds under a cap
bounded_both : (P : Road → Type 0) (o : Option ℕ) (r : Road) → ((u : ℕ) → r.least ≤ u → u ≤ r.most → P (with_most r u)) → P r → P (bounded o r)
bounded_both P None r low same = same
bounded_both P (Some u) r low same =
    cond_both (within r u) (with_most r u) r P
    (λ e. low u (leb-true r.least u (and_parts (leb r.least u) (leb u r.most) e).0) (leb-true u r.most (and_parts (leb r.least u) (leb u r.most) e).1))
    (λ _. same)

bounded_ranged : (n : ℕ) (o : Option ℕ) (r : Road) → Ranged n r → Ranged n (bounded o r)
bounded_ranged n o r h =
    bounded_both (Ranged n) o r (λ u low high. record { tail = h.tail; head = h.head; least = h.least; most = omega (arith, h.most); first = h.first; second = h.second }) h

bounded_passable : (o : Option ℕ) (r : Road) → Passable r → Passable (bounded o r)
bounded_passable o r h = bounded_both Passable o r (λ u low high. record { apart = h.apart; room = low }) h

lower : (b : Bool) (u k : ℕ) → u ≤ k → cond b u 0 ≤ cond b k 0
lower true u k h = h
lower false u k h = omega arith

bounded_touch : (v : ℕ) (o : Option ℕ) (r : Road) → touch v (bounded o r) ≤ touch v r
bounded_touch v o r = bounded_both (λ x. touch v x ≤ touch v r) o r (λ u _ high. lower (eqb r.tail v || eqb r.head v) u r.most high) (omega arith)

bounded_span : (cost : Road → ℤ) → ((r : Road) (u : ℕ) → cost (with_most r u) ≡ cost r) → (o : Option ℕ) (r : Road) → span cost (bounded o r) ≤ span cost r
bounded_span cost keeps o r =
    let same : nat_abs (cost r) ≤ nat_abs (cost r) = omega arith in
    bounded_both (λ x. span cost x ≤ span cost r) o r (λ u _ high. subst (λ z. u * nat_abs z ≤ r.most * nat_abs (cost r)) (sym (keeps r u)) (mul-le-mul high same)) (omega arith)

-- for every cap on every arc
each_bounded : (P : Road → Type 0) → ((o : Option ℕ) (r : Road) → P r → P (bounded o r)) → (f : ℕ → Option ℕ) (i : ℕ) (rs : List Road) → AllByRecursion P rs → AllByRecursion P (bounded_from f i rs)
each_bounded P keeps f i [] h = tt
each_bounded P keeps f i (r ∷ rs) h = (keeps (f i) r h.0, each_bounded P keeps f (suc i) rs h.1)

sum_bounded : (g : Road → ℕ) → ((o : Option ℕ) (r : Road) → g (bounded o r) ≤ g r) → (f : ℕ → Option ℕ) (i : ℕ) (rs : List Road) → sum_by g (bounded_from f i rs) ≤ sum_by g rs
sum_bounded g less f i [] = omega arith
sum_bounded g less f i (r ∷ rs) =
    omega (arith, sum_by-cons g (bounded (f i) r) (bounded_from f (suc i) rs), sum_by-cons g r rs, less (f i) r, sum_bounded g less f (suc i) rs)

pub length_bounded : (f : ℕ → Option ℕ) (i : ℕ) (rs : List Road) → length (bounded_from f i rs) ≡ length rs
length_bounded f i [] = refl
length_bounded f i (r ∷ rs) = ap suc (length_bounded f (suc i) rs)

pub capped_lawful : (f : ℕ → Option ℕ) (n : Net) → Lawful n → Lawful (capped f n)
capped_lawful f n h = record {
  some = h.some;
  nodes = h.nodes;
  arcs = subst (λ k. k ≤ max_arcs) (sym (length_bounded f 0 n.roads)) h.arcs;
  ranged = each_bounded (Ranged (node_count n)) (bounded_ranged (node_count n)) f 0 n.roads h.ranged;
  passable = each_bounded Passable bounded_passable f 0 n.roads h.passable;
  node = λ v l. omega (arith, h.node v l, sum_bounded (touch v) (bounded_touch v) f 0 n.roads);
  first = omega (arith, h.first, sum_bounded (span (λ r. r.first)) (bounded_span (λ r. r.first) (λ r u. refl)) f 0 n.roads);
  second = omega (arith, h.second, sum_bounded (span (λ r. r.second)) (bounded_span (λ r. r.second) (λ r u. refl)) f 0 n.roads);
}

nth_from : (f : ℕ → Option ℕ) (i : ℕ) (rs : List Road) (k : ℕ) → slice_get (bounded_from f i rs) k ≡ option_map (bounded (f (i + k))) (slice_get rs k)
nth_from f i [] k = refl
nth_from f i (r ∷ rs) zero = simp add-zero refl
nth_from f i (r ∷ rs) (suc k) = nth_from f (suc i) rs k ∙ ap (λ j. option_map (bounded (f j)) (slice_get rs k)) (omega arith)

-- the road of one arc under the caps
pub nth_bounded : (f : ℕ → Option ℕ) (rs : List Road) (k : ℕ) → slice_get (bounded_from f 0 rs) k ≡ option_map (bounded (f k)) (slice_get rs k)
nth_bounded f rs k = nth_from f 0 rs k ∙ ap (λ j. option_map (bounded (f j)) (slice_get rs k)) (zero-add k)

same_from : (f g : ℕ → Option ℕ) (i : ℕ) (rs : List Road) → ((j : ℕ) (r : Road) → slice_get rs j ≡ Some r → bounded (g (i + j)) r ≡ bounded (f (i + j)) r) → bounded_from g i rs ≡ bounded_from f i rs
same_from f g i [] same = refl
same_from f g i (r ∷ rs) same =
    let here : bounded (g i) r ≡ bounded (f i) r = subst (λ j. bounded (g j) r ≡ bounded (f j) r) (add-zero i) (same 0 r refl) in
    let rest = same_from f g (suc i) rs (λ j s e. subst (λ k. bounded (g k) s ≡ bounded (f k) s) (omega arith) (same (suc j) s e)) in
    ap (λ x. x ∷ bounded_from g (suc i) rs) here ∙ ap (λ xs. bounded (f i) r ∷ xs) rest

set_from : (f g : ℕ → Option ℕ) (i : ℕ) (rs : List Road) (k : ℕ) (r x : Road) → slice_get rs k ≡ Some r → bounded (g (i + k)) r ≡ x
    → ((j : ℕ) (s : Road) → slice_get rs j ≡ Some s → (j ≡ k → ⊥) → bounded (g (i + j)) s ≡ bounded (f (i + j)) s) → bounded_from g i rs ≡ set (bounded_from f i rs) k x
set_from f g i [] k r x at is same = refl
set_from f g i (a ∷ rs) zero r x at is same =
    let q : r ≡ a = cc in
    let here : bounded (g i) a ≡ x = subst (λ s. bounded (g i) s ≡ x) q (subst (λ j. bounded (g j) r ≡ x) (add-zero i) is) in
    let rest = same_from f g (suc i) rs (λ j s e. subst (λ k. bounded (g k) s ≡ bounded (f k) s) (omega arith) (same (suc j) s e (λ z. omega arith))) in
    ap (λ y. y ∷ bounded_from g (suc i) rs) here ∙ ap (λ xs. x ∷ xs) rest
set_from f g i (a ∷ rs) (suc k) r x at is same =
    let here : bounded (g i) a ≡ bounded (f i) a = subst (λ j. bounded (g j) a ≡ bounded (f j) a) (add-zero i) (same 0 a refl (λ z. omega arith)) in
    let rest =
    set_from f g (suc i) rs k r x at (subst (λ j. bounded (g j) r ≡ x) (omega arith) is)
    (λ j s e apart. subst (λ m. bounded (g m) s ≡ bounded (f m) s) (omega arith) (same (suc j) s e (λ z. apart (omega arith)))) in
    ap (λ y. y ∷ bounded_from g (suc i) rs) here ∙ ap (λ xs. bounded (f i) a ∷ xs) rest

-- caps that differ at one arc alone change the road of this arc alone
pub set_bounded : (f g : ℕ → Option ℕ) (rs : List Road) (k : ℕ) (r x : Road) → slice_get rs k ≡ Some r → bounded (g k) r ≡ x
    → ((j : ℕ) (s : Road) → slice_get rs j ≡ Some s → (j ≡ k → ⊥) → bounded (g j) s ≡ bounded (f j) s) → bounded_from g 0 rs ≡ set (bounded_from f 0 rs) k x
set_bounded f g rs k r x at is same =
    set_from f g 0 rs k r x at (subst (λ j. bounded (g j) r ≡ x) (sym (zero-add k)) is)
    (λ j s e apart. subst (λ m. bounded (g m) s ≡ bounded (f m) s) (sym (zero-add j)) (same j s e apart))
