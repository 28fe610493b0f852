-- Rows pass the test exactly where their numbers are within their limits, and then make a lawful network.
use Rattle.std.proofs.Common.{◌≡◌, ℕ, suc, ◌<◌, ◌≤◌, Bool, true, false, cond, not, ◌&&◌, eqb, ltb, leb, List, [], ◌∷◌, length, ℤ, pos, neg_ℤ, ◌≤ℤ◌, Some, None, Option, refl, ap, ◌∙◌, arith}
use lib.Signed.{le_z}
use Rattle.std.specs.List.{AllByRecursion}
use Rattle.std.proofs.lemmas.Int.{ints}
use Rattle.std.proofs.lemmas.Bool.{and_parts, and_from, ltb-true, lt-ltb, leb-true, le-leb, eqb-false, ne_eqb, not-true, cond-true, true≢false}
use Rattle.network.specs.Limits.{max_nodes, max_arcs, max_stock, max_most, max_cost}
use Rattle.network.specs.Net.{Lawful, blank, rows_net}
use Rattle.network.specs.Roads.{Near, Ranged, Passable}
use Rattle.network.specs.Tested.{is_near, is_joined, is_bounded, is_costed, is_ranged, is_passable, is_sized, stock_fault, road_fault, or_else, row_fault, passed, table_net}
use Rattle.network.specs.declared.refusal.Refusal.{Refusal}
use Rattle.network.specs.declared.refusal.Refusal.TheVariants.{Number, Impassable}
use Rattle.network.specs.declared.road.Road.{Road}
use Rattle.network.proofs.Lawful.{rows_lawful}

pub test_le : {a b : ℤ} → le_z a b ≡ true → a ≤ℤ b
test_le h = grind (arith, ints)

pub le_test : {a b : ℤ} → a ≤ℤ b → le_z a b ≡ true
le_test h = grind (arith, ints)

from_near : (far : ℕ) (z : ℤ) → is_near far z ≡ true → Near far z
from_near far z h = let p = and_parts (le_z (neg_ℤ (pos far)) z) (le_z z (pos far)) h in (test_le p.0, test_le p.1)

to_near : (far : ℕ) (z : ℤ) → Near far z → is_near far z ≡ true
to_near far z h = and_from (le_z (neg_ℤ (pos far)) z) (le_z z (pos far)) (le_test h.0) (le_test h.1)

pub from_ranged : (n : ℕ) (r : Road) → is_ranged n r ≡ true → Ranged n r
from_ranged n r h =
    let a = and_parts (is_joined n r) (is_bounded r && is_costed r) h in
    let b = and_parts (is_bounded r) (is_costed r) a.1 in
    let c = and_parts (ltb r.tail n) (ltb r.head n) a.0 in
    let d = and_parts (leb r.least max_most) (leb r.most max_most) b.0 in
    let e = and_parts (is_near max_cost r.first) (is_near max_cost r.second) b.1 in
    record {
      tail = ltb-true r.tail n c.0;
      head = ltb-true r.head n c.1;
      least = leb-true r.least max_most d.0;
      most = leb-true r.most max_most d.1;
      first = from_near max_cost r.first e.0;
      second = from_near max_cost r.second e.1;
    }

to_ranged : (n : ℕ) (r : Road) → Ranged n r → is_ranged n r ≡ true
to_ranged n r h =
    and_from (is_joined n r) (is_bounded r && is_costed r)
    (and_from (ltb r.tail n) (ltb r.head n) (lt-ltb r.tail n h.tail) (lt-ltb r.head n h.head))
    (and_from (is_bounded r) (is_costed r)
    (and_from (leb r.least max_most) (leb r.most max_most) (le-leb r.least max_most h.least) (le-leb r.most max_most h.most))
    (and_from (is_near max_cost r.first) (is_near max_cost r.second) (to_near max_cost r.first h.first) (to_near max_cost r.second h.second)))

pub from_passable : (r : Road) → is_passable r ≡ true → Passable r
from_passable r h =
    let p = and_parts (not (eqb r.tail r.head)) (leb r.least r.most) h in
    record { apart = eqb-false r.tail r.head (not-true (eqb r.tail r.head) p.0); room = leb-true r.least r.most p.1 }

to_passable : (r : Road) → Passable r → is_passable r ≡ true
to_passable r h = and_from (not (eqb r.tail r.head)) (leb r.least r.most) (ap not (ne_eqb r.tail r.head h.apart)) (le-leb r.least r.most h.room)

none_not_some : (e : Refusal) → ◌≡◌ {A = Option Refusal} (Some e) None → ⊥
none_not_some e h = let z : ◌≡◌ {A = ℕ} 0 1 = cc in omega arith

passes : (b : Bool) (o : Option Refusal) (e : Refusal) → cond b o (Some e) ≡ None → (b ≡ true) × (o ≡ None)
passes true o e h = (refl, h)
passes false o e h = absurd (none_not_some e h)

both_none : (a b : Option Refusal) → or_else a b ≡ None → (a ≡ None) × (b ≡ None)
both_none None b h = (refl, h)
both_none (Some e) b h = absurd (none_not_some e h)

from_stocks : (i : ℕ) (bs : List ℤ) → stock_fault i bs ≡ None → AllByRecursion (Near max_stock) bs
from_stocks i [] h = tt
from_stocks i (b ∷ bs) h = let p = passes (is_near max_stock b) _ (Number i) h in (from_near max_stock b p.0, from_stocks (suc i) bs p.1)

to_stocks : (i : ℕ) (bs : List ℤ) → AllByRecursion (Near max_stock) bs → stock_fault i bs ≡ None
to_stocks i [] h = refl
to_stocks i (b ∷ bs) h = cond-true (is_near max_stock b) _ _ (to_near max_stock b h.0) ∙ to_stocks (suc i) bs h.1

from_roads : (n i : ℕ) (rs : List Road) → road_fault n i rs ≡ None → AllByRecursion (Ranged n) rs × AllByRecursion Passable rs
from_roads n i [] h = (tt, tt)
from_roads n i (r ∷ rs) h =
    let p = passes (is_ranged n r) _ (Number i) h in
    let q = passes (is_passable r) _ (Impassable i) p.1 in
    let t = from_roads n (suc i) rs q.1 in
    ((from_ranged n r p.0, t.0), (from_passable r q.0, t.1))

to_roads : (n i : ℕ) (rs : List Road) → AllByRecursion (Ranged n) rs → AllByRecursion Passable rs → road_fault n i rs ≡ None
to_roads n i [] h k = refl
to_roads n i (r ∷ rs) h k = cond-true (is_ranged n r) _ _ (to_ranged n r h.0) ∙ cond-true (is_passable r) _ _ (to_passable r k.0) ∙ to_roads n (suc i) rs h.1 k.1

-- rows that pass are lawful
pub passed_lawful : (roads : List Road) (stocks : List ℤ) → row_fault roads stocks ≡ None → Lawful (rows_net roads stocks)
passed_lawful roads stocks h =
    let p = passes (is_sized roads stocks) _ (Number 0) h in
    let s = and_parts (ltb 0 (length stocks)) _ p.0 in
    let t = and_parts (leb (length stocks) max_nodes) (leb (length roads) max_arcs) s.1 in
    let o = both_none (stock_fault 0 stocks) (road_fault (length stocks) 0 roads) p.1 in
    let r = from_roads (length stocks) 0 roads o.1 in
    rows_lawful roads stocks (ltb-true 0 (length stocks) s.0) (leb-true (length stocks) max_nodes t.0) (leb-true (length roads) max_arcs t.1) (from_stocks 0 stocks o.0) r.0 r.1

-- rows within the limits pass
pub rows_pass : (roads : List Road) (stocks : List ℤ) → 0 < length stocks → length stocks ≤ max_nodes → length roads ≤ max_arcs → AllByRecursion (Near max_stock) stocks
    → AllByRecursion (Ranged (length stocks)) roads → AllByRecursion Passable roads → row_fault roads stocks ≡ None
rows_pass roads stocks some few arcs near ranged passable =
    cond-true (is_sized roads stocks) _ _ (and_from (ltb 0 (length stocks)) _ (lt-ltb 0 (length stocks) some) (and_from (leb (length stocks) max_nodes) (leb (length roads) max_arcs) (le-leb (length stocks) max_nodes few) (le-leb (length roads) max_arcs arcs)))
    ∙ ap (λ o. or_else o (road_fault (length stocks) 0 roads)) (to_stocks 0 stocks near) ∙ to_roads (length stocks) 0 roads ranged passable

pub blank_lawful : Lawful blank
blank_lawful = rows_lawful [] (pos 0 ∷ []) (omega arith) (omega arith) (omega arith) ((near_zero.0, near_zero.1), tt) tt tt
  where
    near_zero : Near max_stock (pos 0)
    near_zero = (grind (arith, ints), grind (arith, ints))

passed_none : (o : Option Refusal) → true ≡ passed o → o ≡ None
passed_none None h = refl
passed_none (Some e) h = absurd (true≢false h)

pub table_lawful : (good : Bool) (roads : List Road) (stocks : List ℤ) → good ≡ passed (row_fault roads stocks) → Lawful (table_net good roads stocks)
table_lawful true roads stocks e = passed_lawful roads stocks (passed_none (row_fault roads stocks) e)
table_lawful false roads stocks e = blank_lawful
