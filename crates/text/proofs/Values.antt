-- What the numbers of a line are, once they are read.
use Rattle.std.proofs.Common.{◌≡◌, ℕ, ◌-◌, ◌<◌, ◌≤◌, List, ◌++◌, ℤ, pos, ◌≤ℤ◌, Ok, Err, sym, refl, subst, arith}
use Rattle.std.proofs.lemmas.Int.{ints}
use Rattle.network.specs.Limits.{max_nodes, max_arcs, max_most}
use Rattle.network.specs.Roads.{Ranged}
use Rattle.network.specs.declared.refusal.Refusal.{Refusal}
use Rattle.network.specs.declared.road.Road.{Road}
use Rattle.forms.specs.Form.{net_items, stock_items, arc_items, stock_numbers, road_numbers}
use Rattle.forms.specs.Scan.{Item, Scanned, naturals}
use Rattle.lines.specs.Word.{spelt}
use Rattle.lines.specs.declared.word.Word.TheVariants.{Net, Stock, Arc}
use Rattle.forms.proofs.Accepts.{sound, points}
use Rattle.text.specs.Consignment.{net_form, stock_form, arc_form, Sized, Stocked}
use Rattle.text.specs.Refused.{Faulty}

below : (i n : ℕ) → 0 < n → pos i ≤ℤ pos (n - 1) → i < n
below i n some h = grind (arith, ints)

at_most : (i n : ℕ) → pos i ≤ℤ pos n → i ≤ n
at_most i n h = grind (arith, ints)

pub net_values : (bs : List ℕ) (p n m : ℕ) → Scanned net_items bs p (Ok (naturals (n, m))) → (spelt Net ++ bs ≡ net_form n m) × Sized n m
net_values bs p n m s =
    let w = sound net_items bs p (naturals (n, m)) s.is in (
      subst (λ l. spelt Net ++ l ≡ net_form n m) (sym w.0) refl,
      record { some = at_most 1 n w.1.0; nodes = at_most n max_nodes w.1.1; arcs = at_most m max_arcs w.1.2.1 },
    )

pub stock_values : (n : ℕ) (bs : List ℕ) (p : ℕ) (s : ℕ × ℤ) → 0 < n → Scanned (stock_items n) bs p (Ok (stock_numbers s)) → (spelt Stock ++ bs ≡ stock_form s) × Stocked n s
stock_values n bs p s some h =
    let w = sound (stock_items n) bs p (stock_numbers s) h.is in (
      subst (λ l. spelt Stock ++ l ≡ stock_form s) (sym w.0) refl,
      record { node = below s.0 n some w.1.1; amount = (w.1.2.0, w.1.2.1) },
    )

pub arc_values : (n : ℕ) (bs : List ℕ) (p : ℕ) (r : Road) → 0 < n → Scanned (arc_items n) bs p (Ok (road_numbers r)) → (spelt Arc ++ bs ≡ arc_form r) × Ranged n r
arc_values n bs p r some h =
    let w = sound (arc_items n) bs p (road_numbers r) h.is in (
      subst (λ l. spelt Arc ++ l ≡ arc_form r) (sym w.0) refl,
      record {
        tail = below r.tail n some w.1.1;
        head = below r.head n some w.1.2.1;
        least = at_most r.least max_most w.1.2.2.1;
        most = at_most r.most max_most w.1.2.2.2.1;
        first = (w.1.2.2.2.2.0, w.1.2.2.2.2.1);
        second = (w.1.2.2.2.2.2.0, w.1.2.2.2.2.2.1);
      },
    )

pub faulty : (items : List Item) (bs : List ℕ) (p : ℕ) (e : Refusal) → Scanned items bs p (Err e) → Faulty items bs p e
faulty items bs p e s = record { scanned = s.is; misfit = points items bs p e s.is }
