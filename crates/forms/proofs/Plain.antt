-- The three forms have no digit right after a number, and bounds of at most seven digits.
use Rattle.std.proofs.Common.{◌≡◌, ℕ, ◌-◌, ◌≤◌, true, ◌&&◌, pos, refl, ap, arith}
use lib.Signed.{le_z}
use Rattle.std.proofs.lemmas.Int.{ints}
use Rattle.network.specs.Limits.{max_nodes}
use Rattle.forms.specs.Form.{net_items, stock_items, arc_items}
use Rattle.forms.specs.Written.{plain}

pub net_plain : plain net_items ≡ true
net_plain = refl

last_node : (n : ℕ) → n ≤ max_nodes → le_z (pos (n - 1)) (pos 9999999) ≡ true
last_node n h = grind (arith, ints)

pub stock_plain : (n : ℕ) → n ≤ max_nodes → plain (stock_items n) ≡ true
stock_plain n h = ap (λ b. b) (last_node n h)

pub arc_plain : (n : ℕ) → n ≤ max_nodes → plain (arc_items n) ≡ true
arc_plain n h = ap (λ b. (b && true) && b) (last_node n h)
