-- A text is cut into its lines in one way.
use Rattle.std.proofs.Common.{◌≡◌, ℕ, suc, ◌+◌, ◌-◌, ◌^◌, ◌<◌, ◌≤◌, Bool, true, false, not, ◌&&◌, eqb, List, [], ◌∷◌, ◌++◌, length, get_or, drop, ℤ, pos, negsuc, neg_ℤ, ◌≤ℤ◌, codes, decimal, sym, refl, ap, ◌∙◌, append_assoc, arith}
use Rattle.std.specs.Fmt.{signed_decimal}
use Rattle.std.specs.List.{AllByRecursion}
use Rattle.std.proofs.ByRecursion.{All-append, All-from_get_or}
use Rattle.std.proofs.lemmas.List.{take-append-drop, drop-drop, drop_more, get_or-drop, get_or-take, length-append, get_or_at, length-drop}
use Rattle.std.proofs.lemmas.Bool.{and_parts, eqb-false, not-true}
use Rattle.std.proofs.lemmas.Fmt.{digits_decimal}
use Rattle.std.proofs.lemmas.Int.{ints}
use Rattle.network.specs.Limits.{max_nodes, max_stock, max_cost}
use Rattle.network.specs.Roads.{Near, Ranged}
use Rattle.network.specs.declared.road.Road.{Road}
use Rattle.lines.specs.Line.{LineAt, NoLine}
use Rattle.lines.specs.Number.{AllDigits}
use Rattle.lines.proofs.Figures.{own}
use Rattle.text.specs.Consignment.{net_form, stock_form, arc_form, paired, ended, Sized, Stocked}

-- bytes of one line
pub record Unbroken (bs : List ℕ) : Type 0 where
  pub each : AllByRecursion (λ b. b ≡ 10 → ⊥) bs

joins : {a b : List ℕ} → Unbroken a → Unbroken b → Unbroken (a ++ b)
joins {a} {b} h k = record { each = All-append (λ x. x ≡ 10 → ⊥) a b h.each k.each }

unbroken_nil : Unbroken []
unbroken_nil = record { each = tt }

led : {a : List ℕ} (b : ℕ) → eqb b 10 ≡ false → Unbroken a → Unbroken (b ∷ a)
led b h k = record { each = (eqb-false b 10 h, k.each) }

-- bytes that are written out
abbrev clean : List ℕ → Bool
clean [] = true
clean (b ∷ bs) = not (eqb b 10) && clean bs

clean_unbroken : (bs : List ℕ) → clean bs ≡ true → Unbroken bs
clean_unbroken [] h = unbroken_nil
clean_unbroken (b ∷ bs) h =
    let p = and_parts (not (eqb b 10)) (clean bs) h in
    led b (not-true (eqb b 10) p.0) (clean_unbroken bs p.1)

-- numbers
decimal_unbroken : (n : ℕ) → n < 2 ^ 64 → Unbroken (decimal n)
decimal_unbroken n l = let d : AllDigits (decimal n) = digits_decimal own n l in record { each = All-from_get_or (λ x. x ≡ 10 → ⊥) (decimal n) 0 (λ i h e. omega (arith, d i h)) }

below : (n : ℕ) → pos n ≤ℤ pos max_stock → n < 2 ^ 64
below n k = grind (arith, ints)

above : (n : ℕ) → neg_ℤ (pos max_stock) ≤ℤ negsuc n → suc n < 2 ^ 64
above n k = grind (arith, ints)

signed_unbroken : (z : ℤ) → Near max_stock z → Unbroken (signed_decimal z)
signed_unbroken (pos n) h = decimal_unbroken n (below n h.1)
signed_unbroken (negsuc n) h = led 45 refl (decimal_unbroken (suc n) (above n h.0))

wider_low : (z : ℤ) → neg_ℤ (pos max_cost) ≤ℤ z → neg_ℤ (pos max_stock) ≤ℤ z
wider_low z a = grind (arith, ints)

wider_high : (z : ℤ) → z ≤ℤ pos max_cost → z ≤ℤ pos max_stock
wider_high z a = grind (arith, ints)

cost_unbroken : (z : ℤ) → Near max_cost z → Unbroken (signed_decimal z)
cost_unbroken z h = signed_unbroken z (wider_low z h.0, wider_high z h.1)

-- forms
spaced : {a b : List ℕ} (c : ℕ) → eqb c 10 ≡ false → Unbroken a → Unbroken b → Unbroken (a ++ (c ∷ b))
spaced c h p q = joins p (led c h q)

pairs : {a b rest : List ℕ} → Unbroken a → Unbroken b → Unbroken rest → Unbroken (paired a b rest)
pairs p q r = led 40 refl (spaced 32 refl p (spaced 41 refl q r))

pub net_unbroken : (n m : ℕ) → Sized n m → Unbroken (net_form n m)
net_unbroken n m h =
    let a = h.nodes in
    let b = h.arcs in
    joins (clean_unbroken (codes "(net ") refl) (spaced 32 refl (decimal_unbroken n (omega arith)) (spaced 41 refl (decimal_unbroken m (omega arith)) unbroken_nil))

pub stock_unbroken : (n : ℕ) (s : ℕ × ℤ) → n ≤ max_nodes → Stocked n s → Unbroken (stock_form s)
stock_unbroken n s few h =
    let a = h.node in
    joins (clean_unbroken (codes "(stock ") refl) (spaced 32 refl (decimal_unbroken s.0 (omega arith)) (spaced 41 refl (signed_unbroken s.1 h.amount) unbroken_nil))

pub arc_unbroken : (n : ℕ) (r : Road) → n ≤ max_nodes → Ranged n r → Unbroken (arc_form r)
arc_unbroken n r few h =
    let a = h.tail in
    let b = h.head in
    let c = h.least in
    let d = h.most in
    joins (clean_unbroken (codes "(arc ") refl)
    (pairs (decimal_unbroken r.tail (omega arith)) (decimal_unbroken r.head (omega arith))
    (led 32 refl (pairs (decimal_unbroken r.least (omega arith)) (decimal_unbroken r.most (omega arith))
    (led 32 refl (pairs (cost_unbroken r.first h.first) (cost_unbroken r.second h.second) (led 41 refl unbroken_nil))))))

-- one line is cut off
cut : (a b x y : List ℕ) → Unbroken a → Unbroken b → a ++ (10 ∷ x) ≡ b ++ (10 ∷ y) → (a ≡ b) × (x ≡ y)
cut [] [] x y h k e = (refl, cc)
cut [] (c ∷ b) x y h k e = absurd (k.each.0 (cc))
cut (c ∷ a) [] x y h k e = absurd (h.each.0 (cc))
cut (c ∷ a) (d ∷ b) x y h k e =
    let same : c ≡ d = cc in
    let rest : a ++ (10 ∷ x) ≡ b ++ (10 ∷ y) = cc in
    let r = cut a b x y (record { each = h.each.1 }) (record { each = k.each.1 }) rest in
    (ap (λ z. z ∷ a) same ∙ ap (λ l. d ∷ l) r.0, r.1)

pub cut_line : (a b x y : List ℕ) → Unbroken a → Unbroken b → ended a ++ x ≡ ended b ++ y → (a ≡ b) × (x ≡ y)
cut_line a b x y h k e = cut a b x y h k (sym (append_assoc a (10 ∷ []) x) ∙ e ∙ append_assoc b (10 ∷ []) y)

-- the line at a place
pub line_parts : (text : List ℕ) (place : ℕ) (form : List ℕ) → LineAt text place form → drop place text ≡ ended form ++ drop (place + length form + 1) text
line_parts text place form h =
    let n = length form in
    let inside : place + n < length text = h.inside in
    sym (take-append-drop n (drop place text)) ∙ ap (λ l. l ++ drop n (drop place text)) (sym h.part)
    ∙ ap (λ l. form ++ l) (drop-drop n place text ∙ drop_more text (place + n) 0 inside ∙ ap (λ b. b ∷ drop (place + n + 1) text) h.ends)
    ∙ sym (append_assoc form (10 ∷ []) (drop (place + n + 1) text))

pub line_unbroken : (text : List ℕ) (place : ℕ) (form : List ℕ) → LineAt text place form → Unbroken form
line_unbroken text place form h = record {
  each = All-from_get_or (λ x. x ≡ 10 → ⊥) form 0 (λ k l e.
      h.whole (place + k) (omega arith) (omega arith)
      (sym (get_or-drop place text k 0) ∙ sym (get_or-take (length form) (drop place text) k 0 l) ∙ ap (λ p. get_or p k 0) (sym h.part) ∙ e));
}

pub line_is : (text : List ℕ) (place : ℕ) (form other x : List ℕ) → LineAt text place form → Unbroken other → drop place text ≡ ended other ++ x → form ≡ other
line_is text place form other x h k e = (cut_line form other _ x (line_unbroken text place form h) k (sym (line_parts text place form h) ∙ e)).0

-- a line that is there
pub line_there : (text : List ℕ) (place : ℕ) (form x : List ℕ) → drop place text ≡ ended form ++ x → NoLine text place → ⊥
line_there text place form x e h =
    let n = length form in
    let at : get_or text (place + n) 0 ≡ 10 = sym (get_or-drop place text n 0) ∙ ap (λ l. get_or l n 0) (e ∙ append_assoc form (10 ∷ []) x) ∙ get_or_at form 10 x 0 n refl in
    let long : length text - place ≡ n + 1 + length x = sym (length-drop place text) ∙ ap length e ∙ length-append (ended form) x ∙ ap (λ k. k + length x) (length-append form (10 ∷ [])) in
    h (place + n) (omega arith) (omega arith) at

pub append_ended : (form x : List ℕ) → ended form ++ x ≡ form ++ (10 ∷ x)
append_ended form x = append_assoc form (10 ∷ []) x
