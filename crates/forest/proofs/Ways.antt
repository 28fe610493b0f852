-- Ways to a root: what is on them, how long they are, and how links make them.
use Rattle.std.proofs.Common.{◌≡◌, ℕ, zero, suc, ◌+◌, ◌<◌, ◌≤◌, Bool, true, false, cond, T, eqb, ◌≢◌, ◌⊎◌, List, length, ℤ, pos, neg_ℤ, is_some, Some, None, Option, sym, refl, ap, ◌∙◌, subst, inl, inr, arith, eqb→eq}
use native.Mathlib.Decide.{ℕ_discrete, dec_le}
use Rattle.std.proofs.lemmas.List.{get_or_past}
use Rattle.std.proofs.lemmas.Int.{ints}
use Rattle.numbers.specs.Totals.{total}
use Rattle.numbers.proofs.Totals.{total_change}
use Rattle.network.specs.declared.road.Road.{Road}
use Rattle.network.specs.Roads.{other_end}
use Rattle.network.specs.declared.road.End.{End}
use Rattle.network.specs.declared.road.End.TheVariants.{Tail, Head}
use Rattle.residual.specs.Steps.{start, finish, flip, slack}
use Rattle.residual.specs.declared.step.Step.{Step}
use Rattle.forest.specs.Forest.{Rooted, top, under, On, here, above, Linked, EndsIn, link_of, parent, ups}

-- ---- what is on a way

pub some_same : {A : Type 0} (o : Option A) (a b : A) → o ≡ Some a → o ≡ Some b → a ≡ b
some_same o a b e f = cc

pub none_some : {A : Type 0} (o : Option A) (a : A) → o ≡ None → o ≡ Some a → ⊥
none_some o a e f = let z : ◌≡◌ {A = ℕ} 0 1 = cc in omega arith

pub same_parent : (up : ℕ → Option ℕ) (v p q : ℕ) → up v ≡ Some p → up v ≡ Some q → p ≡ q
same_parent up v p q = some_same (up v) p q

pub on_split : (up : ℕ → Option ℕ) (t v : ℕ) → On up t v → (v ≡ t) ⊎ ((p : ℕ) × (up v ≡ Some p) × On up t p)
on_split up t v h = grind (arith, ints)

pub on_at : (up : ℕ → Option ℕ) (t v : ℕ) → v ≡ t → On up t v
on_at up t v q = subst (λ u. On up t u) (sym q) here

pub on_trans : (up : ℕ → Option ℕ) (t s v : ℕ) → On up t s → On up s v → On up t v
on_trans up t s v o here = o
on_trans up t s v o (above e q) = above e (on_trans up t s _ o q)

pub on_parent : (up : ℕ → Option ℕ) (t v p : ℕ) → v ≢ t → up v ≡ Some p → On up t v → On up t p
on_parent up t v p d e h = grind (arith, ints)

pub on_root : (up : ℕ → Option ℕ) (t v : ℕ) → up v ≡ None → On up t v → v ≡ t
on_root up t v e h = grind (arith, ints)

-- whether t is on the way of v
pub on_or : (up : ℕ → Option ℕ) (t v : ℕ) → Rooted up v → Dec (On up t v)
on_or up t v (top e) = go (ℕ_discrete v t)
  where
    go : Dec (v ≡ t) → Dec (On up t v)
    go (yes q) = yes (on_at up t v q)
    go (no d) = no (λ o. d (on_root up t v e o))
on_or up t v (under {p = p} e r) = go (ℕ_discrete v t) (on_or up t p r)
  where
    go : Dec (v ≡ t) → Dec (On up t p) → Dec (On up t v)
    go (yes q) s = yes (on_at up t v q)
    go (no d) (yes o) = yes (above e o)
    go (no d) (no n) = no (λ o. n (on_parent up t v p d e o))

-- ---- how many steps it has

unfoldable pub steps : {up : ℕ → Option ℕ} {v : ℕ} → Rooted up v → ℕ
steps (top e) = 0
steps (under e r) = suc (steps r)

pub steps_same : {up : ℕ → Option ℕ} {u v : ℕ} (r : Rooted up u) (s : Rooted up v) → u ≡ v → steps r ≡ steps s
unfolding steps
steps_same {up} {u} {v} (top e) (top f) q = refl
steps_same {up} {u} {v} (top e) (under f s) q = absurd (none_some (up u) _ e (ap up q ∙ f))
steps_same {up} {u} {v} (under e r) (top f) q = absurd (none_some (up u) _ (ap up q ∙ f) e)
steps_same {up} {u} {v} (under {p = p} e r) (under {p = q} f s) h = ap suc (steps_same r s (same_parent up u p q e (ap up h ∙ f)))

pub on_steps : {up : ℕ → Option ℕ} {t v : ℕ} (r : Rooted up v) (s : Rooted up t) → On up t v → steps s ≤ steps r
unfolding steps
on_steps {up} {t} {v} r s here = let h : steps s ≡ steps r = steps_same s r refl in omega arith
on_steps {up} {t} {v} (top e) s (above f o) = absurd (none_some (up v) _ e f)
on_steps {up} {t} {v} (under {p = p} e r) s (above {p = q} f o) =
    let h : steps s ≤ steps r = on_steps r s (subst (λ u. On up t u) (same_parent up v q p f e) o) in
    omega arith

-- no node is on the way of its parent
pub no_loop : (up : ℕ → Option ℕ) (v p : ℕ) → Rooted up p → up v ≡ Some p → On up v p → ⊥
unfolding steps
no_loop up v p r e o = let h : steps (under {v = v} e r) ≤ steps r = on_steps r (under e r) o in omega arith

pub on_antisym : (up : ℕ → Option ℕ) (s t : ℕ) → Rooted up s → Rooted up t → On up s t → On up t s → s ≡ t
on_antisym up s t r q here o = refl
on_antisym up s t r (top f) (above e o) p = absurd (none_some (up t) _ f e)
on_antisym up s t r (under {p = c} f q) (above {p = b} e o) p = absurd (no_loop up t c q f (on_trans up t s c p (subst (λ u. On up s u) (same_parent up t b c e f) o)))

-- of two nodes on one way, one is on the way of the other
pub on_linear : (up : ℕ → Option ℕ) (s t v : ℕ) → On up s v → On up t v → On up s t ⊎ On up t s
on_linear up s t v here o = inr o
on_linear up s t v (above e o) here = inl (above e o)
on_linear up s t v (above {p = p} e o) (above {p = q} f k) = on_linear up s t p o (subst (λ u. On up t u) (same_parent up v q p f e) k)

-- ---- a way has fewer steps than there are nodes

eqb_same : (v : ℕ) → eqb v v ≡ true
eqb_same v = grind arith

eqb_apart : (u v : ℕ) → u ≢ v → eqb u v ≡ false
eqb_apart u v d = grind arith

-- 1 at each node of the way, 0 elsewhere
spot : {up : ℕ → Option ℕ} {v : ℕ} → Rooted up v → ℕ → ℕ
spot {up} {v} (top e) u = cond (eqb u v) 1 0
spot {up} {v} (under e r) u = cond (eqb u v) 1 (spot r u)

spot_le : {up : ℕ → Option ℕ} {v : ℕ} (r : Rooted up v) (u : ℕ) → spot r u ≤ 1
unfolding spot
spot_le {up} {v} (top e) u = pick (eqb u v)
  where
    pick : (b : Bool) → cond b 1 0 ≤ 1
    pick b = grind (arith, ints)
spot_le {up} {v} (under e r) u = pick (eqb u v) (spot_le r u)
  where
    pick : (b : Bool) → spot r u ≤ 1 → cond b 1 (spot r u) ≤ 1
    pick b k = grind (arith, ints)

spot_off : {up : ℕ → Option ℕ} {v : ℕ} (r : Rooted up v) (u : ℕ) → (On up u v → ⊥) → spot r u ≡ 0
unfolding spot
spot_off {up} {v} (top e) u n = ap {B = ℕ} (λ b. cond b 1 0) (eqb_apart u v (λ q. n (subst (λ z. On up z v) (sym q) here)))
spot_off {up} {v} (under e r) u n = ap {B = ℕ} (λ b. cond b 1 (spot r u)) (eqb_apart u v (λ q. n (subst (λ z. On up z v) (sym q) here))) ∙ spot_off r u (λ o. n (above e o))

total_none : (n : ℕ) → total n (λ i. 0) ≡ 0
total_none zero = refl
total_none (suc n) = omega (arith, total_none n)

total_most : (n : ℕ) (f : ℕ → ℕ) → ((i : ℕ) → f i ≤ 1) → total n f ≤ n
total_most zero f h = omega arith
total_most (suc n) f h = omega (arith, total_most n f h, h n)

spots : {up : ℕ → Option ℕ} {v : ℕ} (n : ℕ) → ((u p : ℕ) → up u ≡ Some p → p < n) → v < n → (r : Rooted up v) → total n (spot r) ≡ suc (steps r)
unfolding spot steps
spots {up} {v} n inside k (top e) =
    let h : total n (spot {up = up} (top {v = v} e)) + 0 ≡ total n (λ i. 0) + cond (eqb v v) 1 0 = total_change n (spot {up = up} (top {v = v} e)) (λ i. 0) v k (λ j a d. ap {B = ℕ} (λ b. cond b 1 0) (eqb_apart j v d)) in
    omega (arith, h, total_none n, ap {B = ℕ} (λ b. cond b 1 0) (eqb_same v))
spots {up} {v} n inside k (under {p = p} e r) =
    let h : total n (spot {up = up} (under {v = v} e r)) + spot r v ≡ total n (spot r) + cond (eqb v v) 1 (spot r v) = total_change n (spot {up = up} (under {v = v} e r)) (spot r) v k (λ j a d. ap {B = ℕ} (λ b. cond b 1 (spot r j)) (eqb_apart j v d)) in
    let g : spot r v ≡ 0 = spot_off r v (no_loop up v p r e) in
    omega (arith, h, g, spots n inside (inside v p e) r, ap {B = ℕ} (λ b. cond b 1 (spot r v)) (eqb_same v))

pub steps_less : {up : ℕ → Option ℕ} {v : ℕ} (n : ℕ) → ((u p : ℕ) → up u ≡ Some p → p < n) → v < n → (r : Rooted up v) → steps r < n
steps_less n inside k r = omega (arith, spots n inside k r, total_most n (spot r) (spot_le r))

-- ---- by computation

abbrev climb_from : Option ℕ → (ℕ → ℕ) → ℕ
climb_from (Some p) f = suc (f p)
climb_from None f = 0

-- the steps from v to its root, counted to k at most: what falls as a loop climbs
abbrev pub climbs : (ℕ → Option ℕ) → ℕ → ℕ → ℕ
climbs up zero v = 0
climbs up (suc k) v = climb_from (up v) (climbs up k)

pub climbs_are : {up : ℕ → Option ℕ} {v : ℕ} (k : ℕ) (r : Rooted up v) → steps r ≤ k → climbs up k v ≡ steps r
unfolding steps
climbs_are {up} {v} zero (top e) h = refl
climbs_are {up} {v} (suc k) (top e) h = ap (λ o. climb_from o (climbs up k)) e
climbs_are {up} {v} zero (under e r) h = absurd (omega arith)
climbs_are {up} {v} (suc k) (under e r) h = ap (λ o. climb_from o (climbs up k)) e ∙ ap suc (climbs_are k r (omega arith))

pub climbs_falls : (up : ℕ → Option ℕ) (n v p : ℕ) → ((u q : ℕ) → up u ≡ Some q → q < n) → ((u : ℕ) → Rooted up u) → v < n → up v ≡ Some p → climbs up n p < climbs up n v
unfolding steps
climbs_falls up n v p inside forest k e =
    let r = forest p in
    let a : steps (under {v = v} e r) < n = steps_less n inside k (under e r) in
    let b : climbs up n v ≡ steps (under {v = v} e r) = climbs_are n (under e r) (omega arith) in
    let c : climbs up n p ≡ steps r = climbs_are n r (omega arith) in
    omega arith

abbrev within_from : Bool → Option ℕ → (ℕ → Bool) → Bool
within_from true o f = true
within_from false (Some p) f = f p
within_from false None f = false

-- whether t is on the way of v, at most k steps up
abbrev pub within : (ℕ → Option ℕ) → ℕ → ℕ → ℕ → Bool
within up zero t v = eqb v t
within up (suc k) t v = within_from (eqb v t) (up v) (within up k t)

pub within_on : (up : ℕ → Option ℕ) (k t v : ℕ) → T (within up k t v) → On up t v
within_on up zero t v h = on_at up t v (eqb→eq v t h)
within_on up (suc k) t v h = go (eqb v t) refl (up v) refl h (λ p q. within_on up k t p q)
  where
    go : (b : Bool) → eqb v t ≡ b → (o : Option ℕ) → up v ≡ o → T (within_from b o (within up k t)) → ((p : ℕ) → T (within up k t p) → On up t p) → On up t v
    go true e o f g r = on_at up t v (eqb→eq v t (subst T (sym e) tt))
    go false e (Some p) f g r = above f (r p g)
    go false e None f g r = absurd g

within_same : (up : ℕ → Option ℕ) (k t v : ℕ) → v ≡ t → T (within up k t v)
within_same up k t v q = grind (arith, ints)

within_step : (up : ℕ → Option ℕ) (k t v p : ℕ) → v ≢ t → up v ≡ Some p → T (within up k t p) → T (within up (suc k) t v)
within_step up k t v p d e h = grind (arith, ints)

pub on_within : {up : ℕ → Option ℕ} {v : ℕ} (k t : ℕ) (r : Rooted up v) → steps r ≤ k → On up t v → T (within up k t v)
unfolding steps
on_within {up} {v} k t (top e) h o = within_same up k t v (on_root up t v e o)
on_within {up} {v} k t (under {p = p} e r) h o = go k h (ℕ_discrete v t) (λ j g d. on_within j t r g (on_parent up t v p d e o))
  where
    go : (k : ℕ) → suc (steps r) ≤ k → Dec (v ≡ t) → ((j : ℕ) → steps r ≤ j → v ≢ t → T (within up j t p)) → T (within up k t v)
    go k h t f = grind (arith, ints)

-- ---- steps and their flips

pub start_flip : (roads : List Road) (s : Step) → start roads (flip s) ≡ finish roads s
start_flip roads s = grind (arith, ints)

pub finish_flip : (roads : List Road) (s : Step) → finish roads (flip s) ≡ start roads s
finish_flip roads s = grind (arith, ints)

pub slack_flip : (roads : List Road) (w price : ℕ → ℤ) (s : Step) → slack roads w price (flip s) ≡ neg_ℤ (slack roads w price s)
slack_flip roads w price s = go s.from
  where
    go : (f : End) → slack roads w price (record { arc = s.arc; from = other_end f }) ≡ neg_ℤ (slack roads w price (record { arc = s.arc; from = f }))
    go Tail = omega (arith, ints)
    go Head = omega (arith, ints)

pub flip_flip : (s : Step) → flip (flip s) ≡ s
flip_flip s = grind (arith, ints)

pub same_or_flip : (k l : Step) → k.arc ≡ l.arc → (k ≡ l) ⊎ (k ≡ flip l)
same_or_flip k l e = grind (arith, ints)

-- ---- links

-- a link's end is the parent
pub up_by : (roads : List Road) (links : ℕ → Option Step) (v : ℕ) (s : Step) → links v ≡ Some s → ups roads links v ≡ Some (finish roads s)
up_by roads links v s e = ap (parent roads) e

pub up_is : (roads : List Road) (links : ℕ → Option Step) (v : ℕ) (s : Step) (p : ℕ) → links v ≡ Some s → p ≡ finish roads s → ups roads links v ≡ Some p
up_is roads links v s p e q = up_by roads links v s e ∙ ap Some (sym q)

pub root_is : (roads : List Road) (links : ℕ → Option Step) (v : ℕ) → links v ≡ None → ups roads links v ≡ None
root_is roads links v e = ap (parent roads) e

-- a parent comes by a link, and a root has none
pub by_link : (roads : List Road) (links : ℕ → Option Step) (v p : ℕ) → ups roads links v ≡ Some p → (s : Step) × (links v ≡ Some s) × (finish roads s ≡ p)
by_link roads links v p e = grind (arith, ints)

pub by_none : (roads : List Road) (links : ℕ → Option Step) (v : ℕ) → ups roads links v ≡ None → links v ≡ None
by_none roads links v e = grind (arith, ints)

-- below another node a node has a link
pub link_above : (roads : List Road) (links : ℕ → Option Step) (t v : ℕ) → On (ups roads links) t v → v ≢ t → is_some (links v) ≡ true
link_above roads links t v o d = grind (arith, ints)

pub finish_in : (nodes : ℕ) (roads : List Road) → EndsIn nodes roads → (s : Step) → s.arc < length roads → finish roads s < nodes
finish_in nodes roads E s h = grind (arith, ints)

pub start_in : (nodes : ℕ) (roads : List Road) → EndsIn nodes roads → (s : Step) → s.arc < length roads → start roads s < nodes
start_in nodes roads E s h = grind (arith, ints)

-- parents are nodes
pub parents_in : (nodes : ℕ) (roads : List Road) (links : ℕ → Option Step) → EndsIn nodes roads → Linked roads links → (v p : ℕ) → ups roads links v ≡ Some p → p < nodes
parents_in nodes roads links E L v p e = grind (arith, ints)

pub parent_in : (nodes : ℕ) (roads : List Road) (links : ℕ → Option Step) → EndsIn nodes roads → Linked roads links → (v : ℕ) (s : Step) (p : ℕ) → links v ≡ Some s → p ≡ finish roads s → p < nodes
parent_in nodes roads links E L v s p e q = grind (arith, ints)

-- a step up by a link
pub climb_falls : (nodes : ℕ) (roads : List Road) (links : ℕ → Option Step) → EndsIn nodes roads → Linked roads links → (v : ℕ) (s : Step) (p : ℕ) → v < nodes → links v ≡ Some s → p ≡ finish roads s
    → climbs (ups roads links) nodes p < climbs (ups roads links) nodes v
climb_falls nodes roads links E L v s p h e q = climbs_falls (ups roads links) nodes v p (parents_in nodes roads links E L) L.rooted h (up_is roads links v s p e q)

-- a way has fewer steps than there are nodes
pub linked_less : (nodes : ℕ) (roads : List Road) (links : ℕ → Option Step) → EndsIn nodes roads → (L : Linked roads links) → (v : ℕ) → v < nodes → steps (L.rooted v) < nodes
linked_less nodes roads links E L v h = steps_less nodes (parents_in nodes roads links E L) h (L.rooted v)

-- two nodes are not linked by one arc
pub arcs_apart : (roads : List Road) (links : ℕ → Option Step) → Linked roads links → (u v : ℕ) (k l : Step) → links u ≡ Some k → links v ≡ Some l → u ≢ v → k.arc ≢ l.arc
arcs_apart roads links L u v k l e f d q = go (same_or_flip k l q)
  where
    up_at : (x : ℕ) (m : Step) → links x ≡ Some m → (y : ℕ) → finish roads m ≡ y → On (ups roads links) y x
    up_at x m g y h = above (up_by roads links x m g) (on_at (ups roads links) y (finish roads m) h)

    go : (k ≡ l) ⊎ (k ≡ flip l) → ⊥
    go (inl h) = d (sym (L.starts u k e) ∙ ap (start roads) h ∙ L.starts v l f)
    go (inr h) =
        d (on_antisym (ups roads links) u v (L.rooted u) (L.rooted v)
        (up_at v l f u (sym (start_flip roads l) ∙ sym (ap (start roads) h) ∙ L.starts u k e))
        (up_at u k e v (ap (finish roads) h ∙ finish_flip roads l ∙ L.starts v l f)))

-- a step with slack is over no link's arc
pub slack_apart : (roads : List Road) (w price : ℕ → ℤ) (l s : Step) → slack roads w price l ≡ pos 0 → slack roads w price s ≢ pos 0 → s.arc ≢ l.arc
slack_apart roads w price l s e d q = go (same_or_flip s l q)
  where
    go : (s ≡ l) ⊎ (s ≡ flip l) → ⊥
    go (inl h) = d (ap (slack roads w price) h ∙ e)
    go (inr h) = d (ap (slack roads w price) h ∙ slack_flip roads w price l ∙ ap neg_ℤ e)

-- ---- rows of links

-- what hangs below a node is a node
pub below_in : (roads : List Road) (links : List (Option Step)) (t v : ℕ) → t < length links → On (ups roads (link_of links)) t v → v < length links
below_in roads links t v h o = go (dec_le (length links) v)
  where
    go : Dec (length links ≤ v) → v < length links
    go (no d) = omega arith
    go (yes d) = let e : v ≡ t = on_root (ups roads (link_of links)) t v (root_is roads (link_of links) v (get_or_past links v None d)) o in absurd (omega arith)
