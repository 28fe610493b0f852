-- Multiples and sums of worths, for every kind that is an ordered group.
use Rattle.std.proofs.Common.{◌≡◌, ℕ, zero, suc, ◌+◌, ◌-◌, ◌<◌, ◌≤◌, Bool, true, false, cond, not, T, eqb, sym, refl, ap, ◌∙◌, subst, ap₂, ⊎_elim, suc-add, zero-add, arith, eqb→eq, T_not}
use Rattle.std.proofs.lemmas.Int.{ints}
use Rattle.numbers.specs.Totals.{total}
use Rattle.worths.specs.Kinds.{Kind, Ordered, Above, Below, times, sum}

module _ {K : Kind} (O : Ordered K) where
  -- ---- the group

  pub nil_plus : (u : K.Worth) → K.plus K.nil u ≡ u
  nil_plus u = O.comm K.nil u ∙ O.unit u

  plus_swap : (u v w : K.Worth) → K.plus u (K.plus v w) ≡ K.plus v (K.plus u w)
  plus_swap u v w = sym (O.assoc u v w) ∙ ap (λ x. K.plus x w) (O.comm u v) ∙ O.assoc v u w

  plus_middle : (t u v w : K.Worth) → K.plus (K.plus t u) (K.plus v w) ≡ K.plus (K.plus t v) (K.plus u w)
  plus_middle t u v w = simp (O.assoc, plus_swap)

  pub plus_undo : (u v : K.Worth) → K.plus (K.plus u v) (K.minus v) ≡ u
  plus_undo u v = O.assoc u v (K.minus v) ∙ ap (K.plus u) (O.inverse v) ∙ O.unit u

  pub cancel : (u v w : K.Worth) → K.plus u w ≡ K.plus v w → u ≡ v
  cancel u v w h = sym (plus_undo u w) ∙ ap (λ x. K.plus x (K.minus w)) h ∙ plus_undo v w

  -- ---- the order

  pub at_most_refl : (u : K.Worth) → T (K.at_most u u)
  at_most_refl u = ⊎_elim (λ t. t) (λ t. t) (O.total u u)

  pub at_most_other : (u v : K.Worth) → T (not (K.at_most u v)) → T (K.at_most v u)
  at_most_other u v h = ⊎_elim (λ t. absurd (T_not (K.at_most u v) h t)) (λ t. t) (O.total u v)

  pub at_most_cancel : (u v w : K.Worth) → T (K.at_most (K.plus u w) (K.plus v w)) → T (K.at_most u v)
  at_most_cancel u v w h =
      subst (λ x. T (K.at_most x v)) (plus_undo u w)
      (subst (λ y. T (K.at_most (K.plus (K.plus u w) (K.minus w)) y)) (plus_undo v w) (O.keeps (K.plus u w) (K.plus v w) (K.minus w) h))

  pub at_most_sum : (t u v w : K.Worth) → T (K.at_most t u) → T (K.at_most v w) → T (K.at_most (K.plus t v) (K.plus u w))
  at_most_sum t u v w h k =
      O.trans (K.plus t v) (K.plus u v) (K.plus u w) (O.keeps t u v h)
      (subst (λ x. T (K.at_most x (K.plus u w))) (O.comm v u) (subst (λ y. T (K.at_most (K.plus v u) y)) (O.comm w u) (O.keeps v w u k)))

  -- more of it is at least as much, and less of it at most
  pub at_most_more : (u v : K.Worth) → T (K.at_most K.nil v) → T (K.at_most u (K.plus u v))
  at_most_more u v h = grind (arith, ints)

  pub at_most_less : (u v : K.Worth) → T (K.at_most v K.nil) → T (K.at_most (K.plus u v) u)
  at_most_less u v h = grind (arith, ints)

  -- ---- multiples

  pub times_sum : (m n : ℕ) (u : K.Worth) → times K (m + n) u ≡ K.plus (times K m u) (times K n u)
  times_sum zero n u = rw zero-add (sym (nil_plus (times K n u)))
  times_sum (suc m) n u = rw (suc-add m n) (ap (K.plus u) (times_sum m n u) ∙ sym (O.assoc u (times K m u) (times K n u)))

  pub times_plus : (n : ℕ) (u v : K.Worth) → times K n (K.plus u v) ≡ K.plus (times K n u) (times K n v)
  times_plus zero u v = sym (O.unit K.nil)
  times_plus (suc n) u v = ap (K.plus (K.plus u v)) (times_plus n u v) ∙ plus_middle u v (times K n u) (times K n v)

  pub times_nil : (n : ℕ) → times K n K.nil ≡ K.nil
  times_nil zero = refl
  times_nil (suc n) = nil_plus (times K n K.nil) ∙ times_nil n

  pub times_from : (n : ℕ) (u : K.Worth) → T (K.at_most K.nil u) → T (K.at_most K.nil (times K n u))
  times_from zero u h = at_most_refl K.nil
  times_from (suc n) u h = O.trans K.nil u (K.plus u (times K n u)) h (at_most_more u (times K n u) (times_from n u h))

  pub times_to : (n : ℕ) (u : K.Worth) → T (K.at_most u K.nil) → T (K.at_most (times K n u) K.nil)
  times_to zero u h = at_most_refl K.nil
  times_to (suc n) u h = O.trans (K.plus u (times K n u)) u K.nil (at_most_less u (times K n u) (times_to n u h)) h

  times_split : (m n : ℕ) (u : K.Worth) → m ≤ n → times K n u ≡ K.plus (times K m u) (times K (n - m) u)
  times_split m n u h = let e : n ≡ m + (n - m) = omega arith in ap (λ (j : ℕ). times K j u) e ∙ times_sum m (n - m) u

  pub times_rises : (m n : ℕ) (u : K.Worth) → T (K.at_most K.nil u) → m ≤ n → T (K.at_most (times K m u) (times K n u))
  times_rises m n u h k = subst (λ x. T (K.at_most (times K m u) x)) (sym (times_split m n u k)) (at_most_more (times K m u) (times K (n - m) u) (times_from (n - m) u h))

  pub times_falls : (m n : ℕ) (u : K.Worth) → T (K.at_most u K.nil) → m ≤ n → T (K.at_most (times K n u) (times K m u))
  times_falls m n u h k = subst (λ x. T (K.at_most x (times K m u))) (sym (times_split m n u k)) (at_most_less (times K m u) (times K (n - m) u) (times_to (n - m) u h))

  -- a multiple of something is nothing only at 0
  never_nil_above : (n : ℕ) (u : K.Worth) → Above K u → times K n u ≡ K.nil → n ≡ 0
  never_nil_above zero u h e = refl
  never_nil_above (suc n) u h e =
      absurd (T_not (K.at_most u K.nil) h (subst (λ x. T (K.at_most u x)) e (at_most_more u (times K n u) (times_from n u (at_most_other u K.nil h)))))

  never_nil_below : (n : ℕ) (u : K.Worth) → Below K u → times K n u ≡ K.nil → n ≡ 0
  never_nil_below zero u h e = refl
  never_nil_below (suc n) u h e =
      absurd (T_not (K.at_most K.nil u) h (subst (λ x. T (K.at_most x u)) e (at_most_less u (times K n u) (times_to n u (at_most_other K.nil u h)))))

  gap_nil : (m n : ℕ) (u : K.Worth) → m ≤ n → times K m u ≡ times K n u → times K (n - m) u ≡ K.nil
  gap_nil m n u h e =
      cancel (times K (n - m) u) K.nil (times K m u)
      (O.comm (times K (n - m) u) (times K m u) ∙ sym (times_split m n u h) ∙ sym e ∙ sym (nil_plus (times K m u)))

  pub same_times_above : (m n : ℕ) (u : K.Worth) → Above K u → m ≤ n → times K m u ≡ times K n u → m ≡ n
  same_times_above m n u h k e = let z : n - m ≡ 0 = never_nil_above (n - m) u h (gap_nil m n u k e) in omega arith

  pub same_times_below : (m n : ℕ) (u : K.Worth) → Below K u → m ≤ n → times K m u ≡ times K n u → m ≡ n
  same_times_below m n u h k e = let z : n - m ≡ 0 = never_nil_below (n - m) u h (gap_nil m n u k e) in omega arith

  -- ---- sums

  pub sum_same : (n : ℕ) (f g : ℕ → K.Worth) → ((i : ℕ) → i < n → f i ≡ g i) → sum K n f ≡ sum K n g
  sum_same zero f g h = refl
  sum_same (suc n) f g h = ap₂ K.plus (sum_same n f g (λ i k. h i (omega arith))) (h n (omega arith))

  pub sum_plus : (n : ℕ) (f g : ℕ → K.Worth) → sum K n (λ i. K.plus (f i) (g i)) ≡ K.plus (sum K n f) (sum K n g)
  sum_plus zero f g = sym (O.unit K.nil)
  sum_plus (suc n) f g = ap (λ x. K.plus x (K.plus (f n) (g n))) (sum_plus n f g) ∙ plus_middle (sum K n f) (sum K n g) (f n) (g n)

  pub sum_nil : (n : ℕ) → sum K n (λ i. K.nil) ≡ K.nil
  sum_nil zero = refl
  sum_nil (suc n) = O.unit (sum K n (λ i. K.nil)) ∙ sum_nil n

  pub sum_swap : (n m : ℕ) (f : ℕ → ℕ → K.Worth) → sum K n (λ i. sum K m (λ j. f i j)) ≡ sum K m (λ j. sum K n (λ i. f i j))
  sum_swap zero m f = sym (sum_nil m)
  sum_swap (suc n) m f = ap (λ x. K.plus x (sum K m (f n))) (sum_swap n m f) ∙ sym (sum_plus m (λ j. sum K n (λ i. f i j)) (f n))

  pub sum_at_most : (n : ℕ) (f g : ℕ → K.Worth) → ((i : ℕ) → i < n → T (K.at_most (f i) (g i))) → T (K.at_most (sum K n f) (sum K n g))
  sum_at_most zero f g h = at_most_refl K.nil
  sum_at_most (suc n) f g h = at_most_sum (sum K n f) (sum K n g) (f n) (g n) (sum_at_most n f g (λ i k. h i (omega arith))) (h n (omega arith))

  pub times_total : (n : ℕ) (f : ℕ → ℕ) (u : K.Worth) → times K (total n f) u ≡ sum K n (λ i. times K (f i) u)
  times_total zero f u = refl
  times_total (suc n) f u = times_sum (total n f) (f n) u ∙ ap (λ x. K.plus x (times K (f n) u)) (times_total n f u)

  -- the first term apart
  pub sum_front : (n : ℕ) (f : ℕ → K.Worth) → sum K (suc n) f ≡ K.plus (f 0) (sum K n (λ i. f (suc i)))
  sum_front zero f = O.comm K.nil (f 0)
  sum_front (suc n) f = ap (λ x. K.plus x (f (suc n))) (sum_front n f) ∙ O.assoc (f 0) (sum K n (λ i. f (suc i))) (f (suc n))

  -- equal sums, of which each term is at most the other's: equal terms
  tight : (t u v w : K.Worth) → T (K.at_most t u) → T (K.at_most v w) → K.plus t v ≡ K.plus u w → t ≡ u
  tight t u v w h k e =
      O.antisym t u h (at_most_cancel u t w (subst (λ x. T (K.at_most x (K.plus t w))) e (at_most_sum t t v w (at_most_refl t) k)))

  pub terms_same : (n : ℕ) (f g : ℕ → K.Worth) → ((i : ℕ) → i < n → T (K.at_most (f i) (g i))) → sum K n f ≡ sum K n g → (i : ℕ) → i < n → f i ≡ g i
  terms_same zero f g h e i k = absurd (omega arith)
  terms_same (suc n) f g h e i k = go (eqb i n) refl (λ e' j. terms_same n f g (λ a b. h a (omega arith)) e' i j)
    where
      front : sum K n f ≡ sum K n g
      front = tight (sum K n f) (sum K n g) (f n) (g n) (sum_at_most n f g (λ a b. h a (omega arith))) (h n (omega arith)) e

      last : f n ≡ g n
      last = cancel (f n) (g n) (sum K n f) (O.comm (f n) (sum K n f) ∙ e ∙ ap (λ x. K.plus x (g n)) (sym front) ∙ O.comm (sum K n f) (g n))

      go : (b : Bool) → eqb i n ≡ b → (sum K n f ≡ sum K n g → i < n → f i ≡ g i) → f i ≡ g i
      go true q r = let same : i ≡ n = eqb→eq i n (subst T (sym q) tt) in subst (λ j. f j ≡ g j) (sym same) last
      go false q r = r front (grind arith)

  -- ---- the one term of a sum that is not nothing

  sum_miss : (n t : ℕ) (g : ℕ → K.Worth) → n ≤ t → sum K n (λ v. cond (eqb t v) (g v) K.nil) ≡ K.nil
  sum_miss n t g h = sum_same n (λ v. cond (eqb t v) (g v) K.nil) (λ v. K.nil) (λ v k. rw (off v (omega arith))) ∙ sum_nil n
    where
      off : (v : ℕ) → v < t → eqb t v ≡ false
      off v h = grind arith

  pub sum_pick : (n t : ℕ) (g : ℕ → K.Worth) → t < n → sum K n (λ v. cond (eqb t v) (g v) K.nil) ≡ g t
  sum_pick zero t g h = absurd (omega arith)
  sum_pick (suc n) t g h = go (eqb t n) refl (λ k. sum_pick n t g k)
    where
      go : (b : Bool) → eqb t n ≡ b → (t < n → sum K n (λ v. cond (eqb t v) (g v) K.nil) ≡ g t) → K.plus (sum K n (λ v. cond (eqb t v) (g v) K.nil)) (cond b (g n) K.nil) ≡ g t
      go true e r =
          let same : t ≡ n = eqb→eq t n (subst T (sym e) tt) in
          ap (λ x. K.plus x (g n)) (sum_miss n t g (omega arith)) ∙ nil_plus (g n) ∙ ap g (sym same)
      go false e r = O.unit (sum K n (λ v. cond (eqb t v) (g v) K.nil)) ∙ r (grind arith)

  -- over the nodes, the chests at each node's end of the arcs times its price: over the arcs, the chests times the price at that end
  pub telescope : (m nodes : ℕ) (end x : ℕ → ℕ) (price : ℕ → K.Worth) → ((a : ℕ) → a < m → end a < nodes)
      → sum K nodes (λ v. times K (total m (λ a. cond (eqb (end a) v) (x a) 0)) (price v)) ≡ sum K m (λ a. times K (x a) (price (end a)))
  telescope m nodes end x price h =
      sum_same nodes _ (λ v. sum K m (λ a. times K (cond (eqb (end a) v) (x a) 0) (price v))) (λ v k. times_total m (λ a. cond (eqb (end a) v) (x a) 0) (price v))
      ∙ sum_swap nodes m (λ v a. times K (cond (eqb (end a) v) (x a) 0) (price v))
      ∙ sum_same m _ (λ a. times K (x a) (price (end a))) (λ a k.
      sum_same nodes _ (λ v. cond (eqb (end a) v) (times K (x a) (price v)) K.nil) (λ v j. times_cond (eqb (end a) v) (x a) (price v))
      ∙ sum_pick nodes (end a) (λ v. times K (x a) (price v)) (h a k))
    where
      times_cond : (b : Bool) (k : ℕ) (u : K.Worth) → times K (cond b k 0) u ≡ cond b (times K k u) K.nil
      times_cond b k u = grind (arith, ints)
