-- What a cap leaves, in each of the ways that it can be kept, and when there is no place for it.
use Rattle.std.proofs.Common.{◌≡◌, ℕ, zero, suc, ◌<◌, ◌≤◌, Bool, true, false, cond, not, ◌&&◌, ltb, ◌⊎◌, List, [], ◌∷◌, length, get_or, set, Some, None, Option, count_by, position, option_map, sym, refl, ap, ◌∙◌, inl, inr, arith}
use Rattle.std.specs.List.{slice_get}
use Rattle.std.specs.Option.{option_or}
use Rattle.std.proofs.lemmas.List.{get_or-set_other}
use Rattle.std.proofs.lemmas.List.Quantifiers.{position-Some}
use Rattle.std.proofs.lemmas.List.Sums.{sum_by-cons, count_by-le-length}
use Rattle.std.proofs.lemmas.Bool.{eq-eqb, eqb-true, ne_eqb, lt-ltb, le-ltb, cond-true, cond-false, cases_Bool, cases_order, not-true, and_left, and_right, not_from_true, not_from_false, both_ways}
use Rattle.std.proofs.lemmas.Option.{none-some}
use Rattle.network.specs.Capped.{within, bounded}
use Rattle.network.specs.Roads.{with_most}
use Rattle.network.specs.declared.road.Road.{Road}
use Rattle.network.proofs.Capped.{set_bounded}
use Rattle.caps.specs.Caps.{place_count, names, cap_of, Once, nothing_at, idle, caps_other, place_for, Recapped}
use Rattle.caps.specs.declared.places.CapEntry.{CapEntry}
use Rattle.caps.proofs.Rows.{none_passes, none_names, cap_first, cap_none, cap_other, cap_written, cap_gone}

-- an arc that one place names alone is named by no other
alone : (ps : List (Option CapEntry)) (a p : ℕ) → Once ps → names a (get_or ps p None) ≡ true → (k : ℕ) → (k ≡ p → ⊥) → names a (get_or ps k None) ≡ false
alone ps a p once here k apart =
    elim (cases_Bool (names a (get_or ps k None))) [
      | inr other ↦ other
      | inl named ↦ elim (cases_order k p) [ inl e ↦ absurd (apart e) | inr w ↦ elim w [ inl l ↦ absurd (once a k p l named here) | inr l ↦ absurd (once a p k l here named) ] ]
    ]

-- a place names one arc at most
names_one : (a b : ℕ) (p : Option CapEntry) → names a p ≡ true → (b ≡ a → ⊥) → names b p ≡ false
names_one a b None is apart = refl
names_one a b (Some e) is apart = ne_eqb e.arc b (λ z. apart (sym z ∙ eqb-true e.arc a is))

-- the arc's own place caps no other, nor does an idle one
own_no_other : (roads : List Road) (a : ℕ) (p : Option CapEntry) → names a p ≡ true → caps_other roads a p ≡ false
own_no_other roads a p is = and_right (not (idle roads p)) (not (names a p)) (not_from_true (names a p) is)

idle_no_other : (roads : List Road) (a : ℕ) (p : Option CapEntry) → idle roads p ≡ true → caps_other roads a p ≡ false
idle_no_other roads a p is = and_left (not (idle roads p)) (not (names a p)) (not_from_true (idle roads p) is)

-- a place that does not cap another arc may be written over
others_set : (ps : List (Option CapEntry)) (roads : List Road) (a p : ℕ) (y : Option CapEntry) → caps_other roads a (get_or ps p None) ≡ false
    → (k : ℕ) → k < place_count → caps_other roads a (get_or ps k None) ≡ true → get_or (set ps p y) k None ≡ get_or ps k None
others_set ps roads a p y no_other k l yes_other =
    get_or-set_other ps p k y None (λ z. both_ways (caps_other roads a (get_or ps k None)) (ap (λ i. caps_other roads a (get_or ps i None)) z ∙ no_other) yes_other)

-- an idle entry caps nothing
idle_bounded : (roads : List Road) (j : ℕ) (s : Road) (p : Option CapEntry) → slice_get roads j ≡ Some s → names j p ≡ true → idle roads p ≡ true → bounded (option_map (λ e. e.amount) p) s ≡ s
idle_bounded roads j s None at here is = refl
idle_bounded roads j s (Some e) at here is =
    let no_room : not (within s e.amount) ≡ true = ap (λ o. nothing_at o e.amount) (sym (ap (slice_get roads) (eqb-true e.arc j here) ∙ at)) ∙ is in
    cond-false (within s e.amount) (with_most s e.amount) s (not-true (within s e.amount) no_room)

-- the place that a cap takes is the arc's own, or there is none and it is the first idle one
own_or_idle : (own free : Option ℕ) (p : ℕ) → option_or own free ≡ Some p → (own ≡ Some p) ⊎ ((own ≡ None) × (free ≡ Some p))
own_or_idle None free p is = inr (refl, is)
own_or_idle (Some q) free p is = inl is

no_own : (own free : Option ℕ) → option_or own free ≡ None → (own ≡ None) × (free ≡ None)
no_own None free is = (refl, is)
no_own (Some q) free is = absurd (none-some q (sym is))

-- what holds of the place that a cap takes
pub taken_within : (ps : List (Option CapEntry)) (roads : List Road) (a p : ℕ) → place_for ps roads a ≡ Some p → p < length ps
taken_within ps roads a p takes =
    elim (own_or_idle (position (names a) ps) (position (idle roads) ps) p takes) [
      | inl own ↦ (position-Some (names a) ps p None own).0
      | inr new ↦ (position-Some (idle roads) ps p None new.1).0
    ]

taken_no_other : (ps : List (Option CapEntry)) (roads : List Road) (a p : ℕ) → place_for ps roads a ≡ Some p → caps_other roads a (get_or ps p None) ≡ false
taken_no_other ps roads a p takes =
    elim (own_or_idle (position (names a) ps) (position (idle roads) ps) p takes) [
      | inl own ↦ own_no_other roads a (get_or ps p None) (position-Some (names a) ps p None own).1
      | inr new ↦ idle_no_other roads a (get_or ps p None) (position-Some (idle roads) ps p None new.1).1
    ]

taken_lowest : (ps : List (Option CapEntry)) (roads : List Road) (a p : ℕ) → place_for ps roads a ≡ Some p → (k : ℕ) → k < p → names a (get_or ps k None) ≡ false
taken_lowest ps roads a p takes k l =
    elim (own_or_idle (position (names a) ps) (position (idle roads) ps) p takes) [
      | inl own ↦ (position-Some (names a) ps p None own).2 k l
      | inr new ↦ none_names ps a new.0 k
    ]

-- no other place names the arc
pub taken_alone : (ps : List (Option CapEntry)) (roads : List Road) (a p : ℕ) → Once ps → place_for ps roads a ≡ Some p → (k : ℕ) → names a (get_or ps k None) ≡ true → k ≡ p
taken_alone ps roads a p once takes k is =
    elim (own_or_idle (position (names a) ps) (position (idle roads) ps) p takes) [
      | inr new ↦ absurd (both_ways (names a (get_or ps k None)) (none_names ps a new.0 k) is)
      | inl own ↦
          let here = (position-Some (names a) ps p None own).1 in
          elim (cases_order k p) [ inl e ↦ e | inr w ↦ elim w [ inl l ↦ absurd (once a k p l is here) | inr l ↦ absurd (once a p k l here is) ] ]
    ]

-- the amount is the most: the arc has no entry
pub kept : (ps : List (Option CapEntry)) (roads : List Road) (a : ℕ) (r : Road) → slice_get roads a ≡ Some r → position (names a) ps ≡ None → Recapped ps ps roads a r.most r
kept ps roads a r at none =
    let no_cap = cap_none ps a (none_names ps a none) in
    record {
      meant = set_bounded (cap_of ps) (cap_of ps) roads a r r at (ap (λ o. bounded o r) no_cap) (λ j s e apart. refl);
      own = no_cap ∙ sym (cond-false (ltb r.most r.most) (Some r.most) None (le-ltb r.most r.most (omega arith)));
      others = λ k l e. refl;
      placed = λ low p takes. absurd (omega arith);
      freed = λ _ p own. absurd (none-some p (sym none ∙ own));
      left = λ _ _. refl;
    }

-- the amount is the most: the arc's entry goes
pub cleared : (ps : List (Option CapEntry)) (roads : List Road) (a : ℕ) (r : Road) (p : ℕ) → Once ps → slice_get roads a ≡ Some r → position (names a) ps ≡ Some p → Recapped ps (set ps p None) roads a r.most r
cleared ps roads a r p once at own =
    let there = position-Some (names a) ps p None own in
    let gone : cap_of (set ps p None) a ≡ None = cap_gone ps a p None there.0 (alone ps a p once there.1) refl in
    record {
      meant =
          set_bounded (cap_of ps) (cap_of (set ps p None)) roads a r r at (ap (λ o. bounded o r) gone)
          (λ j s e apart. ap (λ o. bounded o s) (cap_other ps p None j (names_one a j (get_or ps p None) there.1 apart) refl));
      own = gone ∙ sym (cond-false (ltb r.most r.most) (Some r.most) None (le-ltb r.most r.most (omega arith)));
      others = others_set ps roads a p None (own_no_other roads a (get_or ps p None) there.1);
      placed = λ low q takes. absurd (omega arith);
      freed = λ _ q is. let same : q ≡ p = cc in ap (λ i. set ps i None) (sym same);
      left = λ _ none. absurd (none-some p (sym none ∙ own));
    }

-- the cap on another arc means the same, after a new entry in the place that a cap takes
other_bounded : (ps : List (Option CapEntry)) (roads : List Road) (a p : ℕ) (e : CapEntry) (j : ℕ) (s : Road) → Once ps → place_for ps roads a ≡ Some p → e.arc ≡ a → slice_get roads j ≡ Some s → (j ≡ a → ⊥)
    → bounded (cap_of (set ps p (Some e)) j) s ≡ bounded (cap_of ps j) s
other_bounded ps roads a p e j s once takes arc_is at apart =
    let new : names j (Some e) ≡ false = ne_eqb e.arc j (λ z. apart (sym z ∙ arc_is)) in
    let l = taken_within ps roads a p takes in
    elim (cases_Bool (names j (get_or ps p None))) [
      | inr other ↦ ap (λ o. bounded o s) (cap_other ps p (Some e) j other new)
      | inl named ↦
          elim (own_or_idle (position (names a) ps) (position (idle roads) ps) p takes) [
            | inl own ↦ absurd (both_ways (names j (get_or ps p None)) (names_one a j (get_or ps p None) (position-Some (names a) ps p None own).1 apart) named)
            | inr free ↦
                let others = alone ps j p once named in
                ap (λ o. bounded o s) (cap_gone ps j p (Some e) l others new)
                ∙ sym (idle_bounded roads j s (get_or ps p None) at named (position-Some (idle roads) ps p None free.1).1)
                ∙ sym (ap (λ o. bounded o s) (cap_first ps j p l (λ k h. others k (λ z. omega arith)) named))
          ]
    ]

-- a cap below the most
pub lowered : (ps : List (Option CapEntry)) (roads : List Road) (a : ℕ) (r : Road) (u p : ℕ) → Once ps → slice_get roads a ≡ Some r → within r u ≡ true → u < r.most → place_for ps roads a ≡ Some p
    → Recapped ps (set ps p (Some (record { arc = a; amount = u }))) roads a u r
lowered ps roads a r u p once at fit low takes =
    let e : CapEntry = record { arc = a; amount = u } in
    let now_is : cap_of (set ps p (Some e)) a ≡ Some u = cap_written ps a p (Some e) (taken_within ps roads a p takes) (taken_lowest ps roads a p takes) (eq-eqb a a refl) in
    record {
      meant =
          set_bounded (cap_of ps) (cap_of (set ps p (Some e))) roads a r (with_most r u) at (ap (λ o. bounded o r) now_is ∙ cond-true (within r u) (with_most r u) r fit)
          (λ j s is apart. other_bounded ps roads a p e j s once takes refl is apart);
      own = now_is ∙ sym (cond-true (ltb u r.most) (Some u) None (lt-ltb u r.most low));
      others = others_set ps roads a p (Some e) (taken_no_other ps roads a p takes);
      placed = λ _ q is. let same : q ≡ p = cc in ap (λ i. set ps i (Some e)) (sym same);
      freed = λ top q own. absurd (omega arith);
      left = λ top _. absurd (omega arith);
    }

count_all : {X : Type 0} (test : X → Bool) (xs : List X) (d : X) → ((k : ℕ) → k < length xs → test (get_or xs k d) ≡ true) → count_by test xs ≡ length xs
count_all test [] d all = refl
count_all test (x ∷ xs) d all =
    let here = ap (λ b. cond {A = ℕ} b 1 0) (all 0 (omega arith)) in
    omega (arith, sum_by-cons (λ y. cond (test y) 1 0) x xs, count_all test xs d (λ k l. all (suc k) (omega arith)))

count_less : {X : Type 0} (test : X → Bool) (xs : List X) (d : X) (p : ℕ) → p < length xs → test (get_or xs p d) ≡ false → count_by test xs < length xs
count_less test [] d p l out = absurd (omega arith)
count_less test (x ∷ xs) d zero l out =
    let here = ap (λ b. cond {A = ℕ} b 1 0) out in
    omega (arith, sum_by-cons (λ y. cond (test y) 1 0) x xs, count_by-le-length test xs)
count_less test (x ∷ xs) d (suc p) l out =
    let one : cond (test x) 1 0 ≤ 1 = at_most_one (test x) in
    omega (arith, sum_by-cons (λ y. cond (test y) 1 0) x xs, count_less test xs d p (omega arith) out)
  where
    at_most_one : (b : Bool) → cond b 1 0 ≤ 1
    at_most_one true = omega arith
    at_most_one false = omega arith

-- fewer other arcs are capped than there are places
pub room_taken : (ps : List (Option CapEntry)) (roads : List Road) (a p : ℕ) → length ps ≡ place_count → place_for ps roads a ≡ Some p → count_by (caps_other roads a) ps < place_count
room_taken ps roads a p full takes =
    omega (arith, count_less (caps_other roads a) ps None p (taken_within ps roads a p takes) (taken_no_other ps roads a p takes))

-- as many other arcs are capped as there are places
pub room_none : (ps : List (Option CapEntry)) (roads : List Road) (a : ℕ) → length ps ≡ place_count → place_for ps roads a ≡ None → place_count ≤ count_by (caps_other roads a) ps
room_none ps roads a full none =
    let parts = no_own (position (names a) ps) (position (idle roads) ps) none in
    let all : (k : ℕ) → k < length ps → caps_other roads a (get_or ps k None) ≡ true =
    (λ k l.
    ap (λ b. not b && not (names a (get_or ps k None))) (none_passes (idle roads) ps None parts.1 k l)
    ∙ not_from_false (names a (get_or ps k None)) (none_names ps a parts.0 k)) in
    omega (arith, count_all (caps_other roads a) ps None all)
