-- Rows of places: which cap an arc has, and which it has after a write of one place.
use Rattle.std.proofs.Common.{◌≡◌, ℕ, ◌<◌, Bool, true, false, cond, ltb, List, length, get_or, set, replicate, Some, None, Err, Option, Result, find, position, option_map, sym, refl, ap, ◌∙◌, inl, inr, arith}
use Rattle.std.specs.List.{slice_get, position_or_len}
use Rattle.std.specs.Option.{ok_or, option_and_then, option_flatten}
use Rattle.std.specs.Result.{IsErrAnd}
use Rattle.std.proofs.lemmas.Bool.{cases_eq, cases_lt, cond-true, cond-false, lt-ltb, le-ltb, both_ways}
use Rattle.std.proofs.lemmas.List.{get_or_past, get_or-replicate, length-replicate, length-set, get_or-set_same, get_or-set_other}
use Rattle.std.proofs.lemmas.List.Folds.{find_at, find_past}
use Rattle.std.proofs.lemmas.List.Quantifiers.{position-Some}
use Rattle.std.proofs.lemmas.List.Sums.{position_or_len_is, fails_before_first}
use Rattle.std.proofs.lemmas.Option.{slice_get-get_or, slice_get_past, none-some}
use Rattle.std.proofs.lemmas.Result.{err_from_is_err_and}
use Rattle.caps.specs.Caps.{place_count, names, cap_of, IsTable}
use Rattle.caps.specs.declared.places.CapEntry.{CapEntry}

-- what `o.ok_or(d)?` returns where there is no value
pub no_value : {A B E : Type 0} (o : Option A) (d e : E) (r : Result B E) → IsErrAnd r (λ x. x ≡ e) → Err e ≡ ok_or o d → (o ≡ None) × (r ≡ Err d)
no_value None d e r exit h = let p = err_from_is_err_and r exit in (refl, p.1 ∙ ap Err (p.2 ∙ cc))
no_value (Some x) d e r exit h = absurd (cc)

-- nothing passes where there is no position
pub none_passes : {X : Type 0} (test : X → Bool) (xs : List X) (d : X) → position test xs ≡ None → (k : ℕ) → k < length xs → test (get_or xs k d) ≡ false
none_passes test xs d none k l =
    elim (cases_lt (position_or_len test xs) (length xs)) [
      | inl inside ↦ absurd (none-some (position_or_len test xs) (sym none ∙ cond-true (ltb (position_or_len test xs) (length xs)) (Some (position_or_len test xs)) None (lt-ltb (position_or_len test xs) (length xs) inside)))
      | inr past ↦ fails_before_first test xs k d (omega arith)
    ]

-- the first that passes
pub position_at : {X : Type 0} (test : X → Bool) (xs : List X) (d : X) (p : ℕ) → p < length xs → ((k : ℕ) → k < p → test (get_or xs k d) ≡ false) → test (get_or xs p d) ≡ true → position test xs ≡ Some p
position_at test xs d p l before here =
    ap (λ n. cond (ltb n (length xs)) (Some n) None) (position_or_len_is test xs p d (omega arith) before (λ _. here)) ∙ cond-true (ltb p (length xs)) (Some p) None (lt-ltb p (length xs) l)

pub position_none : {X : Type 0} (test : X → Bool) (xs : List X) (d : X) → ((k : ℕ) → k < length xs → test (get_or xs k d) ≡ false) → position test xs ≡ None
position_none test xs d none =
    ap (λ n. cond (ltb n (length xs)) (Some n) None) (position_or_len_is test xs (length xs) d (omega arith) none (λ l. absurd (omega arith)))
    ∙ cond-false (ltb (length xs) (length xs)) (Some (length xs)) None (le-ltb (length xs) (length xs) (omega arith))

-- no place names an arc that has no position
pub none_names : (ps : List (Option CapEntry)) (a : ℕ) → position (names a) ps ≡ None → (k : ℕ) → names a (get_or ps k None) ≡ false
none_names ps a none k =
    elim (cases_lt k (length ps)) [ inl l ↦ none_passes (names a) ps None none k l | inr past ↦ ap (names a) (get_or_past ps k None past) ]

-- the first place that names the arc has its cap
pub cap_first : (ps : List (Option CapEntry)) (a p : ℕ) → p < length ps → ((k : ℕ) → k < p → names a (get_or ps k None) ≡ false) → names a (get_or ps p None) ≡ true
    → cap_of ps a ≡ option_map (λ e. e.amount) (get_or ps p None)
cap_first ps a p l before here =
    let first : position_or_len (names a) ps ≡ p = position_or_len_is (names a) ps p None (omega arith) before (λ _. here) in
    let found : find (names a) ps ≡ Some (get_or ps p None) = find_at (names a) ps ∙ ap (slice_get ps) first ∙ slice_get-get_or ps p None l in
    ap (λ o. option_map (λ e. e.amount) (option_flatten o)) found

pub cap_none : (ps : List (Option CapEntry)) (a : ℕ) → ((k : ℕ) → names a (get_or ps k None) ≡ false) → cap_of ps a ≡ None
cap_none ps a no_one =
    let past : position_or_len (names a) ps ≡ length ps = position_or_len_is (names a) ps (length ps) None (omega arith) (λ k _. no_one k) (λ l. absurd (omega arith)) in
    let found : find (names a) ps ≡ None = find_at (names a) ps ∙ ap (slice_get ps) past ∙ slice_get_past ps (length ps) (omega arith) in
    ap (λ o. option_map (λ e. e.amount) (option_flatten o)) found

-- a write touches no arc but that which it names and that which the place named
pub cap_other : (ps : List (Option CapEntry)) (p : ℕ) (y : Option CapEntry) (b : ℕ) → names b (get_or ps p None) ≡ false → names b y ≡ false → cap_of (set ps p y) b ≡ cap_of ps b
cap_other ps p y b old new = ap (λ o. option_map (λ e. e.amount) (option_flatten o)) (find_past (names b) ps p y None old new)

-- after a write, the arc that it names has this cap, where no lower place names it
pub cap_written : (ps : List (Option CapEntry)) (a p : ℕ) (y : Option CapEntry) → p < length ps → ((k : ℕ) → k < p → names a (get_or ps k None) ≡ false) → names a y ≡ true
    → cap_of (set ps p y) a ≡ option_map (λ e. e.amount) y
cap_written ps a p y l before new =
    let is = get_or-set_same ps p y None l in
    cap_first (set ps p y) a p (omega (arith, length-set ps p y)) (λ k h. ap (names a) (get_or-set_other ps p k y None (λ z. omega arith)) ∙ before k h) (ap (names a) is ∙ new)
    ∙ ap (option_map (λ e. e.amount)) is

-- after a write, no place names an arc that stood there alone
pub cap_gone : (ps : List (Option CapEntry)) (a p : ℕ) (y : Option CapEntry) → p < length ps → ((k : ℕ) → (k ≡ p → ⊥) → names a (get_or ps k None) ≡ false) → names a y ≡ false → cap_of (set ps p y) a ≡ None
cap_gone ps a p y l alone new =
    cap_none (set ps p y) a
    (λ k.
    elim (cases_eq k p) [
      | inl same ↦ ap (λ i. names a (get_or (set ps p y) i None)) same ∙ ap (names a) (get_or-set_same ps p y None l) ∙ new
      | inr apart ↦ ap (names a) (get_or-set_other ps p k y None apart) ∙ alone k apart
    ])

-- a row of free places names no arc
free_names : (n a k : ℕ) → names a (get_or (replicate n None) k None) ≡ false
free_names n a k =
    elim (cases_lt k n) [
      | inl l ↦ ap (names a) (get_or-replicate n k None None l)
      | inr past ↦ ap (names a) (get_or_past (replicate n None) k None (omega (arith, length-replicate {A = Option CapEntry} n None)))
    ]

pub table_free : IsTable (replicate place_count None)
table_free = record {
  full = length-replicate {A = Option CapEntry} place_count None;
  once = λ a i j l here there. both_ways (names a (get_or (replicate place_count None) i None)) (free_names place_count a i) here;
}

-- the cap of an arc, by its position
pub cap_found : (ps : List (Option CapEntry)) (a : ℕ) → cap_of ps a ≡ option_and_then (λ p. option_map (λ e. e.amount) (get_or ps p None)) (position (names a) ps)
cap_found ps a = go (position (names a) ps) refl
  where
    go : (o : Option ℕ) → position (names a) ps ≡ o → cap_of ps a ≡ option_and_then (λ p. option_map (λ e. e.amount) (get_or ps p None)) o
    go None is = cap_none ps a (none_names ps a is)
    go (Some p) is = let there = position-Some (names a) ps p None is in cap_first ps a p there.0 there.2 there.1
