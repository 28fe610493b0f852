-- What a line comes to, computed: so that it has one fault at most, and none where it may be read.
use Rattle.std.proofs.Common.{◌≡◌, ℕ, ◌+◌, ◌-◌, ◌<◌, ◌≤◌, Bool, true, false, cond, not, ◌&&◌, eqb, ltb, leb, List, [], ◌∷◌, ◌++◌, length, get_or, drop, ℤ, pos, nat_abs, ◌≤ℤ◌, Ok, Err, Result, sym, refl, ap, ◌∙◌, ⊎_elim, one-add, arith}
use Rattle.std.specs.List.{common_prefix_len, AllByRecursion}
use Rattle.std.proofs.lemmas.Int.{ints}
use Rattle.std.proofs.lemmas.Bool.{eq-eqb, ne_eqb, eqb-true, cond-true, cond-false, cases_Bool, cases_eq, cases_lt, and_left, and_right, and_from, lt-ltb, le-leb, lt-leb}
use Rattle.network.specs.Limits.{max_nodes, max_most}
use Rattle.network.specs.Roads.{Ranged, Passable}
use Rattle.network.specs.declared.refusal.Refusal.{Refusal}
use Rattle.network.specs.declared.refusal.Refusal.TheVariants.{Form, Impassable, NamedTwice}
use Rattle.network.specs.declared.road.Road.{Road}
use Rattle.network.proofs.Refusals.{says_at_one}
use Rattle.forms.specs.Form.{net_items, stock_items, arc_items, stock_numbers, road_numbers}
use Rattle.forms.specs.Scan.{scan, naturals}
use Rattle.lines.specs.Word.{spelt, agree, furthest}
use Rattle.forms.specs.Written.{Within}
use Rattle.lines.specs.declared.word.Word.{Word}
use Rattle.lines.specs.declared.word.Word.TheVariants.{Net, Stock, Arc}
use Rattle.forms.proofs.Accepts.{complete}
use Rattle.forms.proofs.Plain.{net_plain, stock_plain, arc_plain}
use Rattle.text.specs.Consignment.{net_form, stock_form, arc_form, Sized, Stocked, named}
use Rattle.text.specs.Refused.{open_words, FirstFault, LineFault, no_word, bad_net, bad_stock, named_twice, bad_arc, impassable}
use Rattle.text.proofs.Lines.{BeginsNot}

-- whether a form begins with a word
abbrev begins : Word → List ℕ → Bool
begins w form = eqb (agree w form) (length (spelt w))

agreed : (w form : List ℕ) → common_prefix_len eqb w form ≡ length w → form ≡ w ++ drop (length w) form
agreed [] form h = refl
agreed (b ∷ w) [] h = absurd (omega arith)
agreed (b ∷ w) (x ∷ form) h =
    elim (eqb b x) as (λ t. eqb b x ≡ t → cond t (1 + common_prefix_len eqb w form) 0 ≡ length (b ∷ w) → x ∷ form ≡ b ∷ (w ++ drop (length w) form)) [
      | true ↦ λ t q. ap (λ k. k ∷ form) (sym (eqb-true b x t)) ∙ ap (λ l. b ∷ l) (agreed w form (omega (arith, one-add (common_prefix_len eqb w form))))
      | false ↦ λ t q. absurd (omega arith)
    ] refl h

begins_no : (w : Word) (form : List ℕ) → BeginsNot w form → begins w form ≡ false
begins_no w form h = ⊎_elim (λ t. absurd (h _ (agreed (spelt w) form (eqb-true (agree w form) (length (spelt w)) t)))) (λ f. f) (cases_Bool (begins w form))

-- the first line
abbrev pub first : List ℕ → Result (List ℤ) Refusal
first form = cond (begins Net form) (scan net_items (drop (length (spelt Net)) form) (length (spelt Net))) (Err (Form (0 + furthest (Net ∷ []) form)))

from_sized : (n m : ℕ) → Sized n m → Within net_items (naturals (n, m))
from_sized n m s = (low 1 n s.some, low n max_nodes s.nodes, (low 0 m (omega arith), low m _ s.arcs, tt))
  where
    low : (a b : ℕ) → a ≤ b → pos a ≤ℤ pos b
    low a b h = grind (arith, ints)

pub first_good : (n m : ℕ) → Sized n m → first (net_form n m) ≡ Ok (naturals (n, m))
first_good n m s = complete net_items (length (spelt Net)) (naturals (n, m)) net_plain (from_sized n m s)

pub first_bad : (form : List ℕ) (e : Refusal) → FirstFault form e → first form ≡ Err e
first_bad form e (no_word h) =
    cond-false (begins Net form) _ _ (begins_no Net form h.none.0) ∙ ap Err (says_at_one _ e 10 _ (refl, refl) h.says)
first_bad form e (bad_net rest is h) = ap first is ∙ h.scanned

-- a later line, after the entries and so many arcs
abbrev stock_way : List (ℕ × ℤ) → ℕ → Result (List ℤ) Refusal → Result (List ℤ) Refusal
stock_way es place (Ok vs) = cond (named es (nat_abs (get_or vs 0 (pos 0)))) (Err (NamedTwice place)) (Ok vs)
stock_way es place (Err e) = Err e

abbrev nth : List ℤ → ℕ → ℕ
nth vs i = nat_abs (get_or vs i (pos 0))

abbrev fit : List ℤ → Bool
fit vs = not (eqb (nth vs 0) (nth vs 1)) && leb (nth vs 2) (nth vs 3)

abbrev arc_way : ℕ → Result (List ℤ) Refusal → Result (List ℤ) Refusal
arc_way place (Ok vs) = cond (fit vs) (Ok vs) (Err (Impassable place))
arc_way place (Err e) = Err e

abbrev pub judge : ℕ → ℕ → List (ℕ × ℤ) → ℕ → List ℕ → ℕ → Result (List ℤ) Refusal
judge n m es a form place =
    cond (eqb a 0 && begins Stock form) (stock_way es place (scan (stock_items n) (drop (length (spelt Stock)) form) (place + length (spelt Stock))))
    (cond (ltb a m && begins Arc form) (arc_way place (scan (arc_items n) (drop (length (spelt Arc)) form) (place + length (spelt Arc))))
    (Err (Form (place + furthest (open_words m a) form))))

judge_stock : (n m : ℕ) (es : List (ℕ × ℤ)) (a : ℕ) (rest : List ℕ) (place : ℕ) → a ≡ 0
    → judge n m es a (spelt Stock ++ rest) place ≡ stock_way es place (scan (stock_items n) rest (place + length (spelt Stock)))
judge_stock n m es a rest place z = cond-true (eqb a 0 && true) _ _ (and_from (eqb a 0) true (eq-eqb a 0 z) refl)

judge_arc : (n m : ℕ) (es : List (ℕ × ℤ)) (a : ℕ) (rest : List ℕ) (place : ℕ) → a < m
    → judge n m es a (spelt Arc ++ rest) place ≡ arc_way place (scan (arc_items n) rest (place + length (spelt Arc)))
judge_arc n m es a rest place l = cond-false (eqb a 0 && false) _ _ (and_right (eqb a 0) false refl) ∙ cond-true (ltb a m && true) _ _ (and_from (ltb a m) true (lt-ltb a m l) refl)

closed : (form : List ℕ) (s t : Bool) → AllByRecursion (λ w. BeginsNot w form) (cond s (Stock ∷ []) [] ++ cond t (Arc ∷ []) [])
    → ((s && begins Stock form) ≡ false) × ((t && begins Arc form) ≡ false)
closed form true true h = (begins_no Stock form h.0, begins_no Arc form h.1.0)
closed form true false h = (begins_no Stock form h.0, refl)
closed form false true h = (refl, begins_no Arc form h.0)
closed form false false h = (refl, refl)

-- numbers that are read
le_pos : (a b : ℕ) → a ≤ b → pos a ≤ℤ pos b
le_pos a b h = grind (arith, ints)

from_stocked : (n : ℕ) (s : ℕ × ℤ) → Stocked n s → Within (stock_items n) (stock_numbers s)
from_stocked n s h = let l = h.node in (le_pos 0 s.0 (omega arith), le_pos s.0 (n - 1) (omega arith), (h.amount.0, h.amount.1, tt))

from_ranged : (n : ℕ) (r : Road) → Ranged n r → Within (arc_items n) (road_numbers r)
from_ranged n r h =
    let t = h.tail in
    let u = h.head in (
      le_pos 0 r.tail (omega arith),
      le_pos r.tail (n - 1) (omega arith),
      (
        le_pos 0 r.head (omega arith),
        le_pos r.head (n - 1) (omega arith),
        (
          le_pos 0 r.least (omega arith),
          le_pos r.least max_most h.least,
          (
            le_pos 0 r.most (omega arith),
            le_pos r.most max_most h.most,
            (h.first.0, h.first.1, (h.second.0, h.second.1, tt)),
          ),
        ),
      ),
    )

pub stock_read : (n : ℕ) (s : ℕ × ℤ) (p : ℕ) → n ≤ max_nodes → Stocked n s → scan (stock_items n) (drop (length (spelt Stock)) (stock_form s)) p ≡ Ok (stock_numbers s)
stock_read n s p few h = complete (stock_items n) p (stock_numbers s) (stock_plain n few) (from_stocked n s h)

pub arc_read : (n : ℕ) (r : Road) (p : ℕ) → n ≤ max_nodes → Ranged n r → scan (arc_items n) (drop (length (spelt Arc)) (arc_form r)) p ≡ Ok (road_numbers r)
arc_read n r p few h = complete (arc_items n) p (road_numbers r) (arc_plain n few) (from_ranged n r h)

fits : (r : Road) → Passable r → fit (road_numbers r) ≡ true
fits r h = and_from (not (eqb r.tail r.head)) (leb r.least r.most) (ap not (ne_eqb r.tail r.head h.apart)) (le-leb r.least r.most h.room)

fits_not : (r : Road) → (Passable r → ⊥) → fit (road_numbers r) ≡ false
fits_not r h =
    ⊎_elim
    (λ e. and_left (not (eqb r.tail r.head)) (leb r.least r.most) (ap not (eq-eqb r.tail r.head e)))
    (λ ne. ⊎_elim
    (λ l. and_right (not (eqb r.tail r.head)) (leb r.least r.most) (lt-leb r.least r.most l))
    (λ l. absurd (h (record { apart = ne; room = l })))
    (cases_lt r.most r.least))
    (cases_eq r.tail r.head)

pub judge_bad : (n m : ℕ) (es : List (ℕ × ℤ)) (rs : List Road) (form : List ℕ) (place : ℕ) (e : Refusal) → n ≤ max_nodes → LineFault n m es rs form place e
    → judge n m es (length rs) form place ≡ Err e
judge_bad n m es rs form place e few (no_word h) =
    let c = closed form (eqb (length rs) 0) (ltb (length rs) m) h.none in
    cond-false (eqb (length rs) 0 && begins Stock form) _ _ c.0 ∙ cond-false (ltb (length rs) m && begins Arc form) _ _ c.1
    ∙ ap Err (says_at_one _ e 10 _ (refl, refl) h.says)
judge_bad n m es rs form place e few (bad_stock z rest is h) =
    ap (λ f. judge n m es (length rs) f place) is ∙ judge_stock n m es (length rs) rest place z ∙ ap (stock_way es place) h.scanned
judge_bad n m es rs form place e few (named_twice z s is h seen says) =
    ap (λ f. judge n m es (length rs) f place) is ∙ judge_stock n m es (length rs) (drop (length (spelt Stock)) (stock_form s)) place z ∙ ap (stock_way es place) (stock_read n s (place + length (spelt Stock)) few h)
    ∙ cond-true (named es s.0) _ _ seen ∙ ap Err (says_at_one _ e 13 _ (refl, refl) says)
judge_bad n m es rs form place e few (bad_arc l rest is h) =
    ap (λ f. judge n m es (length rs) f place) is ∙ judge_arc n m es (length rs) rest place l ∙ ap (arc_way place) h.scanned
judge_bad n m es rs form place e few (impassable l r is h unfit says) =
    ap (λ f. judge n m es (length rs) f place) is ∙ judge_arc n m es (length rs) (drop (length (spelt Arc)) (arc_form r)) place l ∙ ap (arc_way place) (arc_read n r (place + length (spelt Arc)) few h)
    ∙ cond-false (fit (road_numbers r)) _ _ (fits_not r unfit) ∙ ap Err (says_at_one _ e 12 _ (refl, refl) says)

pub judge_stock_good : (n m : ℕ) (es : List (ℕ × ℤ)) (a : ℕ) (s : ℕ × ℤ) (place : ℕ) → n ≤ max_nodes → a ≡ 0 → Stocked n s → named es s.0 ≡ false
    → judge n m es a (stock_form s) place ≡ Ok (stock_numbers s)
judge_stock_good n m es a s place few z h free =
    judge_stock n m es a (drop (length (spelt Stock)) (stock_form s)) place z ∙ ap (stock_way es place) (stock_read n s (place + length (spelt Stock)) few h) ∙ cond-false (named es s.0) _ _ free

pub judge_arc_good : (n m : ℕ) (es : List (ℕ × ℤ)) (a : ℕ) (r : Road) (place : ℕ) → n ≤ max_nodes → a < m → Ranged n r → Passable r
    → judge n m es a (arc_form r) place ≡ Ok (road_numbers r)
judge_arc_good n m es a r place few l h fit_r =
    judge_arc n m es a (drop (length (spelt Arc)) (arc_form r)) place l ∙ ap (arc_way place) (arc_read n r (place + length (spelt Arc)) few h) ∙ cond-true (fit (road_numbers r)) _ _ (fits r fit_r)
