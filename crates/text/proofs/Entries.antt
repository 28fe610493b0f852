-- One entry more: whom entries name, and what stocks they give.
use Rattle.std.proofs.Common.{◌≡◌, ℕ, ◌<◌, Bool, true, false, cond, ◌||◌, eqb, List, [], ◌∷◌, ◌++◌, length, get_or, set, ℤ, pos, Option, Some, None, is_some, sym, refl, ap, ◌∙◌, ⊎_elim, arith}
use Rattle.std.specs.List.{AllByRecursion}
use Rattle.std.proofs.Math.Bool.{or-true, or-false}
use Rattle.std.proofs.lemmas.List.Recursion.{or_push}
use Rattle.std.proofs.lemmas.List.{get_or-set_same, get_or-set_other}
use Rattle.std.proofs.lemmas.Int.{ints}
use Rattle.std.proofs.lemmas.Bool.{eq-eqb, ne_eqb, cond-true, cond-false, cases_eq, or_parts, or_from, true≢false}
use Rattle.network.specs.Limits.{max_stock}
use Rattle.network.specs.Roads.{Near}
use Rattle.text.specs.Drafts.{stock_said}
use Rattle.text.specs.Consignment.{named, stock_of, Once, Stocked}

pub named_more : (es : List (ℕ × ℤ)) (s : ℕ × ℤ) (i : ℕ) → named (es ++ (s ∷ [])) i ≡ (named es i || eqb s.0 i)
named_more es s i = or_push (λ l. named l i) (λ e. eqb e.0 i) refl (λ e l. refl) es s

pub apart : (a b : ℕ) → eqb a b ≡ false → eqb b a ≡ false
apart a b h = ne_eqb b a (λ e. true≢false (sym (eq-eqb a b (sym e)) ∙ h))

pub once_more : (es : List (ℕ × ℤ)) (s : ℕ × ℤ) → named es s.0 ≡ false → Once es → Once (es ++ (s ∷ []))
once_more [] s free once = (refl, tt)
once_more (e ∷ es) s free once =
    let p = or_parts (eqb e.0 s.0) (named es s.0) free in
    (named_more es s e.0 ∙ or_from (named es e.0) (eqb s.0 e.0) once.0 (apart e.0 s.0 p.0), once_more es s p.1 once.1)

pub stock_same : (es : List (ℕ × ℤ)) (s : ℕ × ℤ) → named es s.0 ≡ false → stock_of (es ++ (s ∷ [])) s.0 ≡ s.1
stock_same [] s free = cond-true (eqb s.0 s.0) _ _ (eq-eqb s.0 s.0 refl)
stock_same (e ∷ es) s free =
    let p = or_parts (eqb e.0 s.0) (named es s.0) free in
    cond-false (eqb e.0 s.0) _ _ p.0 ∙ stock_same es s p.1

pub stock_other : (es : List (ℕ × ℤ)) (s : ℕ × ℤ) (i : ℕ) → (i ≡ s.0 → ⊥) → stock_of (es ++ (s ∷ [])) i ≡ stock_of es i
stock_other [] s i ne = cond-false (eqb s.0 i) _ _ (ne_eqb s.0 i (λ e. ne (sym e)))
stock_other (e ∷ es) s i ne = ap (λ z. cond (eqb e.0 i) e.1 z) (stock_other es s i ne)

-- rows that hold the entries hold one more
pub stocks_more : (row : List (Option ℤ)) (es : List (ℕ × ℤ)) (s : ℕ × ℤ) (n : ℕ) → length row ≡ n → named es s.0 ≡ false → s.0 < n
    → ((i : ℕ) → i < n → stock_said (get_or row i None) ≡ stock_of es i) → (i : ℕ) → i < n → stock_said (get_or (set row s.0 (Some s.1)) i None) ≡ stock_of (es ++ (s ∷ [])) i
stocks_more row es s n len free inside h i l =
    ⊎_elim
    (λ e. ap (λ k. stock_said (get_or (set row s.0 (Some s.1)) k None)) e ∙ ap stock_said (get_or-set_same row s.0 (Some s.1) None (omega arith)) ∙ sym (stock_same es s free) ∙ ap (stock_of (es ++ (s ∷ []))) (sym e))
    (λ ne. ap stock_said (get_or-set_other row s.0 i (Some s.1) None ne) ∙ h i l ∙ sym (stock_other es s i ne))
    (cases_eq i s.0)

pub marks_more : (row : List (Option ℤ)) (es : List (ℕ × ℤ)) (s : ℕ × ℤ) (n : ℕ) → length row ≡ n → s.0 < n
    → ((i : ℕ) → i < n → is_some (get_or row i None) ≡ named es i) → (i : ℕ) → i < n → is_some (get_or (set row s.0 (Some s.1)) i None) ≡ named (es ++ (s ∷ [])) i
marks_more row es s n len inside h i l =
    ⊎_elim
    (λ e. ap (λ k. is_some (get_or (set row s.0 (Some s.1)) k None)) e ∙ ap is_some (get_or-set_same row s.0 (Some s.1) None (omega arith))
    ∙ sym (named_more es s i ∙ ap (λ b. named es i || b) (eq-eqb s.0 i (sym e)) ∙ or-true (named es i)))
    (λ ne. ap is_some (get_or-set_other row s.0 i (Some s.1) None ne) ∙ h i l
    ∙ sym (named_more es s i ∙ ap (λ b. named es i || b) (ne_eqb s.0 i (λ e. ne (sym e))) ∙ or-false (named es i)))
    (cases_eq i s.0)

-- each stock is within its limit
near_zero : Near max_stock (pos 0)
near_zero = (grind (arith, ints), grind (arith, ints))

near_cond : (b : Bool) (x y : ℤ) → Near max_stock x → Near max_stock y → Near max_stock (cond b x y)
near_cond true x y h k = h
near_cond false x y h k = k

pub stock_near : (n : ℕ) (es : List (ℕ × ℤ)) (i : ℕ) → AllByRecursion (Stocked n) es → Near max_stock (stock_of es i)
stock_near n [] i h = near_zero
stock_near n (e ∷ es) i h = near_cond (eqb e.0 i) e.1 (stock_of es i) h.0.amount (stock_near n es i h.1)
